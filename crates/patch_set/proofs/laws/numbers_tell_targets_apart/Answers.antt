use Rattle.std.proofs.Common.{◌≡◌, ◌++◌, ◌∷◌, [], List, ℕ, Option, None, Some, true, false, Bool, cond, ap, sym, ◌∙◌, append_assoc}
use Rattle.std.proofs.lemmas.Bool.{false≢true}
use Rattle.std.proofs.lemmas.List.{append_cancel_left}
use Rattle.std.specs.Option.{option_to_list}
use Rattle.outside.specs.Names.{is_absolute}
use Rattle.read_file_patch.specs.Numbered.{number_in}
use Rattle.read_file_patch.specs.Targets.{below}
use Rattle.read_file_patch.proofs.Names.{numbers-apart, all-join}
use Rattle.patch_set.specs.Named.{known_names, patch_names}
use Rattle.patch_set.proofs.laws.numbers_tell_targets_apart.Goals as goal

same-below : (dir : Option (List ℕ)) (one other : List ℕ) → is_absolute one ≡ is_absolute other → below dir one ≡ below dir other → one ≡ other
same-below None one other alike is = is
same-below (Some directory) one other alike is = by (is_absolute one) (is_absolute other) alike is
  where
    by : (a b : Bool) → a ≡ b → cond a one (directory ++ 47 ∷ one) ≡ cond b other (directory ++ 47 ∷ other) → one ≡ other
    by true true e h = h
    by true false e h = absurd (false≢true (sym e))
    by false true e h = absurd (false≢true e)
    by false false e h = append_cancel_left (directory ++ 47 ∷ []) one other (append_assoc directory (47 ∷ []) one ∙ h ∙ sym (append_assoc directory (47 ∷ []) other))

pub returns : goal.returns
returns c = record {
  names = (
      λ o ps one other among same.
      ap (below o.dir) (numbers-apart (known_names o ps) one other (all-join [] (patch_names o ps ++ option_to_list o.output) one among) same));
  numbers = λ o ps one other alike same. ap (number_in (known_names o ps)) (same-below o.dir one other alike same);
}
