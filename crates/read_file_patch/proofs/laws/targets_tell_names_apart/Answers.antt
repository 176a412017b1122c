use Rattle.std.proofs.Common.{◌≡◌, ◌∷◌, ◌++◌, [], List, ℕ, Option, None, Some, Bool, true, false, cond, sym, ◌∙◌, append_assoc}
use Rattle.std.proofs.lemmas.Bool.{false≢true}
use Rattle.std.proofs.lemmas.List.{append_cancel_left}
use Rattle.outside.specs.Names.{is_absolute}
use Rattle.read_file_patch.specs.Targets.{below}
use Rattle.read_file_patch.proofs.laws.targets_tell_names_apart.Goals as goal

same : (dir : Option (List ℕ)) (one other : List ℕ) → is_absolute one ≡ is_absolute other → below dir one ≡ below dir other → one ≡ other
same None one other alike is = is
same (Some directory) one other alike is = by (is_absolute one) (is_absolute other) alike is
  where
    by : (a b : Bool) → a ≡ b → cond a one (directory ++ 47 ∷ one) ≡ cond b other (directory ++ 47 ∷ other) → one ≡ other
    by true true e h = h
    by true false e h = absurd (false≢true (sym e))
    by false true e h = absurd (false≢true e)
    by false false e h = append_cancel_left (directory ++ 47 ∷ []) one other (append_assoc directory (47 ∷ []) one ∙ h ∙ sym (append_assoc directory (47 ∷ []) other))

pub returns : goal.returns
returns c = λ o one other alike is. same o.dir one other alike is
