-- Targets whose backups got numbers have names as they must be.
use Rattle.std.proofs.Common.{◌≡◌, ◌≢◌, ℕ, ◌+◌, ◌-◌, ◌<◌, ◌^◌, List, [], ◌∷◌, ◌++◌, length, drop, get_or, Bool, true, false, All, Option, None, Some, refl, sym, ◌∙◌, ap, subst, arith, length-append, length-drop}
use Rattle.std.specs.Prelude.{codes}
use Rattle.std.specs.Cmp.Lexicographic.{same_text}
use Rattle.std.specs.Option.{ForSome}
use Rattle.std.proofs.lemmas.List.{get_or-append-add, get_or-drop}
use Rattle.std.proofs.lemmas.List.Elements.{All-nil, All-cons, All-head, All-tail}
use Rattle.std.proofs.lemmas.Option.{same_Some}
use Rattle.num_text.specs.Numbers.{decimal}
use Rattle.outside.specs.Files.{Files, is_temp}
use Rattle.outside.specs.Numbered.{numbered}
use Rattle.outside.proofs.Names.{temp_of_is_temp}
use Rattle.read_file_patch.specs.declared.FilePatch.{FilePatch}
use Rattle.read_file_patch.specs.declared.derived.Target.{Target}
use Rattle.patch_options.specs.declared.options.BackupNumbers.{BackupNumbers}
use Rattle.patch_set.specs.SetView.{SetView}
use Rattle.apply_task.specs.Named.{IsNamed}
use Rattle.patch_run.specs.Finishes.{HasNames}
use Rattle.apply_backup_numbers.specs.Numbering.{with_number}
use Rattle.apply_backup_numbers.specs.Renumbered.{Each, IsNumbered, IsNumberedIf, IsRetargeted}
use Rattle.apply_backup_numbers.proofs.Each.{each-long}
use Rattle.patch_cli.specs.Numbered.{IsMade}
use Rattle.patch_cli.specs.Damaged.{has_damaged}

not-temp : (front : List ℕ) (b : ℕ) → 112 ≢ b → is_temp (front ++ b ∷ []) ≡ false
unfolding is_temp
not-temp front b other = elim (is_temp (front ++ b ∷ [])) as (λ v. is_temp (front ++ b ∷ []) ≡ v → v ≡ false) [
  | true ↦ λ is.
      let text : List ℕ = front ++ b ∷ [] in
      let k = length text - 5 in
      let tail : codes ".ptmp" ≡ drop k text = same_text (codes ".ptmp") (drop k text) (sym is) in
      let long : k + 4 ≡ length front + 0 = omega (arith, length-append front (b ∷ []), length-drop k text, ap (λ (l : List ℕ). length l) tail) in
      let byte : 112 ≡ b = ap (λ (l : List ℕ). get_or l 4 0) tail ∙ get_or-drop k text 4 0 ∙ ap (λ i. get_or text i 0) long ∙ get_or-append-add front (b ∷ []) 0 0 in
      absurd (other byte)
  | false ↦ λ is. refl
] refl

numbered-lasting : (name : List ℕ) (n : ℕ) → is_temp (numbered name n) ≡ false
numbered-lasting name n = not-temp (name ++ codes ".~" ++ decimal n) 126 (λ e. let bad : ◌≡◌ {A = ℕ} 112 126 = e in omega (arith, bad))

named-by : (n : Option ℕ) (t : Target) → IsNamed t → IsNamed (with_number n t)
named-by None t is = is
named-by (Some n) t is = record {
  temps = record { own = is.temps.own; backup = temp_of_is_temp (numbered t.name n); reject = is.temps.reject };
  lasting = record { own = is.lasting.own; backup = numbered-lasting t.name n; reject = is.lasting.reject };
  temp = is.temp;
  backup_temp = refl;
  reject_temp = is.reject_temp;
  shown = is.shown;
  shown_reject = is.shown_reject;
}

module _ (numbers : BackupNumbers) (told : Option Files) where
  named-still : (t u : Target) → IsNumbered numbers told t u → IsNamed t → IsNamed u
  named-still t u is named = subst (λ (x : Target). IsNamed x) (sym is.same) (named-by is.number t named)

  all-named : (ts us : List Target) → Each (IsNumbered numbers told) ts us → All IsNamed ts → All IsNamed us
  all-named [] [] each all = all
  all-named [] (u ∷ us) each all = absurd each
  all-named (t ∷ ts) [] each all = absurd each
  all-named (t ∷ ts) (u ∷ us) each all = All-cons IsNamed u us (named-still t u each.0 (All-head IsNamed t ts all)) (all-named ts us each.1 (All-tail IsNamed t ts all))

  abbrev Named : FilePatch → Type 0
  Named p = All IsNamed p.targets.items

  abbrev Few : FilePatch → Type 0
  Few p = length p.targets.items < 2 ^ 32

  each-named : (ps qs : List FilePatch) → Each (IsRetargeted numbers told) ps qs → All Named ps → All Named qs
  each-named [] [] each all = All-nil Named
  each-named [] (q ∷ qs) each all = absurd each
  each-named (p ∷ ps) [] each all = absurd each
  each-named (p ∷ ps) (q ∷ qs) each all = All-cons Named q qs (all-named p.targets.items q.targets.items each.0.targets (All-head Named p ps all)) (each-named ps qs each.1 (All-tail Named p ps all))

  each-few : (ps qs : List FilePatch) → Each (IsRetargeted numbers told) ps qs → All Few ps → All Few qs
  each-few [] [] each all = All-nil Few
  each-few [] (q ∷ qs) each all = absurd each
  each-few (p ∷ ps) [] each all = absurd each
  each-few (p ∷ ps) (q ∷ qs) each all =
      All-cons Few q qs (omega (arith, All-head Few p ps all, each-long (IsNumbered numbers told) p.targets.items q.targets.items each.0.targets)) (each-few ps qs each.1 (All-tail Few p ps all))

  output-named : (t u : Option Target) → IsNumberedIf numbers told t u → ForSome t IsNamed → ForSome u IsNamed
  output-named None None is named = named
  output-named None (Some u) is named = absurd is
  output-named (Some t) None is named = absurd is
  output-named (Some t) (Some u) is named = λ x same. subst (λ (y : Target). IsNamed y) (same_Some u x same) (named-still t u is (named t refl))

pub names-made : (b : Bool) (numbers : BackupNumbers) (told : Option Files) (before v : SetView) → IsMade b numbers told before v → HasNames before → HasNames v
names-made true numbers told before v is names = record {
  few = each-few numbers told before.patches v.patches is.patches names.few;
  targets = each-named numbers told before.patches v.patches is.patches names.targets;
  output = λ some. output-named numbers told before.output v.output is.output (names.output (omega (arith, some, each-long (IsRetargeted numbers told) before.patches v.patches is.patches)));
}
names-made false numbers told before v is names = subst HasNames (sym is) names

pub long-made : (b : Bool) (numbers : BackupNumbers) (told : Option Files) (before v : SetView) → IsMade b numbers told before v → length before.patches ≡ length v.patches
long-made true numbers told before v is = sym (each-long (IsRetargeted numbers told) before.patches v.patches is.patches)
long-made false numbers told before v is = ap (λ (s : SetView). length s.patches) (sym is)

pub damaged-made : (b : Bool) (numbers : BackupNumbers) (told : Option Files) (before v : SetView) → IsMade b numbers told before v → has_damaged before.ways before.text ≡ has_damaged v.ways v.text
damaged-made true numbers told before v is = sym (ap (λ w. has_damaged w v.text) is.ways ∙ ap (λ (t : List ℕ). has_damaged before.ways t) is.text)
damaged-made false numbers told before v is = ap (λ (s : SetView). has_damaged s.ways s.text) (sym is)
