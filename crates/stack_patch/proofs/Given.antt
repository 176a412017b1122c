-- The names of targets are names that a patch may give, but for what the operator gives of them.
use Rattle.std.proofs.Common.{◌≡◌, inl, inr, ℕ, List, [], ◌∷◌, ◌++◌, map, codes, Bool, true, false, not, ◌&&◌, ◌||◌, nat_eq, bytes_eq, Option, None, Some, refl, sym, ◌∙◌, ap, subst, if◌then◌else◌, arith}
use Rattle.std.specs.Prelude.{option_map, unwrap_or, is_some}
use Rattle.std.specs.List.{AllByRecursion, list_any}
use Rattle.std.specs.Option.{ForSome}
use Rattle.std.proofs.lemmas.Bool.Decides.{nat_tests}
use Rattle.outside.specs.Files.{Files}
use Rattle.outside.specs.Names.{is_slash, is_absolute, is_kept, components, IsPatchName}
use Rattle.outside.proofs.Components.{Each, components_some, components_behind, each_last}
use Rattle.outside.proofs.Lawful.{is_parent, obeys, filter_kept, kept_behind, any_each, each_any, patch_components}
use Rattle.patch_options.specs.PlainJob.{PlainOptions, IsLawful}
use Rattle.read_file_patch.specs.Actions.{is_moved}
use Rattle.read_file_patch.specs.PlainPatch.{PlainHeader, header_of}
use Rattle.read_file_patch.specs.declared.FilePatch.{FilePatch}
use Rattle.read_file_patch.specs.declared.derived.Target.{Target}
use Rattle.read_file_patch.specs.Candidates.{candidates}
use Rattle.read_file_patch.specs.Moved.{moved_names}
use Rattle.read_file_patch.specs.Targets.{backup_end, backup_front, backup_name, is_fronted, reject_name, target_of}
use Rattle.patch_set.specs.Asked.{is_posix}
use Rattle.patch_set.specs.Named.{known_names, names_of, operand_or, output_of, own_names, target_in, targets_of}
use Rattle.patch_set.specs.declared.skipped.BinaryChange.{BinaryChange}
use Rattle.patch_set.specs.SetView.{SetView, IsRead, plain_patches}
use Rattle.patch_run.specs.OnePatch.{Item}
use Rattle.patch_run.specs.Run.{item_of, moved_in, items_of, run_of, set_run}
use Rattle.series_stack.specs.Commands.{changed_by}
use Rattle.stack_patch.specs.Given.{HasEnding, IsBackupName, IsFileName, IsGiven, IsGivenName, IsInside, IsRejectName, with_number}
use Rattle.stack_patch.proofs.Changing.{AreOpen, IsOpen, run_only}
use Rattle.stack_patch.proofs.TargetNames.{candidates_named, each_by, moved_named}

-- ---- with an ending a name leads to nothing above

is_other : (b : ℕ) → nat_eq b 46 ≡ false → nat_eq 46 b ≡ false
is_other b is = grind (arith, nat_tests)

one_other : (b : ℕ) → is_kept (b ∷ []) ≡ true → nat_eq b 46 ≡ false
one_other b = elim (nat_eq b 46) as (λ t. not (false || (t && true)) ≡ true → t ≡ false) [ true ↦ λ is. sym is | false ↦ λ is. refl ]

two : (x y z : Bool) → (x && (y && true)) ≡ false → (x && (y && z)) ≡ false
two true true z is = cc
two true false z is = refl
two false y z is = refl

parent_behind : (c s : List ℕ) → is_kept c ≡ true → is_parent c ≡ false → is_parent (c ++ s) ≡ false
parent_behind [] s keeps is = cc (keeps)
parent_behind (b ∷ []) [] keeps is = is
parent_behind (b ∷ []) (x ∷ s) keeps is = ap (λ t. t && (nat_eq 46 x && bytes_eq [] s)) (is_other b (one_other b keeps))
parent_behind (b ∷ d ∷ []) s keeps is = two (nat_eq 46 b) (nat_eq 46 d) (bytes_eq [] s) is
parent_behind (b ∷ d ∷ e ∷ cs) s keeps is = is

-- a component of a name
abbrev IsPart : List ℕ → Type 0
IsPart c = (is_kept c ≡ true) × (is_parent c ≡ false)

all_parts : (cs : List (List ℕ)) → Each (λ c. is_kept c ≡ true) cs → Each (λ c. is_parent c ≡ false) cs → Each IsPart cs
all_parts [] keeps is = tt
all_parts (c ∷ cs) keeps is = ((keeps.0, is.0), all_parts cs keeps.1 is.1)

no_parents : (cs : List (List ℕ)) → Each IsPart cs → Each (λ c. is_parent c ≡ false) cs
no_parents [] each = tt
no_parents (c ∷ cs) each = (each.0.1, no_parents cs each.1)

parts : (name : List ℕ) → IsPatchName name → Each IsPart (components name)
parts name is = all_parts (components name)
    (subst (λ (l : List (List ℕ)). Each (λ c. is_kept c ≡ true) l) (sym (patch_components name is)) (filter_kept is_kept (components name)))
    (any_each is_parent (components name) (obeys name is.lawful).parent)

relative_behind : (name end : List ℕ) → IsPatchName name → is_absolute (name ++ end) ≡ false
relative_behind [] end is = absurd (let none = (obeys [] is.lawful).empty in cc)
relative_behind (b ∷ name) end is = (obeys (b ∷ name) is.lawful).absolute

inside_behind : (name end : List ℕ) → IsPatchName name → list_any is_slash end ≡ false → IsInside (name ++ end)
inside_behind name end is free = record {
  relative = relative_behind name end is;
  down = each_any is_parent (components (name ++ end)) (no_parents (components (name ++ end))
      (subst (λ (l : List (List ℕ)). Each IsPart l) (sym (components_behind name end free))
      (each_last IsPart (components name) end (λ c part. (kept_behind c end part.0, parent_behind c end part.0 part.1)) (components_some name) (parts name is))));
}

-- ---- the names of a header

operands : (o : PlainOptions) (file : Option (List ℕ)) → o.file ≡ file → (names : List (List ℕ)) → AllByRecursion IsPatchName names → AllByRecursion (IsFileName o) (operand_or file names)
operands o None is names each = each_by IsPatchName (IsFileName o) (λ n named. inr named) names each
operands o (Some file) is names each = (inl (inl is), tt)

own_each : (o : PlainOptions) (h : PlainHeader) → AllByRecursion IsPatchName (own_names o h)
own_each o h = elim (is_moved h.action) as (λ b. AllByRecursion IsPatchName (if b then moved_names o.strip h.from h.to else candidates o.strip h.old_name h.new_name h.index (is_posix o))) [
  | true ↦ moved_named o.strip h.from h.to
  | false ↦ candidates_named o.strip h.old_name h.new_name h.index (is_posix o)
]

names_each : (o : PlainOptions) (h : PlainHeader) → AllByRecursion (IsFileName o) (names_of o h)
names_each o h = operands o o.file refl (own_names o h) (own_each o h)

-- ---- the names of a target

with_ending : (o : PlainOptions) (name end : List ℕ) → IsFileName o name → list_any is_slash end ≡ false → HasEnding o end (name ++ end)
with_ending o name end (inl operand) free = inl (name, (operand, refl))
with_ending o name end (inr named) free = inr (inside_behind name end named free)

reject_given : (o : PlainOptions) (name : List ℕ) → IsFileName o name → IsRejectName o (reject_name o name)
reject_given o name is = by o.reject refl
  where
    by : (reject : Option (List ℕ)) → o.reject ≡ reject → IsRejectName o (unwrap_or reject (name ++ codes ".rej"))
    by None none = inr (with_ending o name (codes ".rej") is refl)
    by (Some reject) some = inl some

end_free : (o : PlainOptions) → IsLawful o → list_any is_slash (backup_end false o.suffix) ≡ false
end_free o lawful = by o.suffix refl
  where
    by : (suffix : Option (List ℕ)) → o.suffix ≡ suffix → list_any is_slash (backup_end false suffix) ≡ false
    by None none = refl
    by (Some suffix) some = (lawful.suffix suffix some).ending.no_slash

unfronted : (o : PlainOptions) (name : List ℕ) → is_fronted o ≡ false → backup_name o name ≡ name ++ backup_end false o.suffix
unfronted o name is =
    ap (λ (b : Bool). backup_front o name ++ backup_end b o.suffix) is ∙ ap (λ (l : List ℕ). l ++ backup_end false o.suffix) (by o.prefix refl o.base_prefix refl)
  where
    by : (prefix : Option (List ℕ)) → o.prefix ≡ prefix → (base : Option (List ℕ)) → o.base_prefix ≡ base → backup_front o name ≡ name
    by None none None neither = rw (none, neither) refl
    by None none (Some base) some = absurd (let h : (is_some o.prefix || true) ≡ false = ap (λ (b : Option (List ℕ)). is_some o.prefix || is_some b) (sym some) ∙ is in let k : true ≡ false = ap (λ (b : Option (List ℕ)). is_some b || true) (sym none) ∙ h in cc)
    by (Some prefix) some base other = absurd (let h : true ≡ false = ap (λ (b : Option (List ℕ)). is_some b || is_some o.base_prefix) (sym some) ∙ is in cc)

backup_given : (o : PlainOptions) (name : List ℕ) → IsLawful o → IsFileName o name → IsBackupName o (backup_name o name)
backup_given o name lawful is = by (is_fronted o) refl
  where
    by : (fronted : Bool) → is_fronted o ≡ fronted → IsBackupName o (backup_name o name)
    by true front = inl (front, (name, (is, refl)))
    by false none = inr (subst (λ (l : List ℕ). HasEnding o (backup_end false o.suffix) l) (sym (unfronted o name none)) (with_ending o name (backup_end false o.suffix) is (end_free o lawful)))

target_given : (o : PlainOptions) (number : ℕ) (name : List ℕ) → IsLawful o → IsFileName o name → IsGiven o (target_of o name number)
target_given o number name lawful is = record {
  own = (name, (is, refl));
  rejects = (reject_name o name, (reject_given o name is, refl));
  backups = inl (backup_name o name, (backup_given o name lawful is, refl));
}

all_given : (o : PlainOptions) (known names : List (List ℕ)) → IsLawful o → AllByRecursion (IsFileName o) names → AllByRecursion (IsGiven o) (map (target_in o known) names)
all_given o known [] lawful each = tt
all_given o known (name ∷ names) lawful each = (target_given o _ name lawful each.0, all_given o known names lawful each.1)

pub targets_given : (o : PlainOptions) (known : List (List ℕ)) (h : PlainHeader) → IsLawful o → AllByRecursion (IsGiven o) (targets_of o known h)
targets_given o known h lawful = all_given o known (names_of o h) lawful (names_each o h)

pub output_given : (o : PlainOptions) (known : List (List ℕ)) → IsLawful o → (w : Target) → output_of o known ≡ Some w → IsGiven o w
output_given o known lawful w = by o.output refl
  where
    by : (output : Option (List ℕ)) → o.output ≡ output → option_map (target_in o known) output ≡ Some w → IsGiven o w
    by None none is = absurd cc
    by (Some name) some is = (let same : target_in o known name ≡ w = cc in subst (IsGiven o) same (target_given o _ name lawful (inl (inr some))))

pub number_given : (o : PlainOptions) (w : Target) (number : ℕ) → IsGiven o w → IsGiven o (with_number number w)
number_given o w number is = record { own = is.own; rejects = is.rejects; backups = inr (number, refl) }

-- ---- the targets of a set

module _ (o : PlainOptions) (text : List ℕ) (known : List (List ℕ)) (lawful : IsLawful o) where
  abbrev own : FilePatch → List Target
  own p = p.targets.items

  abbrev made : FilePatch → List Target
  made p = targets_of o known (header_of text p.header)

  items_given : (skipped : List BinaryChange) (moved : List (List Target)) (ps : List FilePatch) → map own ps ≡ map made ps → AllByRecursion (λ i. AllByRecursion (IsGiven o) i.targets) (map (item_of text skipped moved) ps)
  items_given skipped moved [] is = tt
  items_given skipped moved (p ∷ ps) is =
      let first : own p ≡ made p = cc in
      let rest : map own ps ≡ map made ps = cc in
      (subst (λ (l : List Target). AllByRecursion (IsGiven o) l) (sym first) (targets_given o known (header_of text p.header) lawful), items_given skipped moved ps rest)

-- ---- the effects of a run

open_given : (o : PlainOptions) (w : Target) → IsGiven o w → IsOpen (IsGivenName o) o w
open_given o w is = record { own = (w, (is, inl refl)); reject = (w, (is, inr (inl refl))); backup = λ may. (w, (is, inr (inr refl))) }

all_open : (o : PlainOptions) (ws : List Target) → AllByRecursion (IsGiven o) ws → AreOpen (IsGivenName o) o ws
all_open o [] each = tt
all_open o (w ∷ ws) each = (open_given o w each.0, all_open o ws each.1)

items_open : (o : PlainOptions) (items : List Item) → AllByRecursion (λ i. AllByRecursion (IsGiven o) i.targets) items → AllByRecursion (λ i. AreOpen (IsGivenName o) o i.targets) items
items_open o [] each = tt
items_open o (i ∷ items) each = (all_open o i.targets each.0, items_open o items each.1)

pub effects_given : (o : PlainOptions) (output : Option Target) (items : List Item) (files : Files) → ForSome output (IsGiven o) → AllByRecursion (λ i. AllByRecursion (IsGiven o) i.targets) items
    → AllByRecursion (λ e. IsGivenName o (changed_by e)) (run_of o output items files).effects
effects_given o output items files out each = run_only (IsGivenName o) o output (λ w is. open_given o w (out w is)) items files (items_open o items each)

pub set_given : (o : PlainOptions) (text : List ℕ) (v : SetView) (files : Files) → IsLawful o → IsRead o text v → AllByRecursion (λ e. IsGivenName o (changed_by e)) (set_run o v files).effects
set_given o text v files lawful read =
    let known = known_names o (plain_patches v) in
    effects_given o v.output (items_of v) files
    (λ w is. output_given o known lawful w (sym read.names.output ∙ is))
    (items_given o v.text known lawful v.skipped (moved_in v.patches) v.patches read.names.targets)
