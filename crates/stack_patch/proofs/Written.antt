-- The names that a run can change are those of its targets.
use Rattle.std.proofs.Common.{◌≡◌, ℕ, List, [], ◌∷◌, ◌++◌, true, ◌&&◌, ◌||◌, bytes_eq, Option, None, Some, sym, ◌∙◌, ap, subst, append_assoc}
use Rattle.std.specs.List.{AllByRecursion, list_any, flat_map}
use Rattle.std.specs.Option.{option_to_list}
use Rattle.std.proofs.lemmas.List.Folds.{list_any-append}
use Rattle.std.proofs.Math.Bool.{or-true}
use Rattle.outside.specs.Files.{Files}
use Rattle.patch_options.specs.PlainJob.{PlainOptions}
use Rattle.read_file_patch.specs.declared.derived.Target.{Target}
use Rattle.read_file_patch.proofs.Names.{same-is}
use Rattle.patch_run.specs.OnePatch.{Item}
use Rattle.patch_run.specs.Run.{run_of}
use Rattle.series_stack.specs.Commands.{changed_by}
use Rattle.stack_patch.specs.Changed.{may_back_up, is_name_of, targets_in, can_change}
use Rattle.stack_patch.proofs.Changing.{IsOpen, AreOpen, run_only}

-- ---- a target's own names

own_name : (o : PlainOptions) (t : Target) → is_name_of o t.name t ≡ true
own_name o t = ap (λ b. b || (bytes_eq t.reject t.name || (may_back_up o && bytes_eq t.backup t.name))) (same-is t.name)

own_reject : (o : PlainOptions) (t : Target) → is_name_of o t.reject t ≡ true
own_reject o t = ap (λ b. bytes_eq t.name t.reject || (b || (may_back_up o && bytes_eq t.backup t.reject))) (same-is t.reject) ∙ or-true (bytes_eq t.name t.reject)

own_backup : (o : PlainOptions) (t : Target) → may_back_up o ≡ true → is_name_of o t.backup t ≡ true
own_backup o t may =
    ap (λ b. bytes_eq t.name t.backup || (bytes_eq t.reject t.backup || (b && bytes_eq t.backup t.backup))) may
    ∙ ap (λ b. bytes_eq t.name t.backup || (bytes_eq t.reject t.backup || b)) (same-is t.backup)
    ∙ ap (λ b. bytes_eq t.name t.backup || b) (or-true (bytes_eq t.reject t.backup)) ∙ or-true (bytes_eq t.name t.backup)

-- ---- among all targets

-- a text may be changed
abbrev May : PlainOptions → List Target → List ℕ → Type 0
May o targets name = can_change o targets name ≡ true

among : (o : PlainOptions) (front : List Target) (t : Target) (behind : List Target) (name : List ℕ) → is_name_of o name t ≡ true → May o (front ++ t ∷ behind) name
among o front t behind name is =
    list_any-append (is_name_of o name) front (t ∷ behind)
    ∙ ap (λ b. list_any (is_name_of o name) front || (b || list_any (is_name_of o name) behind)) is
    ∙ or-true (list_any (is_name_of o name) front)

opens : (o : PlainOptions) (front : List Target) (t : Target) (behind : List Target) → IsOpen (May o (front ++ t ∷ behind)) o t
opens o front t behind = record {
  own = among o front t behind t.name (own_name o t);
  reject = among o front t behind t.reject (own_reject o t);
  backup = λ may. among o front t behind t.backup (own_backup o t may);
}

all_open : (o : PlainOptions) (front targets behind : List Target) → AreOpen (May o (front ++ (targets ++ behind))) o targets
all_open o front [] behind = tt
all_open o front (t ∷ targets) behind = (
  opens o front t (targets ++ behind),
  subst (λ (l : List Target). AreOpen (May o l) o targets) (append_assoc front (t ∷ []) (targets ++ behind)) (all_open o (front ++ t ∷ []) targets behind),
)

abbrev all_targets : List Item → List Target
all_targets items = flat_map (λ i. i.targets) items

items_open : (o : PlainOptions) (front : List Target) (items : List Item) → AllByRecursion (λ i. AreOpen (May o (front ++ all_targets items)) o i.targets) items
items_open o front [] = tt
items_open o front (i ∷ items) = (
  all_open o front i.targets (all_targets items),
  subst (λ (l : List Target). AllByRecursion (λ j. AreOpen (May o l) o j.targets) items) (append_assoc front i.targets (all_targets items)) (items_open o (front ++ i.targets) items),
)

output_open : (o : PlainOptions) (output : Option Target) (items : List Item) (w : Target) → output ≡ Some w → IsOpen (May o (targets_in output items)) o w
output_open o None items w is = absurd cc
output_open o (Some t) items w is = (let same : t ≡ w = cc in subst (λ (x : Target). IsOpen (May o (targets_in (Some t) items)) o x) same (opens o [] t (all_targets items)))

pub run_changes : (o : PlainOptions) (output : Option Target) (items : List Item) (f : Files) → AllByRecursion (λ e. can_change o (targets_in output items) (changed_by e) ≡ true) (run_of o output items f).effects
run_changes o output items f = run_only (May o (targets_in output items)) o output (output_open o output items) items f (items_open o (option_to_list output) items)
