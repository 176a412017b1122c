-- A name that was made or taken away isn't backed up later in the run.
use Rattle.std.proofs.Common.{◌≡◌, ◌⊎◌, inl, inr, ℕ, List, [], ◌∷◌, ◌++◌, Bool, true, false, not, ◌&&◌, ◌||◌, if◌then◌else◌, bytes_eq, Option, None, Some, refl, ◌∙◌, ap}
use Rattle.std.proofs.lemmas.List.Folds.{list_any-append}
use Rattle.std.proofs.lemmas.Slice.Eq.{bytes_eq-Decides}
use Rattle.std.specs.Option.{option_map}
use Rattle.std.proofs.Math.Bool.{or-true}
use Rattle.outside.specs.Files.{Files}
use Rattle.hunk_core.specs.declared.Verdict.{Verdict}
use Rattle.patch_options.specs.PlainJob.{PlainOptions}
use Rattle.read_file_patch.specs.declared.derived.Target.{Target}
use Rattle.patch_set.specs.declared.set.Row.{Row}
use Rattle.patch_run.specs.OnePatch.{Item, PastFilePatch, PlainContext, Ending, ended, stopped, written_by, renamed_by, mark_of, is_name, has_name, was_written, is_backup_apart, is_backup_asked, is_backup_due, ending}
use Rattle.patch_run.specs.Run.{Run, turn_of, with_ending, if_going, with_item, run_on, run_of}
use Rattle.patch_run.specs.Laws.{HasWritten}
use Rattle.patch_run.proofs.Folding.{whole-next}

-- its mark has the name
holds_name : (wrote : Bool) (o : Option Target) (w : Target) (name : List ℕ) → wrote ≡ true → o ≡ Some w → w.name ≡ name → is_name name (if wrote then option_map (λ (x : Target). x.name) o else None) ≡ true
holds_name wrote o w name by is named =
    ap (λ b. is_name name (if b then option_map (λ (x : Target). x.name) o else None)) by
    ∙ ap (λ (x : Option Target). is_name name (option_map (λ (y : Target). y.name) x)) is
    ∙ ap (λ n. bytes_eq name n) named
    ∙ (bytes_eq-Decides name name).1 refl

pub mark_named : (t : PlainContext) (r : Row) (vs : List Verdict) (w : Target) (name : List ℕ) → r.wrote ≡ true → (written_by t r ≡ Some w) ⊎ (renamed_by t r ≡ Some w) → w.name ≡ name → has_name name (mark_of t r vs) ≡ true
unfolding mark_of
mark_named t r vs w name wrote (inl is) named = ap (λ b. b || is_name name (mark_of t r vs).renamed) (holds_name r.wrote (written_by t r) w name wrote is named)
mark_named t r vs w name wrote (inr is) named = ap (λ b. is_name name (mark_of t r vs).written || b) (holds_name r.wrote (renamed_by t r) w name wrote is named) ∙ or-true (is_name name (mark_of t r vs).written)

still_written : (marks more : List PastFilePatch) (name : List ℕ) → was_written marks name ≡ true → was_written (marks ++ more) name ≡ true
still_written marks more name is = list_any-append (has_name name) marks more ∙ ap (λ b. b || was_written more name) is

now_written : (t : PlainContext) (r : Run) (e : Ending) (name : List ℕ) → HasWritten t e name → was_written (with_ending t r e).past name ≡ true
now_written t r (ended s) name has =
    list_any-append (has_name name) r.past (mark_of t s.row s.verdicts ∷ [])
    ∙ ap (λ b. was_written r.past name || (b || false)) (mark_named t s.row s.verdicts has.1.0 name has.0 has.1.1.0 has.1.1.1)
    ∙ or-true (was_written r.past name)
now_written t r (stopped said fault) name has = absurd has

-- a run keeps its marks
abbrev pub Keeps : Run → Run → List ℕ → Type 0
Keeps r s name = was_written r.past name ≡ true → was_written s.past name ≡ true

ending_keeps : (t : PlainContext) (r : Run) (e : Ending) (name : List ℕ) → Keeps r (with_ending t r e) name
ending_keeps t r (ended s) name = still_written r.past (mark_of t s.row s.verdicts ∷ []) name
ending_keeps t r (stopped said fault) name = λ is. is

item_keeps : (o : PlainOptions) (output : Option Target) (r : Run) (i : Item) (name : List ℕ) → Keeps r (with_item o output r i) name
item_keeps o output r i name =
    let t = turn_of o output r i in
    elim r.stop as (λ x. Keeps r (if_going x r (with_ending t r (ending t r.files))) name) [
      | None ↦ ending_keeps t r (ending t r.files) name
      | Some fault ↦ λ is. is
    ]

pub run_keeps : (o : PlainOptions) (output : Option Target) (items : List Item) (r : Run) (name : List ℕ) → Keeps r (run_on o output items r) name
unfolding run_on
run_keeps o output [] r name = λ is. is
run_keeps o output (i ∷ items) r name = λ is. run_keeps o output items (with_item o output r i) name (item_keeps o output r i name is)

not_due : (t : PlainContext) (w other : Target) (vs : List Verdict) → was_written t.past w.name ≡ true → is_backup_due t w other vs ≡ false
not_due t w other vs is = ap (λ b. not b && is_backup_apart t w other && is_backup_asked t vs) is

pub backed_once : (o : PlainOptions) (output : Option Target) (front behind : List Item) (i j : Item) (f : Files) (w other : Target) (vs : List Verdict) → (run_of o output front f).stop ≡ None
    → HasWritten (turn_of o output (run_of o output front f) i) (ending (turn_of o output (run_of o output front f) i) (run_of o output front f).files) w.name
    → is_backup_due (turn_of o output (run_of o output (front ++ i ∷ behind) f) j) w other vs ≡ false
backed_once o output front behind i j f w other vs going has =
    let r = run_of o output front f in
    let t = turn_of o output r i in
    let s = with_ending t r (ending t r.files) in
    let whole = whole-next o output front i t f going refl behind in
    not_due (turn_of o output (run_of o output (front ++ i ∷ behind) f) j) w other vs
    (ap (λ (x : Run). was_written x.past w.name) whole ∙ run_keeps o output behind s w.name (now_written t r (ending t r.files) w.name has))
