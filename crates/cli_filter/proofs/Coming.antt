-- From a set that is read to what a filter comes to.
use Rattle.std.proofs.Common.{◌≡◌, ◌≢◌, ℕ, Bool, true, false, List, [], ◌∷◌, map, Option, None, Some, Result, Ok, Err, refl, sym, ap, ◌∙◌}
use Rattle.outside.specs.Files.{Files}
use Rattle.read_file_patch.specs.declared.FilePatch.{FilePatch}
use Rattle.read_file_patch.specs.PlainPatch.{patch_of}
use Rattle.cli_tool_words.specs.PlainJobs.{PlainSelect, PlainListJob, PlainFilterJob, PlainGrepJob}
use Rattle.cli_run_answers.specs.declared.fault.InputFault.{InputFault}
use Rattle.patch_set.specs.declared.fault.SetFault.{SetFault}
use Rattle.patch_set.specs.declared.fault.SetFault.TheVariants.{Malformed, Garbage, TooLong, OutMany, EdReverse, Reserved, Memory}
use Rattle.patch_set.specs.Refusals.{refusal}
use Rattle.patch_set.specs.SetView.{SetView, IsRead}
use Rattle.filter_choice.specs.Outlined.{outlined}
use Rattle.patch_filters.specs.Listed.{asks_hunks, listed, listed_whole}
use Rattle.patch_filters.specs.Digested.{filtered_digest}
use Rattle.patch_filters.specs.Told.{told}
use Rattle.patch_filters.specs.Grepped.{grepped}
use Rattle.filter_whole_text.specs.Texts.{defaults, patches_in}
use Rattle.cli_filter.specs.Texts.{filtered_in, grepped_in, listed_in, told_in}
use Rattle.filter_whole_text.specs.Outcomes.{Outcome, given}
use Rattle.cli_filter.specs.Outcomes.{unless_refused, outcome_by, list_with, filter_with, grep_with, list_outcome, filter_outcome, grep_outcome, told_outcome}
use Rattle.filter_whole_text.specs.declared.fault.FilterFault.TheVariants as faults
use Rattle.filter_whole_text.specs.Opened.{IsDigestIn, IsOutlineOf, IsSet}
use Rattle.filter_whole_text.proofs.ByText.{patches-by}
use Rattle.cli_filter.proofs.ByText.{listed-by, whole-by, digested-by, grepped-by, told-by}

-- the bytes that are written of what is read from the text, unless that is refused
abbrev pub ComesBy : {V : Type 0} → (Bool → List ℕ → V → Type 0) → Bool → Option SetFault → (V → List ℕ) → List ℕ → Outcome → Type 0
ComesBy {V} Is skip None written text o = (v : V) × Is skip text v × (o ≡ Ok (written v))
ComesBy Is skip (Some Garbage) written text o = o ≡ Ok []
ComesBy Is skip (Some fault) written text o = o ≡ Err (faults.Set fault)

abbrev pub Comes : {V : Type 0} → (Bool → List ℕ → V → Type 0) → (PlainSelect → V → List ℕ) → Result (List ℕ × PlainSelect) InputFault → Outcome → Type 0
Comes Is written (Ok (text, s)) o = ComesBy Is s.skip_binary (refusal (defaults s.skip_binary) text) (written s) text o
Comes Is written (Err fault) o = o ≡ Err (faults.Input fault)

abbrev done_with : List ℕ → Outcome
done_with bytes = Ok bytes

-- the bytes that are written are told by the text
module _ {V : Type 0} (Is : Bool → List ℕ → V → Type 0) (written : PlainSelect → V → List ℕ) (told : PlainSelect → List ℕ → List ℕ) (same : (s : PlainSelect) (text : List ℕ) (v : V) → Is s.skip_binary text v → written s v ≡ told s text) where
  by-refusal : (r : Option SetFault) (s : PlainSelect) (text : List ℕ) (o : Outcome) → ComesBy Is s.skip_binary r (written s) text o → o ≡ unless_refused r (told s text)
  by-refusal None s text o h = h.2 ∙ ap done_with (same s text h.0 h.1)
  by-refusal (Some (Malformed line kind)) s text o h = h
  by-refusal (Some Garbage) s text o h = h
  by-refusal (Some TooLong) s text o h = h
  by-refusal (Some (OutMany count)) s text o h = h
  by-refusal (Some (EdReverse line)) s text o h = h
  by-refusal (Some (Reserved line)) s text o h = h
  by-refusal (Some Memory) s text o h = h

  comes-is : (x : Result (List ℕ × PlainSelect) InputFault) (o : Outcome) → Comes Is written x o → o ≡ outcome_by told x
  comes-is (Ok (text, s)) o h = by-refusal (refusal (defaults s.skip_binary) text) s text o h
  comes-is (Err fault) o h = h

pub listed-is : (j : PlainListJob) → asks_hunks j.shown ≡ false → (f : Files) (left : List ℕ) (o : Outcome) → Comes IsOutlineOf (λ s v. listed (list_with j s) (outlined v)) (given j.input j.select f left) o → o ≡ list_outcome j f left
unfolding list_outcome
listed-is j unasked f left = comes-is IsOutlineOf (λ s v. listed (list_with j s) (outlined v)) (λ s text. listed_in (list_with j s) text)
    (λ s text v read. listed-by (list_with j s) text v unasked read) (given j.input j.select f left)

pub whole-is : (j : PlainListJob) → asks_hunks j.shown ≡ true → (f : Files) (left : List ℕ) (o : Outcome) → Comes IsSet (λ s v. listed_whole (list_with j s) v) (given j.input j.select f left) o → o ≡ list_outcome j f left
unfolding list_outcome
whole-is j asked f left = comes-is IsSet (λ s v. listed_whole (list_with j s) v) (λ s text. listed_in (list_with j s) text)
    (λ s text v read. whole-by (list_with j s) text v asked read) (given j.input j.select f left)

pub filtered-is : (j : PlainFilterJob) (f : Files) (left : List ℕ) (o : Outcome) → Comes IsDigestIn (λ s v. filtered_digest (filter_with j s) v) (given j.input j.select f left) o → o ≡ filter_outcome j f left
unfolding filter_outcome
filtered-is j f left = comes-is IsDigestIn (λ s v. filtered_digest (filter_with j s) v) (λ s text. filtered_in (filter_with j s) text)
    (λ s text v read. digested-by (filter_with j s) text v read) (given j.input j.select f left)

pub told-is : (j : PlainFilterJob) (f : Files) (left : List ℕ) (o : Outcome) → Comes IsSet (λ s v. told (filter_with j s) v) (given j.input j.select f left) o → o ≡ told_outcome j f left
unfolding told_outcome
told-is j f left = comes-is IsSet (λ s v. told (filter_with j s) v) (λ s text. told_in (filter_with j s) text)
    (λ s text v read. told-by (filter_with j s) text v read) (given j.input j.select f left)

pub grepped-is : (hit : List ℕ → List ℕ → Bool) (j : PlainGrepJob) (f : Files) (left : List ℕ) (o : Outcome) → Comes IsSet (λ s v. grepped (hit j.pattern) (grep_with j s) v) (given j.input j.select f left) o → o ≡ grep_outcome hit j f left
unfolding grep_outcome
grepped-is hit j f left = comes-is IsSet (λ s v. grepped (hit j.pattern) (grep_with j s) v) (λ s text. grepped_in (hit j.pattern) (grep_with j s) text)
    (λ s text v read. grepped-by (hit j.pattern) (grep_with j s) text v read) (given j.input j.select f left)

-- ---- a text with file patches

none-of-none : (text : List ℕ) (ps : List FilePatch) → map (patch_of text) ps ≡ [] → ps ≡ []
none-of-none text [] empty = refl
none-of-none text (p ∷ ps) empty = absurd cc

pub some-there : (skip : Bool) (text : List ℕ) (v : SetView) → IsRead (defaults skip) text v → v.patches ≢ [] → patches_in skip text ≢ []
some-there skip text v read some empty = some (none-of-none v.text v.patches (sym (patches-by skip text v read) ∙ empty))
