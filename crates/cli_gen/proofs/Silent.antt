-- With `-s` a run says nothing of file patches that go well, where no binary change is passed over.
use Rattle.std.proofs.Common.{◌≡◌, ℕ, ◌+◌, ℤ, List, [], ◌∷◌, ◌++◌, length, map, Bool, true, false, not, ◌||◌, if◌then◌else◌, Option, None, Some, refl, sym, ◌∙◌, ap}
use Rattle.std.proofs.lemmas.Bool.{false≢true}
use Rattle.outside.specs.Files.{Files}
use Rattle.hunk_core.specs.PlainHunk.{PlainHunk}
use Rattle.hunk_core.specs.declared.Side.{Side}
use Rattle.hunk_core.specs.declared.Verdict.{Verdict}
use Rattle.hunk_core.specs.declared.Verdict.TheVariants.{Untried, Ignored, Nowhere, At}
use Rattle.hunk_core.specs.Turned.{other_side}
use Rattle.read_file_patch.specs.PlainPatch.{PlainChange, PlainPatch, hunks, script}
use Rattle.hunk_apply.specs.Script.{first_address}
use Rattle.reject_text.specs.Rejects.{rows_of}
use Rattle.line_store.specs.declared.fault.OpenFault.{OpenFault}
use Rattle.name_choice.specs.Choice.{side_of}
use Rattle.name_choice.specs.declared.Choice.{Choice}
use Rattle.name_choice.specs.declared.Choice.TheVariants.{Existing, Create, Nothing}
use Rattle.patch_options.specs.PlainJob.{PlainOptions}
use Rattle.patch_set.specs.Asked.{skips_binary, ways_of}
use Rattle.patch_set.specs.declared.skipped.BinaryChange.{BinaryChange}
use Rattle.patch_set.specs.Named.{known_names, output_of}
use Rattle.patch_set.specs.Skipped.{skipped_changes}
use Rattle.say_text.specs.Messages.{silenced, reversed_line, not_deleting_line, failures_line}
use Rattle.read_file_patch.specs.declared.derived.Target.{Target}
use Rattle.say_text.specs.declared.standing.Standing.{Standing}
use Rattle.apply_task.specs.Kinds.{is_meant}
use Rattle.patch_run.specs.OnePatch.{Item, PlainContext, Tried, hunk_said, hunks_said, script_said, change_said, Start, skips, refuses, tries, Ending, ended, stopped, said_first, skips_at, lines_in, first_hunk, is_reversed, turns_round, on_direction, lacks_word, prereq_said, on_prereq, refusal_of, refused_or, on_taking, unfit, unfit_said, on_misfit, is_forced, on_fitting, on_file, patching_said, on_meant, unmeant_said, on_target, on_choice, choice_of, is_first, changes_said, skipped_said, fails_first, own_start, start, bytes_of, some_failed, failed, total, named_reject, is_kept, kept_said, failures_said, tried_said, shown, written, tried, ending_of, ending}
use Rattle.patch_run.specs.Run.{Run, begun, turn_of, with_ending, if_going, with_item, run_on}
use Rattle.patch_run.specs.Outcome.{moved_for, item_for, run_for}

or_false : (a b : Bool) → (a || b) ≡ false → (a ≡ false) × (b ≡ false)
or_false true b is = absurd (false≢true (sym is))
or_false false b is = (refl, is)

-- ---- how a file patch is taken

-- nothing is said before its hunks are tried
abbrev Mute : Start → Type 0
Mute (skips said row taken) = Unit {0}
Mute (refuses said fault) = Unit {0}
Mute (tries said place side) = said ≡ []

mute_first : (p : List ℕ) (s : Start) → p ≡ [] → Mute s → Mute (said_first p s)
mute_first p (skips said row taken) none mute = tt
mute_first p (refuses said fault) none mute = tt
mute_first p (tries said place side) none mute = ap (λ (l : List ℕ). l ++ said) none ∙ mute

mute_refused : (refused : Option OpenFault) (s : Start) → Mute s → Mute (refused_or refused s)
mute_refused None s mute = mute
mute_refused (Some fault) s mute = tt

mute_if : (b : Bool) (x y : Start) → Mute x → Mute y → Mute (if b then x else y)
mute_if true x y one other = one
mute_if false x y one other = other

module _ (t : PlainContext) (place : ℕ) (silent : t.options.silent ≡ true) where
  none_of : (text : List ℕ) → silenced t.options text ≡ []
  none_of text = ap (λ (b : Bool). if b then [] else text) silent

  mute_direction : (bytes : Option (List ℕ)) (was : Bool) (side : Side) → Mute (on_direction t place bytes was side)
  mute_direction bytes was side =
      mute_if (t.options.force || was || not (is_reversed t.options (lines_in bytes) side (first_hunk t.item.patch.change))) (tries [] place side)
      (if turns_round t then tries (silenced t.options (reversed_line true)) place (other_side side) else skips_at (silenced t.options (reversed_line false)) place side bytes)
      refl
      (mute_if (turns_round t) (tries (silenced t.options (reversed_line true)) place (other_side side)) (skips_at (silenced t.options (reversed_line false)) place side bytes) (none_of (reversed_line true)) tt)

  mute_taking : (bytes : Option (List ℕ)) (was : Bool) (side : Side) → Mute (on_taking t place bytes was side)
  mute_taking bytes was side =
      let go = on_direction t place bytes was side in
      let mute = mute_direction bytes was side in
      mute_refused (refusal_of t.options.buffer bytes) (on_prereq t place bytes was side)
      (mute_if (not (lacks_word t.item.patch.header.prereq bytes)) go (if t.options.force then said_first (prereq_said t) go else skips_at (prereq_said t) place side bytes) mute
      (mute_if t.options.force (said_first (prereq_said t) go) (skips_at (prereq_said t) place side bytes) (mute_first (prereq_said t) go (none_of _) mute) tt))

  mute_misfit : (stands : Standing) (bytes : Option (List ℕ)) (side : Side) → Mute (on_misfit t stands place bytes side)
  mute_misfit stands bytes side =
      mute_if (turns_round t) (said_first (unfit_said t stands place true) (on_taking t place bytes true (other_side side))) (skips_at (unfit_said t stands place false) place side None)
      (mute_first (unfit_said t stands place true) (on_taking t place bytes true (other_side side)) (none_of _) (mute_taking bytes true (other_side side))) tt

  mute_fitting : (bytes : Option (List ℕ)) (side : Side) (stands : Option Standing) → Mute (on_fitting t place bytes side stands)
  mute_fitting bytes side None = mute_taking bytes false side
  mute_fitting bytes side (Some stands) =
      mute_if (is_forced t place) (on_taking t place bytes false side) (on_misfit t stands place bytes side) (mute_taking bytes false side) (mute_misfit stands bytes side)

  mute_target : (f : Files) → Mute (on_target t f place)
  mute_target f =
      let side = side_of t.options.reverse in
      mute_if (is_meant t.item.patch) (on_meant t f place) (skips_at (unmeant_said t place) place side None)
      (mute_first (patching_said t place) (on_file t f place side) (none_of _) (mute_fitting (bytes_of t f place) side (unfit t f place side))) tt

mute_choice : (t : PlainContext) (f : Files) (x : Choice) → t.options.silent ≡ true → Mute (on_choice t f x)
mute_choice t f (Existing k) silent = mute_target t k silent f
mute_choice t f (Create k) silent = mute_target t k silent f
mute_choice t f Nothing silent = tt

-- where no binary change is passed over, none is told
skipped_none : (t : PlainContext) → t.item.skipped ≡ [] → skipped_said t ≡ []
unfolding changes_said
skipped_none t none = elim (is_first t.past) as (λ (b : Bool). (if b then changes_said t.options t.item.skipped else []) ≡ []) [
  | true ↦ ap (changes_said t.options) none
  | false ↦ refl
]

mute_start : (t : PlainContext) (f : Files) → t.options.silent ≡ true → t.item.skipped ≡ [] → Mute (start t f)
unfolding start
mute_start t f silent none = mute_first (skipped_said t) (own_start t f) (skipped_none t none) (mute_choice t f (choice_of t f) silent)

-- ---- what came of the hunks

module _ (o : PlainOptions) (silent : o.silent ≡ true) where
  silenced_none : (text : List ℕ) → silenced o text ≡ []
  silenced_none text = ap (λ (b : Bool). if b then [] else text) silent

  hunk_none : (end : Option Bool) (number : ℕ) (moved : ℤ) (h : PlainHunk) (v : Verdict) → hunk_said o end number moved h v ≡ []
  hunk_none end number moved h Untried = refl
  hunk_none end number moved h Ignored = refl
  hunk_none end number moved h Nowhere = silenced_none _
  hunk_none end number moved h (At line fuzz offset) = silenced_none _

  hunks_none : (end : Option Bool) (before rows : List (PlainHunk × Verdict)) → hunks_said o end before rows ≡ []
  unfolding hunks_said
  hunks_none end before [] = refl
  hunks_none end before (row ∷ rows) = ap (λ (l : List ℕ). l ++ hunks_said o end (before ++ row ∷ []) rows) (hunk_none end (length before + 1) _ row.0 row.1) ∙ hunks_none end (before ++ row ∷ []) rows

  script_none : (address : ℕ) (vs : List Verdict) → script_said o address vs ≡ []
  script_none address [] = refl
  script_none address (Untried ∷ vs) = refl
  script_none address (Ignored ∷ vs) = refl
  script_none address (Nowhere ∷ vs) = silenced_none _
  script_none address (At line fuzz offset ∷ vs) = silenced_none _

  change_none : (end : Option Bool) (side : Side) (change : PlainChange) (vs : List Verdict) → change_said o end side change vs ≡ []
  change_none end side (hunks hs) vs = hunks_none end [] (rows_of side hs vs)
  change_none end side (script es) vs = script_none (first_address es) vs

tried_none : (t : PlainContext) (w : Target) (x : Tried) → t.options.silent ≡ true → (some_failed x.verdicts || is_kept t x) ≡ false → tried_said t w x ≡ []
unfolding tried_said
tried_none t w x silent good =
    let both = or_false (some_failed x.verdicts) (is_kept t x) good in
    ap (λ (l : List ℕ). l ++ (kept_said t w x ++ failures_said t w x)) (change_none t.options silent x.end x.side t.item.patch.change x.verdicts)
    ∙ ap (λ (l : List ℕ). l ++ failures_said t w x) (ap (λ (b : Bool). if b then not_deleting_line (shown w) else []) both.1)
    ∙ ap (λ (b : Bool). if b then failures_line (failed x.verdicts) (total t) (named_reject t w) else []) both.0

-- ---- a file patch

-- where nothing of it went wrong, nothing is said
abbrev IsMute : Ending → Type 0
IsMute (ended s) = s.is_bad ≡ false → s.said ≡ []
IsMute (stopped said fault) = Unit {0}

ending_mute : (t : PlainContext) (f : Files) (s : Start) → t.options.silent ≡ true → Mute s → IsMute (ending_of t f s)
ending_mute t f (skips said row taken) silent mute = λ good. absurd (false≢true (sym good))
ending_mute t f (refuses said fault) silent mute = tt
ending_mute t f (tries said place side) silent mute =
    let w = written t place in
    let x = tried t side (lines_in (bytes_of t f place)) in
    λ good. ap (λ (l : List ℕ). l ++ tried_said t w x) mute ∙ tried_none t w x silent (or_false (some_failed x.verdicts || is_kept t x) (fails_first t) good).0

patch_mute : (t : PlainContext) (f : Files) → t.options.silent ≡ true → t.item.skipped ≡ [] → IsMute (ending t f)
unfolding ending
patch_mute t f silent none = ending_mute t f (start t f) silent (mute_start t f silent none)

-- ---- a run

-- as long as all goes well, nothing is said
abbrev pub IsHushed : Run → Type 0
IsHushed r = r.is_bad ≡ false → r.stop ≡ None → r.said ≡ []

ending_hushed : (t : PlainContext) (r : Run) (e : Ending) → IsMute e → IsHushed r → r.stop ≡ None → IsHushed (with_ending t r e)
ending_hushed t r (ended s) mute hushed going = λ good on.
    let both = or_false r.is_bad s.is_bad good in
    ap (λ (l : List ℕ). l ++ s.said) (hushed both.0 going) ∙ mute both.1
ending_hushed t r (stopped said fault) mute hushed going = λ good on. absurd (cc)

item_hushed : (o : PlainOptions) (output : Option Target) (r : Run) (i : Item) → o.silent ≡ true → i.skipped ≡ [] → IsHushed r → IsHushed (with_item o output r i)
item_hushed o output r i silent none hushed =
    let t = turn_of o output r i in
    elim r.stop as (λ x. r.stop ≡ x → IsHushed (if_going x r (with_ending t r (ending t r.files)))) [
      | None ↦ λ going. ending_hushed t r (ending t r.files) (patch_mute t r.files silent none) hushed going
      | Some fault ↦ λ stop. hushed
    ] refl

run_hushed : (o : PlainOptions) (output : Option Target) (known : List (List ℕ)) (skipped : List BinaryChange) (moved : List (List Target)) (ps : List PlainPatch) (r : Run) → o.silent ≡ true → skipped ≡ [] → IsHushed r
    → IsHushed (run_on o output (map (item_for o known skipped moved) ps) r)
unfolding run_on
run_hushed o output known skipped moved [] r silent none hushed = hushed
run_hushed o output known skipped moved (p ∷ ps) r silent none hushed =
    run_hushed o output known skipped moved ps (with_item o output r (item_for o known skipped moved p)) silent none (item_hushed o output r (item_for o known skipped moved p) silent none hushed)

none_if : (b : Bool) (l : List BinaryChange) → b ≡ false → (if b then l else []) ≡ []
none_if b l not = ap (λ (x : Bool). if x then l else []) not

-- without `-f`, `-t` and `--skip-binary` no binary change is passed over
none_skipped : (o : PlainOptions) (text : List ℕ) → skips_binary o ≡ false → skipped_changes (ways_of o) text ≡ []
unfolding skipped_changes
none_skipped o text not = none_if (skips_binary o) _ not

pub silent_for : (o : PlainOptions) (text : List ℕ) (ps : List PlainPatch) (f : Files) → o.silent ≡ true → skips_binary o ≡ false → IsHushed (run_for o text ps f)
silent_for o text ps f silent not = run_hushed o (output_of o (known_names o ps)) (known_names o ps) (skipped_changes (ways_of o) text) (map (moved_for o (known_names o ps)) ps) ps (begun f) silent (none_skipped o text not) (λ good on. refl)
