-- The files that are put, and the run over them, as one run.
use Rattle.std.proofs.Common.{◌≡◌, ◌⊎◌, inl, inr, ⊎_elim, ℕ, zero, List, ◌++◌, length, Bool, true, false, Option, None, Some, Result, Ok, Err, refl, sym, ◌∙◌, ap, subst}
use Rattle.std.proofs.lemmas.Bool.{false≢true}
use Rattle.std.proofs.lemmas.List.{append-nil, length-map}
use Rattle.hunk_core.specs.Reading.{Fault}
use Rattle.outside.specs.Files.{Files}
use Rattle.outside.specs.TreeView.{TreeView, passes_both}
use Rattle.outside.specs.SinkView.{SinkView, sink_passes_none}
use Rattle.outside.specs.ScratchView.{ScratchView, scratch_passes_none}
use Rattle.outside.specs.Quiet.{Effect, HasMade, after_all}
use Rattle.outside.proofs.Views.{rises_then}
use Rattle.outside.proofs.Effects.{since_longer, tells_longer}
use Rattle.read_file_patch.specs.PlainPatch.{PlainPatch, patch_of}
use Rattle.apply_task.proofs.EffectLists.{leaves_after, made_both, tells_after}
use Rattle.apply_task.proofs.Tidy.{tidy_both}
use Rattle.read_patch_text.specs.Patches.{patches_of}
use Rattle.patch_set.specs.Asked.{ways_of}
use Rattle.patch_set.specs.Named.{known_names, output_of}
use Rattle.patch_set.specs.SetView.{SetView, plain_patches}
use Rattle.patch_set.specs.declared.fault.SetFault.{SetFault}
use Rattle.apply_task.specs.declared.fault.RunFault.{RunFault}
use Rattle.patch_run.specs.Applied.{Receipt}
use Rattle.patch_run.specs.Run.{Run, items_of}
use Rattle.patch_run.specs.Doing.{IsCutAt}
use Rattle.cli_tool_words.specs.PlainJobs.{PlainGenJob}
use Rattle.cli_run_answers.specs.declared.why.Why.{Why}
use Rattle.cli_run_answers.specs.declared.why.Why.TheVariants.{Done, Rejected, Usage, Malformed, Garbage, EdReverse, OutMany, Reserved, NoPatchFile, TooLong, LongLine, FileTooLong, BadPattern, NoContext, Unfit, BadState, StackEnd, StackName, ReadFault, WriteFault, TreeFault, ScratchFault, Disagree, Memory}
use Rattle.cli_run_answers.specs.Answers.{is_ended, is_own, is_early, of_run}
use Rattle.cli_run_answers.specs.Moments.{FirstPart, LeavesAllowed}
use Rattle.cli_run_answers.specs.Worlds.{world}
use Rattle.patch_run.specs.Scratches.{scratch_behind_all}
use Rattle.patch_run.specs.Outcome.{Outcome, items_for, run_for}
use Rattle.patch_run.specs.Answer.{HasReceipt, why_of, receipt_of}
use Rattle.patch_run.proofs.Matching.{cut-match, run-match}
use Rattle.patch_run.proofs.Receipts.{memory_end}
use Rattle.patch_run.specs.Finishes.{IsNotBegun, IsToldTo}
use Rattle.cli_gen.specs.Jobs.{options_for}
use Rattle.cli_gen.specs.Command.{command, file_puts, patch_text, on_patches, on_refusal, run_over, told_of}
use Rattle.cli_gen.specs.Worlds.{Tells}
use Rattle.cli_gen.specs.Causes.{HasCause}
use Rattle.cli_gen.specs.Putting.{PutsAll}
use Rattle.cli_gen.specs.Preparing.{IsMadeSet}
use Rattle.cli_gen.specs.Carries.{Answers, Carries, IsCutBefore, IsCutBehind, IsCutRun, IsCutTelling, Reads}
use Rattle.cli_gen.specs.Ending.{run_in, ending_in, EndsCut, HasEndCause, RunAnswers, Ends}
use Rattle.cli_gen.proofs.PutSteps.{put_made}
use Rattle.cli_gen.proofs.Whole.{KeepsPages, carries_does}

ended_receipt : (why : Why) → HasReceipt why None → is_ended why ≡ true → ⊥
ended_receipt Done given is = given
ended_receipt Rejected given is = given
ended_receipt Usage given is = false≢true is
ended_receipt (Malformed line kind) given is = false≢true is
ended_receipt Garbage given is = false≢true is
ended_receipt (EdReverse line) given is = false≢true is
ended_receipt (OutMany count) given is = false≢true is
ended_receipt (Reserved line) given is = false≢true is
ended_receipt NoPatchFile given is = false≢true is
ended_receipt TooLong given is = false≢true is
ended_receipt (LongLine line count) given is = false≢true is
ended_receipt (FileTooLong count) given is = false≢true is
ended_receipt BadPattern given is = false≢true is
ended_receipt (NoContext line) given is = false≢true is
ended_receipt (Unfit line) given is = false≢true is
ended_receipt (BadState file) given is = false≢true is
ended_receipt (StackEnd applied) given is = false≢true is
ended_receipt (StackName line) given is = false≢true is
ended_receipt ReadFault given is = false≢true is
ended_receipt WriteFault given is = false≢true is
ended_receipt TreeFault given is = false≢true is
ended_receipt ScratchFault given is = false≢true is
ended_receipt (Disagree want got) given is = false≢true is
ended_receipt Memory given is = false≢true is

-- the run ends with no refusal
not_early : (why : Why) (j : PlainGenJob) (t w : TreeView) (a b : ScratchView) (c d : SinkView) → HasEndCause why j t w a b c d → is_early why ≡ true → ⊥
not_early Done j t w a b c d cause is = false≢true is
not_early Rejected j t w a b c d cause is = false≢true is
not_early Usage j t w a b c d cause is = cause
not_early (Malformed line kind) j t w a b c d cause is = cause
not_early Garbage j t w a b c d cause is = cause
not_early (EdReverse line) j t w a b c d cause is = cause
not_early (OutMany count) j t w a b c d cause is = cause
not_early (Reserved line) j t w a b c d cause is = cause
not_early NoPatchFile j t w a b c d cause is = cause
not_early TooLong j t w a b c d cause is = cause
not_early (LongLine line count) j t w a b c d cause is = false≢true is
not_early (FileTooLong count) j t w a b c d cause is = false≢true is
not_early BadPattern j t w a b c d cause is = cause
not_early (NoContext line) j t w a b c d cause is = cause
not_early (Unfit line) j t w a b c d cause is = cause
not_early (BadState file) j t w a b c d cause is = cause
not_early (StackEnd applied) j t w a b c d cause is = cause
not_early (StackName line) j t w a b c d cause is = cause
not_early ReadFault j t w a b c d cause is = cause
not_early WriteFault j t w a b c d cause is = false≢true is
not_early TreeFault j t w a b c d cause is = false≢true is
not_early ScratchFault j t w a b c d cause is = false≢true is
not_early (Disagree want got) j t w a b c d cause is = false≢true is
not_early Memory j t w a b c d cause is = false≢true is

memory_result : (result : Result Receipt Why) → why_of result ≡ Memory → result ≡ Err Memory
memory_result (Ok r) is = absurd (memory_end r.is_bad is)
memory_result (Err why) is = ap (λ (x : Why). Err x) is

module _ (j : PlainGenJob) (v : SetView) (t : TreeView) (a : ScratchView) (c : SinkView) (set : IsMadeSet j v) where
  abbrev puts : List Effect
  puts = file_puts j

  -- the files that are put
  abbrev behind : Files → Files
  behind f = after_all puts f

  -- the command is the run over the set that is read, on the files that are put
  is_carried : (f : Files) → command (Ok j) f ≡ ending_in j v (behind f)
  is_carried f =
      ap (λ (x : Option SetFault). on_refusal j x f) set.free
      ∙ ap (λ (l : List ℕ). on_patches j (patches_of (ways_of (options_for j)) l) f) (sym set.read.text)
      ∙ ap (λ (x : Result (List PlainPatch) Fault). on_patches j x f) set.read.patches
      ∙ ap (λ (l : List ℕ). told_of j (length (plain_patches v)) (run_for (options_for j) l (plain_patches v) (behind f))) (sym set.read.text)
      ∙ ap (λ (r : Run). told_of j (length (plain_patches v)) r) (run-match (options_for j) (patch_text j) v set.read (behind f))
      ∙ ap (λ (n : ℕ). told_of j n (run_in j v (behind f))) (length-map v.patches (patch_of v.text))

  -- the file patches that are read are those of the set
  reads_set : Reads j (plain_patches v)
  reads_set = subst (λ (l : List ℕ). patches_of (ways_of (options_for j)) l ≡ Ok (plain_patches v)) set.read.text set.read.patches

  run_is : (f : Files) → run_over j (plain_patches v) f ≡ run_in j v (behind f)
  run_is f =
      ap (λ (l : List ℕ). run_for (options_for j) l (plain_patches v) (behind f)) (sym set.read.text)
      ∙ run-match (options_for j) (patch_text j) v set.read (behind f)

  -- ---- a file couldn't be put
  pub carries_unput : {R E : Type 0} (x : E) (w : TreeView) → PutsAll {R = R} puts t w (Err x) → Carries (Ok j) (world t a c) (world w a c) TreeFault None
  carries_unput x w cut = carries_does TreeFault None (record {
    tree = cut.tree;
    scratch = scratch_passes_none a;
    sink = sink_passes_none c;
    cause = cut.cause refl;
    untouched = λ early. absurd (false≢true early);
    quiet = λ is. absurd (false≢true is);
    receipt = refl;
    answers = λ f told. subst (λ (o : Outcome). FirstPart t w c c o.effects o.text) (sym (is_carried f)) (record {
      tells = tells_longer t w puts (run_in j v (behind f)).effects (puts ++ (run_in j v (behind f)).effects) refl cut.tells;
      said = λ b now. inr (zero, now ∙ ap (λ (l : List ℕ). Some l) (sym (append-nil b)));
    });
    images = λ f told. subst (λ (o : Outcome). LeavesAllowed t w f o.effects) (sym (is_carried f))
        (λ d since. inr (since_longer t w puts (run_in j v (behind f)).effects (puts ++ (run_in j v (behind f)).effects) refl cut.leaves f told.files d since));
    starved = λ is. absurd (cc);
    cut = λ own f told. inr (inl (record { is = refl; tells = cut.tells; scratch = refl; out = refl }));
    tidy = λ is. absurd (false≢true (sym is));
    pages = λ is. absurd (false≢true is);
  })

  -- ---- all files are put, and the run follows
  module _ {R E : Type 0} (z : R) (u : TreeView) (all : PutsAll {R = R} {E = E} puts t u (Ok z)) (w : TreeView) (b : ScratchView) (d : SinkView) where
    are_made : HasMade t u puts
    are_made = put_made puts t u all

    told_on_to : (f : Files) → Tells (Ok j) (world t a c) f → IsToldTo (options_for j) u a (behind f)
    told_on_to f told = record { files = all.done f told.files; scratch = told.scratch }

    cause_then : (why : Why) → HasEndCause why j u w a b c d → HasCause why (Ok j) (world t a c) (world w b d)
    cause_then Done cause = tt
    cause_then Rejected cause = tt
    cause_then Usage cause = absurd cause
    cause_then (Malformed line kind) cause = absurd cause
    cause_then Garbage cause = absurd cause
    cause_then (EdReverse line) cause = absurd cause
    cause_then (OutMany count) cause = absurd cause
    cause_then (Reserved line) cause = absurd cause
    cause_then NoPatchFile cause = absurd cause
    cause_then TooLong cause = absurd cause
    cause_then (LongLine line count) cause = cause
    cause_then (FileTooLong count) cause = cause
    cause_then BadPattern cause = absurd cause
    cause_then (NoContext line) cause = absurd cause
    cause_then (Unfit line) cause = absurd cause
    cause_then (BadState file) cause = absurd cause
    cause_then (StackEnd applied) cause = absurd cause
    cause_then (StackName line) cause = absurd cause
    cause_then ReadFault cause = absurd cause
    cause_then WriteFault cause = cause
    cause_then TreeFault cause = rises_then t u w all.tree cause
    cause_then ScratchFault cause = cause
    cause_then (Disagree want got) cause = (cause.0, λ f told. cause.1 (behind f) (told_on_to f told))
    cause_then Memory cause = tt

    cut_run : (why : Why) (f : Files) (e : RunFault) → why ≡ of_run e → IsCutAt e w c d (options_for j) v.output (items_of v) (behind f) → IsCutRun why j f w c d
    cut_run why f e is at = record {
      patches = plain_patches v;
      read = reads_set;
      fault = e;
      is = is;
      cut = subst (λ (l : List ℕ). IsCutAt e w c d (options_for j) (output_of (options_for j) (known_names (options_for j) (plain_patches v))) (items_for (options_for j) l (plain_patches v)) (behind f)) set.read.text
          (cut-match (options_for j) (patch_text j) v set.read (behind f) e w c d at);
    }

    not_begun : (f : Files) → Tells (Ok j) (world t a c) f → IsNotBegun u w a b c d → IsCutBefore j f w a b c d
    not_begun f told none = record { files = none.tree.told ∙ all.done f told.files; scratch = none.scratch; out = none.out }

    cut_then : (why : Why) (f : Files) → Tells (Ok j) (world t a c) f → EndsCut why j v u w a b c d (behind f)
        → IsCutBefore j f w a b c d ⊎ (IsCutRun why j f w c d ⊎ IsCutBehind why j f w c d)
    cut_then why f told cut = ⊎_elim
        (λ none. inl (not_begun f told none))
        (λ later. inr (⊎_elim
        (λ (e, is, at). inl (cut_run why f e is at))
        (λ telling. inr (plain_patches v, reads_set, subst (λ (r : Run). IsCutTelling why j r w c d) (sym (run_is f)) telling))
        later))
        cut

    module _ (result : Result Receipt Why) (ends : Ends j v u w a b c d result) where
      answers_then : (own : Bool) (f : Files) → Tells (Ok j) (world t a c) f → RunAnswers own result u w c d (run_in j v (behind f)) (ending_in j v (behind f))
          → Answers own (why_of result) (receipt_of result) f (world t a c) (world w b d) (ending_in j v (behind f))
      answers_then true f told answer = record {
        is = answer.is;
        text = answer.whole.said;
        files = answer.whole.now;
        made = (made_both are_made answer.whole.made).live f _ told.files answer.whole.now;
        applied = answer.applied;
      }
      answers_then false f told part = record { tells = tells_after are_made ends.tree (run_in j v (behind f)).effects part.tells; said = part.said }

    pages_then : (result : Result Receipt Why) → Ends j v u w a b c d result → is_ended (why_of result) ≡ true → KeepsPages (Ok j) (world t a c) (world w b d)
    pages_then (Ok r) ends is = λ f before told was. ends.pages (behind f) before (told_on_to f told) was ∙ ap (λ (o : Outcome). Some (scratch_behind_all (options_for j) o.taken before)) (sym (is_carried f))
    pages_then (Err why) ends is = absurd (ended_receipt why ends.receipt is)

    pub carries_run : (result : Result Receipt Why) → Ends j v u w a b c d result → Carries (Ok j) (world t a c) (world w b d) (why_of result) (receipt_of result)
    carries_run result ends = carries_does (why_of result) (receipt_of result) (record {
      tree = passes_both all.tree ends.tree;
      scratch = ends.scratch;
      sink = ends.sink;
      cause = cause_then (why_of result) ends.cause;
      untouched = λ early. absurd (not_early (why_of result) j u w a b c d ends.cause early);
      quiet = ends.quiet;
      receipt = ends.receipt;
      answers = λ f told. subst (λ (o : Outcome). Answers (is_own (why_of result)) (why_of result) (receipt_of result) f (world t a c) (world w b d) o) (sym (is_carried f))
          (answers_then result ends (is_own (why_of result)) f told (ends.answers (behind f) (told_on_to f told)));
      images = λ f told. subst (λ (o : Outcome). LeavesAllowed t w f o.effects) (sym (is_carried f))
          (λ x since. inr (leaves_after are_made ends.tree (run_in j v (behind f)).effects (ends.moments (behind f) (told_on_to f told)) f told.files x since));
      starved = λ is f told paged. inr (not_begun f told (ends.starved (memory_result result is) paged));
      cut = λ own f told. inr (inr (cut_then (why_of result) f told (ends.cut own (behind f) (told_on_to f told))));
      tidy = λ none. tidy_both t u w all.tree all.tidy (ends.tidy none);
      pages = pages_then result ends;
    })
