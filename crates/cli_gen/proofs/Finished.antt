-- A run over the made patch, with its summary.
use Rattle.std.proofs.Common.{◌≡◌, ◌⊎◌, inl, inr, ⊎_elim, ℕ, zero, List, take, [], ◌++◌, Bool, true, false, if◌then◌else◌, None, Some, Result, Ok, Err, IfOk, refl, sym, ◌∙◌, ap, subst, arith}
use Rattle.std.proofs.lemmas.Bool.{false≢true}
use Rattle.std.proofs.lemmas.List.{append-nil}
use Rattle.std.proofs.lemmas.Option.{same_Some}
use Rattle.outside.specs.Files.{Files, SameLasting, lasting-same}
use Rattle.outside.specs.TreeView.{TreeView, passes_both}
use Rattle.outside.specs.Calls.{IsUntouched}
use Rattle.outside.specs.SinkView.{SinkView, sink_passes_both, Receives, ReceivesPart}
use Rattle.outside.specs.ScratchView.{ScratchView}
use Rattle.outside.specs.Quiet.{Effect, IsQuiet, HasMade}
use Rattle.outside.proofs.Views.{rises_then, untouched_quiet}
use Rattle.outside.proofs.Effects.{made_none, made_tells_all}
use Rattle.outside.proofs.Writing.{received_part, received_both, part_longer, part_after}
use Rattle.hunk_core.specs.declared.Verdict.{Verdict}
use Rattle.line_store.specs.declared.fault.OpenFault.{OpenFault}
use Rattle.line_store.specs.declared.fault.OpenFault.TheVariants as open_fault
use Rattle.patch_gen.specs.Tree.{made}
use Rattle.patch_options.specs.PlainJob.{PlainOptions}
use Rattle.apply_task.specs.Making.{IsTidy, TidyAfter}
use Rattle.apply_task.specs.declared.fault.RunFault.{RunFault}
use Rattle.apply_task.specs.declared.fault.RunFault.TheVariants as runs
use Rattle.apply_task.proofs.EffectLists.{made_both}
use Rattle.apply_task.proofs.Tidy.{tidy_both, untouched_tidy}
use Rattle.patch_set.specs.SetView.{SetView}
use Rattle.patch_run.specs.Applied.{Receipt}
use Rattle.patch_run.specs.Run.{Run}
use Rattle.patch_run.specs.Doing.{IsPartOf, IsHalted, IsCutOff, QuietAfter, ReceivesBehind}
use Rattle.cli_tool_words.specs.PlainJobs.{PlainGenJob}
use Rattle.cli_run_answers.specs.declared.why.Why.{Why}
use Rattle.cli_run_answers.specs.declared.why.Why.TheVariants.{Done, Rejected, LongLine, FileTooLong, WriteFault, TreeFault, Memory}
use Rattle.cli_run_answers.specs.Answers.{is_fault, is_own, of_run, is_through}
use Rattle.patch_run.specs.Outcome.{end_of, receipt_if}
use Rattle.patch_run.proofs.Receipts.{receipt_end, receipt_fault}
use Rattle.patch_run.specs.Finishes.{IsToldTo, HasPlanCause, LeavesVerdicts, Finishes, verdicts_of}
use Rattle.patch_run.specs.Finishes as finishes
use Rattle.cli_gen.specs.Jobs.{options_for}
use Rattle.cli_gen.specs.Summary.{summary_of}
use Rattle.cli_gen.specs.Command.{summary, summary_if}
use Rattle.cli_gen.specs.Carries.{IsCutTelling}
use Rattle.cli_gen.specs.Telling.{IsUnmeasured, IsUnwritten, TellsOf}
use Rattle.cli_gen.specs.Ending.{run_in, ending_in, HasEndCause, IsRunAnswer, IsRunPart, RunAnswers, Ends}

-- ---- a run that was cut off

cut_memory : (e : RunFault) → ◌≡◌ {A = Result Receipt Why} (Err (of_run e)) (Err Memory) → ◌≡◌ {A = Result Receipt RunFault} (Err e) (Err runs.Memory)
cut_memory runs.Tree is = absurd (cc)
cut_memory runs.Write is = absurd (cc)
cut_memory runs.Scratch is = absurd (cc)
cut_memory (runs.LongLine line count) is = absurd (cc)
cut_memory (runs.FileTooLong count) is = absurd (cc)
cut_memory (runs.Disagree want got) is = absurd (cc)
cut_memory runs.Memory is = refl

module _ (j : PlainGenJob) (v : SetView) (t w : TreeView) (a b : ScratchView) (c d : SinkView) where
  cut_cause : (e : RunFault) → HasPlanCause e (options_for j) t w a b c d → HasEndCause (of_run e) j t w a b c d
  cut_cause runs.Tree h = h
  cut_cause runs.Write h = h
  cut_cause runs.Scratch h = h
  cut_cause (runs.LongLine line count) h = h
  cut_cause (runs.FileTooLong count) h = h
  cut_cause (runs.Disagree want got) h = h
  cut_cause runs.Memory h = tt

  cut_quiet : (e : RunFault) → QuietAfter {R = Receipt} (Err e) w → is_through (of_run e) ≡ true → IsQuiet w
  cut_quiet runs.Tree quiet is = absurd (false≢true is)
  cut_quiet runs.Write quiet is = absurd (false≢true is)
  cut_quiet runs.Scratch quiet is = absurd (false≢true is)
  cut_quiet (runs.LongLine line count) quiet is = quiet
  cut_quiet (runs.FileTooLong count) quiet is = quiet
  cut_quiet (runs.Disagree want got) quiet is = absurd (false≢true is)
  cut_quiet runs.Memory quiet is = absurd (false≢true is)

  cut_tidy : (e : RunFault) → TidyAfter {R = Receipt} (Err e) t w → is_fault (of_run e) ≡ false → IsTidy t w
  cut_tidy runs.Tree tidy is = absurd (false≢true (sym is))
  cut_tidy runs.Write tidy is = absurd (false≢true (sym is))
  cut_tidy runs.Scratch tidy is = absurd (false≢true (sym is))
  cut_tidy (runs.LongLine line count) tidy is = tidy
  cut_tidy (runs.FileTooLong count) tidy is = tidy
  cut_tidy (runs.Disagree want got) tidy is = tidy
  cut_tidy runs.Memory tidy is = tidy

  module _ (f : Files) where
    abbrev run : Run
    run = run_in j v f

    cut_part : IsPartOf t w c d run.effects run.said → IsRunPart t w c d run (ending_in j v f)
    cut_part part = record { tells = part.tells; said = part_longer c d run.said (summary_if run.stop (summary j run)) part.said }

    -- a run that stopped has no summary
    halted : (fault : OpenFault) (why : Why) → end_of (Some fault) run.is_bad ≡ why → IsHalted t w c d run fault → IsRunAnswer (Err why) t w c d run (ending_in j v f)
    halted fault why is (stop, far) = record {
      is = sym (ap (λ s. end_of s run.is_bad) stop ∙ is);
      applied = sym (ap (λ s. receipt_if s (finishes.receipt_of v run)) stop);
      whole = record {
        made = far.made;
        said = subst (λ (l : List ℕ). Receives c d l) (sym (append-nil run.said) ∙ ap (λ s. run.said ++ summary_if s (summary j run)) (sym stop)) far.said;
        now = far.now;
      };
    }

    cut_answers : (e : RunFault) → IsCutOff e t w c d run → RunAnswers (is_own (of_run e)) (Err (of_run e)) t w c d run (ending_in j v f)
    cut_answers runs.Tree part = cut_part part
    cut_answers runs.Write part = cut_part part
    cut_answers runs.Scratch part = cut_part part
    cut_answers (runs.LongLine line count) part = halted (open_fault.LongLine line count) (LongLine line count) refl part
    cut_answers (runs.FileTooLong count) part = halted (open_fault.FileTooLong count) (FileTooLong count) refl part
    cut_answers (runs.Disagree want got) part = cut_part part
    cut_answers runs.Memory part = cut_part part

  pub ends_cut : (e : RunFault) → Finishes (options_for j) v t w a b c d (Err e) → Ends j v t w a b c d (Err (of_run e))
  ends_cut e does = record {
    tree = does.tree;
    scratch = does.scratch;
    sink = does.sink;
    cause = cut_cause e does.cause;
    quiet = cut_quiet e does.quiet;
    receipt = receipt_fault e;
    answers = λ f told. cut_answers f e (does.cut f told);
    moments = does.moments;
    starved = λ is paged. does.starved (cut_memory e is) paged;
    cut = λ own f told. ⊎_elim (λ none. inl none) (λ at. inr (inl (e, refl, at))) (does.cut_at f told);
    tidy = cut_tidy e does.tidy;
    pages = tt;
  }

-- ---- a run that came to its end, and its summary

-- what is made whole stays so while the tree isn't touched
untouched_made : {u w : TreeView} → IsUntouched u w → IsQuiet u → HasMade u w []
untouched_made {u = u} {w = w} same quiet = record {
  passes = same.passes;
  quiet = untouched_quiet same quiet;
  live = λ f g told now. subst (λ (x : Files). SameLasting f x) (same_Some _ _ (sym (same.told ∙ told) ∙ now)) (lasting-same f);
  since = λ f told c left. (made_none u quiet).since f told c ((same.since u.moment c (omega arith)).0 left);
}

made_on : {t u w : TreeView} (es : List Effect) → HasMade t u es → IsUntouched u w → HasMade t w es
made_on {t = t} {w = w} es made same = subst (λ (l : List Effect). HasMade t w l) (append-nil es) (made_both made (untouched_made same made.quiet))

end_cause : (bad : Bool) (j : PlainGenJob) (t w : TreeView) (a b : ScratchView) (c d : SinkView) → HasEndCause (if bad then Rejected else Done) j t w a b c d
end_cause true j t w a b c d = tt
end_cause false j t w a b c d = tt

end_own : (bad : Bool) → is_own (if bad then Rejected else Done) ≡ true
end_own true = refl
end_own false = refl

module _ (j : PlainGenJob) (v : SetView) (t u w : TreeView) (a b : ScratchView) (c m d : SinkView) (receipt : Receipt) (hunks : ℕ) (vs : List Verdict)
    (does : Finishes (options_for j) v t u a b c m (Ok receipt)) (verdicts : LeavesVerdicts (options_for j) v t a vs receipt) (is : hunks ≡ (made j.seed j.files j.lines).hunks) where
  abbrev line : Files → List ℕ
  line f = summary_of j.files hunks vs f receipt.is_bad

  module _ (f : Files) (told : IsToldTo (options_for j) t a f) where
    abbrev done : Run
    done = run_in j v f

    line_is : line done.files ≡ summary_if done.stop (summary j done)
    line_is =
        ap (λ n. summary_of j.files n vs done.files receipt.is_bad) is
        ∙ ap (λ (l : List Verdict). summary_of j.files (made j.seed j.files j.lines).hunks l done.files receipt.is_bad) (verdicts f told)
        ∙ ap (λ (r : Receipt). summary_of j.files (made j.seed j.files j.lines).hunks (verdicts_of done) done.files r.is_bad) (does.receipt f told)
        ∙ ap (λ s. summary_if s (summary j done)) (sym (does.going f told))

    made_all : IsUntouched u w → HasMade t w done.effects
    made_all same = made_on done.effects (does.whole f told).made same

    first_part : IsUntouched u w → ReceivesPart c d (ending_in j v f).text → IsRunPart t w c d done (ending_in j v f)
    first_part same said = record { tells = made_tells_all t w done.effects (made_all same); said = said }

    unmeasured : d ≡ m → ReceivesPart c d (ending_in j v f).text
    unmeasured still = part_longer c d done.said (summary_if done.stop (summary j done))
        (subst (λ (x : SinkView). ReceivesPart c x done.said) (sym still) (received_part c m done.said (does.whole f told).said))

    unwritten : ((g : Files) → u.told ≡ Some g → ReceivesPart m d (line g)) → ReceivesPart c d (ending_in j v f).text
    unwritten part = part_after c m d done.said (summary_if done.stop (summary j done)) (does.whole f told).said
        (subst (λ (l : List ℕ). ReceivesPart m d l) line_is (part done.files (does.whole f told).now))

    -- what is in the output of it, in front of a first part of the summary
    said_still : d ≡ m → ReceivesBehind c d done.said (summary j done)
    said_still still = λ b now. inr (zero, ap (λ (x : SinkView). x.told) still ∙ (does.whole f told).said b now ∙ ap (λ (l : List ℕ). Some l) (sym (append-nil (b ++ done.said))))

    said_part : ((g : Files) → u.told ≡ Some g → ReceivesPart m d (line g)) → ReceivesBehind c d done.said (summary j done)
    said_part part = λ b now.
        subst (λ (l : List ℕ). (d.told ≡ None) ⊎ ((n : ℕ) × (d.told ≡ Some ((b ++ done.said) ++ take n l)))) (line_is ∙ ap (λ s. summary_if s (summary j done)) (does.going f told))
        (part done.files (does.whole f told).now (b ++ done.said) ((does.whole f told).said b now))

    telling : (why : Why) → (why ≡ TreeFault) ⊎ (why ≡ WriteFault) → IsUntouched u w → ReceivesBehind c d done.said (summary j done) → IsCutTelling why j done w c d
    telling why is same said = record { is = is; going = does.going f told; files = same.told ∙ (does.whole f told).now; said = said }

    whole : (r : Receipt) → r ≡ receipt → IsUntouched u w → ((g : Files) → u.told ≡ Some g → Receives m d (line g)) → IsRunAnswer (Ok r) t w c d done (ending_in j v f)
    whole r same stays written = record {
      is = ap (λ (x : Receipt). if x.is_bad then Rejected else Done) (same ∙ does.receipt f told) ∙ sym (ap (λ s. end_of s done.is_bad) (does.going f told));
      applied = ap (λ (x : Receipt). Some x) (same ∙ does.receipt f told) ∙ sym (ap (λ s. receipt_if s (finishes.receipt_of v done)) (does.going f told));
      whole = record {
        made = made_all stays;
        said = received_both c m d done.said (summary_if done.stop (summary j done)) (does.whole f told).said
            (subst (λ (l : List ℕ). Receives m d l) line_is (written done.files (does.whole f told).now));
        now = stays.told ∙ (does.whole f told).now;
      };
    }

  ends_failed : (why : Why) → TellsOf receipt line u w m d (Err why) → IsUnmeasured why u w m d ⊎ IsUnwritten why u m d line → Ends j v t w a b c d (Err why)
  ends_failed why tells failed = ⊎_elim
      (λ (un : IsUnmeasured why u w m d). subst (λ (x : Why). Ends j v t w a b c d (Err x)) (sym un.is) (record {
        tree = passes_both does.tree tells.tree.passes;
        scratch = does.scratch;
        sink = sink_passes_both does.sink tells.sink;
        cause = rises_then t u w does.tree un.cause;
        quiet = λ is. absurd (false≢true is);
        receipt = refl;
        answers = λ f told. first_part f told tells.tree (unmeasured f told un.out);
        moments = λ f told. (made_all f told tells.tree).since;
        starved = λ is. absurd (cc);
        cut = λ own f told. inr (inr (telling f told TreeFault (inl refl) tells.tree (said_still f told un.out)));
        tidy = λ is. absurd (false≢true (sym is));
        pages = tt;
      }))
      (λ (un : IsUnwritten why u m d line). subst (λ (x : Why). Ends j v t w a b c d (Err x)) (sym un.is) (record {
        tree = passes_both does.tree tells.tree.passes;
        scratch = does.scratch;
        sink = sink_passes_both does.sink tells.sink;
        cause = λ small. omega (arith, un.cause small, does.sink.counts);
        quiet = λ is. absurd (false≢true is);
        receipt = refl;
        answers = λ f told. first_part f told tells.tree (unwritten f told un.part);
        moments = λ f told. (made_all f told tells.tree).since;
        starved = λ is. absurd (cc);
        cut = λ own f told. inr (inr (telling f told WriteFault (inr refl) tells.tree (said_part f told un.part)));
        tidy = λ is. absurd (false≢true (sym is));
        pages = tt;
      }))
      failed

  pub ends_run : (result : Result Receipt Why) → TellsOf receipt line u w m d result → Ends j v t w a b c d result
  ends_run (Ok r) tells = record {
    tree = passes_both does.tree tells.tree.passes;
    scratch = does.scratch;
    sink = sink_passes_both does.sink tells.sink;
    cause = end_cause r.is_bad j t w a b c d;
    quiet = λ is. untouched_quiet tells.tree does.quiet;
    receipt = receipt_end r.is_bad r refl;
    answers = λ f told. subst (λ own. RunAnswers own (Ok r) t w c d (run_in j v f) (ending_in j v f)) (sym (end_own r.is_bad)) (whole f told r tells.same tells.tree tells.written);
    moments = λ f told. (made_all f told tells.tree).since;
    starved = λ is. absurd (cc);
    cut = λ own. absurd (false≢true (sym own ∙ end_own r.is_bad));
    tidy = λ is. tidy_both t u w does.tree does.tidy (untouched_tidy tells.tree);
    pages = λ f before told was. does.holds f before told was;
  }
  ends_run (Err why) tells = ends_failed why tells tells.failed

-- ---- by the names of what was answered

pub ends_of_cut : (j : PlainGenJob) (v : SetView) (t w : TreeView) (a b : ScratchView) (c d : SinkView) (o : PlainOptions) (r : Result Receipt RunFault) (e : RunFault) (why : Why) → o ≡ options_for j → r ≡ Err e → why ≡ of_run e
    → Finishes o v t w a b c d r → Ends j v t w a b c d (Err why)
ends_of_cut j v t w a b c d o r e why same is says does =
    subst (λ (x : Why). Ends j v t w a b c d (Err x)) (sym says)
    (ends_cut j v t w a b c d e (subst (λ (x : PlainOptions). Finishes x v t w a b c d (Err e)) same (subst (λ (x : Result Receipt RunFault). Finishes o v t w a b c d x) is does)))

pub ends_of_run : (j : PlainGenJob) (v : SetView) (t u w : TreeView) (a b : ScratchView) (c m d : SinkView) (o : PlainOptions) (r : Result Receipt RunFault) (receipt : Receipt) (hunks : ℕ) (vs ws : List Verdict)
    → o ≡ options_for j → r ≡ Ok receipt → Finishes o v t u a b c m r → IfOk r (LeavesVerdicts o v t a ws) → vs ≡ ws → hunks ≡ (made j.seed j.files j.lines).hunks
    → (result : Result Receipt Why) → TellsOf receipt (λ f. summary_of j.files hunks vs f receipt.is_bad) u w m d result → Ends j v t w a b c d result
ends_of_run j v t u w a b c m d o r receipt hunks vs ws same is does verdicts held count result tells =
    ends_run j v t u w a b c m d receipt hunks vs
    (subst (λ (x : PlainOptions). Finishes x v t u a b c m (Ok receipt)) same (subst (λ (x : Result Receipt RunFault). Finishes o v t u a b c m x) is does))
    (subst (λ (x : PlainOptions). LeavesVerdicts x v t a vs receipt) same (subst (λ (x : List Verdict). LeavesVerdicts o v t a x receipt) (sym held) (subst (λ (x : Result Receipt RunFault). IfOk x (LeavesVerdicts o v t a ws)) is verdicts)))
    count result tells
