-- A run that goes on from a settled tree, as one from before it was settled.
use Rattle.std.proofs.Common.{inl, inr, ⊎_elim, Bool, true, false, Option, Result, Ok, Err, ◌∙◌, arith}
use Rattle.outside.specs.Files.{Files}
use Rattle.outside.specs.TreeView.{TreeView, passes_both}
use Rattle.outside.specs.SinkView.{SinkView}
use Rattle.outside.specs.ScratchView.{ScratchView}
use Rattle.outside.proofs.Views.{rises_then, since_split}
use Rattle.patch_options.specs.declared.options.WordFault.{WordFault}
use Rattle.cli_tool_words.specs.PlainJobs.{PlainGenJob}
use Rattle.patch_run.specs.Applied.{Receipt}
use Rattle.cli_run_answers.specs.declared.why.Why.{Why}
use Rattle.cli_run_answers.specs.declared.why.Why.TheVariants.{Done, Rejected, Usage, Malformed, Garbage, EdReverse, OutMany, Reserved, NoPatchFile, TooLong, LongLine, FileTooLong, BadPattern, NoContext, Unfit, BadState, StackEnd, StackName, ReadFault, WriteFault, TreeFault, ScratchFault, Disagree, Memory}
use Rattle.cli_run_answers.specs.Answers.{is_own}
use Rattle.cli_run_answers.specs.Moments.{Opens, IsAsAtEntry}
use Rattle.cli_run_answers.specs.Worlds.{World, world}
use Rattle.cli_run_answers.proofs.Opens.{opens_both, tidy_behind}
use Rattle.patch_run.specs.Outcome.{Outcome}
use Rattle.cli_gen.specs.Command.{command}
use Rattle.cli_gen.specs.Worlds.{Tells}
use Rattle.cli_gen.specs.Causes.{HasCause}
use Rattle.cli_gen.specs.Carries.{Answers, BreaksOff, Carries, IsCutPutting, StarvesEarly}
use Rattle.cli_gen.proofs.Whole.{carries_does}

module _ (job : Result PlainGenJob WordFault) (t v : TreeView) (a : ScratchView) (c : SinkView) (opens : Opens t v) where
  tells_behind : (f : Files) → Tells job (world t a c) f → Tells job (world v a c) f
  tells_behind f told = record { files = opens.told ∙ told.files; scratch = told.scratch }

  module _ (w : World) where
    cause_behind : (why : Why) → HasCause why job (world v a c) w → HasCause why job (world t a c) w
    cause_behind Done cause = cause
    cause_behind Rejected cause = cause
    cause_behind Usage cause = cause
    cause_behind (Malformed line kind) cause = cause
    cause_behind Garbage cause = cause
    cause_behind (EdReverse line) cause = cause
    cause_behind (OutMany count) cause = cause
    cause_behind (Reserved line) cause = cause
    cause_behind NoPatchFile cause = absurd cause
    cause_behind TooLong cause = cause
    cause_behind (LongLine line length) cause = cause
    cause_behind (FileTooLong length) cause = cause
    cause_behind BadPattern cause = absurd cause
    cause_behind (NoContext line) cause = absurd cause
    cause_behind (Unfit line) cause = absurd cause
    cause_behind (BadState file) cause = absurd cause
    cause_behind (StackEnd applied) cause = absurd cause
    cause_behind (StackName line) cause = absurd cause
    cause_behind ReadFault cause = absurd cause
    cause_behind WriteFault cause = cause
    cause_behind TreeFault cause = rises_then t v w.tree opens.passes cause
    cause_behind ScratchFault cause = cause
    cause_behind (Disagree want got) cause = (cause.0, λ f told. cause.1 f (tells_behind f told))
    cause_behind Memory cause = cause

    answers_behind : (b : Bool) (why : Why) (given : Option Receipt) (f : Files) (o : Outcome) → Answers b why given f (world v a c) w o → Answers b why given f (world t a c) w o
    answers_behind true why given f o answer = record { is = answer.is; text = answer.text; files = answer.files; made = answer.made; applied = answer.applied }
    answers_behind false why given f o part = record { tells = λ f g was now. part.tells f g (opens.told ∙ was) now; said = part.said }

    module _ (why : Why) (given : Option Receipt) (done : Carries job (world v a c) w why given) where
      opens_more : IsAsAtEntry v w.tree a w.scratch c w.out → Opens v w.tree
      opens_more same = record { passes = done.tree; told = same.told; images = same.images }

      same_behind : IsAsAtEntry v w.tree a w.scratch c w.out → IsAsAtEntry t w.tree a w.scratch c w.out
      same_behind same = let both = opens_both opens (opens_more same) in record { told = both.told; scratch = same.scratch; out = same.out; images = both.images }

      breaks_behind : (x : Result PlainGenJob WordFault) (f : Files) → BreaksOff why x (world v a c) w f → BreaksOff why x (world t a c) w f
      breaks_behind (Ok j) f cut = ⊎_elim
          (λ same. inl (same_behind same))
          (λ later. inr (⊎_elim
          (λ (putting : IsCutPutting why j v w.tree a w.scratch c w.out). inl (record {
            is = putting.is;
            tells = λ x g was now. putting.tells x g (opens.told ∙ was) now;
            scratch = putting.scratch;
            out = putting.out;
          }))
          (λ more. inr more)
          later))
          cut
      breaks_behind (Err fault) f cut = ⊎_elim (λ same. inl (same_behind same)) (λ never. absurd never) cut

      starved_behind : (x : Result PlainGenJob WordFault) (f : Files) → StarvesEarly x (world v a c) w f → StarvesEarly x (world t a c) w f
      starved_behind (Ok j) f starves = λ paged. ⊎_elim (λ same. inl (same_behind same)) (λ before. inr before) (starves paged)
      starved_behind (Err fault) f starves = tt

      pub carries_behind : Carries job (world t a c) w why given
      carries_behind = carries_does why given (record {
        tree = passes_both opens.passes done.tree;
        scratch = done.scratch;
        sink = done.sink;
        cause = cause_behind why done.cause;
        untouched = λ early. same_behind (done.untouched early);
        quiet = done.quiet;
        receipt = done.receipt;
        answers = λ f told. answers_behind (is_own why) why given f (command job f) (done.answers f (tells_behind f told));
        images = λ f told d since. ⊎_elim
            (λ before. inl (opens.images d before))
            (λ later. ⊎_elim
            (λ may. inl (opens.images d (v.moment, opens.passes.later, omega arith, may)))
            (λ part. inr part)
            (done.images f (tells_behind f told) d later))
            (since_split done.tree t.moment d opens.passes.later since);
        starved = λ is f told. starved_behind job f (done.starved is f (tells_behind f told));
        cut = λ own f told. breaks_behind job f (done.cut own f (tells_behind f told));
        tidy = λ none. tidy_behind t v w.tree opens.told (done.tidy none);
        pages = λ is f before told was. done.pages is f before (tells_behind f told) was;
      })
