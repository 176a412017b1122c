-- A run that goes on from a settled tree, as one from before it was settled.
use Rattle.std.proofs.Common.{◌≡◌, inl, inr, ⊎_elim, ℕ, List, Bool, true, false, Result, Ok, Err, sym, ◌∙◌, arith}
use Rattle.outside.specs.Files.{Files}
use Rattle.outside.specs.TreeView.{TreeView, passes_both}
use Rattle.outside.specs.FinderView.{FinderView}
use Rattle.outside.specs.SourceView.{SourceView}
use Rattle.outside.specs.SinkView.{SinkView}
use Rattle.outside.proofs.Views.{rises_then, since_split}
use Rattle.patch_options.specs.declared.options.WordFault.{WordFault}
use Rattle.cli_tool_words.specs.PlainJobs.{PlainToolJob}
use Rattle.cli_tool_words.specs.PlainJobs.PlainToolJob.{list_job, filter_job, grep_job, split_job, recount_job, gen_job, flip_job, stack_job}
use Rattle.cli_run_answers.specs.declared.why.Why.{Why}
use Rattle.cli_run_answers.specs.declared.why.Why.TheVariants.{Done, Rejected, Usage, Malformed, Garbage, EdReverse, OutMany, Reserved, NoPatchFile, TooLong, LongLine, FileTooLong, BadPattern, NoContext, Unfit, BadState, StackEnd, StackName, ReadFault, WriteFault, TreeFault, ScratchFault, Disagree, Memory}
use Rattle.cli_run_answers.specs.Answers.{is_own}
use Rattle.cli_run_answers.specs.Moments.{Opens, FirstPart}
use Rattle.cli_run_answers.specs.Outcomes.{Outcome}
use Rattle.cli_run_answers.proofs.Opens.{opens_both, tidy_behind}
use Rattle.cli_filter.specs.Worlds.{World, world, Tells}
use Rattle.cli_filter.specs.Causes.{HasCause}
use Rattle.cli_filter.specs.Carries.{IsAnswer, Answers, IsAsAtEntry, BreaksOff, Carries}
use Rattle.cli_filter.proofs.Whole.{carries_does}

module _ (job : Result PlainToolJob WordFault) (t v : TreeView) (h : FinderView) (a : SourceView) (c : SinkView) (opens : Opens t v) where
  tells_behind : (f : Files) (left : List ℕ) → Tells job (world t h a c) f left → Tells job (world v h a c) f left
  tells_behind f left told = record { files = λ named. opens.told ∙ told.files named; source = told.source }

  module _ (w : World) where
    cause_behind : (why : Why) → HasCause why job (world v h a c) w → HasCause why job (world t h a c) w
    cause_behind Done cause = cause
    cause_behind Rejected cause = absurd cause
    cause_behind Usage cause = cause
    cause_behind (Malformed line kind) cause = cause
    cause_behind Garbage cause = cause
    cause_behind (EdReverse line) cause = cause
    cause_behind (OutMany count) cause = cause
    cause_behind (Reserved line) cause = cause
    cause_behind NoPatchFile cause = cause
    cause_behind TooLong cause = cause
    cause_behind (LongLine line length) cause = absurd cause
    cause_behind (FileTooLong length) cause = absurd cause
    cause_behind BadPattern cause = cause
    cause_behind (NoContext line) cause = cause
    cause_behind (Unfit line) cause = cause
    cause_behind (BadState file) cause = absurd cause
    cause_behind (StackEnd applied) cause = absurd cause
    cause_behind (StackName line) cause = absurd cause
    cause_behind ReadFault cause = cause
    cause_behind WriteFault cause = cause
    cause_behind TreeFault cause = rises_then t v w.tree opens.passes cause
    cause_behind ScratchFault cause = absurd cause
    cause_behind (Disagree want got) cause = (cause.0, cause.1, sym opens.told ∙ cause.2)
    cause_behind Memory cause = cause

    first_behind : (o : Outcome) → FirstPart v w.tree c w.out o.effects o.text → FirstPart t w.tree c w.out o.effects o.text
    first_behind o part = record { tells = λ f g was now. part.tells f g (opens.told ∙ was) now; said = part.said }

    answer_behind : (why : Why) (f : Files) (o : Outcome) → IsAnswer why f (world v h a c) w o → IsAnswer why f (world t h a c) w o
    answer_behind why f o answer = record { is = answer.is; text = answer.text; files = λ told. answer.files (opens.told ∙ told) }

    answers_behind : (b : Bool) (why : Why) (f : Files) (o : Outcome) → Answers b why f (world v h a c) w o → Answers b why f (world t h a c) w o
    answers_behind true why f o answer = answer_behind why f o answer
    answers_behind false why f o part = first_behind o part

    entry_behind : Opens v w.tree → w.out ≡ c → IsAsAtEntry (world t h a c) w
    entry_behind more out = let both = opens_both opens more in record { told = both.told; out = out; images = both.images }

    module _ (why : Why) (done : Carries job (world v h a c) w why) where
      opens_more : IsAsAtEntry (world v h a c) w → Opens v w.tree
      opens_more same = record { passes = done.tree; told = same.told; images = same.images }

      same_behind : IsAsAtEntry (world v h a c) w → IsAsAtEntry (world t h a c) w
      same_behind same = entry_behind (opens_more same) same.out

      breaks_behind : (j : Result PlainToolJob WordFault) (f : Files) → BreaksOff j why f (world v h a c) w → BreaksOff j why f (world t h a c) w
      breaks_behind (Ok (list_job j)) f cut = tt
      breaks_behind (Ok (filter_job j)) f cut = tt
      breaks_behind (Ok (grep_job j)) f cut = tt
      breaks_behind (Ok (split_job j)) f cut = ⊎_elim (λ same. inl (same_behind same)) (λ parts. inr parts) cut
      breaks_behind (Ok (recount_job input)) f cut = tt
      breaks_behind (Ok (gen_job j)) f cut = tt
      breaks_behind (Ok (flip_job input)) f cut = tt
      breaks_behind (Ok (stack_job op)) f cut = tt
      breaks_behind (Err fault) f cut = tt

      pub carries_behind : Carries job (world t h a c) w why
      carries_behind = carries_does why (record {
        tree = passes_both opens.passes done.tree;
        finder = done.finder;
        source = done.source;
        sink = done.sink;
        cause = cause_behind why done.cause;
        untouched = λ early. same_behind (done.untouched early);
        still = λ none. opens_both opens (done.still none);
        quiet = done.quiet;
        read = done.read;
        unread = done.unread;
        taken = done.taken;
        answers = λ f left told.
            let (o, is, answer) = done.answers f left (tells_behind f left told) in
            (o, is, answers_behind (is_own why) why f o answer);
        images = λ f left told d since. ⊎_elim
            (λ before. inl (opens.images d before))
            (λ later. ⊎_elim
            (λ may. inl (opens.images d (v.moment, opens.passes.later, omega arith, may)))
            (λ part. inr part)
            (done.images f left (tells_behind f left told) d later))
            (since_split done.tree t.moment d opens.passes.later since);
        cut = λ own f left told. breaks_behind job f (done.cut own f left (tells_behind f left told));
        tidy = λ none. tidy_behind t v w.tree opens.told (done.tidy none);
      })
