-- An end before the first change.
use Rattle.std.proofs.Common.{◌≡◌, inl, ℕ, List, false, None, Result, refl, sym, subst}
use Rattle.outside.specs.Files.{Files}
use Rattle.outside.specs.SinkView.{SinkView, SinkPasses, sink_passes_none}
use Rattle.outside.specs.SourceView.{SourcePasses}
use Rattle.outside.specs.ScratchView.{ScratchView, ScratchPasses, scratch_passes_none}
use Rattle.patch_options.specs.PlainJob.{PlainJob}
use Rattle.patch_options.specs.Words.{job_of}
use Rattle.patch_options.specs.declared.options.WordFault.{WordFault}
use Rattle.cli_run_answers.specs.Input.{TakesAtMost}
use Rattle.cli_run_answers.specs.declared.why.Why.{Why}
use Rattle.cli_run_answers.specs.declared.why.Why.TheVariants.{Done, Rejected, Usage, Malformed, Garbage, EdReverse, OutMany, Reserved, NoPatchFile, TooLong, LongLine, FileTooLong, BadPattern, NoContext, Unfit, BadState, StackEnd, StackName, ReadFault, WriteFault, TreeFault, ScratchFault, Disagree, Memory}
use Rattle.cli_run_answers.specs.Moments.{IsAsAtEntry, Opens}
use Rattle.patch_run.specs.Outcome.{Outcome}
use Rattle.patch_run.specs.Answer.{HasReceipt, IsAnswer}
use Rattle.patch_run.proofs.Entry.{nothing_yet, refused_so}
use Rattle.patch_cli.specs.Answers.{Sort, sort_of}
use Rattle.patch_cli.specs.Answers.Sort.{ended, halted, refusal, unread, broken, starved}
use Rattle.patch_cli.specs.Command.{on_job}
use Rattle.patch_cli.specs.Worlds.{World, TellsFiles, TellsLeft, TellsInput, reads_source}
use Rattle.patch_cli.specs.Opening.{StopsBy, StopsEarly}
use Rattle.patch_cli.specs.Carries.{Answers, Untouched, QuietAfter, IsBehindReading, IsEnd, Heeds, BreaksOff, Carries}
use Rattle.cli_run_answers.proofs.Opens.{tidy_same}
use Rattle.patch_cli.proofs.Asked.{tells_input}

no_receipt : (why : Why) (job : Result PlainJob WordFault) (u : World) → StopsBy (sort_of why) why job u → HasReceipt why None
no_receipt Done job u stops = absurd stops
no_receipt Rejected job u stops = absurd stops
no_receipt Usage job u stops = refl
no_receipt (Malformed line kind) job u stops = refl
no_receipt Garbage job u stops = refl
no_receipt (EdReverse line) job u stops = refl
no_receipt (OutMany count) job u stops = refl
no_receipt (Reserved line) job u stops = refl
no_receipt NoPatchFile job u stops = refl
no_receipt TooLong job u stops = refl
no_receipt (LongLine line length) job u stops = refl
no_receipt (FileTooLong length) job u stops = refl
no_receipt BadPattern job u stops = refl
no_receipt (NoContext line) job u stops = refl
no_receipt (Unfit line) job u stops = refl
no_receipt (BadState file) job u stops = refl
no_receipt (StackEnd applied) job u stops = refl
no_receipt (StackName line) job u stops = refl
no_receipt ReadFault job u stops = refl
no_receipt WriteFault job u stops = refl
no_receipt TreeFault job u stops = refl
no_receipt ScratchFault job u stops = refl
no_receipt (Disagree want got) job u stops = refl
no_receipt Memory job u stops = refl

module _ (u w : World) (why : Why) (job : Result PlainJob WordFault) (same : IsAsAtEntry u.tree w.tree u.scratch w.scratch u.out w.out) where
  untouched_early : (s : Sort) → Untouched s u w
  untouched_early ended = tt
  untouched_early halted = tt
  untouched_early refusal = same
  untouched_early unread = same
  untouched_early broken = tt
  untouched_early starved = tt

  quiet_early : (s : Sort) → StopsBy s why job u → QuietAfter s w
  quiet_early ended stops = absurd stops
  quiet_early halted stops = absurd stops
  quiet_early refusal stops = tt
  quiet_early unread stops = tt
  quiet_early broken stops = tt
  quiet_early starved stops = tt

  not_behind : (s : Sort) → StopsBy s why job u → IsBehindReading s → ⊥
  not_behind ended stops is = stops
  not_behind halted stops is = stops
  not_behind refusal stops is = is
  not_behind unread stops is = is
  not_behind broken stops is = is
  not_behind starved stops is = is

  no_end : (s : Sort) → StopsBy s why job u → IsEnd s → ⊥
  no_end ended stops is = stops
  no_end halted stops is = is
  no_end refusal stops is = is
  no_end unread stops is = is
  no_end broken stops is = is
  no_end starved stops is = is

  answers_early : (s : Sort) → StopsBy s why job u → (f : Files) (left : List ℕ) → TellsFiles job u f → TellsLeft job u left → Answers s why None f u w (on_job job f left)
  answers_early ended stops f left told tells = absurd stops
  answers_early halted stops f left told tells = absurd stops
  answers_early refusal stops f left told tells = subst (λ (x : Outcome). IsAnswer why None f w.tree u.out w.out x) (sym (stops f left (tells_input job u f left told tells))) (refused_so same why f told.files)
  answers_early unread stops f left told tells = nothing_yet same f (on_job job f left) told.files
  answers_early broken stops f left told tells = nothing_yet same f (on_job job f left) told.files
  answers_early starved stops f left told tells = nothing_yet same f (on_job job f left) told.files

  heeds_early : (s : Sort) → StopsBy s why job u → (f : Files) (left : List ℕ) → TellsInput job u f left → Heeds s why job u w f left
  heeds_early ended stops f left told = absurd stops
  heeds_early halted stops f left told = absurd stops
  heeds_early refusal stops f left told = stops f left told
  heeds_early unread stops f left told = tt
  heeds_early broken stops f left told = inl same
  heeds_early starved stops f left told = inl same

  breaks_early : (s : Sort) (f : Files) (left : List ℕ) → BreaksOff s why job u w f left
  breaks_early ended f left = tt
  breaks_early halted f left = tt
  breaks_early refusal f left = tt
  breaks_early unread f left = tt
  breaks_early broken f left = inl same
  breaks_early starved f left = inl same

pub carries_early : {words : List (List ℕ)} {u w : World} {why : Why} → Opens u.tree w.tree → w.scratch ≡ u.scratch → w.out ≡ u.out → SourcePasses u.source w.source → TakesAtMost 268435457 u.source w.source
    → (reads_source (job_of words) ≡ false → w.source ≡ u.source) → StopsEarly why (job_of words) u w → Carries words u w why None
carries_early {words = words} {u = u} {w = w} {why = why} opens scratch out source taken none_read stops =
    let same : IsAsAtEntry u.tree w.tree u.scratch w.scratch u.out w.out = record { told = opens.told; scratch = scratch; out = out; images = opens.images } in
    let job = job_of words in
    record {
      tree = opens.passes;
      scratch = subst (λ (x : ScratchView). ScratchPasses u.scratch x) (sym scratch) (scratch_passes_none u.scratch);
      source = source;
      sink = subst (λ (x : SinkView). SinkPasses u.out x) (sym out) (sink_passes_none u.out);
      cause = stops.cause;
      untouched = untouched_early u w why job same (sort_of why);
      quiet = quiet_early u w why job same (sort_of why) stops.stops;
      receipt = no_receipt why job u stops.stops;
      starved = λ is pages. inl same;
      read = λ behind reads left told. absurd (not_behind u w why job same (sort_of why) stops.stops behind);
      unread = none_read;
      taken = taken;
      answers = λ f left told tells. answers_early u w why job same (sort_of why) stops.stops f left told tells;
      images = λ f left told tells c since. inl (opens.images c since);
      heeds = λ f left told. heeds_early u w why job same (sort_of why) stops.stops f left told;
      cut = λ f left told tells. breaks_early u w why job same (sort_of why) f left;
      tidy = λ is. tidy_same u.tree w.tree opens.told;
      dry = λ is. opens;
      pages = λ is f left before told tells was. absurd (no_end u w why job same (sort_of why) stops.stops is);
    }
