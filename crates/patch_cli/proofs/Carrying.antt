-- How a run is put together from the steps before its first change, and its file patches.
use Rattle.std.proofs.Common.{◌≡◌, ◌++◌, ◌⊎◌, inl, inr, ⊎_elim, ℕ, List, [], length, true, false, Bool, ◌||◌, if◌then◌else◌, Option, Some, None, Result, Ok, Err, refl, sym, ◌∙◌, ap, subst, arith}
use Rattle.outside.specs.Files.{Files}
use Rattle.outside.specs.TreeView.{TreeView, Passes, passes_both}
use Rattle.outside.specs.SourceView.{SourcePasses}
use Rattle.outside.specs.Calls.{IsUntouched}
use Rattle.outside.specs.Quiet.{LeavesPrefix}
use Rattle.outside.specs.SinkView.{SinkView, SinkPasses, sink_passes_both, Receives, ReceivesPart}
use Rattle.outside.specs.SinkView as sink
use Rattle.outside.specs.ScratchView.{ScratchView, ScratchPasses, scratch_passes_none}
use Rattle.outside.proofs.Writing.{received_both, received_part, part_after, part_longer}
use Rattle.outside.proofs.Views.{rises_then, since_split}
use Rattle.line_store.specs.declared.fault.OpenFault.{OpenFault}
use Rattle.line_store.specs.declared.fault.OpenFault.TheVariants as open_fault
use Rattle.patch_options.specs.PlainJob.{PlainOptions, PlainJob}
use Rattle.patch_options.specs.PlainJob.PlainJob.{patch}
use Rattle.patch_options.specs.Words.{job_of}
use Rattle.patch_options.specs.declared.options.WordFault.{WordFault}
use Rattle.patch_set.specs.SetView.{SetView, plain_patches}
use Rattle.cli_run_answers.specs.Input.{TakesAtMost}
use Rattle.patch_run.specs.Applied.{Receipt}
use Rattle.patch_run.specs.Run.{Run, items_of, set_run}
use Rattle.patch_run.specs.Doing as doing
use Rattle.apply_task.specs.Faults.{of_open}
use Rattle.apply_task.specs.Making.{IsTidy, UnlessFailed}
use Rattle.apply_task.specs.declared.fault.RunFault.{RunFault}
use Rattle.apply_task.specs.declared.fault.RunFault.TheVariants as runs
use Rattle.cli_run_answers.specs.declared.why.Why.{Why}
use Rattle.cli_run_answers.specs.declared.why.Why.TheVariants.{Done, Rejected, Usage, Malformed, Garbage, EdReverse, OutMany, Reserved, NoPatchFile, TooLong, LongLine, FileTooLong, BadPattern, NoContext, Unfit, BadState, StackEnd, StackName, ReadFault, WriteFault, TreeFault, ScratchFault, Disagree, Memory}
use Rattle.cli_run_answers.specs.Answers.{is_fault, of_run}
use Rattle.cli_run_answers.specs.Moments.{FirstPart, IsAsAtEntry, LeavesAllowed, Opens}
use Rattle.patch_run.specs.Outcome.{Outcome, carried_out, end_of, receipt_if}
use Rattle.patch_run.specs.Answer.{IsAnswer}
use Rattle.apply_backup_numbers.specs.Numbering.{asks_numbers}
use Rattle.patch_cli.specs.Numbered.{IsMade}
use Rattle.patch_cli.proofs.Numbered.{cut-made}
use Rattle.patch_run.proofs.Entry.{nothing_yet}
use Rattle.patch_run.proofs.Receipts.{memory_end, receipt_end, receipt_fault}
use Rattle.patch_cli.specs.Answers.{Sort, sort_of, IsEarly}
use Rattle.patch_cli.specs.Answers.Sort.{ended}
use Rattle.patch_cli.specs.Damaged.{has_damaged}
use Rattle.patch_cli.specs.Returns.{strips_returns, stripping_line, says_stripping, first_said}
use Rattle.patch_cli.specs.Command.{Reads, bad_where, behind, command, on_job}
use Rattle.patch_cli.specs.Worlds.{World, TellsFiles, TellsLeft, TellsInput, AsksFor, reads_source, pages_all}
use Rattle.patch_cli.specs.Causes.{HasCause}
use Rattle.patch_run.specs.Scratches.{scratch_behind_all}
use Rattle.patch_run.specs.Finishes.{IsToldTo, HasPlanCause, Finishes}
use Rattle.patch_run.specs.Finishes as finishes
use Rattle.patch_cli.specs.Opening.{IsAsked}
use Rattle.patch_cli.specs.Carries.{Answers, Untouched, QuietAfter, IsEnd, HasRead, Heeds, HasBegun, HasSaidFirst, IsCut, BreaksOff, Carries, NoneFailed, IsComplete}
use Rattle.cli_run_answers.proofs.Opens.{opens_both, opens_untouched, tidy_behind}
use Rattle.patch_cli.proofs.Asked.{tells_input, carried-match}
use Rattle.patch_cli.proofs.Stripping.{Begins, loud}

-- ---- behind the reading: an answer of the run, or a first part of it
module _ (u w : World) {v : TreeView} (opens : Opens u.tree v) where
  told_to : (o : PlainOptions) (f : Files) → TellsFiles (Ok (patch o)) u f → IsToldTo o v u.scratch f
  told_to o f told = record { files = opens.told ∙ told.files; scratch = told.scratch }

  tidy_fault : (e : RunFault) → UnlessFailed e (IsTidy v w.tree) → is_fault (of_run e) ≡ false → IsTidy u.tree w.tree
  tidy_fault runs.Tree tidy is = absurd (cc)
  tidy_fault runs.Write tidy is = absurd (cc)
  tidy_fault runs.Scratch tidy is = absurd (cc)
  tidy_fault (runs.LongLine line length) tidy is = tidy_behind u.tree v w.tree opens.told tidy
  tidy_fault (runs.FileTooLong length) tidy is = tidy_behind u.tree v w.tree opens.told tidy
  tidy_fault (runs.Disagree want got) tidy is = tidy_behind u.tree v w.tree opens.told tidy
  tidy_fault runs.Memory tidy is = tidy_behind u.tree v w.tree opens.told tidy

  -- behind what is said first
  module _ (o : PlainOptions) (strips : Bool) {m : SinkView} (begins : Begins o strips u.out m) where
    abbrev first : List ℕ
    first = first_said o strips

    part_on : (r : Run) (count : ℕ) → doing.IsPartOf v w.tree m w.out r.effects r.said → FirstPart u.tree w.tree u.out w.out r.effects (first ++ r.said)
    part_on r count part = record { tells = λ f g was now. part.tells f g (opens.told ∙ was) now; said = part_after u.out m w.out first r.said begins.first part.said }

    far_on : (r : Run) (count : ℕ) (why : Why) (applied : Option Receipt) (f : Files) → u.tree.told ≡ Some f → doing.IsFar v w.tree m w.out r
        → why ≡ (carried_out count r).why → applied ≡ (carried_out count r).applied → IsAnswer why applied f w.tree u.out w.out (behind first (carried_out count r))
    far_on r count why applied f told far is receipt = record {
      is = is;
      text = received_both u.out m w.out first r.said begins.first far.said;
      files = far.now;
      made = far.made.live f r.files (opens.told ∙ told) far.now;
      applied = receipt;
    }

    stop_on : (r : Run) (count : ℕ) (why : Why) (f : Files) → u.tree.told ≡ Some f → doing.IsFar v w.tree m w.out r
        → (fault : OpenFault) → r.stop ≡ Some fault → why ≡ of_run (of_open fault) → IsAnswer why None f w.tree u.out w.out (behind first (carried_out count r))
    stop_on r count why f told far fault stop is = far_on r count why None f told far
        (is ∙ sym (ap (λ s. end_of s r.is_bad) stop))
        (sym (ap (λ s. receipt_if s (record { is_bad = r.is_bad; done = count; effects = length r.effects })) stop))

    -- a fault's answer
    answers_fault : (e : RunFault) (r : Run) (bad : Bool) (count : ℕ) (f : Files) → u.tree.told ≡ Some f → doing.IsCutOff e v w.tree m w.out r
        → Answers (sort_of (of_run e)) (of_run e) None f u w (behind first (carried_out count (bad_where bad r)))
    answers_fault runs.Tree r bad count f told cut = part_on r count cut
    answers_fault runs.Write r bad count f told cut = part_on r count cut
    answers_fault runs.Scratch r bad count f told cut = part_on r count cut
    answers_fault (runs.LongLine line length) r bad count f told cut = stop_on (bad_where bad r) count (LongLine line length) f told cut.1 (open_fault.LongLine line length) cut.0 refl
    answers_fault (runs.FileTooLong length) r bad count f told cut = stop_on (bad_where bad r) count (FileTooLong length) f told cut.1 (open_fault.FileTooLong length) cut.0 refl
    answers_fault (runs.Disagree want got) r bad count f told cut = part_on r count cut
    answers_fault runs.Memory r bad count f told cut = part_on r count cut

    cause_fault : (e : RunFault) → HasPlanCause e o v w.tree u.scratch w.scratch m w.out → HasCause (of_run e) (Ok (patch o)) u w
    cause_fault runs.Tree cause = rises_then u.tree v w.tree opens.passes cause
    cause_fault runs.Write cause = λ small. omega (arith, cause small, begins.passes.counts)
    cause_fault runs.Scratch cause = cause
    cause_fault (runs.LongLine line length) cause = cause
    cause_fault (runs.FileTooLong length) cause = cause
    cause_fault (runs.Disagree want got) cause = (cause.0, λ f told. cause.1 f (told_to o f told))
    cause_fault runs.Memory cause = tt

    -- a paged plan that found no memory hasn't begun
    abbrev NoneYet : Type 0
    NoneYet = IsAsAtEntry u.tree w.tree u.scratch w.scratch u.out w.out ⊎ ((says_stripping o strips ≡ true) × HasBegun u w)

    not_begun : finishes.IsNotBegun v w.tree u.scratch w.scratch m w.out → NoneYet
    not_begun none =
        let both = opens_both opens (opens_untouched none.tree) in
        elim (says_stripping o strips) as (λ b. says_stripping o strips ≡ b → NoneYet) [
          | true ↦ λ is. inr (
            is,
            record {
              told = both.told;
              scratch = none.scratch;
              images = both.images;
              said = subst (λ (x : SinkView). ReceivesPart u.out x stripping_line) (sym none.out)
                  (received_part u.out m stripping_line (subst (λ (b : Bool). Receives u.out m (if b then stripping_line else [])) is begins.first));
            },
          )
          | false ↦ λ is. inl (record { told = both.told; scratch = none.scratch; out = none.out ∙ begins.still is; images = both.images })
        ] refl

module _ (u w : World) where
  untouched_fault : (e : RunFault) → Untouched (sort_of (of_run e)) u w
  untouched_fault runs.Tree = tt
  untouched_fault runs.Write = tt
  untouched_fault runs.Scratch = tt
  untouched_fault (runs.LongLine line length) = tt
  untouched_fault (runs.FileTooLong length) = tt
  untouched_fault (runs.Disagree want got) = tt
  untouched_fault runs.Memory = tt

  quiet_fault : (e : RunFault) → doing.QuietAfter {R = Receipt} (Err e) w.tree → QuietAfter (sort_of (of_run e)) w
  quiet_fault runs.Tree quiet = tt
  quiet_fault runs.Write quiet = tt
  quiet_fault runs.Scratch quiet = tt
  quiet_fault (runs.LongLine line length) quiet = quiet
  quiet_fault (runs.FileTooLong length) quiet = quiet
  quiet_fault (runs.Disagree want got) quiet = tt
  quiet_fault runs.Memory quiet = tt

end_fault : (e : RunFault) → IsEnd (sort_of (of_run e)) → ⊥
end_fault runs.Tree is = is
end_fault runs.Write is = is
end_fault runs.Scratch is = is
end_fault (runs.LongLine line length) is = is
end_fault (runs.FileTooLong length) is = is
end_fault (runs.Disagree want got) is = is
end_fault runs.Memory is = is

memory_fault : (e : RunFault) → of_run e ≡ Memory → e ≡ runs.Memory
memory_fault runs.Tree is = absurd (cc)
memory_fault runs.Write is = absurd (cc)
memory_fault runs.Scratch is = absurd (cc)
memory_fault (runs.LongLine line length) is = absurd (cc)
memory_fault (runs.FileTooLong length) is = absurd (cc)
memory_fault (runs.Disagree want got) is = absurd (cc)
memory_fault runs.Memory is = refl

-- the two ends
ended_sort : (bad : Bool) → sort_of (if bad then Rejected else Done) ≡ ended
ended_sort true = refl
ended_sort false = refl

ended_cause : (bad : Bool) (job : Result PlainJob WordFault) (u w : World) → HasCause (if bad then Rejected else Done) job u w
ended_cause true job u w = tt
ended_cause false job u w = tt

-- a receipt that is bad for another reason, too, where there is one
abbrev bad_with : Bool → Receipt → Receipt
bad_with is_bad r = record { is_bad = r.is_bad || is_bad; done = r.done; effects = r.effects }

-- behind the reading
module _ (words : List (List ℕ)) (u w : World) {v : TreeView} {o : PlainOptions} {strips : Bool} {set : SetView} (opens : Opens u.tree v) (job : job_of words ≡ Ok (patch o)) (asked : IsAsked o strips set u) where
  reads : (f : Files) (left : List ℕ) → TellsInput (job_of words) u f left → Reads o f left asked.before.text (plain_patches asked.before)
  reads f left told = asked.reads f left (subst (λ j. TellsInput j u f left) job told)

  stripped : (f : Files) (left : List ℕ) (told : TellsInput (job_of words) u f left) → strips ≡ strips_returns o (reads f left told).bytes
  unfolding reads
  stripped f left told = asked.stripped f left (subst (λ j. TellsInput j u f left) job told)

  -- the numbers are those of the files at entry
  made : (f : Files) → u.tree.told ≡ Some f → IsMade (asks_numbers o) o.numbers (Some f) asked.before set
  made f told = subst (λ (x : Option Files). IsMade (asks_numbers o) o.numbers x asked.before set) told asked.made

  has_read : (f : Files) (left : List ℕ) → TellsInput (job_of words) u f left → HasRead (job_of words) f left
  has_read f left told = subst (λ j. HasRead j f left) (sym job) (asked.before.text, plain_patches asked.before, reads f left told)

  heeds_fault : (e : RunFault) (f : Files) (left : List ℕ) → TellsInput (job_of words) u f left → Heeds (sort_of (of_run e)) (of_run e) (job_of words) u w f left
  heeds_fault runs.Tree f left told = inr (has_read f left told)
  heeds_fault runs.Write f left told = inr (has_read f left told)
  heeds_fault runs.Scratch f left told = inr (has_read f left told)
  heeds_fault (runs.LongLine line length) f left told = has_read f left told
  heeds_fault (runs.FileTooLong length) f left told = has_read f left told
  heeds_fault (runs.Disagree want got) f left told = inr (has_read f left told)
  heeds_fault runs.Memory f left told = inr (has_read f left told)

  abbrev bad_receipt : Receipt → Receipt
  bad_receipt r = bad_with (has_damaged set.ways set.text) r

  -- what the set's run comes to with the lines between its file patches
  abbrev comes_to : Files → Outcome
  comes_to f = behind (first_said o strips) (carried_out (length set.patches) (bad_where (has_damaged set.ways set.text) (set_run o set f)))

  is_carried : (f : Files) (left : List ℕ) → TellsFiles (job_of words) u f → TellsLeft (job_of words) u left → command words f left ≡ comes_to f
  is_carried f left told tells =
      let is = tells_input (job_of words) u f left told tells in
      ap (λ j. on_job j f left) job ∙ carried-match o asked.given asked.before set asked.read f (made f told.files) left (reads f left is)
      ∙ ap (λ (b : Bool). behind (first_said o b) (carried_out (length set.patches) (bad_where (has_damaged set.ways set.text) (set_run o set f)))) (sym (stripped f left is))

  tells_run : (f : Files) → TellsFiles (job_of words) u f → IsToldTo o v u.scratch f
  tells_run f told = told_to u w opens o f (subst (λ j. TellsFiles j u f) job told)

  answers_run : (why : Why) (applied : Option Receipt) (s : Sort)
      → ((f : Files) → u.tree.told ≡ Some f → IsToldTo o v u.scratch f → Answers s why applied f u w (comes_to f))
      → (f : Files) (left : List ℕ) → TellsFiles (job_of words) u f → TellsLeft (job_of words) u left → Answers s why applied f u w (command words f left)
  answers_run why applied s gives f left told tells =
      subst (λ (x : Outcome). Answers s why applied f u w x) (sym (is_carried f left told tells)) (gives f told.files (tells_run f told))

  images_run : Passes v w.tree → ((f : Files) → IsToldTo o v u.scratch f → LeavesPrefix v w.tree (set_run o set f).effects)
      → (f : Files) (left : List ℕ) → TellsFiles (job_of words) u f → TellsLeft (job_of words) u left → LeavesAllowed u.tree w.tree f (command words f left).effects
  images_run passes moments f left told tells = subst (λ (x : Outcome). LeavesAllowed u.tree w.tree f x.effects) (sym (is_carried f left told tells)) (λ c since. ⊎_elim
      (λ before. inl (opens.images c before))
      (λ later. inr (moments f (tells_run f told) f (opens.told ∙ told.files) c later))
      (since_split passes u.tree.moment c opens.passes.later since))

  -- that line is there
  says_first : (f : Files) (left : List ℕ) → TellsInput (job_of words) u f left → says_stripping o strips ≡ true → HasBegun u w → AsksFor (job_of words) (HasSaidFirst u w f left)
  says_first f left told says begun = subst (λ j. AsksFor j (HasSaidFirst u w f left)) (sym job) (record {
    begun = begun;
    bytes = (reads f left told).bytes;
    given = (reads f left told).given;
    says = ap (λ (b : Bool). says_stripping o b) (sym (stripped f left told)) ∙ says;
  })

  abbrev IsCutShort : Why → Files → List ℕ → Type 0
  IsCutShort why f left = IsAsAtEntry u.tree w.tree u.scratch w.scratch u.out w.out ⊎ (AsksFor (job_of words) (HasSaidFirst u w f left) ⊎ AsksFor (job_of words) (IsCut why u w f left))

  breaks_fault : (e : RunFault) (f : Files) (left : List ℕ) → IsCutShort (of_run e) f left → BreaksOff (sort_of (of_run e)) (of_run e) (job_of words) u w f left
  breaks_fault runs.Tree f left cut = cut
  breaks_fault runs.Write f left cut = cut
  breaks_fault runs.Scratch f left cut = cut
  breaks_fault (runs.LongLine line length) f left cut = tt
  breaks_fault (runs.FileTooLong length) f left cut = tt
  breaks_fault (runs.Disagree want got) f left cut = cut
  breaks_fault runs.Memory f left cut = cut

  dry_run : (o.dry_run ≡ true → IsUntouched v w.tree) → AsksFor (job_of words) (λ p. p.dry_run ≡ true) → Opens u.tree w.tree
  dry_run same asks = opens_both opens (opens_untouched (same (subst (λ j. AsksFor j (λ p. p.dry_run ≡ true)) job asks)))

  module _ (source : SourcePasses u.source w.source) (taken : TakesAtMost 268435457 u.source w.source) (none_read : reads_source (job_of words) ≡ false → w.source ≡ u.source)
      (read : reads_source (job_of words) ≡ true → (left : List ℕ) → u.source.told ≡ Some left → w.source.told ≡ Some []) where
    -- what is said first couldn't be written whole
    pub carries_unsaid : w.tree ≡ v → w.scratch ≡ u.scratch → SinkPasses u.out w.out → sink.Rises u.out w.out → ReceivesPart u.out w.out (first_said o strips) → says_stripping o strips ≡ true → Carries words u w WriteFault None
    carries_unsaid tree scratch passes rises part says =
        let still : Opens u.tree w.tree = subst (λ (x : TreeView). Opens u.tree x) (sym tree) opens in
        let none : IsAsAtEntry u.tree w.tree u.scratch w.scratch u.out u.out = record { told = still.told; scratch = scratch; out = refl; images = still.images } in
        let begun : HasBegun u w = record { told = still.told; scratch = scratch; images = still.images; said = subst (λ (b : Bool). ReceivesPart u.out w.out (if b then stripping_line else [])) says part } in
        record {
          tree = still.passes;
          scratch = subst (λ (x : ScratchView). ScratchPasses u.scratch x) (sym scratch) (scratch_passes_none u.scratch);
          source = source;
          sink = passes;
          cause = rises;
          untouched = tt;
          quiet = tt;
          receipt = refl;
          starved = λ is. absurd (cc);
          read = λ never. read;
          unread = none_read;
          taken = taken;
          answers = λ f left told tells. subst (λ (x : Outcome). FirstPart u.tree w.tree u.out w.out x.effects x.text) (sym (is_carried f left told tells))
              (record { tells = (nothing_yet none f (comes_to f) told.files).tells; said = part_longer u.out w.out (first_said o strips) (set_run o set f).said part });
          images = λ f left told tells c since. inl (still.images c since);
          heeds = λ f left told. inr (has_read f left told);
          cut = λ f left told tells. inr (inl (says_first f left (tells_input (job_of words) u f left told tells) says begun));
          pages = λ is f left before told tells was. absurd is;
          tidy = λ is. absurd (cc);
          dry = λ asks. still;
        }

    -- it was
    module _ {m : SinkView} (begins : Begins o strips u.out m) where
      starves : NoneYet u w opens o strips begins → IsAsAtEntry u.tree w.tree u.scratch w.scratch u.out w.out ⊎ (AsksFor (job_of words) (λ p. p.silent ≡ false) × HasBegun u w)
      starves none = ⊎_elim (λ entry. inl entry) (λ (says, begun). inr (subst (λ j. AsksFor j (λ p. p.silent ≡ false)) (sym job) (loud strips o.silent says), begun)) none

      -- the run was cut off at one of the file patches, or before the first
      cuts_at : (e : RunFault) (f : Files) (left : List ℕ) → TellsFiles (job_of words) u f → TellsLeft (job_of words) u left
          → finishes.IsNotBegun v w.tree u.scratch w.scratch m w.out ⊎ doing.IsCutAt e w.tree m w.out o set.output (items_of set) f → IsCutShort (of_run e) f left
      cuts_at e f left told tells is =
          let read_so = tells_input (job_of words) u f left told tells in
          ⊎_elim
          (λ none. ⊎_elim (λ entry. inl entry) (λ (says, begun). inr (inl (says_first f left read_so says begun))) (not_begun u w opens o strips begins none))
          (λ at. inr (inr (subst (λ j. AsksFor j (IsCut (of_run e) u w f left)) (sym job) (record {
            text = asked.before.text;
            patches = plain_patches asked.before;
            read = reads f left read_so;
            fault = e;
            is = refl;
            middle = m;
            first = subst (λ (b : Bool). Receives u.out m (first_said o b)) (stripped f left read_so) begins.first;
            cut = cut-made o asked.given asked.before set asked.read f (made f told.files) e w.tree m w.out at;
          }))))
          is

      carries_fault : (e : RunFault) → Finishes o set v w.tree u.scratch w.scratch m w.out (Err e) → Carries words u w (of_run e) None
      carries_fault e does = record {
        tree = passes_both opens.passes does.tree;
        scratch = does.scratch;
        source = source;
        sink = sink_passes_both begins.passes does.sink;
        cause = subst (λ j. HasCause (of_run e) j u w) (sym job) (cause_fault u w opens o strips begins e does.cause);
        untouched = untouched_fault u w e;
        quiet = quiet_fault u w e does.quiet;
        receipt = receipt_fault e;
        starved = λ is pages. starves (not_begun u w opens o strips begins (does.starved (ap (λ (x : RunFault). Err x) (memory_fault e is)) (subst (λ j. pages_all j ≡ true) job pages)));
        read = λ behind. read;
        unread = none_read;
        taken = taken;
        answers = answers_run (of_run e) None (sort_of (of_run e)) (λ f told to. answers_fault u w opens o strips begins e (set_run o set f) (has_damaged set.ways set.text) (length set.patches) f told (does.cut f to));
        images = images_run does.tree does.moments;
        heeds = heeds_fault e;
        cut = λ f left told tells. breaks_fault e f left (cuts_at e f left told tells (does.cut_at f (tells_run f told)));
        pages = λ is f left before told tells was. absurd (end_fault e is);
        tidy = tidy_fault u w opens e does.tidy;
        dry = dry_run does.dry;
      }

      -- the run was broken off, or a file isn't taken
      pub carries_cut : (result : Result Receipt RunFault) (e : RunFault) (why : Why) → result ≡ Err e → why ≡ of_run e → Finishes o set v w.tree u.scratch w.scratch m w.out result → Carries words u w why None
      carries_cut result e why is says does =
          subst (λ (x : Why). Carries words u w x None) (sym says) (carries_fault e (subst (λ (r : Result Receipt RunFault). Finishes o set v w.tree u.scratch w.scratch m w.out r) is does))

      end_answer : (receipt given : Receipt) → given ≡ bad_receipt receipt → Finishes o set v w.tree u.scratch w.scratch m w.out (Ok receipt) → (f : Files) → u.tree.told ≡ Some f → IsToldTo o v u.scratch f
          → IsAnswer (if given.is_bad then Rejected else Done) (Some given) f w.tree u.out w.out (comes_to f)
      end_answer receipt given is does f told to =
          let r = set_run o set f in
          let whole : given ≡ bad_receipt (finishes.receipt_of set r) = is ∙ ap bad_receipt (does.receipt f to) in
          far_on u w opens o strips begins (bad_where (has_damaged set.ways set.text) r) (length set.patches) (if given.is_bad then Rejected else Done) (Some given) f told (does.whole f to)
          (ap (λ (x : Receipt). if x.is_bad then Rejected else Done) whole ∙ sym (ap (λ s. end_of s (r.is_bad || has_damaged set.ways set.text)) (does.going f to)))
          (ap (λ (x : Receipt). Some x) whole ∙ sym (ap (λ s. receipt_if s (bad_receipt (finishes.receipt_of set r))) (does.going f to)))

      carries_done : (receipt given : Receipt) → given ≡ bad_receipt receipt → Finishes o set v w.tree u.scratch w.scratch m w.out (Ok receipt) → Carries words u w (if given.is_bad then Rejected else Done) (Some given)
      carries_done receipt given same does =
          let why : Why = if given.is_bad then Rejected else Done in
          let is : sort_of why ≡ ended = ended_sort given.is_bad in
          record {
            tree = passes_both opens.passes does.tree;
            scratch = does.scratch;
            source = source;
            sink = sink_passes_both begins.passes does.sink;
            cause = ended_cause given.is_bad (job_of words) u w;
            untouched = subst (λ s. Untouched s u w) (sym is) tt;
            quiet = subst (λ s. QuietAfter s w) (sym is) does.quiet;
            receipt = receipt_end given.is_bad given refl;
            starved = λ is pages. absurd (memory_end given.is_bad is);
            read = λ behind. read;
            unread = none_read;
            taken = taken;
            answers = answers_run why (Some given) (sort_of why) (λ f told to. subst (λ s. Answers s why (Some given) f u w (comes_to f)) (sym is) (end_answer receipt given same does f told to));
            images = images_run does.tree does.moments;
            heeds = λ f left told. subst (λ s. Heeds s why (job_of words) u w f left) (sym is) (has_read f left told);
            cut = λ f left told tells. subst (λ s. BreaksOff s why (job_of words) u w f left) (sym is) tt;
            tidy = λ none. tidy_behind u.tree v w.tree opens.told does.tidy;
            dry = dry_run does.dry;
            pages = λ finished f left before told tells was. subst (λ j. AsksFor j (λ p. w.scratch.told ≡ Some (scratch_behind_all p (command words f left).taken before))) (sym job)
                (does.holds f before (tells_run f told) was ∙ ap (λ (x : Outcome). Some (scratch_behind_all o x.taken before)) (sym (is_carried f left told tells)));
          }

      -- every file patch had its turn
      pub carries_end : (result : Result Receipt RunFault) (receipt given : Receipt) (bad : Bool) → bad ≡ has_damaged set.ways set.text → given ≡ bad_with bad receipt → result ≡ Ok receipt
          → Finishes o set v w.tree u.scratch w.scratch m w.out result → Carries words u w (if given.is_bad then Rejected else Done) (Some given)
      carries_end result receipt given bad told same is does = carries_done receipt given (same ∙ ap (λ b. bad_with b receipt) told)
          (subst (λ (r : Result Receipt RunFault). Finishes o set v w.tree u.scratch w.scratch m w.out r) is does)

-- the same by the names of its answer
pub carries_as : {words : List (List ℕ)} {u w : World} {why : Why} {applied : Option Receipt} (y : Why) (given : Option Receipt) → y ≡ why → given ≡ applied → Carries words u w why applied → Carries words u w y given
carries_as {words = words} {u = u} {w = w} {why = why} y given is was c =
    subst (λ (x : Why). Carries words u w x given) (sym is) (subst (λ (x : Option Receipt). Carries words u w why x) (sym was) c)

-- the plan was made, so the answer isn't early
pub not_early : (e : RunFault) (why : Why) → why ≡ of_run e → IsEarly (sort_of why) → ⊥
not_early runs.Tree why is early = subst (λ (x : Why). IsEarly (sort_of x)) is early
not_early runs.Write why is early = subst (λ (x : Why). IsEarly (sort_of x)) is early
not_early runs.Scratch why is early = subst (λ (x : Why). IsEarly (sort_of x)) is early
not_early (runs.LongLine line length) why is early = subst (λ (x : Why). IsEarly (sort_of x)) is early
not_early (runs.FileTooLong length) why is early = subst (λ (x : Why). IsEarly (sort_of x)) is early
not_early (runs.Disagree want got) why is early = subst (λ (x : Why). IsEarly (sort_of x)) is early
not_early runs.Memory why is early = subst (λ (x : Why). IsEarly (sort_of x)) is early

-- ---- where no device failed
pub is_complete : {words : List (List ℕ)} {u w : World} (why : Why) (applied : Option Receipt) → Carries words u w why applied → (f : Files) (left : List ℕ)
    → TellsFiles (job_of words) u f → TellsLeft (job_of words) u left → NoneFailed u w → IsComplete why applied f u w (command words f left)
is_complete Done applied c f left told tells none = inl (c.answers f left told tells)
is_complete Rejected applied c f left told tells none = inl (c.answers f left told tells)
is_complete Usage applied c f left told tells none = inl (c.answers f left told tells)
is_complete (Malformed line kind) applied c f left told tells none = inl (c.answers f left told tells)
is_complete Garbage applied c f left told tells none = inl (c.answers f left told tells)
is_complete (EdReverse line) applied c f left told tells none = inl (c.answers f left told tells)
is_complete (OutMany count) applied c f left told tells none = inl (c.answers f left told tells)
is_complete (Reserved line) applied c f left told tells none = inl (c.answers f left told tells)
is_complete NoPatchFile applied c f left told tells none = inl (c.answers f left told tells)
is_complete TooLong applied c f left told tells none = inl (c.answers f left told tells)
is_complete (LongLine line length) applied c f left told tells none = inl (c.answers f left told tells)
is_complete (FileTooLong length) applied c f left told tells none = inl (c.answers f left told tells)
is_complete BadPattern applied c f left told tells none = absurd c.cause
is_complete (NoContext line) applied c f left told tells none = absurd c.cause
is_complete (Unfit line) applied c f left told tells none = absurd c.cause
is_complete (BadState file) applied c f left told tells none = absurd c.cause
is_complete (StackEnd count) applied c f left told tells none = absurd c.cause
is_complete (StackName line) applied c f left told tells none = absurd c.cause
is_complete ReadFault applied c f left told tells none = absurd (none.source c.cause.1)
is_complete WriteFault applied c f left told tells none = absurd (none.out c.cause)
is_complete TreeFault applied c f left told tells none = absurd (none.tree c.cause)
is_complete ScratchFault applied c f left told tells none = absurd (none.scratch c.cause)
is_complete (Disagree want got) applied c f left told tells none = absurd (c.cause.1 f told)
is_complete Memory applied c f left told tells none = inr refl
