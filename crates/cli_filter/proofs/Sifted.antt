-- A run of a filter that writes one text and leaves the tree.
use Rattle.std.proofs.Common.{◌≡◌, inl, inr, ⊎_elim, ℕ, zero, List, Bool, true, false, Some, Result, Ok, Err, refl, sym, ◌∙◌, ap, subst, arith}
use Rattle.std.proofs.lemmas.Bool.{false≢true}
use Rattle.std.proofs.lemmas.List.{append-nil}
use Rattle.std.proofs.lemmas.Option.{same_Some}
use Rattle.outside.specs.Files.{Files, SameLasting, lasting-same}
use Rattle.outside.specs.FinderView.{FinderView, FinderPasses}
use Rattle.outside.specs.SinkView.{SinkView, Receives, ReceivesPart}
use Rattle.outside.specs.Quiet.{IsQuiet}
use Rattle.outside.specs.Calls.{IsUntouched}
use Rattle.patch_options.specs.declared.options.Input.{Input}
use Rattle.cli_tool_words.specs.PlainJobs.{PlainSelect, PlainToolJob}
use Rattle.cli_run_answers.specs.declared.fault.InputFault.TheVariants as input
use Rattle.cli_run_answers.specs.Input.{IsStandard}
use Rattle.patch_set.specs.declared.fault.SetFault.{SetFault}
use Rattle.patch_set.specs.declared.fault.SetFault.TheVariants as set
use Rattle.filter_whole_text.specs.declared.fault.FilterFault.{FilterFault}
use Rattle.filter_whole_text.specs.declared.fault.FilterFault.TheVariants as faults
use Rattle.filter_whole_text.specs.Outcomes as outcomes
use Rattle.filter_whole_text.specs.Sifting.{IsTold, Sifts, is_refusal, AnswersFault}
use Rattle.filter_whole_text.specs.Sifting as sifting
use Rattle.cli_run_answers.specs.declared.why.Why.{Why}
use Rattle.cli_run_answers.specs.declared.why.Why.TheVariants.{Done}
use Rattle.cli_run_answers.specs.Answers.{is_own, is_early}
use Rattle.cli_run_answers.specs.Moments.{FirstPart}
use Rattle.cli_run_answers.specs.Outcomes.{Outcome}
use Rattle.cli_run_answers.proofs.Opens.{opens_untouched, tidy_same}
use Rattle.cli_filter.specs.Jobs.{IsFromSource, NamesFile, MayFault, MayBeRefused}
use Rattle.cli_filter.specs.Command.{IsOutcome, command, of_filter, why_by, written}
use Rattle.cli_filter.specs.Worlds.{World, Tells}
use Rattle.cli_filter.specs.Causes.{HasCause}
use Rattle.cli_filter.specs.Carries.{IsAnswer, Answers, IsAsAtEntry, BreaksOff, ByOutcome, Carries}
use Rattle.cli_filter.proofs.Whole.{carries_does, refused_so}

-- how a job's words in two crates agree
pub record Agrees (job : PlainToolJob) (i : Input) (s : PlainSelect) (R : FilterFault → Type 0) (Q : Type 0) (P : Files → List ℕ → outcomes.Outcome → Type 0) (v : FinderView) : Type 1 where
  pub from : IsFromSource job → IsStandard i
  pub to : IsStandard i → IsFromSource job
  pub named : sifting.NamesFile i s → NamesFile job
  pub texts : (e : FilterFault) → R e → MayFault job e
  pub pattern : Q → MayBeRefused v job
  pub outcome : (f : Files) (left : List ℕ) (o : outcomes.Outcome) → P f left o → IsOutcome v (Ok job) f left (written o)
  -- it is never cut off between parts
  pub uncut : (why : Why) (f : Files) (u w : World) → BreaksOff (Ok job) why f u w

-- ---- of which sort the answer is
pub own-is : (e : FilterFault) → is_own (of_filter e) ≡ is_refusal e
own-is (faults.Input input.NoPatchFile) = refl
own-is (faults.Input input.TooLong) = refl
own-is (faults.Input input.Source) = refl
own-is (faults.Input input.Tree) = refl
own-is (faults.Input (input.Disagree want got)) = refl
own-is (faults.Input input.Memory) = refl
own-is (faults.Set (set.Malformed line kind)) = refl
own-is (faults.Set set.Garbage) = refl
own-is (faults.Set set.TooLong) = refl
own-is (faults.Set (set.OutMany count)) = refl
own-is (faults.Set (set.EdReverse line)) = refl
own-is (faults.Set (set.Reserved line)) = refl
own-is (faults.Set set.Memory) = refl
own-is (faults.Unfit line) = refl
own-is faults.Pattern = refl
own-is faults.Tree = refl
own-is faults.Write = refl
own-is faults.Memory = refl

-- an early answer is an early fault's
pub early-is : (e : FilterFault) → is_early (of_filter e) ≡ true → sifting.is_early e ≡ true
early-is (faults.Input e) early = refl
early-is (faults.Set e) early = refl
early-is (faults.Unfit line) early = refl
early-is faults.Pattern early = refl
early-is faults.Tree early = early
early-is faults.Write early = early
early-is faults.Memory early = early

pub never-done : (e : FilterFault) → of_filter e ≡ Done → ⊥
never-done (faults.Input input.NoPatchFile) is = absurd (cc)
never-done (faults.Input input.TooLong) is = absurd (cc)
never-done (faults.Input input.Source) is = absurd (cc)
never-done (faults.Input input.Tree) is = absurd (cc)
never-done (faults.Input (input.Disagree want got)) is = absurd (cc)
never-done (faults.Input input.Memory) is = absurd (cc)
never-done (faults.Set (set.Malformed line kind)) is = absurd (cc)
never-done (faults.Set set.Garbage) is = absurd (cc)
never-done (faults.Set set.TooLong) is = absurd (cc)
never-done (faults.Set (set.OutMany count)) is = absurd (cc)
never-done (faults.Set (set.EdReverse line)) is = absurd (cc)
never-done (faults.Set (set.Reserved line)) is = absurd (cc)
never-done (faults.Set set.Memory) is = absurd (cc)
never-done (faults.Unfit line) is = absurd (cc)
never-done faults.Pattern is = absurd (cc)
never-done faults.Tree is = absurd (cc)
never-done faults.Write is = absurd (cc)
never-done faults.Memory is = absurd (cc)

-- the cause of a text that is refused
pub set-cause : (e : SetFault) (job : PlainToolJob) (u w : World) → MayFault job (faults.Set e) → HasCause (of_filter (faults.Set e)) (Ok job) u w
set-cause (set.Malformed line kind) job u w c = c
set-cause set.Garbage job u w c = c
set-cause set.TooLong job u w c = tt
set-cause (set.OutMany count) job u w c = c
set-cause (set.EdReverse line) job u w c = c
set-cause (set.Reserved line) job u w c = c
set-cause set.Memory job u w c = tt

module _ (job : PlainToolJob) (i : Input) (s : PlainSelect) (R : FilterFault → Type 0) (Q : Type 0) (P : Files → List ℕ → outcomes.Outcome → Type 0) (u w : World) (agrees : Agrees job i s R Q P u.finder) where
  sift-cause : (e : FilterFault) → sifting.HasCause e i s R Q u.tree w.tree u.source w.source u.out w.out → HasCause (of_filter e) (Ok job) u w
  sift-cause (faults.Input input.NoPatchFile) c = agrees.named c
  sift-cause (faults.Input input.TooLong) c = tt
  sift-cause (faults.Input input.Source) c = (agrees.to c.0, c.1)
  sift-cause (faults.Input input.Tree) c = c
  sift-cause (faults.Input (input.Disagree want got)) c = (agrees.named c.0, c.1, c.2)
  sift-cause (faults.Input input.Memory) c = tt
  sift-cause (faults.Set e) c = set-cause e job u w (agrees.texts (faults.Set e) c)
  sift-cause (faults.Unfit line) c = inl (agrees.texts (faults.Unfit line) c)
  sift-cause faults.Pattern c = agrees.pattern c
  sift-cause faults.Tree c = absurd c
  sift-cause faults.Write c = c
  sift-cause faults.Memory c = tt

  quiet_same : IsUntouched u.tree w.tree → IsQuiet u.tree → IsQuiet w.tree
  quiet_same same quiet = record { each = λ f c told may. quiet.each f c (sym same.told ∙ told) ((same.now c).0 may) }

  module _ (finder : FinderPasses u.finder w.finder) (quiet : IsQuiet u.tree) (unread : (IsStandard i → ⊥) → w.source ≡ u.source) where
    is-told : (f : Files) (left : List ℕ) → Tells (Ok job) u f left → IsTold i s u.tree u.source f left
    is-told f left told = record { files = λ named. told.files (agrees.named named); left = λ is. told.source (agrees.to is) }

    module _ (same : IsUntouched u.tree w.tree) where
      entry : w.out ≡ u.out → IsAsAtEntry u w
      entry out = let opens = opens_untouched same in record { told = opens.told; out = out; images = opens.images }

      -- the text is written whole
      wrote : (bytes : List ℕ) (f : Files) → Receives u.out w.out bytes → IsAnswer Done f u w (written (Ok bytes))
      wrote bytes f received = record { is = refl; text = received; files = λ told. same.told ∙ told }

      first : (o : Outcome) → ReceivesPart u.out w.out o.text → FirstPart u.tree w.tree u.out w.out o.effects o.text
      first o part = record {
        tells = λ g h was now. (zero, omega arith, subst (λ (x : Files). SameLasting g x) (same_Some _ _ (sym was ∙ sym same.told ∙ now)) (lasting-same g));
        said = part;
      }

      nothing : w.out ≡ u.out → (p : List ℕ) → ReceivesPart u.out w.out p
      nothing out p b now = inr (zero, ap (λ (a : SinkView). a.told) out ∙ now ∙ ap (λ (l : List ℕ). Some l) (sym (append-nil b)))

      faulted : (b : Bool) (e : FilterFault) (f : Files) (left : List ℕ) → AnswersFault b e (P f left) u.out w.out → ByOutcome (Ok job) u f left (Answers b (of_filter e) f u w)
      faulted true e f left (is, out) = (written (Err e), agrees.outcome f left (Err e) is, refused_so (Ok job) u w (entry out) (of_filter e) f)
      faulted false e f left fault = ⊎_elim
          (λ out. (command u.finder.hit (Ok job) f left, inl refl, first (command u.finder.hit (Ok job) f left) (nothing out _)))
          (λ (bytes, is, part). (written (Ok bytes), agrees.outcome f left (Ok bytes) is, first (written (Ok bytes)) part))
          fault

    pub sifts_carry : (r : Result (Unit {0}) FilterFault) → Sifts i s R Q P u.tree w.tree u.source w.source u.out w.out r → Carries (Ok job) u w (why_by r)
    sifts_carry (Ok done) x = carries_does Done (record {
      tree = x.untouched.passes;
      finder = finder;
      source = x.source;
      sink = x.sink;
      cause = tt;
      untouched = λ early. absurd (false≢true early);
      still = λ none. opens_untouched x.untouched;
      quiet = λ is. quiet_same x.untouched quiet;
      read = λ is reads. x.read (agrees.from reads);
      unread = λ never. unread (λ is. never (agrees.to is));
      taken = x.taken;
      answers = λ f left told.
          let (bytes, is, received) = x.answers f left (is-told f left told) in
          (written (Ok bytes), agrees.outcome f left (Ok bytes) is, wrote x.untouched bytes f received);
      images = λ f left told c since. inl ((opens_untouched x.untouched).images c since);
      cut = λ own f left told. agrees.uncut Done f u w;
      tidy = λ none. tidy_same u.tree w.tree x.untouched.told;
    })
    sifts_carry (Err e) x = carries_does (of_filter e) (record {
      tree = x.untouched.passes;
      finder = finder;
      source = x.source;
      sink = x.sink;
      cause = sift-cause e x.cause;
      untouched = λ early. entry x.untouched (x.early (early-is e early));
      still = λ none. opens_untouched x.untouched;
      quiet = λ is. absurd (never-done e is);
      read = λ is. absurd (never-done e is);
      unread = λ never. unread (λ is. never (agrees.to is));
      taken = x.taken;
      answers = λ f left told. subst (λ b. ByOutcome (Ok job) u f left (Answers b (of_filter e) f u w)) (sym (own-is e)) (faulted x.untouched (is_refusal e) e f left (x.answers f left (is-told f left told)));
      images = λ f left told c since. inl ((opens_untouched x.untouched).images c since);
      cut = λ own f left told. agrees.uncut (of_filter e) f u w;
      tidy = λ none. tidy_same u.tree w.tree x.untouched.told;
    })
