-- A run of `splitdiff`.
use Rattle.std.proofs.Common.{◌≡◌, inl, inr, ⊎_elim, ℕ, zero, ◌≤◌, List, ◌++◌, length, take, drop, Bool, true, false, Some, Result, Ok, Err, refl, sym, ◌∙◌, ap, subst, arith}
use Rattle.std.proofs.lemmas.Bool.{false≢true}
use Rattle.std.proofs.lemmas.List.Concat.{flat_map-append}
use Rattle.std.proofs.lemmas.List.{length-map, take-append-drop, take-map}
use Rattle.std.proofs.lemmas.Option.{same_Some}
use Rattle.outside.specs.Files.{Files, SameLasting}
use Rattle.outside.specs.TreeView.{TreeView}
use Rattle.outside.specs.FinderView.{FinderView, finder_passes_none}
use Rattle.outside.specs.SourceView.{SourceView, source_passes_none}
use Rattle.outside.specs.SinkView.{SinkView, ReceivesPart}
use Rattle.outside.specs.Quiet.{TellsPrefix, after_all}
use Rattle.outside.proofs.Writing.{part_longer}
use Rattle.cli_tool_words.specs.PlainJobs.{PlainSplitJob}
use Rattle.cli_tool_words.specs.PlainJobs.PlainToolJob.{split_job}
use Rattle.cli_run_answers.specs.declared.fault.InputFault.TheVariants as input
use Rattle.patch_set.specs.declared.fault.SetFault.TheVariants as set
use Rattle.apply_task.specs.Making.{IsTidy}
use Rattle.filter_whole_text.specs.declared.fault.FilterFault.{FilterFault}
use Rattle.filter_whole_text.specs.declared.fault.FilterFault.TheVariants as faults
use Rattle.filter_whole_text.specs.Sifting.{is_refusal}
use Rattle.filter_whole_text.specs.Parting.{Part, AreCutAt, ArePut, IsNotBegun, TidyAfter, part_line, part_lines, part_put, part_puts}
use Rattle.filter_whole_text.specs.Splits.{HasSplitCause, SplitFault, Splits, split_outcome}
use Rattle.cli_run_answers.specs.declared.why.Why.TheVariants.{Done}
use Rattle.cli_run_answers.specs.Answers.{is_fault, is_early}
use Rattle.cli_run_answers.specs.Moments.{FirstPart, LeavesAllowed}
use Rattle.cli_run_answers.specs.Outcomes.{Outcome}
use Rattle.cli_run_answers.proofs.Opens.{opens_untouched}
use Rattle.cli_filter.specs.Command.{command, of_filter, parted, why_by}
use Rattle.cli_filter.specs.Worlds.{World, world}
use Rattle.cli_filter.specs.Causes.{HasCause}
use Rattle.cli_filter.specs.Carries.{IsAnswer, Answers, IsAsAtEntry, BreaksOff, ByOutcome, Carries}
use Rattle.cli_filter.proofs.Whole.{carries_does, refused_so, nothing_yet}
use Rattle.cli_filter.proofs.Sifted.{own-is, never-done, set-cause}

-- ---- a first part of the names that are written
lines-front : (parts : List Part) (k : ℕ) → part_lines (take k parts) ++ part_lines (drop k parts) ≡ part_lines parts
lines-front parts k =
    sym (flat_map-append part_line (take k parts) (drop k parts))
    ∙ ap (λ (l : List Part). part_lines l) (take-append-drop k parts)

said-part : (c d : SinkView) (parts : List Part) (k : ℕ) → ReceivesPart c d (part_lines (take k parts)) → ReceivesPart c d (part_lines parts)
said-part c d parts k part = subst (λ (l : List ℕ). ReceivesPart c d l) (lines-front parts k) (part_longer c d (part_lines (take k parts)) (part_lines (drop k parts)) part)

module _ (j : PlainSplitJob) (h : FinderView) (a : SourceView) (t w : TreeView) (c d : SinkView) where
  abbrev before : World
  before = world t h a c

  abbrev behind : World
  behind = world w h a d

  split-cause : (e : FilterFault) → HasSplitCause j.skip_binary e t w c d → HasCause (of_filter e) (Ok (split_job j)) before behind
  split-cause (faults.Input input.NoPatchFile) x = tt
  split-cause (faults.Input input.TooLong) x = tt
  split-cause (faults.Input input.Source) x = absurd x
  split-cause (faults.Input input.Tree) x = x
  split-cause (faults.Input (input.Disagree want got)) x = (tt, x.0, x.1)
  split-cause (faults.Input input.Memory) x = tt
  split-cause (faults.Set e) x = set-cause e (split_job j) before behind x
  split-cause (faults.Unfit line) x = absurd x
  split-cause faults.Pattern x = absurd x
  split-cause faults.Tree x = x
  split-cause faults.Write x = x
  split-cause faults.Memory x = tt

  -- what comes before anything is written is a refusal
  split-early : (e : FilterFault) → HasSplitCause j.skip_binary e t w c d → is_early (of_filter e) ≡ true → is_refusal e ≡ true
  split-early (faults.Input input.NoPatchFile) x early = refl
  split-early (faults.Input input.TooLong) x early = refl
  split-early (faults.Input input.Source) x early = absurd x
  split-early (faults.Input input.Tree) x early = early
  split-early (faults.Input (input.Disagree want got)) x early = early
  split-early (faults.Input input.Memory) x early = early
  split-early (faults.Set (set.Malformed line kind)) x early = refl
  split-early (faults.Set set.Garbage) x early = refl
  split-early (faults.Set set.TooLong) x early = refl
  split-early (faults.Set (set.OutMany count)) x early = refl
  split-early (faults.Set (set.EdReverse line)) x early = refl
  split-early (faults.Set (set.Reserved line)) x early = refl
  split-early (faults.Set set.Memory) x early = early
  split-early (faults.Unfit line) x early = refl
  split-early faults.Pattern x early = refl
  split-early faults.Tree x early = early
  split-early faults.Write x early = early
  split-early faults.Memory x early = early

  split-tidy : (e : FilterFault) → TidyAfter (Err e) t w → is_fault (of_filter e) ≡ false → IsTidy t w
  split-tidy (faults.Input e) tidy none = tidy
  split-tidy (faults.Set e) tidy none = tidy
  split-tidy (faults.Unfit line) tidy none = tidy
  split-tidy faults.Pattern tidy none = tidy
  split-tidy faults.Tree tidy none = absurd (cc)
  split-tidy faults.Write tidy none = tidy
  split-tidy faults.Memory tidy none = tidy

  not-begun : IsNotBegun t w c d → IsAsAtEntry before behind
  not-begun none = let opens = opens_untouched none.tree in record { told = opens.told; out = none.out; images = opens.images }

  module _ (f : Files) (left : List ℕ) (told : t.told ≡ Some f) where
    abbrev come : Outcome
    come = command h.hit (Ok (split_job j)) f left

    -- some of the parts are put
    module _ (x : List Part) (is : split_outcome j f ≡ Ok x) where
      comes : parted (Ok x) ≡ come
      comes = ap (λ (o : Result (List Part) FilterFault). parted o) (sym is)

      puts-first : (k : ℕ) → ((g : Files) → w.told ≡ Some g → SameLasting (after_all (part_puts (take k x)) f) g) → k ≤ length x
          → TellsPrefix t w (part_puts x)
      puts-first k files few g0 g was now =
          let same : SameLasting (after_all (part_puts (take k x)) g0) g = subst (λ (y : Files). SameLasting (after_all (part_puts (take k x)) y) g) (same_Some _ _ (sym told ∙ was)) (files g now) in (
            k,
            subst (λ (n : ℕ). k ≤ n) (sym (length-map x part_put)) few,
            subst (λ es. SameLasting (after_all es g0) g) (sym (take-map part_put k x)) same,
          )

      cut-first : (e : FilterFault) (k : ℕ) → AreCutAt x e f t w c d k → FirstPart t w c d (parted (Ok x)).effects (parted (Ok x)).text
      cut-first e k cut = record { tells = puts-first k cut.files cut.few; said = said-part c d x k cut.out }

      put-all : ArePut x f t w c d → IsAnswer Done f before behind (parted (Ok x))
      put-all put = record { is = refl; text = put.out; files = λ same. put.files }

    split-answers : (b : Bool) (e : FilterFault) → (b ≡ true → IsNotBegun t w c d) → SplitFault b e j f t w c d → ByOutcome (Ok (split_job j)) before f left (Answers b (of_filter e) f before behind)
    split-answers true e none is = (
      parted (Err e),
      inl (ap (λ (o : Result (List Part) FilterFault). parted o) (sym is)),
      refused_so (Ok (split_job j)) before behind (not-begun (none refl)) (of_filter e) f,
    )
    split-answers false e none fault = ⊎_elim
        (λ not. (come, inl refl, nothing_yet (Ok (split_job j)) before behind (not-begun not) come))
        (λ (x, is, (k, cut)). (parted (Ok x), inl (comes x is), cut-first x is e k cut))
        fault

    leaves-none : IsNotBegun t w c d → LeavesAllowed t w f come.effects
    leaves-none none g since = inl ((not-begun none).images g since)

    split-leaves : (b : Bool) (e : FilterFault) → (b ≡ true → IsNotBegun t w c d) → SplitFault b e j f t w c d → LeavesAllowed t w f come.effects
    split-leaves true e none is = leaves-none (none refl)
    split-leaves false e none fault = ⊎_elim
        (λ not. leaves-none not)
        (λ (x, is, (k, cut)). subst (λ (o : Outcome). LeavesAllowed t w f o.effects) (comes x is) (λ g since. inr (cut.leaves f told g since)))
        fault

    split-breaks : (b : Bool) (e : FilterFault) → b ≡ false → SplitFault b e j f t w c d → BreaksOff (Ok (split_job j)) (of_filter e) f before behind
    split-breaks true e own is = absurd (cc)
    split-breaks false e own fault = ⊎_elim
        (λ not. inl (not-begun not))
        (λ (x, is, (k, cut)). inr (
          x,
          is,
          (
            k,
            record {
              few = cut.few;
              files = cut.files;
              exact = λ whole. cut.exact (λ failed. whole (ap of_filter failed));
              out = cut.out;
              said = cut.said;
              near = cut.near;
              names = cut.names;
            },
          ),
        ))
        fault

  pub split_carry : (r : Result (Unit {0}) FilterFault) → Splits j t w c d r → Carries (Ok (split_job j)) before behind (why_by r)
  split_carry (Ok done) x = carries_does Done (record {
    tree = x.tree;
    finder = finder_passes_none h;
    source = source_passes_none a;
    sink = x.sink;
    cause = tt;
    untouched = λ early. absurd (false≢true early);
    still = λ none. absurd (none tt);
    quiet = λ is. x.quiet;
    read = λ is reads. absurd reads;
    unread = λ never. refl;
    taken = λ left told. (zero, omega arith, told);
    answers = λ f left told.
        let (cut, is, put) = x.answers f (told.files tt) in
        (parted (Ok cut), inl (comes f left (told.files tt) cut is), put-all f left (told.files tt) cut is put);
    images = λ f left told.
        let (cut, is, put) = x.answers f (told.files tt) in
        subst (λ (o : Outcome). LeavesAllowed t w f o.effects) (comes f left (told.files tt) cut is) (λ g since. inr (put.leaves f (told.files tt) g since));
    cut = λ own. absurd (false≢true (sym own));
    tidy = λ none. x.tidy;
  })
  split_carry (Err e) x = carries_does (of_filter e) (record {
    tree = x.tree;
    finder = finder_passes_none h;
    source = source_passes_none a;
    sink = x.sink;
    cause = split-cause e x.cause;
    untouched = λ early. not-begun (x.refused (split-early e x.cause early));
    still = λ none. absurd (none tt);
    quiet = λ is. absurd (never-done e is);
    read = λ is. absurd (never-done e is);
    unread = λ never. refl;
    taken = λ left told. (zero, omega arith, told);
    answers = λ f left told. subst (λ b. ByOutcome (Ok (split_job j)) before f left (Answers b (of_filter e) f before behind)) (sym (own-is e)) (split-answers f left (told.files tt) (is_refusal e) e x.refused (x.answers f (told.files tt)));
    images = λ f left told. split-leaves f left (told.files tt) (is_refusal e) e x.refused (x.answers f (told.files tt));
    cut = λ own f left told. split-breaks f left (told.files tt) (is_refusal e) e (sym (own-is e) ∙ own) (x.answers f (told.files tt));
    tidy = λ none. split-tidy e x.tidy none;
  })
