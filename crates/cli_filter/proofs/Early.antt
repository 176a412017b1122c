-- Ends before the job is begun: by the words, or by a tree that couldn't be settled.
use Rattle.std.proofs.Common.{◌≡◌, true, ◌⊎◌, inl, inr, ⊎_elim, Result, Ok, Err, refl, sym, ◌∙◌, ap, subst}
use Rattle.std.proofs.lemmas.Bool.{false≢true}
use Rattle.outside.specs.TreeView.{TreeView, Rises}
use Rattle.outside.specs.FinderView.{FinderView}
use Rattle.outside.specs.SourceView.{SourceView}
use Rattle.outside.specs.SinkView.{SinkView}
use Rattle.patch_options.specs.declared.options.WordFault.{WordFault}
use Rattle.patch_options.specs.declared.options.WordFault.TheVariants.{Usage, Memory}
use Rattle.cli_tool_words.specs.PlainJobs.{PlainToolJob, plain_tool_job}
use Rattle.cli_tool_words.specs.declared.jobs.FilterJob.{FilterJob}
use Rattle.cli_tool_words.specs.declared.jobs.GrepJob.{GrepJob}
use Rattle.cli_tool_words.specs.declared.jobs.ListJob.{ListJob}
use Rattle.cli_tool_words.specs.declared.jobs.SplitJob.{SplitJob}
use Rattle.cli_tool_words.specs.declared.jobs.ToolJob.{ToolJob}
use Rattle.cli_tool_words.specs.declared.jobs.ToolJob.TheVariants.{List as Listing, Filter, Grep, Split, Recount, Flip, Gen, Stack}
use Rattle.patch_options.specs.declared.options.Input.{Input}
use Rattle.cli_run_answers.specs.declared.why.Why.{Why}
use Rattle.cli_run_answers.specs.declared.why.Why.TheVariants as whys
use Rattle.cli_run_answers.specs.Answers.{of_words}
use Rattle.cli_run_answers.specs.Moments.{Opens}
use Rattle.cli_run_answers.proofs.Opens.{opens_none}
use Rattle.cli_filter.specs.Command.{command}
use Rattle.cli_filter.specs.Jobs.{is_filter}
use Rattle.cli_filter.specs.Worlds.{World, world}
use Rattle.cli_filter.specs.Causes.{HasCause}
use Rattle.cli_filter.specs.Carries.{Carries}
use Rattle.cli_filter.proofs.Whole.{carries_early, carries_is}

-- the words give no job, or memory ran out
abbrev pub GivesNone : Result PlainToolJob WordFault → Why → Type 0
GivesNone job why = (why ≡ whys.Memory) ⊎ ((fault : WordFault) × (why ≡ of_words fault) × (job ≡ Err fault))

module _ (job : Result PlainToolJob WordFault) (t : TreeView) (h : FinderView) (a : SourceView) (c : SinkView) where
  words-cause : (fault : WordFault) → job ≡ Err fault → HasCause (of_words fault) job (world t h a c) (world t h a c)
  words-cause Usage is = is
  words-cause Memory is = tt

  words-going : (fault : WordFault) → of_words fault ≡ whys.Done → ⊥
  words-going Usage is = absurd (cc)
  words-going Memory is = absurd (cc)

  pub words_carry : (why : Why) → GivesNone job why → Carries job (world t h a c) (world t h a c) why
  words_carry why none = ⊎_elim
      (λ (is : why ≡ whys.Memory). carries_is why whys.Memory is (carries_early job t t h a c whys.Memory (opens_none t) tt (λ own. absurd (false≢true own)) (λ same. absurd (cc))))
      (λ (fault, is, gives). carries_is why (of_words fault) is
      (carries_early job t t h a c (of_words fault) (opens_none t) (words-cause fault gives) (λ own f left. ap (λ (j : Result PlainToolJob WordFault). command h.hit j f left) gives) (words-going fault)))
      none

  -- a tree that couldn't be settled
  pub settle_carry : (v : TreeView) (why : Why) → Opens t v → why ≡ whys.TreeFault → Rises t v → Carries job (world t h a c) (world v h a c) why
  settle_carry v why opens is rises = carries_is why whys.TreeFault is (carries_early job t v h a c whys.TreeFault opens rises (λ own. absurd (false≢true own)) (λ same. absurd (cc)))

same-fault : (one other : WordFault) (job : Result PlainToolJob WordFault) → job ≡ Err one → job ≡ Err other → one ≡ other
same-fault one other job is same = cc

-- which of them it was
pub words_say : (job : Result PlainToolJob WordFault) (why : Why) (fault : WordFault) → job ≡ Err fault → GivesNone job why → (why ≡ of_words fault) ⊎ (why ≡ whys.Memory)
words_say job why fault is none = ⊎_elim
    (λ memory. inr memory)
    (λ (other, says, gives). inl (says ∙ ap of_words (same-fault other fault job gives is)))
    none

-- words that give a job give no fault
pub words_not : (job : Result PlainToolJob WordFault) (j : PlainToolJob) (fault : WordFault) → job ≡ Ok j → job ≡ Err fault → ⊥
words_not job j fault is not = let never : Ok j ≡ Err fault = sym is ∙ not in absurd (cc)

pub carries_words : (job : Result PlainToolJob WordFault) (j : PlainToolJob) → job ≡ Ok j → {u w : World} {why : Why} → Carries (Ok j) u w why → Carries job u w why
carries_words job j is {u = u} {w = w} {why = why} c = subst (λ (x : Result PlainToolJob WordFault). Carries x u w why) (sym is) c

-- the job of a filter is of one of the filters
pub no_other : (job : ToolJob) → is_filter (plain_tool_job job) ≡ true
    → ((x : ListJob) → job ≡ Listing x → ⊥) → ((x : FilterJob) → job ≡ Filter x → ⊥) → ((x : GrepJob) → job ≡ Grep x → ⊥) → ((x : SplitJob) → job ≡ Split x → ⊥) → ((x : Input) → job ≡ Recount x → ⊥) → ((x : Input) → job ≡ Flip x → ⊥) → ⊥
no_other (Listing x) is a b c d e f = a x refl
no_other (Filter x) is a b c d e f = b x refl
no_other (Grep x) is a b c d e f = c x refl
no_other (Split x) is a b c d e f = d x refl
no_other (Recount x) is a b c d e f = e x refl
no_other (Flip x) is a b c d e f = f x refl
no_other (Gen x) is a b c d e f = false≢true is
no_other (Stack x) is a b c d e f = false≢true is
