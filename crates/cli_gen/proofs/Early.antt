-- Ends before a file is put: by the words, by a tree that couldn't be settled, or by want of memory. The made patch isn't refused.
use Rattle.std.proofs.Common.{◌≡◌, ◌⊎◌, inl, inr, ⊎_elim, false, Option, None, Some, Result, Ok, Err, refl, sym, ◌∙◌, ap, subst}
use Rattle.std.proofs.lemmas.Bool.{false≢true}
use Rattle.outside.specs.TreeView.{TreeView, Rises}
use Rattle.outside.specs.SinkView.{SinkView}
use Rattle.outside.specs.ScratchView.{ScratchView}
use Rattle.patch_options.specs.declared.options.WordFault.{WordFault}
use Rattle.patch_options.specs.declared.options.WordFault.TheVariants as words
use Rattle.patch_set.specs.declared.fault.SetFault.{SetFault}
use Rattle.patch_set.specs.Refusals.{refusal}
use Rattle.patch_run.specs.Applied.{Receipt}
use Rattle.patch_options.specs.Table.{uses, value_of}
use Rattle.cli_tool_words.specs.PlainJobs.{PlainGenJob, IsSize}
use Rattle.cli_run_answers.specs.declared.why.Why.{Why}
use Rattle.cli_run_answers.specs.declared.why.Why.TheVariants as whys
use Rattle.cli_run_answers.specs.Answers.{of_set, of_words, is_through}
use Rattle.cli_run_answers.specs.Moments.{Opens}
use Rattle.cli_run_answers.specs.Worlds.{World, world}
use Rattle.cli_run_answers.proofs.Opens.{opens_none}
use Rattle.law_reading.specs.Plain.{TakesNames}
use Rattle.law_reading.proofs.Free.{made-free}
use Rattle.patch_run.specs.Answer.{HasReceipt}
use Rattle.cli_gen.specs.Jobs.{options_for}
use Rattle.cli_gen.specs.Command.{command, patch_text}
use Rattle.cli_gen.specs.Causes.{HasCause}
use Rattle.cli_gen.specs.Carries.{Carries}
use Rattle.cli_gen.proofs.Whole.{carries_early, carries_is}

-- the words give no job, or memory ran out
abbrev pub GivesNone : Result PlainGenJob WordFault → Why → Type 0
GivesNone job why = (why ≡ whys.Memory) ⊎ ((fault : WordFault) × (why ≡ of_words fault) × (job ≡ Err fault))

-- the made patch is refused, or memory ran out
abbrev pub IsUnmade : PlainGenJob → Why → Type 0
IsUnmade j why = (why ≡ whys.Memory) ⊎ ((fault : SetFault) × (why ≡ of_set fault) × (refusal (options_for j) (patch_text j) ≡ Some fault))

module _ (job : Result PlainGenJob WordFault) (t : TreeView) (a : ScratchView) (c : SinkView) where
  words-cause : (fault : WordFault) → job ≡ Err fault → HasCause (of_words fault) job (world t a c) (world t a c)
  words-cause words.Usage is = is
  words-cause words.Memory is = tt

  words-receipt : (fault : WordFault) → HasReceipt (of_words fault) None
  words-receipt words.Usage = refl
  words-receipt words.Memory = refl

  words-going : (fault : WordFault) → is_through (of_words fault) ≡ false
  words-going words.Usage = refl
  words-going words.Memory = refl

  starved : Carries job (world t a c) (world t a c) whys.Memory None
  starved = carries_early job t t a c whys.Memory (opens_none t) tt refl refl (λ own. absurd (false≢true own))

  pub words_carry : (why : Why) (given : Option Receipt) → given ≡ None → GivesNone job why → Carries job (world t a c) (world t a c) why given
  words_carry why given was none = ⊎_elim
      (λ (is : why ≡ whys.Memory). carries_is why whys.Memory given None is was starved)
      (λ (fault, is, gives). carries_is why (of_words fault) given None is was
      (carries_early job t t a c (of_words fault) (opens_none t) (words-cause fault gives) (words-receipt fault) (words-going fault) (λ own f. ap (λ (x : Result PlainGenJob WordFault). command x f) gives)))
      none

  -- a tree that couldn't be settled
  pub settle_carry : (v : TreeView) (why : Why) → Opens t v → why ≡ whys.TreeFault → Rises t v → Carries job (world t a c) (world v a c) why None
  settle_carry v why opens is rises = carries_is why whys.TreeFault None None is refl (carries_early job t v a c whys.TreeFault opens rises refl refl (λ own. absurd (false≢true own)))

-- the options of `patchgen` take each file patch for the file that its header names
takes : (j : PlainGenJob) → TakesNames (options_for j)
unfolding uses value_of
takes j = record { only = refl; strip = refl; file = refl; dir = refl; output = refl; reject = refl; prefix = refl; base_prefix = refl; suffix = refl; reverse = refl }

pub patch_free : (j : PlainGenJob) → IsSize j → refusal (options_for j) (patch_text j) ≡ None
patch_free j size = made-free (options_for j) j.seed j.files j.lines (takes j) size.some_files size.few_files size.some_lines size.few_lines size.few

not_refused : (j : PlainGenJob) → IsSize j → (fault : SetFault) → refusal (options_for j) (patch_text j) ≡ Some fault → ⊥
not_refused j size fault is = let bad : None ≡ Some fault = sym (patch_free j size) ∙ is in absurd (cc)

pub unmade_carry : (j : PlainGenJob) (t : TreeView) (a : ScratchView) (c : SinkView) (why : Why) → IsSize j → IsUnmade j why → Carries (Ok j) (world t a c) (world t a c) why None
unmade_carry j t a c why size none = ⊎_elim
    (λ (is : why ≡ whys.Memory). carries_is why whys.Memory None None is refl (starved (Ok j) t a c))
    (λ (fault, is, gives). absurd (not_refused j size fault gives))
    none

same-fault : (one other : WordFault) (job : Result PlainGenJob WordFault) → job ≡ Err one → job ≡ Err other → one ≡ other
same-fault one other job is same = cc

-- which of them it was
pub words_say : (job : Result PlainGenJob WordFault) (why : Why) (fault : WordFault) → job ≡ Err fault → GivesNone job why → (why ≡ of_words fault) ⊎ (why ≡ whys.Memory)
words_say job why fault is none = ⊎_elim
    (λ memory. inr memory)
    (λ (other, says, gives). inl (says ∙ ap of_words (same-fault other fault job gives is)))
    none

-- words that give a job give no fault
pub words_not : (job : Result PlainGenJob WordFault) (j : PlainGenJob) (fault : WordFault) → job ≡ Ok j → job ≡ Err fault → ⊥
words_not job j fault is not = let never : Ok j ≡ Err fault = sym is ∙ not in absurd (cc)

pub carries_words : (job : Result PlainGenJob WordFault) (j : PlainGenJob) → job ≡ Ok j → {u w : World} {why : Why} {given : Option Receipt} → Carries (Ok j) u w why given → Carries job u w why given
carries_words job j is {u = u} {w = w} {why = why} {given = given} c = subst (λ (x : Result PlainGenJob WordFault). Carries x u w why given) (sym is) c

-- words that ask for a job aren't refused
pub asks_both : {job : Result PlainGenJob WordFault} {j : PlainGenJob} {fault : WordFault} → job ≡ Ok j → job ≡ Err fault → ⊥
asks_both asks refused = cc
