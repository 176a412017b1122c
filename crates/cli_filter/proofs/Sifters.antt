-- The filters that write one text, each as its words in two crates agree.
use Rattle.std.proofs.Common.{◌≡◌, inl, inr, ⊎_elim, ℕ, List, false, Option, None, Result, ap, sym, ◌∙◌}
use Rattle.hunk_core.specs.declared.Form.{Form}
use Rattle.outside.specs.FinderView.{FinderView}
use Rattle.patch_options.specs.declared.options.Input.{Input}
use Rattle.patch_options.specs.declared.options.Input.TheVariants.{Standard, File}
use Rattle.cli_run_answers.specs.Input.{IsFile, IsStandard}
use Rattle.cli_tool_words.specs.PlainJobs.{PlainListJob, PlainFilterJob, PlainGrepJob}
use Rattle.cli_tool_words.specs.PlainJobs.PlainToolJob.{list_job, filter_job, grep_job, recount_job, flip_job}
use Rattle.filter_whole_text.specs.declared.fault.FilterFault.{FilterFault}
use Rattle.filter_whole_text.specs.Outcomes.{IsOutcomeOf, recount_outcome, no_selection}
use Rattle.cli_filter.specs.Outcomes.{IsGrepped, list_outcome, styled_filter}
use Rattle.filter_whole_text.specs.Flips.{HasFlipCause, flip_outcome}
use Rattle.filter_whole_text.specs.Sifting.{HasTextCause, HasCountCause}
use Rattle.cli_filter.specs.Command.{in_form, written}
use Rattle.cli_filter.proofs.Sifted.{Agrees}

-- an input is standard input or a file
pub file-unless : (i : Input) → (IsStandard i → ⊥) → IsFile i
file-unless Standard never = never tt
file-unless (File name) never = tt

pub lists : (j : PlainListJob) (v : FinderView) → Agrees (list_job j) j.input j.select (HasTextCause j.select.skip_binary) ⊥ (IsOutcomeOf (list_outcome j)) v
lists j v = record {
  from = λ is. is;
  to = λ is. is;
  named = λ is. is;
  texts = λ e is. is;
  pattern = λ is. absurd is;
  outcome = λ f left o is. inl (ap (λ (x : Result (List ℕ) FilterFault). written x) is);
  uncut = λ why f u w. tt;
}

pub filters : (j : PlainFilterJob) (v : FinderView) → j.format ≡ None → Agrees (filter_job j) j.input j.select (HasTextCause j.select.skip_binary) ⊥ (IsOutcomeOf (styled_filter j)) v
filters j v plain = record {
  from = λ is. is;
  to = λ is. is;
  named = λ is. is;
  texts = λ e is. is;
  pattern = λ is. absurd is;
  outcome = λ f left o is. inl (ap (λ (x : Result (List ℕ) FilterFault). written x) is ∙ sym (ap (λ (form : Option Form). in_form form j f left) plain));
  uncut = λ why f u w. tt;
}

pub greps : (j : PlainGrepJob) (v : FinderView) → Agrees (grep_job j) j.input j.select (HasTextCause j.select.skip_binary) (v.takes j.pattern ≡ false) (IsGrepped v.takes v.hit j) v
greps j v = record {
  from = λ is. is;
  to = λ is. is;
  named = λ is. is;
  texts = λ e is. is;
  pattern = λ is. is;
  outcome = λ f left o is. ⊎_elim
      (λ same. inl (ap (λ (x : Result (List ℕ) FilterFault). written x) same))
      (λ (takes, refuses, has). inr (ap (λ (x : Result (List ℕ) FilterFault). written x) refuses, (takes, has)))
      is;
  uncut = λ why f u w. tt;
}

pub recounts : (i : Input) (v : FinderView) → Agrees (recount_job i) i no_selection HasCountCause ⊥ (IsOutcomeOf (recount_outcome i)) v
recounts i v = record {
  from = λ is. is;
  to = λ is. is;
  named = λ is. is;
  texts = λ e is. is;
  pattern = λ is. absurd is;
  outcome = λ f left o is. inl (ap (λ (x : Result (List ℕ) FilterFault). written x) is);
  uncut = λ why f u w. tt;
}

pub flips : (i : Input) (v : FinderView) → Agrees (flip_job i) i no_selection HasFlipCause ⊥ (IsOutcomeOf (flip_outcome i)) v
flips i v = record {
  from = λ is. is;
  to = λ is. is;
  named = λ is. is;
  texts = λ e is. is;
  pattern = λ is. absurd is;
  outcome = λ f left o is. inl (ap (λ (x : Result (List ℕ) FilterFault). written x) is);
  uncut = λ why f u w. tt;
}
