use Rattle.std.proofs.Common.{◌≡◌, ℕ, List, map, refl, sym, ap, ◌∙◌, inl, inr, ⊎_elim}
use Rattle.std.specs.List.{range_with_len}
use Rattle.patch_gen.specs.Tree.{made, made_file}
use Rattle.patch_options.specs.PlainJob.{PlainOptions, plain_options}
use Rattle.patch_set.specs.Refusals.{refusal}
use Rattle.cli_run_answers.specs.Answers.{of_set}
use Rattle.cli_tool_words.specs.PlainJobs.{plain_gen_job}
use Rattle.cli_gen.specs.Jobs.{options_for}
use Rattle.cli_gen.proofs.Made.{made_set}
use Rattle.cli_gen.proofs.ready.make_ready.Goals as goal

files_are : (seed files lines : ℕ) → (made seed files lines).files ≡ map (made_file seed lines) (range_with_len 1 files)
unfolding made
files_are seed files lines = refl

pub returns-in-Ok-read_set : goal.returns-in-Ok-read_set
returns-in-Ok-read_set c = record {
  made = record { named = c.in-Ok-places_of.ensures; bytes = c.in-Ok.ensures.files ∙ files_are c.args.job.seed c.args.job.files c.args.job.lines };
  options = c.options_for-options.ensures.options;
  set = made_set (plain_gen_job c.args.job) (plain_options c.options_for-options.result) c.in-Ok.made.patch.items c.in-Ok-read_set.set c.options_for-options.ensures.options c.in-Ok.ensures.patch c.options_for-options.ensures.lawful
      c.in-Ok-read_set.ensures.read c.in-Ok-read_set.ensures.fresh c.in-Ok-read_set.ensures.refused;
  hunks = c.in-Ok.ensures.hunks;
  refused = tt;
}

pub returns-in_default : goal.returns-in_default
returns-in_default c = record {
  options = tt;
  made = tt;
  set = tt;
  hunks = tt;
  refused = inl refl;
}

pub returns-in_default-places_of : goal.returns-in_default-places_of
returns-in_default-places_of c = record {
  options = tt;
  made = tt;
  set = tt;
  hunks = tt;
  refused = inl refl;
}

pub returns-in-Err : goal.returns-in-Err
returns-in-Err c = record {
  options = tt;
  made = tt;
  set = tt;
  hunks = tt;
  refused =
      let is = ap (λ (o : PlainOptions). refusal o c.in-Ok.made.patch.items) c.options_for-options.ensures.options ∙ ap (λ (l : List ℕ). refusal (options_for (plain_gen_job c.args.job)) l) c.in-Ok.ensures.patch in
      ⊎_elim (λ memory. inl (c.from.ensures ∙ ap of_set memory)) (λ refused. inr (c.in-Err.fault, c.from.ensures, sym is ∙ refused)) c.in-Err.ensures.refused;
}

pub read_set-requires : goal.read_set-requires
read_set-requires c = c.options_for-options.ensures.lawful
