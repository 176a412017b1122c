use Rattle.std.proofs.Common.{Bool, Ok, Err, inl, inr, ⊎_elim, refl, sym, ap, ◌∙◌}
use Rattle.std.specs.Prelude.{if◌then◌else◌}
use Rattle.patch_options.specs.declared.options.WordFault.TheVariants.{Usage}
use Rattle.cli_tool_words.specs.PlainJobs.{plain_tool_job}
use Rattle.cli_run_answers.specs.Answers.{of_words}
use Rattle.cli_filter.specs.Jobs.{filter_of}
use Rattle.cli_filter.proofs.reading.read_job.Goals as goal

pub returns-then-is_filter : goal.returns-then-is_filter
returns-then-is_filter c =
    let is = sym c.is_filter.ensures ∙ c.if-is_filter.true in record {
      job = ap filter_of c.in-Ok.ensures.job ∙ ap (λ (b : Bool). if b then Ok (plain_tool_job c.in-Ok.job) else Err Usage) is;
      filter = is;
      refused = tt;
    }

pub returns-else-is_filter : goal.returns-else-is_filter
returns-else-is_filter c = record {
  job = tt;
  filter = tt;
  refused = inr (Usage, refl, ap filter_of c.in-Ok.ensures.job ∙ ap (λ (b : Bool). if b then Ok (plain_tool_job c.in-Ok.job) else Err Usage) (sym c.is_filter.ensures ∙ c.if-is_filter.false));
}

pub returns-in-Err : goal.returns-in-Err
returns-in-Err c = record {
  job = tt;
  filter = tt;
  refused = ⊎_elim (λ is. inl (c.from.ensures ∙ ap of_words is)) (λ is. inr (c.in-Err.fault, c.from.ensures, ap filter_of is)) c.in-Err.ensures.refused;
}
