use Rattle.std.proofs.Common.{◌∙◌, None, Some, inr}
use Rattle.std.proofs.lemmas.Result.{IfErr-weaker, IfOk-weaker}
use Rattle.cli_tool_words.proofs.Reading.{job_by_name, no_job, refused_so}
use Rattle.cli_tool_words.proofs.words.read_tool_words.Goals as goal

pub returns-in-Some : goal.returns-in-Some
returns-in-Some c = record {
  job = IfOk-weaker c.read_by.result _ _ (λ job. λ is. job_by_name _ c.args.words.now c.first-item.result c.as_str.result.now c.in-len1-up.len_at_least c.first-item.is c.as_str.ensures.value (Some c.in-Some.tool) c.in-Some.ensures ∙ is) c.read_by.ensures.job;
  lawful = c.read_by.ensures.lawful;
  refused = IfErr-weaker c.read_by.result _ _ (λ fault. refused_so fault (job_by_name _ c.args.words.now c.first-item.result c.as_str.result.now c.in-len1-up.len_at_least c.first-item.is c.as_str.ensures.value (Some c.in-Some.tool) c.in-Some.ensures)) c.read_by.ensures.refused;
}

pub returns-in-None : goal.returns-in-None
returns-in-None c = record {
  job = tt;
  lawful = tt;
  refused = inr (job_by_name _ c.args.words.now c.first-item.result c.as_str.result.now c.in-len1-up.len_at_least c.first-item.is c.as_str.ensures.value None c.in-None.ensures);
}

pub returns-in-empty : goal.returns-in-empty
returns-in-empty c = record {
  job = tt;
  lawful = tt;
  refused = inr (no_job _ c.args.words.now c.in-empty.len_below);
}
