use Rattle.std.proofs.Common.{◌∙◌, ◌&&◌, inr, refl, sym}
use Rattle.clap.proofs.TakesLemmas.{passed_up}
use Rattle.outside.proofs.Exits.{if_ok_none}
use Rattle.patch_options.specs.Simple.{rows_in}
use Rattle.patch_options.proofs.Refusing.{refused_as, no_left, no_right, all_yes}
use Rattle.cli_tool_words.specs.Asked.{are_ranges, is_filter, is_formed, is_subject}
use Rattle.cli_tool_words.specs.Styling.{is_style}
use Rattle.cli_tool_words.specs.PlainJobs.PlainToolJob.{filter_job}
use Rattle.cli_tool_words.proofs.filtering.filter_of.Goals as goal

pub returns-then-not-is_formed : goal.returns-then-not-is_formed
returns-then-not-is_formed c = record {
  job = tt;
  lawful = tt;
  refused = inr (refl, no_left _ _ (sym c.is_formed.ensures ∙ c.if-not-is_formed.true));
}

pub returns-in_err-style : goal.returns-in_err-style
returns-in_err-style c = record {
  job = if_ok_none _ _ c.from_residual.result c.from_residual.ensures.1;
  lawful = if_ok_none _ _ c.from_residual.result c.from_residual.ensures.1;
  refused = (
      let fault = c.in_err-style.field-0.0 in
      passed_up c.from_residual.result fault _ c.from_residual.ensures.1 (refused_as fault _ _ (λ none. no_right _ _ (no_left _ _ none)) c.in_err-style.ensures.refused));
}

pub returns-in-Err : goal.returns-in-Err
returns-in-Err c = record {
  job = tt;
  lawful = tt;
  refused = refused_as c.in-Err.fault _ _ (λ none. no_right _ _ (no_right _ _ (no_left _ _ none))) c.in-Err.ensures.refused;
}

pub returns-in-Err-read_subject : goal.returns-in-Err-read_subject
returns-in-Err-read_subject c = record {
  job = tt;
  lawful = tt;
  refused = (
      let rows = rows_in c.args.matches.now in
      let form = is_formed rows in
      let style = is_style rows in
      let ranges = are_ranges rows in
      let subject = is_subject rows in
      refused_as c.in-Err-read_subject.fault subject (is_filter rows) (λ none. no_right form (style && (ranges && subject)) (no_right style (ranges && subject) (no_right ranges subject none))) c.in-Err-read_subject.ensures.refused);
}

pub returns-in-Ok-read_subject : goal.returns-in-Ok-read_subject
returns-in-Ok-read_subject c = record {
  job = (
      let all = c.in-Ok.ensures in
      λ i. filter_job (record {
        input = c.in-Ok-read_subject.ensures.input i;
        select = c.in-Ok-read_subject.ensures.select i;
        hunks = all.hunks i;
        lines = all.lines i;
        files = all.files i;
        format = c.form_in.ensures i;
        verbose = c.is_used.ensures i;
        style = c.in_ok-style.ensures.style i;
        marks = c.marks_in.ensures i;
      }));
  lawful = all_yes _ _ (sym c.is_formed.ensures ∙ c.if-not-is_formed.false)
      (all_yes _ _ c.in_ok-style.ensures.lawful (all_yes _ _ c.in-Ok.ensures.lawful c.in-Ok-read_subject.ensures.lawful));
  refused = tt;
}
