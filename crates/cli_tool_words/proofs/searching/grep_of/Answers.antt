use Rattle.std.proofs.Common.{◌∙◌, ◌&&◌, codes, inr, refl, sym}
use Rattle.clap.proofs.TakesLemmas.{passed_up}
use Rattle.outside.proofs.Exits.{if_ok_none}
use Rattle.patch_options.proofs.Refusing.{refused_as, no_left, no_right, all_yes}
use Rattle.patch_options.specs.Forms.{is_name}
use Rattle.patch_options.specs.Simple.{rows_in}
use Rattle.patch_options.specs.Table.{has_form, value_of}
use Rattle.cli_tool_words.specs.Asked.{is_grep, is_grep_out, is_grepped, is_list, is_searched}
use Rattle.cli_tool_words.specs.PlainJobs.PlainToolJob.{grep_job}
use Rattle.cli_tool_words.proofs.searching.grep_of.Goals as goal

pub returns-then-not-is_grepped : goal.returns-then-not-is_grepped
returns-then-not-is_grepped c = record {
  job = tt;
  lawful = tt;
  refused = inr (refl, no_left _ _ (sym c.is_grepped.ensures ∙ c.if-not-is_grepped.true));
}

pub returns-in_default : goal.returns-in_default
returns-in_default c = record {
  job = tt;
  lawful = tt;
  refused = inr (refl, no_right _ _ (no_left _ _ (sym c.in_default.ensures.lawful)));
}

pub returns-in_default-searched_in : goal.returns-in_default-searched_in
returns-in_default-searched_in c = record {
  job = tt;
  lawful = tt;
  refused = inr (refl, no_right _ _ (no_right _ _ (no_left _ _ (sym c.in_default-searched_in.ensures.lawful))));
}

pub returns-in_err-sought : goal.returns-in_err-sought
returns-in_err-sought c = record {
  job = if_ok_none _ _ c.from_residual.result c.from_residual.ensures.1;
  lawful = if_ok_none _ _ c.from_residual.result c.from_residual.ensures.1;
  refused = (
      let fault = c.in_err-sought.field-0.0 in
      let rows = rows_in c.args.matches.now in
      let words = is_grepped rows in
      let out = has_form is_grep_out (value_of rows (codes "output-matching")) in
      let only = has_form is_searched (value_of rows (codes "only-match")) in
      let file = has_form is_name (value_of rows (codes "file")) in
      let list = is_list rows in
      passed_up c.from_residual.result fault _ c.from_residual.ensures.1
      (refused_as fault file (is_grep rows) (λ none. no_right words (out && (only && (file && list))) (no_right out (only && (file && list)) (no_right only (file && list) (no_left file list none)))) c.in_err-sought.ensures.refused));
}

pub returns-in-Err : goal.returns-in-Err
returns-in-Err c = record {
  job = tt;
  lawful = tt;
  refused = (
      let rows = rows_in c.args.matches.now in
      let words = is_grepped rows in
      let out = has_form is_grep_out (value_of rows (codes "output-matching")) in
      let only = has_form is_searched (value_of rows (codes "only-match")) in
      let file = has_form is_name (value_of rows (codes "file")) in
      let list = is_list rows in
      refused_as c.in-Err.fault list (is_grep rows) (λ none. no_right words (out && (only && (file && list))) (no_right out (only && (file && list)) (no_right only (file && list) (no_right file list none)))) c.in-Err.ensures.refused);
}

pub returns-in-Ok-clause-job : goal.returns-in-Ok-clause-job
returns-in-Ok-clause-job c = λ i. grep_job (record {
  input = c.in-Ok.ensures.input i;
  select = c.in-Ok.ensures.select i;
  pattern = c.in_ok-sought.ensures.pattern i;
  pattern_file = c.in_ok-sought.ensures.file i;
  searched = c.in-Some-searched_in.ensures.searched i;
  output = c.in-Some.ensures.output i;
  shown = c.in-Ok.ensures.shown i;
  marks = c.marks_in.ensures i;
})

pub returns-in-Ok-clause-lawful : goal.returns-in-Ok-clause-lawful
returns-in-Ok-clause-lawful c =
    all_yes _ _ (sym c.is_grepped.ensures ∙ c.if-not-is_grepped.false)
    (all_yes _ _ (sym c.in-Some.ensures.lawful)
    (all_yes _ _ (sym c.in-Some-searched_in.ensures.lawful)
    (all_yes _ _ c.in_ok-sought.ensures.lawful c.in-Ok.ensures.lawful)))

pub returns-in-Ok-clause-refused : goal.returns-in-Ok-clause-refused
returns-in-Ok-clause-refused c = tt
