use Rattle.std.proofs.Common.{ℕ, ◌++◌, map, Vec, Global, sym, ap, ◌∙◌}
use Rattle.std.proofs.lemmas.Option.{none-some}
use Rattle.outside.proofs.Exits.{on_ok_none}
use Rattle.cli_run_answers.specs.declared.fault.InputFault.TheVariants as faults
use Rattle.filter_whole_text.specs.Outcomes.{patterns_in}
use Rattle.filter_whole_text.proofs.Choosing.{file-cause, patterns-read}
use Rattle.filter_whole_text.proofs.Gathering.{fault-is}
use Rattle.filter_whole_text.proofs.patterns.add_file.Goals as goal

pub returns-in_err-text : goal.returns-in_err-text
returns-in_err-text g c = record {
  untouched = c.read_file.ensures.untouched;
  added = on_ok_none _ _ c.from_residual.result c.from_residual.ensures.1;
  cause = let e = c.in_err-text.field-0.0 in
      rw (fault-is c.from_residual.result e c.from_residual.ensures.1) (file-cause e _ _ c.args.name.now c.in_err-text.ensures.cause);
}

pub returns : goal.returns
returns g c = record {
  untouched = c.read_file.ensures.untouched;
  added = λ f told.
      let text = c.in_ok-text.text.items in
      (patterns_in text, patterns-read f c.args.name.now text (c.in_ok-text.ensures.text f (told (λ none. none-some c.args.name.now (sym none)))) c.in_ok-text.ensures.short, c.in_ok-add_lines.ensures ∙ ap (λ bytes. map (λ (p : Vec ℕ Global). p.items) c.args.patterns.now.items ++ patterns_in bytes) c.deref.ensures.value);
  cause = tt;
}

pub returns-in_err-add_lines : goal.returns-in_err-add_lines
returns-in_err-add_lines g c = record {
  untouched = c.read_file.ensures.untouched;
  added = on_ok_none _ _ c.from_residual-in_err-add_lines.result c.from_residual-in_err-add_lines.ensures.1;
  cause = rw (fault-is c.from_residual-in_err-add_lines.result faults.Memory c.from_residual-in_err-add_lines.ensures.1) tt;
}
