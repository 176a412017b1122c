use Rattle.std.proofs.Common.{IfOk, IfErr, Ok, refl, sym, subst}
use Rattle.std.proofs.lemmas.Result.{IfErr-weaker}
use Rattle.std.specs.Option.{option_copied}
use Rattle.outside.specs.Calls.{untouched_none}
use Rattle.outside.specs.SourceView.{source_passes_none}
use Rattle.patch_options.specs.declared.options.Input.{Input}
use Rattle.cli_run_answers.specs.declared.fault.InputFault.{InputFault}
use Rattle.cli_run_answers.specs.Input.{IsStandard, IsFile, IsAnswer, HasCause}
use Rattle.cli_run_answers.proofs.Answering.{Text, source-text, source-end, source-cause, file-text, takes-none}
use Rattle.cli_run_answers.proofs.input.read_input.Goals as goal

pub returns-in-Standard : goal.returns-in-Standard
returns-in-Standard g c =
    let t = g.T.Tree.view c.args.tree.now in
    let s = g.I.Source.view c.args.source.now in
    let q = g.I.Source.view c.read_source.new.source in
    let r = c.read_source.result in
    let dir = option_copied c.args.dir in
    record {
      untouched = untouched_none t;
      tree = λ is. refl;
      passes = c.read_source.ensures.passes;
      source = λ is. absurd (subst IsFile c.in-Standard.is is);
      short = c.read_source.ensures.short;
      text = subst (λ (i : Input). IfOk r (λ (text : Text). IsAnswer (Ok text.items) i dir t s)) (sym c.in-Standard.is) (source-text s q r dir t c.read_source.ensures.short c.read_source.ensures.text c.read_source.ensures.end);
      end = source-end s q r _ c.read_source.ensures.text c.read_source.ensures.end;
      taken = c.read_source.ensures.taken;
      cause = subst (λ (i : Input). IfErr r (λ (e : InputFault). HasCause e i dir t t s q)) (sym c.in-Standard.is) (IfErr-weaker r _ _ (λ e h. source-cause e dir t t s q h) c.read_source.ensures.cause);
    }

pub returns-in_ok-text-in-File : goal.returns-in_ok-text-in-File
returns-in_ok-text-in-File g c =
    let t = g.T.Tree.view c.args.tree.now in
    let s = g.I.Source.view c.args.source.now in
    let dir = option_copied c.args.dir in
    let text = c.in_ok-text-in-File.text.items in
    let is = c.in_ok-text-in-File.ensures in
    record {
      untouched = c.read_below.ensures.untouched;
      tree = λ standard. absurd (subst IsStandard c.in-File.is standard);
      passes = source_passes_none s;
      source = λ file. refl;
      short = is.short;
      text = subst (λ (i : Input). IsAnswer (Ok text) i dir t s) (sym c.in-File.is) (file-text text c.in-File.name dir t s is.short is.text);
      end = λ standard. absurd (subst IsStandard c.in-File.is standard);
      taken = takes-none 268435457 s;
      cause = tt;
    }
