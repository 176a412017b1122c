use Rattle.std.proofs.Common.{◌∙◌, refl, sym, subst}
use Rattle.std.proofs.lemmas.Result.{IfOk-from_err}
use Rattle.outside.specs.Calls.{IsThere, SealsStay}
use Rattle.outside.specs.Quiet.{WorksOn}
use Rattle.outside.proofs.Quiet.{works_both}
use Rattle.replace_file.proofs.Copying.{reads_seals, there_told, untouched_works}
use Rattle.replace_file.proofs.Work.{stays_both}
use Rattle.replace_file.proofs.Runs.{run_then, run_first, on_ok_from}
use Rattle.replace_file.proofs.backup.copy_whole.Goals as goal

pub returns-in_err-copy_file : goal.returns-in_err-copy_file
returns-in_err-copy_file g c = record {
  name = c.copy_file.ensures.name;
  run = run_first c.copy_file.ensures.run.passes (c.in_err-copy_file.ensures.run.cause refl);
  works = c.copy_file.ensures.works;
  seals = c.copy_file.ensures.seals;
  there = IfOk-from_err c.from_residual.result _ c.from_residual.ensures.0;
  bytes = IfOk-from_err c.from_residual.result _ c.from_residual.ensures.0;
}

pub returns : goal.returns
returns g c =
    let u = g.T.Tree.view c.args.tree.now in
    let v = g.T.Tree.view c.copy_file.new.tree in
    let w = g.T.Tree.view c.set_like.new.tree in
    let begun = c.args.begun.now in
    let name = begun.name.now in
    let works = c.copy_file.ensures.works in
    let same = c.set_like.ensures.untouched in
    record {
      name = c.set_like.ensures.name ∙ c.copy_file.ensures.name;
      run = run_then c.copy_file.ensures.run.passes c.set_like.ensures.run;
      works = works_both u v w name begun.temporary works (untouched_works name same works.quiet);
      seals = stays_both u v w name c.copy_file.ensures.seals (reads_seals v w name same);
      there = on_ok_from c.set_like.result (there_told v w name same.told c.in_ok-copy_file.ensures.there);
      bytes = on_ok_from c.set_like.result (λ f h told now. c.in_ok-copy_file.ensures.bytes f h told (sym same.told ∙ now));
    }

pub set_like-requires : goal.set_like-requires
set_like-requires g c = subst (λ n. IsThere (g.T.Tree.view c.copy_file.new.tree) n) (sym c.copy_file.ensures.name) c.in_ok-copy_file.ensures.there

pub copy_file-requires-clause-quiet : goal.copy_file-requires-clause-quiet
copy_file-requires-clause-quiet g c = c.requires.quiet

pub copy_file-requires-clause-lasting : goal.copy_file-requires-clause-lasting
copy_file-requires-clause-lasting g c = c.requires.lasting

pub copy_file-requires-clause-begun : goal.copy_file-requires-clause-begun
copy_file-requires-clause-begun g c = c.requires.begun
