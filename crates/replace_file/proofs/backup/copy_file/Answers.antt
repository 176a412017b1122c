use Rattle.std.proofs.Common.{◌++◌, ◌∙◌, ℕ, List, sym, ap, arith, take_all, refl}
use Rattle.std.proofs.lemmas.Result.{on_ok_weaker, IfOk-from_err}
use Rattle.outside.specs.Files.{bytes_at}
use Rattle.outside.proofs.Quiet.{works_both}
use Rattle.replace_file.proofs.Copying.{reads_works, size_bytes, reads_seals, there_told}
use Rattle.outside.proofs.Views.{untouched_quiet}
use Rattle.replace_file.proofs.Work.{stays_both}
use Rattle.replace_file.proofs.Runs.{run_ok, run_first, run_then}
use Rattle.replace_file.proofs.backup.copy_file.Goals as goal

pub returns-in_err-size : goal.returns-in_err-size
returns-in_err-size g c = record {
  name = refl;
  run = run_first c.size.ensures.call.passes (c.in_err-size.ensures.call.cause refl);
  works = reads_works (g.T.Tree.view c.args.tree.now) (g.T.Tree.view c.size.new.self) c.size.result c.args.begun.now.name.now c.args.begun.now.temporary c.size.ensures.call c.size.ensures.untouched c.requires.quiet;
  seals = reads_seals (g.T.Tree.view c.args.tree.now) (g.T.Tree.view c.size.new.self) c.args.begun.now.name.now c.size.ensures.untouched;
  there = IfOk-from_err c.from_residual.result _ c.from_residual.ensures.0;
  bytes = IfOk-from_err c.from_residual.result _ c.from_residual.ensures.0;
}

pub returns-in-None-clause-works : goal.returns-in-None-clause-works
returns-in-None-clause-works g c = reads_works (g.T.Tree.view c.args.tree.now) (g.T.Tree.view c.size.new.self) c.size.result c.args.begun.now.name.now c.args.begun.now.temporary c.size.ensures.call c.size.ensures.untouched c.requires.quiet

pub returns-in-Some : goal.returns-in-Some
returns-in-Some g c = record {
  name = c.copy_bytes.ensures.name;
  run = run_then c.size.ensures.call.passes c.copy_bytes.ensures.run;
  works = (
      let u = g.T.Tree.view c.args.tree.now in
      let v = g.T.Tree.view c.size.new.self in
      let begun = c.args.begun.now in
      works_both u v (g.T.Tree.view c.copy_bytes.new.tree) begun.name.now begun.temporary (reads_works u v c.size.result begun.name.now begun.temporary c.size.ensures.call c.size.ensures.untouched c.requires.quiet) c.copy_bytes.ensures.works);
  seals = stays_both (g.T.Tree.view c.args.tree.now) (g.T.Tree.view c.size.new.self) (g.T.Tree.view c.copy_bytes.new.tree) c.args.begun.now.name.now (reads_seals (g.T.Tree.view c.args.tree.now) (g.T.Tree.view c.size.new.self) c.args.begun.now.name.now c.size.ensures.untouched) c.copy_bytes.ensures.seals;
  there = on_ok_weaker c.copy_bytes.result (λ copies. copies.there) c.copy_bytes.ensures.copies;
  bytes = (
      let from = c.args.from.now in
      on_ok_weaker c.copy_bytes.result (λ copies f h told now.
      let sized = size_bytes f from c.in-Some.size (sym c.in-Some.is ∙ c.in_ok-size.ensures.size f told) in
      copies.bytes f h (c.size.ensures.untouched.told ∙ told) now ∙ ap (λ (l : List ℕ). bytes_at f c.args.begun.now.name.now ++ l) (take_all c.in-Some.size (bytes_at f from) (omega (arith, sized.1)))) c.copy_bytes.ensures.copies);
}

pub copy_bytes-requires-clause-quiet : goal.copy_bytes-requires-clause-quiet
copy_bytes-requires-clause-quiet g c = untouched_quiet c.size.ensures.untouched c.requires.quiet

pub copy_bytes-requires-clause-lasting : goal.copy_bytes-requires-clause-lasting
copy_bytes-requires-clause-lasting g c = c.requires.lasting

pub copy_bytes-requires-clause-there : goal.copy_bytes-requires-clause-there
copy_bytes-requires-clause-there g c = λ f told. (size_bytes f c.args.from.now c.in-Some.size (sym c.in-Some.is ∙ c.in_ok-size.ensures.size f (sym c.size.ensures.untouched.told ∙ told))).0

pub copy_bytes-requires-clause-begun : goal.copy_bytes-requires-clause-begun
copy_bytes-requires-clause-begun g c = there_told (g.T.Tree.view c.args.tree.now) (g.T.Tree.view c.size.new.self) c.args.begun.now.name.now c.size.ensures.untouched.told c.requires.begun

pub copy_bytes-requires-clause-size : goal.copy_bytes-requires-clause-size
copy_bytes-requires-clause-size g c = λ f told. (size_bytes f c.args.from.now c.in-Some.size (sym c.in-Some.is ∙ c.in_ok-size.ensures.size f (sym c.size.ensures.untouched.told ∙ told))).1

pub returns-in-None-clause-name : goal.returns-in-None-clause-name
returns-in-None-clause-name g c = refl

pub returns-in-None-clause-run : goal.returns-in-None-clause-run
returns-in-None-clause-run g c = run_ok c.size.ensures.call.passes

pub returns-in-None-clause-seals : goal.returns-in-None-clause-seals
returns-in-None-clause-seals g c = reads_seals (g.T.Tree.view c.args.tree.now) (g.T.Tree.view c.size.new.self) c.args.begun.now.name.now c.size.ensures.untouched

pub returns-in-None-clause-there : goal.returns-in-None-clause-there
returns-in-None-clause-there g c = there_told (g.T.Tree.view c.args.tree.now) (g.T.Tree.view c.size.new.self) c.args.begun.now.name.now c.size.ensures.untouched.told c.requires.begun
