use Rattle.std.proofs.Common.{refl, ℕ, List}
use Rattle.outside.specs.Files.{Files, bytes_at}
use Rattle.outside.proofs.Quiet.{swap_either, seals_swap}
use Rattle.replace_file.proofs.Putting.{swap_failed, swapped, puts_makes, bytes_same}
use Rattle.replace_file.proofs.temp.Sealed.swap.Goals as goal

pub returns-in_err-swap : goal.returns-in_err-swap
returns-in_err-swap g c = record {
  puts = (
      let u = g.T.Tree.view c.args.tree.now in
      let v = g.T.Tree.view c.swap.new.self in
      let s = c.args.self in
      let q = c.requires in
      let e = c.swap.ensures in
      swap_failed c.swap.result u v s.name.now c.args.to.now s.temporary q.lasting q.quiet q.there e.call (swap_either c.swap.result u v s.name.now c.args.to.now s.temporary e.call.passes e.ok e.err e.quiet (e.crash q.sealed)) (seals_swap c.swap.result u v s.name.now c.args.to.now q.sealed e.sealed e.seal e.seals) c.from_residual.result c.from_residual.ensures.0 (c.in_err-swap.ensures.call.cause refl) c.in_err-swap.ensures.err);
  makes = λ f told. (
      let u = g.T.Tree.view c.args.tree.now in
      let v = g.T.Tree.view c.swap.new.self in
      let s = c.args.self in
      let q = c.requires in
      let e = c.swap.ensures in
      let k : Files → List ℕ = λ g. bytes_at g s.name.now in
      puts_makes u v c.from_residual.result s.name.now c.args.to.now (k f) k s.temporary (swap_failed c.swap.result u v s.name.now c.args.to.now s.temporary q.lasting q.quiet q.there e.call (swap_either c.swap.result u v s.name.now c.args.to.now s.temporary e.call.passes e.ok e.err e.quiet (e.crash q.sealed)) (seals_swap c.swap.result u v s.name.now c.args.to.now q.sealed e.sealed e.seal e.seals) c.from_residual.result c.from_residual.ensures.0 (c.in_err-swap.ensures.call.cause refl) c.in_err-swap.ensures.err) (bytes_same u k f told));
}

pub returns : goal.returns
returns g c = record {
  puts = (
      let u = g.T.Tree.view c.args.tree.now in
      let v = g.T.Tree.view c.swap.new.self in
      let x = g.T.Tree.view c.fix_names.new.self in
      let s = c.args.self in
      let q = c.requires in
      let e = c.swap.ensures in
      let d = c.fix_names.ensures in
      swapped c.swap.result u v s.name.now c.args.to.now s.temporary q.lasting q.quiet q.there e.call (swap_either c.swap.result u v s.name.now c.args.to.now s.temporary e.call.passes e.ok e.err e.quiet (e.crash q.sealed)) (seals_swap c.swap.result u v s.name.now c.args.to.now q.sealed e.sealed e.seal e.seals) c.fix_names.result x c.in_ok-swap.ensures.ok (c.in_ok-swap.ensures.sealed q.sealed) d.call d.same d.seals d.crash d.fixed);
  makes = λ f told. (
      let u = g.T.Tree.view c.args.tree.now in
      let v = g.T.Tree.view c.swap.new.self in
      let x = g.T.Tree.view c.fix_names.new.self in
      let s = c.args.self in
      let q = c.requires in
      let e = c.swap.ensures in
      let d = c.fix_names.ensures in
      let k : Files → List ℕ = λ g. bytes_at g s.name.now in
      puts_makes u x c.fix_names.result s.name.now c.args.to.now (k f) k s.temporary (swapped c.swap.result u v s.name.now c.args.to.now s.temporary q.lasting q.quiet q.there e.call (swap_either c.swap.result u v s.name.now c.args.to.now s.temporary e.call.passes e.ok e.err e.quiet (e.crash q.sealed)) (seals_swap c.swap.result u v s.name.now c.args.to.now q.sealed e.sealed e.seal e.seals) c.fix_names.result x c.in_ok-swap.ensures.ok (c.in_ok-swap.ensures.sealed q.sealed) d.call d.same d.seals d.crash d.fixed) (bytes_same u k f told));
}
