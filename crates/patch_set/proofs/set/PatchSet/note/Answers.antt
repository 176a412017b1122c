use Rattle.std.proofs.Common.{length, ap, arith}
use Rattle.patch_set.specs.SetView.{SetView, with_row}
use Rattle.patch_set.proofs.set.PatchSet.note.Goals as goal

pub index_mut-requires : goal.index_mut-requires
index_mut-requires c = omega (arith, c.requires, ap (λ (s : SetView). length s.patches) c.self.view_is, c.self.invariant.0.rows)

pub returns : goal.returns
returns c = ap (λ (s : SetView). with_row s c.args.patch c.args.row) c.self.view_is
