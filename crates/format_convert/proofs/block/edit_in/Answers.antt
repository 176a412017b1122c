use Rattle.std.proofs.Common.{◌≡◌, sym, ap, subst, false}
use Rattle.std.specs.Prelude.{Option, MatchOption}
use Rattle.format_convert.specs.declared.place.FoundEdit.{FoundEdit}
use Rattle.format_convert.specs.Fronts.{begins_at}
use Rattle.format_convert.specs.Walk.{IsFound, IsFoundIn, edit_at, edits_left}
use Rattle.format_convert.proofs.FrontLemmas.{begins-not}
use Rattle.format_convert.proofs.block.edit_in.Goals as goal

pub returns-in_err-found : goal.returns-in_err-found
returns-in_err-found c = subst (λ (o : Option FoundEdit). MatchOption o (begins_at c.args.gap (edits_left c.args.kept c.args.place) ≡ false) (IsFoundIn c.args.kept c.args.place c.args.gap)) (sym c.from_residual.ensures) (ap (begins_at c.args.gap) c.in_err-found.ensures)

pub returns-else-found-gap : goal.returns-else-found-gap
returns-else-found-gap c =
    let f : IsFound c.args.kept c.args.place c.in_ok-found.found = c.in_ok-found.ensures in
    begins-not c.args.gap (edits_left c.args.kept c.args.place) (edit_at c.args.kept.set.now.text c.in_ok-found.found.edit) (edits_left c.args.kept c.in_ok-found.found.behind) f.left c.if-found-gap.false

pub returns-then-found-gap : goal.returns-then-found-gap
returns-then-found-gap c = record { found = c.in_ok-found.ensures; here = c.if-found-gap.true }
