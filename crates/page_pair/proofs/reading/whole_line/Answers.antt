use Rattle.std.proofs.Common.{None, Some, length, subst, sym}
use Rattle.std.proofs.lemmas.List.{take_rest}
use Rattle.page_pair.specs.Reading.{FindsWhole, IsOpenEnd, IsWhole}
use Rattle.page_pair.proofs.Cuts.{whole-feed, whole-open, none-whole}
use Rattle.page_pair.proofs.reading.whole_line.Goals as goal

pub returns-in-Some : goal.returns-in-Some
returns-in-Some c =
    let found = rw (take_rest c.args.piece.now c.args.at) at c.in-Some.ensures in
    whole-feed c.args.piece.now c.args.is_last c.args.at c.in-Some.k c.requires found.0 found.1

pub returns-in-None : goal.returns-in-None
returns-in-None c =
    let nowhere = rw (take_rest c.args.piece.now c.args.at) at c.in-None.ensures in
    elim c.open_line.result as (λ r. IsOpenEnd (length c.args.piece.now) c.args.is_last c.args.at r → FindsWhole c.args.piece.now c.args.is_last c.args.at r) [
      | None ↦ λ e. none-whole c.args.piece.now c.args.is_last c.args.at c.requires e nowhere
      | Some end ↦ λ e. subst (λ n. IsWhole c.args.piece.now c.args.is_last c.args.at n) (sym e.1.1) (whole-open c.args.piece.now c.args.is_last c.args.at e.0 e.1.0 nowhere)
    ] c.open_line.ensures
