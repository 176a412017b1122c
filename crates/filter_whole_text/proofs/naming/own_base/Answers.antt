use Rattle.std.proofs.Common.{◌≡◌, true, sym, ◌∙◌}
use Rattle.std.proofs.lemmas.Result.{IfOk-weaker}
use Rattle.filter_whole_text.specs.PartNames.{base, own_base}
use Rattle.filter_whole_text.proofs.NameLoops.{own-apart, own-longer}
use Rattle.filter_whole_text.proofs.naming.own_base.Goals as goal

pub returns-then-not-is_last : goal.returns-then-not-is_last
returns-then-not-is_last c =
    own-apart c.args.file.now c.args.bare c.args.marked c.args.number c.args.stem.now c.in_ok-first.first c.in_ok-first.ensures (sym c.is_last.ensures ∙ c.if-not-is_last.true)

pub returns : goal.returns
returns c =
    IfOk-weaker c.base-second.result (λ name. name ≡ base c.args.bare true c.args.number c.in_ok-longer.longer) (λ name. name ≡ own_base c.args.file.now c.args.bare c.args.marked c.args.number c.args.stem.now)
    (λ name is. own-longer c.args.file.now c.args.bare c.args.marked c.args.number c.args.stem.now c.in_ok-first.first c.in_ok-longer.longer name c.in_ok-first.ensures (sym c.is_last.ensures ∙ c.if-not-is_last.false) c.in_ok-longer.ensures is)
    c.base-second.ensures
