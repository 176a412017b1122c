use Rattle.std.proofs.Common.{inl, [], ◌∙◌, refl, sym, subst, ℕ, List, length, take}
use Rattle.std.proofs.lemmas.Bool.{false≢true}
use Rattle.std.proofs.lemmas.Result.{IfOk-from_err}
use Rattle.outside.specs.SinkView.{Receives}
use Rattle.outside.proofs.Quiet.{works_both}
use Rattle.replace_file.specs.TempSink.{sink_view}
use Rattle.replace_file.proofs.Sinking.{received, works_around, holds_more}
use Rattle.replace_file.proofs.Work.{stays_both}
use Rattle.outside.specs.Calls.{IsThere}
use Rattle.replace_file.proofs.sink.TempSinkSink.write.Goals as goal

pub returns-in_err-mend-clause-rest : goal.returns-in_err-mend-clause-rest
returns-in_err-mend-clause-rest g c =
    let self = c.args.self.now in
    let stands = g.met.T.Tree.told_may_stay in (
      refl,
      refl,
      works_around (g.T.Tree.view self.tree.now) (g.T.Tree.view c.mend.new.tree) self.temp.name.now self.temp.temporary self.quiet (stands self.tree.now) (stands c.mend.new.tree) c.mend.ensures.works c.mend.ensures.seals,
    )

pub returns-in-Ok-clause-rest : goal.returns-in-Ok-clause-rest
returns-in-Ok-clause-rest g c =
    let self = c.args.self.now in
    let u = g.T.Tree.view self.tree.now in
    let v = g.T.Tree.view c.mend.new.tree in
    let w = g.T.Tree.view c.put.new.tree in
    let n = self.temp.name.now in
    let stands = g.met.T.Tree.told_may_stay in (
      refl,
      c.put.ensures.name,
      works_around u w n self.temp.temporary self.quiet (stands self.tree.now) (stands c.put.new.tree) (works_both u v w n self.temp.temporary c.mend.ensures.works (c.put.ensures.works c.mend.ensures.works.quiet)) (stays_both u v w n c.mend.ensures.seals c.put.ensures.seals),
    )

pub returns-in-Err-clause-rest : goal.returns-in-Err-clause-rest
returns-in-Err-clause-rest g c =
    let self = c.args.self.now in
    let u = g.T.Tree.view self.tree.now in
    let v = g.T.Tree.view c.mend.new.tree in
    let w = g.T.Tree.view c.put.new.tree in
    let n = self.temp.name.now in
    let stands = g.met.T.Tree.told_may_stay in (
      refl,
      c.put.ensures.name,
      works_around u w n self.temp.temporary self.quiet (stands self.tree.now) (stands c.put.new.tree) (works_both u v w n self.temp.temporary c.mend.ensures.works (c.put.ensures.works c.mend.ensures.works.quiet)) (stays_both u v w n c.mend.ensures.seals c.put.ensures.seals),
    )

pub returns-in-Ok-clause-received : goal.returns-in-Ok-clause-received
returns-in-Ok-clause-received g c =
    let self = c.args.self.now in
    let u = g.T.Tree.view self.tree.now in
    let v = g.T.Tree.view c.mend.new.tree in
    let w = g.T.Tree.view c.put.new.tree in
    let n = self.temp.name.now in
    let piece = c.args.piece.now in
    subst (λ (m : List ℕ). Receives (sink_view u n self.silent) (sink_view w m self.silent) (take (length piece) piece)) (sym c.put.ensures.name) (received u v w n piece (length piece) self.broken self.silent refl self.breaks c.mend.ensures.same c.in-Ok.ensures.ok)

pub returns-in_err-mend-clause-breaks : goal.returns-in_err-mend-clause-breaks
returns-in_err-mend-clause-breaks g c = (λ err. c.in_err-mend.ensures.cause refl, λ broken. c.from_residual.ensures.0)

pub returns-in-Ok-clause-anew : goal.returns-in-Ok-clause-anew
returns-in-Ok-clause-anew g c broken =
    let self = c.args.self.now in
    holds_more (g.T.Tree.view c.mend.new.tree) (g.T.Tree.view c.put.new.tree) self.temp.name.now [] c.args.piece.now c.put.ensures.run.passes (c.in_ok-mend.ensures.anew broken) c.in-Ok.ensures.ok

pub returns-in-Ok-clause-adds : goal.returns-in-Ok-clause-adds
returns-in-Ok-clause-adds g c whole b held =
    let self = c.args.self.now in
    holds_more (g.T.Tree.view c.mend.new.tree) (g.T.Tree.view c.put.new.tree) self.temp.name.now b c.args.piece.now c.put.ensures.run.passes (λ f told. held f (sym (c.mend.ensures.same whole) ∙ told)) c.in-Ok.ensures.ok

pub mend-requires-clause-quiet : goal.mend-requires-clause-quiet
mend-requires-clause-quiet g c = c.args.self.now.quiet

pub mend-requires-clause-there : goal.mend-requires-clause-there
mend-requires-clause-there g c = c.args.self.now.there

pub put-requires : goal.put-requires
put-requires g c = c.in_ok-mend.ensures.there

pub returns-in_err-mend-clause-fits : goal.returns-in_err-mend-clause-fits
returns-in_err-mend-clause-fits g c = IfOk-from_err c.from_residual.result _ c.from_residual.ensures.0

pub returns-in_err-mend-clause-some : goal.returns-in_err-mend-clause-some
returns-in_err-mend-clause-some g c = IfOk-from_err c.from_residual.result _ c.from_residual.ensures.0

pub returns-in_err-mend-clause-received : goal.returns-in_err-mend-clause-received
returns-in_err-mend-clause-received g c = IfOk-from_err c.from_residual.result _ c.from_residual.ensures.0

pub returns-in_err-mend-clause-whole : goal.returns-in_err-mend-clause-whole
returns-in_err-mend-clause-whole g c = IfOk-from_err c.from_residual.result _ c.from_residual.ensures.0

pub returns-in_err-mend-clause-anew : goal.returns-in_err-mend-clause-anew
returns-in_err-mend-clause-anew g c = IfOk-from_err c.from_residual.result _ c.from_residual.ensures.0

pub returns-in_err-mend-clause-adds : goal.returns-in_err-mend-clause-adds
returns-in_err-mend-clause-adds g c = IfOk-from_err c.from_residual.result _ c.from_residual.ensures.0

pub returns-in-Ok-clause-some : goal.returns-in-Ok-clause-some
returns-in-Ok-clause-some g c = λ lt. lt

pub returns-in-Ok-clause-whole : goal.returns-in-Ok-clause-whole
returns-in-Ok-clause-whole g c = refl

pub returns-in-Ok-clause-failed : goal.returns-in-Ok-clause-failed
returns-in-Ok-clause-failed g c = tt

pub returns-in-Ok-clause-breaks : goal.returns-in-Ok-clause-breaks
returns-in-Ok-clause-breaks g c = (λ err. err, λ broken. broken)

pub returns-in-Err-clause-fits : goal.returns-in-Err-clause-fits
returns-in-Err-clause-fits g c = tt

pub returns-in-Err-clause-some : goal.returns-in-Err-clause-some
returns-in-Err-clause-some g c = tt

pub returns-in-Err-clause-received : goal.returns-in-Err-clause-received
returns-in-Err-clause-received g c = tt

pub returns-in-Err-clause-whole : goal.returns-in-Err-clause-whole
returns-in-Err-clause-whole g c = tt

pub returns-in-Err-clause-breaks : goal.returns-in-Err-clause-breaks
returns-in-Err-clause-breaks g c = (λ err. refl, λ broken. refl)

pub returns-in-Err-clause-anew : goal.returns-in-Err-clause-anew
returns-in-Err-clause-anew g c = tt

pub returns-in-Err-clause-adds : goal.returns-in-Err-clause-adds
returns-in-Err-clause-adds g c = tt

pub invariant_of-self-in-Ok : goal.invariant_of-self-in-Ok
invariant_of-self-in-Ok g c = record {
  quiet = (c.put.ensures.works c.mend.ensures.works.quiet).quiet;
  there = λ whole. subst (λ m. IsThere (g.T.Tree.view c.put.new.tree) m) (sym c.put.ensures.name) c.in-Ok.ensures.there;
  breaks = λ broken. absurd (false≢true broken);
}

pub invariant_of-self-in-Err : goal.invariant_of-self-in-Err
invariant_of-self-in-Err g c = record {
  quiet = (c.put.ensures.works c.mend.ensures.works.quiet).quiet;
  there = λ whole. absurd (false≢true (sym whole));
  breaks = λ broken. refl;
}

pub returns-in-Err-clause-failed : goal.returns-in-Err-clause-failed
returns-in-Err-clause-failed g c = λ b held. inl refl
