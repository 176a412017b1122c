use Rattle.std.proofs.Common.{◌≡◌, ◌+◌, ◌-◌, ◌<◌, ◌≤◌, eqb, length, drop, take, min, Some, sym, ap, subst, ◌∙◌, arith, ℕ}
use Rattle.std.proofs.lemmas.Bool.{eqb-true}
use Rattle.line_list.specs.Lines.{lines}
use Rattle.line_store.specs.declared.fault.OpenFault.TheVariants.{LongLine}
use Rattle.line_store.specs.Taking.{long_line}
use Rattle.outside.proofs.Views.{untouched_both}
use Rattle.page_pair.specs.Reading.{HasNoFeed, IsMeasureFault}
use Rattle.page_pair.specs.Room.{HasRoom}
use Rattle.page_pair.proofs.Readings.{refusal-long, part-made, open-made, told-sooner, measure-later, measure-read}
use Rattle.std.proofs.lemmas.Result.{IfErr-weaker}
use Rattle.outside.proofs.Exits.{if_ok_none}
use Rattle.page_pair.specs.Measuring.{IsSound}
use Rattle.page_pair.proofs.Pieces.{ahead, below, end-fits, ends-within, err-as, low-size, now-within, piece-few, piece-full, piece-whole, refused-none}
use Rattle.page_pair.proofs.measuring.measure_piece.Goals as goal

pub returns-then-now-start : goal.returns-then-now-start
returns-then-now-start g c = record {
  untouched = untouched_both c.in_ok-got.ensures.untouched c.refuse_long.ensures.untouched;
  size = c.refuse_long.ensures.size ∙ c.read_piece.ensures.size;
  sound = refused-none _ c.refuse_long.result c.refuse_long.ensures.refused;
  on = refused-none _ c.refuse_long.result c.refuse_long.ensures.refused;
  within = refused-none _ c.refuse_long.result c.refuse_long.ensures.refused;
  measured = refused-none _ c.refuse_long.result c.refuse_long.ensures.refused;
  room = refused-none _ c.refuse_long.result c.refuse_long.ensures.refused;
  cause = IfErr-weaker c.refuse_long.result (λ e. IsMeasureFault e c.read_piece.new.pair.size (g.T.Tree.view c.read_piece.new.tree) (g.T.Tree.view c.refuse_long.new.tree) c.args.name.now) (λ e. IsMeasureFault e c.args.pair.now.size (g.T.Tree.view c.args.tree.now) (g.T.Tree.view c.refuse_long.new.tree) c.args.name.now) (λ e held. measure-later e c.args.pair.now.size (g.T.Tree.view c.args.tree.now) (g.T.Tree.view c.read_piece.new.tree) (g.T.Tree.view c.refuse_long.new.tree) c.args.name.now c.in_ok-got.ensures.untouched (subst (λ (n : ℕ). IsMeasureFault e n (g.T.Tree.view c.read_piece.new.tree) (g.T.Tree.view c.refuse_long.new.tree) c.args.name.now) c.read_piece.ensures.size held)) c.refuse_long.ensures.cause;
}

pub refuse_long-requires-clause-is_open : goal.refuse_long-requires-clause-is_open
refuse_long-requires-clause-is_open g c text later =
    let told = told-sooner c.args.name.now text c.in_ok-got.ensures.untouched later in
    let len : length text ≡ c.args.length = c.requires.stated text told in
    let n : c.in_ok-got.got ≡ min c.args.pair.now.size (c.args.length - c.args.start.at) = c.in_ok-got.ensures.count in
    let none : c.in-Ok.now.at - c.args.start.at ≡ 0 = (let e : c.in-Ok.now.at ≡ c.args.start.at = c.if-now-start.true in omega arith) in
    open-made text c.page-piece.result.now c.args.start.at c.in_ok-got.got
    (ap (take c.in_ok-got.got) c.page-piece.ensures.is ∙ c.in_ok-got.ensures.bytes text told) (omega arith)
    (subst (λ k. HasNoFeed (drop k (take c.in_ok-got.got c.page-piece.result.now))) none c.in-Ok.ensures.left.open_)

pub returns : goal.returns
returns g c = record {
  measured = λ text told. let len : length text ≡ c.args.length = c.requires.stated text told in
      let n : c.in_ok-got.got ≡ min c.args.pair.now.size (c.args.length - c.args.start.at) = c.in_ok-got.ensures.count in
      let end : c.args.start.at + c.in_ok-got.got ≤ length text = omega arith in
      c.in-Ok.ensures.measured text
      (part-made text c.page-piece.result.now c.args.start.at c.in_ok-got.got (eqb (c.args.start.at + c.in_ok-got.got) c.args.length)
      (ap (take c.in_ok-got.got) c.page-piece.ensures.is ∙ c.in_ok-got.ensures.bytes text told) end (λ is. eqb-true _ _ is ∙ sym len))
      (c.requires.measured text told);
  room = λ text told. let len : length text ≡ c.args.length = c.requires.stated text told in
      let n : c.in_ok-got.got ≡ min c.args.pair.now.size (c.args.length - c.args.start.at) = c.in_ok-got.ensures.count in
      let end : c.args.start.at + c.in_ok-got.got ≤ length text = omega arith in
      let size : c.size.result ≡ c.args.pair.now.size = c.size.ensures.size in
      let sized : 512 ≤ c.args.pair.now.size = c.size.ensures.pair.sized.0 in
      let four : c.size.result - 4 + 4 ≡ c.args.pair.now.size = omega arith in
      subst (λ k. HasRoom k text c.in-Ok.now.at c.in-Ok.now.room) four
      (c.in-Ok.ensures.room text
      (part-made text c.page-piece.result.now c.args.start.at c.in_ok-got.got (eqb (c.args.start.at + c.in_ok-got.got) c.args.length)
      (ap (take c.in_ok-got.got) c.page-piece.ensures.is ∙ c.in_ok-got.ensures.bytes text told) end (λ is. eqb-true _ _ is ∙ sym len))
      (subst (λ k. HasRoom k text c.args.start.at c.args.start.room) (sym four) (c.requires.room text told)));
  untouched = c.in_ok-got.ensures.untouched;
  size = c.read_piece.ensures.size;
  sound = subst (λ (n : ℕ). IsSound c.in-Ok.now (n - 4)) c.size.ensures.size c.in-Ok.ensures.sound;
  on = ahead c.args.start.at c.in-Ok.now.at c.in-Ok.ensures.on c.if-now-start.false;
  within = now-within c.in_ok-got.got c.args.pair.now.size c.args.length c.args.start.at c.in_ok-got.ensures.count c.requires.within c.page-piece.result.now c.in-Ok.now.at c.in-Ok.ensures.within;
  cause = tt;
}

pub returns-in-Err : goal.returns-in-Err
returns-in-Err g c = record {
  cause = let size : c.size.result ≡ c.args.pair.now.size = c.size.ensures.size in
      let sized : 512 ≤ c.args.pair.now.size = c.size.ensures.pair.sized.0 in
      let over : c.size.result - 4 < c.in-Err.field-0.length = c.in-Err.ensures.long in (
        omega arith,
        λ text told.
            let len : length text ≡ c.args.length = c.requires.stated text told in
            let n : c.in_ok-got.got ≡ min c.args.pair.now.size (c.args.length - c.args.start.at) = c.in_ok-got.ensures.count in
            let end : c.args.start.at + c.in_ok-got.got ≤ length text = omega arith in
            let four : c.size.result - 4 + 4 ≡ c.args.pair.now.size = omega arith in
            refusal-long c.args.pair.now.size text _ (omega arith)
            (subst (λ k. long_line k (lines text) ≡ Some (LongLine c.in-Err.field-0.line c.in-Err.field-0.length)) four
            (c.in-Err.ensures.first text
            (part-made text c.page-piece.result.now c.args.start.at c.in_ok-got.got (eqb (c.args.start.at + c.in_ok-got.got) c.args.length)
            (ap (take c.in_ok-got.got) c.page-piece.ensures.is ∙ c.in_ok-got.ensures.bytes text told) end (λ is. eqb-true _ _ is ∙ sym len))
            (c.requires.measured text told))),
      );
  untouched = c.in_ok-got.ensures.untouched;
  size = c.read_piece.ensures.size;
  sound = tt;
  on = tt;
  within = tt;
  measured = tt;
  room = tt;
}

pub read_piece-requires-clause-there : goal.read_piece-requires-clause-there
read_piece-requires-clause-there g c = c.requires.there

pub read_piece-requires-clause-stated : goal.read_piece-requires-clause-stated
read_piece-requires-clause-stated g c = c.requires.stated

pub read_piece-requires-clause-within : goal.read_piece-requires-clause-within
read_piece-requires-clause-within g c = below _ _ c.requires.within

pub overflow_add-end : goal.overflow_add-end
overflow_add-end g c = record { fits = end-fits c.in_ok-got.got c.args.pair.now.size c.args.length c.args.start.at c.in_ok-got.ensures.count c.requires.within c.requires.few }

pub slice_bounds-measure_lines-end : goal.slice_bounds-measure_lines-end
slice_bounds-measure_lines-end g c = piece-whole c.in_ok-got.got c.args.pair.now.size c.args.length c.args.start.at c.in_ok-got.ensures.count c.requires.within c.page-piece.result.now c.read_piece.new.pair.size (ap length c.page-piece.ensures.is ∙ c.page-piece.ensures.pair.first) c.read_piece.ensures.size

pub measure_lines-requires-clause-sound : goal.measure_lines-requires-clause-sound
measure_lines-requires-clause-sound g c = subst (λ (n : ℕ). IsSound c.args.start (n - 4)) (sym c.size.ensures.size) c.requires.sound

pub measure_lines-requires-clause-few : goal.measure_lines-requires-clause-few
measure_lines-requires-clause-few g c = piece-few c.in_ok-got.got c.args.pair.now.size c.args.length c.args.start.at c.in_ok-got.ensures.count c.requires.within c.page-piece.result.now c.requires.few

pub measure_lines-requires-clause-small : goal.measure_lines-requires-clause-small
measure_lines-requires-clause-small g c = rw c.size.ensures.size (low-size c.args.pair.now.size c.size.ensures.pair.sized.1)

pub refuse_long-requires-clause-there : goal.refuse_long-requires-clause-there
refuse_long-requires-clause-there g c f told = c.requires.there f (sym c.in_ok-got.ensures.untouched.told ∙ told)

pub refuse_long-requires-clause-stated : goal.refuse_long-requires-clause-stated
refuse_long-requires-clause-stated g c text later = c.requires.stated text (told-sooner c.args.name.now text c.in_ok-got.ensures.untouched later)

pub refuse_long-requires-clause-sound : goal.refuse_long-requires-clause-sound
refuse_long-requires-clause-sound g c = subst (λ (n : ℕ). IsSound c.args.start (n - 4)) (sym c.read_piece.ensures.size) c.requires.sound

pub refuse_long-requires-clause-low : goal.refuse_long-requires-clause-low
refuse_long-requires-clause-low g c = piece-full c.in_ok-got.got c.args.pair.now.size c.args.length c.args.start.at c.in_ok-got.ensures.count c.requires.within c.page-piece.result.now c.in-Ok.now.at c.read_piece.new.pair.size c.size.ensures.pair.sized.0 c.read_piece.ensures.size (piece-whole c.in_ok-got.got c.args.pair.now.size c.args.length c.args.start.at c.in_ok-got.ensures.count c.requires.within c.page-piece.result.now c.read_piece.new.pair.size (ap length c.page-piece.ensures.is ∙ c.page-piece.ensures.pair.first) c.read_piece.ensures.size) c.if-now-start.true c.in-Ok.ensures.left.last

pub refuse_long-requires-clause-size : goal.refuse_long-requires-clause-size
refuse_long-requires-clause-size g c = c.page-piece.ensures.pair.sized.0

pub refuse_long-requires-clause-high : goal.refuse_long-requires-clause-high
refuse_long-requires-clause-high g c = ends-within c.in_ok-got.got c.args.pair.now.size c.args.length c.args.start.at c.in_ok-got.ensures.count c.requires.within

pub refuse_long-requires-clause-few : goal.refuse_long-requires-clause-few
refuse_long-requires-clause-few g c = c.requires.few

pub refuse_long-requires-clause-measured : goal.refuse_long-requires-clause-measured
refuse_long-requires-clause-measured g c text later = c.requires.measured text (told-sooner c.args.name.now text c.in_ok-got.ensures.untouched later)

pub returns-in_err-got : goal.returns-in_err-got
returns-in_err-got g c = record {
  untouched = c.in_err-got.ensures.untouched;
  size = c.read_piece.ensures.size;
  sound = if_ok_none _ _ c.from_residual.result c.from_residual.ensures.1;
  on = if_ok_none _ _ c.from_residual.result c.from_residual.ensures.1;
  within = if_ok_none _ _ c.from_residual.result c.from_residual.ensures.1;
  measured = if_ok_none _ _ c.from_residual.result c.from_residual.ensures.1;
  room = if_ok_none _ _ c.from_residual.result c.from_residual.ensures.1;
  cause = err-as (λ e. IsMeasureFault e c.args.pair.now.size (g.T.Tree.view c.args.tree.now) (g.T.Tree.view c.read_piece.new.tree) c.args.name.now) c.in_err-got.field-0.0 c.from_residual.result c.from_residual.ensures.1 (measure-read c.in_err-got.field-0.0 c.args.pair.now.size _ _ c.args.name.now c.in_err-got.ensures.cause);
}
