use Rattle.std.proofs.Common.{◌≡◌, length, drop, sym, ap, ◌∙◌, arith, length-drop}
use Rattle.glob_match.specs.declared.Piece.TheVariants.{Run as RunPiece}
use Rattle.std.proofs.lemmas.Bool.{false≢true}
use Rattle.std.proofs.lemmas.List.{drop_all}
use Rattle.glob_match.specs.Pattern.{elements}
use Rattle.glob_match.proofs.MatchLemmas.{stop-fails, done-match}
use Rattle.glob_match.proofs.WalkLemmas.{walk-run, walk-end, walk-other, walk-takes, walk-none}
use Rattle.glob_match.proofs.walk.Goals as goal

pub returns-then-is_run : goal.returns-then-is_run
returns-then-is_run c =
    let i = c.loop-at.invariant in
    let r = c.read_at-read.ensures in
    let is = c.is_run.ensures.0 c.if-is_run.true in
    (omega (arith, r.low), r.high, i.begun, i.within, sym i.same ∙ walk-run c.args.pattern.now c.loop-at.at c.read_at-read.result c.loop-at-test.true r (drop c.loop-at.place c.args.name.now) is)

pub returns-then-place-name : goal.returns-then-place-name
returns-then-place-name c =
    let ne : c.read_at-read.result.piece ≡ RunPiece → ⊥ = λ e. false≢true (sym c.if-is_run.false ∙ c.is_run.ensures.1 e) in
    stop-fails (elements (drop c.args.start c.args.pattern.now)) (drop c.args.from c.args.name.now) (sym c.loop-at.invariant.same ∙ walk-end c.args.pattern.now c.loop-at.at c.read_at-read.result c.loop-at-test.true c.read_at-read.ensures c.args.name.now c.loop-at.place ne (omega arith))

pub returns-then-not-takes : goal.returns-then-not-takes
returns-then-not-takes c =
    let ne : c.read_at-read.result.piece ≡ RunPiece → ⊥ = λ e. false≢true (sym c.if-is_run.false ∙ c.is_run.ensures.1 e) in
    stop-fails (elements (drop c.args.start c.args.pattern.now)) (drop c.args.from c.args.name.now) (sym c.loop-at.invariant.same ∙ walk-other c.args.pattern.now c.loop-at.at c.read_at-read.result c.loop-at-test.true c.read_at-read.ensures c.args.name.now c.loop-at.place ne (omega arith) (sym c.takes.ensures ∙ c.if-not-takes.true))

pub loop-at-preserved : goal.loop-at-preserved
loop-at-preserved c =
    let ne : c.read_at-read.result.piece ≡ RunPiece → ⊥ = λ e. false≢true (sym c.if-is_run.false ∙ c.is_run.ensures.1 e) in
    let i = c.loop-at.invariant in
    let r = c.read_at-read.ensures in record {
      low = omega (arith, r.low);
      high = r.high;
      begun = omega arith;
      within = omega arith;
      same = sym (walk-takes c.args.pattern.now c.loop-at.at c.read_at-read.result c.loop-at-test.true r c.args.name.now c.loop-at.place ne (omega arith) (sym c.takes.ensures ∙ c.if-not-takes.false)) ∙ i.same;
    }

pub returns-then-place-name-2 : goal.returns-then-place-name-2
returns-then-place-name-2 c =
    let whole = sym c.loop-at.invariant.same ∙ walk-none c.args.pattern.now c.loop-at.at (drop c.loop-at.place c.args.name.now) c.loop-at-test.false in
    (done-match (elements (drop c.args.start c.args.pattern.now)) (drop c.args.from c.args.name.now) (drop c.loop-at.place c.args.name.now) whole).1 (drop_all c.loop-at.place c.args.name.now (omega arith))

pub returns-else-place-name-2 : goal.returns-else-place-name-2
returns-else-place-name-2 c = λ m.
    let whole = sym c.loop-at.invariant.same ∙ walk-none c.args.pattern.now c.loop-at.at (drop c.loop-at.place c.args.name.now) c.loop-at-test.false in
    let none = (done-match (elements (drop c.args.start c.args.pattern.now)) (drop c.args.from c.args.name.now) (drop c.loop-at.place c.args.name.now) whole).0 m in
    omega (arith, ap length none, length-drop c.loop-at.place c.args.name.now)

pub loop-at-smaller : goal.loop-at-smaller
loop-at-smaller c = omega (arith, c.read_at-read.ensures.low, c.read_at-read.ensures.high)

pub takes-requires : goal.takes-requires
takes-requires c = c.read_at-read.ensures.lies

pub bounds-name-place : goal.bounds-name-place
bounds-name-place c = let within = c.loop-at.invariant.within in omega arith
