use Rattle.std.proofs.Common.{◌≡◌, true, false, refl, sym, drop, arith}
use Rattle.std.proofs.lemmas.Result.{err_from_is_err_and}
use Rattle.line_list.specs.Lines.{lines}
use Rattle.hunk_core.proofs.Following.{taken_begin, taken_go_on, taken_fail, taken_done}
use Rattle.hunk_core.proofs.walking.walk.Goals as goal

pub hunks-init : goal.hunks-init
hunks-init g c = record {
  ready = c.requires.ready;
  place = record { short = c.requires.short; within = c.requires.within; small = omega (arith, c.requires.small) };
  so_far = taken_begin g.W.HunkWalk.begins g.W.HunkWalk.hunk_at g.W.HunkWalk.Has c.args.text.now c.args.at c.args.kept.now c.args.line;
}

pub returns-in_err-start-clause-fails : goal.returns-in_err-start-clause-fails
returns-in_err-start-clause-fails g c =
    let p = err_from_is_err_and c.from_residual.result c.from_residual.ensures.1 in
    let opens : g.W.HunkWalk.begins (lines (drop c.hunks.place.at c.args.text.now)) ≡ true = sym c.hunks-test.ensures.opens in
    rw (p.1, p.2) (taken_fail g.W.HunkWalk.begins g.W.HunkWalk.hunk_at g.W.HunkWalk.Has c.args.text.now c.args.at c.args.kept.now c.in_err-start.field-0.0 c.hunks.kept c.hunks.least c.hunks.place _ opens (c.hunks-test.ensures.some refl) c.in_err-start.ensures.fails c.hunks.invariant.so_far)

pub hunks-preserved : goal.hunks-preserved
hunks-preserved g c =
    let opens : g.W.HunkWalk.begins (lines (drop c.hunks.place.at c.args.text.now)) ≡ true = sym c.hunks-test.ensures.opens in
    record {
      ready = c.take.ensures.ready;
      place = c.in_ok-start.ensures.place.0;
      so_far = rw c.from-least.ensures (taken_go_on g.W.HunkWalk.begins g.W.HunkWalk.hunk_at g.W.HunkWalk.Has c.args.text.now c.args.at c.args.kept.now c.hunks.kept c.opens.new.self c.take.new.self c.hunks.least c.in_ok-start.start c.hunks.place c.in_ok-start.next _ opens (λ hs. c.hunks-test.ensures.has c.args.at hs c.hunks.place.at c.hunks.least) c.in_ok-start.ensures.taken c.hunks.invariant.so_far);
    }

pub returns-clause-taken : goal.returns-clause-taken
returns-clause-taken g c =
    let none : g.W.HunkWalk.begins (lines (drop c.hunks.place.at c.args.text.now)) ≡ false = sym c.hunks-test.ensures.opens in
    taken_done g.W.HunkWalk.begins g.W.HunkWalk.hunk_at g.W.HunkWalk.Has c.args.text.now c.args.at c.args.kept.now c.args.line c.hunks.kept c.opens.new.self c.hunks.least c.hunks.place none (λ hs. c.hunks-test.ensures.has c.args.at hs c.hunks.place.at c.hunks.least) c.hunks.invariant.so_far
