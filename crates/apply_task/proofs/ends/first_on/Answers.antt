use Rattle.std.proofs.Common.{◌≡◌, ◌<◌, ℕ, List, [], length, sym, ap, arith}
use Rattle.std.specs.Prelude.{slice_index_or}
use Rattle.hunk_core.specs.PlainHunk.{hunk_of, old_lines}
use Rattle.hunk_core.specs.Turned.{turned}
use Rattle.hunk_core.proofs.TurnedLemmas.{turned-count}
use Rattle.apply_task.proofs.LineEnds.{no-lines}
use Rattle.apply_task.proofs.ends.first_on.Goals as goal

pub returns-then-count-eq0 : goal.returns-then-count-eq0
returns-then-count-eq0 c =
    let old = old_lines (turned c.args.side (hunk_of c.args.text.now c.args.hunk.now)).body in
    let none : length old ≡ 0 = omega (arith, turned-count c.args.text.now c.args.side c.args.hunk.now, c.count.ensures, c.if-count-eq0.true) in
    sym (ap (λ (ls : List (List ℕ)). slice_index_or ls 0 []) (no-lines old none))

pub pattern-requires-clause-within : goal.pattern-requires-clause-within
pattern-requires-clause-within c = omega (arith, c.count.ensures, c.if-count-eq0.false)

pub pattern-requires-clause-lawful : goal.pattern-requires-clause-lawful
pattern-requires-clause-lawful c = c.requires.lawful

pub count-requires : goal.count-requires
count-requires c = omega (arith, c.args.hunk.now.body.ok.0, c.requires.lawful.few)
