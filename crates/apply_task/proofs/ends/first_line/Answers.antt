use Rattle.std.proofs.Common.{◌≡◌, ◌<◌, ℕ, List, [], ◌++◌, length, sym, ap, ◌∙◌, arith}
use Rattle.std.specs.Prelude.{slice_index_or}
use Rattle.hunk_core.specs.declared.Side.{Side}
use Rattle.hunk_core.specs.PlainHunk.{hunk_of, old_lines, new_lines}
use Rattle.hunk_core.specs.Turned.{turned, other_side}
use Rattle.hunk_core.proofs.SideLemmas.{turned-lines, turned-others}
use Rattle.hunk_core.proofs.TurnedLemmas.{turned-count}
use Rattle.apply_task.proofs.LineEnds.{first-front, no-lines}
use Rattle.apply_task.proofs.ends.first_line.Goals as goal

pub returns-then-count-eq0 : goal.returns-then-count-eq0
returns-then-count-eq0 c =
    let text = c.args.text.now in
    let side = c.args.side in
    let h = c.args.hunk.now in
    let old = old_lines (turned side (hunk_of text h)).body in
    let new = new_lines (turned side (hunk_of text h)).body in
    let none : length old ≡ 0 = omega (arith, turned-count text side h, c.count.ensures, c.if-count-eq0.true) in
    c.first_on.ensures
    ∙ ap (λ (s : Side). slice_index_or (old_lines (turned s (hunk_of text h)).body) 0 []) c.other.ensures
    ∙ ap (λ (ls : List (List ℕ)). slice_index_or ls 0 []) (turned-lines text (other_side side) h ∙ sym (turned-others text side h))
    ∙ sym (ap (λ (ls : List (List ℕ)). slice_index_or (ls ++ new) 0 []) (no-lines old none))

pub returns : goal.returns
returns c =
    let text = c.args.text.now in
    let side = c.args.side in
    let h = c.args.hunk.now in
    let old = old_lines (turned side (hunk_of text h)).body in
    let new = new_lines (turned side (hunk_of text h)).body in
    let some : 0 < length old = omega (arith, turned-count text side h, c.count.ensures, c.if-count-eq0.false) in
    c.pattern.ensures ∙ sym (first-front old new some)

pub pattern-requires-clause-within : goal.pattern-requires-clause-within
pattern-requires-clause-within c = omega (arith, c.count.ensures, c.if-count-eq0.false)

pub pattern-requires-clause-lawful : goal.pattern-requires-clause-lawful
pattern-requires-clause-lawful c = c.requires.lawful

pub first_on-requires : goal.first_on-requires
first_on-requires c = record { lawful = c.requires.lawful }

pub count-requires : goal.count-requires
count-requires c = omega (arith, c.args.hunk.now.body.ok.0, c.requires.lawful.few)
