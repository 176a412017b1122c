use Rattle.std.proofs.Common.{◌+◌, ◌-◌, ◌*◌, ap, ◌≡◌, ℕ, ◌++◌, ◌∙◌, arith}
use Rattle.patch_gen.specs.Texts.{line_in}
use Rattle.patch_gen.specs.Patches.{hunk_text, hunk_from}
use Rattle.patch_gen.proofs.RunLemmas.{run-more}
use Rattle.std.specs.List.{flat_map, range_with_len}
use Rattle.patch_gen.proofs.diff.add_hunks.Goals as goal

pub loop-done-preserved : goal.loop-done-preserved
loop-done-preserved c =
    let line = line_in c.args.lines.now in
    let start = 20 * (c.loop-done.done + 1) - 13 in
    run-more (hunk_text line) _ _ _ _ c.loop-done.done c.loop-done.invariant c.in_ok-add_hunk.ensures (ap (hunk_from line start) c.new_bytes-new.ensures)

pub returns : goal.returns
returns c = let all : c.loop-done.done ≡ c.args.count = omega (arith, c.loop-done-test.false, c.loop-done.auto.done-end) in c.loop-done.invariant ∙ ap (λ (n : ℕ). c.args.patch.now.items ++ flat_map (hunk_text (line_in c.args.lines.now)) (range_with_len 1 n)) all
