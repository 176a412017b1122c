use Rattle.std.proofs.Common.{◌≡◌, ◌≤◌, ◌+◌, ◌++◌, ◌^◌, drop, take, length}
use Rattle.hunk_core.specs.declared.Side.TheVariants.{Forward}
use Rattle.hunk_core.specs.PlainHunk.{body_of, hunk_of}
use Rattle.hunk_core.specs.Sides.{taken_count}
use Rattle.hunk_core.specs.Turned.{base}
use Rattle.outside.proofs.SinkSteps.{HasPut}
use Rattle.format_convert.specs.Backward.{grown}
use Rattle.format_convert.specs.Blocks.{body_edits}
use Rattle.format_convert.specs.Walk.{edits_left, edits_of, pairs}
use Rattle.format_convert.proofs.ed.put_body.Given as goal

abbrev pub invariant-loop-line : goal.invariant-loop-line
invariant-loop-line g l = record {
  next : l.next ≡ base (hunk_of l.kept.set.now.text l.own) + taken_count Forward (take l.line l.own.body.items);
  front : edits_left l.kept l.front ≡ body_edits l.next (body_of l.kept.set.now.text (drop l.line l.own.body.items)) ++ edits_of l.kept.set.now.text (drop (l.hunk + 1) (pairs l.kept));
  put : HasPut g.O.Sink.view g.O.Sink.same_rest l.fn.out l.out (grown (body_edits l.next (body_of l.kept.set.now.text (drop l.line l.own.body.items))) (edits_of l.kept.set.now.text (drop (l.hunk + 1) (pairs l.kept))));
  within : l.line ≤ length l.own.body.items;
}
