use Rattle.std.proofs.Common.{◌≡◌, ◌+◌, ◌≤◌, length, drop}
use Rattle.std.specs.Prelude.{All}
use Rattle.hunk_core.specs.PlainHunk.{body_of}
use Rattle.hunk_core.specs.Turned.{LiesIn}
use Rattle.context_form.specs.Merging.{merge, with_front}
use Rattle.context_form.proofs.merging.merge_parts.Given as goal

abbrev pub invariant-loop-old : goal.invariant-loop-old
invariant-loop-old l = record {
  within : l.place ≤ length l.news;
  few : length l.body.items ≤ l.old-index + l.place;
  lies : All (λ x. LiesIn l.text x.span) l.body.items;
  so_far : with_front (body_of l.text l.body.items) (merge (body_of l.text (drop l.old-index l.olds)) (body_of l.text (drop l.place l.news))) ≡ merge (body_of l.text l.olds) (body_of l.text l.news);
}
