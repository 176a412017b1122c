use Rattle.std.proofs.Common.{◌≡◌, ◌+◌, ◌≤◌, ◌-◌, ℕ, List, length, drop, ◌++◌}
use Rattle.std.specs.Prelude.{All}
use Rattle.hunk_core.specs.PlainHunk.{body_of}
use Rattle.hunk_core.specs.Turned.{LiesIn}
use Rattle.context_form.specs.Merging.{before_kept, from_kept}
use Rattle.context_form.proofs.merging.take_changes.Given as goal

abbrev pub invariant-loop-place : goal.invariant-loop-place
invariant-loop-place l = record {
  low : l.from ≤ l.place;
  high : l.place ≤ length l.part;
  few : length l.body.items + l.from ≤ length l.fn.body.items + l.place;
  lies : (text : List ℕ) → All (λ x. LiesIn text x.span) l.fn.body.items → All (λ x. LiesIn text x.span) l.part → All (λ x. LiesIn text x.span) l.body.items;
  taken : (text : List ℕ) → body_of text l.body.items ++ before_kept (body_of text (drop l.place l.part)) ≡ body_of text l.fn.body.items ++ before_kept (body_of text (drop l.from l.part));
  rest : (text : List ℕ) → from_kept (body_of text (drop l.place l.part)) ≡ from_kept (body_of text (drop l.from l.part));
}

abbrev pub decreases-loop-place : goal.decreases-loop-place
decreases-loop-place l = length l.part - l.place
