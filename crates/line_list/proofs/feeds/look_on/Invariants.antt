use Rattle.std.proofs.Common.{◌≡◌, ℕ, ◌+◌, ◌*◌, ◌<◌, length}
use Rattle.std.specs.Prelude.{slice_index}
use Rattle.line_list.specs.Feeds.{AreMarks}
use Rattle.line_list.proofs.feeds.look_on.Given as goal

abbrev pub invariant-loop-word : goal.invariant-loop-word
invariant-loop-word l = record {
  long : length l.marks ≡ 8;
  done : (w : ℕ) → w < l.word → AreMarks l.text (l.at + 64 * w) (slice_index l.marks w);
}
