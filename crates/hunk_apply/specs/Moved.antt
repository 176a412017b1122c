-- The state behind a hunk that stands at a line.
use Rattle.std.specs.Prelude.{ℕ, ◌+◌, ◌-◌, ℤ, pos, ◌+ℤ◌, ◌-ℤ◌, length, ◌==◌, ◌&&◌, if◌then◌else◌}
use Rattle.hunk_core.specs.PlainHunk.{PlainHunk, old_lines}
use Rattle.hunk_core.specs.Turned.{trailing}
use Rattle.hunk_place.specs.declared.PlaceState.{PlaceState}
use Rattle.hunk_place.specs.Verdicts.{adds, drops}

abbrev pub moved_state : PlainHunk → PlaceState → ℕ → ℤ → PlaceState
moved_state h state line offset = record {
  consumed = if (adds h == 0) && (drops h == 0) then state.consumed else (line - 1 + length (old_lines h.body)) - trailing h.body;
  offset = offset;
  net = state.net +ℤ (pos (adds h) -ℤ pos (drops h));
}
