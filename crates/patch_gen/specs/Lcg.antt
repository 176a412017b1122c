-- The draws that a made tree is made from: a linear congruence modulo 2 ^ 64, with the constants of Knuth's MMIX.
use Rattle.std.specs.Prelude.{ℕ, zero, suc, ◌+◌, ◌*◌, ◌/◌, ◌%◌, ◌^◌}

-- the state that follows one
abbrev pub next_state : ℕ → ℕ
next_state x = (x * 6364136223846793005 + 1442695040888963407) % 2 ^ 64

-- the state after so many draws
unfoldable pub state_after : ℕ → ℕ → ℕ
state_after x zero = x
state_after x (suc k) = next_state (state_after x k)

-- the draw of this number from the state x on, counted from 1
abbrev pub draw : ℕ → ℕ → ℕ
draw x k = state_after x k / 2 ^ 33
