use Rattle.std.proofs.Common.{◌≡◌, ◌≤◌, length}
use Rattle.sys_files.proofs.reading.read_whole.Given as goal

abbrev pub invariant-loop : goal.invariant-loop
invariant-loop l = (l.filled ≤ length l.buf) × (length l.buf ≡ length l.initial.buf)
