use Rattle.std.proofs.Common.{◌≡◌, ◌≤◌, take}
use Rattle.std.specs.Prelude.{count_by}
use Rattle.hunk_core.specs.Turned.{is_keep}
use Rattle.context_form.proofs.merging.kept_lines.Given as goal

abbrev pub invariant-loop-line : goal.invariant-loop-line
invariant-loop-line l = record { is : l.count ≡ count_by (λ x. is_keep x.mark) (take l.line-index l.lines); few : l.count ≤ l.line-index }
