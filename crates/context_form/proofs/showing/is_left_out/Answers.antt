use Rattle.std.proofs.Common.{Bool, not, ◌&&◌, ap, ◌∙◌}
use Rattle.std.specs.List.{list_any}
use Rattle.hunk_core.specs.declared.HunkLine.{HunkLine}
use Rattle.hunk_core.specs.declared.Side.{Side}
use Rattle.hunk_core.specs.PlainHunk.{body_of}
use Rattle.hunk_core.specs.Turned.{other_side}
use Rattle.context_form.specs.Canonical.{has_changed, is_changed}
use Rattle.context_form.proofs.ShownAgain.{changed-of}
use Rattle.context_form.proofs.showing.is_left_out.Goals as goal

pub returns : goal.returns
returns c = λ text.
    let items = c.args.hunk.now.body.items in
    c.is_idle.ensures
    ∙ ap (λ (b : Bool). not b && c.has_changed-2.result) (c.has_changed.ensures ∙ changed-of text c.args.part items)
    ∙ ap (λ (b : Bool). not (has_changed c.args.part (body_of text items)) && b) (c.has_changed-2.ensures ∙ ap (λ (s : Side). list_any (λ (l : HunkLine). is_changed s l.mark) items) c.other.ensures ∙ changed-of text (other_side c.args.part) items)
