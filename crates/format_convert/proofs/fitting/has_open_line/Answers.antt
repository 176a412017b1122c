use Rattle.std.proofs.Common.{◌≡◌, ℕ, List, Bool, ◌||◌, ◌&&◌, sym, ap, ◌∙◌}
use Rattle.hunk_core.specs.declared.Side.TheVariants.{Forward, Reversed}
use Rattle.hunk_core.specs.Rules.{lacks_inner_end}
use Rattle.format_convert.specs.Fitting.{changed_lines, is_ed}
use Rattle.format_convert.specs.Seeing.{ends_open}
use Rattle.format_convert.specs.Walk.{left_hunks}
use Rattle.format_convert.proofs.FitLemmas.{either-open, open-is}
use Rattle.format_convert.proofs.fitting.has_open_line.Goals as goal

pub returns : goal.returns
returns c =
    let added = changed_lines Reversed (left_hunks c.args.kept) in
    let dropped = changed_lines Forward (left_hunks c.args.kept) in
    let a = c.seen_in-adds.result in
    let d = c.seen_in-drops.result in
    c.either_open.ensures
    ∙ ap (λ (t : Bool). (t && a.open_end) || (d.open_inside || a.open_inside)) c.is_ed.ensures
    ∙ ap (λ (t : Bool). (is_ed c.args.form && t) || (d.open_inside || a.open_inside)) c.seen_in-adds.ensures.end
    ∙ ap (λ (t : Bool). (is_ed c.args.form && ends_open added) || (t || a.open_inside)) c.seen_in-drops.ensures.inside
    ∙ ap (λ (t : Bool). (is_ed c.args.form && ends_open added) || (lacks_inner_end dropped || t)) c.seen_in-adds.ensures.inside
    ∙ either-open (is_ed c.args.form) (ends_open added) (lacks_inner_end added) (lacks_inner_end dropped)
    ∙ ap (λ (t : Bool). (is_ed c.args.form && t) || (lacks_inner_end dropped || lacks_inner_end added)) (sym (open-is added))
