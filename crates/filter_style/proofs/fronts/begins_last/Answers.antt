use Rattle.std.proofs.Common.{◌≡◌, ◌-◌, ◌∙◌, ap, arith, drop, slice_range, take}
use Rattle.line_list.specs.Lines.{lines}
use Rattle.filter_style.specs.Names.{begins}
use Rattle.filter_style.proofs.Small.{last-one, last-more}
use Rattle.filter_style.proofs.fronts.begins_last.Goals as goal

pub returns-in-Some : goal.returns-in-Some
returns-in-Some c =
    let rest = c.args.rest.now in
    last-more c.args.mark.now _ _ (lines rest) (lines (drop c.args.end rest)) _ c.requires.first c.in-Some.ensures.first

pub returns-in-None : goal.returns-in-None
returns-in-None c =
    let rest = c.args.rest.now in
    let far : c.args.end ≡ c.args.end - 0 = omega arith in
    c.starts_with.ensures.value ∙ ap (λ n. begins c.args.mark.now (take n rest)) far ∙ last-one c.args.mark.now (slice_range rest 0 c.args.end) (lines rest) (lines (drop c.args.end rest)) c.requires.first c.in-None.ensures.1
