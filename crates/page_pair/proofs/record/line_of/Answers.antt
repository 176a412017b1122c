use Rattle.std.proofs.Common.{◌≡◌, ◌+◌, ◌-◌, arith, take, drop, ap, ◌∙◌}
use Rattle.page_pair.specs.Records.{line_in}
use Rattle.page_pair.proofs.record.line_of.Goals as goal

pub returns : goal.returns
unfolding line_in
returns c =
    let w : c.args.at + 4 + c.stated_length-length.result - (c.args.at + 4) ≡ c.stated_length-length.result = omega arith in
    ap (λ n. take n (drop (c.args.at + 4) c.args.page.now)) (w ∙ c.stated_length-length.ensures)
