use Rattle.std.proofs.Common.{◌≡◌, ◌-◌, ◌^◌, ◌++◌, codes, ap, ◌∙◌}
use Rattle.std.specs.Fmt.{styled_decimal, format_spec}
use Rattle.std.proofs.lemmas.Result.{IfOk-weaker}
use Rattle.filter_whole_text.specs.PartNames.{part_name}
use Rattle.filter_whole_text.proofs.PartNames.{ending-written, name-written}
use Rattle.filter_whole_text.proofs.naming.part_name.Goals as goal

pub followed_by-requires : goal.followed_by-requires
followed_by-requires c =
    ending-written c.args.number c.as_str.result.now c.ranges.number.fits (c.as_str.ensures.value ∙ c.in_ok-end.ensures.ok ∙ ap (λ s. codes ".part" ++ styled_decimal s c.args.number) c.laid_out.ensures)

pub returns : goal.returns
returns c =
    let end = c.as_str.result.now in
    let ended : end ≡ codes ".part" ++ styled_decimal (format_spec 32 0 4 3 (2 ^ 64 - 1)) c.args.number = c.as_str.ensures.value ∙ c.in_ok-end.ensures.ok ∙ ap (λ s. codes ".part" ++ styled_decimal s c.args.number) c.laid_out.ensures in
    IfOk-weaker c.followed_by.result (λ name. name ≡ c.args.file.now ++ end) (λ name. name ≡ part_name c.args.file.now c.args.number)
    (λ name is. name-written c.args.number end c.ranges.number.fits ended c.args.file.now name is)
    c.followed_by.ensures.text
