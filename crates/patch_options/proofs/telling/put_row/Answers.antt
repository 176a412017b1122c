use Rattle.std.proofs.Common.{◌∷◌, [], codes, length, string_bytes}
use Rattle.patch_options.specs.Usage.{gap, row_text}
use Rattle.patch_options.proofs.Growing.{five_told, told_if}
use Rattle.patch_options.proofs.telling.put_row.Goals as goal

pub returns : goal.returns
unfolding row_text
returns c =
    told_if c.push_str-4.result _ c.push_str-4.ensures.bytes
    (five_told (string_bytes c.args.text.now) (codes "  ") c.args.word.now.shown.now (gap (length c.args.word.now.shown.now)) c.args.word.now.help.now (10 ∷ [])
    c.in_ok-push_str.ensures.bytes c.in_ok-push_str-2.ensures.bytes c.in_ok-put_gap.ensures c.in_ok-push_str-3.ensures.bytes)
