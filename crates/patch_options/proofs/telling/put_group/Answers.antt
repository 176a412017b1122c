use Rattle.std.proofs.Common.{◌∷◌, [], flat_map, string_bytes}
use Rattle.patch_options.specs.Usage.{group_text, row_text}
use Rattle.patch_options.proofs.Growing.{three_told, told_then}
use Rattle.patch_options.proofs.telling.put_group.Goals as goal

pub returns : goal.returns
unfolding group_text
returns c =
    told_then c.put_rows.result c.put_rows.ensures
    (three_told (string_bytes c.args.text.now) (10 ∷ []) c.args.group.now.heading.now (flat_map row_text c.args.group.now.words.now) c.in_ok-push_str.ensures.bytes c.in_ok-push_str-2.ensures.bytes)
