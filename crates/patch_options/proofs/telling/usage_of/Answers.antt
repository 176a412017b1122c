use Rattle.std.proofs.Common.{◌∙◌, ◌++◌, ap, flat_map}
use Rattle.patch_options.specs.Usage.{group_text, usage_text}
use Rattle.patch_options.proofs.telling.usage_of.Goals as goal

pub returns : goal.returns
unfolding usage_text
returns c =
    c.in_ok-push_str.ensures.bytes ∙ ap (λ l. l ++ c.args.behind.now) (c.in_ok-put_groups.ensures ∙ ap (λ l. l ++ flat_map group_text c.args.table.now) c.in_ok-text.ensures.ok)
