use Rattle.std.proofs.Common.{◌≡◌, ◌∙◌, ◌++◌, List, ℕ, ap, OnOk, string_bytes, subst}
use Rattle.patch_options.proofs.Growing.{told_if, gap_behind, gap_below}
use Rattle.patch_options.proofs.telling.put_gap.Goals as goal

pub returns-then-width-lt28 : goal.returns-then-width-lt28
returns-then-width-lt28 c =
    subst (λ (g : List ℕ). OnOk c.put_spaces.result (string_bytes c.put_spaces.new.text ≡ string_bytes c.args.text.now ++ g)) (gap_behind c.args.width c.if-width-lt28.true) c.put_spaces.ensures

pub returns : goal.returns
returns c = told_if c.push_str.result _ c.push_str.ensures.bytes (λ is. is ∙ ap (λ g. string_bytes c.args.text.now ++ g) (gap_below c.args.width c.if-width-lt28.false))
