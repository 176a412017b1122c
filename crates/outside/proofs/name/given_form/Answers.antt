use Rattle.std.proofs.Common.{List, ℕ, ◌∷◌, ◌++◌, cond, string_bytes, sym, ◌∙◌, ap}
use Rattle.outside.specs.Names.{normal_form}
use Rattle.outside.proofs.Given.{rooted}
use Rattle.outside.proofs.name.given_form.Goals as goal

pub returns : goal.returns
returns c = rooted c.args.text.now (string_bytes c.in_ok-kept.kept) _ c.in_ok-kept.ensures (sym c.is_absolute.ensures ∙ c.if-not-is_absolute.false) (c.in_ok-push_str.ensures.bytes ∙ ap (λ (l : List ℕ). l ++ c.as_str.result.now) c.in_ok-rooted.ensures.ok ∙ ap (λ (l : List ℕ). 47 ∷ l) c.as_str.ensures.value)

pub returns-then-not-is_absolute : goal.returns-then-not-is_absolute
returns-then-not-is_absolute c = c.in_ok-kept.ensures ∙ ap (λ b. cond b (47 ∷ normal_form c.args.text.now) (normal_form c.args.text.now)) (sym (sym c.is_absolute.ensures ∙ c.if-not-is_absolute.true))
