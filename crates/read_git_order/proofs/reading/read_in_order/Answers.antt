use Rattle.std.proofs.Common.{◌≡◌, List, ℕ, Option, sym, ap, subst, ◌∙◌}
use Rattle.std.specs.Prelude.{is_some, IfOk, IfSome}
use Rattle.patch_options.specs.PlainJob.{plain_options}
use Rattle.patch_set.specs.Refusals.{refusal}
use Rattle.patch_set.specs.SetView.{IsRead, Meets}
use Rattle.read_git_order.specs.Moving.{new_text}
use Rattle.read_git_order.specs.Ordered.{ordered}
use Rattle.read_git_order.proofs.Same.{kept, moved}
use Rattle.read_git_order.proofs.reading.read_in_order.Goals as goal

-- the text is as it was given
same : (c : goal.In-Ok-None) → ordered (plain_options c.args.options.now) c.args.text.items ≡ c.args.text.items
same c = kept (plain_options c.args.options.now) c.args.text.items c.in-Ok.set c.in-Ok.ensures.read c.in-Ok.ensures.refused (sym c.in-Ok-None.ensures.late ∙ ap (λ x. is_some x) c.in-Ok-None.field-0-is)

pub returns-in-Ok-None-clause-read : goal.returns-in-Ok-None-clause-read
returns-in-Ok-None-clause-read c = subst (λ (t : List ℕ). IsRead (plain_options c.args.options.now) t c.in-Ok.set) (sym (same c)) c.in-Ok.ensures.read

pub returns-in-Ok-None-clause-refused : goal.returns-in-Ok-None-clause-refused
returns-in-Ok-None-clause-refused c = ap (refusal (plain_options c.args.options.now)) (same c) ∙ c.in-Ok.ensures.refused

-- the text is the one in order
other : (c : goal.After-read_set-in-Ok-Some) → c.in-Ok-Some.new.items ≡ ordered (plain_options c.args.options.now) c.args.text.items
other c =
    let o = plain_options c.args.options.now in
    let v = c.in-Ok.set in
    let is : c.in-Ok-Some.new.items ≡ new_text o.reverse v = subst (λ x. IfSome x (λ text. text.items ≡ new_text o.reverse v)) c.in-Ok-Some.field-0-is c.in-Ok-Some.ensures.text in
    is ∙ sym (moved o c.args.text.items v c.in-Ok.ensures.read c.in-Ok.ensures.refused (sym c.in-Ok-Some.ensures.late ∙ ap (λ x. is_some x) c.in-Ok-Some.field-0-is))

pub returns-in-Ok-Some-clause-read : goal.returns-in-Ok-Some-clause-read
returns-in-Ok-Some-clause-read c =
    subst (λ (t : List ℕ). IfOk c.read_set-in-Ok-Some.result (IsRead (plain_options c.args.options.now) t)) (other c) c.read_set-in-Ok-Some.ensures.read

pub returns-in-Ok-Some-clause-refused : goal.returns-in-Ok-Some-clause-refused
returns-in-Ok-Some-clause-refused c =
    subst (λ (t : List ℕ). Meets (refusal (plain_options c.args.options.now) t) c.read_set-in-Ok-Some.result) (other c) c.read_set-in-Ok-Some.ensures.refused
