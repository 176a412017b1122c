use Rattle.std.proofs.Common.{ℕ, List, [], ◌∷◌, ◌++◌, append_assoc, ap, ◌∙◌}
use Rattle.stack_patch.proofs.names.push_both.Goals as goal

pub returns : goal.returns
returns c =
    c.in_ok-push-2.ensures.items
    ∙ ap (λ (l : List (List ℕ)). l ++ c.args.reject ∷ []) c.in_ok-push.ensures.items
    ∙ append_assoc c.args.names.now.items (c.args.name ∷ []) (c.args.reject ∷ [])
