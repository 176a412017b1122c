use Rattle.outside.proofs.Exits.{if_ok_none}
use Rattle.std.proofs.Common.{◌++◌, ◌∷◌, [], Bool, bytes_eq, if◌then◌else◌, ap, ◌∙◌}
use Rattle.read_file_patch.proofs.moved.differing.Goals as goal

pub returns-in_err-push : goal.returns-in_err-push
returns-in_err-push c = if_ok_none _ _ c.from_residual.result c.from_residual.ensures.1

pub returns-in_err-push-2 : goal.returns-in_err-push-2
returns-in_err-push-2 c = if_ok_none _ _ c.from_residual-in_err-push-2.result c.from_residual-in_err-push-2.ensures.1

pub returns : goal.returns
returns c =
    let both = c.args.source ∷ c.args.destination ∷ [] in
    let apart = c.if-eq.ensures ∙ ap (λ s. bytes_eq s c.as_bytes-2.result.now) (c.as_bytes.ensures.value ∙ c.text.ensures.text) ∙ ap (bytes_eq c.args.source) (c.as_bytes-2.ensures.value ∙ c.text-2.ensures.text) in
    c.in_ok-push-2.ensures.items
    ∙ ap (λ l. l ++ c.args.destination ∷ []) (c.in_ok-push.ensures.items ∙ ap (λ l. l ++ c.args.source ∷ []) c.new-names.ensures.items)
    ∙ ap (λ (v : Bool). if v then [] else both) apart

pub returns-then-eq : goal.returns-then-eq
returns-then-eq c =
    let both = c.args.source ∷ c.args.destination ∷ [] in
    let same = c.if-eq.ensures ∙ ap (λ s. bytes_eq s c.as_bytes-2.result.now) (c.as_bytes.ensures.value ∙ c.text.ensures.text) ∙ ap (bytes_eq c.args.source) (c.as_bytes-2.ensures.value ∙ c.text-2.ensures.text) in
    c.new-names.ensures.items ∙ ap (λ (v : Bool). if v then [] else both) same
