use Rattle.std.proofs.Common.{◌≡◌, ℕ, List, ◌∷◌, ◌∙◌, subst}
use Rattle.split_recount.specs.Splitting.{AreNames}
use Rattle.split_recount.proofs.Cutting.{names-more}
use Rattle.filter_whole_text.proofs.naming.note.Goals as goal

pub returns-in-Ok : goal.returns-in-Ok
returns-in-Ok c = λ names has.
    let text : c.as_bytes.result.now ≡ c.args.stem.now = c.as_bytes.ensures.value ∙ c.text.ensures.text in
    subst (λ (l : List ℕ). AreNames (l ∷ names) c.insert.new.self) text (names-more names c.args.earlier.now c.insert.new.self c.as_bytes.result has c.in-Ok.ensures.updates)
