use Rattle.std.proofs.Common.{ℕ, List, ◌++◌, [], ◌∷◌, take, ◌∙◌, ap}
use Rattle.filter_whole_text.specs.PartNames.{flat}
use Rattle.filter_whole_text.proofs.NameLoops.{flat-more, flat-all}
use Rattle.filter_whole_text.proofs.naming.flat.Goals as goal

pub loop-at-init : goal.loop-at-init
loop-at-init c = c.in_ok-text.ensures.items

pub loop-at-preserved : goal.loop-at-preserved
loop-at-preserved c =
    let name = c.args.name.now in
    let at = c.loop-at.at in
    c.in_ok-push.ensures.items
    ∙ ap (λ (l : List ℕ). l ++ c.without_slash.result ∷ []) c.loop-at.invariant
    ∙ ap (λ (b : ℕ). flat (take at name) ++ b ∷ []) c.without_slash.ensures
    ∙ flat-more name at c.loop-at-test.true

pub returns : goal.returns
returns c = c.loop-at.invariant ∙ flat-all c.args.name.now c.loop-at.at c.loop-at-test.false
