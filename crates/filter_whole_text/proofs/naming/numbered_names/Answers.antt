use Rattle.std.proofs.Common.{◌≡◌, ℕ, ◌+◌, List, ◌++◌, [], ◌∷◌, sym, ◌∙◌, ap, arith}
use Rattle.std.proofs.lemmas.List.FromFn.{map-range_with_len_more}
use Rattle.filter_whole_text.specs.PartNames.{part_name, numbered_names}
use Rattle.filter_whole_text.proofs.naming.numbered_names.Goals as goal

pub loop-index-init : goal.loop-index-init
loop-index-init c = c.new-names.ensures.items

pub loop-index-preserved : goal.loop-index-preserved
loop-index-preserved c =
    let file = c.args.file.now in
    let i = c.loop-index.index in
    let next : 1 + i ≡ i + 1 = omega arith in
    c.in_ok-push.ensures.items
    ∙ ap (λ (l : List (List ℕ)). l ++ c.in_ok-name.name ∷ []) c.loop-index.invariant
    ∙ ap (λ (l : List ℕ). numbered_names file i ++ l ∷ []) c.in_ok-name.ensures
    ∙ sym (map-range_with_len_more (part_name file) 1 i (i + 1) next)

pub returns : goal.returns
returns c =
    let all : c.loop-index.index ≡ c.args.count = omega (arith, c.loop-index-test.false, c.loop-index.auto.index-end) in
    c.loop-index.invariant ∙ ap (λ n. numbered_names c.args.file.now n) all
