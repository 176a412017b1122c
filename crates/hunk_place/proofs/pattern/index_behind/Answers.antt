use Rattle.std.proofs.Common.{◌≡◌, ◌≤◌, ◌+◌, ℕ, List, [], ◌∷◌, drop, sym, ap, ◌∙◌, subst, arith, rules}
use Rattle.std.proofs.lemmas.List.{drop_all}
use Rattle.hunk_core.specs.PlainHunk.{bytes_at}
use Rattle.line_list.proofs.Elements.{front-rest}
use Rattle.hunk_place.specs.Taken.{side_lines}
use Rattle.hunk_place.proofs.FitLemmas.{side-skip, side-take, nothing, all-behind}
use Rattle.hunk_place.proofs.pattern.index_behind.Goals as goal
use Rattle.hunk_place.proofs.pattern.index_behind.Goals.{then-is_taken+else-i-front, else-is_taken}

pub loop-k-preserved : goal.loop-k-preserved
loop-k-preserved c =
    let old : List (List ℕ) = side_lines c.args.text.now c.args.side c.args.hunk.now.body.items in
    let rest : List (List ℕ) = side_lines c.args.text.now c.args.side (drop (c.loop-k.k + 1) c.args.hunk.now.body.items) in
    elim c.if-is_taken.branch [
      | then-is_taken+else-i-front w ↦
          let head : drop c.loop-k.i old ≡ bytes_at c.args.text.now c.index.result.now.span ∷ rest =
          side-take c.args.text.now c.args.side c.args.hunk.now.body.items c.loop-k.k c.loop-k.i c.index.result.now (search rules) c.index.ensures (search rules) c.loop-k.invariant.rest in
          record {
            few = omega (arith, w.i-is);
            most = omega (arith, w.i-is);
            rest = sym (ap (λ n. drop n old) w.i-is ∙ front-rest _ _ _ c.loop-k.i head);
          }
      | else-is_taken w ↦
          record {
            few = omega (arith, w.i-is);
            most = omega (arith, w.i-is);
            rest = side-skip c.args.text.now c.args.side c.args.hunk.now.body.items c.loop-k.k c.loop-k.i c.index.result.now (search rules) c.index.ensures (search rules) c.loop-k.invariant.rest ∙ ap (λ n. drop n old) (sym w.i-is);
          }
    ]

pub returns : goal.returns
returns c =
    let old : List (List ℕ) = side_lines c.args.text.now c.args.side c.args.hunk.now.body.items in
    let over : drop c.loop-k.k c.args.hunk.now.body.items ≡ [] = drop_all c.loop-k.k c.args.hunk.now.body.items (search rules) in
    let gone : drop c.len.result c.args.hunk.now.body.items ≡ [] = drop_all c.len.result c.args.hunk.now.body.items (search rules) in
    let none : side_lines c.args.text.now c.args.side [] ≡ [] = nothing c.args.text.now c.args.side in
    let left : [] ≡ drop c.loop-k.i old = sym (ap (side_lines c.args.text.now c.args.side) over ∙ none) ∙ c.loop-k.invariant.rest in
    ap (side_lines c.args.text.now c.args.side) gone ∙ none ∙ all-behind old c.loop-k.i c.args.front left c.loop-k.invariant.most
