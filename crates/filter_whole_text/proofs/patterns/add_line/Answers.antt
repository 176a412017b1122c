use Rattle.std.proofs.Common.{ℕ, List, [], ◌∷◌, ◌++◌, length, map, Vec, Global, sym, ap, ◌∙◌}
use Rattle.std.proofs.lemmas.Bool.{eqb-true, eqb-false}
use Rattle.std.proofs.lemmas.List.{map-append}
use Rattle.filter_whole_text.proofs.Choosing.{pattern-none, pattern-one}
use Rattle.filter_whole_text.proofs.patterns.add_line.Goals as goal

pub returns-then-is_empty : goal.returns-then-is_empty
returns-then-is_empty c =
    let piece = c.content-pattern.result.now in
    pattern-none c.args.line.now piece c.content-pattern.ensures (eqb-true (length piece) 0 (sym c.is_empty.ensures ∙ c.if-is_empty.true)) (map (λ (p : Vec ℕ Global). p.items) c.args.patterns.now.items)

pub returns : goal.returns
returns c =
    let piece = c.content-pattern.result.now in
    let before = c.args.patterns.now.items in
    let one = pattern-one c.args.line.now piece c.content-pattern.ensures (eqb-false (length piece) 0 (sym c.is_empty.ensures ∙ c.if-is_empty.false)) in
    ap (map (λ (p : Vec ℕ Global). p.items)) c.in_ok-push.ensures.items
    ∙ map-append (λ (p : Vec ℕ Global). p.items) before (_ ∷ [])
    ∙ ap (λ (l : List (List ℕ)). map (λ (p : Vec ℕ Global). p.items) before ++ l) (ap (λ (l : List ℕ). l ∷ []) c.in_ok-from_slice.ensures.items ∙ one)
