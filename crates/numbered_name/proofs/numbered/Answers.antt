use Rattle.std.proofs.Common.{◌≡◌, ◌++◌, List, ℕ, Ok, Err, codes, sym, ap, subst, ◌∙◌}
use Rattle.std.specs.Prelude.{IfOk, Result}
use Rattle.num_text.specs.Numbers.{decimal}
use Rattle.num_text.proofs.Decimal.{written-decimal}
use Rattle.outside.specs.Names.{IsEnding}
use Rattle.outside.specs.Numbered.{numbered}
use Rattle.numbered_name.proofs.Endings.{numbered-ending, behind-name}
use Rattle.numbered_name.proofs.numbered.Goals as goal

pub followed_by-requires : goal.followed_by-requires
followed_by-requires c =
    let text = c.as_str.ensures.value ∙ c.in_ok-ending.ensures.ok ∙ ap (λ (l : List ℕ). codes ".~" ++ l ++ codes "~") (written-decimal c.args.n c.ranges.n.fits) in
    subst IsEnding (sym text) (numbered-ending c.args.n)

made : {E : Type 0} (name : List ℕ) (n : ℕ) (end : List ℕ) → end ≡ codes ".~" ++ decimal n ++ codes "~" → (r : Result (List ℕ) E) → IfOk r (λ made. made ≡ name ++ end) → IfOk r (λ made. made ≡ numbered name n)
made name n end is (Ok text) same = same ∙ ap (λ (l : List ℕ). name ++ l) is ∙ behind-name name (decimal n)
made name n end is (Err e) same = tt

pub returns-clause-text : goal.returns-clause-text
returns-clause-text c =
    let text = c.as_str.ensures.value ∙ c.in_ok-ending.ensures.ok ∙ ap (λ (l : List ℕ). codes ".~" ++ l ++ codes "~") (written-decimal c.args.n c.ranges.n.fits) in
    made c.args.name.now c.args.n c.as_str.result.now text c.followed_by.result c.followed_by.ensures.text
