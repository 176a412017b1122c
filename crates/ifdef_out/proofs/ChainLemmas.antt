-- The block that edits begin with, edit by edit.
use Rattle.std.proofs.Common.{◌≡◌, ◌≢◌, ℕ, ◌<◌, ◌≤◌, ◌||◌, List, [], ◌∷◌, ◌++◌, length, Bool, true, false, eqb, refl, sym, ap, subst, ◌∙◌, arith, Option, Some, None}
use Rattle.std.specs.Prelude.{is_some, option_map}
use Rattle.std.proofs.lemmas.Bool.Decides.{nat_tests}
use Rattle.line_list.specs.declared.Span.{Span}
use Rattle.hunk_apply.specs.Splice.{Edit, added_line}
use Rattle.ifdef_out.specs.Chain.{next_gap, block_end, block_added, behind_block, is_some_line}

-- without an edit
pub end-none : (q : ℕ) → block_end q [] ≡ q
unfolding block_end
end-none q = refl

pub added-none : (q : ℕ) → block_added q [] ≡ []
unfolding block_added
added-none q = refl

pub behind-none : (q : ℕ) → behind_block q [] ≡ []
unfolding behind_block
behind-none q = refl

module _ (q : ℕ) (e : Edit) (es : List Edit) where
  -- an edit of the block
  module _ (here : e.at ≡ q) where
    same : eqb e.at q ≡ true
    same = grind (arith, nat_tests)

    pub end-more : block_end q (e ∷ es) ≡ block_end (next_gap q e.added) es
    unfolding block_end
    end-more = rw same refl

    pub added-more : block_added q (e ∷ es) ≡ added_line e.added ++ block_added (next_gap q e.added) es
    unfolding block_added
    added-more = rw same refl

    pub behind-more : behind_block q (e ∷ es) ≡ behind_block (next_gap q e.added) es
    unfolding behind_block
    behind-more = rw same refl

  -- an edit behind the block
  module _ (away : e.at ≢ q) where
    other : eqb e.at q ≡ false
    other = grind (arith, nat_tests)

    pub end-stop : block_end q (e ∷ es) ≡ q
    unfolding block_end
    end-stop = rw other refl

    pub added-stop : block_added q (e ∷ es) ≡ []
    unfolding block_added
    added-stop = rw other refl

    pub behind-stop : behind_block q (e ∷ es) ≡ e ∷ es
    unfolding behind_block
    behind-stop = rw other refl

-- whether a block adds a line that begins with this edit
pub adds-some : (f : Span → List ℕ) (added : Option Span) (more : List (List ℕ)) → is_some_line (added_line (option_map f added) ++ more) ≡ (is_some added || is_some_line more)
adds-some f None more = refl
adds-some f (Some span) more = refl

pub or-next : (a b c d : Bool) → c ≡ (a || b) → (a || (b || d)) ≡ (c || d)
or-next true b c d e = ap (λ x. x || d) (sym e)
or-next false b c d e = ap (λ x. x || d) (sym e)

-- the lines of a block that begins with an edit
pub added-next : (q : ℕ) (left : List Edit) (e : Edit) (es : List Edit) (to : ℕ) → left ≡ e ∷ es → e.at ≡ q → to ≡ next_gap q e.added → block_added q left ≡ added_line e.added ++ block_added to es
added-next q left e es to is here next = ap (block_added q) is ∙ added-more q e es here ∙ ap (λ n. added_line e.added ++ block_added n es) (sym next)

shorter : (q : ℕ) (es : List Edit) → length (behind_block q es) ≤ length es
shorter q [] = omega (arith, ap length (behind-none q))
shorter q (e ∷ es) = by (eqb e.at q) refl (shorter (next_gap q e.added) es)
  where
    by : (b : Bool) → eqb e.at q ≡ b → length (behind_block (next_gap q e.added) es) ≤ length es → length (behind_block q (e ∷ es)) ≤ length (e ∷ es)
    by true t more = let here : e.at ≡ q = grind (arith, nat_tests) in omega (arith, ap length (behind-more q e es here), more)
    by false t more = let away : e.at ≢ q = grind (arith, nat_tests) in omega (arith, ap length (behind-stop q e es away))

-- the block of an edit has that edit
pub fewer : (e : Edit) (es left : List Edit) → left ≡ e ∷ es → length (behind_block e.at left) < length left
fewer e es left is =
    let all : length (behind_block e.at left) ≡ length (behind_block (next_gap e.at e.added) es) = ap length (ap (behind_block e.at) is ∙ behind-more e.at e es refl) in
    omega (arith, shorter (next_gap e.at e.added) es, ap length is)

-- behind a block fewer edits are left
pub less-left : (e : Edit) (es left behind : List Edit) → left ≡ e ∷ es → behind ≡ behind_block e.at left → length behind < length left
less-left e es left behind is same = subst (λ (l : List Edit). length l < length left) (sym same) (fewer e es left is)
