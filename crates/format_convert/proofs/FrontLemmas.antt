-- The block that edits begin with, edit by edit.
use Rattle.std.proofs.Common.{◌≡◌, ◌≢◌, ℕ, ◌+◌, ◌<◌, ◌≤◌, List, [], ◌∷◌, ◌++◌, length, Bool, true, false, not, suc, Option, Some, None, cond, eqb, refl, sym, ap, ◌∙◌, arith}
use Rattle.std.specs.Prelude.{MatchOption, is_some}
use Rattle.std.proofs.lemmas.Bool.Decides.{nat_tests}
use Rattle.hunk_core.specs.declared.Side.{Side}
use Rattle.hunk_core.specs.declared.Side.TheVariants.{Forward, Reversed}
use Rattle.format_convert.specs.Blocks.{Edit, Block, behind, block_of, blocks_of, dropped_by, in_front}
use Rattle.format_convert.specs.Fronts.{begins_at, front, front_block, front_rest, is_on, line_on}

pub front-none : (side : Side) (q : ℕ) → front side q [] ≡ []
unfolding front
front-none side q = refl

pub rest-none : (q : ℕ) → front_rest q [] ≡ []
unfolding front_rest
rest-none q = refl

module _ (q : ℕ) (e : Edit) (es : List Edit) where
  module _ (here : e.at ≡ q) where
    same : eqb e.at q ≡ true
    same = grind (arith, nat_tests)

    pub front-more : (side : Side) → front side q (e ∷ es) ≡ line_on side e ++ front side (behind e) es
    unfolding front
    front-more side = rw same refl

    pub rest-more : front_rest q (e ∷ es) ≡ front_rest (behind e) es
    unfolding front_rest
    rest-more = rw same refl

-- an edit that stands elsewhere, or none
pub front-stop : (side : Side) (q : ℕ) (es : List Edit) → begins_at q es ≡ false → front side q es ≡ []
unfolding front
front-stop side q [] away = refl
front-stop side q (e ∷ es) away = rw away refl

pub rest-stop : (q : ℕ) (es : List Edit) → begins_at q es ≡ false → front_rest q es ≡ es
unfolding front_rest
rest-stop q [] away = refl
rest-stop q (e ∷ es) away = rw away refl

-- what is left of edits that begin with this one
pub front-next : (side : Side) (q : ℕ) (left : List Edit) (e : Edit) (es : List Edit) → left ≡ e ∷ es → e.at ≡ q → front side q left ≡ line_on side e ++ front side (behind e) es
front-next side q left e es is here = ap (front side q) is ∙ front-more q e es here side

pub rest-next : (q : ℕ) (left : List Edit) (e : Edit) (es : List Edit) → left ≡ e ∷ es → e.at ≡ q → front_rest q left ≡ front_rest (behind e) es
rest-next q left e es is here = ap (front_rest q) is ∙ rest-more q e es here

-- ---- the blocks of edits begin with the one that the edits begin with

pub blocks-cons : (e : Edit) (es : List Edit) → blocks_of (e ∷ es) ≡ in_front e (blocks_of es)
unfolding blocks_of
blocks-cons e es = refl

pub blocks-none : blocks_of [] ≡ []
unfolding blocks_of
blocks-none = refl

own-dropped : (e : Edit) → dropped_by e ≡ line_on Forward e
own-dropped e = by e.adds
  where
    by : (b : Bool) → cond b [] (e.line ∷ []) ≡ cond (is_on Forward b) (e.line ∷ []) []
    by true = refl
    by false = refl

abbrev block : ℕ → List (List ℕ) → List (List ℕ) → Block
block first dropped added = record { first = first; dropped = dropped; added = added }

same-block : (q : ℕ) (d d2 a a2 : List (List ℕ)) → d ≡ d2 → a ≡ a2 → block q d a ≡ block q d2 a2
same-block q d d2 a a2 e f = ap (λ x. block q x a) e ∙ ap (λ x. block q d2 x) f

front-is : (e : Edit) (es : List Edit) (d a : List (List ℕ)) → front Forward (behind e) es ≡ d → front Reversed (behind e) es ≡ a → block_of e d a ≡ front_block e.at (e ∷ es)
front-is e es d a fd fa =
    same-block e.at _ _ _ _
    (ap (λ x. x ++ d) (own-dropped e) ∙ ap (λ x. line_on Forward e ++ x) (sym fd) ∙ sym (front-more e.at e es refl Forward))
    (ap (λ x. line_on Reversed e ++ x) (sym fa) ∙ sym (front-more e.at e es refl Reversed))

-- an edit behind which no other one stands at once
alone : (e : Edit) (es : List Edit) → begins_at (behind e) es ≡ false → block_of e [] [] ∷ blocks_of es ≡ front_block e.at (e ∷ es) ∷ blocks_of (front_rest e.at (e ∷ es))
alone e es away =
    ap (λ b. b ∷ blocks_of es) (front-is e es [] [] (front-stop Forward (behind e) es away) (front-stop Reversed (behind e) es away))
    ∙ ap (λ xs. front_block e.at (e ∷ es) ∷ blocks_of xs) (sym (rest-more e.at e es refl ∙ rest-stop (behind e) es away))

-- one behind which the next one stands
joins : (e f : Edit) (es : List Edit) → behind e ≡ f.at → block_of e (front Forward f.at (f ∷ es)) (front Reversed f.at (f ∷ es)) ∷ blocks_of (front_rest f.at (f ∷ es)) ≡ front_block e.at (e ∷ f ∷ es) ∷ blocks_of (front_rest e.at (e ∷ f ∷ es))
joins e f es at =
    ap (λ b. b ∷ blocks_of (front_rest f.at (f ∷ es))) (front-is e (f ∷ es) _ _ (ap (λ q. front Forward q (f ∷ es)) at) (ap (λ q. front Reversed q (f ∷ es)) at))
    ∙ ap (λ xs. front_block e.at (e ∷ f ∷ es) ∷ blocks_of xs) (sym (rest-more e.at e (f ∷ es) refl ∙ ap (λ q. front_rest q (f ∷ es)) at))

in-front : (e f : Edit) (es : List Edit) (b : Bool) → eqb (behind e) f.at ≡ b → blocks_of (f ∷ es) ≡ front_block f.at (f ∷ es) ∷ blocks_of (front_rest f.at (f ∷ es)) → in_front e (blocks_of (f ∷ es)) ≡ front_block e.at (e ∷ f ∷ es) ∷ blocks_of (front_rest e.at (e ∷ f ∷ es))
in-front e f es true is first =
    let at : behind e ≡ f.at = grind (arith, nat_tests) in
    ap (in_front e) first
    ∙ ap (λ b. cond b (block_of e (front Forward f.at (f ∷ es)) (front Reversed f.at (f ∷ es)) ∷ blocks_of (front_rest f.at (f ∷ es))) (block_of e [] [] ∷ front_block f.at (f ∷ es) ∷ blocks_of (front_rest f.at (f ∷ es)))) is
    ∙ joins e f es at
in-front e f es false is first =
    let away : begins_at (behind e) (f ∷ es) ≡ false = grind (arith, nat_tests) in
    ap (in_front e) first
    ∙ ap (λ b. cond b (block_of e (front Forward f.at (f ∷ es)) (front Reversed f.at (f ∷ es)) ∷ blocks_of (front_rest f.at (f ∷ es))) (block_of e [] [] ∷ front_block f.at (f ∷ es) ∷ blocks_of (front_rest f.at (f ∷ es)))) is
    ∙ ap (λ bs. block_of e [] [] ∷ bs) (sym first)
    ∙ alone e (f ∷ es) away

pub blocks-front : (e : Edit) (es : List Edit) → blocks_of (e ∷ es) ≡ front_block e.at (e ∷ es) ∷ blocks_of (front_rest e.at (e ∷ es))
blocks-front e [] = blocks-cons e [] ∙ ap (in_front e) blocks-none ∙ ap (λ bs. block_of e [] [] ∷ bs) (sym blocks-none) ∙ alone e [] refl
blocks-front e (f ∷ es) = blocks-cons e (f ∷ es) ∙ in-front e f es (eqb (behind e) f.at) refl (blocks-front f es)

-- ---- a block while it is walked over

-- how much of a block that was so large is still ahead: the same behind one edit more
pub record Grows (first drops adds drops2 adds2 : ℕ) (left more : List Edit) : Type 0 where
  pub dropped : drops + length (front Forward (first + drops) left) ≡ drops2 + length (front Forward (first + drops2) more)
  pub added : adds + length (front Reversed (first + drops) left) ≡ adds2 + length (front Reversed (first + drops2) more)
  pub rest : front_rest (first + drops) left ≡ front_rest (first + drops2) more
  pub counted : drops + adds + length left ≡ drops2 + adds2 + length more

module _ (first drops adds : ℕ) (left more : List Edit) (e : Edit) (is : left ≡ e ∷ more) (at : e.at ≡ first + drops) where
  grows-to : (b : Bool) → e.adds ≡ b → Grows first drops adds (drops + cond b 0 1) (adds + cond b 1 0) left more
  grows-to true adds-is =
      let here : behind e ≡ first + (drops + 0) = ap (λ b. cond b e.at (e.at + 1)) adds-is ∙ omega (arith, at) in
      record {
        dropped = omega (arith, ap length (front-next Forward (first + drops) left e more is at), ap (λ b. length (cond (is_on Forward b) (e.line ∷ []) [] ++ front Forward (behind e) more)) adds-is, ap (λ q. length (front Forward q more)) here);
        added = omega (arith, ap length (front-next Reversed (first + drops) left e more is at), ap (λ b. length (cond (is_on Reversed b) (e.line ∷ []) [] ++ front Reversed (behind e) more)) adds-is, ap (λ q. length (front Reversed q more)) here);
        rest = rest-next (first + drops) left e more is at ∙ ap (λ q. front_rest q more) here;
        counted = omega (arith, ap length is);
      }
  grows-to false adds-is =
      let here : behind e ≡ first + (drops + 1) = ap (λ b. cond b e.at (e.at + 1)) adds-is ∙ omega (arith, at) in
      record {
        dropped = omega (arith, ap length (front-next Forward (first + drops) left e more is at), ap (λ b. length (cond (is_on Forward b) (e.line ∷ []) [] ++ front Forward (behind e) more)) adds-is, ap (λ q. length (front Forward q more)) here);
        added = omega (arith, ap length (front-next Reversed (first + drops) left e more is at), ap (λ b. length (cond (is_on Reversed b) (e.line ∷ []) [] ++ front Reversed (behind e) more)) adds-is, ap (λ q. length (front Reversed q more)) here);
        rest = rest-next (first + drops) left e more is at ∙ ap (λ q. front_rest q more) here;
        counted = omega (arith, ap length is);
      }

  pub grows : Grows first drops adds (drops + cond e.adds 0 1) (adds + cond e.adds 1 0) left more
  grows = grows-to e.adds refl

-- a block of which nothing was seen yet
pub record Whole (first : ℕ) (left : List Edit) : Type 0 where
  pub dropped : length (front Forward first left) ≡ 0 + length (front Forward (first + 0) left)
  pub added : length (front Reversed first left) ≡ 0 + length (front Reversed (first + 0) left)
  pub rest : front_rest first left ≡ front_rest (first + 0) left

pub whole : (first : ℕ) (left : List Edit) → Whole first left
whole first left =
    let same : first ≡ first + 0 = omega arith in
    record {
      dropped = omega (arith, ap (λ q. length (front Forward q left)) same);
      added = omega (arith, ap (λ q. length (front Reversed q left)) same);
      rest = ap (λ q. front_rest q left) same;
    }

-- behind the last edit of a block
pub record Ended (gap : ℕ) (left : List Edit) : Type 0 where
  pub dropped : length (front Forward gap left) ≡ 0
  pub added : length (front Reversed gap left) ≡ 0
  pub rest : front_rest gap left ≡ left

pub ended : (gap : ℕ) (left : List Edit) → begins_at gap left ≡ false → Ended gap left
ended gap left away = record {
  dropped = ap length (front-stop Forward gap left away);
  added = ap length (front-stop Reversed gap left away);
  rest = rest-stop gap left away;
}

-- the blocks of what is left begin with the one of its first edit
pub blocks-next : (left : List Edit) (e : Edit) (es rest : List Edit) (q : ℕ) → left ≡ e ∷ es → q ≡ e.at → rest ≡ front_rest q left → blocks_of left ≡ front_block q left ∷ blocks_of rest
blocks-next left e es rest q is at behind-is =
    ap blocks_of is ∙ blocks-front e es
    ∙ ap (λ xs. front_block e.at xs ∷ blocks_of (front_rest e.at xs)) (sym is)
    ∙ ap (λ n. front_block n left ∷ blocks_of (front_rest n left)) (sym at)
    ∙ ap (λ xs. front_block q left ∷ blocks_of xs) (sym behind-is)

-- the first edit that is left, and the gap behind it
pub front-cut : (side : Side) (q : ℕ) (left : List Edit) (e : Edit) (es : List Edit) (next : ℕ) → left ≡ e ∷ es → e.at ≡ q → next ≡ behind e → front side q left ≡ line_on side e ++ front side next es
front-cut side q left e es next is here at = front-next side q left e es is here ∙ ap (λ n. line_on side e ++ front side n es) (sym at)

pub behind-near : (e : Edit) → behind e ≤ e.at + 1
behind-near e = by e.adds
  where
    by : (b : Bool) → cond b e.at (e.at + 1) ≤ e.at + 1
    by true = omega arith
    by false = omega arith

rest-to : (q : ℕ) (e : Edit) (es : List Edit) (b : Bool) → eqb e.at q ≡ b → length (front_rest (behind e) es) ≤ length es → length (front_rest q (e ∷ es)) ≤ length (e ∷ es)
rest-to q e es true is more = let here : e.at ≡ q = grind (arith, nat_tests) in omega (arith, ap length (rest-more q e es here), more)
rest-to q e es false is more = omega (arith, ap length (rest-stop q (e ∷ es) is))

rest-short : (q : ℕ) (es : List Edit) → length (front_rest q es) ≤ length es
rest-short q [] = omega (arith, ap length (rest-none q))
rest-short q (e ∷ es) = rest-to q e es (eqb e.at q) refl (rest-short (behind e) es)

-- a block has an edit
pub fewer : (left : List Edit) (e : Edit) (es rest : List Edit) (q : ℕ) → left ≡ e ∷ es → q ≡ e.at → rest ≡ front_rest q left → length rest < length left
fewer left e es rest q is at behind-is = omega (arith, ap length behind-is, ap length (rest-next q left e es is (sym at)), rest-short (behind e) es, ap length is)

-- there is a block where there is an edit
block-some : (left es : List Edit) (e : Edit) → left ≡ e ∷ es → true ≡ not (eqb (length (blocks_of left)) 0)
block-some left es e is = sym (ap (λ xs. not (eqb (length (blocks_of xs)) 0)) is ∙ ap (λ bs. not (eqb (length bs) 0)) (blocks-front e es) ∙ some-long (blocks_of (front_rest e.at (e ∷ es))))
  where
    some-long : (bs : List Block) → not (eqb (suc (length bs)) 0) ≡ true
    some-long bs = grind (arith, nat_tests)

pub has-block : {A : Type 0} (o : Option A) (left : List Edit) (P : A → Type 0) → ((x : A) → P x → (e : Edit) × (es : List Edit) × (left ≡ e ∷ es)) → MatchOption o (left ≡ []) P → is_some o ≡ not (eqb (length (blocks_of left)) 0)
has-block None left P some none = sym (ap (λ xs. not (eqb (length (blocks_of xs)) 0)) none ∙ ap (λ bs. not (eqb (length bs) 0)) blocks-none)
has-block (Some x) left P some found = let s = some x found in block-some left s.1 s.0 s.2

-- ---- whether edits begin in a gap

at-other : (gap : ℕ) (e : Edit) → e.at ≢ gap → eqb e.at gap ≡ false
at-other gap e away = grind (arith, nat_tests)

at-here : (gap : ℕ) (e : Edit) → e.at ≡ gap → eqb e.at gap ≡ true
at-here gap e here = grind (arith, nat_tests)

pub begins-not : (gap : ℕ) (left : List Edit) (e : Edit) (es : List Edit) → left ≡ e ∷ es → e.at ≢ gap → begins_at gap left ≡ false
begins-not gap left e es is away = ap (begins_at gap) is ∙ at-other gap e away

pub begins-some : {F : Type 0} (o : Option F) (gap : ℕ) (left : List Edit) (P : F → Type 0) → ((f : F) → P f → (e : Edit) × (es : List Edit) × (left ≡ e ∷ es) × (e.at ≡ gap)) → MatchOption o (begins_at gap left ≡ false) P → is_some o ≡ begins_at gap left
begins-some None gap left P own is = sym is
begins-some (Some f) gap left P own is = let x = own f is in sym (ap (begins_at gap) x.2 ∙ at-here gap x.0 x.3)
