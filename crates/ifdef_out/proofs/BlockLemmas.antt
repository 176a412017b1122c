-- One block of edits in their order, and what follows it.
use Rattle.std.proofs.Common.{◌≡◌, ◌≢◌, ◌⊎◌, inl, inr, ℕ, ◌+◌, ◌<◌, ◌≤◌, ◌||◌, List, [], ◌∷◌, ◌++◌, length, Bool, true, false, eqb, refl, sym, ap, subst, ◌∙◌, arith, append_assoc, Option, Some, None}
use Rattle.std.proofs.lemmas.List.{append-nil}
use Rattle.std.proofs.lemmas.Bool.Decides.{nat_tests}
use Rattle.std.proofs.Math.Bool.{or-true}
use Rattle.line_store.specs.Store.{line_at}
use Rattle.hunk_apply.specs.Splice.{Edit, add, drop_line, AreFrom}
use Rattle.hunk_apply.specs.Written.{lines_between}
use Rattle.hunk_apply.proofs.CopyLemmas.{none-between}
use Rattle.hunk_apply.proofs.SpliceLemmas.{sooner}
use Rattle.ifdef_out.specs.Whole.{whole_from}
use Rattle.ifdef_out.specs.Tagged.{closed, tagged_behind, texts}
use Rattle.ifdef_out.specs.Chain.{next_gap, last_at, block_end, block_added, behind_block, is_some_line, AreInOrder}
use Rattle.ifdef_out.proofs.WholeLemmas.{line-dropped, line-added}
use Rattle.ifdef_out.proofs.ChainLemmas.{end-none, added-none, behind-none, end-more, added-more, behind-more, end-stop, added-stop, behind-stop}
use Rattle.ifdef_out.proofs.TaggedLemmas.{tagged-dropped, tagged-added, closes, texts-append, is-closed, kept-to, split-at}

step-on : (q : ℕ) (added : Option (List ℕ)) → q ≤ next_gap q added
step-on q None = omega arith
step-on q (Some line) = omega arith

step-within : (n q : ℕ) (added : Option (List ℕ)) → q ≤ last_at n added → next_gap q added ≤ n + 1
step-within n q None le = omega arith
step-within n q (Some line) le = le

pub order-from : (n q : ℕ) (es : List Edit) → AreInOrder n q es → AreFrom q es
order-from n q [] h = tt
order-from n q (e ∷ es) h =
    let le : q ≤ e.at = h.0 in
    let on : e.at ≤ next_gap e.at e.added = step-on e.at e.added in
    (le, sooner q (next_gap e.at e.added) es (omega arith) (order-from n (next_gap e.at e.added) es h.2))

-- what holds of the block that edits in their order begin with
pub record Cut (n q : ℕ) (es : List Edit) : Type 0 where
  pub on : q ≤ block_end q es
  pub within : block_end q es ≤ n + 1
  pub apart : AreFrom (block_end q es + 1) (behind_block q es)
  pub order : AreInOrder n (block_end q es) (behind_block q es)
  pub fewer : length (behind_block q es) ≤ length es

is_here : (e : Edit) (q : ℕ) → (e.at ≡ q) ⊎ (e.at ≢ q)
is_here e q = by (eqb e.at q) refl
  where
    by : (b : Bool) → eqb e.at q ≡ b → (e.at ≡ q) ⊎ (e.at ≢ q)
    by true t = inl (grind (arith, nat_tests))
    by false t = inr (grind (arith, nat_tests))

pub cut : (n q : ℕ) (es : List Edit) → q ≤ n + 1 → AreInOrder n q es → Cut n q es
cut n q [] le h = record {
  on = omega (arith, end-none q);
  within = omega (arith, end-none q);
  apart = subst (AreFrom (block_end q [] + 1)) (sym (behind-none q)) tt;
  order = subst (AreInOrder n (block_end q [])) (sym (behind-none q)) tt;
  fewer = omega (arith, ap length (behind-none q));
}
cut n q (e ∷ es) le h = by (is_here e q) (λ here. cut n (next_gap q e.added) es (step-within n q e.added (subst (λ k. k ≤ last_at n e.added) here h.1)) (subst (λ k. AreInOrder n (next_gap k e.added) es) here h.2))
  where
    by : (e.at ≡ q) ⊎ (e.at ≢ q) → (e.at ≡ q → Cut n (next_gap q e.added) es) → Cut n q (e ∷ es)
    by (inl here) more =
        let c : Cut n (next_gap q e.added) es = more here in
        let end : block_end q (e ∷ es) ≡ block_end (next_gap q e.added) es = end-more q e es here in
        let behind : behind_block q (e ∷ es) ≡ behind_block (next_gap q e.added) es = behind-more q e es here in
        record {
          on = omega (arith, end, c.on, step-on q e.added);
          within = omega (arith, end, c.within);
          apart = subst (λ xs. AreFrom (block_end q (e ∷ es) + 1) xs) (sym behind) (subst (λ k. AreFrom (k + 1) (behind_block (next_gap q e.added) es)) (sym end) c.apart);
          order = subst (λ xs. AreInOrder n (block_end q (e ∷ es)) xs) (sym behind) (subst (λ k. AreInOrder n k (behind_block (next_gap q e.added) es)) (sym end) c.order);
          fewer = omega (arith, ap length behind, c.fewer);
        }
    by (inr away) more =
        let low : q ≤ e.at = h.0 in
        let end : block_end q (e ∷ es) ≡ q = end-stop q e es away in
        let behind : behind_block q (e ∷ es) ≡ e ∷ es = behind-stop q e es away in
        let next : q + 1 ≤ e.at = omega arith in
        let from : AreFrom (q + 1) (e ∷ es) = order-from n (q + 1) (e ∷ es) (next, h.1, h.2) in
        record {
          on = omega (arith, end);
          within = omega (arith, end);
          apart = subst (λ xs. AreFrom (block_end q (e ∷ es) + 1) xs) (sym behind) (subst (λ k. AreFrom (k + 1) (e ∷ es)) (sym end) from);
          order = subst (λ xs. AreInOrder n (block_end q (e ∷ es)) xs) (sym behind) (subst (λ k. AreInOrder n k (e ∷ es)) (sym end) h);
          fewer = omega (arith, ap length behind);
        }

-- the lines of the block are gathered behind those of one that isn't closed
abbrev Gathers : List ℕ → List (List ℕ) → List (List ℕ) → List (List ℕ) → List Edit → ℕ → Type 0
Gathers name lines ds ns es q = tagged_behind name ds ns (whole_from lines es q) ≡ tagged_behind name (ds ++ lines_between lines q (block_end q es)) (ns ++ block_added q es) (whole_from lines (behind_block q es) (block_end q es))

pub no-lines : (lines : List (List ℕ)) (q : ℕ) → lines_between lines q q ≡ []
no-lines lines q = sym (append-nil (lines_between lines q q)) ∙ none-between lines q []

next-between : (lines : List (List ℕ)) (q to : ℕ) → 1 ≤ q → q < to → to ≤ length lines + 1 → line_at lines q ∷ lines_between lines (q + 1) to ≡ lines_between lines q to
next-between lines q to low lt high =
    ap (λ r. line_at lines q ∷ r) (sym (append-nil (lines_between lines (q + 1) to)))
    ∙ sym (none-between lines q (line_at lines q ∷ (lines_between lines (q + 1) to ++ [])))
    ∙ split-at lines q q to [] low (omega arith) lt high
    ∙ append-nil (lines_between lines q to)

-- without an edit of the block
gathers-none : (name : List ℕ) (lines ds ns : List (List ℕ)) (es : List Edit) (q : ℕ) → block_end q es ≡ q → block_added q es ≡ [] → behind_block q es ≡ es → Gathers name lines ds ns es q
gathers-none name lines ds ns es q end none behind =
    sym (ap (λ k. tagged_behind name (ds ++ lines_between lines q k) (ns ++ block_added q es) (whole_from lines (behind_block q es) k)) end
    ∙ ap (λ ls. tagged_behind name (ds ++ ls) (ns ++ block_added q es) (whole_from lines (behind_block q es) q)) (no-lines lines q)
    ∙ ap (λ ls. tagged_behind name ls (ns ++ block_added q es) (whole_from lines (behind_block q es) q)) (append-nil ds)
    ∙ ap (λ ls. tagged_behind name ds (ns ++ ls) (whole_from lines (behind_block q es) q)) none
    ∙ ap (λ ls. tagged_behind name ds ls (whole_from lines (behind_block q es) q)) (append-nil ns)
    ∙ ap (λ xs. tagged_behind name ds ns (whole_from lines xs q)) behind)

gathers-drop : (name : List ℕ) (lines ds ns : List (List ℕ)) (es : List Edit) (q : ℕ) → 1 ≤ q → q ≤ length lines → AreInOrder (length lines) (q + 1) es → Gathers name lines (ds ++ line_at lines q ∷ []) ns es (q + 1) → Gathers name lines ds ns (drop_line q ∷ es) q
gathers-drop name lines ds ns es q low le h more =
    let to : ℕ = block_end (q + 1) es in
    let c : Cut (length lines) (q + 1) es = cut (length lines) (q + 1) es (omega arith) h in
    let on : q + 1 ≤ block_end (q + 1) es = c.on in
    ap (tagged_behind name ds ns) (line-dropped lines es q le (order-from (length lines) (q + 1) es h))
    ∙ tagged-dropped name ds ns (line_at lines q) (whole_from lines es (q + 1))
    ∙ more
    ∙ ap (λ ls. tagged_behind name ls (ns ++ block_added (q + 1) es) (whole_from lines (behind_block (q + 1) es) to))
    (append_assoc ds (line_at lines q ∷ []) (lines_between lines (q + 1) to) ∙ ap (λ r. ds ++ r) (next-between lines q to low (omega arith) c.within))
    ∙ sym (ap (λ k. tagged_behind name (ds ++ lines_between lines q k) (ns ++ block_added q (drop_line q ∷ es)) (whole_from lines (behind_block q (drop_line q ∷ es)) k)) (end-more q (drop_line q) es refl)
    ∙ ap (λ ls. tagged_behind name (ds ++ lines_between lines q to) (ns ++ ls) (whole_from lines (behind_block q (drop_line q ∷ es)) to)) (added-more q (drop_line q) es refl)
    ∙ ap (λ xs. tagged_behind name (ds ++ lines_between lines q to) (ns ++ block_added (q + 1) es) (whole_from lines xs to)) (behind-more q (drop_line q) es refl))

gathers-add : (name : List ℕ) (lines ds ns : List (List ℕ)) (es : List Edit) (q : ℕ) (line : List ℕ) → q ≤ length lines + 1 → Gathers name lines ds (ns ++ line ∷ []) es q → Gathers name lines ds ns (add q line ∷ es) q
gathers-add name lines ds ns es q line le more =
    let to : ℕ = block_end q es in
    ap (tagged_behind name ds ns) (line-added lines es q line le)
    ∙ tagged-added name ds ns line (whole_from lines es q)
    ∙ more
    ∙ ap (λ ls. tagged_behind name (ds ++ lines_between lines q to) ls (whole_from lines (behind_block q es) to)) (append_assoc ns (line ∷ []) (block_added q es))
    ∙ sym (ap (λ k. tagged_behind name (ds ++ lines_between lines q k) (ns ++ block_added q (add q line ∷ es)) (whole_from lines (behind_block q (add q line ∷ es)) k)) (end-more q (add q line) es refl)
    ∙ ap (λ ls. tagged_behind name (ds ++ lines_between lines q to) (ns ++ ls) (whole_from lines (behind_block q (add q line ∷ es)) to)) (added-more q (add q line) es refl)
    ∙ ap (λ xs. tagged_behind name (ds ++ lines_between lines q to) (ns ++ (line ∷ block_added q es)) (whole_from lines xs to)) (behind-more q (add q line) es refl))

abbrev edit_of : ℕ → Option (List ℕ) → Edit
edit_of at o = record { at = at; added = o }

gathers : (name : List ℕ) (lines ds ns : List (List ℕ)) (es : List Edit) (q : ℕ) → 1 ≤ q → q ≤ length lines + 1 → AreInOrder (length lines) q es → Gathers name lines ds ns es q
gathers name lines ds ns [] q low le h = gathers-none name lines ds ns [] q (end-none q) (added-none q) (behind-none q)
gathers name lines ds ns (e ∷ es) q low le h =
    by (is_here e q) e.added h.1 h.2
    (λ k ls. gathers name lines (ds ++ ls) ns es (q + 1) (omega arith) k)
    (λ line. gathers name lines ds (ns ++ line ∷ []) es q low le)
  where
    by : (e.at ≡ q) ⊎ (e.at ≢ q) → (o : Option (List ℕ)) → e.at ≤ last_at (length lines) o → AreInOrder (length lines) (next_gap e.at o) es
        → (q + 1 ≤ length lines + 1 → (ls : List (List ℕ)) → AreInOrder (length lines) (q + 1) es → Gathers name lines (ds ++ ls) ns es (q + 1))
        → ((line : List ℕ) → AreInOrder (length lines) q es → Gathers name lines ds (ns ++ line ∷ []) es q)
        → Gathers name lines ds ns (edit_of e.at o ∷ es) q
    by (inr away) o within later dropped added = gathers-none name lines ds ns (edit_of e.at o ∷ es) q (end-stop q (edit_of e.at o) es away) (added-stop q (edit_of e.at o) es away) (behind-stop q (edit_of e.at o) es away)
    by (inl here) None within later dropped added =
        let le : q ≤ length lines = omega arith in
        let next : AreInOrder (length lines) (q + 1) es = subst (λ k. AreInOrder (length lines) (k + 1) es) here later in
        subst (λ k. Gathers name lines ds ns (edit_of k None ∷ es) q) (sym here) (gathers-drop name lines ds ns es q low le next (dropped (omega arith) (line_at lines q ∷ []) next))
    by (inl here) (Some line) within later dropped added =
        let next : AreInOrder (length lines) q es = subst (λ k. AreInOrder (length lines) k es) here later in
        subst (λ k. Gathers name lines ds ns (edit_of k (Some line) ∷ es) q) (sym here) (gathers-add name lines ds ns es q line le (added line next))

-- a block that begins with an edit has a line
pub some-between : (lines : List (List ℕ)) (q to : ℕ) → 1 ≤ q → q < to → to ≤ length lines + 1 → is_some_line (lines_between lines q to) ≡ true
some-between lines q to low lt high = ap is_some_line (sym (next-between lines q to low lt high))

has-line : (lines : List (List ℕ)) (e : Edit) (es : List Edit) → 1 ≤ e.at → AreInOrder (length lines) e.at (e ∷ es) → (is_some_line (lines_between lines e.at (block_end e.at (e ∷ es))) || is_some_line (block_added e.at (e ∷ es))) ≡ true
has-line lines e es low h = by e.added h.1 h.2
  where
    by : (o : Option (List ℕ)) → e.at ≤ last_at (length lines) o → AreInOrder (length lines) (next_gap e.at o) es → (is_some_line (lines_between lines e.at (block_end e.at (edit_of e.at o ∷ es))) || is_some_line (block_added e.at (edit_of e.at o ∷ es))) ≡ true
    by None within later =
        let c : Cut (length lines) (e.at + 1) es = cut (length lines) (e.at + 1) es (omega arith) later in
        let end : block_end e.at (drop_line e.at ∷ es) ≡ block_end (e.at + 1) es = end-more e.at (drop_line e.at) es refl in
        let on : e.at + 1 ≤ block_end (e.at + 1) es = c.on in
        let high : block_end (e.at + 1) es ≤ length lines + 1 = c.within in
        ap (λ b. b || is_some_line (block_added e.at (drop_line e.at ∷ es))) (some-between lines e.at (block_end e.at (drop_line e.at ∷ es)) low (omega arith) (omega arith))
    by (Some line) within later =
        ap (λ ls. is_some_line (lines_between lines e.at (block_end e.at (add e.at line ∷ es))) || is_some_line ls) (added-more e.at (add e.at line) es refl)
        ∙ or-true (is_some_line (lines_between lines e.at (block_end e.at (add e.at line ∷ es))))

-- from line q on: the lines in front of the next block, the block, and what follows it
pub next-block : (name : List ℕ) (lines : List (List ℕ)) (e : Edit) (es : List Edit) (q : ℕ) → 1 ≤ q → AreInOrder (length lines) q (e ∷ es)
    → texts (tagged_behind name [] [] (whole_from lines (e ∷ es) q))
    ≡ lines_between lines q e.at ++ (texts (closed name (lines_between lines e.at (block_end e.at (e ∷ es))) (block_added e.at (e ∷ es))) ++ texts (tagged_behind name [] [] (whole_from lines (behind_block e.at (e ∷ es)) (block_end e.at (e ∷ es)))))
next-block name lines e es q low h =
    let le : q ≤ e.at = h.0 in
    let here : AreInOrder (length lines) e.at (e ∷ es) = (omega arith, h.1, h.2) in
    let high : e.at ≤ length lines + 1 = at-most e.added h.1 in
    let c : Cut (length lines) e.at (e ∷ es) = cut (length lines) e.at (e ∷ es) high here in
    let end : ℕ = block_end e.at (e ∷ es) in
    let ds : List (List ℕ) = lines_between lines e.at end in
    let ns : List (List ℕ) = block_added e.at (e ∷ es) in
    let rest : List Edit = behind_block e.at (e ∷ es) in
    kept-to name lines (e ∷ es) q e.at low le high (order-from (length lines) e.at (e ∷ es) here)
    ∙ ap (λ r. lines_between lines q e.at ++ texts r) (gathers name lines [] [] (e ∷ es) e.at (omega arith) high here)
    ∙ ap (λ r. lines_between lines q e.at ++ texts r) (closes name ds ns lines rest end c.apart c.within)
    ∙ ap (λ b. lines_between lines q e.at ++ texts (b ++ tagged_behind name [] [] (whole_from lines rest end))) (is-closed name ds ns (has-line lines e es (omega arith) here))
    ∙ ap (λ r. lines_between lines q e.at ++ r) (texts-append (closed name ds ns) (tagged_behind name [] [] (whole_from lines rest end)))
  where
    at-most : (o : Option (List ℕ)) → e.at ≤ last_at (length lines) o → e.at ≤ length lines + 1
    at-most None w = omega arith
    at-most (Some line) w = w

-- the next edit with its block, as the walk meets them
pub record Ahead (name : List ℕ) (lines : List (List ℕ)) (left : List Edit) (q : ℕ) (e : Edit) : Type 0 where
  pub behind : q ≤ e.at
  pub low : 1 ≤ e.at
  pub high : e.at ≤ length lines + 1
  pub cut : Cut (length lines) e.at left
  pub is : texts (tagged_behind name [] [] (whole_from lines left q))
      ≡ lines_between lines q e.at ++ (texts (closed name (lines_between lines e.at (block_end e.at left)) (block_added e.at left)) ++ texts (tagged_behind name [] [] (whole_from lines (behind_block e.at left) (block_end e.at left))))

pub ahead : (name : List ℕ) (lines : List (List ℕ)) (left : List Edit) (q : ℕ) (e : Edit) (es : List Edit) → left ≡ e ∷ es → 1 ≤ q → AreInOrder (length lines) q left → Ahead name lines left q e
ahead name lines left q e es is low h = subst (λ xs. Ahead name lines xs q e) (sym is) (here (subst (AreInOrder (length lines) q) is h))
  where
    at-most : (o : Option (List ℕ)) → e.at ≤ last_at (length lines) o → e.at ≤ length lines + 1
    at-most None w = omega arith
    at-most (Some line) w = w

    here : AreInOrder (length lines) q (e ∷ es) → Ahead name lines (e ∷ es) q e
    here k =
        let le : q ≤ e.at = k.0 in
        record {
          behind = le;
          low = omega arith;
          high = at-most e.added k.1;
          cut = cut (length lines) e.at (e ∷ es) (at-most e.added k.1) (omega arith, k.1, k.2);
          is = next-block name lines e es q low k;
        }

-- a block doesn't end in front of its first line
pub grows : (q : ℕ) (es : List Edit) → q ≤ block_end q es
grows q [] = omega (arith, end-none q)
grows q (e ∷ es) = by (is_here e q) (grows (next_gap q e.added) es)
  where
    by : (e.at ≡ q) ⊎ (e.at ≢ q) → next_gap q e.added ≤ block_end (next_gap q e.added) es → q ≤ block_end q (e ∷ es)
    by (inl here) more = omega (arith, end-more q e es here, more, step-on q e.added)
    by (inr away) more = omega (arith, end-stop q e es away)
