-- A file with edits as one body, from a line on.
use Rattle.std.proofs.Common.{◌≡◌, ◌≢◌, ℕ, suc, ◌+◌, ◌-◌, ◌<◌, ◌≤◌, List, [], ◌∷◌, ◌++◌, length, map, Bool, true, false, eqb, refl, sym, ap, ◌∙◌, arith, append_assoc, flat_map}
use Rattle.std.proofs.lemmas.List.Concat.{flat_map-cons}
use Rattle.std.proofs.lemmas.Bool.Decides.{nat_tests}
use Rattle.line_store.specs.Store.{line_at}
use Rattle.hunk_core.specs.declared.Mark.TheVariants.{Keep, Drop}
use Rattle.hunk_core.specs.PlainHunk.{Marked}
use Rattle.hunk_place.specs.Order.{from_to}
use Rattle.hunk_apply.specs.Splice.{Edit, add, drop_line, gap, is_dropped, AreFrom}
use Rattle.hunk_apply.proofs.SpliceLemmas.{no-gap, none-dropped, from-next, from-none, flat-same, gap-other, dropped-other, gap-dropped, drop-dropped, gap-added, added-stays}
use Rattle.ifdef_out.specs.Whole.{added, file_mark, whole_row, whole_from}

abbrev pub kept : List ℕ → Marked
kept line = record { mark = Keep; line = line }

abbrev pub dropped : List ℕ → Marked
dropped line = record { mark = Drop; line = line }

-- the row of line q, and what follows
rows-next : (lines : List (List ℕ)) (es : List Edit) (q : ℕ) → q ≤ length lines → whole_from lines es q ≡ whole_row lines es q ++ whole_from lines es (q + 1)
unfolding whole_from
rows-next lines es q le =
    ap (λ ks. flat_map (whole_row lines es) ks ++ map added (gap es (length lines + 1))) (from-next q (length lines) le)
    ∙ ap (λ r. r ++ map added (gap es (length lines + 1))) (flat_map-cons (whole_row lines es) q (from_to (q + 1) (length lines)))
    ∙ append_assoc (whole_row lines es q) (flat_map (whole_row lines es) (from_to (q + 1) (length lines))) (map added (gap es (length lines + 1)))

rows-none : (lines : List (List ℕ)) (es : List Edit) (q : ℕ) → length lines < q → whole_from lines es q ≡ map added (gap es (length lines + 1))
unfolding whole_from
rows-none lines es q lt = ap (λ ks. flat_map (whole_row lines es) ks ++ map added (gap es (length lines + 1))) (from-none q (length lines) lt)

-- line k with this mark behind the lines of its gap
abbrev row_of : List (List ℕ) → ℕ → List (List ℕ) → Bool → List Marked
row_of lines k g d = let m : Marked = record { mark = file_mark d; line = line_at lines k } in map added g ++ (m ∷ [])

row-other : (lines : List (List ℕ)) (e : Edit) (es : List Edit) (k : ℕ) → eqb e.at k ≡ false → whole_row lines (e ∷ es) k ≡ whole_row lines es k
row-other lines e es k t =
    ap (λ g. row_of lines k g (is_dropped (e ∷ es) k)) (gap-other e es k t)
    ∙ ap (λ d. row_of lines k (gap es k) d) (dropped-other e es k t)

-- an edit before line q leaves what follows
rows-stay : (lines : List (List ℕ)) (e : Edit) (es : List Edit) (q : ℕ) → e.at < q → q ≤ length lines + 1 → whole_from lines (e ∷ es) q ≡ whole_from lines es q
unfolding whole_from
rows-stay lines e es q lt le =
    let t : eqb e.at (length lines + 1) ≡ false = grind (arith, nat_tests) in
    ap (λ r. r ++ map added (gap (e ∷ es) (length lines + 1))) (flat-same (whole_row lines (e ∷ es)) (whole_row lines es) q (suc (length lines) - q) (λ k low high. let u : eqb e.at k ≡ false = grind (arith, nat_tests) in row-other lines e es k u))
    ∙ ap (λ g. flat_map (whole_row lines es) (from_to q (length lines)) ++ map added g) (gap-other e es (length lines + 1) t)

-- line q is kept
pub line-kept : (lines : List (List ℕ)) (es : List Edit) (q : ℕ) → q ≤ length lines → AreFrom (q + 1) es → whole_from lines es q ≡ kept (line_at lines q) ∷ whole_from lines es (q + 1)
line-kept lines es q le h =
    rows-next lines es q le
    ∙ ap (λ g. row_of lines q g (is_dropped es q) ++ whole_from lines es (q + 1)) (no-gap es q (q + 1) h (omega arith))
    ∙ ap (λ d. row_of lines q [] d ++ whole_from lines es (q + 1)) (none-dropped es q (q + 1) h (omega arith))

-- line q is dropped
pub line-dropped : (lines : List (List ℕ)) (es : List Edit) (q : ℕ) → q ≤ length lines → AreFrom (q + 1) es → whole_from lines (drop_line q ∷ es) q ≡ dropped (line_at lines q) ∷ whole_from lines es (q + 1)
line-dropped lines es q le h =
    rows-next lines (drop_line q ∷ es) q le
    ∙ ap (λ g. row_of lines q g (is_dropped (drop_line q ∷ es) q) ++ whole_from lines (drop_line q ∷ es) (q + 1)) (gap-dropped es q ∙ no-gap es q (q + 1) h (omega arith))
    ∙ ap (λ d. row_of lines q [] d ++ whole_from lines (drop_line q ∷ es) (q + 1)) (drop-dropped es q)
    ∙ ap (λ r. dropped (line_at lines q) ∷ r) (rows-stay lines (drop_line q) es (q + 1) (omega arith) (omega arith))

added-within : (lines : List (List ℕ)) (es : List Edit) (q : ℕ) (line : List ℕ) → q ≤ length lines → whole_from lines (add q line ∷ es) q ≡ added line ∷ whole_from lines es q
added-within lines es q line le =
    rows-next lines (add q line ∷ es) q le
    ∙ ap (λ g. row_of lines q g (is_dropped (add q line ∷ es) q) ++ whole_from lines (add q line ∷ es) (q + 1)) (gap-added es q line)
    ∙ ap (λ d. row_of lines q (line ∷ gap es q) d ++ whole_from lines (add q line ∷ es) (q + 1)) (added-stays es q line)
    ∙ ap (λ r. added line ∷ (whole_row lines es q ++ r)) (rows-stay lines (add q line) es (q + 1) (omega arith) (omega arith))
    ∙ ap (λ r. added line ∷ r) (sym (rows-next lines es q le))

added-last : (lines : List (List ℕ)) (es : List Edit) (q : ℕ) (line : List ℕ) → q ≡ length lines + 1 → whole_from lines (add q line ∷ es) q ≡ added line ∷ whole_from lines es q
added-last lines es q line e =
    rows-none lines (add q line ∷ es) q (omega arith) ∙ ap (λ k. map added (gap (add q line ∷ es) k)) (sym e) ∙ ap (map added) (gap-added es q line)
    ∙ ap (λ k. added line ∷ map added (gap es k)) e ∙ ap (λ r. added line ∷ r) (sym (rows-none lines es q (omega arith)))

-- a line is added before line q
pub line-added : (lines : List (List ℕ)) (es : List Edit) (q : ℕ) (line : List ℕ) → q ≤ length lines + 1 → whole_from lines (add q line ∷ es) q ≡ added line ∷ whole_from lines es q
line-added lines es q line le = by (eqb q (length lines + 1)) refl
  where
    by : (b : Bool) → eqb q (length lines + 1) ≡ b → whole_from lines (add q line ∷ es) q ≡ added line ∷ whole_from lines es q
    by true e = added-last lines es q line (grind (arith, nat_tests))
    by false e = added-within lines es q line (let ne : q ≢ length lines + 1 = grind (arith, nat_tests) in omega arith)

-- behind the last line nothing is left
pub none-left : (lines : List (List ℕ)) (es : List Edit) (q : ℕ) → length lines < q → AreFrom (q + 1) es → whole_from lines es q ≡ []
none-left lines es q lt from = rows-none lines es q lt ∙ ap (map added) (no-gap es (length lines + 1) (q + 1) from (omega arith))

pub nothing-left : (lines : List (List ℕ)) → whole_from lines [] (length lines + 1) ≡ []
nothing-left lines = none-left lines [] (length lines + 1) (omega arith) tt
