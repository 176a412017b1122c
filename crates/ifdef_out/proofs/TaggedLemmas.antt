-- A body, tagged line by line.
use Rattle.std.proofs.Common.{◌≡◌, ◌⊎◌, inl, inr, ℕ, zero, suc, ◌+◌, ◌-◌, ◌<◌, ◌≤◌, ◌||◌, List, [], ◌∷◌, ◌++◌, length, map, true, false, refl, sym, ap, subst, ◌∙◌, arith, append_assoc}
use Rattle.std.proofs.lemmas.List.{append-nil, map-append}
use Rattle.std.proofs.lemmas.Bool.{cases_lt}
use Rattle.line_store.specs.Store.{line_at}
use Rattle.hunk_core.specs.PlainHunk.{Marked}
use Rattle.hunk_apply.specs.Splice.{Edit, AreFrom}
use Rattle.hunk_apply.specs.Written.{lines_between}
use Rattle.hunk_apply.proofs.CopyLemmas.{none-between, more-between, meet-between}
use Rattle.hunk_apply.proofs.SpliceLemmas.{sooner}
use Rattle.ifdef_out.specs.Whole.{added, whole_from}
use Rattle.ifdef_out.specs.Tagged.{Tag, Both, Old, New, Marking, Tagged, as_tag, block, closed, else_line, else_mark, endif_line, ifndef_line, opening, tagged_behind, texts}
use Rattle.ifdef_out.specs.Chain.{is_some_line}
use Rattle.ifdef_out.proofs.WholeLemmas.{kept, dropped, line-kept, none-left}

-- a range at one of its lines
pub split-at : (lines : List (List ℕ)) (from q to : ℕ) (more : List (List ℕ)) → 1 ≤ from → from ≤ q → q < to → to ≤ length lines + 1
    → lines_between lines from q ++ (line_at lines q ∷ (lines_between lines (q + 1) to ++ more)) ≡ lines_between lines from to ++ more
split-at lines from q to more low order lt high =
    more-between lines from q (lines_between lines (q + 1) to ++ more) low order (omega arith)
    ∙ meet-between lines from (q + 1) to more (omega arith) (omega arith)

pub tagged-none : (name : List ℕ) (ds ns : List (List ℕ)) → tagged_behind name ds ns [] ≡ block name ds ns
unfolding tagged_behind
tagged-none name ds ns = refl

pub tagged-kept : (name : List ℕ) (ds ns : List (List ℕ)) (line : List ℕ) (ms : List Marked) → tagged_behind name ds ns (kept line ∷ ms) ≡ block name ds ns ++ (as_tag Both line ∷ tagged_behind name [] [] ms)
unfolding tagged_behind
tagged-kept name ds ns line ms = refl

pub tagged-dropped : (name : List ℕ) (ds ns : List (List ℕ)) (line : List ℕ) (ms : List Marked) → tagged_behind name ds ns (dropped line ∷ ms) ≡ tagged_behind name (ds ++ line ∷ []) ns ms
unfolding tagged_behind
tagged-dropped name ds ns line ms = refl

pub tagged-added : (name : List ℕ) (ds ns : List (List ℕ)) (line : List ℕ) (ms : List Marked) → tagged_behind name ds ns (added line ∷ ms) ≡ tagged_behind name ds (ns ++ line ∷ []) ms
unfolding tagged_behind
tagged-added name ds ns line ms = refl

-- a block ends in front of a kept line, and at the end
pub closes : (name : List ℕ) (ds ns : List (List ℕ)) (lines : List (List ℕ)) (es : List Edit) (q : ℕ) → AreFrom (q + 1) es → q ≤ length lines + 1
    → tagged_behind name ds ns (whole_from lines es q) ≡ block name ds ns ++ tagged_behind name [] [] (whole_from lines es q)
closes name ds ns lines es q from le = by (cases_lt (length lines) q)
  where
    by : (length lines < q) ⊎ (q ≤ length lines) → tagged_behind name ds ns (whole_from lines es q) ≡ block name ds ns ++ tagged_behind name [] [] (whole_from lines es q)
    by (inl lt) =
        let none : whole_from lines es q ≡ [] = none-left lines es q lt from in
        ap (tagged_behind name ds ns) none ∙ tagged-none name ds ns ∙ sym (append-nil (block name ds ns))
        ∙ ap (λ r. block name ds ns ++ r) (sym (tagged-none name [] []))
        ∙ ap (λ ms. block name ds ns ++ tagged_behind name [] [] ms) (sym none)
    by (inr within) =
        let here : whole_from lines es q ≡ kept (line_at lines q) ∷ whole_from lines es (q + 1) = line-kept lines es q within from in
        ap (tagged_behind name ds ns) here ∙ tagged-kept name ds ns (line_at lines q) (whole_from lines es (q + 1))
        ∙ ap (λ r. block name ds ns ++ r) (sym (tagged-kept name [] [] (line_at lines q) (whole_from lines es (q + 1))))
        ∙ ap (λ ms. block name ds ns ++ tagged_behind name [] [] ms) (sym here)

pub texts-append : (ts us : List Tagged) → texts (ts ++ us) ≡ texts ts ++ texts us
texts-append ts us = map-append (λ t. t.line) ts us

pub texts-ns : (tag : Tag) (ls : List (List ℕ)) → texts (map (as_tag tag) ls) ≡ ls
texts-ns tag [] = refl
texts-ns tag (l ∷ ls) = ap (λ r. l ∷ r) (texts-ns tag ls)

-- a block with a line
pub is-closed : (name : List ℕ) (ds ns : List (List ℕ)) → (is_some_line ds || is_some_line ns) ≡ true → block name ds ns ≡ closed name ds ns
is-closed name [] [] some = cc
is-closed name [] (a ∷ ns) some = refl
is-closed name (d ∷ ds) ns some = refl

-- the lines from line q on
abbrev pub rest_of : List ℕ → List (List ℕ) → List Edit → ℕ → List (List ℕ)
rest_of name lines es q = texts (tagged_behind name [] [] (whole_from lines es q))

kept-on : (name : List ℕ) (lines : List (List ℕ)) (es : List Edit) (from n : ℕ) → 1 ≤ from → from + n ≤ length lines + 1 → AreFrom (from + n) es
    → rest_of name lines es from ≡ lines_between lines from (from + n) ++ rest_of name lines es (from + n)
kept-on name lines es from zero low high h =
    let z : from + 0 ≡ from = omega arith in
    sym (none-between lines from (rest_of name lines es from)) ∙ ap (λ k. lines_between lines from k ++ rest_of name lines es k) (sym z)
kept-on name lines es from (suc n) low high h =
    let next : (from + 1) + n ≡ from + suc n = omega arith in
    let later : AreFrom ((from + 1) + n) es = subst (λ k. AreFrom k es) (sym next) h in
    let behind : AreFrom (from + 1) es = sooner (from + 1) ((from + 1) + n) es (omega arith) later in
    ap (λ ms. texts (tagged_behind name [] [] ms)) (line-kept lines es from (omega arith) behind)
    ∙ ap texts (tagged-kept name [] [] (line_at lines from) (whole_from lines es (from + 1)))
    ∙ ap (λ r. line_at lines from ∷ r) (kept-on name lines es (from + 1) n (omega arith) (omega arith) later)
    ∙ sym (none-between lines from (line_at lines from ∷ (lines_between lines (from + 1) ((from + 1) + n) ++ rest_of name lines es ((from + 1) + n))))
    ∙ split-at lines from from ((from + 1) + n) (rest_of name lines es ((from + 1) + n)) low (omega arith) (omega arith) (omega arith)
    ∙ ap (λ k. lines_between lines from k ++ rest_of name lines es k) next

pub kept-to : (name : List ℕ) (lines : List (List ℕ)) (es : List Edit) (from to : ℕ) → 1 ≤ from → from ≤ to → to ≤ length lines + 1 → AreFrom to es
    → texts (tagged_behind name [] [] (whole_from lines es from)) ≡ lines_between lines from to ++ texts (tagged_behind name [] [] (whole_from lines es to))
kept-to name lines es from to low order high h =
    let e : from + (to - from) ≡ to = omega arith in
    kept-on name lines es from (to - from) low (omega arith) (subst (λ k. AreFrom k es) (sym e) h)
    ∙ ap (λ k. lines_between lines from k ++ rest_of name lines es k) e

-- in front of added lines
pub else-one : (ns : List (List ℕ)) → is_some_line ns ≡ true → texts (else_mark ns) ≡ else_line ∷ []
else-one [] some = cc
else-one (a ∷ ns) some = refl

pub else-none : (ns : List (List ℕ)) → is_some_line ns ≡ false → texts (else_mark ns) ≡ []
else-none [] none = refl
else-none (a ∷ ns) none = cc

pub opening-some : (name : List ℕ) (ds ns more : List (List ℕ)) → is_some_line ds ≡ true → texts (opening name ds ns) ++ more ≡ ifndef_line name ∷ (ds ++ (texts (else_mark ns) ++ more))
opening-some name [] ns more some = cc
opening-some name (d ∷ ds) ns more some =
    ap (λ ls. (ifndef_line name ∷ ls) ++ more) (texts-append (map (as_tag Old) (d ∷ ds)) (else_mark ns) ∙ ap (λ ls. ls ++ texts (else_mark ns)) (texts-ns Old (d ∷ ds)))
    ∙ ap (λ ls. ifndef_line name ∷ ls) (append_assoc (d ∷ ds) (texts (else_mark ns)) more)

-- a block in front of other lines
pub closed-split : (name : List ℕ) (ds ns more : List (List ℕ)) → texts (closed name ds ns) ++ more ≡ texts (opening name ds ns) ++ (ns ++ (endif_line ∷ more))
closed-split name ds ns more =
    ap (λ ls. ls ++ more) (texts-append (opening name ds ns) (map (as_tag New) ns ++ as_tag Marking endif_line ∷ []))
    ∙ append_assoc (texts (opening name ds ns)) (texts (map (as_tag New) ns ++ as_tag Marking endif_line ∷ [])) more
    ∙ ap (λ ls. texts (opening name ds ns) ++ (ls ++ more)) (texts-append (map (as_tag New) ns) (as_tag Marking endif_line ∷ []) ∙ ap (λ ls. ls ++ endif_line ∷ []) (texts-ns New ns))
    ∙ ap (λ ls. texts (opening name ds ns) ++ ls) (append_assoc ns (endif_line ∷ []) more)
