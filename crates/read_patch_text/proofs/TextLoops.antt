-- Reading one file patch after the other, as a loop does.
use Rattle.std.proofs.Common.{◌≡◌, ℕ, zero, suc, ◌+◌, ◌<◌, ◌≤◌, List, [], ◌∷◌, ◌++◌, length, drop, None, Some, Result, Ok, Err, refl, sym, ap, ◌∙◌, arith, append_assoc, length-drop}
use Rattle.std.specs.Prelude.{sum_by}
use Rattle.std.proofs.lemmas.List.{append-nil}
use Rattle.std.proofs.lemmas.List.Sums.{sum_by-cons, sum_by_push}
use Rattle.line_list.specs.Lines.{lines}
use Rattle.line_list.proofs.LineLemmas.{lines-end}
use Rattle.hunk_core.specs.declared.fault.FormFault.{FormFault}
use Rattle.hunk_core.specs.declared.fault.FormFault.TheVariants as errors
use Rattle.hunk_core.specs.Reading.{◌>>=◌, Fault, Fails, ahead}
use Rattle.patch_header.specs.declared.read_options.ReadOptions.{ReadOptions}
use Rattle.patch_header.specs.Steps.{IsFirstOpening, first_stop}
use Rattle.read_file_patch.specs.declared.FilePatch.{FilePatch}
use Rattle.read_file_patch.specs.PlainPatch.{PlainPatch, row_count}
use Rattle.patch_header.proofs.StepLemmas.{stop-nowhere}
use Rattle.read_patch_text.specs.Patches.{place_before, next_patch, and_later, patches_at, patches_of}
use Rattle.read_patch_text.specs.Spans.{IsPatch, LieInTurn}
use Rattle.read_patch_text.proofs.ChangeLemmas.{lines-sum}

-- ---- places

pub place-back : (text : List ℕ) (at : ℕ) → at ≤ length text → place_before text (lines (drop at text)) ≡ at
place-back text at high = omega (arith, high, lines-sum (drop at text), length-drop at text)

-- nothing comes at the end of the text
pub next-end : (ways : ReadOptions) (text : List ℕ) (at number : ℕ) → at ≡ length text → next_patch ways text at number ≡ Ok None
next-end ways text at number e =
    let none : first_stop ways (lines (drop at text)) ≡ None = ap (first_stop ways) (lines-end text at e) ∙ stop-nowhere ways in
    rw none refl

-- ---- the loop

-- these file patches were read, and what is left gives the whole
pub record PatchesSoFar (ways : ReadOptions) (text : List ℕ) (front : List PlainPatch) (at number : ℕ) : Type 0 where
  pub most : ℕ
  pub enough : length text ≤ at + most
  pub same : (patches_at most ways text at number >>= λ others. Ok (front ++ others)) ≡ patches_of ways text

front-none : (read : Result (List PlainPatch) Fault) → (read >>= λ others. Ok ([] ++ others)) ≡ read
front-none (Ok x) = refl
front-none (Err f) = refl

pub patches_begin : (ways : ReadOptions) (text : List ℕ) → PatchesSoFar ways text [] 0 1
patches_begin ways text = record { most = length text; enough = omega arith; same = front-none (patches_of ways text) }

pub patches-step : (most : ℕ) (ways : ReadOptions) (text : List ℕ) (at number : ℕ) → patches_at (suc most) ways text at number ≡ (next_patch ways text at number >>= and_later (λ p. patches_at most ways text (place_before text p.rest) p.number))
unfolding patches_at
patches-step most ways text at number = refl

pub patches-zero : (ways : ReadOptions) (text : List ℕ) (at number : ℕ) → patches_at zero ways text at number ≡ Ok []
unfolding patches_at
patches-zero ways text at number = refl

regroup : (front : List PlainPatch) (n : PlainPatch) (read : Result (List PlainPatch) Fault) → ((read >>= λ others. Ok (n ∷ others)) >>= λ others. Ok (front ++ others)) ≡ (read >>= λ others. Ok ((front ++ n ∷ []) ++ others))
regroup front n (Ok x) = ap Ok (sym (append_assoc front (n ∷ []) x))
regroup front n (Err f) = refl

-- where something comes next, the text goes on
more : (ways : ReadOptions) (text : List ℕ) (at number : ℕ) (so_far : ℕ) → length text ≤ at + so_far → at ≤ length text → ((at ≡ length text) → ⊥) → (k : ℕ) × (so_far ≡ suc k)
more ways text at number zero enough high not_end = absurd (not_end (omega (arith, enough, high)))
more ways text at number (suc k) enough high not_end = (k, refl)

pub patches_go_on : (ways : ReadOptions) (text : List ℕ) (front : List PlainPatch) (at number end next : ℕ) (p : PlainPatch) → at < end → end ≤ length text → next_patch ways text at number ≡ Ok (Some (p, ahead next (lines (drop end text))))
    → PatchesSoFar ways text front at number → PatchesSoFar ways text (front ++ p ∷ []) end next
patches_go_on ways text front at number end next p some high read so_far =
    let m = more ways text at number so_far.most so_far.enough (omega (arith, some, high)) (λ e. omega (arith, e, some, high)) in
    let rest = patches_at m.0 ways text end next in
    let place : place_before text (lines (drop end text)) ≡ end = place-back text end high in
    let one : patches_at so_far.most ways text at number ≡ (rest >>= λ others. Ok (p ∷ others))
    = ap (λ k. patches_at k ways text at number) m.1 ∙ patches-step m.0 ways text at number ∙ ap (λ r. r >>= and_later (λ q. patches_at m.0 ways text (place_before text q.rest) q.number)) read ∙ ap (λ k. patches_at m.0 ways text k next >>= λ others. Ok (p ∷ others)) place in
    record {
      most = m.0;
      enough = omega (arith, so_far.enough, m.1, some);
      same = sym (regroup front p rest) ∙ ap (λ r. r >>= λ others. Ok (front ++ others)) (sym one) ∙ so_far.same;
    }

pub patches_fail : (e : FormFault) (ways : ReadOptions) (text : List ℕ) (front : List PlainPatch) (at number : ℕ) → at ≤ length text → Fails e (next_patch ways text at number) → PatchesSoFar ways text front at number → Fails e (patches_of ways text)
patches_fail errors.Memory ways text front at number high h so_far = tt
patches_fail (errors.Malformed line kind) ways text front at number high h so_far =
    let m = more ways text at number so_far.most so_far.enough high (λ e. (let none = next-end ways text at number e in cc)) in
    let one : patches_at so_far.most ways text at number ≡ Err (record { line = line; kind = kind })
    = ap (λ k. patches_at k ways text at number) m.1 ∙ patches-step m.0 ways text at number ∙ ap (λ r. r >>= and_later (λ q. patches_at m.0 ways text (place_before text q.rest) q.number)) h in
    sym so_far.same ∙ ap (λ r. r >>= λ others. Ok (front ++ others)) one

no-more : (most : ℕ) (ways : ReadOptions) (text : List ℕ) (at number : ℕ) → next_patch ways text at number ≡ Ok None → patches_at most ways text at number ≡ Ok []
no-more zero ways text at number none = patches-zero ways text at number
no-more (suc most) ways text at number none = patches-step most ways text at number ∙ ap (λ r. r >>= and_later (λ q. patches_at most ways text (place_before text q.rest) q.number)) none

pub patches_done : (ways : ReadOptions) (text : List ℕ) (front : List PlainPatch) (at number : ℕ) → next_patch ways text at number ≡ Ok None → PatchesSoFar ways text front at number → patches_of ways text ≡ Ok front
patches_done ways text front at number none so_far = sym so_far.same ∙ ap (λ r. r >>= λ others. Ok (front ++ others)) (no-more so_far.most ways text at number none) ∙ ap Ok (append-nil front)

-- ---- where they lie

abbrev pub rows_of : List FilePatch → ℕ
rows_of ps = sum_by (λ p. row_count p.change) ps

pub turn-push : (ways : ReadOptions) (text : List ℕ) (start number before : ℕ) (ps : List FilePatch) (p : FilePatch) (mid line count next : ℕ) → LieInTurn ways text start number before ps mid line → before + rows_of ps ≡ count
    → IsFirstOpening ways text mid line p.header → IsPatch text mid count p next → LieInTurn ways text start number before (ps ++ p ∷ []) p.span.end next
turn-push ways text start number before [] p mid line count next h rows opens one =
    let same : before ≡ count = omega (arith, rows) in
    rw (h.0, h.1, same) (next, opens, one, (refl, refl))
turn-push ways text start number before (q ∷ ps) p mid line count next h rows opens one =
    let more : (before + row_count q.change) + rows_of ps ≡ count = omega (arith, rows, sum_by-cons (λ (x : FilePatch). row_count x.change) q ps) in
    (h.0, h.1, h.2, turn-push ways text q.span.end h.0 (before + row_count q.change) ps p mid line count next h.3 more opens one)

-- with one more there are as many hunks more
pub count-push : (ps : List FilePatch) (p : FilePatch) → rows_of (ps ++ p ∷ []) ≡ rows_of ps + row_count p.change
count-push ps p = sum_by_push (λ (x : FilePatch). row_count x.change) ps p
