-- A range line that is written ends with a line feed where the one that was read does.
use Rattle.std.proofs.Common.{◌≡◌, ◌≢◌, ℕ, ◌^◌, min, Bool, true, false, cond, eqb, ◌||◌, List, [], ◌∷◌, ◌++◌, Option, None, Some, Result, Ok, refl, sym, ap, subst, append_assoc, arith, inl, inr}
use Rattle.std.specs.List.{AllByRecursion}
use Rattle.std.proofs.lemmas.Option.{same_Some}
use Rattle.line_list.specs.Lines.{IsLine, ArePieces}
use Rattle.line_list.specs.Join.{ends_open, lacks_feed}
use Rattle.line_list.proofs.JoinLemmas.{line-has, open-lacks}
use Rattle.num_text.specs.Numbers.{decimal, is_digit, AllDigits, number_at}
use Rattle.num_text.proofs.Decimal.{decimal-numeral}
use Rattle.num_text.proofs.Runs.{number-takes}
use Rattle.hunk_core.specs.declared.BadKind.{BadKind}
use Rattle.hunk_core.specs.LineTests.{after}
use Rattle.hunk_core.proofs.TextLemmas.{after-takes}
use Rattle.line_list.proofs.Choices.{some_is, chosen}
use Rattle.unified_form.specs.declared.body.Left.{Left}
use Rattle.unified_form.specs.declared.range.Ranges.{Ranges}
use Rattle.unified_form.specs.Ranges.{capped, size_at, count_at, range_at, is_bad_range}
use Rattle.unified_form.specs.Canonical.{range_text}
use Rattle.hunk_core.specs.Rules.{is_too_large}
use Rattle.hunk_core.specs.OptionSteps.{◌>>=◌}
use Rattle.hunk_core.proofs.OptionLemmas.{some_step}
use Rattle.line_list.proofs.Pieces.{longer}
use Rattle.split_recount.specs.RangeLines.{first_line, range_parts, stated_by, stated, line_with}

-- ---- bytes in front
shorter : (b : ℕ) (line : List ℕ) → b ≢ 10 → IsLine (b ∷ line) → IsLine line
shorter b [] ne h = absurd (ne h)
shorter b (c ∷ bs) ne h = h.1

clean-longer : (front line : List ℕ) → AllByRecursion (λ b. b ≢ 10) front → IsLine line → IsLine (front ++ line)
clean-longer [] line all h = h
clean-longer (b ∷ front) line all h = longer b (front ++ line) all.0 (clean-longer front line all.1 h)

no-feed : (d : ℕ) → is_digit d ≡ true → d ≢ 10
no-feed d is e = let no : is_digit d ≡ false = rw e refl in absurd cc

digits-longer : (ds line : List ℕ) → AllDigits ds → IsLine line → IsLine (ds ++ line)
digits-longer [] line all h = h
digits-longer (d ∷ ds) line all h = longer d (ds ++ line) (no-feed d all.0) (digits-longer ds line all.1 h)

digits-shorter : (ds line : List ℕ) → AllDigits ds → IsLine (ds ++ line) → IsLine line
digits-shorter [] line all h = h
digits-shorter (d ∷ ds) line all h = digits-shorter ds line all.1 (shorter d (ds ++ line) (no-feed d all.0) h)

-- ---- what stands behind the ranges

after-line : (prefix bytes rest : List ℕ) → AllByRecursion (λ b. b ≢ 10) prefix → IsLine bytes → after prefix bytes ≡ Some rest → IsLine rest
after-line prefix bytes rest clean h e = behind prefix clean (subst IsLine (after-takes prefix bytes rest e) h)
  where
    behind : (front : List ℕ) → AllByRecursion (λ b. b ≢ 10) front → IsLine (front ++ rest) → IsLine rest
    behind [] all is = is
    behind (b ∷ front) all is = behind front all.1 (shorter b (front ++ rest) all.0 is)

size-line : (bytes : List ℕ) (x : ℕ × List ℕ) → IsLine bytes → size_at bytes ≡ Some x → IsLine x.1
size-line bytes x h e =
    let a = some_step (number_at bytes) capped x e in
    let t = number-takes bytes a.0 a.1 in
    let found : ℕ × List ℕ = (min a.0.0 (2 ^ 32), a.0.1) in
    let same : found ≡ x = some_is found x (Some found) refl a.2 in
    subst IsLine (ap (λ (p : ℕ × List ℕ). p.1) same) (digits-shorter t.0 a.0.1 t.1.numeral.digits (subst IsLine t.1.parts h))

count-line : (bytes : List ℕ) (x : ℕ × List ℕ) → IsLine bytes → count_at bytes ≡ Some x → IsLine x.1
unfolding count_at
count-line [] x h e = absurd h
count-line (b ∷ bytes) x h e =
    elim (chosen (eqb b 44) _ _ (Some x) e) [
      | inl comma ↦ size-line bytes x (shorter b bytes (λ feed. let no : eqb b 44 ≡ false = rw feed refl in let is = comma.0 in absurd cc) h) comma.1
      | inr other ↦ (
          let found : ℕ × List ℕ = (1, b ∷ bytes) in
          let same : found ≡ x = some_is found x (Some found) refl other.1 in
          subst IsLine (ap (λ (p : ℕ × List ℕ). p.1) same) h)
    ]

range-line : (bytes : List ℕ) (x : (ℕ × ℕ) × List ℕ) → IsLine bytes → range_at bytes ≡ Some x → IsLine x.1
unfolding range_at
range-line bytes x h e =
    let a = some_step (size_at bytes) _ x e in
    let b = some_step (count_at a.0.1) _ x a.2 in
    let found : (ℕ × ℕ) × List ℕ = ((a.0.0, b.0.0), b.0.1) in
    let same : found ≡ x = some_is found x (Some found) refl b.2 in
    subst IsLine (ap (λ (p : (ℕ × ℕ) × List ℕ). p.1) same) (count-line a.0.1 b.0 (size-line bytes a.0 h a.1) b.1)

same-line : {A : Type 0} (found x : A × List ℕ) → Some found ≡ Some x → IsLine found.1 → IsLine x.1
same-line found x e h = subst (λ p. IsLine p.1) (same_Some found x e) h

-- from each step of the reading on, what is left is a line
module _ (x : Ranges × List ℕ) where
  end-line : (r : Ranges) (bytes : List ℕ) → IsLine bytes → (after (32 ∷ 64 ∷ 64 ∷ []) bytes >>= λ rest. Some (r, rest)) ≡ Some x → IsLine x.1
  end-line r bytes h e =
      let g = some_step (after (32 ∷ 64 ∷ 64 ∷ []) bytes) _ x e in
      same-line (r, g.0) x g.2 (after-line (32 ∷ 64 ∷ 64 ∷ []) bytes g.0 (omega arith, (omega arith, (omega arith, tt))) h g.1)

  new-line : (old : ℕ × ℕ) (bytes : List ℕ) → IsLine bytes
      → (range_at bytes >>= λ new. after (32 ∷ 64 ∷ 64 ∷ []) new.1 >>= λ rest. Some (record { old_start = old.0; old_count = old.1; new_start = new.0.0; new_count = new.0.1 }, rest)) ≡ Some x → IsLine x.1
  new-line old bytes h e =
      let f = some_step (range_at bytes) _ x e in
      end-line (record { old_start = old.0; old_count = old.1; new_start = f.0.0.0; new_count = f.0.0.1 }) f.0.1 (range-line bytes f.0 h f.1) f.2

  plus-line : (old : ℕ × ℕ) (bytes : List ℕ) → IsLine bytes
      → (after (32 ∷ 43 ∷ []) bytes >>= λ second. range_at second >>= λ new. after (32 ∷ 64 ∷ 64 ∷ []) new.1 >>= λ rest. Some (record { old_start = old.0; old_count = old.1; new_start = new.0.0; new_count = new.0.1 }, rest)) ≡ Some x → IsLine x.1
  plus-line old bytes h e =
      let d = some_step (after (32 ∷ 43 ∷ []) bytes) _ x e in
      new-line old d.0 (after-line (32 ∷ 43 ∷ []) bytes d.0 (omega arith, (omega arith, tt)) h d.1) d.2

parts-line : (line : List ℕ) (x : Ranges × List ℕ) → IsLine line → range_parts line ≡ Some x → IsLine x.1
unfolding range_parts
parts-line line x h e =
    let a = some_step (after (64 ∷ 64 ∷ 32 ∷ 45 ∷ []) line) _ x e in
    let b = some_step (range_at a.0) _ x a.2 in
    plus-line x b.0.0 b.0.1 (range-line a.0 b.0 (after-line (64 ∷ 64 ∷ 32 ∷ 45 ∷ []) line a.0 (omega arith, (omega arith, (omega arith, (omega arith, tt)))) h a.1) b.1) b.2

ok_is : (x y : ℕ × List ℕ) (r : Result (ℕ × List ℕ) BadKind) → r ≡ Ok x → r ≡ Ok y → x ≡ y
ok_is x y r e f = cc

said-of : (found : Option (Ranges × List ℕ)) (said : ℕ × List ℕ) → stated_by found ≡ Ok said → (r : Ranges) × (found ≡ Some (r, said.1))
said-of None said e = absurd cc
said-of (Some p) said e =
    elim (chosen (is_bad_range p.0.old_start p.0.old_count || is_bad_range p.0.new_start p.0.new_count) _ _ (Ok said) e) [
      | inl bad ↦ absurd (let is = bad.1 in cc)
      | inr good ↦
          elim (chosen (is_too_large p.0.old_start p.0.old_count || is_too_large p.0.new_start p.0.new_count) _ _ (Ok said) good.1) [
            | inl large ↦ absurd (let is = large.1 in cc)
            | inr fits ↦ (
                let found : ℕ × List ℕ = (first_line p.0.old_start p.0.old_count, p.1) in
                let same : found ≡ said = ok_is found said (Ok found) refl fits.1 in
                (p.0, ap (λ (x : ℕ × List ℕ). Some (p.0, x.1)) same))
          ]
    ]

pub said-line : (line : List ℕ) (said : ℕ × List ℕ) → IsLine line → stated line ≡ Ok said → IsLine said.1
said-line line said h e = let s = said-of (range_parts line) said e in parts-line line (s.0, said.1) h s.1

-- ---- the line that is written

numeral-longer : (n : ℕ) (line : List ℕ) → IsLine line → IsLine (decimal n ++ line)
numeral-longer n line h = digits-longer (decimal n) line (decimal-numeral n).digits h

range-longer : (start count : ℕ) (line : List ℕ) → IsLine line → IsLine (range_text start count ++ line)
range-longer start count line h = by (eqb count 1)
  where
    by : (v : Bool) → IsLine (cond v (decimal start) (decimal start ++ 44 ∷ decimal count) ++ line)
    by true = numeral-longer start line h
    by false = subst IsLine (sym (append_assoc (decimal start) (44 ∷ decimal count) line)) (numeral-longer start (44 ∷ decimal count ++ line) (longer 44 (decimal count ++ line) (omega arith) (numeral-longer count line h)))

pub written-line : (old new : ℕ) (counts : Left) (rest : List ℕ) → IsLine rest → IsLine (line_with old new counts rest)
written-line old new counts rest h =
    let third : IsLine ((32 ∷ 64 ∷ 64 ∷ []) ++ rest) = clean-longer (32 ∷ 64 ∷ 64 ∷ []) rest (omega arith, (omega arith, (omega arith, tt))) h in
    let second : IsLine (range_text new counts.new ++ ((32 ∷ 64 ∷ 64 ∷ []) ++ rest)) = range-longer new counts.new ((32 ∷ 64 ∷ 64 ∷ []) ++ rest) third in
    let first = clean-longer (32 ∷ 43 ∷ []) (range_text new counts.new ++ ((32 ∷ 64 ∷ 64 ∷ []) ++ rest)) (omega arith, (omega arith, tt)) second in
    let behind : List ℕ = range_text old counts.old ++ ((32 ∷ 43 ∷ []) ++ (range_text new counts.new ++ ((32 ∷ 64 ∷ 64 ∷ []) ++ rest))) in
    clean-longer (64 ∷ 64 ∷ 32 ∷ 45 ∷ []) behind (omega arith, (omega arith, (omega arith, (omega arith, tt)))) (range-longer old counts.old ((32 ∷ 43 ∷ []) ++ (range_text new counts.new ++ ((32 ∷ 64 ∷ 64 ∷ []) ++ rest))) first)

-- ---- all lines of a text

pub all-whole : (ls : List (List ℕ)) → ArePieces ls → ends_open ls ≡ false → AllByRecursion IsLine ls
unfolding ends_open
all-whole [] h e = tt
all-whole (line ∷ []) (inl h) e = (h, tt)
all-whole (line ∷ []) (inr h) e = let o : lacks_feed line ≡ true = open-lacks line h in absurd cc
all-whole (line ∷ next ∷ more) h e = (h.0, all-whole (next ∷ more) h.1 e)

pub whole-ends : (ls : List (List ℕ)) → AllByRecursion IsLine ls → ends_open ls ≡ false
unfolding ends_open
whole-ends [] h = refl
whole-ends (line ∷ []) h = line-has line h.0
whole-ends (line ∷ next ∷ more) h = whole-ends (next ∷ more) h.1
