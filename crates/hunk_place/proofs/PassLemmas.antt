-- Places that are passed over, and the nearest of those that are left.
use Rattle.std.proofs.Common.{◌≡◌, ◌≢◌, ℕ, ◌+◌, ◌-◌, ◌<◌, ◌≤◌, Bool, true, false, List, [], length, get_or, drop, refl, sym, ap, subst, ◌∙◌, arith, inl, inr, Option, Some, None}
use Rattle.std.specs.Prelude.{bytes_eq, nat_le, is_some, IfSome}
use Rattle.std.specs.Option.{option_map}
use Rattle.std.proofs.lemmas.Bool.{cases_lt}
use Rattle.std.proofs.lemmas.Bool.Decides.{nat_tests}
use Rattle.std.proofs.lemmas.Slice.Eq.{bytes_eq-Decides}
use Rattle.line_store.specs.Store.{line_at, NoneAlike, IsFirstAlike, IsLastAlike}
use Rattle.hunk_core.specs.Sides.{taken_count}
use Rattle.hunk_place.specs.Loose.{same_line}
use Rattle.hunk_place.specs.Placing.{fits}
use Rattle.hunk_place.specs.Passing.{NonePasses, IsFirstPass, IsLastPass, SkipsTo, SkipsBack, IsScanned, IsNearest, IsFirstLine, nearer}
use Rattle.hunk_place.specs.Taken.{taken_lines, side_lines}
use Rattle.hunk_place.specs.declared.pattern.Pattern.{Pattern}
use Rattle.hunk_core.specs.declared.HunkLine.{HunkLine}
use Rattle.hunk_core.specs.PlainHunk.{bytes_at}
use Rattle.hunk_core.specs.Sides.{is_on_side}
use Rattle.line_list.proofs.Elements.{front-is}
use Rattle.hunk_place.specs.Pattern.{IsPattern}
use Rattle.hunk_place.proofs.FitLemmas.{fits-not, side-length, side-take}
use Rattle.hunk_place.proofs.ScanLemmas.{found-above, found-below}

-- the body's line where the pattern begins, if it is taken
pub first-is : (p : Pattern) (l : HunkLine) → IsPattern p → p.loose ≡ false → p.front < p.last → p.from < length p.hunk.now.body.items → l ≡ get_or p.hunk.now.body.items p.from l → is_on_side p.side l.mark ≡ true → IsFirstLine p (bytes_at p.text.now l.span)
first-is p l is exact some lt at on = record {
  exact = exact;
  some = some;
  is =
      let n : p.front + 1 - 1 ≡ p.front = omega arith in
      ap (λ k. get_or (side_lines p.text.now p.side p.hunk.now.body.items) k []) n
      ∙ front-is (side_lines p.text.now p.side p.hunk.now.body.items) (side_lines p.text.now p.side (drop (p.from + 1) p.hunk.now.body.items)) (bytes_at p.text.now l.span) [] p.front (side-take p.text.now p.side p.hunk.now.body.items p.from p.front l lt at on is.from);
}

other_bytes : (a b : List ℕ) → b ≢ a → bytes_eq a b ≡ false
other_bytes a b ne = by (bytes_eq a b) refl
  where
    by : (v : Bool) → bytes_eq a b ≡ v → v ≡ false
    by true is = let same : a ≡ b = grind (arith, bytes_eq-Decides) in absurd (ne (sym same))
    by false is = refl

pub line-differs : (p : Pattern) (line : List ℕ) (lines : List (List ℕ)) (w : ℕ) → IsFirstLine p line → line_at lines (w + p.front) ≢ line → same_line p.loose (line_at (side_lines p.text.now p.side p.hunk.now.body.items) (p.front + 1)) (line_at lines (w + (p.front + 1) - 1)) ≡ false
line-differs p line lines w first ne =
    let place : w + (p.front + 1) - 1 ≡ w + p.front = omega arith in
    ap (λ b. same_line b (line_at (side_lines p.text.now p.side p.hunk.now.body.items) (p.front + 1)) (line_at lines (w + (p.front + 1) - 1))) first.exact
    ∙ ap (λ a. same_line false a (line_at lines (w + (p.front + 1) - 1))) first.is
    ∙ ap (λ k. same_line false line (line_at lines k)) place
    ∙ other_bytes line (line_at lines (w + p.front)) ne

-- where the first line differs the pattern doesn't fit
pub first-differs : (p : Pattern) (line : List ℕ) (lines : List (List ℕ)) (back w : ℕ) → IsFirstLine p line → p.last ≡ taken_count p.side p.hunk.now.body.items - back → line_at lines (w + p.front) ≢ line → fits lines (taken_lines p.text.now p.side p.hunk.now) p.loose p.front back w ≡ false
first-differs p line lines back w first last ne =
    let count : length (side_lines p.text.now p.side p.hunk.now.body.items) ≡ taken_count p.side p.hunk.now.body.items = side-length p.text.now p.side p.hunk.now.body.items in
    sym (fits-not p.text.now p.side p.hunk.now lines p.loose p.front back w (p.front + 1) (omega arith) (omega (arith, first.some)) (line-differs p line lines w first ne))

-- places whose lines are not alike don't fit
none-fits : (p : Pattern) (line : List ℕ) (lines : List (List ℕ)) (back from to a b : ℕ) → IsFirstLine p line → p.last ≡ taken_count p.side p.hunk.now.body.items - back → NoneAlike lines line a b → a ≤ from + p.front → to + p.front ≤ b → NonePasses (fits lines (taken_lines p.text.now p.side p.hunk.now) p.loose p.front back) from to
none-fits p line lines back from to a b first last none low high k in_low in_high = first-differs p line lines back k first last (none (k + p.front) (omega arith) (omega arith))

pub skips-to : (p : Pattern) (line : List ℕ) (lines : List (List ℕ)) (back from to : ℕ) (found : Option ℕ) → IsFirstLine p line → p.last ≡ taken_count p.side p.hunk.now.body.items - back → IsFirstAlike lines line (from + p.front) (to + p.front) found → SkipsTo (fits lines (taken_lines p.text.now p.side p.hunk.now) p.loose p.front back) from to (option_map (λ k. k - p.front) found)
skips-to p line lines back from to None first last h = none-fits p line lines back from to (from + p.front) (to + p.front) first last h (omega arith) (omega arith)
skips-to p line lines back from to (Some k) first last h = λ j low high. first-differs p line lines back j first last (h.1 (j + p.front) (omega arith) (omega arith))

pub skips-back : (p : Pattern) (line : List ℕ) (lines : List (List ℕ)) (back from to : ℕ) (found : Option ℕ) → IsFirstLine p line → p.last ≡ taken_count p.side p.hunk.now.body.items - back → IsLastAlike lines line (from + p.front) (to + p.front) found → SkipsBack (fits lines (taken_lines p.text.now p.side p.hunk.now) p.loose p.front back) from to (option_map (λ k. k - p.front) found)
skips-back p line lines back from to None first last h = none-fits p line lines back from to (from + p.front) (to + p.front) first last h (omega arith) (omega arith)
skips-back p line lines back from to (Some k) first last h = λ j low high. first-differs p line lines back j first last (h.1 (j + p.front) (omega arith) (omega arith))

-- ranges that meet
pub none-join : (f : ℕ → Bool) (a b c : ℕ) → NonePasses f a b → NonePasses f b c → NonePasses f a c
none-join f a b c h k n low high = elim (cases_lt n b) [
  | inl lt ↦ h n low lt
  | inr le ↦ k n le high
]

-- one place more
pub step-up : (f : ℕ → Bool) (from at w : ℕ) → NonePasses f from at → NonePasses f at w → f w ≡ false → NonePasses f from (w + 1)
step-up f from at w h k e = none-join f from w (w + 1) (none-join f from at w h k) (λ n low high. let same : n ≡ w = omega arith in ap f same ∙ e)

pub step-down : (f : ℕ → Bool) (w end to : ℕ) → NonePasses f (w + 1) end → NonePasses f end to → f w ≡ false → NonePasses f w to
step-down f w end to k h e = none-join f w (w + 1) to (λ n low high. let same : n ≡ w = omega arith in ap f same ∙ e) (none-join f (w + 1) end to k h)

-- none is nearer than d: those that are nearer than `from`, and those above and below from there on
scan-both : (f : ℕ → Bool) (low high centre from d top bottom : ℕ) → IsScanned f low high centre from → NonePasses f (centre + from) top → NonePasses f bottom (centre + 1 - from) → ((v : ℕ) → v ≤ high → v < centre + d → v < top) → ((v : ℕ) → low ≤ v → centre < v + d → bottom ≤ v) → IsScanned f low high centre d
scan-both f low high centre from d top bottom h above below up down = record {
  none = λ v a b c e. elim (cases_lt v (centre + from)) [
    | inr far ↦ above v far (up v b c)
    | inl near ↦ elim (cases_lt centre (v + from)) [
      | inl close ↦ h.none v a b near close
      | inr far ↦ below v (down v a e) (omega arith)
    ]
  ];
}

pub none-of : (o : Option ℕ) → is_some o ≡ false → o ≡ None
none-of None e = refl
none-of (Some x) e = cc

-- the window of distances from `from` up to, not including, `to`
pub window : (f : ℕ → Bool) (low high centre from to top bottom : ℕ) (above below : Option ℕ)
    → low ≤ centre → centre ≤ high → 1 ≤ from → top ≤ high + 1 → top ≤ centre + to → ((v : ℕ) → v ≤ high → v < centre + to → v < top) → low ≤ bottom → centre < bottom + to → ((v : ℕ) → low ≤ v → centre < v + to → bottom ≤ v)
    → IfSome above (λ u. (centre + from ≤ u) × (u < top)) → IfSome below (λ w. (bottom ≤ w) × (w < centre + 1 - from))
    → IsFirstPass f (centre + from) top above → IsLastPass f bottom (centre + 1 - from) below → IsScanned f low high centre from
    → IsNearest f low high centre to (nearer centre above below)
window f low high centre from to top bottom None None in_low in_high one t1 t2 t3 b1 b2 b3 ua wb above below h =
    scan-both f low high centre from to top bottom h above below t3 b3
window f low high centre from to top bottom (Some u) None in_low in_high one t1 t2 t3 b1 b2 b3 ua wb above below h =
    let d : centre + (u - centre) ≡ u = omega (arith, ua.0) in
    let s : IsScanned f low high centre (u - centre) = scan-both f low high centre from (u - centre) u bottom h above.1 below (λ v a b. omega arith) (λ v a b. b3 v a (omega (arith, ua.1))) in
    found-above f low high centre (u - centre) s in_low (omega (arith, ua.1)) (ap f d ∙ above.0) ∙ ap Some d
window f low high centre from to top bottom None (Some w) in_low in_high one t1 t2 t3 b1 b2 b3 ua wb above below h =
    let d : centre - (centre - w) ≡ w = omega (arith, wb.1) in
    let s : IsScanned f low high centre (centre - w) = scan-both f low high centre from (centre - w) top (w + 1) h above below.1 (λ v a b. t3 v a (omega (arith, wb.0))) (λ v a b. omega (arith, wb.1)) in
    found-below f low high centre (centre - w) s (λ room. above (centre + (centre - w)) (omega (arith, wb.1)) (t3 (centre + (centre - w)) room (omega (arith, wb.0)))) (omega (arith, wb.0, wb.1)) in_high (ap f d ∙ below.0) ∙ ap Some d
window f low high centre from to top bottom (Some u) (Some w) in_low in_high one t1 t2 t3 b1 b2 b3 ua wb above below h = elim (cases_lt (centre - w) (u - centre)) [
  | inr up ↦
      let pick : nearer centre (Some u) (Some w) ≡ Some u = (let t : nat_le (u - centre) (centre - w) ≡ true = grind (arith, nat_tests) in rw t refl) in
      let d : centre + (u - centre) ≡ u = omega (arith, ua.0) in
      let s : IsScanned f low high centre (u - centre) = scan-both f low high centre from (u - centre) u (w + 1) h above.1 below.1 (λ v a b. omega arith) (λ v a b. omega (arith, wb.1)) in
      subst (IsNearest f low high centre to) (sym pick) (found-above f low high centre (u - centre) s in_low (omega (arith, ua.1)) (ap f d ∙ above.0) ∙ ap Some d)
  | inl down ↦
      let pick : nearer centre (Some u) (Some w) ≡ Some w = (let t : nat_le (u - centre) (centre - w) ≡ false = grind (arith, nat_tests) in rw t refl) in
      let d : centre - (centre - w) ≡ w = omega (arith, wb.1) in
      let s : IsScanned f low high centre (centre - w) = scan-both f low high centre from (centre - w) u (w + 1) h above.1 below.1 (λ v a b. omega arith) (λ v a b. omega (arith, wb.1)) in
      subst (IsNearest f low high centre to) (sym pick) (found-below f low high centre (centre - w) s (λ room. above.1 (centre + (centre - w)) (omega (arith, wb.1)) (omega arith)) (omega (arith, wb.0, wb.1)) in_high (ap f d ∙ below.0) ∙ ap Some d)
]
