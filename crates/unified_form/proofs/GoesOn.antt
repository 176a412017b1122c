-- The lines in front of a fault can go on to a piece.
use Rattle.std.proofs.Common.{subst, ◌≡◌, ◌↔◌, ℕ, zero, suc, ◌+◌, ◌-◌, ◌≤◌, ◌<◌, eqb, List, [], ◌∷◌, ◌++◌, length, take, Ok, Err, refl, sym, ap, ◌∙◌, arith, inl, inr}
use Rattle.std.specs.List.{AllByRecursion}
use Rattle.std.proofs.lemmas.List.{append-nil}
use Rattle.line_list.specs.Lines.{IsLine}
use Rattle.hunk_core.specs.declared.Mark.TheVariants.{Drop, Add}
use Rattle.hunk_core.specs.declared.BadKind.TheVariants as kinds
use Rattle.hunk_core.specs.PlainHunk.{Marked, PlainHunk}
use Rattle.hunk_core.specs.LineTests.{marked, after_backslash}
use Rattle.hunk_core.specs.Reading.{Fault, fault, Ahead, ahead}
use Rattle.line_list.proofs.Choices.{chosen}
use Rattle.hunk_core.proofs.TextLemmas.{has_some}
use Rattle.hunk_core.specs.Refusals.{settled}
use Rattle.hunk_core.proofs.FaultSteps.{failed, bind_err, short_or}
use Rattle.hunk_core.proofs.Faults.{FillsHunks, no_hunk}
use Rattle.hunk_core.proofs.Filling.{IsInside, none_in_front, front_with, whole_front, first_inside, past_inside, none_inside}
use Rattle.unified_form.specs.declared.body.Left.{Left}
use Rattle.unified_form.specs.declared.range.Ranges.{Ranges}
use Rattle.unified_form.specs.Ranges.{opening}
use Rattle.unified_form.specs.Bodies.{mark_at, marked_at, room_at, ended_by, first_line, line_at, body_at}
use Rattle.unified_form.specs.Hunks.{at_line, left_of, change, first_hunk, reading}
use Rattle.unified_form.specs.Grammar.{one_more, counts_of, ranges_of, SpellsBody, SpellsRanges, AreFair}
use Rattle.unified_form.specs.FirstFault.{CanGoOn}
use Rattle.unified_form.proofs.Bodies.{made, is_left, marked-ok, room-back, mark_at-shows, TakesLine, line_takes, TakesBody, body_takes}
use Rattle.unified_form.proofs.RangeGrammar.{opening-takes}
use Rattle.unified_form.proofs.Pieces.{SpellsIn, at_line-ok, is_ranges}
use Rattle.unified_form.proofs.BodyFaults.{backslash_one, marked_low, room_low, ended_low, rest_of_line, one_more_line, add_err, body_low}
use Rattle.unified_form.proofs.FirstFault.{fault-short, fault-late, range_low, settled_err, with_body, hunks_fill}

-- ---- lines that fill a body up

abbrev drops : ℕ → List (List ℕ) → List (List ℕ)
drops zero rest = rest
drops (suc n) rest = (45 ∷ 10 ∷ []) ∷ drops n rest

abbrev adds : ℕ → List (List ℕ)
adds zero = []
adds (suc n) = (43 ∷ 10 ∷ []) ∷ adds n

abbrev dropped : ℕ → List Marked → List Marked
dropped zero rest = rest
dropped (suc n) rest = marked Drop (10 ∷ []) ∷ dropped n rest

abbrev added : ℕ → List Marked
added zero = []
added (suc n) = marked Add (10 ∷ []) ∷ added n

adds-spelled : (n : ℕ) → SpellsBody (adds n) (added n)
adds-spelled zero = refl
adds-spelled (suc n) = ((43 ∷ 10 ∷ []) ∷ [], adds n, refl, inl refl, adds-spelled n)

adds-lines : (n : ℕ) → AllByRecursion IsLine (adds n)
adds-lines zero = tt
adds-lines (suc n) = (((λ h. absurd (omega (arith, h))), refl), adds-lines n)

drops-lines : (n : ℕ) (rest : List (List ℕ)) → AllByRecursion IsLine rest → AllByRecursion IsLine (drops n rest)
drops-lines zero rest h = h
drops-lines (suc n) rest h = (((λ h. absurd (omega (arith, h))), refl), drops-lines n rest h)

adds-counts : (n : ℕ) → counts_of (added n) ≡ made 0 n
adds-counts zero = refl
adds-counts (suc n) = ap (one_more Add) (adds-counts n) ∙ is_left 0 (n + 1) 0 (suc n) refl (omega arith)

drops-spelled : (n : ℕ) (piece : List (List ℕ)) (body : List Marked) → SpellsBody piece body → SpellsBody (drops n piece) (dropped n body)
drops-spelled zero piece body h = h
drops-spelled (suc n) piece body h = ((45 ∷ 10 ∷ []) ∷ [], drops n piece, refl, inl refl, drops-spelled n piece body h)

drops-counts : (n a : ℕ) (body : List Marked) → counts_of body ≡ made 0 a → counts_of (dropped n body) ≡ made n a
drops-counts zero a body h = h
drops-counts (suc n) a body h = ap (one_more Drop) (drops-counts n a body h) ∙ is_left (n + 1) a (suc n) a (omega arith) refl

-- ---- a body

-- the lines in front of the fault, with others, are a body with these counts
record FillsBody (left : Left) (p : Ahead) (e : Fault) : Type 0 where
  others : List (List ℕ)
  are_lines : AllByRecursion IsLine others
  body : List Marked
  counts : left ≡ counts_of body
  spelled : SpellsBody (take (e.line - p.number) p.rest ++ others) body
  inside : IsInside p e

fills_at_once : (left : Left) (p : Ahead) (e : Fault) → e.line ≡ p.number → IsInside p e → FillsBody left p e
fills_at_once left p e here inside = record {
  others = drops left.old (adds left.new);
  are_lines = drops-lines left.old (adds left.new) (adds-lines left.new);
  body = dropped left.old (added left.new);
  counts = sym (drops-counts left.old left.new (added left.new) (adds-counts left.new));
  spelled = rw (none_in_front e.line p.number p.rest here) (drops-spelled left.old (adds left.new) (added left.new) (adds-spelled left.new));
  inside = inside;
}

fills_past : (left : Left) (p : Ahead) (e : Fault) (x : Marked × Left × Ahead) → TakesLine left p x → x.2.number ≤ e.line → FillsBody x.1 x.2 e → FillsBody left p e
fills_past left p e x t le more = record {
  others = more.others;
  are_lines = more.are_lines;
  body = x.0 ∷ more.body;
  counts = t.counts ∙ ap (one_more x.0.mark) more.counts;
  spelled = (t.own, take (e.line - x.2.number) x.2.rest ++ more.others, front_with e.line p.number x.2.number p.rest t.own x.2.rest more.others t.parts t.number le, t.spelled more.body (sym more.counts), more.spelled);
  inside = past_inside p x.2 e t.own t.parts t.number more.inside;
}

line_fills : (left : Left) (number : ℕ) (lines : List (List ℕ)) (e : Fault) → first_line left number lines ≡ Err e → FillsBody left (ahead number lines) e
unfolding first_line
line_fills left number [] e h = let is : fault number kinds.ShortEnd ≡ e = cc in fills_at_once left (ahead number []) e (sym (ap (λ (x : Fault). x.line) is)) (none_inside {A = Marked × Left × Ahead} number e h)
line_fills left number (line ∷ rest) e h =
    elim (bind_err (marked_at number line) (rest_of_line left number rest) e h) [
      | inl bad ↦ (let here = (marked_low number line e bad).0 in fills_at_once left (ahead number (line ∷ rest)) e here (first_inside number line rest e here))
      | inr good ↦ elim (bind_err (room_at number good.0.mark left) (λ room. ended_by number good.0 room rest (after_backslash rest)) e good.2) [
        | inl bad ↦ (let here = (room_low number good.0.mark left e bad).0 in fills_at_once left (ahead number (line ∷ rest)) e here (first_inside number line rest e here))
        | inr room ↦ (
            let m = good.0 in
            let l = ended_low number m room.0 rest (after_backslash rest) e room.2 in
            let here : e.line ≡ number + 1 = ap (λ (x : Fault). x.line) l.0 in
            let one : TakesLine left (ahead number (line ∷ rest)) (m, room.0, ahead (number + 1) rest) = record {
              own = line ∷ [];
              parts = refl;
              number = refl;
              counts = room-back number m.mark left room.0 room.1;
              spelled = λ body same. mark_at-shows line m (marked-ok number line (mark_at line) m good.1);
            } in
            fills_past left (ahead number (line ∷ rest)) e (m, room.0, ahead (number + 1) rest) one (omega (arith, here)) (fills_at_once room.0 (ahead (number + 1) rest) e here (λ long. omega (arith, here, backslash_one rest l.2 l.3))))
      ]
    ]

body_fills : (most : ℕ) (left : Left) (p : Ahead) (e : Fault) → body_at most left p ≡ Err e → FillsBody left p e
unfolding body_at
body_fills zero left p e h = absurd cc
body_fills (suc most) left p e h =
    elim (chosen (eqb (left.old + left.new) 0) _ _ (Err e) h) [
      | inl none ↦ absurd (let bad : Ok ([], p) ≡ failed {A = List Marked × Ahead} e = none.1 in cc)
      | inr some ↦ elim (bind_err (line_at left p) (one_more_line most) e some.1) [
        | inl bad ↦ line_fills left p.number p.rest e bad
        | inr good ↦ (
            let x = good.0 in
            let rest : body_at most x.1 x.2 ≡ Err e = add_err x.0 (body_at most x.1 x.2) e good.2 in
            fills_past left p e x (line_takes left p.number p.rest x good.1) (body_low most x.1 x.2 e rest).0 (body_fills most x.1 x.2 e rest))
      ]
    ]

-- ---- hunks

ranges_spelled : (least number : ℕ) (line : List ℕ) (r : Ranges) (body : List Marked) → at_line number (opening least line) ≡ Ok r → left_of r ≡ counts_of body → SpellsRanges line (ranges_of (change r body)) × AreFair least (ranges_of (change r body))
ranges_spelled least number line r body h counts =
    let stated : r ≡ ranges_of (change r body) = is_ranges r.old_start r.old_count r.new_start r.new_count _ _ (ap (λ (l : Left). l.old) counts) (ap (λ (l : Left). l.new) counts) in
    opening-takes least line (ranges_of (change r body)) (at_line-ok number (opening least line) r h ∙ ap (λ (q : Ranges). Ok q) stated)

-- a hunk whose body is filled up
short_hunk : (least number : ℕ) (line : List ℕ) (rest : List (List ℕ)) (e : Fault) (r : Ranges) → at_line number (opening least line) ≡ Ok r → number + 1 ≤ e.line → FillsBody (left_of r) (ahead (number + 1) rest) e → FillsHunks SpellsIn least (ahead number (line ∷ rest)) e
short_hunk least number line rest e r h le f =
    let own = line ∷ (take (e.line - (number + 1)) rest ++ f.others) in
    let ranges = ranges_spelled least number line r f.body h f.counts in
    record {
      others = f.others;
      are_lines = f.are_lines;
      hs = change r f.body ∷ [];
      spelled = (own, [], front_with e.line number (number + 1) (line ∷ rest) (line ∷ []) rest f.others refl refl le ∙ sym (append-nil own), (ranges.0, ranges.1, f.spelled), refl);
      inside = past_inside (ahead number (line ∷ rest)) (ahead (number + 1) rest) e (line ∷ []) refl refl f.inside;
    }

-- a hunk that is whole
whole_hunk : (least number : ℕ) (line : List ℕ) (rest : List (List ℕ)) (e : Fault) (r : Ranges) (body : List Marked × Ahead) → at_line number (opening least line) ≡ Ok r → TakesBody (left_of r) (ahead (number + 1) rest) body → e.line ≡ body.1.number → 0 < length body.1.rest → FillsHunks SpellsIn least (ahead number (line ∷ rest)) e
whole_hunk least number line rest e r body h t here some =
    let own = line ∷ t.own in
    let ranges = ranges_spelled least number line r body.0 h t.counts in
    let parts : line ∷ rest ≡ own ++ body.1.rest = ap (λ (ls : List (List ℕ)). line ∷ ls) t.parts in
    let front : take (e.line - number) (line ∷ rest) ++ [] ≡ own ++ (take (e.line - body.1.number) body.1.rest ++ []) = front_with e.line number body.1.number (line ∷ rest) own body.1.rest [] parts (omega (arith, t.number)) (omega (arith, here)) in
    record {
      others = [];
      are_lines = tt;
      hs = change r body.0 ∷ [];
      spelled = (own, [], front ∙ ap (λ (ls : List (List ℕ)). own ++ (ls ++ [])) (none_in_front e.line body.1.number body.1.rest here), (ranges.0, ranges.1, t.spelled), refl);
      inside = past_inside (ahead number (line ∷ rest)) body.1 e own parts (omega (arith, t.number)) (λ long. omega (arith, here, some));
    }

hunk_fills : (least number : ℕ) (lines : List (List ℕ)) (e : Fault) → first_hunk least number lines ≡ Err e → FillsHunks SpellsIn least (ahead number lines) e
unfolding first_hunk
hunk_fills least number [] e h = let is : fault number kinds.ShortEnd ≡ e = cc in no_hunk SpellsIn least (ahead number []) e (sym (ap (λ (x : Fault). x.line) is)) (none_inside {A = PlainHunk × Ahead} number e h)
hunk_fills least number (line ∷ rest) e h =
    elim (bind_err (at_line number (opening least line)) (with_body number rest) e h) [
      | inl bad ↦ (let here = (range_low least number line e bad).0 in no_hunk SpellsIn least (ahead number (line ∷ rest)) e here (first_inside number line rest e here))
      | inr good ↦ (
          let r = good.0 in
          elim (bind_err (body_at (r.old_count + r.new_count) (left_of r) (ahead (number + 1) rest)) (λ body. settled (change r body.0) body.1) e good.2) [
            | inl bad ↦ short_hunk least number line rest e r good.1 (body_low _ (left_of r) (ahead (number + 1) rest) e bad).0 (body_fills _ (left_of r) (ahead (number + 1) rest) e bad)
            | inr body ↦ (
                let s = settled_err (change r body.0.0) body.0.1 e body.2 in
                whole_hunk least number line rest e r body.0 good.1 (body_takes _ (left_of r) (ahead (number + 1) rest) body.0 (omega arith) body.1) (sym (ap (λ (x : Fault). x.line) s.0)) (let more = has_some (after_backslash body.0.1.rest) s.1 in omega (arith, backslash_one body.0.1.rest more.0 more.1)))
          ])
    ]

-- ---- the first fault

pub fault-goes_on : (number : ℕ) (lines : List (List ℕ)) (e : Fault) → reading number lines ≡ Err e → CanGoOn number (take (e.line - number) lines)
fault-goes_on number lines e h =
    let f = hunks_fill (λ least p e h. hunk_fills least p.number p.rest e h) (length lines) 0 (ahead number lines) e h in
    let own = take (e.line - number) lines ++ f.others in
    record { others = f.others; are_lines = f.are_lines; hs = f.hs; next = number + length own; whole = record { own = own; parts = sym (append-nil own); spelled = f.spelled; ends = (refl, refl); counted = refl } }

pub fault-short_end : (number : ℕ) (lines : List (List ℕ)) (e : Fault) → reading number lines ≡ Err e → e.kind ≡ kinds.ShortEnd ↔ CanGoOn number lines
fault-short_end number lines e h = (
  λ short. subst (CanGoOn number) (whole_front number lines e.line (fault-short number lines e h short)) (fault-goes_on number lines e h),
  λ g. elim (short_or e.kind) [
    | inl short ↦ short
    | inr long ↦ (
        let same : lines ++ [] ≡ lines = append-nil lines in
        let late = fault-late number lines [] g.others e g.hs g.next [] g.whole (subst (λ (ls : List (List ℕ)). reading number ls ≡ Err e) (sym same) h) in
        let inside = (hunks_fill (λ least p e h. hunk_fills least p.number p.rest e h) (length lines) 0 (ahead number lines) e h).inside long in
        absurd (omega (arith, late, inside)))
  ],
)
