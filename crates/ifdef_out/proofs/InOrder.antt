-- The edits of a change that was placed stand in the order of the lines.
use Rattle.std.proofs.Common.{◌≡◌, ℕ, zero, suc, ◌+◌, ◌-◌, ◌<◌, ◌≤◌, ◌&&◌, List, [], ◌∷◌, ◌++◌, length, reverse, map, flat_map, take, drop, get_or, Bool, true, false, cond, refl, sym, ap, subst, ◌∙◌, arith, Option, Some, None}
use Rattle.std.specs.Prelude.{◌==◌}
use Rattle.std.specs.List.{prefix_len, range_with_len}
use Rattle.std.proofs.lemmas.List.{append-nil, reverse-append}
use Rattle.std.proofs.lemmas.List.Concat.{flat_map-append}
use Rattle.std.proofs.lemmas.Bool.Decides.{nat_tests}
use Rattle.hunk_core.specs.declared.Side.{Side}
use Rattle.hunk_core.specs.declared.Side.TheVariants.{Forward}
use Rattle.hunk_core.specs.declared.Mark.{Mark}
use Rattle.hunk_core.specs.declared.Mark.TheVariants.{Keep, Drop, Add}
use Rattle.hunk_core.specs.declared.Hunk.{Hunk}
use Rattle.hunk_core.specs.declared.HunkLine.{HunkLine}
use Rattle.hunk_core.specs.PlainHunk.{PlainHunk, bytes_at, old_lines}
use Rattle.hunk_core.specs.Sides.{taken_count}
use Rattle.hunk_core.specs.Turned.{trailing, taken_mark}
use Rattle.hunk_core.proofs.TurnedLemmas.{is_kept_line}
use Rattle.hunk_place.specs.Order.{from_to}
use Rattle.hunk_place.specs.Taken.{taken}
use Rattle.hunk_place.specs.Verdicts.{spots, spot, after_hunk, adds, drops}
use Rattle.hunk_place.specs.declared.PlaceState.{PlaceState}
use Rattle.hunk_place.specs.declared.Spot.{Spot}
use Rattle.hunk_place.proofs.TakenLemmas.{taken-trailing}
use Rattle.ed_form.specs.PlainEdit.{PlainEdit, AreLawful, lowest}
use Rattle.hunk_apply.specs.Applied.{taken_all}
use Rattle.hunk_apply.specs.Body.{side_body}
use Rattle.hunk_apply.specs.Splice.{Edit, add, drop_line, body_edits, marked_edits, hunk_edits, all_edits}
use Rattle.hunk_apply.specs.Passage.{width}
use Rattle.hunk_apply.proofs.BodyLemmas.{marked-width, body-is, edits-next, rest-edits, place-more, place-within, post-old, post-fits, at-place}
use Rattle.hunk_apply.proofs.FoldLemmas.{edits-cons, edits-nil, spots-cons}
use Rattle.hunk_apply.proofs.HunkLemmas.{no-edits, old-length, trailing-old}
use Rattle.hunk_apply.proofs.PlaceLemmas.{spot-behind}
use Rattle.hunk_apply.proofs.ScriptLemmas.{EndWithin}
use Rattle.ifdef_out.specs.Chain.{next_gap, last_at, AreInOrder}
use Rattle.ifdef_out.specs.Placed.{command_edits, script_edits}
use Rattle.ifdef_out.proofs.SpotLemmas.{spot-within}

-- edits in their order from line q on, none behind gap m
abbrev pub OrderTo : ℕ → ℕ → ℕ → List Edit → Type 0
OrderTo n q m [] = q ≤ m
OrderTo n q m (e ∷ es) = (q ≤ e.at) × (e.at ≤ last_at n e.added) × OrderTo n (next_gap e.at e.added) m es

order-sooner : (n q r : ℕ) (es : List Edit) → q ≤ r → AreInOrder n r es → AreInOrder n q es
order-sooner n q r [] le h = tt
order-sooner n q r (e ∷ es) le h = let at : r ≤ e.at = h.0 in (omega arith, h.1, h.2)

to-sooner : (n q r m : ℕ) (es : List Edit) → q ≤ r → OrderTo n r m es → OrderTo n q m es
to-sooner n q r m [] le h = let at : r ≤ m = h in omega arith
to-sooner n q r m (e ∷ es) le h = let at : r ≤ e.at = h.0 in (omega arith, h.1, h.2)

to-more : (n q m k : ℕ) (es : List Edit) → m ≤ k → OrderTo n q m es → OrderTo n q k es
to-more n q m k [] le h = let at : q ≤ m = h in omega arith
to-more n q m k (e ∷ es) le h = (h.0, h.1, to-more n (next_gap e.at e.added) m k es le h.2)

to-then : (n q m : ℕ) (es fs : List Edit) → OrderTo n q m es → AreInOrder n m fs → AreInOrder n q (es ++ fs)
to-then n q m [] fs h k = order-sooner n q m fs h k
to-then n q m (e ∷ es) fs h k = (h.0, h.1, to-then n (next_gap e.at e.added) m es fs h.2 k)

to-both : (n q m k : ℕ) (es fs : List Edit) → OrderTo n q m es → OrderTo n m k fs → OrderTo n q k (es ++ fs)
to-both n q m k [] fs h l = to-sooner n q m k fs h l
to-both n q m k (e ∷ es) fs h l = (h.0, h.1, to-both n (next_gap e.at e.added) m k es fs h.2 l)

to-end : (n q m : ℕ) (es : List Edit) → OrderTo n q m es → AreInOrder n q es
to-end n q m [] h = tt
to-end n q m (e ∷ es) h = (h.0, h.1, to-end n (next_gap e.at e.added) m es h.2)

-- one line of a body
marked-order : (n r q m w : ℕ) (t : Mark) (line : List ℕ) (rest : List Edit) → w ≡ width Forward t → r ≤ q → q + w ≤ m → m ≤ n + 1 → ((s : ℕ) → s ≤ q + w → OrderTo n s m rest) → OrderTo n r m (marked_edits t q line (λ _. rest))
marked-order n r q m w Keep line rest is le within high more = more r (omega arith)
marked-order n r q m w Drop line rest is le within high more = (le, omega arith, more (q + 1) (omega arith))
marked-order n r q m w Add line rest is le within high more = (le, omega arith, more q (omega arith))

-- the lines of a body, but for trailing context
module _ (text : List ℕ) (side : Side) (items : List HunkLine) (n at m : ℕ) (is : m + prefix_len is_kept_line (reverse items) ≡ at + taken_count side items) (high : m ≤ n + 1) where
  lines-order : (j k q r : ℕ) → k + j + prefix_len is_kept_line (reverse items) ≡ length items → q ≡ at + taken_count side (take k items) → r ≤ q → q ≤ m → OrderTo n r m (body_edits q (side_body text side (drop k items)))
  lines-order zero k q r sum place le within =
      subst (OrderTo n r m) (sym (rest-edits text side items q k (length items) (omega arith) (omega arith))) (let x : r ≤ m = omega arith in x)
  lines-order (suc j) k q r sum place le within =
      let p : (l : HunkLine) × (l ≡ get_or items k l) = at-place items k (omega arith) in
      let more : q + width side p.0.mark ≡ at + taken_count side (take (k + 1) items) = place-more side items k q at p.0 place (omega arith) p.1 in
      let below : q + width side p.0.mark ≤ at + taken_count side items - prefix_len is_kept_line (reverse items) = place-within side items k q at p.0 place (omega arith) p.1 in
      let rest : List Edit = body_edits (q + width side p.0.mark) (side_body text side (drop (k + 1) items)) ++ [] in
      let next : body_edits q (side_body text side (drop k items)) ≡ marked_edits (taken_mark side p.0.mark) q (bytes_at text p.0.span) (λ _. body_edits (q + width side p.0.mark) (side_body text side (drop (k + 1) items)) ++ []) =
      sym (append-nil (body_edits q (side_body text side (drop k items)))) ∙ edits-next text side items k q p.0 [] (omega arith) p.1 in
      subst (OrderTo n r m) (sym next)
      (marked-order n r q m (width side p.0.mark) (taken_mark side p.0.mark) (bytes_at text p.0.span) rest (marked-width side p.0.mark (taken_mark side p.0.mark) refl) le (omega arith) high
      (λ s lt. subst (OrderTo n s m) (sym (append-nil (body_edits (q + width side p.0.mark) (side_body text side (drop (k + 1) items))))) (lines-order j (k + 1) (q + width side p.0.mark) s (omega arith) more lt (omega arith))))

-- the edits of a hunk that stands at a line
body-order : (text : List ℕ) (side : Side) (h : Hunk) (n at m r : ℕ) → m + trailing (taken text side h).body ≡ at + length (old_lines (taken text side h).body) → m ≤ n + 1 → r ≤ at → OrderTo n r m (body_edits at (taken text side h).body)
body-order text side h n at m r is high le =
    let post : trailing (taken text side h).body ≡ prefix_len is_kept_line (reverse h.body.items) = taken-trailing text side h in
    let old : length (old_lines (taken text side h).body) ≡ taken_count side h.body.items = old-length text side h in
    let fits : prefix_len is_kept_line (reverse h.body.items) ≤ length h.body.items = post-fits h.body.items in
    let kept : prefix_len is_kept_line (reverse h.body.items) ≤ taken_count side h.body.items = post-old side h.body.items in
    subst (λ ms. OrderTo n r m (body_edits at ms)) (sym (body-is text side h))
    (lines-order text side h.body.items n at m (omega arith) high (length h.body.items - prefix_len is_kept_line (reverse h.body.items)) 0 at r (omega arith) (omega arith) le (omega arith))

eq-zero : (k : ℕ) → (k == 0) ≡ true → k ≡ 0
eq-zero k t = grind (arith, nat_tests)

-- the edits of a hunk, and the state behind it
hunk-order : (lines : List (List ℕ)) (text : List ℕ) (side : Side) (h : Hunk) (state : PlaceState) (place : Option Spot)
    → ((s : Spot) → place ≡ Some s → state.consumed < s.line) → ((s : Spot) → place ≡ Some s → s.line + length (old_lines (taken text side h).body) ≤ length lines + 1 + trailing (taken text side h).body)
    → OrderTo (length lines) (state.consumed + 1) ((after_hunk (taken text side h) state place).consumed + 1) (hunk_edits place (taken text side h))
hunk-order lines text side h state None behind room = omega arith
hunk-order lines text side h state (Some s) behind room =
    let old : trailing (taken text side h).body ≤ length (old_lines (taken text side h).body) = trailing-old text side h in
    let lt : state.consumed < s.line = behind s refl in
    let within : s.line + length (old_lines (taken text side h).body) ≤ length lines + 1 + trailing (taken text side h).body = room s refl in
    let to : ℕ = (s.line - 1 + length (old_lines (taken text side h).body)) - trailing (taken text side h).body in
    by (adds (taken text side h) == 0) (drops (taken text side h) == 0) refl refl
    (body-order text side h (length lines) s.line (((s.line - 1 + length (old_lines (taken text side h).body)) - trailing (taken text side h).body) + 1) (state.consumed + 1) (omega arith) (omega arith) (omega arith))
  where
    by : (a d : Bool) → (adds (taken text side h) == 0) ≡ a → (drops (taken text side h) == 0) ≡ d
        → OrderTo (length lines) (state.consumed + 1) (((s.line - 1 + length (old_lines (taken text side h).body)) - trailing (taken text side h).body) + 1) (body_edits s.line (taken text side h).body)
        → OrderTo (length lines) (state.consumed + 1) (cond (a && d) state.consumed ((s.line - 1 + length (old_lines (taken text side h).body)) - trailing (taken text side h).body) + 1) (body_edits s.line (taken text side h).body)
    by true true ia id all =
        let none : body_edits s.line (taken text side h).body ≡ [] = no-edits (taken text side h).body s.line (eq-zero (adds (taken text side h)) ia) (eq-zero (drops (taken text side h)) id) in
        subst (OrderTo (length lines) (state.consumed + 1) (state.consumed + 1)) (sym none) (let x : state.consumed + 1 ≤ state.consumed + 1 = omega arith in x)
    by true false ia id all = all
    by false d ia id all = all

-- the edits of all hunks
pub hunks-order : (lines : List (List ℕ)) (fuzz : ℕ) (loose : Bool) (text : List ℕ) (side : Side) (hs : List Hunk) (state : PlaceState) → AreInOrder (length lines) (state.consumed + 1) (all_edits (spots lines fuzz loose state (taken_all text side hs)) (taken_all text side hs))
hunks-order lines fuzz loose text side [] state = subst (AreInOrder (length lines) (state.consumed + 1)) (sym (edits-nil (spots lines fuzz loose state []))) tt
hunks-order lines fuzz loose text side (h ∷ hs) state =
    let c : PlainHunk = taken text side h in
    let place : Option Spot = spot lines fuzz loose (taken text side h) state in
    let next : PlaceState = after_hunk (taken text side h) state (spot lines fuzz loose (taken text side h) state) in
    subst (AreInOrder (length lines) (state.consumed + 1))
    (sym (ap (λ ps. all_edits ps (taken_all text side (h ∷ hs))) (spots-cons lines fuzz loose state c (taken_all text side hs)) ∙ edits-cons place (spots lines fuzz loose next (taken_all text side hs)) c (taken_all text side hs)))
    (to-then (length lines) (state.consumed + 1) (next.consumed + 1) (hunk_edits place c) (all_edits (spots lines fuzz loose next (taken_all text side hs)) (taken_all text side hs))
    (hunk-order lines text side h state place (λ s is. spot-behind lines fuzz loose (taken text side h) state s is) (λ s is. spot-within lines fuzz loose (taken text side h) state s is))
    (hunks-order lines fuzz loose text side hs next))

-- the lines that a command drops, and those that it adds
drops-order : (n q k : ℕ) → q + k ≤ n + 1 → OrderTo n q (q + k) (map drop_line (range_with_len q k))
drops-order n q zero le = omega arith
drops-order n q (suc k) le =
    let next : (q + 1) + k ≡ q + suc k = omega arith in
    (omega arith, omega arith, subst (λ m. OrderTo n (q + 1) m (map drop_line (range_with_len (q + 1) k))) next (drops-order n (q + 1) k (omega arith)))

adds-order : (n q : ℕ) (ls : List (List ℕ)) → q ≤ n + 1 → OrderTo n q q (map (add q) ls)
adds-order n q [] le = omega arith
adds-order n q (l ∷ ls) le = (omega arith, le, adds-order n q ls le)

command-order : (n : ℕ) (e : PlainEdit) → e.first ≤ e.last + 1 → e.last ≤ n → OrderTo n e.first (e.last + 1) (command_edits e)
command-order n e order within =
    let to : e.first + (suc e.last - e.first) ≡ e.last + 1 = omega arith in
    to-both n e.first (e.last + 1) (e.last + 1) (map drop_line (from_to e.first e.last)) (map (add (e.last + 1)) e.added)
    (subst (λ m. OrderTo n e.first m (map drop_line (from_to e.first e.last))) to (drops-order n e.first (suc e.last - e.first) (omega arith)))
    (adds-order n (e.last + 1) e.added (omega arith))

-- the edits of the commands before the last one stand behind it
pub script-last : (e : PlainEdit) (es : List PlainEdit) → script_edits (e ∷ es) ≡ script_edits es ++ command_edits e
script-last e es =
    ap (flat_map command_edits) (reverse-append (e ∷ []) es)
    ∙ flat_map-append command_edits (reverse es) (e ∷ [])
    ∙ ap (λ r. script_edits es ++ r) (append-nil (command_edits e))

script-to : (n b m : ℕ) (es : List PlainEdit) → b ≤ m → 1 ≤ m → AreLawful b es → EndWithin n es → OrderTo n 1 m (script_edits es)
script-to n b m [] le low h w = low
script-to n b m (e ∷ es) le low h w =
    let first : e.first ≤ e.last + 1 = h.0.order in
    let start : 1 ≤ e.first = h.0.start in
    let last : e.last < b = h.1 in
    subst (OrderTo n 1 m) (sym (script-last e es))
    (to-both n 1 e.first m (script_edits es) (command_edits e)
    (script-to n (lowest e) e.first es (omega arith) start h.2 w.1)
    (to-more n e.first (e.last + 1) m (command_edits e) (omega arith) (command-order n e first w.0)))

pub script-order : (n b : ℕ) (es : List PlainEdit) → 1 ≤ b → AreLawful b es → EndWithin n es → AreInOrder n 1 (script_edits es)
script-order n b es low h w = to-end n 1 b (script_edits es) (script-to n b b es (omega arith) low h w)
