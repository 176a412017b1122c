-- The room of records, one behind another.
use Rattle.std.proofs.Common.{◌≡◌, ℕ, ◌+◌, ◌-◌, ◌<◌, ◌≤◌, Bool, true, false, List, [], ◌∷◌, ◌++◌, length, drop, refl, sym, ap, subst, ◌∙◌, arith, append_assoc, append-nil, inl, inr}
use Rattle.std.specs.Prelude.{nat_le}
use Rattle.std.specs.List.{slice_range}
use Rattle.std.proofs.lemmas.Bool.{cases_lt}
use Rattle.std.proofs.lemmas.Bool.Decides.{nat_tests}
use Rattle.line_list.specs.Lines.{lines}
use Rattle.line_list.proofs.LineLemmas.{lines-end}
use Rattle.page_pair.specs.declared.room.Room.{Room}
use Rattle.page_pair.specs.Room.{no_room, room_with, room_from, HasRoom}
use Rattle.page_pair.specs.Reading.{IsPart, IsWhole}
use Rattle.page_pair.proofs.Cuts.{part-line, slice-length}

pub room-fits : (size n : ℕ) (r : Room) → r.filled + n ≤ size → room_with size r n ≡ record { pages = r.pages; filled = r.filled + n }
room-fits size n r le = let t : nat_le (r.filled + n) size ≡ true = grind (arith, nat_tests) in rw t refl

pub room-next : (size n : ℕ) (r : Room) → size < r.filled + n → room_with size r n ≡ record { pages = r.pages + 1; filled = n }
room-next size n r lt = let t : nat_le (r.filled + n) size ≡ false = grind (arith, nat_tests) in rw t refl

pub room-append : (size : ℕ) (r : Room) (ls more : List (List ℕ)) → room_from size r (ls ++ more) ≡ room_from size (room_from size r ls) more
room-append size r [] more = refl
room-append size r (line ∷ ls) more = room-append size (room_with size r (4 + length line)) ls more

-- pages never get fewer
pub room-up : (size n : ℕ) (r : Room) → r.pages ≤ (room_with size r n).pages
room-up size n r = elim (cases_lt size (r.filled + n)) [
  | inl lt ↦ let e : (room_with size r n).pages ≡ r.pages + 1 = ap (λ (x : Room). x.pages) (room-next size n r lt) in omega arith
  | inr ge ↦ let e : (room_with size r n).pages ≡ r.pages = ap (λ (x : Room). x.pages) (room-fits size n r (omega arith)) in omega arith
]

pub rooms-up : (size : ℕ) (r : Room) (ls : List (List ℕ)) → r.pages ≤ (room_from size r ls).pages
rooms-up size r [] = omega arith
rooms-up size r (line ∷ ls) =
    let a : r.pages ≤ (room_with size r (4 + length line)).pages = room-up size (4 + length line) r in
    let b : (room_with size r (4 + length line)).pages ≤ (room_from size (room_with size r (4 + length line)) ls).pages = rooms-up size (room_with size r (4 + length line)) ls in
    omega arith

pub room-more : (size : ℕ) (text : List ℕ) (at end : ℕ) (r : Room) (line : List ℕ) → HasRoom size text at r → lines (drop at text) ≡ line ∷ lines (drop end text) → HasRoom size text end (room_with size r (4 + length line))
room-more size text at end r line was first = record {
  front = was.front ++ line ∷ [];
  split = was.split ∙ ap (λ l. was.front ++ l) first ∙ sym (append_assoc was.front (line ∷ []) (lines (drop end text)));
  is = room-append size no_room was.front (line ∷ []) ∙ ap (λ x. room_with size x (4 + length line)) was.is;
}

pub room-none : (size : ℕ) (text : List ℕ) → HasRoom size text 0 no_room
room-none size text = record { front = []; split = refl; is = refl }

-- a whole line of a piece more
pub room-step : (size : ℕ) (text piece : List ℕ) (start : ℕ) (last : Bool) (at end p : ℕ) (r : Room) (q : ℕ) (s : Room) → IsPart text piece start last → IsWhole piece last at end → p ≡ start + at → q ≡ p + (end - at) → s ≡ room_with size r (4 + (end - at)) → HasRoom size text p r → HasRoom size text q s
room-step size text piece start last at end p r q s part whole e f g was =
    let low : at < end = whole.low in
    let high : end ≤ length piece = whole.high in
    let far : start + end ≡ q = omega arith in
    let len : room_with size r (4 + length (slice_range piece at end)) ≡ s = ap (λ n. room_with size r (4 + n)) (slice-length piece at end (omega arith) high) ∙ sym g in
    let line : lines (drop p text) ≡ slice_range piece at end ∷ lines (drop (start + end) text) = ap (λ k. lines (drop k text)) e ∙ part-line text piece start last at end part whole in
    subst (λ k. HasRoom size text k s) far (subst (HasRoom size text (start + end)) len (room-more size text p (start + end) r (slice_range piece at end) was line))

-- all lines
pub room-all : (size : ℕ) (text : List ℕ) (at : ℕ) (r : Room) → HasRoom size text at r → at ≡ length text → room_from size no_room (lines text) ≡ r
room-all size text at r was end = ap (room_from size no_room) (was.split ∙ ap (λ l. was.front ++ l) (lines-end text at end) ∙ append-nil was.front) ∙ was.is
