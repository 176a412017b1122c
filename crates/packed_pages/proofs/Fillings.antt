-- Lines filled in, one behind another.
use Rattle.std.proofs.Common.{◌≡◌, ℕ, ◌+◌, ◌-◌, ◌*◌, ◌^◌, ◌<◌, ◌≤◌, List, [], ◌∷◌, ◌++◌, length, get_or, take, drop, replicate, true, false, Option, Some, is_some, refl, sym, ap, subst, ◌∙◌, arith, append_assoc, length-append, length-drop, inl, inr}
use Rattle.std.specs.Prelude.{nat_le}
use Rattle.std.proofs.lemmas.Bool.{cases_lt}
use Rattle.std.proofs.lemmas.Bool.Decides.{nat_tests}
use Rattle.std.proofs.lemmas.Grind.{flat_map-append}
use Rattle.std.proofs.lemmas.List.{append-nil, length-replicate, drop-replicate, drop-append-le, length-take-le}
use Rattle.std.proofs.Math.ListN.{get_or-append}
use Rattle.std.proofs.Math.Seq.{take-append_seam, drop-append-add, get_or-append_seam}
use Rattle.std.specs.List.{flat_map}
use Rattle.std.specs.Int.{w32, w64, to_le_bytes}
use Rattle.outside.specs.ScratchView.{overwritten}
use Rattle.page_pair.specs.declared.room.Room.{Room}
use Rattle.page_pair.specs.Room.{no_room, room_with}
use Rattle.page_pair.specs.Records.{padded, record_of, Extends}
use Rattle.page_pair.proofs.Records.{over-length, padded-length}
use Rattle.page_pair.proofs.Rooms.{room-fits, room-next, room-append}
use Rattle.page_pair.proofs.Windows.{told-before}
use Rattle.packed_pages.specs.declared.layout.Layout.{Layout}
use Rattle.packed_pages.specs.declared.filling.Filling.{Filling}
use Rattle.packed_pages.specs.Packs.{packed_record, records, joined, page_with, entries_from, pages_of, pages_from}
use Rattle.packed_pages.specs.Filling.{IsReady, IsFilled}
use Rattle.packed_pages.proofs.Pages.{record-length, entries-length}

-- a record as wide as its line has no padding
record-same : (line : List ℕ) → record_of (4 + length line) line ≡ packed_record line
unfolding record_of packed_record
record-same line =
    let n : length (to_le_bytes w32 (length line) ++ line) ≡ 4 + length line = length-append (to_le_bytes w32 (length line)) line in
    let none : 4 + length line - length (to_le_bytes w32 (length line) ++ line) ≡ 0 = omega arith in
    ap (λ k. (to_le_bytes w32 (length line) ++ line) ++ replicate k 0) none ∙ append-nil (to_le_bytes w32 (length line) ++ line)

records-one : (line : List ℕ) → records (line ∷ []) ≡ packed_record line
records-one line = append-nil (packed_record line)

pub records-more : (ls : List (List ℕ)) (line : List ℕ) → records (ls ++ line ∷ []) ≡ records ls ++ packed_record line
records-more ls line = flat_map-append packed_record ls (line ∷ []) ∙ ap (λ r. records ls ++ r) (records-one line)

entries-more : (k : ℕ) (ps : List (List (List ℕ))) (p : List (List ℕ)) → entries_from k (ps ++ p ∷ []) ≡ entries_from k ps ++ to_le_bytes w64 (k + length (joined ps))
entries-more k [] p = let e : k ≡ k + 0 = omega arith in append-nil (to_le_bytes w64 k) ∙ ap (to_le_bytes w64) e
entries-more k (q ∷ ps) p =
    let n : k + length q + length (joined ps) ≡ k + length (q ++ joined ps) = (let a : length (q ++ joined ps) ≡ length q + length (joined ps) = length-append q (joined ps) in omega arith) in
    ap (λ r. to_le_bytes w64 k ++ r) (entries-more (k + length q) ps p ∙ ap (λ m. entries_from (k + length q) ps ++ to_le_bytes w64 m) n)
    ∙ sym (append_assoc (to_le_bytes w64 k) (entries_from (k + length q) ps) (to_le_bytes w64 (k + length (q ++ joined ps))))

pub joined-one : (ps : List (List (List ℕ))) (p : List (List ℕ)) → joined (ps ++ p ∷ []) ≡ joined ps ++ p
joined-one ps p = flat_map-append (λ q. q) ps (p ∷ []) ∙ ap (λ r. joined ps ++ r) (append-nil p)

-- an entry written over zero bytes
over-entry : (e f z : List ℕ) (m : ℕ) (w : List ℕ) → length w ≡ 8 → z ≡ replicate (8 + m) 0 → overwritten (e ++ z ++ f) (length e) w ≡ e ++ w ++ replicate m 0 ++ f
over-entry e f z m w eight is =
    let zeros : length z ≡ 8 + m = ap length is ∙ length-replicate (8 + m) 0 in
    let left : 8 + m - 8 ≡ m = omega arith in
    let all : e ++ z ++ f ≡ e ++ (z ++ f) = append_assoc e z f in
    let front : take (length e) (e ++ z ++ f) ≡ e = ap (take (length e)) all ∙ take-append_seam e (z ++ f) in
    let back : drop (length e + length w) (e ++ z ++ f) ≡ replicate m 0 ++ f =
    ap (λ n. drop (length e + n) (e ++ z ++ f)) eight
    ∙ ap (drop (length e + 8)) all
    ∙ drop-append-add e (z ++ f) 8
    ∙ drop-append-le 8 z f (omega arith)
    ∙ ap (λ r. drop 8 r ++ f) is
    ∙ ap (λ r. r ++ f) (drop-replicate 8 (8 + m) 0 ∙ ap (λ n. replicate n 0) left) in
    ap (λ x. x ++ w ++ drop (length e + length w) (e ++ z ++ f)) front
    ∙ ap (λ x. e ++ w ++ x) back
    ∙ sym (append_assoc (e ++ w) (replicate m 0) f)

-- the bytes once a page is written with its entry
pub flushed-bytes : (size n p first : ℕ) (full : List (List (List ℕ))) (last : List (List ℕ)) (b : List ℕ) → length full ≡ p → p < n → 1 + length (joined full) ≡ first → b ≡ entries_from 1 full ++ replicate (8 * (n - p)) 0 ++ flat_map (page_with size) full → overwritten b (p * 8) (to_le_bytes w64 first) ++ padded size (records last) ≡ entries_from 1 (full ++ last ∷ []) ++ replicate (8 * (n - (p + 1))) 0 ++ flat_map (page_with size) (full ++ last ∷ [])
unfolding page_with
flushed-bytes size n p first full last b many lt e is =
    let place : p * 8 ≡ length (entries_from 1 full) = (let l : length (entries_from 1 full) ≡ 8 * length full = entries-length 1 full in omega arith) in
    let count : 8 * (n - p) ≡ 8 + 8 * (n - (p + 1)) = omega arith in
    let page : flat_map (λ ls. padded size (records ls)) (full ++ last ∷ []) ≡ flat_map (λ ls. padded size (records ls)) full ++ padded size (records last) =
    flat_map-append (λ ls. padded size (records ls)) full (last ∷ []) ∙ ap (λ r. flat_map (λ ls. padded size (records ls)) full ++ r) (append-nil (padded size (records last))) in
    ap (λ x. overwritten x (p * 8) (to_le_bytes w64 first) ++ padded size (records last)) is
    ∙ ap (λ k. overwritten (entries_from 1 full ++ replicate (8 * (n - p)) 0 ++ flat_map (λ ls. padded size (records ls)) full) k (to_le_bytes w64 first) ++ padded size (records last)) place
    ∙ ap (λ x. x ++ padded size (records last)) (over-entry (entries_from 1 full) (flat_map (λ ls. padded size (records ls)) full) (replicate (8 * (n - p)) 0) (8 * (n - (p + 1))) (to_le_bytes w64 first) refl (ap (λ k. replicate k 0) count))
    ∙ append_assoc (entries_from 1 full ++ to_le_bytes w64 first ++ replicate (8 * (n - (p + 1))) 0) (flat_map (λ ls. padded size (records ls)) full) (padded size (records last))
    ∙ ap (λ x. entries_from 1 full ++ to_le_bytes w64 first ++ replicate (8 * (n - (p + 1))) 0 ++ x) (sym page)
    ∙ ap (λ x. x ++ replicate (8 * (n - (p + 1))) 0 ++ flat_map (λ ls. padded size (records ls)) (full ++ last ∷ [])) (ap (λ k. entries_from 1 full ++ to_le_bytes w64 k) (sym e) ∙ sym (entries-more 1 full last))

-- one record more on the page
pub filled-fits : (l : Layout) (told : Option (List ℕ)) (page next line : List ℕ) (f g : Filling) (ls : List (List ℕ)) → g.room ≡ record { pages = f.room.pages; filled = f.room.filled + (4 + length line) } → g.first ≡ f.first → g.count ≡ f.count + 1 → f.room.filled + (4 + length line) ≤ l.size → Extends page next f.room.filled (record_of (4 + length line) line) → IsFilled l told page f ls → IsFilled l told next g (ls ++ line ∷ [])
filled-fits l told page next line f g ls room first count fits made was =
    let wide : length (packed_record line) ≡ 4 + length line = record-length line in
    let pages : g.room.pages ≡ f.room.pages = ap (λ (r : Room). r.pages) room in
    let full : g.room.filled ≡ f.room.filled + (4 + length line) = ap (λ (r : Room). r.filled) room in
    let old : length (records was.last) ≡ f.room.filled = was.filled in
    let t : nat_le (length (records was.last) + (4 + length line)) l.size ≡ true = grind (arith, nat_tests) in
    let padded_ : length (record_of (4 + length line) line) ≡ 4 + length line = ap length (record-same line) ∙ wide in
    record {
      full = was.full;
      last = was.last ++ line ∷ [];
      many = was.many ∙ sym pages;
      filled = ap length (records-more was.last line) ∙ length-append (records was.last) (packed_record line) ∙ ap (λ n. n + length (packed_record line)) old ∙ ap (λ n. f.room.filled + n) wide ∙ sym full;
      counted = length-append ls (line ∷ []) ∙ ap (λ n. n + 1) was.counted ∙ sym count;
      first = was.first ∙ sym first;
      lines_ = sym (append_assoc (joined was.full) was.last (line ∷ [])) ∙ ap (λ x. x ++ line ∷ []) was.lines_;
      fits = was.fits;
      on = ap (λ n. take n next) (full ∙ ap (λ n. f.room.filled + n) (sym padded_)) ∙ made.is ∙ ap (λ x. x ++ record_of (4 + length line) line) was.on ∙ ap (λ x. records was.last ++ x) (record-same line) ∙ sym (records-more was.last line);
      bytes = λ b is. was.bytes b is ∙ ap (λ n. entries_from 1 was.full ++ replicate (8 * (l.pages - n)) 0 ++ flat_map (page_with l.size) was.full) (sym pages);
      greedy = λ more. ap (pages_of l.size) (append_assoc ls (line ∷ []) more) ∙ was.greedy (line ∷ more) ∙ rw t refl;
      room = room-append l.size no_room ls (line ∷ []) ∙ ap (λ r. room_with l.size r (4 + length line)) was.room ∙ room-fits l.size (4 + length line) f.room fits ∙ sym room;
    }

pub fits-one : (size : ℕ) (ps : List (List (List ℕ))) (p : List (List ℕ)) → ((i : ℕ) → i < length ps → length (records (get_or ps i [])) ≤ size) → length (records p) ≤ size → (i : ℕ) → i < length (ps ++ p ∷ []) → length (records (get_or (ps ++ p ∷ []) i [])) ≤ size
fits-one size ps p each one i lt =
    let n : length (ps ++ p ∷ []) ≡ length ps + 1 = length-append ps (p ∷ []) in
    elim (cases_lt i (length ps)) [
      | inl below ↦ subst (λ q. length (records q) ≤ size) (sym (get_or-append ps (p ∷ []) [] i below)) (each i below)
      | inr above ↦
          let e : length ps ≡ i = omega arith in
          subst (λ q. length (records q) ≤ size) (sym (ap (λ k. get_or (ps ++ p ∷ []) k []) (sym e) ∙ get_or-append_seam ps p [] [])) one
    ]

-- what is filled in once the page that is begun is written with its entry
pub page-flushed : (l : Layout) (told now : Option (List ℕ)) (page : List ℕ) (f : Filling) (ls : List (List ℕ)) (was : IsFilled l told page f ls) → f.room.pages < l.pages → is_some now ≡ is_some told → ((b : List ℕ) → told ≡ Some b → now ≡ Some (overwritten b (f.room.pages * 8) (to_le_bytes w64 f.first) ++ padded l.size (take f.room.filled page))) → (b : List ℕ) → now ≡ Some b → b ≡ entries_from 1 (was.full ++ was.last ∷ []) ++ replicate (8 * (l.pages - (f.room.pages + 1))) 0 ++ flat_map (page_with l.size) (was.full ++ was.last ∷ [])
page-flushed l told now page f ls was lt telling written b is =
    let a = told-before told now b telling is in
    let both : Some b ≡ Some (overwritten a.0 (f.room.pages * 8) (to_le_bytes w64 f.first) ++ padded l.size (take f.room.filled page)) = sym is ∙ written a.0 a.1 in
    let same : b ≡ overwritten a.0 (f.room.pages * 8) (to_le_bytes w64 f.first) ++ padded l.size (take f.room.filled page) = cc in
    same
    ∙ ap (λ x. overwritten a.0 (f.room.pages * 8) (to_le_bytes w64 f.first) ++ padded l.size x) was.on
    ∙ flushed-bytes l.size l.pages f.room.pages f.first was.full was.last a.0 was.many lt was.first (was.bytes a.0 a.1)

-- the page is full, and the record begins the next one
pub filled-next : (l : Layout) (told now : Option (List ℕ)) (page mid next line : List ℕ) (f g : Filling) (ls : List (List ℕ)) → g.room ≡ record { pages = f.room.pages + 1; filled = 4 + length line } → g.first ≡ f.count + 1 → g.count ≡ f.count + 1 → l.size < f.room.filled + (4 + length line) → f.room.filled ≤ l.size → f.room.pages < l.pages → is_some now ≡ is_some told → ((b : List ℕ) → told ≡ Some b → now ≡ Some (overwritten b (f.room.pages * 8) (to_le_bytes w64 f.first) ++ padded l.size (take f.room.filled page))) → Extends mid next 0 (record_of (4 + length line) line) → IsFilled l told page f ls → IsFilled l now next g (ls ++ line ∷ [])
filled-next l told now page mid next line f g ls room first count over filled lt telling written made was =
    let wide : length (packed_record line) ≡ 4 + length line = record-length line in
    let pages : g.room.pages ≡ f.room.pages + 1 = ap (λ (r : Room). r.pages) room in
    let full : g.room.filled ≡ 4 + length line = ap (λ (r : Room). r.filled) room in
    let old : length (records was.last) ≡ f.room.filled = was.filled in
    let t : nat_le (length (records was.last) + (4 + length line)) l.size ≡ false = grind (arith, nat_tests) in
    let padded_ : length (record_of (4 + length line) line) ≡ 4 + length line = ap length (record-same line) ∙ wide in
    let all : joined (was.full ++ was.last ∷ []) ≡ ls = joined-one was.full was.last ∙ was.lines_ in
    let c : length ls ≡ f.count = was.counted in
    record {
      full = was.full ++ was.last ∷ [];
      last = line ∷ [];
      many = length-append was.full (was.last ∷ []) ∙ ap (λ n. n + 1) was.many ∙ sym pages;
      filled = ap length (records-one line) ∙ wide ∙ sym full;
      counted = length-append ls (line ∷ []) ∙ ap (λ n. n + 1) was.counted ∙ sym count;
      first = (let n : length (joined (was.full ++ was.last ∷ [])) ≡ length ls = ap length all in omega arith);
      lines_ = ap (λ x. x ++ line ∷ []) all;
      fits = fits-one l.size was.full was.last was.fits (omega arith);
      on = ap (λ n. take n next) (let z : g.room.filled ≡ 0 + length (record_of (4 + length line) line) = omega arith in z) ∙ made.is ∙ record-same line ∙ sym (records-one line);
      bytes = λ b is. page-flushed l told now page f ls was lt telling written b is ∙ ap (λ n. entries_from 1 (was.full ++ was.last ∷ []) ++ replicate (8 * (l.pages - n)) 0 ++ flat_map (page_with l.size) (was.full ++ was.last ∷ [])) (sym pages);
      greedy = λ more. ap (pages_of l.size) (append_assoc ls (line ∷ []) more) ∙ was.greedy (line ∷ more) ∙ rw t (sym (append_assoc was.full (was.last ∷ []) (pages_from l.size (line ∷ []) more)));
      room = room-append l.size no_room ls (line ∷ []) ∙ ap (λ r. room_with l.size r (4 + length line)) was.room ∙ room-next l.size (4 + length line) f.room over ∙ sym room;
    }

pub ready-next : (l : Layout) (told now : Option (List ℕ)) (page : List ℕ) (f g : Filling) → f.room.filled ≤ length page → IsReady l told f → f.room.pages < l.pages → g.room.pages ≡ f.room.pages + 1 → g.room.filled ≤ l.size → g.count ≤ 2 ^ 40 → is_some now ≡ is_some told → ((b : List ℕ) → told ≡ Some b → now ≡ Some (overwritten b (f.room.pages * 8) (to_le_bytes w64 f.first) ++ padded l.size (take f.room.filled page))) → IsReady l now g
ready-next l told now page f g le ready lt pages filled few telling written = record {
  filled = filled;
  pages = omega arith;
  few = few;
  behind = λ b is.
      let a = told-before told now b telling is in
      let both : Some b ≡ Some (overwritten a.0 (f.room.pages * 8) (to_le_bytes w64 f.first) ++ padded l.size (take f.room.filled page)) = sym is ∙ written a.0 a.1 in
      let same : b ≡ overwritten a.0 (f.room.pages * 8) (to_le_bytes w64 f.first) ++ padded l.size (take f.room.filled page) = cc in
      let was : length a.0 ≡ 8 * l.pages + f.room.pages * l.size = ready.behind a.0 a.1 in
      let entry : length (overwritten a.0 (f.room.pages * 8) (to_le_bytes w64 f.first)) ≡ length a.0 = over-length a.0 (to_le_bytes w64 f.first) (f.room.pages * 8) (eight (f.room.pages * 8) (to_le_bytes w64 f.first) (length a.0) refl (omega arith)) in
      let short : length (take f.room.filled page) ≡ f.room.filled = length-take-le f.room.filled page le in
      let last : length (padded l.size (take f.room.filled page)) ≡ l.size = padded-length l.size (take f.room.filled page) (let r : f.room.filled ≤ l.size = ready.filled in omega arith) in
      let row : (f.room.pages + 1) * l.size ≡ f.room.pages * l.size + l.size = grind arith in
      ap length same ∙ length-append (overwritten a.0 (f.room.pages * 8) (to_le_bytes w64 f.first)) (padded l.size (take f.room.filled page)) ∙ ap (λ n. n + length (padded l.size (take f.room.filled page))) (entry ∙ was) ∙ ap (λ n. 8 * l.pages + f.room.pages * l.size + n) last ∙ (let m : g.room.pages * l.size ≡ (f.room.pages + 1) * l.size = ap (λ n. n * l.size) pages in omega arith);
} where
  eight : (at : ℕ) (w : List ℕ) (n : ℕ) → length w ≡ 8 → at + 8 ≤ n → at + length w ≤ n
  eight at w n e le = omega arith

-- an entry that is written leaves as many bytes
pub behind-kept : (told mid : Option (List ℕ)) (at n first : ℕ) → is_some mid ≡ is_some told → ((b : List ℕ) → told ≡ Some b → length b ≡ n) → at + 8 ≤ n → ((b : List ℕ) → told ≡ Some b → mid ≡ Some (overwritten b at (to_le_bytes w64 first))) → (b : List ℕ) → mid ≡ Some b → length b ≡ n
behind-kept told mid at n first telling was le written b is =
    let a = told-before told mid b telling is in
    let both : Some b ≡ Some (overwritten a.0 at (to_le_bytes w64 first)) = sym is ∙ written a.0 a.1 in
    let same : b ≡ overwritten a.0 at (to_le_bytes w64 first) = cc in
    let len : length a.0 ≡ n = was a.0 a.1 in
    ap length same ∙ over-length a.0 (to_le_bytes w64 first) at (eight at (to_le_bytes w64 first) (length a.0) refl (omega arith)) ∙ len where
      eight : (at : ℕ) (w : List ℕ) (n : ℕ) → length w ≡ 8 → at + 8 ≤ n → at + length w ≤ n
      eight at w n e le = omega arith

pub line-length : (page : List ℕ) (from n size : ℕ) → length page ≡ size → from + n ≤ size → length (take n (drop from page)) ≡ n
line-length page from n size e le = let left : length (drop from page) ≡ length page - from = length-drop from page in length-take-le n (drop from page) (omega arith)
