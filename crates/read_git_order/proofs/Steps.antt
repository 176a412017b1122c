-- What loops of the order have done, and what is left to them.
use Rattle.std.proofs.Common.{◌≡◌, ℕ, zero, suc, ◌+◌, ◌-◌, ◌<◌, ◌≤◌, Bool, true, false, cond, List, [], ◌∷◌, ◌++◌, Option, None, Some, length, drop, get_or, slice_range, refl, sym, ap, subst, ◌∙◌, arith, append_assoc}
use Rattle.std.specs.Prelude.{unwrap_or}
use Rattle.std.specs.List.{position, range_with_len, remove}
use Rattle.std.proofs.lemmas.List.{append-nil, drop_all}
use Rattle.std.proofs.lemmas.List.Edits.{length-remove}
use Rattle.line_list.specs.Lines.{lines, IsLineAt}
use Rattle.patch_header.proofs.Rows.{line_length}
use Rattle.read_git_order.specs.declared.pieces.Piece.{Piece}
use Rattle.read_git_order.specs.declared.pieces.GitLinePlaces.{GitLinePlaces}
use Rattle.read_git_order.specs.Pieces.{found_from, no_places, with_line}
use Rattle.read_git_order.specs.Waiting.{digits, is_digit}
use Rattle.read_git_order.specs.Batches.{begun, ended, go_on, in_batch, in_batches, in_order, leader, next_of, taken}
use Rattle.read_git_order.specs.Ordered.{body_at, front_at, laid_from}

-- ---- lines in front of hunks

pub record HasLooked (bytes : List ℕ) (found : GitLinePlaces) (at : ℕ) : Type 0 where
  pub within : at ≤ length bytes
  pub all : found_from found at (lines (drop at bytes)) ≡ found_from no_places 0 (lines bytes)

found-cons : (found : GitLinePlaces) (at : ℕ) (line : List ℕ) (rest : List (List ℕ)) → found_from found at (line ∷ rest) ≡ found_from (with_line found at line) (at + length line) rest
unfolding found_from
found-cons found at line rest = refl

found-end : (found : GitLinePlaces) (at : ℕ) → found_from found at [] ≡ found
unfolding found_from
found-end found at = refl

pub looked-none : (bytes : List ℕ) → HasLooked bytes no_places 0
looked-none bytes = record { within = omega arith; all = refl }

pub looked-more : (bytes : List ℕ) (found more : GitLinePlaces) (at end : ℕ) → HasLooked bytes found at → IsLineAt bytes at end → more ≡ with_line found at (slice_range bytes at end) → HasLooked bytes more end
looked-more bytes found more at end so line is =
    let one = slice_range bytes at end in
    record {
      within = line.high;
      all =
          ap (λ f. found_from f end (lines (drop end bytes))) is
          ∙ ap (λ n. found_from (with_line found at one) n (lines (drop end bytes))) (sym (line_length bytes at end line))
          ∙ sym (found-cons found at one (lines (drop end bytes)))
          ∙ ap (found_from found at) (sym line.first)
          ∙ so.all;
    }

pub looked-all : (bytes : List ℕ) (found : GitLinePlaces) (at : ℕ) → HasLooked bytes found at → lines (drop at bytes) ≡ [] → found ≡ found_from no_places 0 (lines bytes)
looked-all bytes found at so none = sym (found-end found at) ∙ ap (found_from found at) (sym none) ∙ so.all

-- ---- digits

pub record HasCounted (bytes : List ℕ) (count : ℕ) : Type 0 where
  pub within : count ≤ length bytes
  pub all : count + digits (drop count bytes) ≡ digits bytes

digits-cons : (b : ℕ) (bs : List ℕ) → digits (b ∷ bs) ≡ cond (is_digit b) (suc (digits bs)) zero
unfolding digits
digits-cons b bs = refl

digits-end : digits [] ≡ zero
unfolding digits
digits-end = refl

drop-next : (bytes : List ℕ) (n d : ℕ) → n < length bytes → drop n bytes ≡ get_or bytes n d ∷ drop (suc n) bytes
drop-next [] n d lt = absurd (omega (arith, lt))
drop-next (b ∷ bs) zero d lt = refl
drop-next (b ∷ bs) (suc n) d lt = drop-next bs n d (omega (arith, lt))

add-one : (n : ℕ) → suc n ≡ n + 1
add-one n = omega arith

drop-suc : (bytes : List ℕ) (n d : ℕ) → n < length bytes → drop n bytes ≡ get_or bytes n d ∷ drop (n + 1) bytes
drop-suc bytes n d lt = drop-next bytes n d lt ∙ ap (λ k. get_or bytes n d ∷ drop k bytes) (add-one n)

pub counted-none : (bytes : List ℕ) → HasCounted bytes 0
counted-none bytes = let here : digits (drop 0 bytes) ≡ digits bytes = refl in record { within = omega arith; all = omega (arith, here) }

pub counted-more : (bytes : List ℕ) (count b : ℕ) → HasCounted bytes count → count < length bytes → b ≡ get_or bytes count 0 → is_digit b ≡ true → HasCounted bytes (count + 1)
counted-more bytes count b so lt is digit =
    let here : digits (drop count bytes) ≡ suc (digits (drop (count + 1) bytes)) =
    ap digits (drop-suc bytes count 0 lt)
    ∙ ap (λ x. digits (x ∷ drop (count + 1) bytes)) (sym is)
    ∙ digits-cons b (drop (count + 1) bytes)
    ∙ ap (λ v. cond v (suc (digits (drop (count + 1) bytes))) zero) digit in
    record { within = omega (arith, lt); all = omega (arith, here, so.all) }

pub counted-stop : (bytes : List ℕ) (count b : ℕ) → HasCounted bytes count → count < length bytes → b ≡ get_or bytes count 0 → is_digit b ≡ false → count ≡ digits bytes
counted-stop bytes count b so lt is digit =
    let here : digits (drop count bytes) ≡ zero =
    ap digits (drop-suc bytes count 0 lt)
    ∙ ap (λ x. digits (x ∷ drop (count + 1) bytes)) (sym is)
    ∙ digits-cons b (drop (count + 1) bytes)
    ∙ ap (λ v. cond v (suc (digits (drop (count + 1) bytes))) zero) digit in
    omega (arith, here, so.all)

pub counted-all : (bytes : List ℕ) (count : ℕ) → HasCounted bytes count → length bytes ≤ count → count ≡ digits bytes
counted-all bytes count so le =
    let here : digits (drop count bytes) ≡ zero = ap digits (drop_all count bytes le) ∙ digits-end in
    omega (arith, here, so.all)

-- ---- the next of those that are left

pub leader-zero : (w : ℕ → ℕ → Bool) (left : List ℕ) (k : ℕ) → leader zero w left k ≡ None
unfolding leader
leader-zero w left k = refl

pub leader-suc : (most : ℕ) (w : ℕ → ℕ → Bool) (left : List ℕ) (k : ℕ) → leader (suc most) w left k ≡ go_on (leader most w left) k (position (w (get_or left k 0)) left)
unfolding leader
leader-suc most w left k = refl

module _ (w : ℕ → ℕ → Bool) (left : List ℕ) where
  pub record IsLed (place most : ℕ) : Type 0 where
    pub within : place < length left
    pub few : most ≤ length left
    pub same : leader most w left place ≡ leader (length left) w left 0

  pub led-none : 0 < length left → IsLed 0 (length left)
  led-none some = record { within = some; few = omega arith; same = refl }

  most-suc : (most : ℕ) → 0 < most → most ≡ suc (most - 1)
  most-suc most some = omega (arith, some)

  step : (place most : ℕ) (one : ℕ) (r : Option ℕ) → 0 < most → one ≡ get_or left place 0 → r ≡ position (w one) left → leader most w left place ≡ go_on (leader (most - 1) w left) place r
  step place most one r some is found =
      ap (λ n. leader n w left place) (most-suc most some)
      ∙ leader-suc (most - 1) w left place
      ∙ ap (λ x. go_on (leader (most - 1) w left) place (position (w x) left)) (sym is)
      ∙ ap (go_on (leader (most - 1) w left) place) (sym found)

  pub led-more : (place most one next : ℕ) → IsLed place most → 0 < most → one ≡ get_or left place 0 → Some next ≡ position (w one) left → next < length left → IsLed next (most - 1)
  led-more place most one next so some is found lt =
      record { within = lt; few = omega (arith, so.few); same = sym (step place most one (Some next) some is found) ∙ so.same }

  pub led-stop : (place most one : ℕ) → IsLed place most → 0 < most → one ≡ get_or left place 0 → None ≡ position (w one) left → place ≡ next_of w left
  led-stop place most one so some is found =
      ap (λ (o : Option ℕ). unwrap_or o 0) (sym (step place most one None some is found) ∙ so.same)

  pub led-round : (place most : ℕ) → IsLed place most → most ≤ 0 → 0 ≡ next_of w left
  led-round place most so none =
      let zero-is : most ≡ zero = omega (arith, none) in
      ap (λ (o : Option ℕ). unwrap_or o 0) (sym (leader-zero w left place) ∙ ap (λ n. leader n w left place) (sym zero-is) ∙ so.same)

-- ---- those that were taken

pub taken-zero : (w : ℕ → ℕ → Bool) (left : List ℕ) → taken zero w left ≡ []
unfolding taken
taken-zero w left = refl

pub taken-suc : (most : ℕ) (w : ℕ → ℕ → Bool) (left : List ℕ) → taken (suc most) w left ≡ get_or left (next_of w left) 0 ∷ taken most w (remove left (next_of w left))
unfolding taken
taken-suc most w left = refl

same-at : (xs : List ℕ) (n d e : ℕ) → n < length xs → get_or xs n d ≡ get_or xs n e
same-at [] n d e lt = absurd (omega (arith, lt))
same-at (x ∷ xs) zero d e lt = refl
same-at (x ∷ xs) (suc n) d e lt = same-at xs n d e (omega (arith, lt))

module _ (w : ℕ → ℕ → Bool) (whole : List ℕ) where
  pub record HasTaken (order left : List ℕ) : Type 0 where
    pub all : order ++ taken (length left) w left ≡ whole

  pub taken-more : (order more left later : List ℕ) (next one : ℕ) → HasTaken order left → next ≡ next_of w left → next < length left → one ≡ get_or left next one → later ≡ remove left next → more ≡ order ++ one ∷ [] → HasTaken more later
  taken-more order more left later next one so is lt at rest adds =
      let value : one ≡ get_or left next 0 = at ∙ same-at left next one 0 lt in
      let long : length left ≡ suc (length later) = omega (arith, ap length rest, length-remove left next lt) in
      record {
        all =
            ap (λ l. l ++ taken (length later) w later) adds
            ∙ append_assoc order (one ∷ []) (taken (length later) w later)
            ∙ ap (λ x. order ++ (x ∷ taken (length later) w later)) (value ∙ ap (λ n. get_or left n 0) is)
            ∙ ap (λ l. order ++ (get_or left (next_of w left) 0 ∷ taken (length later) w l)) (rest ∙ ap (remove left) is)
            ∙ ap (λ l. order ++ l) (sym (taken-suc (length later) w left))
            ∙ ap (λ n. order ++ taken n w left) (sym long)
            ∙ so.all;
      }

  pub taken-all : (order left : List ℕ) → HasTaken order left → length left ≡ 0 → order ≡ whole
  taken-all order left so none =
      sym (append-nil order)
      ∙ ap (λ l. order ++ l) (sym (taken-zero w left))
      ∙ ap (λ n. order ++ taken n w left) (sym none)
      ∙ so.all

-- ---- batches

pub batches-end : (text : List ℕ) (reverse : Bool) (ps : List Piece) (batch : List ℕ) → in_batches text reverse ps batch [] ≡ in_batch text reverse ps batch
unfolding in_batches
batches-end text reverse ps batch = refl

pub batches-cons : (text : List ℕ) (reverse : Bool) (ps : List Piece) (batch : List ℕ) (k : ℕ) (ks : List ℕ)
    → in_batches text reverse ps batch (k ∷ ks) ≡ ended text reverse ps batch k ++ in_batches text reverse ps (begun ps batch k) ks
unfolding in_batches
batches-cons text reverse ps batch k ks = refl

range-cons : (k n : ℕ) → k < n → range_with_len k (n - k) ≡ k ∷ range_with_len (k + 1) (n - (k + 1))
range-cons k n lt = ap (range_with_len k) (less k n lt)
  where
    less : (k n : ℕ) → k < n → n - k ≡ suc (n - (k + 1))
    less k n lt = omega (arith, lt)

module _ (text : List ℕ) (reverse : Bool) (ps : List Piece) where
  pub record HasCut (order batch : List ℕ) (k : ℕ) : Type 0 where
    pub within : k ≤ length ps
    pub all : order ++ in_batches text reverse ps batch (range_with_len k (length ps - k)) ≡ in_order text reverse ps

  pub cut-none : HasCut [] [] 0
  cut-none = let whole : length ps - 0 ≡ length ps = omega arith in record { within = omega arith; all = ap (λ n. in_batches text reverse ps [] (range_with_len 0 n)) whole }

  pub cut-more : (order more batch later : List ℕ) (k : ℕ) → HasCut order batch k → k < length ps → later ≡ begun ps batch k → more ≡ order ++ ended text reverse ps batch k → HasCut more later (k + 1)
  cut-more order more batch later k so lt is adds =
      let ks = range_with_len (k + 1) (length ps - (k + 1)) in
      record {
        within = omega (arith, lt);
        all =
            ap (λ l. l ++ in_batches text reverse ps later ks) adds
            ∙ append_assoc order (ended text reverse ps batch k) (in_batches text reverse ps later ks)
            ∙ ap (λ l. order ++ (ended text reverse ps batch k ++ in_batches text reverse ps l ks)) is
            ∙ ap (λ l. order ++ l) (sym (batches-cons text reverse ps batch k ks))
            ∙ ap (λ l. order ++ in_batches text reverse ps batch l) (sym (range-cons k (length ps) lt))
            ∙ so.all;
      }

  pub cut-all : (order more batch : List ℕ) (k : ℕ) → HasCut order batch k → length ps ≤ k → more ≡ order ++ in_batch text reverse ps batch → more ≡ in_order text reverse ps
  cut-all order more batch k so le adds =
      let none : length ps - k ≡ zero = omega (arith, le) in
      adds
      ∙ ap (λ l. order ++ l) (sym (batches-end text reverse ps batch))
      ∙ ap (λ n. order ++ in_batches text reverse ps batch (range_with_len k n)) (sym none)
      ∙ so.all

-- ---- the text in another order

laid-end : (text : List ℕ) (ps : List Piece) (at : ℕ) → laid_from text ps at [] ≡ []
unfolding laid_from
laid-end text ps at = refl

laid-cons : (text : List ℕ) (ps : List Piece) (at k : ℕ) (ks : List ℕ) → laid_from text ps at (k ∷ ks) ≡ front_at text ps at ++ (body_at text ps k ++ laid_from text ps (at + 1) ks)
unfolding laid_from
laid-cons text ps at k ks = refl

module _ (text : List ℕ) (ps : List Piece) (order : List ℕ) where
  pub record HasLaid (out : List ℕ) (at : ℕ) : Type 0 where
    pub within : at ≤ length order
    pub all : out ++ laid_from text ps at (drop at order) ≡ laid_from text ps 0 order

  pub laid-none : HasLaid [] 0
  laid-none = record { within = omega arith; all = refl }

  pub laid-more : (out front more : List ℕ) (at k : ℕ) → HasLaid out at → at < length order → k ≡ get_or order at 0 → front ≡ out ++ front_at text ps at → more ≡ front ++ body_at text ps k → HasLaid more (at + 1)
  laid-more out front more at k so lt is one two =
      let rest = laid_from text ps (at + 1) (drop (at + 1) order) in
      record {
        within = omega (arith, lt);
        all =
            ap (λ l. l ++ rest) two
            ∙ append_assoc front (body_at text ps k) rest
            ∙ ap (λ l. l ++ (body_at text ps k ++ rest)) one
            ∙ append_assoc out (front_at text ps at) (body_at text ps k ++ rest)
            ∙ ap (λ l. out ++ l) (sym (laid-cons text ps at k (drop (at + 1) order)))
            ∙ ap (λ x. out ++ laid_from text ps at (x ∷ drop (at + 1) order)) is
            ∙ ap (λ l. out ++ laid_from text ps at l) (sym (drop-suc order at 0 lt))
            ∙ so.all;
      }

  pub laid-all : (out : List ℕ) (at : ℕ) → HasLaid out at → length order ≤ at → out ≡ laid_from text ps 0 order
  laid-all out at so le =
      sym (append-nil out)
      ∙ ap (λ l. out ++ l) (sym (laid-end text ps at))
      ∙ ap (λ l. out ++ laid_from text ps at l) (sym (drop_all at order le))
      ∙ so.all
