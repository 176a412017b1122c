-- Where nothing is asked for all is written, and where no hunk is kept nothing is.
use Rattle.std.proofs.Common.{◌≡◌, ℕ, zero, suc, ◌+◌, ◌-◌, ◌<◌, ◌≤◌, Bool, true, false, ◌&&◌, ◌||◌, cond, List, [], ◌∷◌, ◌++◌, length, map, take, drop, get_or, Some, refl, sym, ap, ◌∙◌, arith, length-append, length-drop, length-take}
use Rattle.std.specs.Prelude.{slice_get, slice_range, option_map, ◌↔◌}
use Rattle.std.specs.List.{flat_map, list_any, range_with_len, zip}
use Rattle.std.proofs.Math.Seq.{take-add}
use Rattle.std.proofs.lemmas.List.{drop-drop, length-map}
use Rattle.std.proofs.lemmas.List.Concat.{flat_map-cons}
use Rattle.std.proofs.lemmas.List.Folds.{list_any_at}
use Rattle.std.proofs.lemmas.Option.{slice_get-get_or, slice_get-map, same_Some}
use Rattle.line_list.specs.declared.Span.{Span}
use Rattle.hunk_core.specs.PlainHunk.{bytes_at}
use Rattle.hunk_core.specs.Pieces.{AreInTurn}
use Rattle.read_file_patch.specs.declared.FilePatch.{FilePatch}
use Rattle.read_file_patch.specs.PlainPatch.{change_of, patch_of, row_count}
use Rattle.patch_set.specs.Spans.{IsPlaced, ArePlaced}
use Rattle.patch_set.proofs.Named.{rows-counted}
use Rattle.cli_tool_words.specs.PlainJobs.{PlainFilterJob}
use Rattle.filter_choice.specs.Selected.{numbered}
use Rattle.filter_choice.specs.OldLines.{old_of_each}
use Rattle.filter_choice.specs.Kept.{is_kept, kept, keeps}
use Rattle.patch_filters.specs.Filtered.{region, pieces, text_if, chosen, asks_no_hunk, written, written_bare, written_hunks, is_taken_of, written_if_taken}
use Rattle.patch_filters.specs.Laws.{AsksNothing, WritesAll, WritesNone, WritesNoBare}
use Rattle.filter_choice.proofs.Placed.{placed-at, span-in, turn-end, turn-with}
use Rattle.patch_filters.proofs.Rows.{filtered-is}
use Rattle.filter_choice.proofs.Rows.{kept-count, kept-long, zip-at}

-- ---- the text of a file patch is its region and its hunks

slice-join : (text : List ℕ) (a b c : ℕ) → a ≤ b → b ≤ c → slice_range text a b ++ slice_range text b c ≡ slice_range text a c
slice-join text a b c low high =
    let n : (b - a) + (c - b) ≡ c - a = omega (arith, low, high) in
    let at : a + (b - a) ≡ b = omega (arith, low) in
    let further : drop (b - a) (drop a text) ≡ drop b text = drop-drop (b - a) a text ∙ ap (λ k. drop k text) at in
    ap (λ (l : List ℕ). take (b - a) (drop a text) ++ take (c - b) l) (sym further) ∙ sym (take-add (b - a) (c - b) (drop a text)) ∙ ap (λ k. take k (drop a text)) n

joined-pieces : (text : List ℕ) (at : ℕ) (ss : List Span) (end : ℕ) → AreInTurn at ss end → flat_map (λ t. t) (map (bytes_at text) ss) ≡ slice_range text at end
joined-pieces text at [] end turn = let none : end - at ≡ 0 = omega (arith, turn) in ap (λ k. take k (drop at text)) (sym none)
joined-pieces text at (s ∷ ss) end turn =
    flat_map-cons (λ (t : List ℕ). t) (bytes_at text s) (map (bytes_at text) ss)
    ∙ ap (λ t. bytes_at text s ++ t) (joined-pieces text s.end ss end turn.2)
    ∙ ap (λ a. slice_range text a s.end ++ slice_range text s.end end) turn.0
    ∙ slice-join text at s.end end (omega (arith, turn.1)) (turn-end s.end ss end turn.2)

whole-span : (text : List ℕ) (p : FilePatch) → IsPlaced text p.span.start p.first_verdict p → p.header.bare ≡ false → region text p ++ flat_map (λ t. t) (pieces text p) ≡ bytes_at text p.span
whole-span text p at hunks =
    ap (λ t. region text p ++ t) (joined-pieces text p.header.at p.hunk_spans.items p.span.end (at.cut.turn hunks))
    ∙ slice-join text p.span.start p.header.at p.span.end at.region (omega (arith, at.some))

-- ---- nothing is asked for

module _ (j : PlainFilterJob) (asks : AsksNothing j) where
  each-kept : (rows : List (ℕ × List ℕ)) → map (λ h. is_kept j h.0 h.1) rows ≡ map (λ h. true) rows
  each-kept [] = refl
  each-kept (r ∷ rows) =
      let here : is_kept j r.0 r.1 ≡ true = rw (asks.hunks, asks.lines) refl in
      ap (λ b. b ∷ map (λ (h : ℕ × List ℕ). is_kept j h.0 h.1) rows) here ∙ ap (λ l. true ∷ l) (each-kept rows)

  all-chosen : {A : Type 0} (rows : List A) (texts : List (List ℕ)) → length rows ≡ length texts → chosen (map (λ h. true) rows) texts ≡ flat_map (λ t. t) texts
  all-chosen [] [] same = refl
  all-chosen [] (t ∷ texts) same = absurd cc
  all-chosen (r ∷ rows) [] same = absurd cc
  all-chosen (r ∷ rows) (t ∷ texts) same =
      flat_map-cons text_if (true, t) (zip (map (λ h. true) rows) texts)
      ∙ ap (λ l. t ++ l) (all-chosen rows texts (omega (arith, same)))
      ∙ sym (flat_map-cons (λ (x : List ℕ). x) t texts)

  some-true : {A : Type 0} (rows : List A) → 0 < length rows → list_any (λ is. is) (map (λ h. true) rows) ≡ true
  some-true [] some = absurd (omega (arith, some))
  some-true (r ∷ rows) some = refl

  some-spans : (at : ℕ) (ss : List Span) (end : ℕ) → AreInTurn at ss end → at < end → 0 < length ss
  some-spans at [] end turn some = absurd (omega (arith, turn, some))
  some-spans at (s ∷ ss) end turn some = omega arith

  hunks-written : (text : List ℕ) (p : FilePatch) → IsPlaced text p.span.start p.first_verdict p → p.header.bare ≡ false → written_hunks j text p ≡ bytes_at text p.span
  hunks-written text p at is =
      let c = change_of text p.change in
      let rows = numbered (old_of_each c) in
      let flags : kept j c ≡ map (λ (h : ℕ × List ℕ). true) rows = each-kept rows in
      let long : length rows ≡ length (pieces text p) =
      sym (length-map rows (λ (h : ℕ × List ℕ). is_kept j h.0 h.1)) ∙ kept-count j c ∙ rows-counted text p.change ∙ sym at.each ∙ sym (length-map p.hunk_spans.items (bytes_at text)) in
      let some : 0 < length rows = omega (arith, long, length-map p.hunk_spans.items (bytes_at text), some-spans p.header.at p.hunk_spans.items p.span.end (at.cut.turn is) at.some) in
      ap (λ (l : List Bool). cond (list_any (λ is. is) l) (region text p ++ chosen l (pieces text p)) []) flags
      ∙ ap (λ b. cond b (region text p ++ chosen (map (λ (h : ℕ × List ℕ). true) rows) (pieces text p)) []) (some-true rows some)
      ∙ ap (λ t. region text p ++ t) (all-chosen rows (pieces text p) long)
      ∙ whole-span text p at is

  bare-written : (text : List ℕ) (p : FilePatch) → written_bare j text p ≡ bytes_at text p.span
  bare-written text p =
      let none : asks_no_hunk j ≡ true = rw (asks.hunks, asks.lines) refl in
      ap (λ b. cond b (bytes_at text p.span) []) none

  all-written : (text : List ℕ) (p : FilePatch) → IsPlaced text p.span.start p.first_verdict p → written j text p ≡ bytes_at text p.span
  all-written text p at = by p.header.bare refl
    where
      by : (b : Bool) → p.header.bare ≡ b → cond b (written_bare j text p) (written_hunks j text p) ≡ bytes_at text p.span
      by true is = bare-written text p
      by false is = hunks-written text p at is

  all-of-each : (text : List ℕ) (a start before : ℕ) (ps : List FilePatch) → ArePlaced text start before ps
      → flat_map (written_if_taken j text) (zip (range_with_len a (length ps)) ps) ≡ flat_map (λ p. bytes_at text p.span) ps
  all-of-each text a start before [] at = refl
  all-of-each text a start before (p ∷ ps) at =
      let taken : is_taken_of j text (a, p) ≡ true = rw (asks.exclude, asks.include, asks.files) refl in
      flat_map-cons (written_if_taken j text) (a, p) (zip (range_with_len (a + 1) (length ps)) ps)
      ∙ ap (λ b. cond b (written j text p) [] ++ flat_map (written_if_taken j text) (zip (range_with_len (a + 1) (length ps)) ps)) taken
      ∙ ap (λ t. t ++ flat_map (written_if_taken j text) (zip (range_with_len (a + 1) (length ps)) ps)) (all-written text p (placed-at text start before (p ∷ ps) 0 p at refl))
      ∙ ap (λ t. bytes_at text p.span ++ t) (all-of-each text (a + 1) p.span.end (before + row_count p.change) ps at.1)
      ∙ sym (flat_map-cons (λ (x : FilePatch). bytes_at text x.span) p ps)

pub writes-all : WritesAll
writes-all j v whole asks = filtered-is j v ∙ all-of-each j asks v.text 1 0 0 v.patches whole.placed

-- ---- nothing is written

longer : {A : Type 0} (f : A → List ℕ) (xs : List A) (i : ℕ) (x : A) → slice_get xs i ≡ Some x → length (f x) ≤ length (flat_map f xs)
longer f [] i x is = absurd cc
longer f (y ∷ xs) zero x is =
    let all : length (flat_map f (y ∷ xs)) ≡ length (f y ++ flat_map f xs) = ap length (flat_map-cons f y xs) in
    let one : length (f y) ≡ length (f x) = ap (λ z. length (f z)) (same_Some y x is) in
    omega (arith, all, one, length-append (f y) (flat_map f xs))
longer f (y ∷ xs) (suc i) x is =
    let all : length (flat_map f (y ∷ xs)) ≡ length (f y ++ flat_map f xs) = ap length (flat_map-cons f y xs) in
    omega (arith, all, longer f xs i x is, length-append (f y) (flat_map f xs))

none-true : (flags : List Bool) → ((i : ℕ) → i < length flags → get_or flags i false ≡ false) → list_any (λ is. is) flags ≡ false
none-true [] none = refl
none-true (b ∷ flags) none =
    let here : b ≡ false = none 0 (omega arith) in
    ap (λ x. x || list_any (λ is. is) flags) here ∙ none-true flags (λ i lt. none (suc i) (omega (arith, lt)))

slice-long : (text : List ℕ) (a b : ℕ) → a < b → b ≤ length text → 0 < length (slice_range text a b)
slice-long text a b lt le = omega (arith, length-take (b - a) (drop a text), length-drop a text)

module _ (j : PlainFilterJob) (text : List ℕ) (i : ℕ) (p : FilePatch) where
  abbrev flags : List Bool
  flags = kept j (change_of text p.change)

  flags-count : length flags ≡ row_count p.change
  flags-count = kept-long j text p.change

  some-written : IsPlaced text p.span.start p.first_verdict p → (hunk : ℕ) → hunk < row_count p.change → get_or flags hunk false ≡ true → 0 < length (written_hunks j text p)
  some-written at hunk lt is =
      let spans = p.hunk_spans.items in
      let s = get_or spans hunk p.span in
      let here : slice_get spans hunk ≡ Some s = slice_get-get_or spans hunk p.span (omega (arith, lt, at.each)) in
      let within = span-in p.header.at spans p.span.end hunk s (turn-with text p.span.start p.first_verdict p hunk at lt) here in
      let piece : slice_get (pieces text p) hunk ≡ Some (bytes_at text s) = slice_get-map (bytes_at text) spans hunk ∙ ap (option_map (bytes_at text)) here in
      let flag : slice_get flags hunk ≡ Some true = slice_get-get_or flags hunk false (omega (arith, lt, flags-count)) ∙ ap (λ b. Some b) is in
      let row = zip-at flags (pieces text p) hunk true (bytes_at text s) flag piece in
      let any : list_any (λ is. is) flags ≡ true = list_any_at (λ is. is) flags hunk false (omega (arith, lt, flags-count)) is in
      let whole : length (written_hunks j text p) ≡ length (region text p ++ chosen flags (pieces text p)) = ap (λ b. length (cond b (region text p ++ chosen flags (pieces text p)) [])) any in
      omega (
        arith,
        whole,
        length-append (region text p) (chosen flags (pieces text p)),
        longer text_if (zip flags (pieces text p)) hunk (true, bytes_at text s) row,
        slice-long text s.start s.end within.0 (omega (arith, within.1, at.high)),
      )

  not-kept : IsPlaced text p.span.start p.first_verdict p → p.header.bare ≡ false → written_if_taken j text (suc i, p) ≡ [] → (hunk : ℕ) → hunk < row_count p.change → keeps j i (patch_of text p) hunk ≡ false
  not-kept at hunks nothing hunk lt = by (is_taken_of j text (suc i, p)) (get_or flags hunk false) refl refl
    where
      by : (b k : Bool) → is_taken_of j text (suc i, p) ≡ b → get_or flags hunk false ≡ k → (b && k) ≡ false
      by true true taken is =
          let whole : written_hunks j text p ≡ [] = ap (λ b. cond b (written_bare j text p) (written_hunks j text p)) (sym hunks) ∙ ap (λ b. cond b (written j text p) []) (sym taken) ∙ nothing in
          absurd (omega (arith, some-written at hunk lt is, ap length whole))
      by true false taken is = refl
      by false k taken is = refl

  none-written : p.header.bare ≡ false → ((hunk : ℕ) → hunk < row_count p.change → keeps j i (patch_of text p) hunk ≡ false) → written_if_taken j text (suc i, p) ≡ []
  none-written hunks none = by (is_taken_of j text (suc i, p)) refl
    where
      by : (b : Bool) → is_taken_of j text (suc i, p) ≡ b → cond b (written j text p) [] ≡ []
      by false taken = refl
      by true taken =
          let each : (hunk : ℕ) → hunk < length flags → get_or flags hunk false ≡ false = λ hunk lt. ap (λ b. b && get_or flags hunk false) (sym taken) ∙ none hunk (omega (arith, lt, flags-count)) in
          ap (λ b. cond b (written_bare j text p) (written_hunks j text p)) hunks ∙ ap (λ b. cond b (region text p ++ chosen flags (pieces text p)) []) (none-true flags each)

  -- ---- a bare git header

  by-tests : IsPlaced text p.span.start p.first_verdict p → p.header.bare ≡ true
      → (written_if_taken j text (suc i, p) ≡ []) ↔ ((is_taken_of j text (suc i, p) && asks_no_hunk j) ≡ false)
  by-tests at bare = by (is_taken_of j text (suc i, p)) (asks_no_hunk j) refl
    where
      some : 0 < length (bytes_at text p.span)
      some = slice-long text p.span.start p.span.end (omega (arith, at.region, at.some)) at.high

      by : (b n : Bool) → asks_no_hunk j ≡ n → (cond b (written j text p) [] ≡ []) ↔ ((b && n) ≡ false)
      by false n is = (λ nothing. refl, λ no. refl)
      by true true is = (
        λ nothing.
            let whole : bytes_at text p.span ≡ [] = ap (λ b. cond b (bytes_at text p.span) []) (sym is) ∙ ap (λ b. cond b (written_bare j text p) (written_hunks j text p)) (sym bare) ∙ nothing in
            absurd (omega (arith, some, ap length whole)),
        λ no. absurd cc,
      )
      by true false is = (λ nothing. refl, λ no. ap (λ b. cond b (written_bare j text p) (written_hunks j text p)) bare ∙ ap (λ b. cond b (bytes_at text p.span) []) is)

pub writes-none : WritesNone
writes-none j v patch p whole is hunks =
    let at = placed-at v.text 0 0 v.patches patch p whole.placed is in
    (not-kept j v.text patch p at hunks, none-written j v.text patch p hunks)

pub writes-no-bare : WritesNoBare
writes-no-bare j v patch p whole is bare = by-tests j v.text patch p (placed-at v.text 0 0 v.patches patch p whole.placed is) bare
