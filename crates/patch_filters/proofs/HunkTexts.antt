-- Texts and tests over the hunks of a file patch, counted from 0.
use Rattle.std.proofs.Common.{◌≡◌, ℕ, suc, ◌+◌, ◌-◌, ◌<◌, ◌≤◌, ◌||◌, Bool, true, false, List, [], ◌∷◌, ◌++◌, cond, drop, get_or, length, subst, refl, sym, ap, ◌∙◌, arith, append_assoc}
use Rattle.std.specs.Prelude.{filter, if◌then◌else◌, map, option_map, slice_get, sum_by, OnOk, Result, Some}
use Rattle.std.specs.List.{flat_map, range_with_len, zip}
use Rattle.std.proofs.lemmas.List.{at_drop_all, at_drop_more, drop_all}
use Rattle.std.proofs.lemmas.List.FromFn.{get_or-range_with_len, length-range_with_len}
use Rattle.std.proofs.lemmas.Option.{get_or_from_slice_get, slice_get-get_or, slice_get-map}
use Rattle.read_file_patch.specs.declared.FilePatch.{FilePatch}
use Rattle.filter_choice.proofs.Rows.{zip-at, zip-count}
use Rattle.std.proofs.lemmas.List.{append-nil, length-map}
use Rattle.std.proofs.lemmas.List.Sums.{sum_by-cons}
use Rattle.std.proofs.lemmas.List.Concat.{flat_map-cons}
use Rattle.hunk_core.specs.PlainHunk.{Marked, body_of, hunk_of, hunks_of, lines_on, marked_of, new_lines, old_lines}
use Rattle.hunk_core.specs.Sides.{is_on_side}
use Rattle.hunk_core.specs.declared.Hunk.{Hunk}
use Rattle.hunk_core.specs.declared.HunkLine.{HunkLine}
use Rattle.hunk_core.specs.declared.Side.{Side}
use Rattle.hunk_core.specs.declared.Side.TheVariants.{Forward, Reversed}
use Rattle.cli_tool_words.specs.declared.jobs.Numbered.{Numbered}
use Rattle.cli_tool_words.specs.declared.jobs.GrepOut.{GrepOut}
use Rattle.patch_filters.specs.Grepped.{is_whole, written_flags}
use Rattle.patch_filters.specs.Told.{left_out, line_if, next_if, numbered_from, numbered_hunks, numbered_if}

-- what is left of a run of numbers begins with the next one
left : (k n : ℕ) → k < n → n - k ≡ suc (n - (k + 1))
left k n lt = omega (arith, lt)

module _ (f : ℕ → List ℕ) (n : ℕ) where
  pub put-more : (old text new : List ℕ) (k : ℕ) → k < n → text ++ flat_map f (range_with_len k (n - k)) ≡ old ++ flat_map f (range_with_len 0 n) → new ≡ text ++ f k
      → new ++ flat_map f (range_with_len (k + 1) (n - (k + 1))) ≡ old ++ flat_map f (range_with_len 0 n)
  put-more old text new k lt so_far is =
      ap (λ l. l ++ flat_map f (range_with_len (k + 1) (n - (k + 1)))) is
      ∙ append_assoc text (f k) (flat_map f (range_with_len (k + 1) (n - (k + 1))))
      ∙ ap (λ l. text ++ l) (sym (flat_map-cons f k (range_with_len (k + 1) (n - (k + 1)))))
      ∙ ap (λ m. text ++ flat_map f (range_with_len k m)) (sym (left k n lt))
      ∙ so_far

  pub put-all : (old text : List ℕ) (k : ℕ) → n ≤ k → text ++ flat_map f (range_with_len k (n - k)) ≡ old ++ flat_map f (range_with_len 0 n) → text ≡ old ++ flat_map f (range_with_len 0 n)
  put-all old text k le so_far =
      let none : n - k ≡ 0 = omega (arith, le) in
      sym (append-nil text) ∙ ap (λ m. text ++ flat_map f (range_with_len k m)) (sym none) ∙ so_far

-- ---- flags of hunks

-- the flags so far, with those that are left
module _ (xs flags : List Bool) (k : ℕ) (so_far : flags ++ drop k xs ≡ xs) where
  pub flags-more : (new : List Bool) (b : Bool) → k < length xs → b ≡ get_or xs k false → new ≡ flags ++ b ∷ [] → new ++ drop (k + 1) xs ≡ xs
  flags-more new b lt is pushed =
      ap (λ l. l ++ drop (k + 1) xs) pushed
      ∙ append_assoc flags (b ∷ []) (drop (k + 1) xs)
      ∙ ap (λ (x : Bool). flags ++ (x ∷ drop (k + 1) xs)) is
      ∙ ap (λ l. flags ++ l) (sym (at_drop_more (λ l. l) xs k false lt))
      ∙ so_far

  pub flags-all : length xs ≤ k → flags ≡ xs
  flags-all le = sym (append-nil flags) ∙ ap (λ l. flags ++ l) (sym (drop_all k xs le)) ∙ so_far

-- which hunks of a found file patch are written
pub written-at : (out : GrepOut) (hits : List Bool) (k : ℕ) → k < length hits → get_or (written_flags out hits) k false ≡ (is_whole out || get_or hits k false)
written-at out hits k lt =
    get_or_from_slice_get (written_flags out hits) k (is_whole out || get_or hits k false) false
    (slice_get-map (λ hit. is_whole out || hit) hits k ∙ ap (option_map (λ hit. is_whole out || hit)) (slice_get-get_or hits k false lt))

pub written-long : (out : GrepOut) (hits : List Bool) → length (written_flags out hits) ≡ length hits
written-long out hits = length-map hits (λ hit. is_whole out || hit)

-- ---- lines of a side, with numbers

lines-next : (side : Side) (n : ℕ) (m : Marked) (ms : List Marked) → numbered_from n (lines_on side (m ∷ ms)) ≡ line_if (is_on_side side m.mark) n m.line ++ numbered_from (next_if (is_on_side side m.mark) n) (lines_on side ms)
lines-next side n m ms = by (is_on_side side m.mark)
  where
    by : (b : Bool) → numbered_from n (map (λ (x : Marked). x.line) (cond b (m ∷ filter (λ x. is_on_side side x.mark) ms) (filter (λ x. is_on_side side x.mark) ms))) ≡ line_if b n m.line ++ numbered_from (next_if b n) (lines_on side ms)
    by true = refl
    by false = refl

-- the lines so far, with those that are left
pub record HasLines (text : List ℕ) (side : Side) (start : ℕ) (body : List HunkLine) (old out : List ℕ) (number place : ℕ) : Type 0 where
  pub low : number ≤ start + place
  pub so_far : out ++ numbered_from number (lines_on side (body_of text (drop place body))) ≡ old ++ numbered_from start (lines_on side (body_of text body))

next-low : (b : Bool) (n start place : ℕ) → n ≤ start + place → next_if b n ≤ start + (place + 1)
next-low true n start place le = omega (arith, le)
next-low false n start place le = omega (arith, le)

pub lines-more : (text : List ℕ) (side : Side) (start : ℕ) (body : List HunkLine) (old out new : List ℕ) (number next place : ℕ) (l : HunkLine) (b : Bool) → place < length body → l ≡ get_or body place l
    → HasLines text side start body old out number place → b ≡ is_on_side side l.mark → new ≡ out ++ line_if b number (marked_of text l).line → next ≡ next_if b number
    → HasLines text side start body old new next (place + 1)
lines-more text side start body old out new number next place l b lt at so is-b is is-next =
    let rest = body_of text (drop (place + 1) body) in
    record {
      low = subst (λ (n : ℕ). n ≤ start + (place + 1)) (sym is-next) (next-low b number start place so.low);
      so_far =
          ap (λ n. new ++ numbered_from n (lines_on side rest)) is-next
          ∙ ap (λ t. t ++ numbered_from (next_if b number) (lines_on side rest)) is
          ∙ append_assoc out (line_if b number (marked_of text l).line) (numbered_from (next_if b number) (lines_on side rest))
          ∙ ap (λ c. out ++ (line_if c number (marked_of text l).line ++ numbered_from (next_if c number) (lines_on side rest))) is-b
          ∙ ap (λ t. out ++ t) (sym (lines-next side number (marked_of text l) rest))
          ∙ ap (λ (k : HunkLine). out ++ numbered_from number (lines_on side (marked_of text k ∷ rest))) at
          ∙ sym (at_drop_more (λ ls. out ++ numbered_from number (lines_on side (body_of text ls))) body place l lt)
          ∙ so.so_far;
    }

pub lines-all : (text : List ℕ) (side : Side) (start : ℕ) (body : List HunkLine) (old out : List ℕ) (number place : ℕ) → length body ≤ place → HasLines text side start body old out number place → out ≡ old ++ numbered_from start (lines_on side (body_of text body))
lines-all text side start body old out number place le so = sym (append-nil out) ∙ sym (at_drop_all (λ ls. out ++ numbered_from number (lines_on side (body_of text ls))) body place le) ∙ so.so_far

-- ---- hunks of a side

abbrev sizes : List Hunk → ℕ
sizes hs = sum_by (λ h. length h.body.items) hs

-- the hunks so far, with those that are left
pub record HasHunks (text : List ℕ) (side : Numbered) (keeps : ℕ → Bool) (hs : List Hunk) (old out : List ℕ) (later : Bool) (gone come place : ℕ) : Type 0 where
  pub gone_low : gone + sizes (drop place hs) ≤ sizes hs
  pub come_low : come + sizes (drop place hs) ≤ sizes hs
  pub so_far : out ++ numbered_hunks side keeps later gone come place (hunks_of text (drop place hs)) ≡ old ++ numbered_hunks side keeps false 0 0 0 (hunks_of text hs)

on-few : (text : List ℕ) (side : Side) (ls : List HunkLine) → length (lines_on side (body_of text ls)) ≤ length ls
on-few text side [] = omega arith
on-few text side (l ∷ ls) = by (is_on_side side l.mark) (on-few text side ls)
  where
    by : (b : Bool) → length (lines_on side (body_of text ls)) ≤ length ls
        → length (map (λ (x : Marked). x.line) (cond b (marked_of text l ∷ filter (λ x. is_on_side side x.mark) (body_of text ls)) (filter (λ x. is_on_side side x.mark) (body_of text ls)))) ≤ length (l ∷ ls)
    by true le = omega (arith, le)
    by false le = omega (arith, le)

left-low : (b : Bool) (so_far count size behind all : ℕ) → count ≤ size → so_far + (size + behind) ≤ all → left_out b so_far count + behind ≤ all
left-low true so_far count size behind all few low = omega (arith, few, low)
left-low false so_far count size behind all few low = omega (arith, few, low)

pub hunks-more : (text : List ℕ) (side : Numbered) (keeps : ℕ → Bool) (hs : List Hunk) (old out new : List ℕ) (later now : Bool) (gone went come came place : ℕ) (h : Hunk) (b : Bool) → place < length hs → h ≡ get_or hs place h
    → HasHunks text side keeps hs old out later gone come place → b ≡ keeps place → new ≡ out ++ numbered_if side b later gone come (hunk_of text h)
    → now ≡ (later || b) → went ≡ left_out b gone (length (old_lines (hunk_of text h).body)) → came ≡ left_out b come (length (new_lines (hunk_of text h).body))
    → HasHunks text side keeps hs old new now went came (place + 1)
hunks-more text side keeps hs old out new later now gone went come came place h b lt at so is-b is is-now is-went is-came =
    let rest = hunks_of text (drop (place + 1) hs) in
    let p = hunk_of text h in
    let size : sizes (drop place hs) ≡ length h.body.items + sizes (drop (place + 1) hs) = at_drop_more sizes hs place h lt ∙ sum_by-cons (λ (k : Hunk). length k.body.items) (get_or hs place h) (drop (place + 1) hs) ∙ ap (λ (k : Hunk). length k.body.items + sizes (drop (place + 1) hs)) (sym at) in
    let later_by : Bool → Bool = λ x. later || x in
    record {
      gone_low = subst (λ (n : ℕ). n + sizes (drop (place + 1) hs) ≤ sizes hs) (sym is-went)
          (left-low b gone (length (old_lines p.body)) (length h.body.items) (sizes (drop (place + 1) hs)) (sizes hs) (on-few text Forward h.body.items) (subst (λ (n : ℕ). gone + n ≤ sizes hs) size so.gone_low));
      come_low = subst (λ (n : ℕ). n + sizes (drop (place + 1) hs) ≤ sizes hs) (sym is-came)
          (left-low b come (length (new_lines p.body)) (length h.body.items) (sizes (drop (place + 1) hs)) (sizes hs) (on-few text Reversed h.body.items) (subst (λ (n : ℕ). come + n ≤ sizes hs) size so.come_low));
      so_far =
          ap (λ (x : Bool). new ++ numbered_hunks side keeps x went came (place + 1) rest) is-now
          ∙ ap (λ (n : ℕ). new ++ numbered_hunks side keeps (later || b) n came (place + 1) rest) is-went
          ∙ ap (λ (n : ℕ). new ++ numbered_hunks side keeps (later || b) (left_out b gone (length (old_lines p.body))) n (place + 1) rest) is-came
          ∙ ap (λ t. t ++ numbered_hunks side keeps (later || b) (left_out b gone (length (old_lines p.body))) (left_out b come (length (new_lines p.body))) (place + 1) rest) is
          ∙ append_assoc out (numbered_if side b later gone come p) (numbered_hunks side keeps (later || b) (left_out b gone (length (old_lines p.body))) (left_out b come (length (new_lines p.body))) (place + 1) rest)
          ∙ ap (λ (x : Bool). out ++ (numbered_if side x later gone come p ++ numbered_hunks side keeps (later || x) (left_out x gone (length (old_lines p.body))) (left_out x come (length (new_lines p.body))) (place + 1) rest)) is-b
          ∙ ap (λ (n : ℕ). out ++ (numbered_if side (keeps place) later gone come p ++ numbered_hunks side keeps (later || keeps place) (left_out (keeps place) gone (length (old_lines p.body))) (left_out (keeps place) come (length (new_lines p.body))) n rest)) (let e : place + 1 ≡ suc place = omega arith in e)
          ∙ ap (λ (k : Hunk). out ++ numbered_hunks side keeps later gone come place (hunk_of text k ∷ rest)) at
          ∙ sym (at_drop_more (λ xs. out ++ numbered_hunks side keeps later gone come place (hunks_of text xs)) hs place h lt)
          ∙ so.so_far;
    }

pub hunks-all : (text : List ℕ) (side : Numbered) (keeps : ℕ → Bool) (hs : List Hunk) (old out : List ℕ) (later : Bool) (gone come place : ℕ) → length hs ≤ place → HasHunks text side keeps hs old out later gone come place
    → out ≡ old ++ numbered_hunks side keeps false 0 0 0 (hunks_of text hs)
hunks-all text side keeps hs old out later gone come place le so =
    sym (append-nil out) ∙ sym (at_drop_all (λ xs. out ++ numbered_hunks side keeps later gone come place (hunks_of text xs)) hs place le) ∙ so.so_far

-- ---- file patches, counted from 0

abbrev pub rows : List FilePatch → List (ℕ × FilePatch)
rows ps = zip (range_with_len 0 (length ps)) ps

rows-long : (ps : List FilePatch) → length (rows ps) ≡ length ps
rows-long ps = zip-count (range_with_len 0 (length ps)) ps (length-range_with_len 0 (length ps))

range-at : (n i : ℕ) → i < n → slice_get (range_with_len 0 n) i ≡ Some i
range-at n i lt =
    let e : 0 + i ≡ i = omega arith in
    slice_get-get_or (range_with_len 0 n) i 0 (omega (arith, lt, length-range_with_len 0 n)) ∙ ap (λ (k : ℕ). Some k) (get_or-range_with_len 0 n i 0 lt ∙ e)

row-at : (ps : List FilePatch) (i : ℕ) (p : FilePatch) → i < length ps → slice_get ps i ≡ Some p → drop i (rows ps) ≡ (i, p) ∷ drop (i + 1) (rows ps)
row-at ps i p lt is =
    at_drop_more (λ xs. xs) (rows ps) i (i, p) (omega (arith, lt, rows-long ps))
    ∙ ap (λ x. x ∷ drop (i + 1) (rows ps)) (get_or_from_slice_get (rows ps) i (i, p) (i, p) (zip-at (range_with_len 0 (length ps)) ps i i p (range-at (length ps) i lt) is))

pub rows-more : (f : ℕ × FilePatch → List ℕ) (ps : List FilePatch) (out new whole : List ℕ) (i : ℕ) (p : FilePatch) → i < length ps → slice_get ps i ≡ Some p → out ++ flat_map f (drop i (rows ps)) ≡ whole → new ≡ out ++ f (i, p)
    → new ++ flat_map f (drop (i + 1) (rows ps)) ≡ whole
rows-more f ps out new whole i p lt at so_far is =
    ap (λ l. l ++ flat_map f (drop (i + 1) (rows ps))) is
    ∙ append_assoc out (f (i, p)) (flat_map f (drop (i + 1) (rows ps)))
    ∙ ap (λ l. out ++ l) (sym (flat_map-cons f (i, p) (drop (i + 1) (rows ps))))
    ∙ ap (λ xs. out ++ flat_map f xs) (sym (row-at ps i p lt at))
    ∙ so_far

pub rows-all : (f : ℕ × FilePatch → List ℕ) (ps : List FilePatch) (out whole : List ℕ) (i : ℕ) → length ps ≤ i → out ++ flat_map f (drop i (rows ps)) ≡ whole → out ≡ whole
rows-all f ps out whole i le so_far = sym (append-nil out) ∙ ap (λ xs. out ++ flat_map f xs) (sym (drop_all i (rows ps) (omega (arith, le, rows-long ps)))) ∙ so_far

-- ---- texts that are put where a test holds, or where it doesn't

module _ {R E : Type 0} (r : Result R E) (is : Bool) (old new text other : List ℕ) where
  pub then-put : is ≡ true → OnOk r (new ≡ old ++ text) → OnOk r (new ≡ old ++ (if is then text else other))
  then-put so put = subst (λ b. OnOk r (new ≡ old ++ (if b then text else other))) (sym so) put

  pub else-put : is ≡ false → OnOk r (new ≡ old ++ other) → OnOk r (new ≡ old ++ (if is then text else other))
  else-put so put = subst (λ b. OnOk r (new ≡ old ++ (if b then text else other))) (sym so) put

-- the same text, said otherwise
pub put-same : {R E : Type 0} (r : Result R E) (old new text other : List ℕ) → text ≡ other → OnOk r (new ≡ old ++ text) → OnOk r (new ≡ old ++ other)
put-same r old new text other same put = subst (λ t. OnOk r (new ≡ old ++ t)) same put

pub put-none : (is : Bool) (old text : List ℕ) → is ≡ false → old ≡ old ++ (if is then text else [])
put-none is old text so = sym (append-nil old) ∙ ap (λ b. old ++ (if b then text else [])) (sym so)
