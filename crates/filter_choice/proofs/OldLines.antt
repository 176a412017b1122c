-- The old lines of a hunk and of a script as numbers from a first to a last.
use Rattle.std.proofs.Common.{◌≡◌, ℕ, zero, suc, ◌+◌, ◌-◌, ◌<◌, ◌≤◌, ◌^◌, false, cond, List, [], ◌∷◌, length, map, Some, refl, sym, ap, ◌∙◌, arith, min}
use Rattle.std.specs.Prelude.{slice_get, option_map, ◌==◌}
use Rattle.std.specs.List.{range_with_len}
use Rattle.std.proofs.Math.Dec.{eqb-suc-zero}
use Rattle.std.proofs.lemmas.Option.{slice_get-map, same_Some}
use Rattle.hunk_core.specs.declared.Side.TheVariants.{Forward}
use Rattle.hunk_core.specs.declared.Hunk.{Hunk}
use Rattle.hunk_core.specs.Sides.{taken_count}
use Rattle.hunk_core.specs.PlainHunk.{hunk_of, old_lines}
use Rattle.hunk_core.proofs.TurnedLemmas.{turned-count}
use Rattle.ed_form.specs.declared.script.EdEdit.{EdEdit}
use Rattle.ed_form.specs.PlainEdit.{PlainEdit, lowest, edit_of, edits_of, AreLawful}
use Rattle.read_file_patch.specs.declared.Change.{Change}
use Rattle.read_file_patch.specs.declared.Change.TheVariants.{Hunks, Script}
use Rattle.read_file_patch.specs.PlainPatch.{IsLawfulChange}
use Rattle.filter_choice.specs.OldLines.{from_to, old_numbers, least, greatest, addressed, IsCounted}

-- ---- a hunk

pub one-line : (n : ℕ) → from_to n n ≡ n ∷ []
one-line n = let e : suc n - n ≡ 1 = omega arith in ap (range_with_len n) e

pub no-lines : (text : List ℕ) (h : Hunk) (count : ℕ) (first last : ℕ) → count ≡ taken_count Forward h.body.items → count ≡ 0 → first ≡ h.old_start → last ≡ h.old_start → from_to first last ≡ old_numbers (hunk_of text h)
no-lines text h count first last is none low high =
    let lines : length (old_lines (hunk_of text h).body) ≡ 0 = turned-count text Forward h ∙ sym is ∙ none in
    rw (low, high, lines) (one-line h.old_start)

pub some-lines : (start n : ℕ) → 0 < n → from_to start (start + n - 1) ≡ cond (n == 0) (start ∷ []) (range_with_len start n)
some-lines start zero some = absurd (omega arith)
some-lines start (suc n) some =
    let e : suc (start + suc n - 1) - start ≡ suc n = omega arith in
    let no : (suc n == 0) ≡ false = eqb-suc-zero n in
    rw no (ap (range_with_len start) e)

pub old-lines : (text : List ℕ) (h : Hunk) (count first last : ℕ) → count ≡ taken_count Forward h.body.items → 0 < count → first ≡ h.old_start → last ≡ first + count - 1 → from_to first last ≡ old_numbers (hunk_of text h)
old-lines text h count first last is some low end =
    let lines : length (old_lines (hunk_of text h).body) ≡ count = turned-count text Forward h ∙ sym is in
    rw (end, low, lines) (some-lines h.old_start count some)

-- ---- a script

-- later edits stand in front of it
below-greatest : (below : ℕ) (es : List PlainEdit) → AreLawful below es → 0 < below → greatest es < below
below-greatest below [] lawful some = some
below-greatest below (e ∷ []) lawful some = omega (arith, lawful.1)
below-greatest below (e ∷ f ∷ es) lawful some = omega (arith, lawful.1, below-greatest (lowest e) (f ∷ es) lawful.2 (omega (arith, lawful.2.1)))

greatest-first : (below : ℕ) (e : PlainEdit) (es : List PlainEdit) → AreLawful below (e ∷ es) → greatest (e ∷ es) ≡ e.last
greatest-first below e [] lawful = omega arith
greatest-first below e (f ∷ es) lawful = omega (arith, below-greatest (lowest e) (f ∷ es) lawful.2 (omega (arith, lawful.2.1)))

-- the last of a list, behind one
abbrev last-of : PlainEdit → List PlainEdit → PlainEdit
last-of e [] = e
last-of e (f ∷ es) = last-of f es

least-low : (below : ℕ) (e : PlainEdit) (es : List PlainEdit) → AreLawful below (e ∷ es) → (least (e ∷ es) ≡ lowest (last-of e es)) × (lowest (last-of e es) ≤ lowest e)
least-low below e [] lawful = (refl, omega arith)
least-low below e (f ∷ es) lawful =
    let more = least-low (lowest e) f es lawful.2 in
    let low : lowest (last-of f es) ≤ lowest e = omega (arith, more.1, lawful.2.1) in
    (ap (λ n. min (lowest e) n) more.0 ∙ omega (arith, low), low)

last-at : (e : PlainEdit) (es : List PlainEdit) → slice_get (e ∷ es) (length es) ≡ Some (last-of e es)
last-at e [] = refl
last-at e (f ∷ es) = last-at f es

last-edit : (text : List ℕ) (e front : EdEdit) (es : List EdEdit) → slice_get (e ∷ es) (length es) ≡ Some front → last-of (edit_of text e) (map (edit_of text) es) ≡ edit_of text front
last-edit text e front [] is = ap (edit_of text) (same_Some e front is)
last-edit text e front (f ∷ es) is = last-edit text f front es is

pub script-lines : (text : List ℕ) (es : List EdEdit) (end front : EdEdit) (first last : ℕ) → AreLawful (2 ^ 32) (edits_of text es) → slice_get es 0 ≡ Some end → slice_get es (length es - 1) ≡ Some front
    → first ≡ min front.first front.last → last ≡ end.last → from_to first last ≡ addressed (edits_of text es)
script-lines text [] end front first last lawful at behind low high = absurd cc
script-lines text (e ∷ es) end front first last lawful at behind low high =
    let n : suc (length es) - 1 ≡ length es = omega arith in
    let there : slice_get (e ∷ es) (length es) ≡ Some front = ap (slice_get (e ∷ es)) (sym n) ∙ behind in
    let g : greatest (edits_of text (e ∷ es)) ≡ end.last = greatest-first (2 ^ 32) (edit_of text e) (map (edit_of text) es) lawful ∙ ap (λ (x : EdEdit). x.last) (same_Some e end at) in
    let l : least (edits_of text (e ∷ es)) ≡ min front.first front.last = (least-low (2 ^ 32) (edit_of text e) (map (edit_of text) es) lawful).0 ∙ ap lowest (last-edit text e front es there) in
    rw (low, high, g, l) refl

-- ---- each hunk of a change

pub counted : (text : List ℕ) (c : Change) → IsLawfulChange text c → IsCounted c
counted text (Hunks hs) lawful = λ i d lt. (lawful.lawful i d lt).few
counted text (Script s) lawful = lawful.some

pub hunk-at : (text : List ℕ) (hs : List Hunk) (i : ℕ) (h : Hunk) (olds : List ℕ) → slice_get hs i ≡ Some h → olds ≡ old_numbers (hunk_of text h) → slice_get (map old_numbers (map (hunk_of text) hs)) i ≡ Some olds
hunk-at text hs i h olds is same =
    slice_get-map old_numbers (map (hunk_of text) hs) i ∙ ap (option_map old_numbers) (slice_get-map (hunk_of text) hs i ∙ ap (option_map (hunk_of text)) is)
    ∙ ap (λ (l : List ℕ). Some l) (sym same)
