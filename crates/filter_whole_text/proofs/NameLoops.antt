-- How the names of parts are made, one after the other.
use Rattle.std.proofs.Common.{◌≡◌, ℕ, zero, suc, ◌+◌, ◌-◌, ◌<◌, ◌≤◌, List, [], ◌∷◌, ◌++◌, length, map, get_or, take, drop, codes, Bool, true, false, not, ◌&&◌, ◌||◌, if◌then◌else◌, bytes_eq, nat_le, Option, None, Some, refl, sym, ◌∙◌, ap, subst, arith, append_assoc, length-drop}
use Rattle.std.specs.Prelude.{slice_get, is_none}
use Rattle.std.specs.BTreeSet.{BTreeSet}
use Rattle.std.specs.Borrow.{Bor}
use Rattle.std.proofs.lemmas.List.{append-nil, drop_all, length-map, map-append, take_more, take_all}
use Rattle.std.proofs.lemmas.Option.{same_Some}
use Rattle.line_list.specs.declared.Span.{Span}
use Rattle.hunk_core.specs.Pieces.{AreInTurn}
use Rattle.outside.specs.Names.{is_slash, broken_rule, normal_form, last_component}
use Rattle.read_file_patch.specs.Stripped.{shortened}
use Rattle.outside.specs.declared.name.NameRule.{NameRule}
use Rattle.read_file_patch.specs.declared.FilePatch.{FilePatch}
use Rattle.read_file_patch.proofs.Names.{are-same}
use Rattle.patch_set.specs.SetView.{SetView, patch_at}
use Rattle.split_recount.specs.Parts.{row_of, rows_of}
use Rattle.split_recount.specs.Splitting.{AreNames}
use Rattle.split_recount.proofs.Cutting.{row-at}
use Rattle.cli_tool_words.specs.PlainJobs.{PlainSplitJob}
use Rattle.filter_whole_text.specs.PartNames.{part_name, numbered_names, flat, is_unfit, is_usable, stem, first_name, stem_at, is_mark, ends_in_mark, mark, needs_mark, within, base, own_base, own_name, own_names, is_by_name, part_names}

-- what stands at a place, and behind it
next-suc : {A : Type 0} (xs : List A) (i : ℕ) (x : A) → slice_get xs i ≡ Some x → drop i xs ≡ x ∷ drop (suc i) xs
next-suc [] i x is = absurd cc
next-suc (y ∷ xs) zero x is = ap (λ z. z ∷ xs) (same_Some y x is)
next-suc (y ∷ xs) (suc i) x is = next-suc xs i x is

pub next-at : {A : Type 0} (xs : List A) (i : ℕ) (x : A) → slice_get xs i ≡ Some x → drop i xs ≡ x ∷ drop (i + 1) xs
next-at {A} xs i x is =
    let e : suc i ≡ i + 1 = omega arith in
    next-suc xs i x is ∙ ap (λ (n : ℕ). x ∷ drop n xs) e

-- ---- one name

usable-test : (text : List ℕ) (b : Bool) → bytes_eq (normal_form text) text ≡ b → broken_rule text ≡ None → is_usable text ≡ (b && not (is_unfit text))
usable-test text b same whole =
    ap (λ (r : Option NameRule). is_none r && bytes_eq (normal_form text) text && not (is_unfit text)) whole
    ∙ ap (λ (x : Bool). true && x && not (is_unfit text)) same

usable-by : (text : List ℕ) (b : Bool) → bytes_eq (normal_form text) text ≡ b → broken_rule text ≡ None
    → (if b && not (is_unfit (normal_form text)) then Some (normal_form text) else None) ≡ (if is_usable text then Some text else None)
usable-by text true same whole =
    ap (λ (l : List ℕ). if not (is_unfit l) then Some l else None) (are-same (normal_form text) text same)
    ∙ ap (λ (b : Bool). if b then Some text else None) (sym (usable-test text true same whole))
usable-by text false same whole = ap (λ (b : Bool). if b then Some text else None) (sym (usable-test text false same whole))

-- a text that breaks no rule
pub usable-is : (text : List ℕ) → broken_rule text ≡ None
    → (if bytes_eq (normal_form text) text && not (is_unfit (normal_form text)) then Some (normal_form text) else None) ≡ (if is_usable text then Some text else None)
usable-is text whole =
    ap (λ (b : Bool). if b && not (is_unfit (normal_form text)) then Some (normal_form text) else None) refl
    ∙ usable-by text (bytes_eq (normal_form text) text) refl whole

pub broken-is : (text : List ℕ) (rule : NameRule) → broken_rule text ≡ Some rule → (◌≡◌ {A = Option (List ℕ)} None (if is_usable text then Some text else None))
broken-is text rule broken = rw broken refl

-- ---- the first file patch from a place on

first-none : (at : ℕ) → first_name [] at ≡ []
unfolding first_name
first-none at = refl

module _ (row : ℕ × List ℕ) (rows : List (ℕ × List ℕ)) (at : ℕ) where
  first-here : at ≤ row.0 → first_name (row ∷ rows) at ≡ row.1
  unfolding first_name
  first-here le = let yes : nat_le at row.0 ≡ true = grind (arith, le) in rw yes refl

  first-later : row.0 < at → first_name (row ∷ rows) at ≡ first_name rows at
  unfolding first_name
  first-later lt = let none : nat_le at row.0 ≡ false = grind (arith, lt) in rw none refl

module _ (v : SetView) (patch : ℕ) where
  module _ (p : FilePatch) (is : patch_at v patch ≡ Some p) where
    next-row : drop patch (rows_of v) ≡ row_of v.text p ∷ drop (patch + 1) (rows_of v)
    next-row = next-at (rows_of v) patch (row_of v.text p) (row-at v patch p is)

    -- one that begins in front of a place is passed over
    pub passed-over : (place : ℕ) → p.span.start < place → (at : ℕ) → place ≤ at → first_name (drop (patch + 1) (rows_of v)) at ≡ first_name (drop patch (rows_of v)) at
    passed-over place lt at le = sym (ap (λ rows. first_name rows at) next-row ∙ first-later (row_of v.text p) (drop (patch + 1) (rows_of v)) at (omega (arith, lt, le)))

    pub stops-here : (place : ℕ) → place ≤ p.span.start → (at : ℕ) → at ≤ place → first_name (drop patch (rows_of v)) at ≡ first_name (drop patch (rows_of v)) 0
    stops-here place ge at le =
        ap (λ rows. first_name rows at) next-row
        ∙ first-here (row_of v.text p) (drop (patch + 1) (rows_of v)) at (omega (arith, ge, le))
        ∙ sym (ap (λ rows. first_name rows 0) next-row ∙ first-here (row_of v.text p) (drop (patch + 1) (rows_of v)) 0 (omega arith))

    pub named-here : (name : List ℕ) → name ≡ (row_of v.text p).1 → name ≡ first_name (drop patch (rows_of v)) 0
    named-here name is = is ∙ sym (ap (λ rows. first_name rows 0) next-row ∙ first-here (row_of v.text p) (drop (patch + 1) (rows_of v)) 0 (omega arith))

  none-left : length v.patches ≤ patch → drop patch (rows_of v) ≡ []
  none-left le = drop_all patch (rows_of v) (omega (arith, le, length-map v.patches (row_of v.text)))

  pub none-there : length v.patches ≤ patch → (at : ℕ) → first_name (drop patch (rows_of v)) at ≡ []
  none-there le at = ap (λ rows. first_name rows at) (none-left le) ∙ first-none at

-- ---- what stands for each part

-- so far: where the next part begins, that no file patch behind it is left out, and what stands for the parts
pub record Stands (strip : ℕ) (rows : List (ℕ × List ℕ)) (spans : List Span) (end i patch : ℕ) (done : List (List ℕ)) : Type 0 where
  pub at : ℕ
  pub turn : AreInTurn at (drop i spans) end
  pub skips : (x : ℕ) → at ≤ x → first_name (drop patch rows) x ≡ first_name rows x
  pub both : done ++ map (stem_at strip rows) (drop i spans) ≡ map (stem_at strip rows) spans

pub stands-first : (strip : ℕ) (rows : List (ℕ × List ℕ)) (spans : List Span) (end : ℕ) → AreInTurn 0 spans end → Stands strip rows spans end 0 0 []
stands-first strip rows spans end turn = record { at = 0; turn = turn; skips = λ x le. refl; both = refl }

pub stands-more : (strip : ℕ) (rows : List (ℕ × List ℕ)) (spans : List Span) (end i patch next : ℕ) (done more : List (List ℕ)) (span : Span) (name : List ℕ)
    → slice_get spans i ≡ Some span → Stands strip rows spans end i patch done
    → ((at : ℕ) → span.start ≤ at → first_name (drop next rows) at ≡ first_name (drop patch rows) at)
    → ((at : ℕ) → at ≤ span.start → first_name (drop next rows) at ≡ first_name (drop next rows) 0)
    → name ≡ first_name (drop next rows) 0 → more ≡ done ++ stem strip name ∷ [] → Stands strip rows spans end (i + 1) next more
stands-more strip rows spans end i patch next done more span name is s same there named pushed =
    let ahead : drop i spans ≡ span ∷ drop (i + 1) spans = next-at spans i span is in
    let turn : AreInTurn s.at (span ∷ drop (i + 1) spans) end = subst (λ (ss : List Span). AreInTurn s.at ss end) ahead s.turn in
    let first : name ≡ first_name rows span.start = named ∙ sym (there span.start (omega arith)) ∙ same span.start (omega arith) ∙ s.skips span.start (omega (arith, turn.0)) in
    record {
      at = span.end;
      turn = turn.2;
      skips = λ x le. same x (omega (arith, turn.0, turn.1, le)) ∙ s.skips x (omega (arith, turn.1, le));
      both = ap (λ (l : List (List ℕ)). l ++ map (stem_at strip rows) (drop (i + 1) spans)) (pushed ∙ ap (λ (n : List ℕ). done ++ stem strip n ∷ []) first)
          ∙ append_assoc done (stem_at strip rows span ∷ []) (map (stem_at strip rows) (drop (i + 1) spans))
          ∙ ap (λ (ss : List Span). done ++ map (stem_at strip rows) ss) (sym ahead)
          ∙ s.both;
    }

pub stands-all : (strip : ℕ) (rows : List (ℕ × List ℕ)) (spans : List Span) (end i patch : ℕ) (done : List (List ℕ)) → length spans ≤ i → Stands strip rows spans end i patch done
    → done ≡ map (stem_at strip rows) spans
stands-all strip rows spans end i patch done le s =
    sym (append-nil done) ∙ ap (λ (ss : List Span). done ++ map (stem_at strip rows) ss) (sym (drop_all i spans le)) ∙ s.both

-- ---- the names

-- so far: what stands for the parts that have names, and that these are the first of all
pub record Named (j : PlainSplitJob) (stems : List (List ℕ)) (i : ℕ) (set : BTreeSet (Bor (List ℕ))) (done : List (List ℕ)) : Type 0 where
  pub earlier : List (List ℕ)
  pub has : AreNames earlier set
  pub both : done ++ own_names j earlier (i + 1) (drop i stems) ≡ own_names j [] 1 stems

pub named-first : (j : PlainSplitJob) (stems : List (List ℕ)) (set : BTreeSet (Bor (List ℕ))) → AreNames [] set → Named j stems 0 set []
named-first j stems set has = record { earlier = []; has = has; both = refl }

own-more : (j : PlainSplitJob) (earlier : List (List ℕ)) (n : ℕ) (name : List ℕ) (others : List (List ℕ))
    → own_names j earlier n (name ∷ others) ≡ own_name j (needs_mark earlier name) n name ∷ own_names j (name ∷ earlier) (n + 1) others
unfolding own_names
own-more j earlier n name others = refl

own-none : (j : PlainSplitJob) (earlier : List (List ℕ)) (n : ℕ) → own_names j earlier n [] ≡ []
unfolding own_names
own-none j earlier n = refl

pub named-more : (j : PlainSplitJob) (stems : List (List ℕ)) (i : ℕ) (set next : BTreeSet (Bor (List ℕ))) (done more : List (List ℕ)) (stem : List ℕ) (marked : Bool)
    → slice_get stems i ≡ Some stem → Named j stems i set done
    → ((earlier : List (List ℕ)) → AreNames earlier set → marked ≡ needs_mark earlier stem)
    → ((earlier : List (List ℕ)) → AreNames earlier set → AreNames (stem ∷ earlier) next)
    → more ≡ done ++ own_name j marked (i + 1) stem ∷ [] → Named j stems (i + 1) next more
named-more j stems i set next done more stem marked is n test noted pushed =
    let ahead : drop i stems ≡ stem ∷ drop (i + 1) stems = next-at stems i stem is in
    record {
      earlier = stem ∷ n.earlier;
      has = noted n.earlier n.has;
      both = ap (λ (l : List (List ℕ)). l ++ own_names j (stem ∷ n.earlier) (i + 1 + 1) (drop (i + 1) stems)) (pushed ∙ ap (λ (b : Bool). done ++ own_name j b (i + 1) stem ∷ []) (test n.earlier n.has))
          ∙ append_assoc done (own_name j (needs_mark n.earlier stem) (i + 1) stem ∷ []) (own_names j (stem ∷ n.earlier) (i + 1 + 1) (drop (i + 1) stems))
          ∙ ap (λ (l : List (List ℕ)). done ++ l) (sym (own-more j n.earlier (i + 1) stem (drop (i + 1) stems)))
          ∙ ap (λ (l : List (List ℕ)). done ++ own_names j n.earlier (i + 1) l) (sym ahead)
          ∙ n.both;
    }

pub named-all : (j : PlainSplitJob) (stems : List (List ℕ)) (i : ℕ) (set : BTreeSet (Bor (List ℕ))) (done : List (List ℕ)) → length stems ≤ i → Named j stems i set done
    → done ≡ own_names j [] 1 stems
named-all j stems i set done le n =
    sym (append-nil done) ∙ ap (λ (l : List (List ℕ)). done ++ l) (sym (ap (own_names j n.earlier (i + 1)) (drop_all i stems le) ∙ own-none j n.earlier (i + 1))) ∙ n.both

-- ---- marks

pub mark-none : ends_in_mark [] ≡ false
unfolding ends_in_mark
mark-none = refl

module _ (text : List ℕ) (i : ℕ) (lt : i < length text) where
  mark-step : (b : ℕ) (bs : List ℕ) → ends_in_mark (b ∷ bs) ≡ (is_mark (b ∷ bs) || ends_in_mark bs)
  unfolding ends_in_mark
  mark-step b bs = refl

  ends-at : ends_in_mark (drop i text) ≡ (is_mark (drop i text) || ends_in_mark (drop (i + 1) text))
  ends-at =
      let e : suc i ≡ i + 1 = omega arith in
      by text i lt ∙ ap (λ (n : ℕ). is_mark (drop i text) || ends_in_mark (drop n text)) e
    where
      by : (xs : List ℕ) (k : ℕ) → k < length xs → ends_in_mark (drop k xs) ≡ (is_mark (drop k xs) || ends_in_mark (drop (suc k) xs))
      by [] k le = absurd (omega (arith, le))
      by (x ∷ xs) zero le = mark-step x xs
      by (x ∷ xs) (suc k) le = by xs k (omega (arith, le))

  pub mark-here : is_mark (drop i text) ≡ true → ends_in_mark (drop i text) ≡ true
  mark-here is = ends-at ∙ ap (λ b. b || ends_in_mark (drop (i + 1) text)) is

  pub mark-later : is_mark (drop i text) ≡ false → ends_in_mark (drop i text) ≡ ends_in_mark (drop (i + 1) text)
  mark-later is = ends-at ∙ ap (λ b. b || ends_in_mark (drop (i + 1) text)) is

-- ---- slashes

abbrev pub low : ℕ → ℕ
low b = if is_slash b then 95 else b

pub flat-more : (name : List ℕ) (at : ℕ) → at < length name → flat (take at name) ++ low (get_or name at 0) ∷ [] ≡ flat (take (at + 1) name)
flat-more name at lt = sym (ap flat (take_more name at 0 lt) ∙ map-append low (take at name) (get_or name at 0 ∷ []))

pub flat-all : (name : List ℕ) (at : ℕ) → length name ≤ at → flat (take at name) ≡ flat name
flat-all name at le = ap flat (take_all at name le)

-- ---- one name of a part

pub marked-is : (name : List ℕ) (n : ℕ) (marked : Bool) → marked ≡ true → part_name name n ≡ name ++ mark marked n
unfolding part_name
marked-is name n marked is = ap (λ (b : Bool). name ++ mark b n) (sym is)

module _ (file : List ℕ) (bare marked : Bool) (n : ℕ) (name : List ℕ) where
  abbrev chosen : Bool → List ℕ
  chosen b = if b then base bare true n (name ++ mark marked n) else base bare marked n name

  own-chosen : (b : Bool) → bytes_eq (base bare marked n name) (last_component file) ≡ b → chosen b ≡ own_base file bare marked n name
  unfolding own_base
  own-chosen b is = ap chosen (sym is)

  pub own-apart : (made : List ℕ) → made ≡ base bare marked n name → bytes_eq made (last_component file) ≡ false → made ≡ own_base file bare marked n name
  own-apart made is apart = is ∙ own-chosen false (ap (λ (l : List ℕ). bytes_eq l (last_component file)) (sym is) ∙ apart)

  pub own-longer : (first longer second : List ℕ) → first ≡ base bare marked n name → bytes_eq first (last_component file) ≡ true → longer ≡ name ++ mark marked n → second ≡ base bare true n longer
      → second ≡ own_base file bare marked n name
  own-longer first longer second is same made more =
      more ∙ ap (λ (l : List ℕ). base bare true n l) made ∙ own-chosen true (ap (λ (l : List ℕ). bytes_eq l (last_component file)) (sym is) ∙ same)

pub own-is : (j : PlainSplitJob) (marked : Bool) (n : ℕ) (name : List ℕ) (d : Option (List ℕ)) → j.names.directory ≡ d → within d (own_base j.input j.names.bare marked n name) ≡ own_name j marked n name
unfolding own_name
own-is j marked n name d is = ap (λ (x : Option (List ℕ)). within x (own_base j.input j.names.bare marked n name)) (sym is)

-- ---- all names

module _ (j : PlainSplitJob) (rows : List (ℕ × List ℕ)) (spans : List Span) where
  abbrev names-by : Bool → List (List ℕ)
  names-by b = if b then own_names j [] 1 (map (stem_at j.names.strip rows) spans) else numbered_names j.input (length spans)

  names-are : (b : Bool) → is_by_name j.names ≡ b → names-by b ≡ part_names j rows spans
  unfolding part_names
  names-are b is = ap names-by (sym is)

  pub names-numbered : is_by_name j.names ≡ false → numbered_names j.input (length spans) ≡ part_names j rows spans
  names-numbered is = names-are false is

  pub names-owned : is_by_name j.names ≡ true → own_names j [] 1 (map (stem_at j.names.strip rows) spans) ≡ part_names j rows spans
  names-owned is = names-are true is

-- ---- what stands for a name

module _ (strip : ℕ) (name : List ℕ) where
  abbrev stem-by : Bool → List ℕ
  stem-by b = if b then flat (shortened strip name) else codes "unnamed"

  stem-are : (b : Bool) → is_usable (flat (shortened strip name)) ≡ b → stem-by b ≡ stem strip name
  unfolding stem
  stem-are b is = ap stem-by (sym is)

  by-some : (text x : List ℕ) (b : Bool) → is_usable text ≡ b → Some x ≡ (if b then Some text else None) → text ≡ flat (shortened strip name) → x ≡ stem strip name
  by-some text x true is some same = same_Some x text some ∙ same ∙ stem-are true (ap (λ (l : List ℕ). is_usable l) (sym same) ∙ is)
  by-some text x false is some same = absurd cc

  by-none : (text : List ℕ) (b : Bool) → is_usable text ≡ b → None ≡ (if b then Some text else None) → text ≡ flat (shortened strip name) → codes "unnamed" ≡ stem strip name
  by-none text true is none same = absurd cc
  by-none text false is none same = stem-are false (ap (λ (l : List ℕ). is_usable l) (sym same) ∙ is)

  pub stem-some : (text x : List ℕ) → Some x ≡ (if is_usable text then Some text else None) → text ≡ flat (shortened strip name) → x ≡ stem strip name
  stem-some text x some same = by-some text x (is_usable text) refl some same

  pub stem-none : (text : List ℕ) → (◌≡◌ {A = Option (List ℕ)} None (if is_usable text then Some text else None)) → text ≡ flat (shortened strip name) → codes "unnamed" ≡ stem strip name
  stem-none text none same = by-none text (is_usable text) refl none same

-- what stands behind a place, to the end
pub rest-is : (text : List ℕ) (at : ℕ) → take (length text - at) (drop at text) ≡ drop at text
rest-is text at = take_all (length text - at) (drop at text) (omega (arith, length-drop at text))
