-- A text that is cut between its file patches.
use Rattle.std.proofs.Common.{◌≡◌, ℕ, zero, suc, ◌+◌, ◌<◌, ◌≤◌, Bool, true, false, ◌||◌, cond, eqb, List, [], ◌∷◌, ◌++◌, length, map, drop, Some, Bor, Ordering, refl, sym, ap, subst, ◌∙◌, arith}
use Rattle.std.specs.Prelude.{slice_get, option_map}
use Rattle.std.specs.BTreeMap.{is_at}
use Rattle.std.specs.BTreeSet.{BTreeSet, IsEmpty, Updates}
use Rattle.std.specs.Cmp.Lexicographic.{slice_cmp}
use Rattle.std.specs.List.{list_any}
use Rattle.std.specs.Ordering.{nat_cmp}
use Rattle.std.specs.Str.{bytes_eq}
use Rattle.std.proofs.lemmas.Bool.{false_from_ne_true, eqb-true}
use Rattle.std.proofs.lemmas.List.{append_assoc, drop_all}
use Rattle.std.proofs.lemmas.Map.Text.{is_eq-slice_cmp}
use Rattle.std.proofs.lemmas.Option.{same_Some, slice_get-map}
use Rattle.line_list.specs.declared.Span.{Span}
use Rattle.read_file_patch.specs.Numbered.{is_among}
use Rattle.read_file_patch.proofs.Names.{are-same}
use Rattle.read_file_patch.specs.declared.FilePatch.{FilePatch}
use Rattle.patch_set.specs.SetView.{SetView, patch_at}
use Rattle.split_recount.specs.declared.parts.CurrentPart.{CurrentPart}
use Rattle.split_recount.specs.Parts.{cuts, cuts_behind, between, parts, row_of, rows_of}
use Rattle.split_recount.specs.Splitting.{AreNames, Ahead, Goes, begins}

-- ---- the names of a part

swapped : (one other : List ℕ) → bytes_eq one other ≡ bytes_eq other one
swapped one other = by (bytes_eq one other) refl
  where
    by : (b : Bool) → bytes_eq one other ≡ b → bytes_eq one other ≡ bytes_eq other one
    by true e = ap (λ x. bytes_eq x other) (are-same one other e) ∙ ap (bytes_eq other) (sym (are-same one other e))
    by false e = e ∙ sym (false_from_ne_true (bytes_eq other one) (λ t.
        let x = sym e ∙ ap (λ x. bytes_eq one x) (are-same other one t) ∙ ap (λ x. bytes_eq x one) (sym (are-same other one t)) ∙ t in cc))

abbrev compare : Bor (List ℕ) → Bor (List ℕ) → Ordering
compare x y = slice_cmp nat_cmp x.now y.now

with-more : (b c d : Bool) → b ≡ c → (cond b true d) ≡ (c || d)
with-more true c d e = rw (sym e) refl
with-more false c d e = rw (sym e) refl

pub names-more : (names : List (List ℕ)) (old new : BTreeSet (Bor (List ℕ))) (name : Bor (List ℕ)) → AreNames names old → Updates compare old new name true → AreNames (name.now ∷ names) new
names-more names old new name has updates = λ q.
    let k : Bor (List ℕ) = record { ref_ptr = (0, 0); now = q } in
    updates.0 k ∙ ap (λ b. cond (is_at (compare name) k) true b) (has q) ∙ with-more _ _ _ (is_eq-slice_cmp name.now q ∙ swapped name.now q)

pub no-names : (set : BTreeSet (Bor (List ℕ))) → IsEmpty set → AreNames [] set
no-names set none = λ q. ap (λ (ks : List (Bor (List ℕ))). list_any (is_at (λ k. slice_cmp nat_cmp q k.now)) ks) none

-- ---- a file patch more

module _ (every : Bool) (names : List (List ℕ)) (row : ℕ × List ℕ) (rows : List (ℕ × List ℕ)) where
  pub cut-there : (every || is_among names row.1) ≡ true → cuts every names (row ∷ rows) ≡ row.0 ∷ cuts every (row.1 ∷ []) rows
  unfolding cuts
  cut-there h = rw h refl

  pub cut-later : (every || is_among names row.1) ≡ false → cuts every names (row ∷ rows) ≡ cuts every (row.1 ∷ names) rows
  unfolding cuts
  cut-later h = rw h refl

pub none-cut : (every : Bool) (names : List (List ℕ)) → cuts every names [] ≡ []
unfolding cuts
none-cut every names = refl

module _ (every : Bool) (row : ℕ × List ℕ) (part : CurrentPart) (done : List Span) where
  same-test : {end : ℕ} {all : List Span} {rows : List (ℕ × List ℕ)} (name : List ℕ) (b : Bool) → name ≡ row.1 → begins every part name ≡ b
      → (a : Ahead every end all (row ∷ rows) part done) → (every || is_among a.names row.1) ≡ b
  same-test name b is test a = ap (λ n. every || is_among a.names n) (sym is) ∙ ap (λ x. every || x) (sym (a.has name)) ∙ test

  pub goes-cut : (next : CurrentPart) (more : List Span) (name : List ℕ) (start : ℕ) → name ≡ row.1 → start ≡ row.0 → begins every part name ≡ true
      → more ≡ done ++ record { start = part.start; end = start } ∷ [] → next.start ≡ start → AreNames (name ∷ []) next.names → Goes every row part done next more
  goes-cut next more name start is at test pushed from has = λ end all rows a.
      let later = cuts every (row.1 ∷ []) rows in
      let cut : cuts every a.names (row ∷ rows) ≡ row.0 ∷ later = cut-there every a.names row rows (same-test name true is test a) in
      record {
        names = row.1 ∷ [];
        has = subst (λ n. AreNames (n ∷ []) next.names) is has;
        both = ap (λ l. l ++ between next.start later end) pushed ∙ append_assoc done (record { start = part.start; end = start } ∷ []) (between next.start later end)
            ∙ ap (λ n. done ++ record { start = part.start; end = start } ∷ between n later end) from
            ∙ ap (λ n. done ++ record { start = part.start; end = n } ∷ between n later end) at
            ∙ ap (λ l. done ++ between part.start l end) (sym cut) ∙ a.both;
      }

  pub goes-in : (next : CurrentPart) (name : Bor (List ℕ)) → name.now ≡ row.1 → begins every part name.now ≡ false → next.start ≡ part.start
      → Updates compare part.names next.names name true → Goes every row part done next done
  goes-in next name is test from updates = λ end all rows a.
      record {
        names = row.1 ∷ a.names;
        has = subst (λ n. AreNames (n ∷ a.names) next.names) is (names-more a.names part.names next.names name a.has updates);
        both = ap (λ n. done ++ between n (cuts every (row.1 ∷ a.names) rows) end) from
            ∙ ap (λ l. done ++ between part.start l end) (sym (cut-later every a.names row rows (same-test name.now false is test a))) ∙ a.both;
      }

-- ---- all file patches

next-row : {A : Type 0} (xs : List A) (i : ℕ) (x : A) → slice_get xs i ≡ Some x → drop i xs ≡ x ∷ drop (suc i) xs
next-row [] i x is = absurd cc
next-row (y ∷ xs) zero x is = ap (λ z. z ∷ xs) (same_Some y x is)
next-row (y ∷ xs) (suc i) x is = next-row xs i x is

module _ (every : Bool) (end : ℕ) (rows : List (ℕ × List ℕ)) where
  abbrev pub all_parts : List Span
  all_parts = between 0 (cuts_behind every rows) end

  pub first-row : (row : ℕ × List ℕ) (part : CurrentPart) → slice_get rows 0 ≡ Some row → part.start ≡ 0 → AreNames (row.1 ∷ []) part.names
      → Ahead every end all_parts (drop 1 rows) part []
  first-row row part is from has =
      record {
        names = row.1 ∷ [];
        has = has;
        both = ap (λ n. between n (cuts every (row.1 ∷ []) (drop 1 rows)) end) from
            ∙ ap (λ l. between 0 (cuts_behind every l) end) (sym (next-row rows 0 row is));
      }

  pub row-more : (i : ℕ) (row : ℕ × List ℕ) (part next : CurrentPart) (done more : List Span) → slice_get rows i ≡ Some row
      → Ahead every end all_parts (drop i rows) part done → Goes every row part done next more → Ahead every end all_parts (drop (i + 1) rows) next more
  row-more i row part next done more is a goes =
      let e : suc i ≡ i + 1 = omega arith in
      subst (λ n. Ahead every end all_parts (drop n rows) next more) e
      (goes end all_parts (drop (suc i) rows) (subst (λ l. Ahead every end all_parts l part done) (next-row rows i row is) a))

  pub rows-done : (i : ℕ) (part : CurrentPart) (done all : List Span) → length rows ≤ i → Ahead every end all_parts (drop i rows) part done
      → all ≡ done ++ record { start = part.start; end = end } ∷ [] → all ≡ all_parts
  rows-done i part done all le a pushed =
      pushed ∙ ap (λ l. done ++ between part.start l end) (sym (ap (cuts every a.names) (drop_all i rows le) ∙ none-cut every a.names)) ∙ a.both

pub row-at : (v : SetView) (i : ℕ) (p : FilePatch) → patch_at v i ≡ Some p → slice_get (rows_of v) i ≡ Some (row_of v.text p)
row-at v i p is = slice_get-map (row_of v.text) v.patches i ∙ ap (option_map (row_of v.text)) is

pub parts-are : (every : Bool) (v : SetView) → 0 < length v.text → parts every v ≡ all_parts every (length v.text) (rows_of v)
parts-are every v some =
    let e : eqb (length v.text) 0 ≡ false = false_from_ne_true (eqb (length v.text) 0) (λ t. omega (arith, some, eqb-true (length v.text) 0 t)) in
    rw e refl

-- ---- a text without file patches, and one without bytes

pub none-parts : (every : Bool) (v : SetView) (end : ℕ) → end ≡ length v.text → end ≡ 0 → [] ≡ parts every v
none-parts every v end is none =
    let e : length v.text ≡ 0 = sym is ∙ none in
    rw e refl

pub one-part : (every : Bool) (v : SetView) (end : ℕ) (patches : List FilePatch) → end ≡ length v.text → (end ≡ 0 → ⊥) → true ≡ eqb (length patches) 0 → patches ≡ v.patches → between 0 [] end ≡ parts every v
one-part every v end [] is some none same =
    let long : 0 < length v.text = omega (arith, is, some) in
    ap (between 0 []) is ∙ ap (λ ps. between 0 (cuts_behind every (map (row_of v.text) ps)) (length v.text)) same ∙ sym (parts-are every v long)
one-part every v end (p ∷ ps) is some none same = absurd (omega (arith, eqb-true (length (p ∷ ps)) 0 (sym none)))
