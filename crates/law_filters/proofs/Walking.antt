-- All file patches that are left, one behind the other.
use Rattle.std.proofs.Common.{◌≡◌, ◌+◌, ℕ, Bool, true, false, cond, ◌&&◌, List, [], ◌∷◌, ◌++◌, map, length, drop, Ok, refl, sym, ap, subst, ◌∙◌}
use Rattle.std.specs.Prelude.{filter}
use Rattle.std.specs.List.{AllByRecursion, flat_map, range_with_len, zip}
use Rattle.std.proofs.lemmas.List.Concat.{flat_map-cons, flat_map-append}
use Rattle.line_list.specs.Lines.{lines, IsLine}
use Rattle.line_list.proofs.Pieces.{joined, pieces-only}
use Rattle.line_list.proofs.WholeLines.{whole-pieces, lines-both}
use Rattle.patch_header.specs.Content.{has_dot}
use Rattle.patch_header.specs.declared.read_options.ReadOptions.{ReadOptions}
use Rattle.patch_header.proofs.Stands.{and_right}
use Rattle.read_file_patch.specs.PlainPatch.{PlainPatch}
use Rattle.filter_choice.specs.Selected.{numbered}
use Rattle.law_reading.specs.Unnumbered.{unnumbered}
use Rattle.law_reading.specs.Following.{IsFilePatch}
use Rattle.law_reading.specs.Joins as joins
use Rattle.law_reading.specs.Joins.{AddNoDot, BeginCleanly, begin_with_git, Part, all_lines, FitTogether, read_unnumbered}
use Rattle.law_reading.proofs.Standing.{parts-read}
use Rattle.law_filters.specs.CleanJoins.{Text, all_bytes, FollowCleanly}
use Rattle.law_filters.proofs.Cutting.{all-both, dots-join}
use Rattle.law_filters.proofs.Parts.{Known}

part-lines : (q : Part) (qs : List Part) → all_lines (q ∷ qs) ≡ q.own ++ all_lines qs
part-lines q qs = flat_map-cons (λ (x : Part). x.own) q qs

-- no line '.' comes in behind a command that would open a script before it
abbrev AddNoDots : ReadOptions → List Part → Type 0
AddNoDots ways [] = Unit {0}
AddNoDots ways (q ∷ qs) = AddNoDot ways q.own (all_lines qs) × AddNoDots ways qs

-- file patches of which some are meant, and something is left, with what is written of each and what it then is
module _ (A : Type 0) (ways : ReadOptions) (text : List ℕ) (left bare : A → Bool) (written : A → List ℕ) (patch : A → PlainPatch) (taken : ℕ × A → Bool) where
  abbrev test : ℕ × A → Bool
  test n = taken n && left n.1

  abbrev row : ℕ × A → Text
  row n = record { bare = bare n.1; bytes = written n.1 }

  -- they stand one behind the other from a place on
  abbrev pub Chain : ℕ → List A → Type 0
  Chain start [] = Unit {0}
  Chain start (a ∷ rest) = (end : ℕ) × Known ways text start end (left a) (written a) (patch a) × (bare a ≡ (patch a).header.bare) × Chain end rest

  -- each part is what is written of its file patch
  abbrev Match : List Part → List (ℕ × A) → Type 0
  Match [] [] = Unit {0}
  Match [] (n ∷ ns) = ⊥
  Match (q ∷ qs) [] = ⊥
  Match (q ∷ qs) (n ∷ ns) = (joined q.own ≡ written n.1) × (q.patch ≡ unnumbered (patch n.1)) × (bare n.1 ≡ (patch n.1).header.bare) × Match qs ns

  record Walked (start : ℕ) (ns : List (ℕ × A)) : Type 0 where
    parts : List Part
    match : Match parts ns
    alone : AllByRecursion (λ (q : Part). IsFilePatch ways q.own [] q.patch) parts
    are_lines : AllByRecursion IsLine (all_lines parts)
    dots : has_dot (lines (drop start text)) ≡ false → has_dot (all_lines parts) ≡ false
    apart : AddNoDots ways parts

  walk : (k start : ℕ) (rest : List A) → Chain start rest → Walked start (filter test (zip (range_with_len k (length rest)) rest))
  walk k start [] c = record { parts = []; match = tt; alone = tt; are_lines = tt; dots = λ h. refl; apart = tt }
  walk k start (a ∷ rest) c = by (test (k, a)) refl c.1 c.2 (walk (k + 1) c.0 rest c.3)
    where
      by : (v : Bool) → test (k, a) ≡ v → Known ways text start c.0 (left a) (written a) (patch a) → bare a ≡ (patch a).header.bare → Walked c.0 (filter test (zip (range_with_len (k + 1) (length rest)) rest))
          → Walked start (cond v ((k, a) ∷ filter test (zip (range_with_len (k + 1) (length rest)) rest)) (filter test (zip (range_with_len (k + 1) (length rest)) rest)))
      by true e it is more =
          let one = it.part (and_right (taken (k, a)) _ e) in
          let q : Part = record { own = one.own; patch = unnumbered (patch a) } in
          record {
            parts = q ∷ more.parts;
            match = (one.bytes, refl, is, more.match);
            alone = (one.is, more.alone);
            are_lines = subst (AllByRecursion IsLine) (sym (part-lines q more.parts)) (lines-both one.own (all_lines more.parts) one.are_lines more.are_lines);
            dots = λ h. ap has_dot (part-lines q more.parts) ∙ dots-join one.own (all_lines more.parts) (one.dots h) (more.dots (it.dots h));
            apart = (λ asks. more.dots (one.asks asks), more.apart);
          }
      by false e it is more = record { parts = more.parts; match = more.match; alone = more.alone; are_lines = more.are_lines; dots = λ h. more.dots (it.dots h); apart = more.apart }

  -- ---- what is written

  match-bytes : (qs : List Part) (ns : List (ℕ × A)) → Match qs ns → flat_map (λ (n : ℕ × A). written n.1) ns ≡ joined (all_lines qs)
  match-bytes [] [] m = refl
  match-bytes [] (n ∷ ns) m = absurd m
  match-bytes (q ∷ qs) [] m = absurd m
  match-bytes (q ∷ qs) (n ∷ ns) m =
      flat_map-cons (λ (x : ℕ × A). written x.1) n ns
      ∙ ap (λ bs. bs ++ flat_map (λ (x : ℕ × A). written x.1) ns) (sym m.0)
      ∙ ap (λ bs. joined q.own ++ bs) (match-bytes qs ns m.3)
      ∙ sym (flat_map-append (λ (line : List ℕ). line) q.own (all_lines qs))
      ∙ ap joined (sym (part-lines q qs))

  text-bytes : (ns : List (ℕ × A)) → all_bytes (map row ns) ≡ flat_map (λ (n : ℕ × A). written n.1) ns
  text-bytes [] = refl
  text-bytes (n ∷ ns) =
      flat_map-cons (λ (t : Text). t.bytes) (row n) (map row ns)
      ∙ ap (λ bs. written n.1 ++ bs) (text-bytes ns)
      ∙ sym (flat_map-cons (λ (x : ℕ × A). written x.1) n ns)

  match-patches : (qs : List Part) (ns : List (ℕ × A)) → Match qs ns → map (λ (q : Part). q.patch) qs ≡ map unnumbered (map (λ (n : ℕ × A). patch n.1) ns)
  match-patches [] [] m = refl
  match-patches [] (n ∷ ns) m = absurd m
  match-patches (q ∷ qs) [] m = absurd m
  match-patches (q ∷ qs) (n ∷ ns) m =
      ap (λ p. p ∷ map (λ (x : Part). x.patch) qs) m.1
      ∙ ap (λ ps. unnumbered (patch n.1) ∷ ps) (match-patches qs ns m.3)

  all-behind : (q : Part) (qs : List Part) → AllByRecursion IsLine (all_lines (q ∷ qs)) → AllByRecursion IsLine (all_lines qs)
  all-behind q qs h = (all-both q.own (all_lines qs) (subst (AllByRecursion IsLine) (part-lines q qs) h)).1

  fit : (qs : List Part) (ns : List (ℕ × A)) → Match qs ns → AllByRecursion (λ (q : Part). IsFilePatch ways q.own [] q.patch) qs → AllByRecursion IsLine (all_lines qs) → AddNoDots ways qs → FollowCleanly (map row ns) → FitTogether ways qs
  fit [] ns m alone all apart clean = tt
  fit (q ∷ qs) [] m alone all apart clean = absurd m
  fit (q ∷ qs) (n ∷ ns) m alone all apart clean =
      let later : AllByRecursion IsLine (all_lines qs) = all-behind q qs all in
      let lines_are : lines (all_bytes (map row ns)) ≡ all_lines qs = ap lines (text-bytes ns ∙ match-bytes qs ns m.3) ∙ pieces-only (all_lines qs) (whole-pieces (all_lines qs) later) in
      let is_bare : q.patch.header.bare ≡ bare n.1 = ap (λ (p : PlainPatch). p.header.bare) m.1 ∙ sym m.2 in
      let one : joins.JoinCleanly ways q.own (all_lines qs) q.patch = record {
        begins = subst BeginCleanly lines_are clean.0;
        git = λ b. ap begin_with_git (sym lines_are) ∙ clean.1 (sym is_bare ∙ b);
        dots = apart.0;
      } in
      (alone.0, one, fit qs ns m.3 alone.1 later apart.1 clean.2)

  -- nothing is written of those that aren't left
  left-alone : ((a : A) → left a ≡ false → written a ≡ []) → (ns : List (ℕ × A)) → flat_map (λ (n : ℕ × A). written n.1) (filter taken ns) ≡ flat_map (λ (n : ℕ × A). written n.1) (filter test ns)
  left-alone none [] = refl
  left-alone none (n ∷ ns) = by (taken n) (left n.1) refl (left-alone none ns)
    where
      by : (t l : Bool) → left n.1 ≡ l → flat_map (λ (x : ℕ × A). written x.1) (filter taken ns) ≡ flat_map (λ (x : ℕ × A). written x.1) (filter test ns)
          → flat_map (λ (x : ℕ × A). written x.1) (cond t (n ∷ filter taken ns) (filter taken ns)) ≡ flat_map (λ (x : ℕ × A). written x.1) (cond (t && l) (n ∷ filter test ns) (filter test ns))
      by true true e more = flat_map-cons (λ (x : ℕ × A). written x.1) n (filter taken ns) ∙ ap (λ bs. written n.1 ++ bs) more ∙ sym (flat_map-cons (λ (x : ℕ × A). written x.1) n (filter test ns))
      by true false e more = flat_map-cons (λ (x : ℕ × A). written x.1) n (filter taken ns) ∙ ap (λ bs. bs ++ flat_map (λ (x : ℕ × A). written x.1) (filter taken ns)) (none n.1 e) ∙ more
      by false l e more = more

  pub chain-reads : (all : List A) → Chain 0 all → ((a : A) → left a ≡ false → written a ≡ []) → FollowCleanly (map row (filter test (numbered all)))
      → read_unnumbered ways (flat_map (λ (n : ℕ × A). written n.1) (filter taken (numbered all))) ≡ Ok (map unnumbered (map (λ (n : ℕ × A). patch n.1) (filter test (numbered all))))
  chain-reads all c none clean =
      let w = walk 1 0 all c in
      let total = flat_map (λ (n : ℕ × A). written n.1) (filter taken (numbered all)) in
      let bytes : total ≡ joined (all_lines w.parts) = left-alone none (numbered all) ∙ match-bytes w.parts (filter test (numbered all)) w.match in
      let lines_are : lines total ≡ all_lines w.parts = ap lines bytes ∙ pieces-only (all_lines w.parts) (whole-pieces (all_lines w.parts) w.are_lines) in
      parts-read ways total w.parts lines_are (fit w.parts (filter test (numbered all)) w.match w.alone w.are_lines w.apart clean)
      ∙ ap (λ ps. Ok ps) (match-patches w.parts (filter test (numbered all)) w.match)
