-- The names of parts.
use Rattle.std.proofs.Common.{◌≡◌, ℕ, zero, suc, ◌+◌, ◌-◌, ◌<◌, ◌^◌, List, [], ◌∷◌, ◌++◌, All, length, map, get_or, drop, replicate, codes, Bool, true, false, not, ◌&&◌, ◌||◌, if◌then◌else◌, nat_eq, bytes_eq, Option, None, Some, refl, sym, ◌∙◌, ap, subst, arith, length-append, length-drop, append_assoc}
use Rattle.std.proofs.lemmas.List.{get_or-append-add, get_or-drop, append-nil, length-map}
use Rattle.std.proofs.lemmas.List.FromFn.{length-map-range_with_len}
use Rattle.std.proofs.lemmas.Bool.{false≢true}
use Rattle.std.specs.Prelude.{is_none, nat_lt}
use Rattle.std.specs.List.{list_any, range_with_len, ends_with}
use Rattle.std.specs.Fmt.{decimal as written, format_spec, styled_decimal, padded_integral, char_count}
use Rattle.std.specs.Cmp.Lexicographic.{same_text}
use Rattle.num_text.specs.Numbers.{is_digit, decimal, AllDigits}
use Rattle.num_text.proofs.Decimal.{decimal-numeral, written-decimal}
use Rattle.outside.specs.Files.{is_temp}
use Rattle.outside.specs.Names.{is_slash, is_control, is_absolute, is_empty, components, last_of, last_component, broken_rule, normal_form, placed, IsEnding}
use Rattle.outside.proofs.Below.{temp_last}
use Rattle.outside.proofs.Components.{components_slash, components_some}
use Rattle.line_list.specs.declared.Span.{Span}
use Rattle.read_file_patch.specs.Stripped.{shortened}
use Rattle.cli_tool_words.specs.PlainJobs.{PlainSplitJob}
use Rattle.filter_whole_text.specs.PartNames.{three_digits, part_name, numbered_names, flat, is_unfit, is_usable, stem, first_name, stem_at, mark, needs_mark, ending, within, base, own_base, own_name, own_names, is_by_name, part_names}

-- ---- digits

no-slash : (d : ℕ) → is_digit d ≡ true → is_slash d ≡ false
no-slash d is = grind arith

no-control : (d : ℕ) → is_digit d ≡ true → is_control d ≡ false
no-control d is = grind arith

free : (test : ℕ → Bool) → ((d : ℕ) → is_digit d ≡ true → test d ≡ false) → (ds : List ℕ) → AllDigits ds → list_any test ds ≡ false
free test none [] all = refl
free test none (d ∷ ds) all = ap (λ b. b || list_any test ds) (none d all.0) ∙ free test none ds all.1

filled : (m : ℕ) (ds : List ℕ) → AllDigits ds → AllDigits (replicate m 48 ++ ds)
filled zero ds all = all
filled (suc m) ds all = (refl, filled m ds all)

digit-at : (ds : List ℕ) (i : ℕ) → AllDigits ds → i < length ds → is_digit (get_or ds i 0) ≡ true
digit-at [] i all lt = absurd (omega (arith, lt))
digit-at (d ∷ ds) zero all lt = all.0
digit-at (d ∷ ds) (suc i) all lt = digit-at ds i all.1 (omega (arith, lt))

three-all : (n : ℕ) → AllDigits (three_digits n)
three-all n = filled (3 - length (decimal n)) (decimal n) (decimal-numeral n).digits

three-some : (n : ℕ) → 0 < length (three_digits n)
three-some n = omega (arith, length-append (replicate (3 - length (decimal n)) 48) (decimal n), (decimal-numeral n).some)

-- padded with zeros to three digits
three-padded : (ds : List ℕ) → padded_integral (format_spec 32 0 4 3 (2 ^ 64 - 1)) false [] ds ≡ replicate (3 - length ds) 48 ++ ds
unfolding padded_integral char_count
three-padded ds = let none : 3 - length ds - 0 - 0 ≡ 3 - length ds = omega arith in rw (none, append-nil ds)

three-written : (n : ℕ) → n < 2 ^ 64 → styled_decimal (format_spec 32 0 4 3 (2 ^ 64 - 1)) n ≡ three_digits n
three-written n small = three-padded (written n) ∙ ap (λ (ds : List ℕ). replicate (3 - length ds) 48 ++ ds) (written-decimal n small)

-- ---- names

-- the number with `.part` before it may be put behind a name
part-ending : (n : ℕ) → IsEnding (codes ".part" ++ three_digits n)
part-ending n = record { no_slash = free is_slash no-slash (three_digits n) (three-all n); no_control = free is_control no-control (three_digits n) (three-all n) }

-- what ends in a digit is no name of a temporary
not-temp : (front ds : List ℕ) → 0 < length ds → AllDigits ds → is_temp (front ++ ds) ≡ false
unfolding is_temp
not-temp front ds some all = elim (is_temp (front ++ ds)) as (λ b. is_temp (front ++ ds) ≡ b → b ≡ false) [
  | true ↦ λ is.
      let k = length (front ++ ds) - 5 in
      let tail : codes ".ptmp" ≡ drop k (front ++ ds) = same_text (codes ".ptmp") (drop k (front ++ ds)) (sym is) in
      let long : k + 4 ≡ length front + (length ds - 1) = omega (arith, some, length-append front ds, length-drop k (front ++ ds), ap (λ (l : List ℕ). length l) tail) in
      let byte : 112 ≡ get_or ds (length ds - 1) 0 =
      ap (λ (l : List ℕ). get_or l 4 0) tail ∙ get_or-drop k (front ++ ds) 4 0 ∙ ap (λ i. get_or (front ++ ds) i 0) long ∙ get_or-append-add front ds (length ds - 1) 0 in
      absurd (false≢true (ap is_digit byte ∙ digit-at ds (length ds - 1) all (omega (arith, some))))
  | false ↦ λ is. refl
] refl

part-is : (file : List ℕ) (n : ℕ) → file ++ (codes ".part" ++ three_digits n) ≡ part_name file n
unfolding part_name
part-is file n = refl

-- what is put behind the file's name, as it is written
module _ (n : ℕ) (end : List ℕ) (small : n < 2 ^ 64) (is : end ≡ codes ".part" ++ styled_decimal (format_spec 32 0 4 3 (2 ^ 64 - 1)) n) where
  end-is : end ≡ codes ".part" ++ three_digits n
  end-is = is ∙ ap (λ (l : List ℕ). codes ".part" ++ l) (three-written n small)

  pub ending-written : IsEnding end
  ending-written = subst IsEnding (sym end-is) (part-ending n)

  pub name-written : (file name : List ℕ) → name ≡ file ++ end → name ≡ part_name file n
  name-written file name behind = behind ∙ ap (λ (l : List ℕ). file ++ l) end-is ∙ part-is file n

pub part-lasting : (file : List ℕ) (n : ℕ) → is_temp (part_name file n) ≡ false
unfolding part_name
part-lasting file n = subst (λ (l : List ℕ). is_temp l ≡ false) (append_assoc file (codes ".part") (three_digits n)) (not-temp (file ++ codes ".part") (three_digits n) (three-some n) (three-all n))

-- ---- names of file patches

-- what ends in another byte is no name of a temporary either
patch-lasting : (front : List ℕ) → is_temp (front ++ codes ".patch") ≡ false
unfolding is_temp
patch-lasting front = elim (is_temp (front ++ codes ".patch")) as (λ b. is_temp (front ++ codes ".patch") ≡ b → b ≡ false) [
  | true ↦ λ is.
      let k = length (front ++ codes ".patch") - 5 in
      let tail : codes ".ptmp" ≡ drop k (front ++ codes ".patch") = same_text (codes ".ptmp") (drop k (front ++ codes ".patch")) (sym is) in
      let long : k + 4 ≡ length front + 5 = omega (arith, length-append front (codes ".patch")) in
      let byte : 112 ≡ get_or (codes ".patch") 5 0 =
      ap (λ (l : List ℕ). get_or l 4 0) tail ∙ get_or-drop k (front ++ codes ".patch") 4 0 ∙ ap (λ i. get_or (front ++ codes ".patch") i 0) long ∙ get_or-append-add front (codes ".patch") 5 0 in
      absurd (omega (arith, byte))
  | false ↦ λ is. refl
] refl

last-append : (cs ds : List (List ℕ)) → is_empty ds ≡ false → last_of (cs ++ ds) ≡ last_of ds
last-append [] ds some = refl
last-append (c ∷ []) [] some = absurd cc
last-append (c ∷ []) (d ∷ ds) some = refl
last-append (c ∷ b ∷ cs) ds some = last-append (b ∷ cs) ds some

below-temp : (directory name : List ℕ) → is_temp (directory ++ 47 ∷ name) ≡ is_temp name
below-temp directory name =
    temp_last (directory ++ 47 ∷ name)
    ∙ ap (λ (cs : List (List ℕ)). ends_with nat_eq (last_of cs) (codes ".ptmp")) (components_slash directory name)
    ∙ ap (λ (c : List ℕ). ends_with nat_eq c (codes ".ptmp")) (last-append (components directory) (components name) (components_some name))
    ∙ sym (temp_last name)

placed-temp : (directory name : List ℕ) → is_temp (placed directory name) ≡ is_temp name
placed-temp directory name = elim (is_absolute name) as (λ b. is_temp (if b then name else directory ++ 47 ∷ name) ≡ is_temp name) [
  | true ↦ refl
  | false ↦ below-temp directory name
]

within-lasting : (directory : Option (List ℕ)) (name : List ℕ) → is_temp name ≡ false → is_temp (within directory name) ≡ false
within-lasting None name lasting = lasting
within-lasting (Some directory) name lasting = placed-temp directory name ∙ lasting

mark-lasting : (marked : Bool) (n : ℕ) (name : List ℕ) → is_temp name ≡ false → is_temp (name ++ mark marked n) ≡ false
mark-lasting true n name lasting = ap is_temp (part-is name n) ∙ part-lasting name n
mark-lasting false n name lasting = ap is_temp (append-nil name) ∙ lasting

ending-lasting : (bare : Bool) (name : List ℕ) → is_temp name ≡ false → is_temp (name ++ ending bare) ≡ false
ending-lasting true name lasting = ap is_temp (append-nil name) ∙ lasting
ending-lasting false name lasting = patch-lasting name

base-lasting : (bare marked : Bool) (n : ℕ) (name : List ℕ) → is_temp name ≡ false → is_temp (base bare marked n name) ≡ false
base-lasting bare marked n name lasting = ending-lasting bare (name ++ mark marked n) (mark-lasting marked n name lasting)

own-base-lasting : (file : List ℕ) (bare marked : Bool) (n : ℕ) (name : List ℕ) → is_temp name ≡ false → is_temp (own_base file bare marked n name) ≡ false
unfolding own_base
own-base-lasting file bare marked n name lasting =
    elim (bytes_eq (base bare marked n name) (last_component file)) as (λ b. is_temp (if b then base bare true n (name ++ mark marked n) else base bare marked n name) ≡ false) [
      | true ↦ base-lasting bare true n (name ++ mark marked n) (mark-lasting marked n name lasting)
      | false ↦ base-lasting bare marked n name lasting
    ]

own-lasting : (j : PlainSplitJob) (marked : Bool) (n : ℕ) (name : List ℕ) → is_temp name ≡ false → is_temp (own_name j marked n name) ≡ false
unfolding own_name
own-lasting j marked n name lasting = within-lasting j.names.directory (own_base j.input j.names.bare marked n name) (own-base-lasting j.input j.names.bare marked n name lasting)

third : (a b c : Bool) → (a && b && not c) ≡ true → c ≡ false
third true true false is = refl
third true true true is = absurd cc
third true false c is = absurd cc
third false b c is = absurd cc

first-false : (a b : Bool) → (a || b) ≡ false → a ≡ false
first-false true b is = absurd cc
first-false false b is = refl

unnamed-lasting : is_temp (codes "unnamed") ≡ false
unfolding is_temp
unnamed-lasting = refl

pub stem-lasting : (strip : ℕ) (name : List ℕ) → is_temp (stem strip name) ≡ false
unfolding stem
stem-lasting strip name =
    let text = flat (shortened strip name) in
    elim (is_usable text) as (λ b. is_usable text ≡ b → is_temp (if b then text else codes "unnamed") ≡ false) [
      | true ↦ λ is. first-false (is_temp text) (nat_lt 200 (length text)) (third (is_none (broken_rule text)) (bytes_eq (normal_form text) text) (is_unfit text) is)
      | false ↦ λ is. unnamed-lasting
    ] refl

-- ---- all names

abbrev Lasts : List ℕ → Type 0
Lasts name = is_temp name ≡ false

all-more : (x : List ℕ) (xs : List (List ℕ)) → Lasts x → All Lasts xs → All Lasts (x ∷ xs)
all-more x xs here there zero d lt = here
all-more x xs here there (suc k) d lt = there k d (omega (arith, lt))

owns-last : (j : PlainSplitJob) (earlier : List (List ℕ)) (n : ℕ) (strip : ℕ) (rows : List (ℕ × List ℕ)) (spans : List Span) → All Lasts (own_names j earlier n (map (stem_at strip rows) spans))
unfolding own_names
owns-last j earlier n strip rows [] = λ k d lt. absurd (omega (arith, lt))
owns-last j earlier n strip rows (span ∷ spans) =
    let name = stem_at strip rows span in
    all-more (own_name j (needs_mark earlier name) n name) (own_names j (name ∷ earlier) (n + 1) (map (stem_at strip rows) spans))
    (own-lasting j (needs_mark earlier name) n name (stem-lasting strip (first_name rows span.start)))
    (owns-last j (name ∷ earlier) (n + 1) strip rows spans)

numbers-last : (file : List ℕ) (a n : ℕ) → All Lasts (map (part_name file) (range_with_len a n))
numbers-last file a zero = λ k d lt. absurd (omega (arith, lt))
numbers-last file a (suc n) = all-more (part_name file a) (map (part_name file) (range_with_len (a + 1) n)) (part-lasting file a) (numbers-last file (a + 1) n)

pub names-lasting : (j : PlainSplitJob) (rows : List (ℕ × List ℕ)) (spans : List Span) → All Lasts (part_names j rows spans)
unfolding part_names
names-lasting j rows spans =
    elim (is_by_name j.names) as (λ b. All Lasts (if b then own_names j [] 1 (map (stem_at j.names.strip rows) spans) else numbered_names j.input (length spans))) [
      | true ↦ owns-last j [] 1 j.names.strip rows spans
      | false ↦ numbers-last j.input 1 (length spans)
    ]

owns-count : (j : PlainSplitJob) (earlier : List (List ℕ)) (n : ℕ) (stems : List (List ℕ)) → length (own_names j earlier n stems) ≡ length stems
unfolding own_names
owns-count j earlier n [] = refl
owns-count j earlier n (stem ∷ stems) = ap suc (owns-count j (stem ∷ earlier) (n + 1) stems)

pub names-count : (j : PlainSplitJob) (rows : List (ℕ × List ℕ)) (spans : List Span) → length (part_names j rows spans) ≡ length spans
unfolding part_names
names-count j rows spans =
    elim (is_by_name j.names) as (λ b. length (if b then own_names j [] 1 (map (stem_at j.names.strip rows) spans) else numbered_names j.input (length spans)) ≡ length spans) [
      | true ↦ owns-count j [] 1 (map (stem_at j.names.strip rows) spans) ∙ length-map spans (stem_at j.names.strip rows)
      | false ↦ length-map-range_with_len (part_name j.input) 1 (length spans)
    ]
