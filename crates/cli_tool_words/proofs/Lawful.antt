-- What a tool is asked for is lawful.
use Rattle.std.proofs.Common.{◌≡◌, ◌&&◌, ◌*◌, ◌≤◌, ◌-◌, ◌^◌, ◌==◌, ℕ, Bool, true, false, not, List, [], ◌∷◌, Option, Some, None, All, codes, refl, arith, if◌then◌else◌, bytes_eq, length, nat_le, nat_lt, option_map, option_and_then, unwrap_or}
use Rattle.std.specs.List.{slice_split, position_or_len, before_first, after_first}
use Rattle.std.specs.Option.{ForSome, option_map_or}
use Rattle.std.proofs.lemmas.List.Elements.{All-nil, All-cons}
use Rattle.clap.specs.Lexer.{strip_byte}
use Rattle.clap.specs.Words.{Row, Text}
use Rattle.outside.specs.Files.{is_temp}
use Rattle.patch_options.specs.Forms.{is_lasting_name, is_name, number_of}
use Rattle.patch_options.specs.Table.{value_of, plan_in}
use Rattle.patch_options.proofs.Lawful.{some_has, none_has, is_false, size_of}
use Rattle.cli_tool_words.specs.Asked.{are_part_names, asked, gen_of, is_gen, is_lawful, is_made, is_size, is_split_file, is_sync, is_within, number_in}
use Rattle.cli_tool_words.specs.PlainJobs.{AreRanges, IsLawfulToolJob, IsRange, IsSize, PlainRanges}
use Rattle.cli_tool_words.specs.Ranges.{between, end_or, item_of, items_by, items_of, listed, ordered, ranges_of, single}
use Rattle.cli_tool_words.specs.Selecting.{name_in}
use Rattle.cli_tool_words.specs.declared.tools.Tool.{Tool}
use Rattle.cli_tool_words.specs.declared.tools.Tool.TheVariants.{Lsdiff, Filterdiff, Grepdiff, Splitdiff, Recountdiff, Patchgen, Reversediff, Patchstack}

-- ---- values that may be none
then_has : {X Y : Type 0} (P : X → Type 0) (Q : Y → Type 0) (f : X → Option Y) (o : Option X) → ForSome o P → ((x : X) → P x → ForSome (f x) Q) → ForSome (option_and_then f o) Q
then_has P Q f None h law = none_has Q
then_has P Q f (Some x) h law = law x (h x refl)

map_has : {X Y : Type 0} (P : X → Type 0) (Q : Y → Type 0) (f : X → Y) (o : Option X) → ForSome o P → ((x : X) → P x → Q (f x)) → ForSome (option_map f o) Q
map_has P Q f None h law = none_has Q
map_has P Q f (Some x) h law = some_has Q (f x) (law x (h x refl))

-- ---- ranges

ordered_has : (first last : ℕ) → ForSome (ordered first last) IsRange
ordered_has first last = go (nat_le first last) refl
  where
    go : (b : Bool) → nat_le first last ≡ b → ForSome (if b then Some (first, last) else None) IsRange
    go true e = some_has IsRange (first, last) (grind arith)
    go false e = none_has IsRange

between_has : (front back : List ℕ) → ForSome (between front back) IsRange
unfolding between
between_has front back =
    then_has (λ n. Unit {0}) IsRange (λ first. option_and_then (ordered first) (end_or (2 ^ 32 - 1) back)) (end_or 0 front) (λ n is. tt)
    (λ first h. then_has (λ n. Unit {0}) IsRange (ordered first) (end_or (2 ^ 32 - 1) back) (λ n is. tt) (λ last k. ordered_has first last))

single_has : (text : List ℕ) → ForSome (single text) IsRange
single_has text = map_has (λ n. Unit {0}) IsRange (λ n. (n, n)) (number_of text) (λ n is. tt) (λ n h. omega arith)

item_has : (text : List ℕ) → ForSome (item_of text) IsRange
unfolding item_of
item_has text = go (nat_lt (position_or_len (λ b. b == 45) text) (length text))
  where
    go : (b : Bool) → ForSome (if b then between (before_first (λ b. b == 45) text) (after_first (λ b. b == 45) text) else single text) IsRange
    go true = between_has (before_first (λ b. b == 45) text) (after_first (λ b. b == 45) text)
    go false = single_has text

items_have : (texts : List (List ℕ)) → ForSome (items_by texts) (All IsRange)
items_have [] = some_has (All IsRange) [] (All-nil IsRange)
items_have (text ∷ texts) = then_has IsRange (All IsRange) (λ item. option_map (λ items. item ∷ items) (items_by texts)) (item_of text) (item_has text)
    (λ item h. map_has (All IsRange) (All IsRange) (λ items. item ∷ items) (items_by texts) (items_have texts) (λ items k. All-cons IsRange item items h k))

abbrev AreOrdered : PlainRanges → Type 0
AreOrdered ranges = All IsRange ranges.items

listed_have : (others : Bool) (text : List ℕ) → ForSome (listed others text) AreOrdered
unfolding items_of
listed_have others text = map_has (All IsRange) AreOrdered (λ items. record { items = items; others = others }) (items_of text) (items_have (slice_split (λ b. b == 44) text)) (λ items h. h)

ranges_have : (value : Option Text) → AreRanges (option_and_then ranges_of value)
unfolding ranges_of
ranges_have None = none_has AreOrdered
ranges_have (Some text) = go (strip_byte 120 text)
  where
    go : (o : Option (List ℕ)) → ForSome (option_map_or (listed true) o (listed false text)) AreOrdered
    go None = listed_have false text
    go (Some list) = listed_have true list

-- ---- names

both : (a b : Bool) → (a && b) ≡ true → (a ≡ true) × (b ≡ true)
both true b h = (refl, h)
both false b h = cc

split_has : (value : Option Text) → option_map_or is_split_file value false ≡ true → is_temp (option_map_or name_in value []) ≡ false
unfolding is_split_file is_lasting_name
split_has None h = cc
split_has (Some text) h = is_false _ (both (is_name text) _ (both (not (bytes_eq text (codes "-"))) _ h).1).1

-- ---- sizes

abbrev AreSizes : ℕ → ℕ → Type 0
AreSizes files lines = ((1 ≤ files) × (files ≤ 1000)) × (((20 ≤ lines) × (lines ≤ 9999999)) × (files * lines ≤ 10000000))

at_most : (a b : ℕ) → nat_le a b ≡ true → a ≤ b
at_most a b e = grind arith

within_is : (least most n : ℕ) → is_within least most n ≡ true → (least ≤ n) × (n ≤ most)
within_is least most n h = let p = both (nat_le least n) (nat_le n most) h in (at_most least n p.0, at_most n most p.1)

sizes_are : (files lines : ℕ) → is_size files lines ≡ true → AreSizes files lines
sizes_are files lines h =
    let p = both (is_within 1 1000 files) (is_within 20 9999999 lines && nat_le (files * lines) 10000000) h in
    let q = both (is_within 20 9999999 lines) (nat_le (files * lines) 10000000) p.1 in
    (within_is 1 1000 files p.0, (within_is 20 9999999 lines q.0, at_most (files * lines) 10000000 q.1))

made_are : (seed files lines : Option ℕ) → is_made seed files lines ≡ true → AreSizes (unwrap_or files 0) (unwrap_or lines 0)
made_are (Some seed) (Some files) (Some lines) h = sizes_are files lines h
made_are (Some seed) (Some files) None h = cc
made_are (Some seed) None lines h = cc
made_are None files lines h = cc

gen_has : (rows : List Row) → is_gen rows ≡ true → IsSize (gen_of rows)
gen_has rows h =
    let p = both (is_made (number_in rows (codes "seed")) (number_in rows (codes "files")) (number_in rows (codes "lines"))) _ h in
    let sizes = made_are (number_in rows (codes "seed")) (number_in rows (codes "files")) (number_in rows (codes "lines")) p.0 in
    let page = size_of (value_of rows (codes "buffer")) (plan_in rows) in
    record { some_files = sizes.0.0; few_files = sizes.0.1; some_lines = sizes.1.0.0; few_lines = sizes.1.0.1; few = sizes.1.1; least = page.0; most = page.1 }

-- ---- all tools

pub lawful_job : (tool : Tool) (rows : List Row) → is_lawful tool rows ≡ true → IsLawfulToolJob (asked tool rows)
lawful_job Lsdiff rows h = tt
lawful_job Filterdiff rows h = record { hunks = ranges_have (value_of rows (codes "hunks")); lines = ranges_have (value_of rows (codes "lines")); files = ranges_have (value_of rows (codes "files")) }
lawful_job Grepdiff rows h = tt
lawful_job Splitdiff rows h = split_has (value_of rows (codes "input")) (both (are_part_names rows) _ (both (is_sync rows) _ h).1).1
lawful_job Recountdiff rows h = tt
lawful_job Patchgen rows h = gen_has rows h
lawful_job Reversediff rows h = tt
lawful_job Patchstack rows h = tt
