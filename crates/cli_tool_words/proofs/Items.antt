-- The items of ranges, by the texts that write them.
use Rattle.std.proofs.Common.{◌≡◌, ◌==◌, ◌∙◌, ℕ, ◌+◌, ◌<◌, List, [], ◌∷◌, ◌++◌, Option, Some, None, option_map, option_and_then, length, drop, get_or, if◌then◌else◌, ap, refl, sym, arith}
use Rattle.std.specs.List.{position_or_len, before_first, after_first}
use Rattle.std.proofs.lemmas.Bool.{le-ltb, lt-ltb}
use Rattle.std.proofs.lemmas.List.{append_assoc, append-nil, at_drop_all, at_drop_more}
use Rattle.cli_tool_words.specs.PlainJobs.{PlainItems}
use Rattle.cli_tool_words.specs.Ranges.{between, single, item_of, items_by}

-- ---- one item

pub without_hyphen : (text : List ℕ) → position_or_len (λ b. b == 45) text ≡ length text → single text ≡ item_of text
unfolding item_of
without_hyphen text e =
    sym (ap (λ b. if b then between (before_first (λ b. b == 45) text) (after_first (λ b. b == 45) text) else single text) (le-ltb (position_or_len (λ b. b == 45) text) (length text) (omega (arith, e))))

pub with_hyphen : (text front back : List ℕ) → front ≡ before_first (λ b. b == 45) text → back ≡ after_first (λ b. b == 45) text
    → position_or_len (λ b. b == 45) text < length text → between front back ≡ item_of text
unfolding item_of
with_hyphen text front back front-is back-is within =
    rw (front-is, back-is) (sym (ap (λ b. if b then between (before_first (λ b. b == 45) text) (after_first (λ b. b == 45) text) else single text) (lt-ltb (position_or_len (λ b. b == 45) text) (length text) within)))

-- ---- items between commas

-- an item before others
abbrev first_of : List (List ℕ) → Option (ℕ × ℕ) → Option PlainItems
first_of parts item = option_and_then (λ i. option_map (λ items. i ∷ items) (items_by parts)) item

-- items, and those of the parts that are left
abbrev pub read_then : PlainItems → List (List ℕ) → Option PlainItems
read_then items parts = option_map (λ more. items ++ more) (items_by parts)

pub nothing_read : (parts : List (List ℕ)) (items : PlainItems) → items ≡ [] → items_by parts ≡ read_then items parts
nothing_read parts items none = rw none (same (items_by parts))
  where
    same : (o : Option PlainItems) → o ≡ option_map (λ more. [] ++ more) o
    same None = refl
    same (Some items) = refl

one_more : (items : PlainItems) (item : ℕ × ℕ) (o : Option PlainItems) → option_map (λ more. items ++ more) (option_map (λ more. item ∷ more) o) ≡ option_map (λ more. (items ++ item ∷ []) ++ more) o
one_more items item None = refl
one_more items item (Some more) = ap (λ l. Some l) (sym (append_assoc items (item ∷ []) more))

module _ (parts : List (List ℕ)) (n : ℕ) (part : List ℕ) (items : PlainItems) (within : n < length parts) (at : part ≡ get_or parts n part)
    (so_far : items_by parts ≡ read_then items (drop n parts)) where
  next_is : (item : Option (ℕ × ℕ)) → item ≡ item_of part → items_by parts ≡ option_map (λ more. items ++ more) (first_of (drop (n + 1) parts) item)
  next_is item is =
      so_far ∙ (at_drop_more (read_then items) parts n part within
      ∙ ap (λ o. option_map (λ more. items ++ more) (first_of (drop (n + 1) parts) o)) (ap item_of (sym at) ∙ sym is))

  pub item_read : (item : ℕ × ℕ) (new : PlainItems) (m : ℕ) → Some item ≡ item_of part → new ≡ items ++ item ∷ [] → m ≡ n + 1 → items_by parts ≡ read_then new (drop m parts)
  item_read item new m is new-is m-is = rw (new-is, m-is) (next_is (Some item) is ∙ one_more items item (items_by (drop (n + 1) parts)))

  pub item_refused : None ≡ item_of part → items_by parts ≡ None
  item_refused is = next_is None is

pub all_read : (parts : List (List ℕ)) (n : ℕ) (items : PlainItems) → n ≡ length parts → items_by parts ≡ read_then items (drop n parts) → items_by parts ≡ Some items
all_read parts n items end so_far = so_far ∙ (at_drop_all (read_then items) parts n (omega (arith, end)) ∙ ap (λ l. Some l) (append-nil items))
