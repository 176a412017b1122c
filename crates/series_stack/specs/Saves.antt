-- What files held before a patch was applied, and the text that keeps it.
use Rattle.std.specs.Prelude.{◌≡◌, ℕ, zero, suc, ◌^◌, ◌<◌, List, [], ◌∷◌, ◌++◌, codes, length, take, drop, slice_index_or, nat_eq, Bool, true, not, ◌&&◌, ◌||◌, ◌==◌, if◌then◌else◌, bytes_eq, is_none, Option, None, Some, option_map}
use Rattle.std.specs.List.{flat_map, starts_with}
use Rattle.num_text.specs.Numbers.{decimal}
use Rattle.outside.specs.Files.{is_temp}
use Rattle.outside.specs.Names.{broken_rule, normal_form}
use Rattle.series_stack.specs.Texts.{behind, cut, first_number}

-- nothing had the name, or it was that of a file with these bytes
pub data Entry : Type 0 where
  Missing : List ℕ → Entry
  Held : List ℕ → List ℕ → Entry

abbrev pub name_of : Entry → List ℕ
name_of (Missing name) = name
name_of (Held name bytes) = name

-- ---- the text of entries

-- `none NAME`, or `file LENGTH NAME` and the bytes, each followed by a line feed
abbrev pub entry_text : Entry → List ℕ
entry_text (Missing name) = codes "none " ++ (name ++ 10 ∷ [])
entry_text (Held name bytes) = codes "file " ++ (decimal (length bytes) ++ 32 ∷ (name ++ 10 ∷ (bytes ++ 10 ∷ [])))

abbrev pub save_text : List Entry → List ℕ
save_text es = flat_map entry_text es

-- ---- what an entry may be

-- below the directories of the stack itself; a file that is called `.pc` or `patches` itself isn't of the stack
abbrev pub is_of_stack : List ℕ → Bool
is_of_stack name = starts_with nat_eq name (codes ".pc/") || starts_with nat_eq name (codes "patches/")

-- the text of a name, in normal form, that is no temporary's and isn't of the stack
abbrev pub is_saved : List ℕ → Bool
is_saved name = is_none (broken_rule name) && (bytes_eq (normal_form name) name && (not (is_temp name) && not (is_of_stack name)))

-- a file has fewer than 2 ^ 32 bytes
abbrev pub IsShort : Entry → Type 0
IsShort (Missing name) = Unit {0}
IsShort (Held name bytes) = length bytes < 2 ^ 32

pub record IsSaved (e : Entry) : Type 0 where
  pub name : is_saved (name_of e) ≡ true
  pub short : IsShort e

-- ---- a text that is read

-- behind `none `
abbrev pub missing : Option (List ℕ × List ℕ) → Option (Entry × List ℕ)
missing None = None
missing (Some x) = Some (Missing x.0, x.1)

-- behind the number and the space: the name's line, so many bytes, and a line feed
abbrev pub held_file : ℕ → Option (List ℕ × List ℕ) → Option (Entry × List ℕ)
held_file count None = None
held_file count (Some x) = if slice_index_or x.1 count 0 == 10 then Some (Held x.0 (take count x.1), drop (suc count) x.1) else None

abbrev pub behind_number : ℕ → List ℕ → Option (Entry × List ℕ)
behind_number count [] = None
behind_number count (b ∷ bs) = if b == 32 then held_file count (cut bs) else None

-- behind `file `
abbrev pub held : Option (ℕ × List ℕ) → Option (Entry × List ℕ)
held None = None
held (Some x) = behind_number x.0 x.1

-- `file ` or nothing
abbrev pub held_or_none : Option (List ℕ) → Option (Entry × List ℕ)
held_or_none None = None
held_or_none (Some rest) = held (first_number rest)

abbrev pub missing_or : Option (List ℕ) → Option (List ℕ) → Option (Entry × List ℕ)
missing_or None file = held_or_none file
missing_or (Some rest) file = missing (cut rest)

-- the entry at the front, and what stands behind it
unfoldable pub first_entry : List ℕ → Option (Entry × List ℕ)
first_entry text = missing_or (behind (codes "none ") text) (behind (codes "file ") text)

-- the same where its name may be saved
abbrev pub if_saved : Option (Entry × List ℕ) → Option (Entry × List ℕ)
if_saved None = None
if_saved (Some x) = if is_saved (name_of x.0) then Some x else None

abbrev pub and_more : (List ℕ → Option (List Entry)) → Option (Entry × List ℕ) → Option (List Entry)
and_more more None = None
and_more more (Some x) = option_map (λ es. x.0 ∷ es) (more x.1)

-- the entries of a text, at most so many
unfoldable pub entries_within : ℕ → List ℕ → Option (List Entry)
entries_within n [] = Some []
entries_within zero (b ∷ bs) = None
entries_within (suc n) (b ∷ bs) = and_more (entries_within n) (if_saved (first_entry (b ∷ bs)))

-- the entries of a save, or none where the text is no save
unfoldable pub entries_of : List ℕ → Option (List Entry)
entries_of text = entries_within (length text) text
