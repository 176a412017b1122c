-- The text that tells the words of a tool, by its table.
use Rattle.std.specs.Prelude.{◌≡◌, ℕ, ◌-◌, List, [], ◌∷◌, ◌++◌, codes, flat_map, length, nat_lt, replicate, if◌then◌else◌}
use Rattle.patch_options.specs.Simple.{PlainWord, plain_table}
use Rattle.patch_options.specs.declared.simple.Group.{Group}
use Rattle.patch_options.specs.declared.simple.Word.{Word}

-- what stands between a word of this width and what it gives: spaces up to column 30, in the next line where the word is too wide; a
-- space is 32, a line feed 10
unfoldable pub gap : ℕ → List ℕ
gap width = if nat_lt width 28 then replicate (28 - width) 32 else 10 ∷ replicate 30 32

-- a word, and what it gives
unfoldable pub row_text : Word → List ℕ
row_text w = codes "  " ++ (w.shown.now ++ (gap (length w.shown.now) ++ (w.help.now ++ 10 ∷ [])))

-- an empty line, the heading of a group, and its rows
unfoldable pub group_text : Group → List ℕ
group_text g = 10 ∷ [] ++ (g.heading.now ++ flat_map row_text g.words.now)

-- what stands in front, the groups, and what stands behind
unfoldable pub usage_text : List ℕ → List Group → List ℕ → List ℕ
usage_text front groups behind = front ++ flat_map group_text groups ++ behind

-- the text tells each word of a table, which is its groups one behind the other
pub record Tells (table : List PlainWord) (text : List ℕ) : Type 0 where
  pub front : List ℕ
  pub groups : List Group
  pub behind : List ℕ
  pub all : plain_table groups ≡ table
  pub is : text ≡ usage_text front groups behind
