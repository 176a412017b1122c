-- What is left of a name in a patch where its front is stripped (POSIX, `patch`, option -p; adjacent slashes count as one).
use Rattle.std.specs.Prelude.{◌≡◌, ℕ, zero, suc, ◌<◌, List, [], ◌∷◌, ◌++◌, length, Bool, true, false, not, ◌&&◌, if◌then◌else◌, Option, None, Some, option_and_then}
use Rattle.std.specs.Option.{option_map_or}
use Rattle.outside.specs.Names.{is_slash, is_absolute, last_component}

-- the text without the slashes at its front
unfoldable pub without_slashes : List ℕ → List ℕ
without_slashes [] = []
without_slashes (b ∷ bs) = if is_slash b then without_slashes bs else b ∷ bs

-- what stands behind the first slash and those adjacent to it; None where there is no slash
unfoldable pub behind_slash : List ℕ → Option (List ℕ)
behind_slash [] = None
behind_slash (b ∷ bs) = if is_slash b then Some (without_slashes bs) else behind_slash bs

-- what stands behind so many slashes, adjacent ones counting as one; None where there are fewer. A run of slashes is
-- stripped whole: a front that ended within it would leave an absolute text
unfoldable pub behind_slashes : ℕ → List ℕ → Option (List ℕ)
behind_slashes zero text = Some text
behind_slashes (suc n) text = option_and_then (behind_slashes n) (behind_slash text)

-- so many slashes are stripped with what stands before them; without a number the last component is left
abbrev pub stripped : Option ℕ → List ℕ → Option (List ℕ)
stripped None text = Some (last_component text)
stripped (Some n) text = behind_slashes n text

-- the same of a name that may have too few slashes, which leaves its last component
abbrev pub shortened : ℕ → List ℕ → List ℕ
shortened count text = option_map_or (λ left. left) (behind_slashes count text) (last_component text)

-- ---- what is stripped, in words of its own

-- how many slashes a text holds, adjacent ones counting as one
unfoldable pub slash_count : List ℕ → ℕ
slash_count [] = 0
slash_count (b ∷ bs) = if is_slash b && not (is_absolute bs) then suc (slash_count bs) else slash_count bs

-- its last byte, if there is one, is a slash
unfoldable pub ends_with_slash : List ℕ → Bool
ends_with_slash [] = true
ends_with_slash (b ∷ []) = is_slash b
ends_with_slash (b ∷ c ∷ bs) = ends_with_slash (c ∷ bs)

-- the front holds so many slashes, ends with the last of them, and is stripped whole: no slash follows it
pub record IsStripped (n : ℕ) (text left : List ℕ) : Type 0 where
  pub front : List ℕ
  pub parts : text ≡ front ++ left
  pub count : slash_count front ≡ n
  pub last : ends_with_slash front ≡ true
  pub whole : 0 < length front → is_absolute left ≡ false
