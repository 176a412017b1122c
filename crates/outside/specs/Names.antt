-- The text of a name: components with a slash between each two (POSIX, definitions of pathname and filename).
use Rattle.std.specs.Prelude.{◌≡◌, ℕ, ◌<◌, List, [], ◌∷◌, ◌++◌, codes, length, take, filter, flat_map, Bool, true, false, not, nat_lt, ◌==◌, ◌&&◌, ◌||◌, if◌then◌else◌, bytes_eq, Option, None, Some}
use Rattle.std.specs.List.{slice_split, list_any, join_with_byte}
use Rattle.std.specs.Str.Lossy.{utf8_valid_len}
use Rattle.outside.specs.declared.name.NameRule.{NameRule}
use Rattle.outside.specs.declared.name.NameRule.TheVariants.{NotUtf8, Control, Absolute, Parent, Empty}

abbrev pub is_slash : ℕ → Bool
is_slash b = b == 47

abbrev pub components : List ℕ → List (List ℕ)
components text = slice_split is_slash text

-- neither empty nor `.`
abbrev pub is_kept : List ℕ → Bool
is_kept component = not (bytes_eq component [] || bytes_eq component (codes "."))

-- the components that stay
abbrev pub kept : List ℕ → List (List ℕ)
kept text = filter is_kept (components text)

-- the text without components that are empty or `.`
abbrev pub normal_form : List ℕ → List ℕ
normal_form text = join_with_byte 47 (kept text)

abbrev pub is_control : ℕ → Bool
is_control b = nat_lt b 32 || b == 127

abbrev pub is_absolute : List ℕ → Bool
is_absolute [] = false
is_absolute (b ∷ bs) = is_slash b

abbrev pub is_empty : List (List ℕ) → Bool
is_empty [] = true
is_empty (c ∷ cs) = false

-- the first rule of names that a patch gives which the text breaks
abbrev pub broken_rule : List ℕ → Option NameRule
broken_rule text = if not (utf8_valid_len text == length text) then Some NotUtf8
    else if list_any is_control text then Some Control
    else if is_absolute text then Some Absolute
    else if list_any (bytes_eq (codes "..")) (components text) then Some Parent
    else if is_empty (kept text) then Some Empty
    else None

-- the text of a name that a patch may give: it breaks no rule, and is in normal form
pub record IsPatchName (text : List ℕ) : Type 0 where
  pub lawful : broken_rule text ≡ None
  pub normal : normal_form text ≡ text

-- the first rule of names that an operator gives which the text breaks: it may be absolute and have components `..`
abbrev pub broken_given : List ℕ → Option NameRule
broken_given text = if not (utf8_valid_len text == length text) then Some NotUtf8
    else if list_any is_control text then Some Control
    else if is_empty (kept text) then Some Empty
    else None

-- the text without components that are empty or `.`, but for a slash at its front
abbrev pub given_form : List ℕ → List ℕ
given_form text = if is_absolute text then 47 ∷ normal_form text else normal_form text

-- the text stands for the working directory: not empty, not absolute, and no component is left of it
abbrev pub is_here : List ℕ → Bool
is_here [] = false
is_here (b ∷ bs) = not (is_slash b) && not (list_any is_kept (components (b ∷ bs)))

-- the text of a name: an operator may give it, and it is in normal form
pub record IsName (text : List ℕ) : Type 0 where
  pub lawful : broken_given text ≡ None
  pub normal : given_form text ≡ text

-- what may be put behind a name: neither a slash nor a control byte is in it
pub record IsEnding (end : List ℕ) : Type 0 where
  pub no_slash : list_any is_slash end ≡ false
  pub no_control : list_any is_control end ≡ false

-- what may be put before a name: with `x` behind it, it is the text of a name
abbrev pub IsFront : List ℕ → Type 0
IsFront front = IsName (front ++ codes "x")

abbrev pub last_of : List (List ℕ) → List ℕ
last_of [] = []
last_of (c ∷ []) = c
last_of (c ∷ d ∷ cs) = last_of (d ∷ cs)

-- what stands after the last slash
abbrev pub last_component : List ℕ → List ℕ
last_component text = last_of (components text)

-- the name below a directory, where it isn't absolute
abbrev pub placed : List ℕ → List ℕ → List ℕ
placed directory name = if is_absolute name then name else directory ++ 47 ∷ name

-- the first components with a slash behind each: what the name of a file below them begins with
abbrev pub directory_text : ℕ → List ℕ → List ℕ
directory_text parts text = flat_map (λ c. c ++ 47 ∷ []) (take parts (components text))

-- the file stands below the first components of a name: it has these first, and more
pub record StandsBelow (file : List ℕ) (parts : ℕ) (name : List ℕ) : Type 0 where
  pub same : take parts (components file) ≡ take parts (components name)
  pub more : parts < length (components file)

-- a component more, with a slash before it if it isn't the first
abbrev pub with_component : List ℕ → List ℕ → List ℕ
with_component [] component = component
with_component (b ∷ bs) component = (b ∷ bs) ++ 47 ∷ component
