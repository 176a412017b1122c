-- The effects on a target, and where its temporaries stand.
use Rattle.std.proofs.Common.{◌≡◌, ◌≢◌, ◌≤◌, ◌∷◌, ◌++◌, ◌+◌, ◌||◌, ◌∙◌, [], ℕ, arith, length-append, codes, List, Bool, true, false, not, if◌then◌else◌, length, Option, None, Some, is_some, unwrap_or, refl, sym, ap}
use Rattle.std.proofs.lemmas.List.{append_cancel_right}
use Rattle.std.proofs.lemmas.Option.{none-some}
use Rattle.std.specs.Option.{option_map}
use Rattle.std.specs.FinMap.{get}
use Rattle.outside.specs.Files.{Files, is_temp, temp_of, bytes_at}
use Rattle.outside.specs.Quiet.Effect.{Remove}
use Rattle.outside.proofs.Names.{apart}
use Rattle.read_file_patch.specs.declared.derived.Target.{Target}
use Rattle.apply_task.specs.Named.{IsBeside, IsNamed}
use Rattle.apply_task.specs.TargetEffects.{put_if, backup_effects, target_effects, moving_effects, moved_effects}

-- a file that has a size is there
pub sized_there : (o : Option (List ℕ)) (n : ℕ) → Some n ≡ option_map length o → is_some o ≡ true
sized_there None n e = absurd (none-some n (sym e))
sized_there (Some b) n e = refl

pub sized_none : (o : Option (List ℕ)) → None ≡ option_map length o → is_some o ≡ false
sized_none None e = refl
sized_none (Some b) e = absurd (none-some (length b) e)

-- what is done to the target depends on nothing but the target
pub target_same : (removal : Bool) (w : Target) (output : List ℕ) (f g : Files) → get g w.name ≡ get f w.name → target_effects removal f w output ≡ target_effects removal g w output
target_same true w output f g same = ap (λ (o : Option (List ℕ)). if is_some o then Remove w.name ∷ [] else []) (sym same)
target_same false w output f g same = refl

-- and so does its backup
pub backup_same : (due : Bool) (w : Target) (f g : Files) → get g w.name ≡ get f w.name → backup_effects due f w ≡ backup_effects due g w
backup_same due w f g same = ap (λ (o : Option (List ℕ)). put_if due w.backup (unwrap_or o [])) (sym same)

pub removes : (w : Target) (output : List ℕ) (f : Files) → is_some (get f w.name) ≡ true → target_effects true f w output ≡ Remove w.name ∷ []
removes w output f there = ap (λ (b : Bool). if b then Remove w.name ∷ [] else []) there

pub stays : (w : Target) (output : List ℕ) (f : Files) → is_some (get f w.name) ≡ false → target_effects true f w output ≡ []
stays w output f absent = ap (λ (b : Bool). if b then Remove w.name ∷ [] else []) absent

-- ---- how many effects there are
abbrev pub one_if : Bool → ℕ
one_if b = if b then 1 else 0

pub put_count : (due : Bool) (name bytes : List ℕ) → length (put_if due name bytes) ≡ one_if due
put_count true name bytes = refl
put_count false name bytes = refl

target_count : (removal : Bool) (w : Target) (output : List ℕ) (f : Files) → length (target_effects removal f w output) ≡ one_if (not removal || is_some (get f w.name))
target_count false w output f = refl
target_count true w output f = elim (is_some (get f w.name)) as (λ b. length (if b then Remove w.name ∷ [] else []) ≡ one_if b) [
  | true ↦ refl
  | false ↦ refl
]

pub written_count : (due removal wrote : Bool) (w : Target) (output : List ℕ) (f : Files) → wrote ≡ not removal || is_some (get f w.name)
    → (if due then 1 else 0) + (if wrote then 1 else 0) ≡ length (backup_effects due f w ++ target_effects removal f w output)
written_count due removal wrote w output f is = omega (
  arith,
  length-append (backup_effects due f w) (target_effects removal f w output),
  put_count due w.backup (bytes_at f w.name),
  target_count removal w output f,
  ap (λ b. one_if b) is,
)

-- ---- where temporaries stand

-- names with one temporary are one
temps_apart : (one other : List ℕ) → one ≢ other → temp_of one ≢ temp_of other
temps_apart one other ne eq = ne (append_cancel_right one other (codes ".ptmp") eq)

-- a name that isn't a temporary's is beside a backup under another name
pub name_beside : (due : Bool) (w : Target) (n : List ℕ) → IsNamed w → is_temp n ≡ false → (due ≡ true → w.backup ≢ n) → IsBeside due w n
name_beside due w n named lasting other is = (λ eq. other is (sym eq), apart n w.backup_temp lasting named.temps.backup)

-- and so is the temporary of such a name
pub temp_beside : (due : Bool) (w v : Target) → IsNamed w → IsNamed v → (due ≡ true → w.backup ≢ v.name) → IsBeside due w v.temp
temp_beside due w v named other_named other is = (
  λ eq. apart w.backup v.temp named.lasting.backup other_named.temps.own (sym eq),
  λ eq. temps_apart v.name w.backup (λ same. other is (sym same)) (sym other_named.temp ∙ eq ∙ named.backup_temp),
)

-- ---- a rename

-- what is done to the two names depends on nothing but the source
pub moving_same : (due : Bool) (source w : Target) (output : List ℕ) (f g : Files) → get g source.name ≡ get f source.name → moving_effects due f source w output ≡ moving_effects due g source w output
moving_same due source w output f g same =
    ap (λ (o : Option (List ℕ)). put_if due source.backup (unwrap_or o []) ++ (target_effects false f w output ++ Remove source.name ∷ [])) (sym same)

pub moved_count : (due source_due : Bool) (f : Files) (source w : Target) (output : List ℕ) → (if due then 1 else 0) + (if source_due then 1 else 0) + 2 ≡ length (moved_effects due source_due f source w output)
moved_count due source_due f source w output = omega (
  arith,
  length-append (backup_effects due f w) (moving_effects source_due f source w output),
  length-append (backup_effects source_due f source) (target_effects false f w output ++ Remove source.name ∷ []),
  put_count due w.backup (bytes_at f w.name),
  put_count source_due source.backup (bytes_at f source.name),
)

-- a backup or two and what was done to the target are few effects
one_most : (b : Bool) → (if b then 1 else 0) ≤ 1
one_most true = omega arith
one_most false = omega arith

pub two_most : (due wrote : Bool) (all : ℕ) → all ≡ (if due then 1 else 0) + (if wrote then 1 else 0) → all ≤ 2
two_most due wrote all is = omega (arith, is, one_most due, one_most wrote)

pub four_most : (due source_due : Bool) (all : ℕ) → all ≡ (if due then 1 else 0) + (if source_due then 1 else 0) + 2 → all ≤ 4
four_most due source_due all is = omega (arith, is, one_most due, one_most source_due)
