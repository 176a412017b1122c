-- What the commands of a stack are to do, or why they do nothing.
use Rattle.std.specs.Prelude.{◌≡◌, ℕ, zero, suc, List, [], ◌∷◌, drop, Bool, true, false, ◌||◌, if◌then◌else◌, is_some, is_none, Option, None, Some, Result, Ok, Err}
use Rattle.std.specs.List.{AllByRecursion, flat_map}
use Rattle.std.specs.FinMap.{get}
use Rattle.outside.specs.Files.{Files, is_temp}
use Rattle.outside.specs.Names.{IsPatchName}
use Rattle.outside.specs.Quiet.{Effect}
use Rattle.outside.specs.Quiet.Effect.{Put, Remove}
use Rattle.series_stack.specs.declared.fault.StateFile.TheVariants.{Save}
use Rattle.series_stack.specs.Saves.{entries_of, is_of_stack}
use Rattle.series_stack.specs.Undoing.{is_one_of}
use Rattle.series_stack.specs.Stack.{Stack, Refusal, save_name, patch_name, saved_in}
use Rattle.series_stack.specs.Stack.Refusal.{Bad, AtEnd, NoPatch, OwnName}

-- ---- a patch, as the stack sees it

-- how the application of a patch ended: whole, with hunks that failed, or before a file that can't be taken
pub data Ending : Type 0 where
  Done : Ending
  Rejected : Ending
  CutOff : Ending

pub record Application : Type 0 where
  pub effects : List Effect
  pub text : List ℕ
  pub ending : Ending

-- a file that a patch may change, its reject file, and the line that opens its first file patch
pub record Target : Type 0 where
  pub name : List ℕ
  pub reject : List ℕ
  pub line : ℕ

-- the distinct targets in the order in which they first come, and what the patch does to files
pub record Patch : Type 0 where
  pub targets : List Target
  pub run : Files → Application

-- the patch that a file holds, or none where it is missing or refused
abbrev pub Reader : Type 0
Reader = Option (List ℕ) → Option Patch

-- each target's name and then its reject name
abbrev pub names_of : List Target → List (List ℕ)
names_of targets = flat_map (λ t. t.name ∷ t.reject ∷ []) targets

abbrev pub changed_by : Effect → List ℕ
changed_by (Put name bytes) = name
changed_by (Remove name) = name

-- the text of a name that a patch may give and no temporary has
pub record IsLasting (name : List ℕ) : Type 0 where
  pub lawful : IsPatchName name
  pub lasting : is_temp name ≡ false

-- the patch has lawful names, and changes only these
pub record IsPatch (p : Patch) : Type 0 where
  pub names : AllByRecursion IsLasting (names_of p.targets)
  pub within : (f : Files) → AllByRecursion (λ e. is_one_of (names_of p.targets) (changed_by e) ≡ true) (p.run f).effects

pub record IsReader (read : Reader) : Type 0 where
  pub patches : (held : Option (List ℕ)) (p : Patch) → read held ≡ Some p → IsPatch p

-- ---- what is asked for

pub data StackOp : Type 0 where
  Push : StackOp
  Pop : StackOp
  Applied : StackOp

-- what is to be done: this patch is applied, the last one of so many and one more is taken back, or the number is told
pub data Work : Type 0 where
  Pushing : List ℕ → Patch → Work
  Popping : List ℕ → ℕ → Work
  Telling : Work

-- it is there, and isn't of its form
abbrev pub is_bad : Option (List ℕ) → Bool
is_bad None = false
is_bad (Some text) = is_none (entries_of text)

-- where so many are applied, the next save is bad, or the one behind it is there
abbrev pub has_bad_save : ℕ → Files → Bool
has_bad_save n f = is_bad (get f (save_name (suc n))) || is_some (get f (save_name (suc (suc n))))

-- the opening line of the first target that has a name of the stack
unfoldable pub own_line : List Target → Option ℕ
own_line [] = None
own_line (t ∷ ts) = if is_of_stack t.name || is_of_stack t.reject then Some t.line else own_line ts

abbrev pub checked : List ℕ → Patch → Option ℕ → Result Work Refusal
checked name p (Some line) = Err (OwnName line)
checked name p None = Ok (Pushing name p)

abbrev pub pushing : List ℕ → Option Patch → Result Work Refusal
pushing name None = Err NoPatch
pushing name (Some p) = checked name p (own_line p.targets)

-- with those that aren't applied
abbrev pub push_work : Reader → Files → ℕ → List (List ℕ) → Result Work Refusal
push_work read f n [] = Err (AtEnd n)
push_work read f n (name ∷ names) = pushing name (read (get f (patch_name name)))

-- with the last one that is applied, and those behind it
abbrev pub popped : ℕ → List (List ℕ) → Result Work Refusal
popped n [] = Err (AtEnd n)
popped n (name ∷ names) = Ok (Popping name n)

abbrev pub popping : ℕ → List (List ℕ) → Bool → Result Work Refusal
popping n names true = popped n names
popping n names false = Err (Bad Save)

abbrev pub pop_work : Files → List (List ℕ) → ℕ → Result Work Refusal
pop_work f patches zero = Err (AtEnd 0)
pop_work f patches (suc n) = popping n (drop n patches) (is_some (saved_in (get f (save_name (suc n)))))

abbrev pub work_by : Reader → StackOp → Files → Stack → Result Work Refusal
work_by read Push f s = push_work read f s.applied (drop s.applied s.patches)
work_by read Pop f s = pop_work f s.patches s.applied
work_by read Applied f s = Ok Telling

-- the first refusal that holds, or what is to be done
unfoldable pub work_of : Reader → StackOp → Files → Stack → Result Work Refusal
work_of read op f s = if has_bad_save s.applied f then Err (Bad Save) else work_by read op f s
