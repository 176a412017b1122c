-- The patch that a push applies, as the bytes of its file give it.
use Rattle.std.specs.Prelude.{ℕ, List, [], map, Bool, true, false, Option, None, Some, Result, Ok, Err}
use Rattle.std.specs.List.{find}
use Rattle.std.specs.Option.{option_map_or}
use Rattle.line_list.specs.Completed.{completed}
use Rattle.line_store.specs.declared.fault.OpenFault.{OpenFault}
use Rattle.hunk_core.specs.Reading.{Fault}
use Rattle.patch_options.specs.PlainJob.{PlainOptions}
use Rattle.patch_options.specs.declared.options.Input.TheVariants.{Standard}
use Rattle.patch_options.specs.declared.options.PlanKind.TheVariants.{Auto}
use Rattle.patch_options.specs.declared.options.BackupNumbers.TheVariants.{Never}
use Rattle.patch_options.specs.declared.options.FileTimes.TheVariants.{Written}
use Rattle.patch_options.specs.declared.options.ReadOnlyFiles.TheVariants.{Told}
use Rattle.patch_options.specs.declared.options.SyncKind.TheVariants.{Each}
use Rattle.read_file_patch.specs.Numbered.{is_among}
use Rattle.read_file_patch.specs.PlainPatch.{PlainPatch}
use Rattle.read_patch_text.specs.Patches.{patches_of}
use Rattle.patch_set.specs.declared.fault.SetFault.{SetFault}
use Rattle.patch_set.specs.Asked.{ways_of}
use Rattle.read_clean_text.specs.Reading.{clean_of}
use Rattle.patch_set.specs.Named.{names_of, known_names, target_in, targets_of}
use Rattle.patch_set.specs.Refusals.{refusal}
use Rattle.patch_set.specs.SetView.{SetView, plain_patches}
use Rattle.patch_run.specs.OnePatch.{Item}
use Rattle.patch_run.specs.Run.{Run, run_of, set_run}
use Rattle.read_file_patch.specs.declared.derived.Target.{Target as FileTarget}
use Rattle.patch_run.specs.Outcome.{moved_for}
use Rattle.series_stack.specs.Commands.{Ending, Application, Target, Patch, Reader}
use Rattle.series_stack.specs.Commands.Ending.{Done, Rejected, CutOff}

-- the options of `patch -p1 --no-backup-if-mismatch`
unfoldable pub push_options : PlainOptions
push_options = record {
  only = None;
  strip = Some 1;
  fuzz = 2;
  reverse = false;
  force = false;
  batch = false;
  forward = false;
  loose = false;
  remove_empty = false;
  backup = false;
  mismatch_backup = false;
  suffix = None;
  prefix = None;
  base_prefix = None;
  numbers = Never;
  dir = None;
  file = None;
  input = Standard;
  output = None;
  reject = None;
  no_rejects = false;
  reject_form = None;
  define = None;
  posix = false;
  keep_returns = false;
  skip_binary = false;
  dry_run = false;
  read_only = Told;
  times = Written;
  follow_links = false;
  silent = false;
  verbose = false;
  plan = Auto;
  buffer = 4294967295;
  sync = Each;
}

-- ---- the file patches and their targets

-- a file patch with its targets, where the names of the run are known; a push passes over no binary change
abbrev pub item_for : PlainOptions → List (List ℕ) → List (List FileTarget) → PlainPatch → Item
item_for o known moved p = record { patch = p; targets = targets_of o known p.header; skipped = []; moved = moved }

abbrev pub items_for : PlainOptions → List PlainPatch → List Item
items_for o ps = map (item_for o (known_names o ps) (map (moved_for o (known_names o ps)) ps)) ps

-- the file patch can be meant for this name
abbrev pub is_meant_for : PlainOptions → List ℕ → PlainPatch → Bool
is_meant_for o name p = is_among (names_of o p.header) name

-- the line that opens the first file patch that can be meant for this name
abbrev pub line_of : PlainOptions → List ℕ → List PlainPatch → ℕ
line_of o name ps = option_map_or (λ p. p.header.opening) (find (is_meant_for o name) ps) 0

-- the target with a name, as the stack sees it
abbrev pub target_for : PlainOptions → List PlainPatch → List ℕ → Target
target_for o ps name = record {
  name = (target_in o (known_names o ps) name).name;
  reject = (target_in o (known_names o ps) name).reject;
  line = line_of o name ps;
}

-- one target for each distinct name, in the order of their numbers, in which the names first come
abbrev pub targets_for : PlainOptions → List PlainPatch → List Target
targets_for o ps = map (target_for o ps) (known_names o ps)

-- ---- what the patch does

-- a file that isn't taken cuts the run off; else a hunk that failed or was ignored, or a file that wasn't deleted, rejects it
abbrev pub ending_by : Option OpenFault → Bool → Ending
ending_by (Some fault) bad = CutOff
ending_by None true = Rejected
ending_by None false = Done

abbrev pub application_of : Run → Application
application_of r = record { effects = r.effects; text = r.said; ending = ending_by r.stop r.is_bad }

-- the patch with these file patches
abbrev pub patch_for : List PlainPatch → Patch
patch_for ps = record { targets = targets_for push_options ps; run = λ f. application_of (run_of push_options None (items_for push_options ps) f) }

-- the same, of a set of file patches that was read
abbrev pub patch_of_set : SetView → Patch
patch_of_set v = record { targets = targets_for push_options (plain_patches v); run = λ f. application_of (set_run push_options v f) }

-- ---- reading

abbrev pub patch_in : Result (List PlainPatch) Fault → Option Patch
patch_in (Err fault) = None
patch_in (Ok ps) = Some (patch_for ps)

abbrev pub unless_refused : Option SetFault → Option Patch → Option Patch
unless_refused (Some fault) patch = None
unless_refused None patch = patch

-- the patch of a text, where it isn't refused
abbrev pub patch_of_text : List ℕ → Option Patch
patch_of_text text = unless_refused (refusal push_options text) (patch_in (patches_of (ways_of push_options) (completed text)))

-- the patch that the file holds, or none where it is missing or refused
unfoldable pub read_patch : Reader
read_patch None = None
read_patch (Some bytes) = patch_of_text (clean_of push_options bytes)
