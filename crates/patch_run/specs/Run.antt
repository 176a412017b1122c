-- What a run does: its file patches one after another, each on the files that those before it left.
use Rattle.std.specs.Prelude.{ℕ, List, [], ◌∷◌, ◌++◌, map, Bool, false, ◌||◌, Option, None, Some}
use Rattle.std.specs.Option.{option_to_list}
use Rattle.std.specs.FinMap.{remove}
use Rattle.outside.specs.Files.{Files, temp_of}
use Rattle.outside.specs.Quiet.{Effect, after_all}
use Rattle.line_store.specs.declared.fault.OpenFault.{OpenFault}
use Rattle.patch_options.specs.PlainJob.{PlainOptions}
use Rattle.read_file_patch.specs.declared.derived.Target.{Target}
use Rattle.patch_set.specs.SetView.{SetView}
pub use Rattle.apply_task.specs.Ready.{item_of, moved_in}
use Rattle.patch_run.specs.OnePatch.{Item, PastFilePatch, PlainContext, Story, Ending, ended, stopped, mark_of, ending}

-- a run so far
pub record Run : Type 0 where
  pub files : Files
  pub said : List ℕ
  pub effects : List Effect
  -- what each file patch did, and their marks
  pub stories : List Story
  pub past : List PastFilePatch
  pub is_bad : Bool
  -- the bytes of the files that the plan took, the last of them last
  pub taken : List (List ℕ)
  -- why the run ended before its last file patch
  pub stop : Option OpenFault

abbrev pub begun : Files → Run
begun files = record { files = files; said = []; effects = []; stories = []; past = []; is_bad = false; taken = []; stop = None }

-- a temporary is taken away with its name
abbrev pub cleared : Option (List ℕ) → Files → Files
cleared None files = files
cleared (Some name) files = remove files (temp_of name)

-- the files behind a file patch
abbrev pub files_after : Story → Files → Files
files_after s files = cleared s.cleared (after_all s.effects files)

-- a file patch whose turn it is in a run
abbrev pub turn_of : PlainOptions → Option Target → Run → Item → PlainContext
turn_of o output r i = record { options = o; output = output; item = i; past = r.past }

-- a run with one file patch more
abbrev pub with_story : PlainContext → Run → Story → Run
with_story t r s = record {
  files = files_after s r.files;
  said = r.said ++ s.said;
  effects = r.effects ++ s.effects;
  stories = r.stories ++ s ∷ [];
  past = r.past ++ mark_of t s.row s.verdicts ∷ [];
  is_bad = r.is_bad || s.is_bad;
  taken = r.taken ++ option_to_list s.taken;
  stop = None;
}

abbrev pub with_stop : Run → List ℕ → OpenFault → Run
with_stop r said fault = record { files = r.files; said = r.said ++ said; effects = r.effects; stories = r.stories; past = r.past; is_bad = r.is_bad; taken = r.taken; stop = Some fault }

abbrev pub with_ending : PlainContext → Run → Ending → Run
with_ending t r (ended s) = with_story t r s
with_ending t r (stopped said fault) = with_stop r said fault

-- a run that has stopped does no more
abbrev pub if_going : Option OpenFault → Run → Run → Run
if_going None r next = next
if_going (Some fault) r next = r

abbrev pub with_item : PlainOptions → Option Target → Run → Item → Run
with_item o output r i = if_going r.stop r (with_ending (turn_of o output r i) r (ending (turn_of o output r i) r.files))

-- the file patches that are left, behind a run so far
unfoldable pub run_on : PlainOptions → Option Target → List Item → Run → Run
run_on o output [] r = r
run_on o output (i ∷ items) r = run_on o output items (with_item o output r i)

-- from these files on. A file patch that is skipped since its file is there already has taken no file, nor has one whose file is too long; one that
-- looks reversed or lacks its word has
abbrev pub run_of : PlainOptions → Option Target → List Item → Files → Run
run_of o output items files = run_on o output items (begun files)

abbrev pub items_of : SetView → List Item
items_of v = map (item_of v.text v.skipped (moved_in v.patches)) v.patches

-- what the set's file patches do to these files, with its options
abbrev pub set_run : PlainOptions → SetView → Files → Run
set_run o v files = run_of o v.output (items_of v) files
