-- How a file patch is taken: its file is chosen, and its hunks are tried from a side, or it is skipped (POSIX `patch`; GNU patch manual, "Invoking patch").
use Rattle.std.specs.Prelude.{ℕ, List, [], ◌∷◌, ◌++◌, Bool, true, false, not, ◌&&◌, ◌||◌, ◌==◌, if◌then◌else◌, bytes_eq, slice_get, Option, None, Some, is_some, unwrap_or}
use Rattle.std.specs.List.{list_any, slice_split}
use Rattle.std.specs.FinMap.{get}
use Rattle.line_list.specs.Lines.{lines}
use Rattle.outside.specs.Files.{Files}
use Rattle.hunk_core.specs.declared.Side.{Side}
use Rattle.hunk_core.specs.PlainHunk.{PlainHunk}
use Rattle.hunk_core.specs.Turned.{turned, other_side}
use Rattle.hunk_place.specs.Verdicts.{looks_reversed}
use Rattle.line_store.specs.declared.fault.OpenFault.{OpenFault}
use Rattle.line_store.specs.Taking.{refusal}
use Rattle.patch_header.specs.Values.{is_white}
use Rattle.read_header_record.specs.declared.Action.{Action}
use Rattle.read_header_record.specs.declared.Action.TheVariants.{Plain, New, Deleted, Rename, Copy}
use Rattle.patch_options.specs.PlainJob.{PlainOptions}
use Rattle.read_file_patch.specs.declared.derived.Target.{Target}
use Rattle.patch_set.specs.declared.set.Row.{Row}
use Rattle.read_file_patch.specs.PlainPatch.{PlainChange, hunks, script}
use Rattle.patch_set.specs.Asked.{is_posix}
use Rattle.name_choice.specs.declared.Choice.{Choice}
use Rattle.name_choice.specs.declared.Choice.TheVariants.{Existing, Create, Nothing}
use Rattle.name_choice.specs.Choice.{choice, names_of, side_of}
use Rattle.name_choice.specs.Making.{names_new}
use Rattle.say_text.specs.Messages.{silenced, patching_line, no_file_lines, prereq_line, reversed_line, unfit_line, type_line, submodule_line}
use Rattle.say_text.specs.declared.standing.Standing.{Standing}
use Rattle.say_text.specs.Origins.{PlainOrigin}
use Rattle.say_text.specs.Origins.PlainOrigin.{Itself, RenamedFrom, RenamedBefore, CopiedFrom}
use Rattle.apply_task.specs.Asking.{moves, moves_at, source_at}
use Rattle.apply_task.specs.Kinds.{subject_of, is_meant, is_link}
use Rattle.apply_task.specs.declared.kinds.Subject.{Subject}
use Rattle.apply_task.specs.declared.kinds.Subject.TheVariants as subject
use Rattle.apply_start.specs.Skipping.{changes_said, has_failing}
use Rattle.apply_start.specs.Fitting.{standing_of, purpose_of, misfit}
use Rattle.apply_task.specs.Contexts.{PastFilePatch, PlainContext, target_at, written, bytes_of, shown, is_source}

-- how a file patch is taken, once this was said: it is skipped, and what its row holds; or its file isn't taken; or its hunks are tried from a side
pub data Start : Type 0 where
  skips : List ℕ → Row → Option (List ℕ) → Start
  refuses : List ℕ → OpenFault → Start
  tries : List ℕ → ℕ → Side → Start

-- this was said first
abbrev pub said_first : List ℕ → Start → Start
said_first text (skips said row taken) = skips (text ++ said) row taken
said_first text (refuses said fault) = refuses (text ++ said) fault
said_first text (tries said place side) = tries (text ++ said) place side

-- skipped once a name was chosen
abbrev pub skips_at : List ℕ → ℕ → Side → Option (List ℕ) → Start
skips_at said place side taken = skips said (record { side = side; target = Some place; wrote = false }) taken

abbrev pub lines_in : Option (List ℕ) → List (List ℕ)
lines_in None = []
lines_in (Some bytes) = lines bytes

-- the first hunk of a change, if it has hunks
abbrev pub first_hunk : PlainChange → Option PlainHunk
first_hunk (hunks []) = None
first_hunk (hunks (h ∷ hs)) = Some h
first_hunk (script es) = None

abbrev pub is_reversed : PlainOptions → List (List ℕ) → Side → Option PlainHunk → Bool
is_reversed o ls side None = false
is_reversed o ls side (Some h) = looks_reversed ls o.fuzz o.loose (turned side h)

-- `-t` turns a file patch round that doesn't suit its file, unless `-N` outweighs it (GNU patch manual, "Applying Reversed Patches")
abbrev pub turns : PlainOptions → Bool
turns o = o.batch && not o.forward

-- a rename or a copy is never turned round. One that was done before is a plain change of its file, but for this, and its
-- file is put whatever is left of it, with `-E` too
abbrev pub turns_round : PlainContext → Bool
turns_round t = turns t.options && not (moves t.item.patch)

-- its hunks are tried; where the first looks reversed it is turned round, or skipped; with `-f`, or once turned round, that isn't asked
abbrev pub on_direction : PlainContext → ℕ → Option (List ℕ) → Bool → Side → Start
on_direction t place bytes was_turned side =
    if t.options.force || was_turned || not (is_reversed t.options (lines_in bytes) side (first_hunk t.item.patch.change)) then tries [] place side
    else if turns_round t then tries (silenced t.options (reversed_line true)) place (other_side side)
    else skips_at (silenced t.options (reversed_line false)) place side bytes

-- some run of bytes between white space is the word; a line feed is white space, so a run lies in one line
abbrev pub line_has_word : List ℕ → List ℕ → Bool
line_has_word word line = list_any (bytes_eq word) (slice_split is_white line)

abbrev pub has_word : List ℕ → List (List ℕ) → Bool
has_word word ls = list_any (line_has_word word) ls

-- a file that is there lacks the word of the `Prereq:` line
abbrev pub lacks_word : Option (List ℕ) → Option (List ℕ) → Bool
lacks_word None bytes = false
lacks_word (Some word) None = false
lacks_word (Some word) (Some bytes) = not (has_word word (lines bytes))

abbrev pub prereq_said : PlainContext → List ℕ
prereq_said t = silenced t.options (prereq_line t.options.force (unwrap_or t.item.patch.header.prereq []))

abbrev pub on_prereq : PlainContext → ℕ → Option (List ℕ) → Bool → Side → Start
on_prereq t place bytes was_turned side =
    if not (lacks_word t.item.patch.header.prereq bytes) then on_direction t place bytes was_turned side
    else if t.options.force then said_first (prereq_said t) (on_direction t place bytes was_turned side)
    else skips_at (prereq_said t) place side bytes

-- the file is taken, if it is there and its lines fit the buffer
abbrev pub refusal_of : ℕ → Option (List ℕ) → Option OpenFault
refusal_of size None = None
refusal_of size (Some bytes) = refusal size bytes

abbrev pub refused_or : Option OpenFault → Start → Start
refused_or None later = later
refused_or (Some fault) later = refuses [] fault

abbrev pub on_taking : PlainContext → ℕ → Option (List ℕ) → Bool → Side → Start
on_taking t place bytes was_turned side = refused_or (refusal_of t.options.buffer bytes) (on_prereq t place bytes was_turned side)

-- what stands at the chosen name, or at the name that a file is to get
abbrev pub standing : PlainContext → Files → ℕ → Standing
standing t files place = standing_of (if moves t.item.patch then get files (written t place).name else bytes_of t files place)

-- and if the file patch misfits that
abbrev pub unfit : PlainContext → Files → ℕ → Side → Option Standing
unfit t files place side = misfit (purpose_of (moves_at t.options.reverse t.item.patch place) side t.item.patch) (standing t files place)

abbrev pub unfit_said : PlainContext → Standing → ℕ → Bool → List ℕ
unfit_said t stands place is_turned = silenced t.options (unfit_line stands (shown (written t place)) is_turned)

-- a file patch that misfits its file is turned round, or skipped
abbrev pub on_misfit : PlainContext → Standing → ℕ → Option (List ℕ) → Side → Start
on_misfit t stands place bytes side =
    if turns_round t then said_first (unfit_said t stands place true) (on_taking t place bytes true (other_side side))
    else skips_at (unfit_said t stands place false) place side None

-- a file would be renamed or copied onto one that a file patch of the text renames or copies
abbrev pub is_needed : PlainContext → ℕ → Bool
is_needed t place = moves_at t.options.reverse t.item.patch place && is_source t (written t place).name

-- with `-f` it isn't asked whether its file fits a file patch, but of one that is needed
abbrev pub is_forced : PlainContext → ℕ → Bool
is_forced t place = t.options.force && not (is_needed t place)

abbrev pub on_unfit : PlainContext → Standing → ℕ → Option (List ℕ) → Side → Start
on_unfit t stands place bytes side = if is_forced t place then on_taking t place bytes false side else on_misfit t stands place bytes side

abbrev pub on_fitting : PlainContext → ℕ → Option (List ℕ) → Side → Option Standing → Start
on_fitting t place bytes side None = on_taking t place bytes false side
on_fitting t place bytes side (Some stands) = on_unfit t stands place bytes side

abbrev pub on_file : PlainContext → Files → ℕ → Side → Start
on_file t files place side = on_fitting t place (bytes_of t files place) side (unfit t files place side)

-- the name that a file had, which messages show behind the one that it gets, or has got before
abbrev pub renamed_before : Option Target → PlainOrigin
renamed_before None = Itself
renamed_before (Some source) = RenamedBefore (shown source)

-- of a rename the chosen name, and where the other one was chosen, so that it was done before, the one that the file then had
abbrev pub renamed_from : PlainContext → ℕ → PlainOrigin
renamed_from t place = if place == source_at t.options.reverse then RenamedFrom (shown (target_at t.item.targets place)) else renamed_before (slice_get t.item.targets (source_at t.options.reverse))

abbrev pub origin_by : Action → PlainOrigin → List ℕ → PlainOrigin
origin_by Plain renamed name = Itself
origin_by New renamed name = Itself
origin_by Deleted renamed name = Itself
origin_by Rename renamed name = renamed
origin_by Copy renamed name = CopiedFrom name

abbrev pub origin_of : PlainContext → ℕ → PlainOrigin
origin_of t place = origin_by t.item.patch.header.action (renamed_from t place) (shown (target_at t.item.targets place))

-- the file that is named first: the chosen one, or what it is renamed or copied to
abbrev pub named : PlainContext → ℕ → Target
named t place = if moves t.item.patch then written t place else target_at t.item.targets place

abbrev pub patching_said : PlainContext → ℕ → List ℕ
patching_said t place = silenced t.options (patching_line t.options.dry_run (is_link t.item.patch) t.options.output (shown (named t place)) (origin_of t place))

abbrev pub on_meant : PlainContext → Files → ℕ → Start
on_meant t files place = said_first (patching_said t place) (on_file t files place (side_of t.options.reverse))

-- a file doesn't become a link, nor a link a file, and a submodule is neither
abbrev pub unmeant_line : Bool → List ℕ → Subject → List ℕ
unmeant_line reverse name subject.File = []
unmeant_line reverse name subject.Link = []
unmeant_line reverse name subject.FileToLink = type_line (not reverse) name
unmeant_line reverse name subject.LinkToFile = type_line reverse name
unmeant_line reverse name subject.Submodule = submodule_line name

abbrev pub unmeant_said : PlainContext → ℕ → List ℕ
unmeant_said t place = unmeant_line t.options.reverse (shown (named t place)) (subject_of t.item.patch)

abbrev pub on_target : PlainContext → Files → ℕ → Start
on_target t files place = if is_meant t.item.patch then on_meant t files place else skips_at (unmeant_said t place) place (side_of t.options.reverse) None

abbrev pub on_choice : PlainContext → Files → Choice → Start
on_choice t files (Existing k) = on_target t files k
on_choice t files (Create k) = on_target t files k
on_choice t files Nothing = skips (no_file_lines t.item.patch.header.opening) (record { side = side_of t.options.reverse; target = None; wrote = false }) None

abbrev pub choice_of : PlainContext → Files → Choice
choice_of t files = choice t.item.patch.header.action (names_new t.item.patch) (names_of t.item.targets) (is_some t.options.file) t.options.reverse (is_posix t.options) files

-- the first of a run
abbrev pub is_first : List PastFilePatch → Bool
is_first [] = true
is_first (m ∷ past) = false

-- before anything else a run says what becomes of the binary changes, and one that fails is a failure of its first file patch
abbrev pub skipped_said : PlainContext → List ℕ
skipped_said t = if is_first t.past then changes_said t.options t.item.skipped else []

abbrev pub fails_first : PlainContext → Bool
fails_first t = is_first t.past && has_failing t.options t.item.skipped

abbrev pub own_start : PlainContext → Files → Start
own_start t files = on_choice t files (choice_of t files)

unfoldable pub start : PlainContext → Files → Start
start t files = said_first (skipped_said t) (own_start t files)
