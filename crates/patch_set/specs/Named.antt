-- The names that file patches can be meant for, and their targets (GNU patch manual, "Multiple Patches in a File").
use Rattle.std.specs.Prelude.{ℕ, List, [], ◌∷◌, ◌++◌, map, if◌then◌else◌, Option, None, Some, option_map}
use Rattle.std.specs.List.{flat_map}
use Rattle.std.specs.Option.{option_to_list}
use Rattle.read_file_patch.specs.PlainPatch.{PlainHeader, PlainPatch}
use Rattle.patch_options.specs.PlainJob.{PlainOptions}
use Rattle.read_file_patch.specs.declared.derived.Target.{Target}
use Rattle.read_file_patch.specs.Candidates.{candidates}
use Rattle.read_file_patch.specs.Moved.{moved_names}
use Rattle.read_file_patch.specs.Actions.{is_moved}
use Rattle.patch_set.specs.Asked.{is_posix}
use Rattle.read_file_patch.specs.Numbered.{number_in, distinct}
use Rattle.read_file_patch.specs.Targets.{target_of}

-- the file operand alone, where there is one
abbrev pub operand_or : Option (List ℕ) → List (List ℕ) → List (List ℕ)
operand_or None names = names
operand_or (Some file) names = file ∷ []

-- the names that a header gives: of a rename or a copy the two of its lines, else those of the header lines and the index line
abbrev pub own_names : PlainOptions → PlainHeader → List (List ℕ)
own_names o h = if is_moved h.action then moved_names o.strip h.from h.to else candidates o.strip h.old_name h.new_name h.index (is_posix o)

-- the names that a file patch can be meant for
abbrev pub names_of : PlainOptions → PlainHeader → List (List ℕ)
names_of o h = operand_or o.file (own_names o h)

-- the names of the file patches in their order
abbrev pub patch_names : PlainOptions → List PlainPatch → List (List ℕ)
patch_names o ps = flat_map (λ p. names_of o p.header) ps

-- the distinct names of a run, in the order in which they first come; the output's comes behind those of the file patches
abbrev pub known_names : PlainOptions → List PlainPatch → List (List ℕ)
known_names o ps = distinct (patch_names o ps ++ option_to_list o.output)

-- the target with a name, whose number is its place among the distinct names
abbrev pub target_in : PlainOptions → List (List ℕ) → List ℕ → Target
target_in o known name = target_of o name (number_in known name)

-- the targets of a file patch
abbrev pub targets_of : PlainOptions → List (List ℕ) → PlainHeader → List Target
targets_of o known h = map (target_in o known) (names_of o h)

-- the target of the output, where it has a name
abbrev pub output_of : PlainOptions → List (List ℕ) → Option Target
output_of o known = option_map (target_in o known) o.output
