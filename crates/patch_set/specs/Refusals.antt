-- Why a patch text makes no set: the first of the refusals that applies.
use Rattle.std.specs.Prelude.{ℕ, Bool, false, ◌&&◌, ◌==◌, not, if◌then◌else◌, List, [], ◌∷◌, length, nat_lt, ◌||◌, Option, None, Some, option_map, is_some, Result, Ok, Err}
use Rattle.std.specs.List.{find, list_any}
use Rattle.std.specs.Option.{option_map_or}
use Rattle.line_list.specs.Completed.{completed}
use Rattle.hunk_core.specs.declared.fault.FormFault.{FormFault}
use Rattle.hunk_core.specs.declared.fault.FormFault.TheVariants as forms
use Rattle.hunk_core.specs.Reading.{Fault}
use Rattle.read_file_patch.specs.PlainPatch.{PlainPatch, is_script}
use Rattle.patch_options.specs.PlainJob.{PlainOptions}
use Rattle.read_file_patch.specs.Targets.{is_reserved}
use Rattle.read_patch_text.specs.Patches.{patches_of}
use Rattle.patch_set.specs.declared.fault.SetFault.{SetFault}
use Rattle.patch_set.specs.declared.fault.SetFault.TheVariants as faults
use Rattle.patch_set.specs.Asked.{ways_of}
use Rattle.patch_set.specs.Named.{known_names, targets_of, output_of}

-- the first refusal of a list, if there is one
abbrev pub first_of : List (Option SetFault) → Option SetFault
first_of [] = None
first_of (None ∷ others) = first_of others
first_of (Some f ∷ others) = Some f

-- the text has more than 256 MiB
abbrev pub is_too_long : List ℕ → Bool
is_too_long text = nat_lt 268435456 (length text)

abbrev pub too_long : List ℕ → Option SetFault
too_long text = if is_too_long text then Some faults.TooLong else None

-- the text isn't empty and has no file patch
abbrev pub garbage : List ℕ → List PlainPatch → Option SetFault
garbage text ps = if length ps == 0 && not (length text == 0) then Some faults.Garbage else None

-- one output for more than one file patch
abbrev pub out_many : PlainOptions → List PlainPatch → Option SetFault
out_many o ps = if is_some o.output && nat_lt 1 (length ps) then Some (faults.OutMany (length ps)) else None

-- an ed script can't be reversed; the line is that of the opening of the first
abbrev pub ed_reverse : PlainOptions → List PlainPatch → Option SetFault
ed_reverse o ps = if o.reverse then option_map (λ p. faults.EdReverse p.header.opening) (find (λ p. is_script p.change) ps) else None

-- a target of the file patch has a name of a temporary
abbrev pub has_reserved : PlainOptions → List (List ℕ) → PlainPatch → Bool
has_reserved o known p = list_any is_reserved (targets_of o known p.header)

-- the output has one
abbrev pub reserves_output : PlainOptions → List (List ℕ) → Bool
reserves_output o known = option_map_or is_reserved (output_of o known) false

-- the first file patch that has such a target, or the first where the output is one
abbrev pub reserved_patch : PlainOptions → List (List ℕ) → List PlainPatch → Option PlainPatch
reserved_patch o known ps = find (λ p. has_reserved o known p || reserves_output o known) ps

abbrev pub reserved : PlainOptions → List PlainPatch → Option SetFault
reserved o ps = option_map (λ p. faults.Reserved p.header.opening) (reserved_patch o (known_names o ps) ps)

-- the refusals of these file patches of a text, in their order
abbrev pub refusal_of : PlainOptions → List ℕ → Result (List PlainPatch) Fault → Option SetFault
refusal_of o text (Err f) = Some (faults.Malformed f.line f.kind)
refusal_of o text (Ok ps) = first_of (garbage text ps ∷ out_many o ps ∷ ed_reverse o ps ∷ reserved o ps ∷ [])

-- the refusal of a text, which is read as completed. A reserved output without a file patch isn't refused. An operand is
-- judged by its normal form, so `x.ptmp/` is; a patch file may be called so
abbrev pub refusal : PlainOptions → List ℕ → Option SetFault
refusal o text = if is_too_long text then Some faults.TooLong else refusal_of o text (patches_of (ways_of o) (completed text))

-- the same fault of a text that was read
abbrev pub of_form : FormFault → SetFault
of_form (forms.Malformed line kind) = faults.Malformed line kind
of_form forms.Memory = faults.Memory
