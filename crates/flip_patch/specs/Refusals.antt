-- Which file patches can't be turned round, and what is said of the first one.
use Rattle.std.specs.Prelude.{◌≡◌, ℕ, Bool, false, nat_lt, ◌||◌, List, [], ◌∷◌, Option, None, Some, map, option_map, Result, Err, IfErr}
use Rattle.std.specs.Option.{option_or}
use Rattle.outside.specs.SinkView.{SinkView}
use Rattle.outside.specs.Puts.{Puts}
use Rattle.read_file_patch.specs.Actions.{is_moved}
use Rattle.read_file_patch.specs.declared.Change.{Change}
use Rattle.read_file_patch.specs.declared.Change.TheVariants.{Hunks, Script}
use Rattle.read_file_patch.specs.declared.FilePatch.{FilePatch}
use Rattle.read_file_patch.specs.PlainPatch.{PlainChange, PlainPatch, hunks, script, first_opening}
pub use Rattle.read_file_patch.specs.PlainPatch.{is_script}
use Rattle.flip_patch.specs.declared.fault.FlipFault.{FlipFault}
use Rattle.flip_patch.specs.declared.fault.FlipFault.TheVariants.{EdReverse, Unfit, Write}

-- a start stands in front of the one before it
abbrev pub starts_fall : List ℕ → Bool
starts_fall [] = false
starts_fall (s ∷ []) = false
starts_fall (s ∷ t ∷ ss) = nat_lt t s || starts_fall (t ∷ ss)

-- the starts of the hunks on the new side
abbrev pub new_starts : PlainChange → List ℕ
new_starts (hunks hs) = map (λ h. h.new_start) hs
new_starts (script es) = []

-- turned round, the starts of its hunks would fall, or it has no hunk, or its file is renamed or copied
abbrev pub is_unfit : PlainPatch → Bool
is_unfit p = p.header.bare || (is_moved p.header.action || starts_fall (new_starts p.change))

abbrev pub told_starts : Change → List ℕ
told_starts (Hunks hs) = map (λ h. h.new_start) hs.items
told_starts (Script s) = []

abbrev pub told_unfit : FilePatch → Bool
told_unfit p = p.header.bare || (is_moved p.header.action || starts_fall (told_starts p.change))

-- why these file patches aren't turned round; an ed script comes first, wherever it stands
abbrev pub refused : List PlainPatch → Option FlipFault
refused ps = option_or (option_map EdReverse (first_opening (λ p. is_script p.change) ps)) (option_map Unfit (first_opening is_unfit ps))

-- a call answers with the refusal before anything is written, or else writes these bytes, and fails only where the sink does
abbrev pub Answers : {O R : Type 0} → (O → SinkView) → (O → O → Type 0) → O → O → Result R FlipFault → List ℕ → Option FlipFault → Type 0
Answers view same_rest old new result bytes (Some fault) = (result ≡ Err fault) × (new ≡ old)
Answers view same_rest old new result bytes None = Puts view same_rest old new result bytes × IfErr result (λ e. e ≡ Write)
