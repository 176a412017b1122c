-- What is written of a text that is turned round, and why none is: told by the text alone.
use Rattle.std.specs.Prelude.{◌≡◌, ◌⊎◌, ℕ, false, List, ◌++◌, reverse, Option, None, Some, Result, Ok, Err, IfErr}
use Rattle.std.specs.List.{flat_map}
use Rattle.line_list.specs.Completed.{completed}
use Rattle.hunk_core.specs.declared.Side.TheVariants.{Reversed}
use Rattle.outside.specs.Puts.{Puts}
use Rattle.outside.specs.Files.{Files}
use Rattle.outside.specs.TreeView.{TreeView}
use Rattle.outside.specs.SourceView.{SourceView}
use Rattle.outside.specs.SinkView.{SinkView}
use Rattle.flip_patch.specs.HeaderText.{header_text}
use Rattle.flip_patch.specs.declared.fault.FlipFault.{FlipFault}
use Rattle.flip_patch.specs.Flipped.{hunk_text, swapped_hunks}
use Rattle.flip_patch.specs.Refusals.{refused}
use Rattle.patch_options.specs.declared.options.Input.{Input}
use Rattle.cli_run_answers.specs.declared.fault.InputFault.{InputFault}
use Rattle.cli_run_answers.specs.Input.{IsAnswer, answer_of, input_bytes}
use Rattle.cli_run_answers.specs.Input as texts
use Rattle.patch_set.specs.declared.fault.SetFault.{SetFault}
use Rattle.patch_set.specs.declared.fault.SetFault.TheVariants as set
use Rattle.patch_set.specs.Refusals.{refusal}
use Rattle.patch_set.specs.SetView.{SetView, IsRead}
use Rattle.filter_whole_text.specs.Faults.{of_flip}
use Rattle.filter_whole_text.specs.Texts.{Spot, defaults, patches_in, spots_in}
use Rattle.filter_whole_text.specs.Outcomes.{Outcome}
use Rattle.filter_whole_text.specs.declared.fault.FilterFault.{FilterFault}
use Rattle.filter_whole_text.specs.declared.fault.FilterFault.TheVariants as faults

-- ---- the definition

-- a file patch turned round: its header lines with both names exchanged, and its hunks in their order, each with its starts and its marks exchanged
abbrev pub spot_flipped : List ℕ → Spot → List ℕ
spot_flipped text s = header_text text s.0.header.form Reversed s.0.header ++ flat_map (hunk_text s.0.header.form) (swapped_hunks s.1.change)

-- the file patches of a text from the last to the first, each turned round
unfoldable pub flipped_in : List ℕ → List ℕ
flipped_in text = flat_map (spot_flipped (completed text)) (reverse (spots_in false text))

-- these bytes, where the file patches can be turned round
abbrev pub turned_unless : Option FlipFault → List ℕ → Outcome
turned_unless None bytes = Ok bytes
turned_unless (Some fault) bytes = Err (of_flip fault)

-- a text that is refused, also one without file patches that isn't empty, is refused as by `patch`
abbrev pub flipped_unless : Option SetFault → List ℕ → Outcome
flipped_unless None text = turned_unless (refused (patches_in false text)) (flipped_in text)
flipped_unless (Some fault) text = Err (faults.Set fault)

-- what comes of a text
abbrev pub text_flipped : List ℕ → Outcome
text_flipped text = flipped_unless (refusal (defaults false) text) text

abbrev pub flipped_from : Result (List ℕ) InputFault → Outcome
flipped_from (Ok text) = text_flipped text
flipped_from (Err fault) = Err (faults.Input fault)

-- `reversediff`
abbrev pub flip_outcome : Input → Files → List ℕ → Outcome
flip_outcome input files left = flipped_from (answer_of (input_bytes input None files left))

-- some text is refused so
abbrev pub HasFlipCause : FilterFault → Type 0
HasFlipCause (faults.Set set.Memory) = Unit {0}
HasFlipCause e = (text : List ℕ) × (text_flipped text ≡ Err e)

-- ---- the set that is turned round

-- it is read from the text that is given
pub record IsTextRead (i : Input) (t : TreeView) (a : SourceView) (v : SetView) : Type 0 where
  pub text : List ℕ
  pub given : IsAnswer (Ok text) i None t a
  pub free : refusal (defaults false) text ≡ None
  pub read : IsRead (defaults false) text v

-- the text that is given makes no set, or memory ran out
pub record IsNotRead (e : SetFault) (i : Input) (t : TreeView) (a : SourceView) : Type 0 where
  pub text : List ℕ
  pub given : IsAnswer (Ok text) i None t a
  pub why : (e ≡ set.Memory) ⊎ (refusal (defaults false) text ≡ Some e)

-- why there is no set
abbrev pub IsUnread : FilterFault → Input → TreeView → TreeView → SourceView → SourceView → Type 0
IsUnread (faults.Input e) i t u a b = texts.HasCause e i None t u a b
IsUnread (faults.Set e) i t u a b = IsNotRead e i t a
IsUnread e i t u a b = ⊥

-- a call that turns file patches round answers with the refusal before anything is written, or else writes these bytes, and fails only where the sink does
abbrev pub TurnAnswers : {O R : Type 0} → (O → SinkView) → (O → O → Type 0) → O → O → Result R FilterFault → List ℕ → Option FlipFault → Type 0
TurnAnswers view same_rest old new result bytes (Some fault) = (result ≡ Err (of_flip fault)) × (new ≡ old)
TurnAnswers view same_rest old new result bytes None = Puts view same_rest old new result bytes × IfErr result (λ e. e ≡ faults.Write)
