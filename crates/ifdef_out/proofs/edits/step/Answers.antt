use Rattle.std.proofs.Common.{◌≡◌, ℕ, List, [], length, Option, sym, ap, subst, ◌∙◌}
use Rattle.std.specs.Prelude.{MatchOption}
use Rattle.std.specs.List.{All}
use Rattle.hunk_core.specs.declared.Hunk.{Hunk}
use Rattle.hunk_core.specs.Turned.{IsLawful}
use Rattle.hunk_apply.specs.Splice.{Edit}
use Rattle.read_file_patch.specs.PlainPatch.{AreLawfulHunks, IsLawfulChange, row_count}
use Rattle.read_file_patch.specs.declared.Change.{Change}
use Rattle.ifdef_out.specs.declared.place.ChangeCursor.{ChangeCursor}
use Rattle.ifdef_out.specs.declared.place.Step.{Step}
use Rattle.ifdef_out.specs.Places.{IsStep, hunks_at, left_of, row_total}
use Rattle.ifdef_out.proofs.edits.step.Goals as goal

abbrev Steps : List ℕ → (ℕ → ℕ → ℕ → List Edit) → ℕ → ChangeCursor → Option Step → Type 0
Steps text rest_at count p r = MatchOption r (rest_at p.row p.line p.next ≡ []) (IsStep text rest_at count p)

pub script_step-requires : goal.script_step-requires
script_step-requires c = record { lawful = subst (λ (ch : Change). IsLawfulChange c.args.edits.text.now ch) c.in-Script.is c.requires.lawful }

pub hunk_step-requires-clause-rows : goal.hunk_step-requires-clause-rows
hunk_step-requires-clause-rows c = c.requires.rows ∙ ap row_count c.in-Hunks.is ∙ ap length (sym c.deref.ensures.value)

pub hunk_step-requires-clause-tried : goal.hunk_step-requires-clause-tried
hunk_step-requires-clause-tried c = c.requires.tried

pub hunk_step-requires-clause-lawful : goal.hunk_step-requires-clause-lawful
hunk_step-requires-clause-lawful c =
    let whole : AreLawfulHunks c.args.edits.text.now c.in-Hunks.hunks.items = subst (λ (ch : Change). IsLawfulChange c.args.edits.text.now ch) c.in-Hunks.is c.requires.lawful in
    subst (λ (hs : List Hunk). All (IsLawful c.args.edits.text.now) hs) (sym c.deref.ensures.value) whole.lawful

pub returns-in-Hunks : goal.returns-in-Hunks
returns-in-Hunks c =
    let text = c.args.edits.text.now in
    let side = c.args.edits.side in
    let vs = c.args.edits.verdicts.now in
    subst (λ (ch : Change). Steps text (left_of text side vs ch) (row_total ch) c.args.place c.hunk_step.result) (sym c.in-Hunks.is)
    (subst (λ (hs : List Hunk). Steps text (hunks_at text side vs hs) (length hs) c.args.place c.hunk_step.result) c.deref.ensures.value c.hunk_step.ensures)

pub returns-in-Script : goal.returns-in-Script
returns-in-Script c =
    let text = c.args.edits.text.now in
    subst (λ (ch : Change). Steps text (left_of text c.args.edits.side c.args.edits.verdicts.now ch) (row_total ch) c.args.place c.script_step.result) (sym c.in-Script.is) c.script_step.ensures
