use Rattle.std.proofs.Common.{◌≡◌, ℕ, List, ◌∷◌, [], cond, length, reverse, drop, flat_map, sym, ap, ◌∙◌, arith}
use Rattle.hunk_core.specs.declared.Hunk.{Hunk}
use Rattle.hunk_core.specs.declared.Verdict.{Verdict}
use Rattle.hunk_core.specs.PlainHunk.{hunks_of}
use Rattle.read_file_patch.specs.declared.Change.{Change}
use Rattle.read_file_patch.specs.PlainPatch.{change_of, hunks, row_count, script}
use Rattle.ed_form.specs.PlainEdit.{edits_of}
use Rattle.hunk_apply.specs.Session.{is_placed}
use Rattle.ifdef_out.specs.Placed.{change_edits, command_edits}
use Rattle.ifdef_out.specs.Places.{left_of, hunks_at}
use Rattle.ifdef_out.proofs.StartLemmas.{hunks-start, script-start, lone}
use Rattle.ifdef_out.proofs.edits.start.Goals as goal

pub returns-in-Hunks : goal.returns-in-Hunks
returns-in-Hunks c =
    let text = c.args.edits.text.now in
    let side = c.args.edits.side in
    let vs = c.args.edits.verdicts.now in
    let p = c.hunk_start.result in
    ap (λ (ch : Change). left_of text side vs ch p.row p.line p.next) c.in-Hunks.is
    ∙ ap (λ (hs : List Hunk). hunks_at text side vs hs p.row p.line p.next) (sym c.deref.ensures.value)
    ∙ c.hunk_start.ensures.left text side
    ∙ hunks-start text side vs c.deref.result.now
    ∙ ap (λ (hs : List Hunk). change_edits vs side (hunks (hunks_of text hs))) c.deref.ensures.value
    ∙ ap (λ (ch : Change). change_edits vs side (change_of text ch)) (sym c.in-Hunks.is)

pub returns-in-Script : goal.returns-in-Script
returns-in-Script c =
    let text = c.args.edits.text.now in
    let side = c.args.edits.side in
    let vs = c.args.edits.verdicts.now in
    let p = c.script_start.result in
    let es = c.in-Script.script.edits.items in
    let one : length c.args.edits.verdicts.now ≡ 1 = c.requires.rows ∙ ap row_count c.in-Script.is in
    let l : (v : Verdict) × (c.args.edits.verdicts.now ≡ v ∷ []) = lone c.args.edits.verdicts.now one in
    let count : c.len.result ≡ length c.in-Script.script.edits.items = c.len.ensures ∙ c.in-Script.script.edits.ok.0 in
    ap (λ (ch : Change). left_of text side vs ch p.row p.line p.next) c.in-Script.is
    ∙ c.script_start.ensures.left text
    ∙ ap (λ (n : ℕ). flat_map command_edits (edits_of text (drop n (reverse es)))) (c.first_row.ensures l.0 [] l.1)
    ∙ ap (λ (n : ℕ). flat_map command_edits (edits_of text (drop (cond (is_placed l.0) 0 n) (reverse es)))) count
    ∙ script-start text es l.0
    ∙ ap (λ (ws : List Verdict). change_edits ws side (script (edits_of text es))) (sym l.1)
    ∙ ap (λ (ch : Change). change_edits vs side (change_of text ch)) (sym c.in-Script.is)

pub hunk_start-requires-clause-rows : goal.hunk_start-requires-clause-rows
hunk_start-requires-clause-rows c = c.requires.rows ∙ ap row_count c.in-Hunks.is ∙ ap length (sym c.deref.ensures.value)

pub hunk_start-requires-clause-tried : goal.hunk_start-requires-clause-tried
hunk_start-requires-clause-tried c = c.requires.tried

pub first_row-requires : goal.first_row-requires
first_row-requires c = let one : length c.args.edits.verdicts.now ≡ 1 = c.requires.rows ∙ ap row_count c.in-Script.is in omega (arith, one)
