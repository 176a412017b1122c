use Rattle.read_file_patch.specs.PlainPatch.{change_of, AreLawfulHunks, IsLawfulChange, row_count}
use Rattle.reject_text.specs.Rejects.{hunks_in, rows_of, rejects, AreHunks, reject_text}
use Rattle.reject_text.proofs.Again.{read-again}
use Rattle.reject_text.proofs.Unbroken.{rejects-unbroken, rejects-clean}
use Rattle.std.proofs.Common.{ℕ, List, length, ap, sym, subst, ◌∙◌}
use Rattle.outside.specs.Puts.{Puts}
use Rattle.hunk_core.specs.declared.Hunk.{Hunk}
use Rattle.hunk_core.specs.PlainHunk.{hunks_of}
use Rattle.read_file_patch.specs.declared.Change.{Change}
use Rattle.reject_text.proofs.rejects.put_reject.Goals as goal

pub returns-clause-unbroken : goal.returns-clause-unbroken
returns-clause-unbroken g c = rejects-unbroken c.args.side (hunks_in (change_of c.args.text.now c.args.patch.now.change)) c.args.verdicts.now

pub returns-clause-again : goal.returns-clause-again
returns-clause-again g c = λ unbroken clean.
    let hs = hunks_in (change_of c.args.text.now c.args.patch.now.change) in
    read-again c.args.form (rejects (rows_of c.args.side hs c.args.verdicts.now)) c.requires.form (rejects-unbroken c.args.side hs c.args.verdicts.now unbroken) (rejects-clean c.args.side hs c.args.verdicts.now clean)

pub returns-clause-writes : goal.returns-clause-writes
returns-clause-writes g c =
    let text = c.args.text.now in
    let whole = ap (λ (hs : List Hunk). reject_text (hunks_of text hs) c.args.verdicts.now c.args.side c.as_bytes.result.now c.args.form) c.deref.ensures.value
    ∙ ap (λ (name : List ℕ). reject_text (hunks_of text c.in-Hunks.hunks.items) c.args.verdicts.now c.args.side name c.args.form) c.as_bytes.ensures.value
    ∙ sym (ap (λ (ch : Change). reject_text (hunks_in (change_of text ch)) c.args.verdicts.now c.args.side c.args.name.now c.args.form) c.in-Hunks.is) in
    let put = subst (λ (bs : List ℕ). Puts g.O.Sink.view g.O.Sink.same_rest c.args.out.now c.put_all_hunks.new.out c.put_all_hunks.result bs) whole c.put_all_hunks.ensures in
    record { call = put.call; received = put.received; failed = put.failed }

pub put_all_hunks-requires-clause-rows : goal.put_all_hunks-requires-clause-rows
put_all_hunks-requires-clause-rows g c = c.requires.rows ∙ ap (λ (ch : Change). row_count ch) c.in-Hunks.is ∙ ap length (sym c.deref.ensures.value)

pub put_all_hunks-requires-clause-lawful : goal.put_all_hunks-requires-clause-lawful
put_all_hunks-requires-clause-lawful g c = subst (AreLawfulHunks c.args.text.now) (sym c.deref.ensures.value) (subst (IsLawfulChange c.args.text.now) c.in-Hunks.is c.requires.lawful)

pub unreachable-requires : goal.unreachable-requires
unreachable-requires g c = subst AreHunks c.in-Script.is c.requires.hunks
