use Rattle.std.proofs.Common.{subst, sym, ℕ, List, ap, ◌∙◌, map}
use Rattle.std.specs.Prelude.{All}
use Rattle.read_file_patch.specs.PlainPatch.{change_of, AreLawfulHunks, IsLawfulChange}
use Rattle.read_patch_text.specs.Changes.{SpellChange}
use Rattle.flip_patch.specs.Ordered.{IsOrdered}
use Rattle.flip_patch.proofs.Ordered.{all-ordered}
use Rattle.std.specs.List.{flat_map}
use Rattle.hunk_core.specs.declared.Hunk.{Hunk}
use Rattle.hunk_core.specs.PlainHunk.{hunks_of}
use Rattle.hunk_core.specs.Turned.{IsLawful, swapped}
use Rattle.outside.specs.Puts.{Puts}
use Rattle.outside.proofs.SinkSteps.{HasPut, has-none, puts-done}
use Rattle.read_file_patch.specs.declared.Change.{Change}
use Rattle.flip_patch.specs.Flipped.{hunk_text, swapped_hunks}
use Rattle.flip_patch.proofs.patches.put_change.Goals as goal

pub put_hunks-requires-clause-order : goal.put_hunks-requires-clause-order
put_hunks-requires-clause-order g c =
    let text = c.args.text.now in
    let p = c.args.patch.now in
    let pieces = subst (λ x. SpellChange text p.header.form p.hunk_spans.items (change_of text x)) c.in-Hunks.is c.requires.placed.pieces in
    subst (All (IsOrdered p.header.form)) (sym c.deref.ensures.value) (all-ordered text p.header.form p.hunk_spans.items c.in-Hunks.hunks.items pieces)

pub returns-in-Script : goal.returns-in-Script
returns-in-Script g c = puts-done _ (subst (λ (bs : List ℕ). HasPut g.O.Sink.view g.O.Sink.same_rest c.args.out.now c.args.out.now bs)
    (sym (ap (λ (ch : Change). flat_map (hunk_text c.args.patch.now.header.form) (swapped_hunks (change_of c.args.text.now ch))) c.in-Script.is))
    (has-none g.met.O.Sink.rest_none c.args.out.now))

pub returns-in-Hunks : goal.returns-in-Hunks
returns-in-Hunks g c = subst (λ (bs : List ℕ). Puts g.O.Sink.view g.O.Sink.same_rest c.args.out.now c.put_hunks.new.out c.put_hunks.result bs)
    (ap (λ (hs : List Hunk). flat_map (hunk_text c.args.patch.now.header.form) (map swapped (hunks_of c.args.text.now hs))) c.deref.ensures.value
    ∙ sym (ap (λ (ch : Change). flat_map (hunk_text c.args.patch.now.header.form) (swapped_hunks (change_of c.args.text.now ch))) c.in-Hunks.is))
    c.put_hunks.ensures

pub put_hunks-requires-clause-lawful : goal.put_hunks-requires-clause-lawful
put_hunks-requires-clause-lawful g c =
    let own : AreLawfulHunks c.args.text.now c.in-Hunks.hunks.items = subst (IsLawfulChange c.args.text.now) c.in-Hunks.is c.requires.lawful.change in
    subst (All (IsLawful c.args.text.now)) (sym c.deref.ensures.value) own.lawful
