use Rattle.std.proofs.Common.{subst, sym, ◌∙◌, ℕ, List}
use Rattle.std.specs.List.{flat_map}
use Rattle.std.proofs.lemmas.Option.{same_Some}
use Rattle.std.proofs.lemmas.Result.{err_from_is_err_and}
use Rattle.outside.specs.Puts.{Puts}
use Rattle.outside.proofs.SinkSteps.{has-put, puts-more, puts-stop}
use Rattle.read_file_patch.specs.PlainPatch.{change_of}
use Rattle.flip_patch.specs.Flipped.{flipped_patch, hunk_text, swapped_hunks}
use Rattle.read_file_patch.specs.Absent.{IsLawfulPatch}
use Rattle.patch_set.specs.Spans.{IsPlaced}
use Rattle.flip_patch.proofs.patches.put_patch.Goals as goal

pub returns-in_err-put_header_lines : goal.returns-in_err-put_header_lines
returns-in_err-put_header_lines g c = λ p is.
    let v = c.args.set.now in
    let one = c.patch_at-one.result.now in
    let same = same_Some one p (sym c.patch_at-one.ensures.is ∙ is) in
    let q = err_from_is_err_and c.from_residual.result c.from_residual.ensures.1 in
    subst (λ x. Puts g.O.Sink.view g.O.Sink.same_rest c.args.out.now c.put_header_lines.new.out c.from_residual.result (flipped_patch v.text x)) same
    (rw q.1 (puts-stop c.in_err-put_header_lines.field-0.0 q.0 (flat_map (hunk_text one.header.form) (swapped_hunks (change_of v.text one.change))) (c.in_err-put_header_lines.ensures one c.patch_at-one.ensures.is)))

pub returns : goal.returns
returns g c = λ p is.
    let v = c.args.set.now in
    let one = c.patch_at-one.result.now in
    let same = same_Some one p (sym c.patch_at-one.ensures.is ∙ is) in
    subst (λ x. Puts g.O.Sink.view g.O.Sink.same_rest c.args.out.now c.put_change.new.out c.put_change.result (flipped_patch v.text x)) same
    (puts-more g.met.O.Sink.rest_both (has-put c.in_ok-put_header_lines.field-0 (c.in_ok-put_header_lines.ensures one c.patch_at-one.ensures.is))
    (subst (λ t. Puts g.O.Sink.view g.O.Sink.same_rest c.put_header_lines.new.out c.put_change.new.out c.put_change.result (flat_map (hunk_text one.header.form) (swapped_hunks (change_of t one.change)))) c.text.ensures c.put_change.ensures))

pub put_change-requires-clause-placed : goal.put_change-requires-clause-placed
put_change-requires-clause-placed g c = subst (λ (t : List ℕ). IsPlaced t c.patch_at-one.result.now.span.start c.patch_at-one.result.now.first_verdict c.patch_at-one.result.now) (sym c.text.ensures) c.patch_at-one.ensures.placed

pub put_change-requires-clause-lawful : goal.put_change-requires-clause-lawful
put_change-requires-clause-lawful g c = subst (λ (t : List ℕ). IsLawfulPatch t c.patch_at-one.result.now) (sym c.text.ensures) c.patch_at-one.ensures.lawful

pub patch_at-one-requires : goal.patch_at-one-requires
patch_at-one-requires g c = c.requires
