use Rattle.std.proofs.Common.{◌≡◌, ℕ, List, length, sym, ap, subst, ◌∙◌}
use Rattle.std.specs.List.{flat_map, zip}
use Rattle.std.proofs.lemmas.Option.{same_Some}
use Rattle.hunk_core.specs.declared.Hunk.{Hunk}
use Rattle.hunk_core.specs.PlainHunk.{hunks_of}
use Rattle.outside.specs.Puts.{Puts}
use Rattle.read_file_patch.specs.declared.Change.{Change}
use Rattle.read_file_patch.specs.declared.FilePatch.{FilePatch}
use Rattle.read_file_patch.specs.PlainPatch.{change_of, patch_of, row_count}
use Rattle.cli_tool_words.specs.PlainJobs.{plain_filter_job}
use Rattle.format_convert.specs.Taken.{flags}
use Rattle.format_convert.specs.Converted.{hunk_texts, kept_pieces, pieces, told}
use Rattle.outside.proofs.SinkSteps.{HasPut, has-none, puts-done}
use Rattle.format_convert.specs.Walk.{IsHunks}
use Rattle.format_convert.proofs.RowLemmas.{are-lawful}
use Rattle.format_convert.proofs.hunks.put_hunks.Goals as goal

pub returns-in-Hunks : goal.returns-in-Hunks
returns-in-Hunks g c = λ x at.
    let text = c.args.set.now.text in
    let are = flags (plain_filter_job c.args.job.now) c.args.patch (patch_of text x) in
    let same = same_Some c.patch_at.result.now x (sym c.patch_at.ensures.is ∙ at) in
    let row = ap (λ (y : FilePatch). y.change) (sym same) ∙ c.in-Hunks.is in
    subst (λ (bs : List ℕ). Puts g.O.Sink.view g.O.Sink.same_rest c.args.out.now c.put_each.new.out c.put_each.result bs)
    (ap (λ (hs : List Hunk). flat_map (told c.args.form x.header.form) (kept_pieces are (zip (pieces text x) (hunks_of text hs)))) c.deref.ensures.value
    ∙ sym (ap (λ (ch : Change). hunk_texts c.args.form x.header.form are (pieces text x) (change_of text ch)) row))
    (c.put_each.ensures x at)

pub returns-in-Script : goal.returns-in-Script
returns-in-Script g c = λ x at.
    let text = c.args.set.now.text in
    let are = flags (plain_filter_job c.args.job.now) c.args.patch (patch_of text x) in
    let row = ap (λ (y : FilePatch). y.change) (sym (same_Some c.patch_at.result.now x (sym c.patch_at.ensures.is ∙ at))) ∙ c.in-Script.is in
    puts-done _ (subst (λ (bs : List ℕ). HasPut g.O.Sink.view g.O.Sink.same_rest c.args.out.now c.args.out.now bs)
    (sym (ap (λ (ch : Change). hunk_texts c.args.form x.header.form are (pieces text x) (change_of text ch)) row))
    (has-none g.met.O.Sink.rest_none c.args.out.now))

pub put_each-requires-clause-hunks : goal.put_each-requires-clause-hunks
put_each-requires-clause-hunks g c = λ x at. subst (λ (ch : Change). IsHunks ch c.deref.result.now) (sym c.in-Hunks.is ∙ ap (λ (p : FilePatch). p.change) (same_Some c.patch_at.result.now x (sym c.patch_at.ensures.is ∙ at))) (sym c.deref.ensures.value)

pub put_each-requires-clause-spans : goal.put_each-requires-clause-spans
put_each-requires-clause-spans g c = λ x at. subst (λ (p : FilePatch). length p.hunk_spans.items ≡ row_count p.change) (same_Some c.patch_at.result.now x (sym c.patch_at.ensures.is ∙ at)) c.patch_at.ensures.placed.each

pub put_each-requires-clause-lawful : goal.put_each-requires-clause-lawful
put_each-requires-clause-lawful g c = are-lawful c.args.set.now.text c.patch_at.result.now.change c.deref.result.now (subst (λ (ch : Change). IsHunks ch c.deref.result.now) (sym c.in-Hunks.is) (sym c.deref.ensures.value)) c.patch_at.ensures.lawful.change

pub put_each-requires-clause-within : goal.put_each-requires-clause-within
put_each-requires-clause-within g c = c.requires

pub patch_at-requires : goal.patch_at-requires
patch_at-requires g c = c.requires
