use Rattle.std.proofs.Common.{◌≡◌, ◌∙◌, Bool, Err, List, ap, subst, sym}
use Rattle.std.proofs.lemmas.Option.{same_Some}
use Rattle.outside.specs.Puts.{Puts}
use Rattle.read_file_patch.specs.declared.FilePatch.{FilePatch}
use Rattle.read_file_patch.specs.PlainPatch.{change_of, patch_of}
use Rattle.cli_tool_words.specs.PlainJobs.{plain_grep_job}
use Rattle.patch_filters.specs.declared.fault.GrepFault.TheVariants.{Write}
use Rattle.patch_filters.specs.Filtered.{pieces, region}
use Rattle.patch_filters.specs.Grepped.{Finds, found_told, hits_of, plain_telling, test_of, written_flags}
use Rattle.patch_filters.specs.Told.{told_hunks}
use Rattle.patch_filters.proofs.Finding.{ends-in, finds-write}
use Rattle.patch_filters.proofs.grep_told.put_told.Goals as goal

pub returns-in_err-done : goal.returns-in_err-done
returns-in_err-done g c = λ p is.
    let w = g.F.Finder.view c.args.finder.now in
    let j = plain_grep_job c.args.job.now in
    let text = c.args.set.now.text in
    let found = c.patch_at-row.result.now in
    let same : found ≡ p = same_Some found p (sym c.patch_at-row.ensures.is ∙ is) in
    let told : List Bool → List _ = λ flags. told_hunks (plain_telling j.marks) j.marks.numbered flags (patch_of text found) (region text found) (pieces text found) in
    let bytes : c.deref-2.result.now ≡ found_told (test_of w) j text found =
    c.deref-2.ensures.value ∙ c.in_ok-text.ensures
    ∙ ap told (c.deref.ensures.value ∙ c.in_ok-flags.ensures.flags ∙ ap (λ t. written_flags j.output (hits_of j.searched (test_of w) (change_of t found.change))) c.text.ensures) in
    subst (λ (q : FilePatch). Finds g.O.Sink.view g.O.Sink.same_rest w (g.F.Finder.view c.found_flags.new.finder) c.args.out.now c.put_piece-done.new.out c.from_residual-in_err-done.result (found_told (test_of w) j text q)) same
    (ends-in c.from_residual-in_err-done.result Write c.from_residual-in_err-done.ensures.1
    (finds-write c.in_err-done.field-0.0 c.in_ok-flags.ensures.asked (subst (Puts g.O.Sink.view g.O.Sink.same_rest c.args.out.now c.put_piece-done.new.out (Err c.in_err-done.field-0.0)) bytes c.in_err-done.ensures)))
