use Rattle.std.proofs.Common.{◌≡◌, Ok, Err, sym, ap, subst, ◌∙◌, arith}
use Rattle.std.proofs.lemmas.Option.{same_Some}
use Rattle.hunk_core.specs.PlainHunk.{bytes_at}
use Rattle.outside.specs.Puts.{Puts}
use Rattle.outside.proofs.SinkSteps.{has-put}
use Rattle.read_file_patch.specs.declared.FilePatch.{FilePatch}
use Rattle.read_file_patch.specs.PlainPatch.{change_of}
use Rattle.cli_tool_words.specs.PlainJobs.{plain_grep_job}
use Rattle.cli_tool_words.specs.declared.jobs.GrepOut.TheVariants.{Names, Hunks, Files}
use Rattle.patch_filters.specs.declared.fault.GrepFault.TheVariants.{Write}
use Rattle.patch_filters.specs.Grepped.{Finds, found_text, hits_of, test_of}
use Rattle.patch_filters.specs.Filtered.{chosen, text_if}
use Rattle.patch_filters.specs.HunkLines.{hunk_lines}
use Rattle.patch_filters.proofs.Searching.{asked-none}
use Rattle.patch_filters.proofs.Finding.{ends-in, finds-more, finds-put, finds-stop, finds-write, by-output}
use Rattle.patch_filters.proofs.grep.put_found.Goals as goal

pub bytes_at-requires-clause-order : goal.bytes_at-requires-clause-order
bytes_at-requires-clause-order g c =
    let at = c.patch_at-found.ensures.placed in
    omega (arith, at.region, at.some)

pub bytes_at-requires-clause-within : goal.bytes_at-requires-clause-within
bytes_at-requires-clause-within g c = rw c.text-text.ensures c.patch_at-found.ensures.placed.high

pub put_parts-requires-clause-first : goal.put_parts-requires-clause-first
put_parts-requires-clause-first g c = rw c.text-text.ensures (c.requires.first c.patch_at-found.result.now c.patch_at-found.ensures.is)

pub returns-in_err-put_name_line-in-Names : goal.returns-in_err-put_name_line-in-Names
returns-in_err-put_name_line-in-Names g c = λ p is.
    let w = g.F.Finder.view c.args.finder.now in
    let j = plain_grep_job c.args.job.now in
    let text = c.args.set.now.text in
    let found = c.patch_at-found.result.now in
    let same : found ≡ p = same_Some found p (sym c.patch_at-found.ensures.is ∙ is) in
    let line = c.in_err-put_name_line-in-Names.ensures text c.patch_at-found.ensures.lawful (c.plain_name.ensures found c.patch_at-found.ensures.is) in
    by-output (test_of w) j text p c.args.job.now.output Names c.in-Names.is
    (subst (λ (q : FilePatch). Finds g.O.Sink.view g.O.Sink.same_rest w w c.args.out.now c.put_name_line.new.out c.from_residual.result (found_text (test_of w) Names j text q)) same
    (ends-in c.from_residual.result Write c.from_residual.ensures.1
    (finds-stop Write (text_if (j.shown.hunks, chosen (hits_of j.searched (test_of w) (change_of text found.change)) (hunk_lines j.shown.hunk_label text found))) (finds-write {R = Unit {0}} c.in_err-put_name_line-in-Names.field-0.0 (asked-none w) line))))

pub returns-in_ok-put_name_line-in-Names : goal.returns-in_ok-put_name_line-in-Names
returns-in_ok-put_name_line-in-Names g c = λ p is.
    let w = g.F.Finder.view c.args.finder.now in
    let j = plain_grep_job c.args.job.now in
    let text = c.args.set.now.text in
    let found = c.patch_at-found.result.now in
    let same : found ≡ p = same_Some found p (sym c.patch_at-found.ensures.is ∙ is) in
    let line = c.in_ok-put_name_line-in-Names.ensures text c.patch_at-found.ensures.lawful (c.plain_name.ensures found c.patch_at-found.ensures.is) in
    let more = subst (λ t. Finds g.O.Sink.view g.O.Sink.same_rest w (g.F.Finder.view c.put_lines_if_asked.new.finder) c.put_name_line.new.out c.put_lines_if_asked.new.out c.put_lines_if_asked.result (text_if (j.shown.hunks, chosen (hits_of j.searched (test_of w) (change_of t found.change)) (hunk_lines j.shown.hunk_label t found)))) c.text-text.ensures c.put_lines_if_asked.ensures in
    by-output (test_of w) j text p c.args.job.now.output Names c.in-Names.is
    (subst (λ (q : FilePatch). Finds g.O.Sink.view g.O.Sink.same_rest w (g.F.Finder.view c.put_lines_if_asked.new.finder) c.args.out.now c.put_lines_if_asked.new.out c.put_lines_if_asked.result (found_text (test_of w) Names j text q)) same
    (finds-more c.put_lines_if_asked.result g.met.O.Sink.rest_both (record { finder = asked-none w; put = has-put c.in_ok-put_name_line-in-Names.field-0 line }) more))

pub returns-in_err-put_piece-in-Files : goal.returns-in_err-put_piece-in-Files
returns-in_err-put_piece-in-Files g c = λ p is.
    let w = g.F.Finder.view c.args.finder.now in
    let found = c.patch_at-found.result.now in
    let same : found ≡ p = same_Some found p (sym c.patch_at-found.ensures.is ∙ is) in
    let is_text = c.bytes_at.ensures ∙ (ap (λ t. bytes_at t found.span) c.text-text.ensures ∙ ap (λ (q : FilePatch). bytes_at c.args.set.now.text q.span) same) in
    by-output (test_of w) (plain_grep_job c.args.job.now) c.args.set.now.text p c.args.job.now.output Files c.in-Files.is (ends-in c.from_residual-in_err-put_piece-in-Files.result Write c.from_residual-in_err-put_piece-in-Files.ensures.1 (finds-write c.in_err-put_piece-in-Files.field-0.0 (asked-none w) (subst (Puts g.O.Sink.view g.O.Sink.same_rest c.args.out.now c.put_piece.new.out (Err c.in_err-put_piece-in-Files.field-0.0)) is_text c.in_err-put_piece-in-Files.ensures)))

pub returns-in_ok-put_piece-in-Files : goal.returns-in_ok-put_piece-in-Files
returns-in_ok-put_piece-in-Files g c = λ p is.
    let w = g.F.Finder.view c.args.finder.now in
    let found = c.patch_at-found.result.now in
    let same : found ≡ p = same_Some found p (sym c.patch_at-found.ensures.is ∙ is) in
    let is_text = c.bytes_at.ensures ∙ (ap (λ t. bytes_at t found.span) c.text-text.ensures ∙ ap (λ (q : FilePatch). bytes_at c.args.set.now.text q.span) same) in
    by-output (test_of w) (plain_grep_job c.args.job.now) c.args.set.now.text p c.args.job.now.output Files c.in-Files.is (finds-put tt (asked-none w) (has-put c.in_ok-put_piece-in-Files.field-0 (subst (Puts g.O.Sink.view g.O.Sink.same_rest c.args.out.now c.put_piece.new.out (Ok c.in_ok-put_piece-in-Files.field-0)) is_text c.in_ok-put_piece-in-Files.ensures)))

pub returns-in-Hunks : goal.returns-in-Hunks
returns-in-Hunks g c = λ p is.
    let v = c.args.set.now in
    let j = plain_grep_job c.args.job.now in
    let found = c.patch_at-found.result.now in
    let hit = test_of (g.F.Finder.view c.args.finder.now) in
    let same : found ≡ p = same_Some found p (sym c.patch_at-found.ensures.is ∙ is) in
    by-output hit j v.text p c.args.job.now.output Hunks c.in-Hunks.is (subst (Finds g.O.Sink.view g.O.Sink.same_rest (g.F.Finder.view c.args.finder.now) (g.F.Finder.view c.put_parts.new.finder) c.args.out.now c.put_parts.new.out c.put_parts.result)
    (ap (λ t. found_text hit Hunks j t found) c.text-text.ensures ∙ ap (found_text hit Hunks j v.text) same) c.put_parts.ensures)

pub put_parts-requires-clause-placed : goal.put_parts-requires-clause-placed
put_parts-requires-clause-placed g c = rw c.text-text.ensures c.patch_at-found.ensures.placed

pub put_parts-requires-clause-lawful : goal.put_parts-requires-clause-lawful
put_parts-requires-clause-lawful g c = rw c.text-text.ensures c.patch_at-found.ensures.lawful.change

pub plain_name-requires : goal.plain_name-requires
plain_name-requires g c = c.requires.within

pub put_parts-requires-clause-kept : goal.put_parts-requires-clause-kept
put_parts-requires-clause-kept g c = c.requires.kept

pub patch_at-found-requires : goal.patch_at-found-requires
patch_at-found-requires g c = c.requires.within

pub put_lines_if_asked-requires-clause-placed : goal.put_lines_if_asked-requires-clause-placed
put_lines_if_asked-requires-clause-placed g c = rw c.text-text.ensures c.patch_at-found.ensures.placed

pub put_lines_if_asked-requires-clause-lawful : goal.put_lines_if_asked-requires-clause-lawful
put_lines_if_asked-requires-clause-lawful g c = rw c.text-text.ensures c.patch_at-found.ensures.lawful.change

pub put_lines_if_asked-requires-clause-kept : goal.put_lines_if_asked-requires-clause-kept
put_lines_if_asked-requires-clause-kept g c = c.requires.kept

pub put_lines_if_asked-requires-clause-first : goal.put_lines_if_asked-requires-clause-first
put_lines_if_asked-requires-clause-first g c = rw c.text-text.ensures (c.requires.first c.patch_at-found.result.now c.patch_at-found.ensures.is)
