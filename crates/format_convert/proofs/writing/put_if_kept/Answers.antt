use Rattle.std.proofs.Common.{◌++◌, ℕ, List, [], Bool, cond, sym, ap, subst, ◌∙◌}
use Rattle.std.proofs.lemmas.Result.{err_from_is_err_and}
use Rattle.hunk_core.specs.declared.Side.TheVariants.{Forward}
use Rattle.outside.specs.Puts.{Puts}
use Rattle.outside.proofs.SinkSteps.{HasPut, has-none, has-put, puts-done, puts-more, puts-stop}
use Rattle.read_file_patch.specs.PlainPatch.{patch_of}
use Rattle.flip_patch.specs.HeaderText.{header_text}
use Rattle.cli_tool_words.specs.PlainJobs.{plain_filter_job}
use Rattle.format_convert.specs.Taken.{flags, has_kept, left_patch}
use Rattle.format_convert.specs.Converted.{change_text, is_written, pieces, written}
use Rattle.format_convert.proofs.RowLemmas.{both-hold, by-commands, by-context}
use Rattle.format_convert.proofs.writing.put_if_kept.Goals as goal

pub returns-then-not-has_kept : goal.returns-then-not-has_kept
returns-then-not-has_kept g c = λ x at.
    let text = written c.args.form c.args.set.now.text x.header (flags (plain_filter_job c.args.job.now) c.args.patch (patch_of c.args.set.now.text x)) (pieces c.args.set.now.text x) (patch_of c.args.set.now.text x).change in
    puts-done _ (subst (λ (bs : List ℕ). HasPut g.O.Sink.view g.O.Sink.same_rest c.args.out.now c.args.out.now bs) (ap (λ (b : Bool). cond b text []) (sym c.if-not-has_kept.true ∙ c.has_kept.ensures x at)) (has-none g.met.O.Sink.rest_none c.args.out.now))

pub returns-then-not-is_written : goal.returns-then-not-is_written
returns-then-not-is_written g c = λ x at.
    let j = plain_filter_job c.args.job.now in
    let p = patch_of c.args.set.now.text x in
    let left = (left_patch j c.args.patch p).change in
    let bytes = change_text c.args.form x.header.form (flags j c.args.patch p) (pieces c.args.set.now.text x) p.change in
    let text = header_text c.args.set.now.text c.args.form Forward x.header ++ bytes in
    puts-done _ (subst (λ (bs : List ℕ). HasPut g.O.Sink.view g.O.Sink.same_rest c.args.out.now c.args.out.now bs)
    (ap (λ (b : Bool). cond b [] []) (sym c.if-not-has_kept.false ∙ c.has_kept.ensures x at)
    ∙ ap (λ (b : Bool). cond (has_kept j c.args.patch p) (cond b text []) []) (sym c.if-not-is_written.true ∙ c.is_written.ensures x at))
    (has-none g.met.O.Sink.rest_none c.args.out.now))

pub returns-in_err-put_header_lines : goal.returns-in_err-put_header_lines
returns-in_err-put_header_lines g c = λ x at.
    let j = plain_filter_job c.args.job.now in
    let p = patch_of c.args.set.now.text x in
    let left = (left_patch j c.args.patch p).change in
    let bytes = change_text c.args.form x.header.form (flags j c.args.patch p) (pieces c.args.set.now.text x) p.change in
    let head = header_text c.args.set.now.text c.args.form Forward x.header in
    let e = err_from_is_err_and c.from_residual.result c.from_residual.ensures.1 in
    rw (e.1, ← both-hold (has_kept j c.args.patch p) (is_written c.args.form left) (head ++ bytes) (sym (c.has_kept.ensures x at) ∙ c.if-not-has_kept.false) (sym (c.is_written.ensures x at) ∙ c.if-not-is_written.false))
    (puts-stop c.in_err-put_header_lines.field-0.0 e.0 (bytes) (c.in_err-put_header_lines.ensures x at))

pub returns-then-shows_context : goal.returns-then-shows_context
returns-then-shows_context g c = λ x at.
    let j = plain_filter_job c.args.job.now in
    let p = patch_of c.args.set.now.text x in
    let left = (left_patch j c.args.patch p).change in
    let bytes = change_text c.args.form x.header.form (flags j c.args.patch p) (pieces c.args.set.now.text x) p.change in
    let head = header_text c.args.set.now.text c.args.form Forward x.header in
    subst (λ (bs : List ℕ). Puts g.O.Sink.view g.O.Sink.same_rest c.args.out.now c.put_hunks.new.out c.put_hunks.result bs)
    (ap (λ (bs : List ℕ). head ++ bs) (by-context c.args.form x.header.form (flags j c.args.patch p) (pieces c.args.set.now.text x) p.change (sym c.shows_context.ensures ∙ c.if-shows_context.true))
    ∙ both-hold (has_kept j c.args.patch p) (is_written c.args.form left) (head ++ bytes) (sym (c.has_kept.ensures x at) ∙ c.if-not-has_kept.false) (sym (c.is_written.ensures x at) ∙ c.if-not-is_written.false))
    (puts-more g.met.O.Sink.rest_both (has-put c.in_ok-put_header_lines.field-0 (c.in_ok-put_header_lines.ensures x at)) (c.put_hunks.ensures x at))

pub returns-else-shows_context : goal.returns-else-shows_context
returns-else-shows_context g c = λ x at.
    let j = plain_filter_job c.args.job.now in
    let p = patch_of c.args.set.now.text x in
    let left = (left_patch j c.args.patch p).change in
    let bytes = change_text c.args.form x.header.form (flags j c.args.patch p) (pieces c.args.set.now.text x) p.change in
    let head = header_text c.args.set.now.text c.args.form Forward x.header in
    subst (λ (bs : List ℕ). Puts g.O.Sink.view g.O.Sink.same_rest c.args.out.now c.put_commands.new.out c.put_commands.result bs)
    (ap (λ (bs : List ℕ). head ++ bs) (by-commands c.args.form x.header.form (flags j c.args.patch p) (pieces c.args.set.now.text x) p.change (sym c.shows_context.ensures ∙ c.if-shows_context.false))
    ∙ both-hold (has_kept j c.args.patch p) (is_written c.args.form left) (head ++ bytes) (sym (c.has_kept.ensures x at) ∙ c.if-not-has_kept.false) (sym (c.is_written.ensures x at) ∙ c.if-not-is_written.false))
    (puts-more g.met.O.Sink.rest_both (has-put c.in_ok-put_header_lines.field-0 (c.in_ok-put_header_lines.ensures x at)) (c.put_commands.ensures x at))

pub put_header_lines-requires : goal.put_header_lines-requires
put_header_lines-requires g c = c.requires

pub put_hunks-requires : goal.put_hunks-requires
put_hunks-requires g c = c.requires

pub put_commands-requires : goal.put_commands-requires
put_commands-requires g c = c.requires

pub is_written-requires : goal.is_written-requires
is_written-requires g c = c.requires

pub has_kept-requires : goal.has_kept-requires
has_kept-requires g c = c.requires
