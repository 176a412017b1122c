use Rattle.std.proofs.Common.{◌≡◌, ◌+◌, ◌&&◌, [], suc, get_or, sym, ap, ◌∙◌, arith}
use Rattle.std.proofs.lemmas.Option.{slice_get-get_or}
use Rattle.read_file_patch.specs.PlainPatch.{change_of}
use Rattle.cli_tool_words.specs.PlainJobs.{plain_filter_job}
use Rattle.filter_choice.specs.Selected.{is_meant, is_one_meant}
use Rattle.patch_filters.specs.Digested.{olds_by}
use Rattle.filter_choice.specs.OldLines.{numbers_of}
use Rattle.patch_filters.proofs.Digesting.{olds-by-count}
use Rattle.filter_choice.proofs.OldLines.{counted}
use Rattle.filter_choice.proofs.Rows.{flags-at}
use Rattle.patch_filters.proofs.hunks.is_row_kept.Goals as goal

pub row_lines-requires-clause-counted : goal.row_lines-requires-clause-counted
row_lines-requires-clause-counted c = counted c.args.text.now c.args.patch.now.change c.requires.digest.lawful.change

pub row_lines-requires-clause-within : goal.row_lines-requires-clause-within
row_lines-requires-clause-within c = omega (arith, c.requires.within, c.requires.digest.each)

pub returns-then-is_meant : goal.returns-then-is_meant
returns-then-is_meant c =
    let j = plain_filter_job c.args.job.now in
    let each = olds_by (change_of c.args.text.now c.args.patch.now.change) c.args.olds.now in
    let own = numbers_of c.row_lines.result in
    let n : c.args.hunk + 1 ≡ suc c.args.hunk = omega arith in
    let meant = sym (c.is_meant.ensures ∙ ap (is_meant j.hunks) n) ∙ c.if-is_meant.true in
    sym (flags-at j each c.args.hunk own (c.row_lines.ensures c.args.text.now c.requires.digest.lawful.change)
    ∙ ap (λ b. b && is_one_meant j.lines own) meant
    ∙ sym c.is_one_meant.ensures)

pub returns-else-is_meant : goal.returns-else-is_meant
returns-else-is_meant c =
    let j = plain_filter_job c.args.job.now in
    let change = c.args.patch.now.change in
    let text = c.args.text.now in
    let each = olds_by (change_of text change) c.args.olds.now in
    let own = get_or each c.args.hunk [] in
    let n : c.args.hunk + 1 ≡ suc c.args.hunk = omega arith in
    let meant = sym (c.is_meant.ensures ∙ ap (is_meant j.hunks) n) ∙ c.if-is_meant.false in
    let there = slice_get-get_or each c.args.hunk [] (omega (arith, c.requires.within, c.requires.digest.each, olds-by-count text change c.args.olds.now)) in
    c.if-is_meant.false ∙ sym (flags-at j each c.args.hunk own there ∙ ap (λ b. b && is_one_meant j.lines own) meant)
