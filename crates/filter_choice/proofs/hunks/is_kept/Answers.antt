use Rattle.std.proofs.Common.{◌≡◌, ◌+◌, ◌&&◌, [], suc, get_or, sym, ap, ◌∙◌, arith}
use Rattle.read_file_patch.specs.PlainPatch.{change_of}
use Rattle.cli_tool_words.specs.PlainJobs.{plain_filter_job}
use Rattle.filter_choice.specs.Selected.{is_meant, is_one_meant}
use Rattle.filter_choice.specs.OldLines.{numbers_of, old_of_each}
use Rattle.filter_choice.proofs.Rows.{flag-at, olds-there}
use Rattle.filter_choice.proofs.hunks.is_kept.Goals as goal

pub returns-then-is_meant : goal.returns-then-is_meant
returns-then-is_meant c = λ text lawful.
    let j = plain_filter_job c.args.job.now in
    let n : c.from.result + 1 ≡ suc c.args.hunk = omega (arith, c.from.ensures) in
    let meant = sym (c.is_meant.ensures ∙ ap (is_meant j.hunks) n) ∙ c.if-is_meant.true in
    sym (flag-at j (change_of text c.args.change.now) c.args.hunk (numbers_of c.lines_of.result) (c.lines_of.ensures text lawful)
    ∙ ap (λ b. b && is_one_meant j.lines (numbers_of c.lines_of.result)) meant
    ∙ sym c.is_one_meant.ensures)

pub returns-else-is_meant : goal.returns-else-is_meant
returns-else-is_meant c = λ text lawful.
    let j = plain_filter_job c.args.job.now in
    let change = change_of text c.args.change.now in
    let olds = get_or (old_of_each change) c.args.hunk [] in
    let n : c.from.result + 1 ≡ suc c.args.hunk = omega (arith, c.from.ensures) in
    let meant = sym (c.is_meant.ensures ∙ ap (is_meant j.hunks) n) ∙ c.if-is_meant.false in
    c.if-is_meant.false
    ∙ sym (flag-at j change c.args.hunk olds (olds-there text c.args.change.now c.args.hunk c.requires.within) ∙ ap (λ b. b && is_one_meant j.lines olds) meant)

pub lines_of-requires-clause-within : goal.lines_of-requires-clause-within
lines_of-requires-clause-within c = c.requires.within

pub lines_of-requires-clause-counted : goal.lines_of-requires-clause-counted
lines_of-requires-clause-counted c = c.requires.counted
