use Rattle.std.proofs.Common.{◌≡◌, ◌+◌, ◌&&◌, suc, true, false, sym, ap, ◌∙◌, arith}
use Rattle.read_file_patch.specs.PlainPatch.{header_of}
use Rattle.patch_set.specs.PlainName.{plain_name}
use Rattle.cli_tool_words.specs.PlainJobs.{plain_filter_job}
use Rattle.filter_choice.specs.Selected.{is_meant, is_selected}
use Rattle.patch_filters.proofs.all_told.is_taken.Goals as goal

pub returns-then-is_selected : goal.returns-then-is_selected
returns-then-is_selected c =
    let j = plain_filter_job c.args.job.now in
    let p = c.args.row.now in
    let h = header_of c.args.set.now.text p.header in
    let n : c.from.result + 1 ≡ suc c.args.patch = omega (arith, c.from.ensures) in
    let selected : is_selected j.select (plain_name h) ≡ true = sym (c.is_selected.ensures ∙ ap (is_selected j.select) (c.plain_name.ensures p c.requires.at)) ∙ c.if-is_selected.true in
    c.is_meant.ensures ∙ ap (is_meant j.files) n ∙ sym (ap (λ b. b && is_meant j.files (suc c.args.patch)) selected)

pub returns-else-is_selected : goal.returns-else-is_selected
returns-else-is_selected c =
    let j = plain_filter_job c.args.job.now in
    let p = c.args.row.now in
    let h = header_of c.args.set.now.text p.header in
    let selected : is_selected j.select (plain_name h) ≡ false = sym (c.is_selected.ensures ∙ ap (is_selected j.select) (c.plain_name.ensures p c.requires.at)) ∙ c.if-is_selected.false in
    c.if-is_selected.false ∙ sym (ap (λ b. b && is_meant j.files (suc c.args.patch)) selected)
