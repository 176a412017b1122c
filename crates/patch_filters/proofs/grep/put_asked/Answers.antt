use Rattle.std.proofs.Common.{◌∙◌, sym}
use Rattle.cli_tool_words.specs.PlainJobs.{plain_grep_job}
use Rattle.patch_filters.specs.Grepped.{found_text, found_told, tells, test_of}
use Rattle.patch_filters.proofs.Finding.{either-set, either-unset}
use Rattle.patch_filters.proofs.grep.put_asked.Goals as goal

pub returns-then-tells : goal.returns-then-tells
returns-then-tells g c = λ p is.
    let j = plain_grep_job c.args.job.now in
    let hit = test_of (g.F.Finder.view c.args.finder.now) in
    let text = c.args.set.now.text in
    either-set (tells j) (found_told hit j text p) (found_text hit j.output j text p) (sym c.tells.ensures ∙ c.if-tells.true) (c.put_told.ensures p is)

pub returns : goal.returns
returns g c = λ p is.
    let j = plain_grep_job c.args.job.now in
    let hit = test_of (g.F.Finder.view c.args.finder.now) in
    let text = c.args.set.now.text in
    either-unset (tells j) (found_told hit j text p) (found_text hit j.output j text p) (sym c.tells.ensures ∙ c.if-tells.false) (c.put_found.ensures p is)
