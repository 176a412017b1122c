use Rattle.std.proofs.Common.{◌<◌, ◌≤◌, ◌&&◌, ◌∙◌, false, length, get_or, ap, arith}
use Rattle.read_file_patch.specs.PlainPatch.{change_of}
use Rattle.cli_tool_words.specs.PlainJobs.{plain_filter_job}
use Rattle.patch_set.proofs.Named.{rows-counted}
use Rattle.filter_choice.specs.Kept.{kept}
use Rattle.filter_choice.proofs.Rows.{kept-long}
use Rattle.patch_filters.proofs.HunkTexts.{flags-all, flags-more}
use Rattle.patch_filters.proofs.all_told.kept_flags.Goals as goal

pub loop-hunk-preserved : goal.loop-hunk-preserved
loop-hunk-preserved c =
    let j = plain_filter_job c.args.job.now in
    let text = c.args.set.now.text in
    let p = c.args.row.now in
    let xs = kept j (change_of text p.change) in
    let k = c.loop-hunk.hunk in
    let lt : k < length xs = omega (arith, c.loop-hunk-test.true, c.hunks-hunk-end.ensures text, rows-counted text p.change, kept-long j text p.change) in
    flags-more xs c.loop-hunk.flags.items k c.loop-hunk.invariant c.push.new.self.items c.keeps.result lt (c.keeps.ensures p c.requires.at.at ∙ ap (λ b. b && get_or xs k false) c.requires.taken) c.in_ok-push.ensures.items

pub returns : goal.returns
returns c =
    let j = plain_filter_job c.args.job.now in
    let text = c.args.set.now.text in
    let p = c.args.row.now in
    let xs = kept j (change_of text p.change) in
    let k = c.loop-hunk.hunk in
    let le : length xs ≤ k = omega (arith, c.loop-hunk-test.false, c.hunks-hunk-end.ensures text, rows-counted text p.change, kept-long j text p.change) in
    flags-all xs c.loop-hunk.flags.items k c.loop-hunk.invariant le
