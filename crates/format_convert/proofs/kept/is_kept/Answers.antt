use Rattle.std.proofs.Common.{false, sym, ◌∙◌, arith, ◌<◌, ℕ, subst}
use Rattle.read_file_patch.specs.PlainPatch.{patch_of, row_count}
use Rattle.cli_tool_words.specs.PlainJobs.{plain_filter_job}
use Rattle.format_convert.proofs.Rows.{count-is, flag-at}
use Rattle.std.proofs.lemmas.Option.{same_Some, slice_get_within}
use Rattle.read_file_patch.specs.declared.FilePatch.{FilePatch}
use Rattle.format_convert.proofs.kept.is_kept.Goals as goal

pub returns : goal.returns
returns c =
    let k = c.args.kept in
    c.keeps.ensures k.row.now c.requires.kept.at
    ∙ sym (flag-at (plain_filter_job k.job.now) k.patch (patch_of k.set.now.text k.row.now) c.args.hunk false (omega (arith, c.requires.within, count-is k c.requires.kept)))

pub keeps-requires-clause-patch : goal.keeps-requires-clause-patch
keeps-requires-clause-patch c = slice_get_within c.args.kept.set.now.patches c.args.kept.patch c.args.kept.row.now c.requires.kept.at

pub keeps-requires-clause-hunk : goal.keeps-requires-clause-hunk
keeps-requires-clause-hunk c = λ x at.
    subst (λ (p : FilePatch). c.args.hunk < row_count p.change) (same_Some c.args.kept.row.now x (sym c.requires.kept.at ∙ at))
    (subst (λ (n : ℕ). c.args.hunk < n) (sym c.requires.kept.count) c.requires.within)
