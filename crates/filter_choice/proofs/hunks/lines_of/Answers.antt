use Rattle.std.proofs.Common.{◌<◌, subst, ◌^◌, length, sym}
use Rattle.read_file_patch.specs.PlainPatch.{row_count}
use Rattle.line_list.proofs.Elements.{found}
use Rattle.filter_choice.specs.OldLines.{numbers_of, IsCounted}
use Rattle.filter_choice.proofs.OldLines.{hunk-at}
use Rattle.hunk_core.specs.declared.Hunk.{Hunk}
use Rattle.filter_choice.proofs.hunks.lines_of.Goals as goal

pub returns-in-Hunks : goal.returns-in-Hunks
returns-in-Hunks c = λ text lawful.
    let hs = c.in-Hunks.hunks.items in
    let h = c.index.result.now in
    let within = subst (λ x. c.args.hunk < row_count x) c.in-Hunks.is c.requires.within in
    rw c.in-Hunks.is (hunk-at text hs c.args.hunk h (numbers_of c.old_lines.result) (found hs c.args.hunk h within c.index.ensures) (c.old_lines.ensures text))

pub old_lines-requires : goal.old_lines-requires
old_lines-requires c =
    let within = subst (λ x. c.args.hunk < row_count x) c.in-Hunks.is c.requires.within in
    subst (λ (h : Hunk). length h.body.items < 2 ^ 32) (sym c.index.ensures) (subst IsCounted c.in-Hunks.is c.requires.counted c.args.hunk c.index.result.now within)

pub addressed-requires : goal.addressed-requires
addressed-requires c = subst IsCounted c.in-Script.is c.requires.counted
