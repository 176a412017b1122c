use Rattle.read_file_patch.specs.PlainPatch.{change_of}
use Rattle.patch_filters.specs.Filtered.{chosen}
use Rattle.patch_filters.specs.Grepped.{hits_of, test_of}
use Rattle.patch_filters.specs.HunkLines.{hunk_lines}
use Rattle.patch_filters.proofs.Finding.{finds-done, found-none, if-set, if-unset}
use Rattle.patch_filters.proofs.grep.put_lines_if_asked.Goals as goal

pub returns-then-not-job : goal.returns-then-not-job
returns-then-not-job g c =
    let lines = chosen (hits_of c.args.job.now.searched (test_of (g.F.Finder.view c.args.finder.now)) (change_of c.args.text.now c.args.patch.now.change)) (hunk_lines c.args.job.now.shown.hunk_label.items c.args.text.now c.args.patch.now) in
    if-unset c.args.job.now.shown.hunks lines c.if-not-job.true (finds-done tt (found-none g.met.O.Sink.rest_none (g.F.Finder.view c.args.finder.now) c.args.out.now))

pub returns : goal.returns
returns g c =
    let lines = chosen (hits_of c.args.job.now.searched (test_of (g.F.Finder.view c.args.finder.now)) (change_of c.args.text.now c.args.patch.now.change)) (hunk_lines c.args.job.now.shown.hunk_label.items c.args.text.now c.args.patch.now) in
    if-set c.args.job.now.shown.hunks lines c.if-not-job.false c.put_hit_lines.ensures
