use Rattle.std.proofs.Common.{◌≡◌, ◌++◌, true, false, get_or, sym, ◌∙◌}
use Rattle.read_file_patch.specs.PlainPatch.{change_of}
use Rattle.outside.proofs.SinkSteps.{has-put}
use Rattle.patch_filters.specs.declared.fault.GrepFault.TheVariants.{Write, Memory}
use Rattle.patch_filters.specs.Filtered.{text_if}
use Rattle.patch_filters.specs.Grepped.{hits_of, test_of}
use Rattle.patch_filters.proofs.Finding.{ends-in, finds-done, finds-memory, finds-put, finds-write, found-asked, found-none, if-set, if-unset}
use Rattle.patch_filters.proofs.grep.put_line_if_hit.Goals as goal

pub returns-in_err-is_hit_behind : goal.returns-in_err-is_hit_behind
returns-in_err-is_hit_behind g c =
    let flags = hits_of c.args.searched (test_of (g.F.Finder.view c.args.finder.now)) (change_of c.args.text.now c.args.patch.now.change) in
    ends-in c.from_residual.result Memory c.from_residual.ensures.1 (finds-memory (text_if (get_or flags c.args.hunk false, (c.args.shown.now.hunk_label.items ++ c.args.line.now)))
    (found-asked (found-none g.met.O.Sink.rest_none (g.F.Finder.view c.args.finder.now) c.args.out.now) c.in_err-is_hit_behind.ensures.asked))

pub returns-then-not-branch : goal.returns-then-not-branch
returns-then-not-branch g c =
    let flags = hits_of c.args.searched (test_of (g.F.Finder.view c.args.finder.now)) (change_of c.args.text.now c.args.patch.now.change) in
    let none : get_or flags c.args.hunk false ≡ false = sym c.in_ok-is_hit_behind.ensures.hit ∙ c.if-not-branch.true in
    if-unset (get_or flags c.args.hunk false) (c.args.shown.now.hunk_label.items ++ c.args.line.now) none (finds-done tt (found-asked (found-none g.met.O.Sink.rest_none (g.F.Finder.view c.args.finder.now) c.args.out.now) c.in_ok-is_hit_behind.ensures.asked))

pub returns-in_err-put_labelled : goal.returns-in_err-put_labelled
returns-in_err-put_labelled g c =
    let flags = hits_of c.args.searched (test_of (g.F.Finder.view c.args.finder.now)) (change_of c.args.text.now c.args.patch.now.change) in
    let hit : get_or flags c.args.hunk false ≡ true = sym c.in_ok-is_hit_behind.ensures.hit ∙ c.if-not-branch.false in
    if-set (get_or flags c.args.hunk false) (c.args.shown.now.hunk_label.items ++ c.args.line.now) hit (ends-in c.from_residual-in_err-put_labelled.result Write c.from_residual-in_err-put_labelled.ensures.1 (finds-write c.in_err-put_labelled.field-0.0 c.in_ok-is_hit_behind.ensures.asked c.in_err-put_labelled.ensures))

pub returns : goal.returns
returns g c =
    let flags = hits_of c.args.searched (test_of (g.F.Finder.view c.args.finder.now)) (change_of c.args.text.now c.args.patch.now.change) in
    let hit : get_or flags c.args.hunk false ≡ true = sym c.in_ok-is_hit_behind.ensures.hit ∙ c.if-not-branch.false in
    if-set (get_or flags c.args.hunk false) (c.args.shown.now.hunk_label.items ++ c.args.line.now) hit (finds-put tt c.in_ok-is_hit_behind.ensures.asked (has-put c.in_ok-put_labelled.field-0 c.in_ok-put_labelled.ensures))

pub is_hit_behind-requires-clause-within : goal.is_hit_behind-requires-clause-within
is_hit_behind-requires-clause-within g c = c.requires.within

pub is_hit_behind-requires-clause-lawful : goal.is_hit_behind-requires-clause-lawful
is_hit_behind-requires-clause-lawful g c = c.requires.lawful

pub is_hit_behind-requires-clause-kept : goal.is_hit_behind-requires-clause-kept
is_hit_behind-requires-clause-kept g c = c.requires.kept

pub is_hit_behind-requires-clause-first : goal.is_hit_behind-requires-clause-first
is_hit_behind-requires-clause-first g c = c.requires.first
