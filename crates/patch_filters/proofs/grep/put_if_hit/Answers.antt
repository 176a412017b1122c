use Rattle.std.proofs.Common.{◌≡◌, true, false, [], get_or, sym, ◌∙◌, arith}
use Rattle.read_file_patch.specs.PlainPatch.{change_of}
use Rattle.outside.proofs.SinkSteps.{has-put}
use Rattle.patch_filters.specs.declared.fault.GrepFault.TheVariants.{Write, Memory}
use Rattle.patch_filters.specs.Filtered.{pieces, text_if}
use Rattle.patch_filters.specs.Grepped.{hits_of, test_of}
use Rattle.patch_filters.proofs.Finding.{ends-in, finds-done, finds-memory, finds-put, finds-write, found-asked, found-none, if-set, if-unset}
use Rattle.patch_filters.proofs.grep.put_if_hit.Goals as goal

pub returns-in_err-is_hit : goal.returns-in_err-is_hit
returns-in_err-is_hit g c =
    let flags = hits_of c.args.searched (test_of (g.F.Finder.view c.args.finder.now)) (change_of c.args.text.now c.args.patch.now.change) in
    ends-in c.from_residual.result Memory c.from_residual.ensures.1 (finds-memory (text_if (get_or flags c.args.hunk false, get_or (pieces c.args.text.now c.args.patch.now) c.args.hunk []))
    (found-asked (found-none g.met.O.Sink.rest_none (g.F.Finder.view c.args.finder.now) c.args.out.now) c.in_err-is_hit.ensures.asked))

pub returns-then-not-branch : goal.returns-then-not-branch
returns-then-not-branch g c =
    let flags = hits_of c.args.searched (test_of (g.F.Finder.view c.args.finder.now)) (change_of c.args.text.now c.args.patch.now.change) in
    let none : get_or flags c.args.hunk false ≡ false = sym c.in_ok-is_hit.ensures.hit ∙ c.if-not-branch.true in
    if-unset (get_or flags c.args.hunk false) (get_or (pieces c.args.text.now c.args.patch.now) c.args.hunk []) none (finds-done tt (found-asked (found-none g.met.O.Sink.rest_none (g.F.Finder.view c.args.finder.now) c.args.out.now) c.in_ok-is_hit.ensures.asked))

pub returns-in_err-put_hunk : goal.returns-in_err-put_hunk
returns-in_err-put_hunk g c =
    let flags = hits_of c.args.searched (test_of (g.F.Finder.view c.args.finder.now)) (change_of c.args.text.now c.args.patch.now.change) in
    let hit : get_or flags c.args.hunk false ≡ true = sym c.in_ok-is_hit.ensures.hit ∙ c.if-not-branch.false in
    if-set (get_or flags c.args.hunk false) (get_or (pieces c.args.text.now c.args.patch.now) c.args.hunk []) hit (ends-in c.from_residual-in_err-put_hunk.result Write c.from_residual-in_err-put_hunk.ensures.1 (finds-write c.in_err-put_hunk.field-0.0 c.in_ok-is_hit.ensures.asked c.in_err-put_hunk.ensures))

pub returns : goal.returns
returns g c =
    let flags = hits_of c.args.searched (test_of (g.F.Finder.view c.args.finder.now)) (change_of c.args.text.now c.args.patch.now.change) in
    let hit : get_or flags c.args.hunk false ≡ true = sym c.in_ok-is_hit.ensures.hit ∙ c.if-not-branch.false in
    if-set (get_or flags c.args.hunk false) (get_or (pieces c.args.text.now c.args.patch.now) c.args.hunk []) hit (finds-put tt c.in_ok-is_hit.ensures.asked (has-put c.in_ok-put_hunk.field-0 c.in_ok-put_hunk.ensures))

pub put_hunk-requires-clause-within : goal.put_hunk-requires-clause-within
put_hunk-requires-clause-within g c = c.requires.within

pub put_hunk-requires-clause-placed : goal.put_hunk-requires-clause-placed
put_hunk-requires-clause-placed g c = c.requires.placed

pub is_hit-requires-clause-within : goal.is_hit-requires-clause-within
is_hit-requires-clause-within g c = omega (arith, c.requires.within)

pub is_hit-requires-clause-lawful : goal.is_hit-requires-clause-lawful
is_hit-requires-clause-lawful g c = c.requires.lawful

pub is_hit-requires-clause-kept : goal.is_hit-requires-clause-kept
is_hit-requires-clause-kept g c = c.requires.kept
