use Rattle.std.proofs.Common.{◌≡◌, ◌+◌, ◌<◌, false, [], length, get_or, drop, Err, subst, arith}
use Rattle.std.specs.List.{flat_map}
use Rattle.outside.proofs.SinkSteps.{HasPut, has-more, has-put}
use Rattle.read_file_patch.specs.PlainPatch.{change_of, row_count}
use Rattle.patch_set.proofs.Named.{rows-counted}
use Rattle.patch_filters.specs.declared.fault.GrepFault.TheVariants.{Write}
use Rattle.patch_filters.specs.Filtered.{chosen, pieces, region, text_if}
use Rattle.patch_filters.specs.Grepped.{Finds, hits_of, test_of}
use Rattle.patch_filters.proofs.Searching.{asked-none, still-kept}
use Rattle.patch_filters.proofs.Flagged.{rows, rows-long, row-at}
use Rattle.patch_filters.proofs.Finding.{by-first, ends-in, finds-more, finds-stop, finds-write, found-ends, found-goes-on, found-stops}
use Rattle.patch_filters.proofs.Hits.{first-hunk, first-piece, first-whole, hits-long, few-rows}
use Rattle.patch_filters.proofs.grep.put_parts.Goals as goal

pub returns-in_err-put_region : goal.returns-in_err-put_region
returns-in_err-put_region g c =
    let v = g.F.Finder.view c.args.finder.now in
    let rest = chosen (hits_of c.args.searched (test_of v) (change_of c.args.text.now c.args.patch.now.change)) (pieces c.args.text.now c.args.patch.now) in
    ends-in c.from_residual.result Write c.from_residual.ensures.1 (finds-stop Write rest (finds-write {R = Unit {0}} c.in_err-put_region.field-0.0 (asked-none v) c.in_err-put_region.ensures))

pub put_region-requires : goal.put_region-requires
put_region-requires g c = c.requires.placed

pub put_hunk-requires-clause-within : goal.put_hunk-requires-clause-within
put_hunk-requires-clause-within g c =
    let v = g.F.Finder.view c.args.finder.now in
    let text = c.args.text.now in
    let p = c.args.patch.now in
    let flags = hits_of c.args.searched (test_of v) (change_of text p.change) in
    let long = hits-long c.args.searched (test_of v) text p.change in
    let at = c.requires.placed in
    first-hunk flags text p at long c.args.first c.requires.first

pub loop-hunk-init : goal.loop-hunk-init
loop-hunk-init g c =
    let v = g.F.Finder.view c.args.finder.now in
    let text = c.args.text.now in
    let p = c.args.patch.now in
    let flags = hits_of c.args.searched (test_of v) (change_of text p.change) in
    let long = hits-long c.args.searched (test_of v) text p.change in
    let at = c.requires.placed in
    record {
      finder = asked-none v;
      put = has-more g.met.O.Sink.rest_both (has-put c.in_ok-put_region.field-0 c.in_ok-put_region.ensures)
          (subst (HasPut g.O.Sink.view g.O.Sink.same_rest c.put_region.new.out c.put_hunk.new.out) (first-piece flags text p at long c.args.first c.requires.first) (has-put c.in_ok-put_hunk.field-0 c.in_ok-put_hunk.ensures));
    }

pub put_if_hit-requires-clause-kept : goal.put_if_hit-requires-clause-kept
put_if_hit-requires-clause-kept g c = still-kept c.loop-hunk.invariant.finder c.requires.kept

pub put_if_hit-requires-clause-within : goal.put_if_hit-requires-clause-within
put_if_hit-requires-clause-within g c = omega (arith, c.loop-hunk-test.true, c.hunks-hunk-end.ensures c.args.text.now, rows-counted c.args.text.now c.args.patch.now.change)

pub loop-hunk-preserved : goal.loop-hunk-preserved
loop-hunk-preserved g c =
    let v = g.F.Finder.view c.args.finder.now in
    let text = c.args.text.now in
    let p = c.args.patch.now in
    let flags = hits_of c.args.searched (test_of v) (change_of text p.change) in
    let long = hits-long c.args.searched (test_of v) text p.change in
    let at = c.requires.placed in
    let i = c.loop-hunk.hunk in
    let piece = get_or (pieces text p) i [] in
    let lt : i < row_count p.change = omega (arith, c.loop-hunk-test.true, c.hunks-hunk-end.ensures text, rows-counted text p.change) in
    let xs = rows flags text p (row_count p.change) at.each long in
    let within : i < length xs = omega (arith, lt, rows-long flags text p (row_count p.change) at.each long) in
    let put = by-first (λ hit. text_if (get_or (hits_of c.args.searched hit (change_of text p.change)) i false, piece)) c.loop-hunk.invariant.finder c.in_ok-put_if_hit.ensures in
    found-goes-on text_if xs g.met.O.Sink.rest_both (region text p) i (get_or flags i false, piece) c.in_ok-put_if_hit.field-0 within (row-at flags text p (row_count p.change) at.each long i lt) c.loop-hunk.invariant put

pub returns-in_err-put_hunk : goal.returns-in_err-put_hunk
returns-in_err-put_hunk g c =
    let v = g.F.Finder.view c.args.finder.now in
    let text = c.args.text.now in
    let p = c.args.patch.now in
    let flags = hits_of c.args.searched (test_of v) (change_of text p.change) in
    let long = hits-long c.args.searched (test_of v) text p.change in
    let at = c.requires.placed in
    let rest = flat_map text_if (drop (c.args.first + 1) (rows flags text p (row_count p.change) at.each long)) in
    ends-in c.from_residual-in_err-put_hunk.result Write c.from_residual-in_err-put_hunk.ensures.1
    (finds-more (Err Write) g.met.O.Sink.rest_both (record { finder = asked-none v; put = has-put c.in_ok-put_region.field-0 c.in_ok-put_region.ensures })
    (subst (Finds g.O.Sink.view g.O.Sink.same_rest v v c.put_region.new.out c.put_hunk.new.out (Err Write)) (first-whole flags text p at long c.args.first c.requires.first)
    (finds-stop Write rest (finds-write {R = Unit {0}} c.in_err-put_hunk.field-0.0 (asked-none v) c.in_err-put_hunk.ensures))))

pub returns-in_err-put_if_hit : goal.returns-in_err-put_if_hit
returns-in_err-put_if_hit g c =
    let v = g.F.Finder.view c.args.finder.now in
    let text = c.args.text.now in
    let p = c.args.patch.now in
    let flags = hits_of c.args.searched (test_of v) (change_of text p.change) in
    let long = hits-long c.args.searched (test_of v) text p.change in
    let at = c.requires.placed in
    let i = c.loop-hunk.hunk in
    let piece = get_or (pieces text p) i [] in
    let lt : i < row_count p.change = omega (arith, c.loop-hunk-test.true, c.hunks-hunk-end.ensures text, rows-counted text p.change) in
    let xs = rows flags text p (row_count p.change) at.each long in
    let within : i < length xs = omega (arith, lt, rows-long flags text p (row_count p.change) at.each long) in
    let put = by-first (λ hit. text_if (get_or (hits_of c.args.searched hit (change_of text p.change)) i false, piece)) c.loop-hunk.invariant.finder c.in_err-put_if_hit.ensures in
    ends-in c.from_residual-in_err-put_if_hit.result c.in_err-put_if_hit.field-0.0 c.from_residual-in_err-put_if_hit.ensures.1
    (found-stops text_if xs g.met.O.Sink.rest_both (region text p) i (get_or flags i false, piece) c.in_err-put_if_hit.field-0.0 within (row-at flags text p (row_count p.change) at.each long i lt) c.loop-hunk.invariant put)

pub returns : goal.returns
returns g c =
    let v = g.F.Finder.view c.args.finder.now in
    let text = c.args.text.now in
    let p = c.args.patch.now in
    let flags = hits_of c.args.searched (test_of v) (change_of text p.change) in
    let long = hits-long c.args.searched (test_of v) text p.change in
    let at = c.requires.placed in
    let xs = rows flags text p (row_count p.change) at.each long in
    let first = first-hunk flags text p at long c.args.first c.requires.first in
    let end : c.loop-hunk.hunk ≡ length xs = omega (arith, c.loop-hunk-test.false, c.loop-hunk.auto.hunk-end, c.hunks-hunk-end.ensures text, rows-counted text p.change, rows-long flags text p (row_count p.change) at.each long, first) in
    found-ends text_if xs g.met.O.Sink.rest_both (region text p) c.loop-hunk.hunk tt end c.loop-hunk.invariant

pub put_hunk-requires-clause-placed : goal.put_hunk-requires-clause-placed
put_hunk-requires-clause-placed g c = c.requires.placed

pub put_if_hit-requires-clause-lawful : goal.put_if_hit-requires-clause-lawful
put_if_hit-requires-clause-lawful g c = c.requires.lawful

pub put_if_hit-requires-clause-placed : goal.put_if_hit-requires-clause-placed
put_if_hit-requires-clause-placed g c = c.requires.placed

pub overflow_step-hunk : goal.overflow_step-hunk
overflow_step-hunk g c =
    let v = g.F.Finder.view c.args.finder.now in
    let text = c.args.text.now in
    let p = c.args.patch.now in
    let flags = hits_of c.args.searched (test_of v) (change_of text p.change) in
    omega (arith, first-hunk flags text p c.requires.placed (hits-long c.args.searched (test_of v) text p.change) c.args.first c.requires.first, few-rows text p.change c.requires.lawful)

pub hunks-hunk-end-requires : goal.hunks-hunk-end-requires
hunks-hunk-end-requires g c = few-rows c.args.text.now c.args.patch.now.change c.requires.lawful
