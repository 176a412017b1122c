use Rattle.std.proofs.Common.{◌<◌, refl}
use Rattle.std.proofs.lemmas.Result.{err_from_is_err_and}
use Rattle.read_patch_text.specs.Reading.{IsProgress}
use Rattle.read_patch_text.specs.Walked.{IsNext}
use Rattle.read_patch_text.proofs.Passed.{comes-near, progress-begins, value-isnt}
use Rattle.read_patch_text.proofs.Taking.{failed-too, taken_begin, taken_go_on, taken_fail, taken_done, taken_stop}
use Rattle.read_patch_text.proofs.walking.walk.Goals as goal

pub patches-init : goal.patches-init
patches-init g c = record { progress = progress-begins c.args.text.now; so_far = taken_begin g.W.PatchWalk.Has c.args.ways c.args.text.now c.args.kept.now }

pub patches-preserved : goal.patches-preserved
patches-preserved g c =
    let text = c.args.text.now in
    let here = c.patches.here in
    let next = c.in-Some.next in
    let progress : IsProgress text next = rw c.in-Some.is at c.in_ok-next.ensures.progress in
    let some : here.at < next.at = rw c.in-Some.is at c.in_ok-next.ensures.behind in
    let one : IsNext g.W.PatchWalk.Has c.args.ways text here c.patches.kept c.take_next.new.kept next = rw c.in-Some.is at c.in_ok-next.ensures.comes in
    record { progress = progress; so_far = taken_go_on g.W.PatchWalk.Has c.args.ways text c.args.kept.now c.patches.kept c.take_next.new.kept here next some progress one c.patches.invariant.so_far }

pub returns-clause-taken : goal.returns-clause-taken
returns-clause-taken g c = taken_done g.W.PatchWalk.Has c.args.ways c.args.text.now c.args.kept.now c.patches.kept _ c.patches.here c.patches.invariant.progress (c.in_ok-next.ensures.ends c.in_default.is) (c.in_ok-next.ensures.none c.in_default.is) c.patches.invariant.so_far

pub returns-clause-stopped : goal.returns-clause-stopped
returns-clause-stopped g c = λ line kind e. absurd (value-isnt _ _ _ refl e)

pub returns-in_err-next : goal.returns-in_err-next
returns-in_err-next g c =
    let p = err_from_is_err_and c.from_residual.result c.from_residual.ensures.1 in
    let text = c.args.text.now in
    rw (p.1, p.2) (record {
      taken = tt;
      fails = taken_fail g.W.PatchWalk.Has c.in_err-next.field-0.0 c.args.ways text c.args.kept.now c.patches.kept c.patches.here c.patches.invariant.progress c.in_err-next.ensures.fails c.patches.invariant.so_far;
      stopped = λ line kind e. taken_stop g.W.PatchWalk.Has c.args.ways text c.args.kept.now c.patches.kept c.patches.here line kind (c.in_err-next.ensures.malformed line kind (failed-too _ _ e)) c.patches.invariant.so_far;
    })

pub patches-smaller : goal.patches-smaller
patches-smaller g c =
    let some : c.patches.here.at < c.in-Some.next.at = rw c.in-Some.is at c.in_ok-next.ensures.behind in
    let progress : IsProgress c.args.text.now c.in-Some.next = rw c.in-Some.is at c.in_ok-next.ensures.progress in
    comes-near _ c.patches.here.at c.in-Some.next.at some progress.within
