use Rattle.std.proofs.Common.{◌≡◌, ap, subst, ◌∙◌}
use Rattle.hunk_core.specs.PlainHunk.{hunk_of}
use Rattle.hunk_core.specs.Sides.{start_of, taken_count}
use Rattle.hunk_core.specs.Turned.{taken, turned, other_side}
use Rattle.outside.specs.Puts.{Puts}
use Rattle.patch_header.specs.Written.{hunk_text}
use Rattle.reject_text.specs.Starts.{moved}
use Rattle.reject_text.proofs.Moved.{start-is, moved-is}
use Rattle.reject_text.proofs.Signed.{body-short, high-kept, low-kept}
use Rattle.reject_text.proofs.rejects.put_moved.Goals as goal

pub returns : goal.returns
returns g c =
    let h = c.args.hunk.now in
    let side = c.args.side in
    let net = c.args.net in
    let other = c.other-other.ensures in
    let old = start-is net c.start.result (start_of side h) c.count.result (taken_count side h.body.items) c.moved_start-old_start.result c.ranges.net c.moved_start-old_start.ensures c.start.ensures c.count.ensures in
    let new = start-is net c.start-2.result (start_of (other_side side) h) c.count-2.result (taken_count (other_side side) h.body.items) c.moved_start-new_start.result c.ranges.net c.moved_start-new_start.ensures
    (c.start-2.ensures ∙ ap (λ s. start_of s h) other) (c.count-2.ensures ∙ ap (λ s. taken_count s h.body.items) other) in
    let same : taken side c.moved_start-old_start.result c.moved_start-new_start.result (hunk_of c.args.text.now h) ≡ moved net (turned side (hunk_of c.args.text.now h)) = moved-is c.args.text.now side h net c.moved_start-old_start.result c.moved_start-new_start.result old new in
    subst (λ x. Puts g.O.Sink.view g.O.Sink.same_rest c.args.out.now c.put_in_form.new.out c.put_in_form.result (hunk_text c.args.form x)) same c.put_in_form.ensures

pub put_in_form-requires-clause-lawful : goal.put_in_form-requires-clause-lawful
put_in_form-requires-clause-lawful g c = c.requires.lawful

pub moved_start-new_start-requires-clause-low : goal.moved_start-new_start-requires-clause-low
moved_start-new_start-requires-clause-low g c = low-kept c.args.net c.ranges.net c.requires.low

pub moved_start-new_start-requires-clause-high : goal.moved_start-new_start-requires-clause-high
moved_start-new_start-requires-clause-high g c = high-kept c.args.net c.ranges.net c.requires.high

pub moved_start-old_start-requires-clause-high : goal.moved_start-old_start-requires-clause-high
moved_start-old_start-requires-clause-high g c = high-kept c.args.net c.ranges.net c.requires.high

pub moved_start-old_start-requires-clause-low : goal.moved_start-old_start-requires-clause-low
moved_start-old_start-requires-clause-low g c = low-kept c.args.net c.ranges.net c.requires.low

pub put_in_form-requires-clause-form : goal.put_in_form-requires-clause-form
put_in_form-requires-clause-form g c = c.requires.form

pub count-requires-2 : goal.count-requires-2
count-requires-2 g c = body-short c.args.hunk.now c.requires.lawful.few

pub count-requires : goal.count-requires
count-requires g c = body-short c.args.hunk.now c.requires.lawful.few
