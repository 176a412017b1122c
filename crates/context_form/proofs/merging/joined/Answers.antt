use Rattle.std.proofs.Common.{arith}
use Rattle.std.proofs.Common.{◌<◌, sym, ◌∙◌}
use Rattle.std.proofs.lemmas.Bool.{false≢true}
use Rattle.context_form.proofs.StepLemmas.{is-none, is-some, joined-none, joined-new, joined-old, joined-merged, lies-same, few-same, few-as, reads-as}
use Rattle.context_form.proofs.merging.joined.Goals as goal
use Rattle.context_form.proofs.merging.joined.Goals.{else-is_empty-via-else-is_empty, else-is_empty-via-then-is_empty+else-is_empty-2}

pub merge_parts-requires-clause-olds_within : goal.merge_parts-requires-clause-olds_within
merge_parts-requires-clause-olds_within c = rw c.deref.ensures.value c.requires.olds_within

pub merge_parts-requires-clause-news_within : goal.merge_parts-requires-clause-news_within
merge_parts-requires-clause-news_within c = rw c.deref-2.ensures.value c.requires.news_within

pub merge_parts-requires-clause-few : goal.merge_parts-requires-clause-few
merge_parts-requires-clause-few c = omega (arith, c.requires.few, c.deref.ensures.len, c.deref-2.ensures.len)

pub returns-clause-lies : goal.returns-clause-lies
returns-clause-lies c = c.merge_parts.ensures.lies

pub returns-then-is_empty-2-clause-exact : goal.returns-then-is_empty-2-clause-exact
returns-then-is_empty-2-clause-exact c = joined-none c.args.text.now c.args.old c.args.new (is-none c.args.old.lines.len c.if-is_empty.ensures) (is-none c.args.new.lines.len c.if-is_empty-2.ensures)

pub returns-then-is_empty-3-clause-exact : goal.returns-then-is_empty-3-clause-exact
returns-then-is_empty-3-clause-exact c =
    let some : 0 < c.args.new.lines.len = elim c.else-is_empty.branch [
      | else-is_empty-via-else-is_empty w ↦ absurd (false≢true (w.if-is_empty.ensures ∙ sym c.if-is_empty-3.ensures))
      | else-is_empty-via-then-is_empty+else-is_empty-2 w ↦ is-some c.args.new.lines.len w.if-is_empty-2.ensures
    ] in
    rw (joined-new c.args.text.now c.args.old c.args.new (is-none c.args.old.lines.len c.if-is_empty-3.ensures) some) (c.alone.ensures.exact c.args.text.now)

pub returns-then-is_empty-3-clause-lies : goal.returns-then-is_empty-3-clause-lies
returns-then-is_empty-3-clause-lies c = lies-same c.args.text.now c.args.new.lines.items c.alone.result c.alone.ensures.same c.requires.news_within

pub returns-then-is_empty-3-clause-few : goal.returns-then-is_empty-3-clause-few
returns-then-is_empty-3-clause-few c = few-same _ c.args.new.lines.items c.alone.result c.alone.ensures.same (omega (arith, c.args.new.lines.ok.0))

pub returns-then-is_empty-4-clause-exact : goal.returns-then-is_empty-4-clause-exact
returns-then-is_empty-4-clause-exact c = rw (joined-old c.args.text.now c.args.old c.args.new (is-some c.args.old.lines.len c.if-is_empty-3.ensures) (is-none c.args.new.lines.len c.if-is_empty-4.ensures)) (c.alone-then-is_empty-4.ensures.exact c.args.text.now)

pub returns-then-is_empty-4-clause-lies : goal.returns-then-is_empty-4-clause-lies
returns-then-is_empty-4-clause-lies c = lies-same c.args.text.now c.args.old.lines.items c.alone-then-is_empty-4.result c.alone-then-is_empty-4.ensures.same c.requires.olds_within

pub returns-then-is_empty-4-clause-few : goal.returns-then-is_empty-4-clause-few
returns-then-is_empty-4-clause-few c = few-same _ c.args.old.lines.items c.alone-then-is_empty-4.result c.alone-then-is_empty-4.ensures.same (omega (arith, c.args.old.lines.ok.0))

pub returns-clause-exact : goal.returns-clause-exact
returns-clause-exact c = reads-as c.args.text.now c.merge_parts.result _ _ c.merge_parts.ensures.exact (joined-merged c.args.text.now c.args.old c.args.new _ _ c.deref.ensures.value c.deref-2.ensures.value (is-some c.args.old.lines.len c.if-is_empty-3.ensures) (is-some c.args.new.lines.len c.if-is_empty-4.ensures))

pub returns-clause-few : goal.returns-clause-few
returns-clause-few c = few-as _ _ c.merge_parts.result c.merge_parts.ensures.few (omega (arith, c.deref.ensures.len, c.deref-2.ensures.len))
