use Rattle.outside.proofs.Exits.{if_ok_none}
use Rattle.std.proofs.Common.{◌+◌, ◌≤◌, arith}
use Rattle.std.specs.Prelude.{All, vec_len}
use Rattle.hunk_core.specs.Turned.{LiesIn}
use Rattle.std.proofs.lemmas.Result.{err_from_is_err_and}
use Rattle.context_form.specs.Hunks.{part_over}
use Rattle.context_form.proofs.StepLemmas.{start-fits, reads-at, some-at, whole-second, whole-apart}
use Rattle.context_form.proofs.HalvesAgain.{whole-step}
use Rattle.context_form.proofs.hunks.hunk_from.Goals as goal

pub has_size-requires : goal.has_size-requires
has_size-requires c = c.requires.old_fits

pub returns-in_err-has_size-clause-few : goal.returns-in_err-has_size-clause-few
returns-in_err-has_size-clause-few c = if_ok_none _ _ c.from_residual.result c.from_residual.ensures.1

pub returns-in_err-has_size-clause-lawful : goal.returns-in_err-has_size-clause-lawful
returns-in_err-has_size-clause-lawful c = if_ok_none _ _ c.from_residual.result c.from_residual.ensures.1

pub has_size-requires-2 : goal.has_size-requires-2
has_size-requires-2 c = c.requires.new_fits

pub returns-in_err-has_size-2-clause-few : goal.returns-in_err-has_size-2-clause-few
returns-in_err-has_size-2-clause-few c = if_ok_none _ _ c.from_residual-in_err-has_size-2.result c.from_residual-in_err-has_size-2.ensures.1

pub returns-in_err-has_size-2-clause-lawful : goal.returns-in_err-has_size-2-clause-lawful
returns-in_err-has_size-2-clause-lawful c = if_ok_none _ _ c.from_residual-in_err-has_size-2.result c.from_residual-in_err-has_size-2.ensures.1

pub joined-requires-clause-olds_within : goal.joined-requires-clause-olds_within
joined-requires-clause-olds_within c = c.requires.old_within

pub joined-requires-clause-news_within : goal.joined-requires-clause-news_within
joined-requires-clause-news_within c = c.requires.new_within

pub joined-requires-clause-few : goal.joined-requires-clause-few
joined-requires-clause-few c = c.requires.few

pub returns-in_err-joined-clause-few : goal.returns-in_err-joined-clause-few
returns-in_err-joined-clause-few c = if_ok_none _ _ c.from_residual-in_err-joined.result c.from_residual-in_err-joined.ensures.1

pub returns-in_err-joined-clause-lawful : goal.returns-in_err-joined-clause-lawful
returns-in_err-joined-clause-lawful c = if_ok_none _ _ c.from_residual-in_err-joined.result c.from_residual-in_err-joined.ensures.1

pub returns-in_err-has_size-2-clause-exact : goal.returns-in_err-has_size-2-clause-exact
returns-in_err-has_size-2-clause-exact c =
    let p = err_from_is_err_and c.from_residual-in_err-has_size-2.result c.from_residual-in_err-has_size-2.ensures.1 in
    rw (p.1, p.2) (whole-second c.in_err-has_size-2.field-0.0 (part_over c.args.text.now c.args.old) (part_over c.args.text.now c.args.new) (c.in_ok-has_size.ensures c.args.text.now) (c.in_err-has_size-2.ensures c.args.text.now))

pub overflow_cast-old_start : goal.overflow_cast-old_start
overflow_cast-old_start c = omega (arith, start-fits c.args.old.stated c.requires.old_fits)

pub overflow_cast-new_start : goal.overflow_cast-new_start
overflow_cast-new_start c = omega (arith, start-fits c.args.new.stated c.requires.new_fits)

pub returns-in-None-clause-exact : goal.returns-in-None-clause-exact
returns-in-None-clause-exact c = rw c.bad.ensures (whole-apart (part_over c.args.text.now c.args.old) (part_over c.args.text.now c.args.new) (c.in_ok-has_size.ensures c.args.text.now) (c.in_ok-has_size-2.ensures c.args.text.now) (reads-at c.args.text.now c.in_ok-joined.field-0 _ _ c.in-None.is c.in_ok-joined.ensures.exact))

pub returns-in-Some-clause-exact : goal.returns-in-Some-clause-exact
returns-in-Some-clause-exact c = whole-step (part_over c.args.text.now c.args.old) (part_over c.args.text.now c.args.new) _ (c.in_ok-has_size.ensures c.args.text.now) (c.in_ok-has_size-2.ensures c.args.text.now) (reads-at c.args.text.now c.in_ok-joined.field-0 _ _ c.in-Some.is c.in_ok-joined.ensures.exact)

pub returns-in-Some-clause-lawful : goal.returns-in-Some-clause-lawful
returns-in-Some-clause-lawful c = record { few = omega (arith, some-at (λ v. vec_len v ≤ vec_len c.args.old.body.lines + vec_len c.args.new.body.lines) c.in_ok-joined.field-0 _ c.in-Some.is c.in_ok-joined.ensures.few, c.in-Some.body.ok.0, c.requires.few); within = some-at (λ v. All (λ l. LiesIn c.args.text.now l.span) v.items) c.in_ok-joined.field-0 _ c.in-Some.is c.in_ok-joined.ensures.lies }

pub returns-in-Some-clause-few : goal.returns-in-Some-clause-few
returns-in-Some-clause-few c = some-at (λ v. vec_len v ≤ vec_len c.args.old.body.lines + vec_len c.args.new.body.lines) c.in_ok-joined.field-0 _ c.in-Some.is c.in_ok-joined.ensures.few
