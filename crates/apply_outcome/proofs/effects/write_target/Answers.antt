use Rattle.std.proofs.Common.{◌&&◌, ◌||◌, not, is_some, sym, length, ◌∙◌, ap, refl}
use Rattle.std.proofs.lemmas.Result.{IfOk-weaker}
use Rattle.std.specs.FinMap.{get}
use Rattle.outside.specs.Files.{bytes_at}
use Rattle.apply_task.specs.declared.fault.RunFault.TheVariants.{Tree}
use Rattle.apply_task.proofs.Making.{makes_is, untouched_works}
use Rattle.apply_task.proofs.Placing.{put_count}
use Rattle.apply_outcome.specs.Outcome.{is_removal, written_effects}
use Rattle.apply_outcome.specs.ContextView.{plain_context}
use Rattle.apply_outcome.proofs.Moving.{makes_after, makes_none, goes_after, kept_few, tidy_after, two_four}
use Rattle.apply_outcome.proofs.Writing.{kept_as, written_as, put_as, moved_as, moved_stays}
use Rattle.apply_outcome.proofs.effects.write_target.Goals as goal

pub returns-then-not-is_written : goal.returns-then-not-is_written
returns-then-not-is_written g c = record {
  wrote = (
      IfOk-weaker c.keep_old.result _ _
      (λ made is f x told side session. is ∙ sym (ap (λ b. b && (not (is_removal (plain_context c.args.turn.now) x) || is_some (get f c.args.target.now.name))) (sym (c.is_written.ensures x side session) ∙ c.if-not-is_written.true)))
      c.keep_old.ensures.wrote);
  count = (
      let due = c.is_old_kept-kept.result in
      IfOk-weaker c.keep_old.result _ _
      (λ made is f x told side session. is ∙ sym (ap length (kept_as (plain_context c.args.turn.now) f c.args.source.now c.args.target.now x due (sym (c.is_written.ensures x side session) ∙ c.if-not-is_written.true) (c.is_old_kept-kept.ensures.kept x.verdicts session.failed session.inexact))
      ∙ put_count due c.args.target.now.backup (bytes_at f c.args.target.now.name)))
      c.keep_old.ensures.count);
  makes = λ x side session holds.
      makes_is c.keep_old.result _ c.keep_old.ensures.makes
      (λ f told. kept_as (plain_context c.args.turn.now) f c.args.source.now c.args.target.now x c.is_old_kept-kept.result (sym (c.is_written.ensures x side session) ∙ c.if-not-is_written.true) (c.is_old_kept-kept.ensures.kept x.verdicts session.failed session.inexact));
  tidy = c.keep_old.ensures.tidy;
  gone = c.keep_old.ensures.gone;
  goes = c.keep_old.ensures.goes;
  few = IfOk-weaker c.keep_old.result _ _ (λ made is. kept_few c.is_old_kept-kept.result made.effects is) c.keep_old.ensures.count;
}

pub returns-in-Err : goal.returns-in-Err
returns-in-Err g c = record {
  makes = λ x side session holds. makes_none c.requires.named c.is_moving.ensures.untouched c.requires.quiet (λ f. written_effects (plain_context c.args.turn.now) f c.args.source.now c.args.target.now x) Tree;
  gone = tt;
  wrote = tt;
  count = tt;
  few = tt;
  tidy = tt;
  goes = record { passes = c.is_moving.ensures.untouched.passes; cause = (refl, c.in-Err.ensures.cause); quiet = tt };
}

pub returns-then-not-moving : goal.returns-then-not-moving
returns-then-not-moving g c = record {
  makes = λ x side session holds.
      makes_after c.requires.named c.is_moving.ensures.untouched c.requires.quiet (λ f. written_effects (plain_context c.args.turn.now) f c.args.source.now c.args.target.now x) c.write_placed.result c.write_placed.ensures.goes.passes
      (makes_is c.write_placed.result _ (c.write_placed.ensures.makes x.output (λ f now. holds f (sym c.is_moving.ensures.untouched.told ∙ now)))
      (λ f told. written_as (plain_context c.args.turn.now) f c.args.source.now c.args.target.now x (sym (c.is_written.ensures x side session) ∙ c.if-not-is_written.false) ∙ put_as (plain_context c.args.turn.now) f c.args.source.now c.args.target.now x c.is_backup_due-due.result c.is_backup_due-due.result (c.is_backup_due-due.ensures.due x.verdicts session.inexact)
      c.is_removal-removal.result (sym (c.in-Ok.ensures.moving f (sym c.is_moving.ensures.untouched.told ∙ told)) ∙ c.if-not-moving.true) (c.is_removal-removal.ensures x side session.empty)));
  wrote = (
      IfOk-weaker c.write_placed.result _ _
      (λ made is f x told side session. is f (c.is_moving.ensures.untouched.told ∙ told) ∙ ap (λ b. not b || is_some (get f c.args.target.now.name)) (c.is_removal-removal.ensures x side session.empty) ∙ sym (ap (λ b. b && (not (is_removal (plain_context c.args.turn.now) x) || is_some (get f c.args.target.now.name))) (sym (c.is_written.ensures x side session) ∙ c.if-not-is_written.false)))
      c.write_placed.ensures.wrote);
  count = (
      IfOk-weaker c.write_placed.result _ _
      (λ made is f x told side session. is f x.output (c.is_moving.ensures.untouched.told ∙ told)
      ∙ ap length (sym (written_as (plain_context c.args.turn.now) f c.args.source.now c.args.target.now x (sym (c.is_written.ensures x side session) ∙ c.if-not-is_written.false) ∙ put_as (plain_context c.args.turn.now) f c.args.source.now c.args.target.now x c.is_backup_due-due.result c.is_backup_due-due.result (c.is_backup_due-due.ensures.due x.verdicts session.inexact)
      c.is_removal-removal.result (sym (c.in-Ok.ensures.moving f told) ∙ c.if-not-moving.true) (c.is_removal-removal.ensures x side session.empty))))
      c.write_placed.ensures.count);
  few = IfOk-weaker c.write_placed.result _ _ (λ made few. two_four made.effects few) c.write_placed.ensures.few;
  goes = goes_after c.is_moving.ensures.untouched c.write_placed.result c.write_placed.ensures.goes;
  gone = c.write_placed.ensures.gone;
  tidy = tidy_after c.is_moving.ensures.untouched c.write_placed.result c.write_placed.ensures.goes.passes c.write_placed.ensures.tidy;
}

pub returns : goal.returns
returns g c = record {
  makes = λ x side session holds.
      makes_after c.requires.named c.is_moving.ensures.untouched c.requires.quiet (λ f. written_effects (plain_context c.args.turn.now) f c.args.source.now c.args.target.now x) c.write_moved.result c.write_moved.ensures.goes.passes
      (makes_is c.write_moved.result _ (c.write_moved.ensures.makes x.output (λ f now. holds f (sym c.is_moving.ensures.untouched.told ∙ now)))
      (λ f told. written_as (plain_context c.args.turn.now) f c.args.source.now c.args.target.now x (sym (c.is_written.ensures x side session) ∙ c.if-not-is_written.false) ∙ moved_as (plain_context c.args.turn.now) f c.args.source.now c.args.target.now x c.is_backup_due-due.result c.is_backup_due-source_due.result (c.is_backup_due-due.ensures.due x.verdicts session.inexact)
      (sym (c.in-Ok.ensures.moving f (sym c.is_moving.ensures.untouched.told ∙ told)) ∙ c.if-not-moving.false) (c.is_backup_due-source_due.ensures.due x.verdicts session.inexact)));
  wrote = (
      IfOk-weaker c.write_moved.result _ _
      (λ made is f x told side session. is ∙ sym (ap (λ b. not b || is_some (get f c.args.target.now.name)) (moved_stays (plain_context c.args.turn.now) x (c.in-Ok.ensures.renames c.if-not-moving.false))) ∙ sym (ap (λ b. b && (not (is_removal (plain_context c.args.turn.now) x) || is_some (get f c.args.target.now.name))) (sym (c.is_written.ensures x side session) ∙ c.if-not-is_written.false)))
      c.write_moved.ensures.wrote);
  count = (
      IfOk-weaker c.write_moved.result _ _
      (λ made is f x told side session. is f x.output (c.is_moving.ensures.untouched.told ∙ told)
      ∙ ap length (sym (written_as (plain_context c.args.turn.now) f c.args.source.now c.args.target.now x (sym (c.is_written.ensures x side session) ∙ c.if-not-is_written.false) ∙ moved_as (plain_context c.args.turn.now) f c.args.source.now c.args.target.now x c.is_backup_due-due.result c.is_backup_due-source_due.result (c.is_backup_due-due.ensures.due x.verdicts session.inexact)
      (sym (c.in-Ok.ensures.moving f told) ∙ c.if-not-moving.false) (c.is_backup_due-source_due.ensures.due x.verdicts session.inexact))))
      c.write_moved.ensures.count);
  few = c.write_moved.ensures.few;
  goes = goes_after c.is_moving.ensures.untouched c.write_moved.result c.write_moved.ensures.goes;
  gone = c.write_moved.ensures.gone;
  tidy = tidy_after c.is_moving.ensures.untouched c.write_moved.result c.write_moved.ensures.goes.passes c.write_moved.ensures.tidy;
}

pub is_backup_due-due-requires : goal.is_backup_due-due-requires
is_backup_due-due-requires g c = record { turn = c.requires.turn }

pub is_backup_due-source_due-requires : goal.is_backup_due-source_due-requires
is_backup_due-source_due-requires g c = record { turn = c.requires.turn }

pub is_removal-removal-requires : goal.is_removal-removal-requires
is_removal-removal-requires g c = record { turn = c.requires.turn }

pub write_placed-requires-clause-temp : goal.write_placed-requires-clause-temp
write_placed-requires-clause-temp g c = c.requires.temp

pub write_placed-requires-clause-named : goal.write_placed-requires-clause-named
write_placed-requires-clause-named g c = c.requires.named

pub write_placed-requires-clause-quiet : goal.write_placed-requires-clause-quiet
write_placed-requires-clause-quiet g c = (untouched_works c.args.target.now.temp c.is_moving.ensures.untouched c.requires.quiet).quiet

pub write_placed-requires-clause-there : goal.write_placed-requires-clause-there
write_placed-requires-clause-there g c = λ f now. c.requires.there f (sym c.is_moving.ensures.untouched.told ∙ now)

pub write_placed-requires-clause-apart : goal.write_placed-requires-clause-apart
write_placed-requires-clause-apart g c = c.is_backup_due-due.ensures.apart

pub write_moved-requires-clause-temp : goal.write_moved-requires-clause-temp
write_moved-requires-clause-temp g c = c.requires.temp

pub write_moved-requires-clause-named : goal.write_moved-requires-clause-named
write_moved-requires-clause-named g c = c.requires.named

pub write_moved-requires-clause-source : goal.write_moved-requires-clause-source
write_moved-requires-clause-source g c = c.requires.source

pub write_moved-requires-clause-quiet : goal.write_moved-requires-clause-quiet
write_moved-requires-clause-quiet g c = (untouched_works c.args.target.now.temp c.is_moving.ensures.untouched c.requires.quiet).quiet

pub write_moved-requires-clause-there : goal.write_moved-requires-clause-there
write_moved-requires-clause-there g c = λ f now. c.requires.there f (sym c.is_moving.ensures.untouched.told ∙ now)

pub write_moved-requires-clause-moved : goal.write_moved-requires-clause-moved
write_moved-requires-clause-moved g c = c.in-Ok.ensures.apart c.if-not-moving.false

pub write_moved-requires-clause-source_there : goal.write_moved-requires-clause-source_there
write_moved-requires-clause-source_there g c = c.in-Ok.ensures.there c.if-not-moving.false

pub write_moved-requires-clause-apart : goal.write_moved-requires-clause-apart
write_moved-requires-clause-apart g c due = (c.is_backup_due-due.ensures.apart due, c.is_backup_due-due.ensures.other due (c.in-Ok.ensures.renames c.if-not-moving.false))

pub write_moved-requires-clause-source_apart : goal.write_moved-requires-clause-source_apart
write_moved-requires-clause-source_apart g c due = (c.is_backup_due-source_due.ensures.other due (c.in-Ok.ensures.renames c.if-not-moving.false), c.is_backup_due-source_due.ensures.apart due)

pub keep_old-requires-clause-there : goal.keep_old-requires-clause-there
keep_old-requires-clause-there g c = c.requires.there

pub keep_old-requires-clause-temp : goal.keep_old-requires-clause-temp
keep_old-requires-clause-temp g c = c.requires.temp

pub keep_old-requires-clause-named : goal.keep_old-requires-clause-named
keep_old-requires-clause-named g c = c.requires.named

pub keep_old-requires-clause-quiet : goal.keep_old-requires-clause-quiet
keep_old-requires-clause-quiet g c = c.requires.quiet

pub keep_old-requires-clause-apart : goal.keep_old-requires-clause-apart
keep_old-requires-clause-apart g c = c.is_old_kept-kept.ensures.apart

pub is_old_kept-kept-requires : goal.is_old_kept-kept-requires
is_old_kept-kept-requires g c = record { turn = c.requires.turn }

pub is_written-requires : goal.is_written-requires
is_written-requires g c = record { turn = c.requires.turn }
