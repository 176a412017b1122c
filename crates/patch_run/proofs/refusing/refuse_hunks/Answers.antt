use Rattle.std.proofs.Common.{◌≡◌, Bool, true, false, Some, IfOk, sym, ◌∙◌, subst}
use Rattle.std.proofs.lemmas.Result.{IfOk-weaker, IfErr-weaker, on_ok_weaker}
use Rattle.outside.specs.Files.{Files}
use Rattle.outside.specs.TreeView.{passes_both}
use Rattle.outside.specs.SinkView.{sink_passes_none, Receives}
use Rattle.outside.specs.Calls.{IsUntouched, untouched_both}
use Rattle.outside.proofs.Views.{untouched_quiet}
use Rattle.read_file_patch.specs.declared.derived.Target.{Target}
use Rattle.apply_task.proofs.Tidy.{tidy_both, untouched_tidy}
use Rattle.apply_outcome.specs.ContextView.{plain_context}
use Rattle.patch_run.specs.Refused.{refused_said, saves_refused, PutsRejects}
use Rattle.patch_run.proofs.Refused.{unsaved_dry, put_was, end_then}
use Rattle.patch_run.proofs.refusing.refuse_hunks.Goals as goal

pub returns-in-Ok : goal.returns-in-Ok
returns-in-Ok g c =
    let t = plain_context c.args.turn.now in
    let saved = c.in-Ok.saved in
    let r = c.save_hunks.result in
    let u = g.T.Tree.view c.args.tree.now in
    let v = g.T.Tree.view c.takes_rejects.new.tree in
    let w = g.T.Tree.view c.save_hunks.new.tree in
    let d = g.O.Sink.view c.args.out.now in
    let e = g.O.Sink.view c.save_hunks.new.out in
    let same = c.takes_rejects.ensures.untouched in
    let saves = c.save_hunks.ensures in
    record {
      tree = passes_both same.passes saves.tree;
      sink = saves.sink;
      cause = IfErr-weaker r _ _ (λ fault is. end_then u v w d e fault same.passes is) saves.cause;
      said = subst (λ (x : Target). IfOk r (λ was. Receives d e (refused_said t x was))) c.written-target.ensures.target saves.said;
      put = (
          subst (λ (x : Target). IfOk r (λ was. was ≡ true → PutsRejects u w t x c.args.side c.args.verdicts.now)) c.written-target.ensures.target
          (IfOk-weaker r (λ (was : Bool). was ≡ true → PutsRejects v w t c.written-target.result.now c.args.side c.args.verdicts.now) (λ (was : Bool). was ≡ true → PutsRejects u w t c.written-target.result.now c.args.side c.args.verdicts.now)
          (λ was puts yes f told. puts yes f (same.told ∙ told)) (put_was _ saved r saves.was saves.put)));
      due = IfOk-weaker r (λ (was : Bool). was ≡ saved) (λ (was : Bool). (f : Files) → u.told ≡ Some f → was ≡ saves_refused t) (λ was is f told. is ∙ c.in-Ok.ensures.due f told) saves.was;
      may = IfOk-weaker r (λ (was : Bool). was ≡ saved) (λ (was : Bool). was ≡ true → saves_refused t ≡ true) (λ was is put. c.in-Ok.ensures.may (sym is ∙ put)) saves.was;
      unsaved = IfOk-weaker r (λ (was : Bool). was ≡ saved) (λ (was : Bool). was ≡ false → IsUntouched u w) (λ was is none. untouched_both same (saves.unsaved (sym is ∙ none))) saves.was;
      quiet = saves.quiet;
      tidy = on_ok_weaker r (λ tidy. tidy_both u v w same.passes (untouched_tidy same) tidy) saves.tidy;
      rest = saves.rest;
      dry = λ dry. untouched_both same (saves.unsaved (unsaved_dry t saved dry c.in-Ok.ensures.may));
    }

pub returns-in-Err : goal.returns-in-Err
returns-in-Err g c = record {
  tree = c.takes_rejects.ensures.untouched.passes;
  sink = sink_passes_none (g.O.Sink.view c.args.out.now);
  cause = c.in-Err.ensures.cause;
  said = tt;
  put = tt;
  due = tt;
  may = tt;
  unsaved = tt;
  quiet = tt;
  tidy = tt;
  rest = g.met.O.Sink.rest_none _;
  dry = λ dry. c.takes_rejects.ensures.untouched;
}

pub written-target-requires-clause-task : goal.written-target-requires-clause-task
written-target-requires-clause-task g c = c.requires.turn.task

pub written-target-requires-clause-within : goal.written-target-requires-clause-within
written-target-requires-clause-within g c = c.requires.within

pub takes_rejects-requires : goal.takes_rejects-requires
takes_rejects-requires g c = record { turn = c.requires.turn }

pub save_hunks-requires-clause-turn : goal.save_hunks-requires-clause-turn
save_hunks-requires-clause-turn g c = c.requires.turn

pub save_hunks-requires-clause-named : goal.save_hunks-requires-clause-named
save_hunks-requires-clause-named g c = c.written-target.ensures.named

pub save_hunks-requires-clause-rows : goal.save_hunks-requires-clause-rows
save_hunks-requires-clause-rows g c = c.requires.rows

pub save_hunks-requires-clause-saves : goal.save_hunks-requires-clause-saves
save_hunks-requires-clause-saves g c = c.in-Ok.ensures.may

pub save_hunks-requires-clause-quiet : goal.save_hunks-requires-clause-quiet
save_hunks-requires-clause-quiet g c = untouched_quiet c.takes_rejects.ensures.untouched c.requires.quiet
