use Rattle.std.proofs.Common.{ℕ, List, Result, [], ◌∷◌, length, suc, refl, sym, ap, subst, ◌∙◌}
use Rattle.outside.specs.Files.{Files}
use Rattle.outside.specs.Quiet.{Effect}
use Rattle.apply_task.specs.declared.fault.RunFault.{RunFault}
use Rattle.patch_run.specs.Applied.{Receipt}
use Rattle.patch_run.specs.Doing.{QuietAfter}
use Rattle.cli_run_answers.specs.declared.why.Why.TheVariants.{Done, Rejected}
use Rattle.series_stack.specs.Commands.{Ending as endings}
use Rattle.series_stack.specs.Outcomes.{ending_text, raising, tally}
use Rattle.series_stack.specs.Saves.{entries_of}
use Rattle.series_stack.specs.Stack.{save_name}
use Rattle.stack_state.specs.Undoing.{undone_by}
use Rattle.cli_stack.specs.Stages.{HasCut, ended, why_by}
use Rattle.cli_stack.specs.States.{stage_of}
use Rattle.cli_stack.proofs.Coming.{comes_by, comes_is, comes_why}
use Rattle.cli_stack.proofs.Running.{ended-bad, ended-whole}
use Rattle.cli_stack.proofs.closing.close.Goals as goal

pub returns-then-is_whole : goal.returns-then-is_whole
returns-then-is_whole g c =
    let s = c.args.state.now.stack in
    let undone : Files → List Effect = λ f. undone_by (save_name (suc s.applied)) (entries_of c.args.save.now) f in record {
      closes = λ a. rw c.in-Ok.is (ended-whole (stage_of c.args.state.now c.args.name.now) undone c.in-Ok.applied.is_bad (sym c.is_whole.ensures ∙ c.if-is_whole.true)
          (comes_is (λ f. ended Done (raising s.applied ∷ []) (tally (suc s.applied) (length s.patches.items)))
          (λ f told. ap (λ (m : ℕ). ended Done (raising s.applied ∷ []) (tally (suc s.applied) m)) (sym c.count-patches.ensures))
          (comes_why c.done.result (why_by Done c.keep.result) c.done.ensures
          (comes_by c.keep.result Done refl refl tt c.keep.ensures.steps refl))));
      rest = c.keep.ensures.rest;
    }

pub returns-else-is_whole : goal.returns-else-is_whole
returns-else-is_whole g c =
    let s = c.args.state.now.stack in
    let undone : Files → List Effect = λ f. undone_by (save_name (suc s.applied)) (entries_of c.args.save.now) f in record {
      closes = λ a. rw c.in-Ok.is (ended-bad (stage_of c.args.state.now c.args.name.now) undone c.in-Ok.applied.is_bad (sym c.is_whole.ensures ∙ c.if-is_whole.false)
          (comes_is (λ f. ended Rejected (undone f) (ending_text endings.Rejected c.args.name.now s.applied (length s.patches.items)))
          (λ f told. ap (λ (m : ℕ). ended Rejected (undone f) (ending_text endings.Rejected c.args.name.now s.applied m)) (sym c.count-patches.ensures))
          (comes_why c.rejected.result (why_by Rejected c.reject.result) c.rejected.ensures
          (comes_by c.reject.result Rejected refl refl tt c.reject.ensures.steps refl))));
      rest = c.reject.ensures.rest;
    }

pub returns-in-Err : goal.returns-in-Err
returns-in-Err g c = record {
  closes = λ a. rw c.in-Err.is (c.close_cut.ensures a (g.O.Sink.view c.args.out.now) (stage_of c.args.state.now c.args.name.now) refl);
  rest = g.met.O.Sink.rest_none c.args.out.now;
}

pub count-patches-requires : goal.count-patches-requires
count-patches-requires g c = c.requires.few

pub keep-requires-clause-quiet : goal.keep-requires-clause-quiet
keep-requires-clause-quiet g c = subst (λ (r : Result Receipt RunFault). QuietAfter r (g.T.Tree.view c.args.tree.now)) c.in-Ok.is c.requires.quiet

pub keep-requires-clause-few : goal.keep-requires-clause-few
keep-requires-clause-few g c = c.requires.applied

pub reject-requires-clause-save : goal.reject-requires-clause-save
reject-requires-clause-save g c = c.requires.save

pub reject-requires-clause-quiet : goal.reject-requires-clause-quiet
reject-requires-clause-quiet g c = subst (λ (r : Result Receipt RunFault). QuietAfter r (g.T.Tree.view c.args.tree.now)) c.in-Ok.is c.requires.quiet

pub reject-requires-clause-few : goal.reject-requires-clause-few
reject-requires-clause-few g c = c.requires.applied

pub close_cut-requires-clause-applied : goal.close_cut-requires-clause-applied
close_cut-requires-clause-applied g c = c.requires.applied

pub close_cut-requires-clause-save : goal.close_cut-requires-clause-save
close_cut-requires-clause-save g c = c.requires.save

pub close_cut-requires-clause-quiet : goal.close_cut-requires-clause-quiet
close_cut-requires-clause-quiet g c = subst (λ (r : Result Receipt RunFault). QuietAfter r (g.T.Tree.view c.args.tree.now)) c.in-Err.is c.requires.quiet

pub close_cut-requires-clause-cut : goal.close_cut-requires-clause-cut
close_cut-requires-clause-cut g c = subst (λ (r : Result Receipt RunFault). HasCut r) c.in-Err.is c.requires.cut
