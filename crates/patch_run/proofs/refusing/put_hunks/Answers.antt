use Rattle.outside.specs.TreeView.{passes_none}
use Rattle.outside.specs.Calls.{untouched_none}
use Rattle.patch_options.specs.PlainJob.{plain_options}
use Rattle.apply_task.proofs.Tidy.{tidy_none}
use Rattle.apply_outcome.specs.Outcome.{rejects_text}
use Rattle.apply_outcome.specs.ContextView.{plain_context}
use Rattle.apply_outcome.proofs.Writing.{rejected_are_hunks}
use Rattle.std.proofs.lemmas.Bool.{false≢true}
use Rattle.std.proofs.lemmas.Result.{on_ok_weaker}
use Rattle.std.proofs.Common.{sym, ◌∙◌}
use Rattle.patch_run.proofs.Refused.{put_tidy, saves_rejected}
use Rattle.patch_run.proofs.refusing.put_hunks.Goals as goal

pub returns-then-not-saved : goal.returns-then-not-saved
returns-then-not-saved g c = record {
  run = record { passes = passes_none (g.T.Tree.view c.args.tree.now); cause = λ err. absurd (false≢true err) };
  put = λ is. absurd (false≢true (sym c.if-not-saved.true ∙ is));
  quiet = c.requires.quiet;
  tidy = tidy_none (g.T.Tree.view c.args.tree.now);
  unsaved = λ no. untouched_none (g.T.Tree.view c.args.tree.now);
}

pub returns : goal.returns
returns g c = record {
  run = c.swap_rejects.ensures.run;
  put = on_ok_weaker c.swap_rejects.result (λ puts is. puts) c.swap_rejects.ensures.ok;
  quiet = c.swap_rejects.ensures.quiet;
  tidy = put_tidy (g.T.Tree.view c.args.tree.now) (g.T.Tree.view c.swap_rejects.new.tree) c.args.target.now.reject_temp c.args.target.now.reject (rejects_text (plain_context c.args.turn.now) c.args.target.now c.args.side c.args.verdicts.now) c.requires.named.lasting.reject c.swap_rejects.result c.swap_rejects.ensures.ok;
  unsaved = λ no. absurd (false≢true (sym no ∙ c.if-not-saved.false));
}

pub swap_rejects-requires-clause-hunks : goal.swap_rejects-requires-clause-hunks
swap_rejects-requires-clause-hunks g c =
    rejected_are_hunks (plain_options c.args.turn.now.task.options.now) c.args.turn.now.task.set.now.text c.args.turn.now.task.patch.now.change (saves_rejected (plain_context c.args.turn.now) (c.requires.saves c.if-not-saved.false))

pub swap_rejects-requires-clause-rows : goal.swap_rejects-requires-clause-rows
swap_rejects-requires-clause-rows g c = c.requires.rows

pub swap_rejects-requires-clause-turn : goal.swap_rejects-requires-clause-turn
swap_rejects-requires-clause-turn g c = c.requires.turn

pub swap_rejects-requires-clause-named : goal.swap_rejects-requires-clause-named
swap_rejects-requires-clause-named g c = c.requires.named

pub swap_rejects-requires-clause-quiet : goal.swap_rejects-requires-clause-quiet
swap_rejects-requires-clause-quiet g c = c.requires.quiet
