use Rattle.std.proofs.Common.{refl, sym, ◌∙◌, subst}
use Rattle.outside.specs.TreeView.{told_on}
use Rattle.outside.specs.Calls.{IsUntouched, untouched_none}
use Rattle.outside.proofs.Quiet.{works_none}
use Rattle.outside.proofs.Views.{rises_then}
use Rattle.line_store.proofs.StoreLemmas.{keeps-more}
use Rattle.apply_task.proofs.Tidy.{tidy_none, unless_held}
use Rattle.apply_start.proofs.Trying.{line_cause}
use Rattle.patch_run.proofs.Barred.{works_untouched, cause_behind}
use Rattle.patch_run.proofs.trying.try_free.Goals as goal

pub returns-in-Err : goal.returns-in-Err
returns-in-Err g c =
    let u = g.T.Tree.view c.args.tree.now in
    record {
      works = works_none u c.args.target.now.temp c.requires.quiet;
      keeps = c.first_end.ensures.keeps;
      cause = line_cause c.in-Err.fault u u (g.P.LineStore.seen c.args.plan.now) (g.P.LineStore.seen c.first_end.new.plan) c.in-Err.ensures.cause;
      dry = λ dry. untouched_none u;
      begun = tt;
      there = tt;
      holds = tt;
      session = tt;
      end = tt;
      verdicts = tt;
      tried = tt;
      rows = refl;
      tidy = unless_held c.in-Err.fault (tidy_none u);
      free = tt;
    }

pub returns-in-Err-try_hunks : goal.returns-in-Err-try_hunks
returns-in-Err-try_hunks g c =
    let u = g.T.Tree.view c.args.tree.now in
    record {
      works = c.try_hunks.ensures.works;
      keeps = keeps-more _ _ _ c.first_end.ensures.keeps c.try_hunks.ensures.keeps;
      cause = cause_behind c.in-Err-try_hunks.fault u (g.T.Tree.view c.try_hunks.new.tree) (g.P.LineStore.seen c.args.plan.now) (g.P.LineStore.seen c.first_end.new.plan) (g.P.LineStore.seen c.try_hunks.new.plan) c.first_end.ensures.keeps c.in-Err-try_hunks.ensures.cause;
      dry = λ dry. subst (λ s. IsUntouched u (g.T.Tree.view s)) (sym (c.try_hunks.ensures.dry dry)) (untouched_none u);
      begun = tt;
      there = tt;
      holds = tt;
      session = tt;
      end = tt;
      verdicts = tt;
      tried = tt;
      rows = c.try_hunks.ensures.rows;
      tidy = c.in-Err-try_hunks.ensures.tidy;
      free = tt;
    }

pub returns-in-Ok-obstacle_behind : goal.returns-in-Ok-obstacle_behind
returns-in-Ok-obstacle_behind g c =
    let same = c.obstacle_behind.ensures.untouched in
    let tries = c.in-Ok-try_hunks.ensures in
    let kept = c.first_end.ensures.keeps in
    record {
      works = works_untouched c.try_hunks.ensures.works same;
      keeps = keeps-more _ _ _ kept c.try_hunks.ensures.keeps;
      cause = tt;
      dry = λ dry. subst (λ s. IsUntouched (g.T.Tree.view s) (g.T.Tree.view c.obstacle_behind.new.tree)) (c.try_hunks.ensures.dry dry) same;
      begun = tries.begun;
      there = λ wet f told. tries.there wet f (sym same.told ∙ told);
      holds = λ lines plan wet f told. tries.holds lines (kept.told ∙ plan) wet f (sym same.told ∙ told);
      session = λ lines plan. tries.session lines (kept.told ∙ plan);
      end = c.in-Ok.ensures.value;
      verdicts = λ lines plan. tries.verdicts lines (kept.told ∙ plan);
      tried = tries.tried;
      rows = c.try_hunks.ensures.rows;
      tidy = tt;
      free = λ f told. let mid = told_on f c.try_hunks.ensures.works.passes told in c.in-Ok-obstacle_behind.ensures.free mid.0 mid.1;
    }

pub returns-in-Err-obstacle_behind : goal.returns-in-Err-obstacle_behind
returns-in-Err-obstacle_behind g c =
    let same = c.obstacle_behind.ensures.untouched in
    record {
      works = works_untouched c.try_hunks.ensures.works same;
      keeps = keeps-more _ _ _ c.first_end.ensures.keeps c.try_hunks.ensures.keeps;
      cause = rises_then (g.T.Tree.view c.args.tree.now) (g.T.Tree.view c.try_hunks.new.tree) (g.T.Tree.view c.obstacle_behind.new.tree) c.try_hunks.ensures.works.passes c.in-Err-obstacle_behind.ensures.cause;
      dry = λ dry. subst (λ s. IsUntouched (g.T.Tree.view s) (g.T.Tree.view c.obstacle_behind.new.tree)) (c.try_hunks.ensures.dry dry) same;
      begun = tt;
      there = tt;
      holds = tt;
      session = tt;
      end = tt;
      verdicts = tt;
      tried = tt;
      rows = c.try_hunks.ensures.rows;
      tidy = tt;
      free = tt;
    }

pub try_hunks-requires-clause-task : goal.try_hunks-requires-clause-task
try_hunks-requires-clause-task g c = c.requires.turn.task

pub try_hunks-requires-clause-temp : goal.try_hunks-requires-clause-temp
try_hunks-requires-clause-temp g c = c.requires.named.temps.own
