use Rattle.std.proofs.Common.{◌≡◌, ◌∙◌, ◌<◌, ◌≤◌, true, refl, sym, ap, subst, arith}
use Rattle.outside.specs.Calls.{untouched_both}
use Rattle.outside.specs.Files.{bytes_at}
use Rattle.outside.specs.TreeView.{passes_both}
use Rattle.outside.proofs.Exits.{on_err_told}
use Rattle.plan_a.specs.Auto.{is_within}
use Rattle.plan_a.specs.PlanSeen.{plan_seen}
use Rattle.plan_a.proofs.Faults.{open-cause-more}
use Rattle.plan_a.proofs.Wider.{told-size, kept-all, kept-within, refused-within, pages-cause, pages-taken, pages-scratch, memory-causes, memory-empty, memory-taken, memory-scratch, goes-not-small, goes-not-long, page-le}
use Rattle.plan_a.proofs.auto.AutoPlanPlan.take_file.Goals as goal

pub returns-in_err-size-clause-plan : goal.returns-in_err-size-clause-plan
returns-in_err-size-clause-plan g c = record { faults = omega arith; telling = refl; size = c.take_empty.ensures.scratch.size; needs_memory = refl }

pub returns-in_err-size-clause-reset : goal.returns-in_err-size-clause-reset
returns-in_err-size-clause-reset g c = record { halves = c.take_empty.ensures.reset.halves }

pub returns-in_err-size-clause-refused : goal.returns-in_err-size-clause-refused
returns-in_err-size-clause-refused g c = on_err_told _ c.from_residual.result (record { told = c.take_empty.ensures.empty.told; count = c.take_empty.ensures.empty.count })

pub returns-in_err-size-clause-measured : goal.returns-in_err-size-clause-measured
returns-in_err-size-clause-measured g c = kept-all c.from_residual.result _ _ refl

pub returns-then-size-le-LONGEST_SMALL : goal.returns-then-size-le-LONGEST_SMALL
returns-then-size-le-LONGEST_SMALL g c =
    let view = g.T.Tree.view in
    let seen = g.P.LineStore.seen in
    let self = c.args.self.now in
    let same = c.take_empty.ensures.scratch.size in
    let few : c.unwrap_or-size.result ≤ 16777216 = c.if-size-le-LONGEST_SMALL.true in
    record {
      untouched = untouched_both c.in_ok-size.ensures.untouched c.take_file.ensures.untouched;
      passes = passes_both c.in_ok-size.ensures.untouched.passes c.take_file.ensures.passes;
      plan = record { faults = omega arith; telling = refl; size = c.take_file.ensures.plan.size ∙ same; needs_memory = refl };
      reset = record { halves = c.take_file.ensures.reset.halves };
      taken = memory-taken c.take_file.result self.is_big (plan_seen self.small) (plan_seen c.take_empty.new.self) (plan_seen c.take_file.new.self) (seen self.big) (seen self.big) (view c.args.tree.now) (view c.size.new.self) c.args.name.now
          same refl c.in_ok-size.ensures.untouched c.take_file.ensures.taken;
      scratch = memory-scratch c.take_file.result g.P.Plan.scratch_after self.small.buffer (seen self.big).scratch (seen self.big).scratch (view c.args.tree.now) c.args.name.now refl
          (λ f told. goes-not-small self.small.buffer (bytes_at f c.args.name.now) (subst (λ n. n ≤ 16777216) (sym (told-size _ c.unwrap_or-size.result (view c.args.tree.now) c.args.name.now c.in_ok-size.ensures.size c.unwrap_or-size.ensures f told)) few));
      refused = memory-empty c.take_file.result (plan_seen c.take_file.new.self) (seen self.big) c.take_file.ensures.refused;
      measured = kept-all c.take_file.result _ _ refl;
      cause = memory-causes c.take_file.result self.is_big (plan_seen self.small) (plan_seen c.take_empty.new.self) (plan_seen c.take_file.new.self) (seen self.big) (seen self.big) (view c.args.tree.now) (view c.size.new.self) (view c.take_file.new.tree) c.args.name.now
          same refl refl refl c.in_ok-size.ensures.untouched c.in_ok-size.ensures.untouched.passes c.take_file.ensures.cause;
    }

pub returns-in-Ok : goal.returns-in-Ok
returns-in-Ok g c =
    let view = g.T.Tree.view in
    let seen = g.P.LineStore.seen in
    let self = c.args.self.now in
    let first = c.in_ok-size.ensures.untouched in
    record {
      untouched = untouched_both first c.take_file-2.ensures.untouched;
      passes = passes_both first.passes c.take_file-2.ensures.passes;
      plan = record { faults = c.take_file-2.ensures.plan.faults; telling = c.take_file-2.ensures.plan.telling; size = c.take_empty.ensures.scratch.size; needs_memory = refl };
      reset = record { halves = c.take_file-2.ensures.reset.halves };
      taken = pages-taken self.is_big (plan_seen self.small) (plan_seen c.take_empty.new.self) (seen self.big) (seen c.take_file-2.new.self) (view c.args.tree.now) (view c.size.new.self) c.args.name.now self.sizes first c.in-Ok.ensures.taken;
      scratch = λ f told.
          let many : 16777216 < c.unwrap_or-size.result = omega arith in
          let later = first.told ∙ told in
          pages-scratch g.P.Plan.scratch_after self.small.buffer (seen self.big).size (bytes_at f c.args.name.now) (seen self.big).scratch (seen c.take_file-2.new.self).scratch
          (subst (λ n. 16777216 < n) (sym (told-size _ c.unwrap_or-size.result (view c.args.tree.now) c.args.name.now c.in_ok-size.ensures.size c.unwrap_or-size.ensures f told)) many)
          self.sizes (c.in-Ok.ensures.taken f later).admitted (c.in-Ok.ensures.scratch f later);
      refused = tt;
      measured = tt;
      cause = tt;
    }

pub returns-then-is_within : goal.returns-then-is_within
returns-then-is_within g c =
    let view = g.T.Tree.view in
    let seen = g.P.LineStore.seen in
    let self = c.args.self.now in
    let same = c.take_empty.ensures.scratch.size in
    let first = c.in_ok-size.ensures.untouched in
    let un = untouched_both first c.take_file-2.ensures.untouched in
    let passes = passes_both first.passes c.take_file-2.ensures.passes in
    let fault = c.in-Err.fault in
    let within : is_within c.take_empty.new.self.buffer fault ≡ true = sym c.is_within.ensures ∙ c.if-is_within.true in
    record {
      untouched = untouched_both un c.take_file-then-is_within.ensures.untouched;
      passes = passes_both passes c.take_file-then-is_within.ensures.passes;
      plan = record { faults = c.take_file-2.ensures.plan.faults; telling = c.take_file-2.ensures.plan.telling; size = c.take_file-then-is_within.ensures.plan.size ∙ same; needs_memory = refl };
      reset = record { halves = c.take_file-then-is_within.ensures.reset.halves };
      taken = memory-taken c.take_file-then-is_within.result self.is_big (plan_seen self.small) (plan_seen c.take_empty.new.self) (plan_seen c.take_file-then-is_within.new.self) (seen self.big) (seen c.take_file-2.new.self) (view c.args.tree.now) (view c.take_file-2.new.tree) c.args.name.now
          same refl un c.take_file-then-is_within.ensures.taken;
      scratch = memory-scratch c.take_file-then-is_within.result g.P.Plan.scratch_after self.small.buffer (seen self.big).scratch (seen c.take_file-2.new.self).scratch (view c.args.tree.now) c.args.name.now
          (kept-within fault c.take_empty.new.self.buffer (seen self.big).scratch (seen c.take_file-2.new.self).scratch within c.in-Err.ensures.measured)
          (λ f told. goes-not-long self.small.buffer (seen self.big).size (bytes_at f c.args.name.now) fault self.sizes
          (refused-within fault c.take_empty.new.self.buffer (seen self.big) (seen c.take_file-2.new.self) (view c.size.new.self) (view c.take_file-2.new.tree) c.args.name.now within c.in-Err.ensures.cause f (first.told ∙ told)));
      refused = memory-empty c.take_file-then-is_within.result (plan_seen c.take_file-then-is_within.new.self) (seen c.take_file-2.new.self) c.take_file-then-is_within.ensures.refused;
      measured = kept-all c.take_file-then-is_within.result _ _ (kept-within fault c.take_empty.new.self.buffer (seen self.big).scratch (seen c.take_file-2.new.self).scratch within c.in-Err.ensures.measured);
      cause = memory-causes c.take_file-then-is_within.result self.is_big (plan_seen self.small) (plan_seen c.take_empty.new.self) (plan_seen c.take_file-then-is_within.new.self) (seen self.big) (seen c.take_file-2.new.self) (view c.args.tree.now) (view c.take_file-2.new.tree) (view c.take_file-then-is_within.new.tree) c.args.name.now
          same refl refl refl un passes c.take_file-then-is_within.ensures.cause;
    }

pub returns-else-is_within : goal.returns-else-is_within
returns-else-is_within g c =
    let view = g.T.Tree.view in
    let seen = g.P.LineStore.seen in
    let self = c.args.self.now in
    let same = c.take_empty.ensures.scratch.size in
    let first = c.in_ok-size.ensures.untouched in
    let fault = c.in-Err.fault in
    record {
      untouched = untouched_both first c.take_file-2.ensures.untouched;
      passes = passes_both first.passes c.take_file-2.ensures.passes;
      plan = record { faults = c.take_file-2.ensures.plan.faults; telling = c.take_file-2.ensures.plan.telling; size = same; needs_memory = refl };
      reset = record { halves = c.take_empty.ensures.reset.halves };
      taken = tt;
      scratch = tt;
      refused = record { told = c.take_empty.ensures.empty.told; count = c.take_empty.ensures.empty.count };
      measured = c.in-Err.ensures.measured;
      cause = open-cause-more fault _ _ (view c.args.tree.now) (view c.size.new.self) (view c.take_file-2.new.tree) c.args.name.now first first.passes
          (pages-cause fault self.is_big (plan_seen self.small) (plan_seen c.take_empty.new.self) (seen self.big) (seen c.take_file-2.new.self) (view c.size.new.self) (view c.take_file-2.new.tree) c.args.name.now
          (page-le self.small.buffer (seen self.big).size self.sizes) (ap (λ n. is_within n fault) (sym same) ∙ (sym c.is_within.ensures ∙ c.if-is_within.false)) c.in-Err.ensures.cause);
    }
