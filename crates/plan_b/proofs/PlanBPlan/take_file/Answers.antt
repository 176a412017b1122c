use Rattle.std.proofs.Common.{◌≡◌, Some, is_some, sym, ap, subst, ◌∙◌}
use Rattle.std.specs.Option.{option_map}
use Rattle.std.proofs.lemmas.Option.{none-some}
use Rattle.outside.specs.Files.{bytes_at}
use Rattle.line_store.specs.Taking.{KeepsAtLong}
use Rattle.page_pair.specs.Reading.{told_file}
use Rattle.plan_b.proofs.Takings.{empty-seen, written-held, written-takes, written-scratch}
use Rattle.plan_b.proofs.PlanBPlan.take_file.Goals as goal

pub invariant_of-self : goal.invariant_of-self
invariant_of-self g c = record {
  held =
      written-held c.take_pages.new.pair c.in-Ok.layout c.take_empty.new.self.halves (g.C.Scratch.view c.take_pages.new.scratch) (told_file (g.T.Tree.view c.args.tree.now) c.args.name.now)
      c.in-Ok.ensures.layout (c.in-Ok.ensures.page ∙ sym c.in-Ok.ensures.size) c.take_empty.ensures.reset.halves c.in-Ok.ensures.written;
  spotted = λ h k is. absurd (none-some k (sym (c.take_empty.ensures.reset.halves h) ∙ is));
}

pub returns-in-Ok-clause-taken : goal.returns-in-Ok-clause-taken
returns-in-Ok-clause-taken g c f told =
    let view = g.C.Scratch.view in
    let file : told_file (g.T.Tree.view c.args.tree.now) c.args.name.now ≡ Some (bytes_at f c.args.name.now) = ap (option_map (λ f. bytes_at f c.args.name.now)) told in
    written-takes _ c.in-Ok.layout c.take_empty.new.self.halves (view c.take_pages.new.scratch) (told_file (g.T.Tree.view c.args.tree.now) c.args.name.now) (bytes_at f c.args.name.now)
    c.in-Ok.ensures.layout (c.in-Ok.ensures.page ∙ sym c.take_empty.new.self.held.size ∙ c.take_empty.ensures.scratch.size) (c.take_pages.ensures.passes.telling ∙ ap is_some c.take_empty.ensures.scratch.scratch)
    c.in-Ok.ensures.written file (c.in-Ok.ensures.measured (bytes_at f c.args.name.now) file) (c.in-Ok.ensures.short (bytes_at f c.args.name.now) file)

pub returns-in-Ok-clause-scratch : goal.returns-in-Ok-clause-scratch
returns-in-Ok-clause-scratch g c f told =
    let view = g.C.Scratch.view in
    let file : told_file (g.T.Tree.view c.args.tree.now) c.args.name.now ≡ Some (bytes_at f c.args.name.now) = ap (option_map (λ f. bytes_at f c.args.name.now)) told in
    written-scratch c.in-Ok.layout (view c.args.self.now.scratch).told (view c.take_pages.new.scratch).told (told_file (g.T.Tree.view c.args.tree.now) c.args.name.now) (bytes_at f c.args.name.now) c.args.self.now.layout.size
    (c.in-Ok.ensures.page ∙ sym c.take_empty.new.self.held.size ∙ c.take_empty.ensures.scratch.size) (c.take_pages.ensures.passes.telling ∙ ap is_some c.take_empty.ensures.scratch.scratch)
    c.in-Ok.ensures.written file (c.in-Ok.ensures.measured (bytes_at f c.args.name.now) file)

pub returns-in-Err-clause-refused : goal.returns-in-Err-clause-refused
returns-in-Err-clause-refused g c = empty-seen c.take_empty.new.self.layout c.take_empty.new.self.halves (g.C.Scratch.view c.take_pages.new.scratch) c.take_empty.ensures.empty.count

pub returns-in-Err-clause-measured : goal.returns-in-Err-clause-measured
returns-in-Err-clause-measured g c = subst (λ s. KeepsAtLong c.in-Err.fault s (g.C.Scratch.view c.take_pages.new.scratch).told) c.take_empty.ensures.scratch.scratch c.in-Err.ensures.kept
