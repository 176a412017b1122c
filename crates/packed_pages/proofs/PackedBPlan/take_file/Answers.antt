use Rattle.std.proofs.Common.{◌≡◌, Some, is_some, sym, ap, subst, ◌∙◌}
use Rattle.std.specs.Option.{option_map}
use Rattle.outside.specs.Files.{bytes_at}
use Rattle.line_store.specs.Taking.{KeepsAtLong}
use Rattle.page_pair.specs.Reading.{told_file}
use Rattle.packed_pages.proofs.HeldLemmas.{empty-seen, empty-held, no-place}
use Rattle.packed_pages.proofs.Takings.{written-held, written-takes, written-scratch}
use Rattle.packed_pages.proofs.PackedBPlan.take_file.Goals as goal

pub invariant_of-self : goal.invariant_of-self
invariant_of-self g c = record {
  held =
      empty-held c.take_pages.new.pair c.take_empty.new.self.layout c.take_empty.new.self.places (g.C.Scratch.view c.take_pages.new.scratch)
      c.take_empty.new.self.held.layout (c.take_empty.new.self.held.size ∙ sym c.take_pages.ensures.size) c.take_empty.ensures.empty.count (no-place c.take_empty.new.self.places c.take_empty.ensures.reset.halves);
  marked = c.new-self.ensures c.take_pages.new.pair;
}

pub invariant_of-self-2 : goal.invariant_of-self-2
invariant_of-self-2 g c = record {
  held =
      written-held c.take_pages.new.pair c.in-Ok.layout c.take_empty.new.self.places (g.C.Scratch.view c.take_pages.new.scratch) (told_file (g.T.Tree.view c.args.tree.now) c.args.name.now)
      c.in-Ok.ensures.layout (c.in-Ok.ensures.page ∙ sym c.in-Ok.ensures.size) (no-place c.take_empty.new.self.places c.take_empty.ensures.reset.halves) c.in-Ok.ensures.written;
  marked = c.new-self.ensures c.take_pages.new.pair;
}

pub returns-clause-taken : goal.returns-clause-taken
returns-clause-taken g c f told =
    let view = g.C.Scratch.view in
    let file : told_file (g.T.Tree.view c.args.tree.now) c.args.name.now ≡ Some (bytes_at f c.args.name.now) = ap (option_map (λ f. bytes_at f c.args.name.now)) told in
    written-takes _ c.in-Ok.layout c.take_empty.new.self.places (view c.take_pages.new.scratch) (told_file (g.T.Tree.view c.args.tree.now) c.args.name.now) (bytes_at f c.args.name.now)
    c.in-Ok.ensures.layout (c.in-Ok.ensures.page ∙ sym c.take_empty.new.self.held.size ∙ c.take_empty.ensures.scratch.size) (c.take_pages.ensures.passes.telling ∙ ap is_some c.take_empty.ensures.scratch.scratch)
    c.in-Ok.ensures.written file (c.in-Ok.ensures.measured (bytes_at f c.args.name.now) file) (c.in-Ok.ensures.short (bytes_at f c.args.name.now) file)

pub returns-clause-scratch : goal.returns-clause-scratch
returns-clause-scratch g c f told =
    let view = g.C.Scratch.view in
    let file : told_file (g.T.Tree.view c.args.tree.now) c.args.name.now ≡ Some (bytes_at f c.args.name.now) = ap (option_map (λ f. bytes_at f c.args.name.now)) told in
    written-scratch c.in-Ok.layout (view c.args.self.now.scratch).told (view c.take_pages.new.scratch).told (told_file (g.T.Tree.view c.args.tree.now) c.args.name.now) (bytes_at f c.args.name.now) c.args.self.now.layout.size
    (c.in-Ok.ensures.page ∙ sym c.take_empty.new.self.held.size ∙ c.take_empty.ensures.scratch.size) (c.take_pages.ensures.passes.telling ∙ ap is_some c.take_empty.ensures.scratch.scratch)
    c.in-Ok.ensures.written file

pub returns-in-Err-clause-refused : goal.returns-in-Err-clause-refused
returns-in-Err-clause-refused g c = empty-seen c.take_empty.new.self.layout c.take_empty.new.self.places (g.C.Scratch.view c.take_pages.new.scratch) c.take_empty.ensures.empty.count

pub returns-in-Err-clause-measured : goal.returns-in-Err-clause-measured
returns-in-Err-clause-measured g c = subst (λ s. KeepsAtLong c.in-Err.fault s (g.C.Scratch.view c.take_pages.new.scratch).told) c.take_empty.ensures.scratch.scratch c.in-Err.ensures.kept
