use Rattle.std.proofs.Common.{Option, is_some, sym, subst, ap, ◌∙◌}
use Rattle.std.specs.Option.{ForSome}
use Rattle.outside.specs.declared.marks.WrittenNames.{WrittenNames}
use Rattle.patch_set.specs.Room.{AreUnmarked, HaveRoom}
use Rattle.patch_set.specs.SetView.{SetView, without_marks}
use Rattle.patch_set.proofs.Roomy.{none-blank, whole-still}
use Rattle.patch_set.proofs.set.PatchSet.take_marks.Goals as goal

pub invariant_of-self : goal.invariant_of-self
invariant_of-self c = (whole-still _ (is_some c.take.new.self) c.self.invariant.0, none-blank _ _ c.take.new.self c.take.ensures.after)

pub returns : goal.returns
returns c = record {
  unmarked = subst (λ (x : Option WrittenNames). ForSome x AreUnmarked) (sym c.take.ensures.value) c.self.invariant.1.unmarked;
  room = (
      let fields = c.self.inside in
      subst (λ (s : SetView). ForSome c.take.result (HaveRoom s.patches s.output)) c.self.view_is
      (subst (λ (x : Option WrittenNames). ForSome x (HaveRoom fields.patches.items fields.output)) (sym c.take.ensures.value) c.self.invariant.1.room));
  handed = ap is_some c.take.ensures.value ∙ ap (λ (s : SetView). s.has_marks) c.self.view_is;
  left = (
      let fields = c.self.inside in
      let seen : Option WrittenNames → SetView = λ marks. record {
        text = fields.text.items;
        ways = fields.ways;
        patches = fields.patches.items;
        output = fields.output;
        skipped = fields.skipped.items;
        verdicts = fields.verdicts.items;
        rows = fields.rows.items;
        has_marks = is_some marks;
      } in
      ap seen c.take.ensures.after ∙ ap without_marks c.self.view_is);
}
