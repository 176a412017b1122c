use Rattle.std.proofs.Common.{◌≡◌, true, is_some, sym, ◌∙◌, subst}
use Rattle.std.specs.FinMap.{get}
use Rattle.read_file_patch.specs.declared.derived.Target.{Target}
use Rattle.apply_start.proofs.obstacles.obstacle_to_writing.Goals as goal

pub is_left-requires : goal.is_left-requires
is_left-requires g c = record {
  there = λ f told. subst (λ (t : Target). is_some (get f t.name) ≡ true) (sym c.chosen-source.ensures.target) (sym (c.requires.there f told) ∙ c.if-not-there.false);
}
