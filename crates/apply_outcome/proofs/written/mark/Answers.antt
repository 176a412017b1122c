use Rattle.std.proofs.Common.{◌||◌, Option, option_map, sym, ◌∙◌, ap}
use Rattle.std.specs.Option.{option_copied}
use Rattle.outside.specs.Marked.{is_marked}
use Rattle.read_file_patch.specs.declared.derived.Target.{Target}
use Rattle.apply_outcome.specs.Outcome.{is_name}
use Rattle.apply_outcome.proofs.written.mark.Goals as goal

pub returns-in-Some : goal.returns-in-Some
returns-in-Some c = record {
  marked = λ q.
      c.mark.ensures.marked (c.mark.ensures.room ∙ c.requires c.in-Some.target.now (ap option_copied c.in-Some.is)) q
      ∙ ap (λ (x : Option Target). is_name q (option_map (λ w. w.name) x) || is_marked c.args.names.now q) (sym (ap option_copied c.in-Some.is));
  rooms = c.mark.ensures.rooms;
}
