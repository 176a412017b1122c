use Rattle.std.proofs.Common.{◌||◌, [], Bool, Option, option_map, refl, sym, ◌∙◌, ap, subst}
use Rattle.std.specs.Option.{ForSome}
use Rattle.read_file_patch.specs.declared.derived.Target.{Target}
use Rattle.outside.specs.Marked.{is_marked}
use Rattle.patch_options.specs.PlainJob.{PlainOptions}
use Rattle.patch_options.specs.Table.{options_of}
use Rattle.patch_set.specs.Room.{HasRoom}
use Rattle.apply_outcome.specs.Outcome.{is_name}
use Rattle.apply_task.specs.Contexts.{renamed_by}
use Rattle.apply_task.specs.Ready.{alone}
use Rattle.apply_outcome.proofs.Roomy.{renamed-roomy, still-roomy, written-roomy}
use Rattle.apply_outcome.proofs.written.mark_both.Goals as goal

-- the names of a file patch are the same for all options that take it from one side
abbrev any : Bool → PlainOptions
any b = record (options_of []) { reverse = b }

pub mark-requires : goal.mark-requires
mark-requires c =
    let n = c.args.names.now in
    subst (λ (x : Option Target). ForSome x (HasRoom n)) (sym (c.written_by.ensures.target (any c.args.reverse) refl))
    (written-roomy n (alone (any c.args.reverse) c.args.set.now c.args.patch.now) c.args.row c.requires.targets c.requires.output)

pub mark-requires-2 : goal.mark-requires-2
mark-requires-2 c =
    let n = c.args.names.now in
    let m = c.mark.new.names in
    subst (λ (x : Option Target). ForSome x (HasRoom m)) (sym (c.renamed_by.ensures.target (any c.args.reverse) c.args.set.now))
    (renamed-roomy m (alone (any c.args.reverse) c.args.set.now c.args.patch.now) c.args.row (still-roomy n m c.mark.ensures.rooms c.args.patch.now.targets.items c.requires.targets))

pub returns : goal.returns
returns c = record {
  marked = λ o same q.
      c.mark-2.ensures.marked q
      ∙ ap (λ (x : Option Target). is_name q (option_map (λ w. w.name) x) || is_marked c.mark.new.names q) (c.renamed_by.ensures.target o c.args.set.now)
      ∙ ap (λ b. is_name q (option_map (λ (w : Target). w.name) (renamed_by (alone o c.args.set.now c.args.patch.now) c.args.row)) || b)
      (c.mark.ensures.marked q
      ∙ ap (λ (x : Option Target). is_name q (option_map (λ w. w.name) x) || is_marked c.args.names.now q) (c.written_by.ensures.target o same));
  rooms = λ q. c.mark-2.ensures.rooms q ∙ c.mark.ensures.rooms q;
}
