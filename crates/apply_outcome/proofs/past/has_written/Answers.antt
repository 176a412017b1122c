use Rattle.std.proofs.Common.{◌||◌, Option, option_map, refl, sym, ◌∙◌, ap}
use Rattle.patch_options.specs.PlainJob.{plain_options}
use Rattle.read_file_patch.specs.declared.derived.Target.{Target}
use Rattle.apply_task.specs.Contexts.{PlainContext, renamed_by}
use Rattle.apply_outcome.specs.Outcome.{is_name}
use Rattle.apply_task.specs.Ready.{alone}
use Rattle.apply_outcome.proofs.MoreWritten.{has-none, has-both}
use Rattle.apply_outcome.proofs.past.has_written.Goals as goal

pub returns-then-not-earlier : goal.returns-then-not-earlier
returns-then-not-earlier c =
    let e = c.args.earlier.now in
    let t : PlainContext = alone (plain_options c.args.turn.now.task.options.now) c.args.turn.now.task.set.now e.patch.now in
    sym (has-none t e.row e.verdicts.now c.args.name.now c.if-not-earlier.true)

pub returns-then-is_name : goal.returns-then-is_name
returns-then-is_name c =
    let e = c.args.earlier.now in
    let q = c.args.name.now in
    let t : PlainContext = alone (plain_options c.args.turn.now.task.options.now) c.args.turn.now.task.set.now e.patch.now in
    sym (has-both t e.row e.verdicts.now q c.if-not-earlier.false
    ∙ ap (λ b. b || is_name q (option_map (λ (w : Target). w.name) (renamed_by t e.row)))
    (ap (λ (o : Option Target). is_name q (option_map (λ w. w.name) o)) (sym (c.written_by.ensures.target t.options refl)) ∙ sym c.is_name.ensures ∙ c.if-is_name.true))

pub returns : goal.returns
returns c =
    let e = c.args.earlier.now in
    let q = c.args.name.now in
    let t : PlainContext = alone (plain_options c.args.turn.now.task.options.now) c.args.turn.now.task.set.now e.patch.now in
    c.is_name-2.ensures
    ∙ ap (λ (o : Option Target). is_name q (option_map (λ w. w.name) o)) (c.renamed_by.ensures.target t.options c.args.turn.now.task.set.now)
    ∙ sym (has-both t e.row e.verdicts.now q c.if-not-earlier.false
    ∙ ap (λ b. b || is_name q (option_map (λ (w : Target). w.name) (renamed_by t e.row)))
    (ap (λ (o : Option Target). is_name q (option_map (λ w. w.name) o)) (sym (c.written_by.ensures.target t.options refl)) ∙ sym c.is_name.ensures ∙ c.if-is_name.false))
