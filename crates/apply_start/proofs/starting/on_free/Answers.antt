use Rattle.std.proofs.Common.{◌≡◌, List, ℕ, Bool, ◌∙◌, ap}
use Rattle.say_text.specs.Messages.{silenced, patching_line}
use Rattle.say_text.specs.Origins.{PlainOrigin, plain_origin}
use Rattle.read_file_patch.specs.declared.derived.Target.{Target}
use Rattle.apply_task.specs.Kinds.{is_link}
use Rattle.apply_task.specs.Contexts.{PlainContext, shown}
use Rattle.apply_start.specs.Start.{said_first, patching_said, on_meant, on_file, named, origin_of}
use Rattle.name_choice.specs.Choice.{side_of}
use Rattle.apply_task.specs.TaskView.{plain_task}
use Rattle.apply_start.proofs.StartSteps.{starts_said, starts_unsaid, begins_first, starts_is}
use Rattle.outside.proofs.Exits.{if_ok_none}
use Rattle.hunk_core.specs.declared.Side.{Side}
use Rattle.apply_start.proofs.starting.on_free.Goals as goal

line : (t : PlainContext) (place : ℕ) (link : Bool) (name : List ℕ) (origin : PlainOrigin) (target : Target) → link ≡ is_link t.item.patch → name ≡ shown target → target ≡ named t place → origin ≡ origin_of t place
    → silenced t.options (patching_line t.options.dry_run link t.options.output name origin) ≡ patching_said t place
line t place link name origin target same shows is from =
    ap (λ (b : Bool). silenced t.options (patching_line t.options.dry_run b t.options.output name origin)) same
    ∙ ap (λ (n : List ℕ). silenced t.options (patching_line t.options.dry_run (is_link t.item.patch) t.options.output n origin)) (shows ∙ ap shown is)
    ∙ ap (λ (x : PlainOrigin). silenced t.options (patching_line t.options.dry_run (is_link t.item.patch) t.options.output (shown (named t place)) x)) from

pub returns : goal.returns
returns g c = record {
  starts = (
      let t = plain_task c.args.task.now in
      let place = c.args.place in
      let side = side_of t.options.reverse in
      starts_is c.on_file.result (λ f. on_meant t f place)
      (starts_said c.in_ok-say_patching.field-0 c.on_file.result c.in_ok-say_patching.ensures.writes
      (starts_is c.on_file.result (λ f. on_file t f place side) c.on_file.ensures.starts (λ f told. ap (λ (s : Side). on_file t f place s) c.own_side.ensures)))
      (λ f told. ap (λ (p : List ℕ). said_first p (on_file t f place side)) (line t place _ _ _ _ (c.requires.link f told.0) c.shown.ensures c.named.ensures.target c.origin.ensures.origin)));
  rest = g.met.O.Sink.rest_both _ _ _ c.in_ok-say_patching.ensures.rest c.on_file.ensures.rest;
  within = c.on_file.ensures.within;
}

pub returns-in_err-say_patching : goal.returns-in_err-say_patching
returns-in_err-say_patching g c = record {
  starts = (
      let t = plain_task c.args.task.now in
      let place = c.args.place in
      let side = side_of t.options.reverse in
      let said = silenced t.options (patching_line t.options.dry_run c.args.link t.options.output c.shown.result.now (plain_origin c.origin.result)) in
      starts_is c.from_residual.result (λ f. on_meant t f place)
      (starts_unsaid _ _ c.in_err-say_patching.field-0.0 c.from_residual.result (λ f. said_first said (on_file t f place side)) c.from_residual.ensures.1 c.in_err-say_patching.ensures.writes
      (λ f. begins_first said (on_file t f place side)))
      (λ f told. ap (λ (p : List ℕ). said_first p (on_file t f place side)) (line t place _ _ _ _ (c.requires.link f told.0) c.shown.ensures c.named.ensures.target c.origin.ensures.origin)));
  rest = c.in_err-say_patching.ensures.rest;
  within = if_ok_none _ _ c.from_residual.result c.from_residual.ensures.1;
}

pub on_file-requires-clause-within : goal.on_file-requires-clause-within
on_file-requires-clause-within g c = c.requires.within

pub on_file-requires-clause-task : goal.on_file-requires-clause-task
on_file-requires-clause-task g c = c.requires.task

pub on_file-requires-clause-there : goal.on_file-requires-clause-there
on_file-requires-clause-there g c = c.requires.there

pub on_file-requires-clause-size : goal.on_file-requires-clause-size
on_file-requires-clause-size g c = c.requires.size

pub origin-requires-clause-within : goal.origin-requires-clause-within
origin-requires-clause-within g c = c.requires.within

pub origin-requires-clause-task : goal.origin-requires-clause-task
origin-requires-clause-task g c = c.requires.task

pub named-requires-clause-within : goal.named-requires-clause-within
named-requires-clause-within g c = c.requires.within

pub named-requires-clause-task : goal.named-requires-clause-task
named-requires-clause-task g c = c.requires.task
