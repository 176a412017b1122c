use Rattle.std.proofs.Common.{Bool, true, false, if◌then◌else◌, ◌∙◌, ap}
use Rattle.hunk_core.specs.declared.Side.{Side}
use Rattle.hunk_core.specs.Turned.{other_side}
use Rattle.read_file_patch.specs.Absent.{creates}
use Rattle.name_choice.specs.Making.{may_make}
use Rattle.apply_task.specs.Asking.{is_bare, moves_at}
use Rattle.apply_task.specs.TaskView.{plain_task}
use Rattle.apply_start.specs.declared.fitting.Purpose.{Purpose}
use Rattle.apply_start.specs.declared.fitting.Purpose.TheVariants.{Makes, MakesEmpty, Clears, RemovesEmpty, Changes}
use Rattle.apply_start.proofs.fitting.purpose_of.Goals as goal

abbrev making : Bool → Purpose
making bare = if bare then MakesEmpty else Makes

abbrev clearing : Bool → Purpose
clearing bare = if bare then RemovesEmpty else Clears

-- by what it says
abbrev by : Bool → Bool → Bool → Bool → Purpose
by moved makes clears bare = if moved then Makes else if makes then making bare else if clears then clearing bare else Changes

pub returns-then-moves_at : goal.returns-then-moves_at
returns-then-moves_at c =
    let p = (plain_task c.args.task.now).item.patch in
    ap (λ (m : Bool). by m (creates c.args.side p) (may_make (other_side c.args.side) p) (is_bare p)) (c.if-moves_at.ensures c.args.task.now.set.now.text)

pub returns-then-creates : goal.returns-then-creates
returns-then-creates c =
    let p = (plain_task c.args.task.now).item.patch in
    let side = c.args.side in
    let text = c.args.task.now.set.now.text in
    let moved = moves_at (plain_task c.args.task.now).options.reverse p c.args.place in
    c.making.ensures
    ∙ ap making (c.is_bare-is_bare.ensures text)
    ∙ ap (λ (m : Bool). by m true (may_make (other_side side) p) (is_bare p)) (c.if-moves_at.ensures text)
    ∙ ap (λ (x : Bool). by moved x (may_make (other_side side) p) (is_bare p)) (c.if-creates.ensures.creates text c.requires.task.fit.lawful)

pub returns-then-may_make : goal.returns-then-may_make
returns-then-may_make c =
    let p = (plain_task c.args.task.now).item.patch in
    let side = c.args.side in
    let text = c.args.task.now.set.now.text in
    let moved = moves_at (plain_task c.args.task.now).options.reverse p c.args.place in
    c.clearing.ensures
    ∙ ap clearing (c.is_bare-is_bare.ensures text)
    ∙ ap (λ (m : Bool). by m false true (is_bare p)) (c.if-moves_at.ensures text)
    ∙ ap (λ (x : Bool). by moved x true (is_bare p)) (c.if-creates.ensures.creates text c.requires.task.fit.lawful)
    ∙ ap (λ (x : Bool). by moved (creates side p) x (is_bare p)) (c.if-may_make.ensures.made text c.requires.task.fit.lawful ∙ ap (λ (s : Side). may_make s p) c.other.ensures)

pub returns-else-may_make : goal.returns-else-may_make
returns-else-may_make c =
    let p = (plain_task c.args.task.now).item.patch in
    let side = c.args.side in
    let text = c.args.task.now.set.now.text in
    let moved = moves_at (plain_task c.args.task.now).options.reverse p c.args.place in
    ap (λ (m : Bool). by m false false (is_bare p)) (c.if-moves_at.ensures text)
    ∙ ap (λ (x : Bool). by moved x false (is_bare p)) (c.if-creates.ensures.creates text c.requires.task.fit.lawful)
    ∙ ap (λ (x : Bool). by moved (creates side p) x (is_bare p)) (c.if-may_make.ensures.made text c.requires.task.fit.lawful ∙ ap (λ (s : Side). may_make s p) c.other.ensures)
