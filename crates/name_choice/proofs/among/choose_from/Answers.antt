use Rattle.std.proofs.Common.{◌∙◌, List, ap, length, subst}
use Rattle.outside.proofs.Exits.{if_ok_none}
use Rattle.name_choice.specs.Making.{told_new}
use Rattle.read_file_patch.specs.declared.derived.Target.{Target}
use Rattle.name_choice.specs.Choice.{created, first_place, names_of, IsWithin}
use Rattle.name_choice.proofs.Chosen.{chosen_operand, chosen_there, created_within, late_cause, some_within}
use Rattle.outside.proofs.Views.{untouched_both}
use Rattle.name_choice.proofs.among.choose_from.Goals as goal

pub returns-in_err-best_new-clause-untouched : goal.returns-in_err-best_new-clause-untouched
returns-in_err-best_new-clause-untouched g c = untouched_both c.in_ok-place.ensures.untouched c.in_err-best_new.ensures.untouched

pub returns-clause-untouched : goal.returns-clause-untouched
returns-clause-untouched g c = untouched_both c.in_ok-place.ensures.untouched c.in_ok-best_new.ensures.untouched

pub returns-clause-within : goal.returns-clause-within
returns-clause-within g c = created_within c.deref-2.ensures.value c.in_ok-best_new.field-0 c.created.result c.created.ensures c.in_ok-best_new.ensures.within

pub returns-then-operand-clause-within : goal.returns-then-operand-clause-within
returns-then-operand-clause-within g c = subst (λ t. IsWithin (length t) c.first_created.result) c.deref-then-operand.ensures.value c.first_created.ensures.within

pub returns-in-Some-clause-within : goal.returns-in-Some-clause-within
returns-in-Some-clause-within g c = some_within c.deref.ensures.value c.in_ok-place.field-0 c.in-Some.place c.in-Some.is c.in_ok-place.ensures.within

pub best_new-requires : goal.best_new-requires
best_new-requires g c = rw c.deref-2.ensures.value c.requires

pub returns-in_err-best_new-clause-cause : goal.returns-in_err-best_new-clause-cause
returns-in_err-best_new-clause-cause g c =
    late_cause (g.T.Tree.view c.args.tree.now) (g.T.Tree.view c.existing.new.tree) (g.T.Tree.view c.best_new.new.tree) c.from_residual-in_err-best_new.result c.in_ok-place.ensures.untouched c.in_err-best_new.ensures.cause

pub returns-in-Some-clause-chosen : goal.returns-in-Some-clause-chosen
returns-in-Some-clause-chosen g c = λ files told. chosen_there c.deref.ensures.value c.args.operand (told_new c.args.patch.now) c.args.posix files c.in_ok-place.field-0 (c.in_ok-place.ensures.place files told) c.in-Some.place c.in-Some.is

pub returns-then-operand-clause-chosen : goal.returns-then-operand-clause-chosen
returns-then-operand-clause-chosen g c = λ files told.
    chosen_operand c.deref.ensures.value c.args.operand (told_new c.args.patch.now) c.args.posix files c.in_ok-place.field-0 (c.in_ok-place.ensures.place files told) c.first_created.result c.in_default.is c.if-operand.true
    (c.first_created.ensures.chosen ∙ ap (λ (t : List Target). created (first_place (names_of t))) c.deref-then-operand.ensures.value)

pub returns-in_err-best_new-clause-chosen : goal.returns-in_err-best_new-clause-chosen
returns-in_err-best_new-clause-chosen g c = if_ok_none _ _ c.from_residual-in_err-best_new.result c.from_residual-in_err-best_new.ensures.1

pub returns-in_err-best_new-clause-within : goal.returns-in_err-best_new-clause-within
returns-in_err-best_new-clause-within g c = if_ok_none _ _ c.from_residual-in_err-best_new.result c.from_residual-in_err-best_new.ensures.1

pub returns-in_err-place-clause-chosen : goal.returns-in_err-place-clause-chosen
returns-in_err-place-clause-chosen g c = if_ok_none _ _ c.from_residual.result c.from_residual.ensures.1

pub returns-in_err-place-clause-within : goal.returns-in_err-place-clause-within
returns-in_err-place-clause-within g c = if_ok_none _ _ c.from_residual.result c.from_residual.ensures.1

pub returns-in_err-place-clause-untouched : goal.returns-in_err-place-clause-untouched
returns-in_err-place-clause-untouched g c = c.in_err-place.ensures.untouched

pub returns-in-Some-clause-untouched : goal.returns-in-Some-clause-untouched
returns-in-Some-clause-untouched g c = c.in_ok-place.ensures.untouched

pub returns-then-operand-clause-untouched : goal.returns-then-operand-clause-untouched
returns-then-operand-clause-untouched g c = c.in_ok-place.ensures.untouched

pub returns-then-posix-clause-untouched : goal.returns-then-posix-clause-untouched
returns-then-posix-clause-untouched g c = c.in_ok-place.ensures.untouched
