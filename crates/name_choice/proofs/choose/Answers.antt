use Rattle.std.proofs.Common.{◌≡◌, ◌∙◌, Some, IfOk, length, sym, subst}
use Rattle.std.proofs.lemmas.Result.{IfOk-weaker}
use Rattle.outside.specs.Files.{Files}
use Rattle.name_choice.specs.Making.{told_new}
use Rattle.name_choice.specs.Choice.{names_of, IsFound, IsWithin}
use Rattle.name_choice.proofs.Chosen.{among_choice, of_moved}
use Rattle.name_choice.proofs.choose.Goals as goal

pub returns-then-is_moved-clause-chosen : goal.returns-then-is_moved-clause-chosen
returns-then-is_moved-clause-chosen g c =
    IfOk-weaker c.choose_moved.result _ _ (λ chosen is files told. is files told ∙ of_moved c.deref.ensures.value c.args.patch.now.header.action c.side_of-side.result _ c.args.operand c.args.reverse c.args.posix files c.side_of-side.ensures (sym c.is_moved.ensures ∙ c.if-is_moved.true)) c.choose_moved.ensures.chosen

pub returns-then-is_moved-clause-within : goal.returns-then-is_moved-clause-within
returns-then-is_moved-clause-within g c = subst (λ t. IfOk c.choose_moved.result (IsWithin (length t))) c.deref.ensures.value c.choose_moved.ensures.within

pub returns-then-is_moved-clause-there : goal.returns-then-is_moved-clause-there
returns-then-is_moved-clause-there g c =
    subst (λ t. IfOk c.choose_moved.result (λ chosen. (files : Files) → (g.T.Tree.view c.choose_moved.new.tree).told ≡ Some files → IsFound t files chosen)) c.deref.ensures.value c.choose_moved.ensures.there

pub returns-then-is_moved-clause-cause : goal.returns-then-is_moved-clause-cause
returns-then-is_moved-clause-cause g c = c.choose_moved.ensures.cause

pub returns-then-is_moved-clause-untouched : goal.returns-then-is_moved-clause-untouched
returns-then-is_moved-clause-untouched g c = c.choose_moved.ensures.untouched

pub returns-else-is_moved-clause-chosen : goal.returns-else-is_moved-clause-chosen
returns-else-is_moved-clause-chosen g c =
    IfOk-weaker c.choose_among.result _ _ (λ chosen is files told. is files told ∙ among_choice c.args.patch.now.header.action (names_of c.args.patch.now.targets.items) (told_new c.args.patch.now) c.args.operand c.args.reverse c.args.posix files (sym c.is_moved.ensures ∙ c.if-is_moved.false)) c.choose_among.ensures.chosen

pub returns-else-is_moved-clause-within : goal.returns-else-is_moved-clause-within
returns-else-is_moved-clause-within g c = c.choose_among.ensures.within

pub returns-else-is_moved-clause-there : goal.returns-else-is_moved-clause-there
returns-else-is_moved-clause-there g c = c.choose_among.ensures.there

pub returns-else-is_moved-clause-cause : goal.returns-else-is_moved-clause-cause
returns-else-is_moved-clause-cause g c = c.choose_among.ensures.cause

pub returns-else-is_moved-clause-untouched : goal.returns-else-is_moved-clause-untouched
returns-else-is_moved-clause-untouched g c = c.choose_among.ensures.untouched

pub choose_moved-requires : goal.choose_moved-requires
choose_moved-requires g c = rw c.deref.ensures.value c.requires

pub choose_among-requires : goal.choose_among-requires
choose_among-requires g c = c.requires
