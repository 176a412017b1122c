use Rattle.std.proofs.Common.{ℕ, List, sym, ◌∙◌, subst}
use Rattle.outside.specs.Names.{IsPatchName}
use Rattle.stack_state.proofs.Named.{save_named, save_is}
use Rattle.stack_state.proofs.names.save_name.Goals as goal

pub named-requires : goal.named-requires
named-requires c = subst (λ (l : List ℕ). IsPatchName l) (sym (c.deref.ensures.value ∙ c.in_ok-text.ensures ∙ save_is c.args.number)) (save_named c.args.number)

pub returns : goal.returns
returns c = c.in_ok-name.ensures ∙ (c.deref.ensures.value ∙ c.in_ok-text.ensures ∙ save_is c.args.number)
