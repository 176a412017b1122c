use Rattle.std.proofs.Common.{◌∙◌, ap, inr, not, refl, sym}
use Rattle.std.proofs.lemmas.Result.{IfErr-weaker, IfOk-weaker}
use Rattle.patch_options.proofs.Refusing.{refused_as, no_left, no_right, all_yes}
use Rattle.cli_tool_words.specs.Asked.{is_split_file}
use Rattle.cli_tool_words.proofs.splitting.split_file.Goals as goal

pub returns-clause-refused : goal.returns-clause-refused
unfolding is_split_file
returns-clause-refused c = IfErr-weaker c.lasting_name_of.result _ _ (λ fault. refused_as fault _ _ (λ none. no_right _ _ none)) c.lasting_name_of.ensures.refused

pub returns-clause-lawful : goal.returns-clause-lawful
unfolding is_split_file
returns-clause-lawful c = IfOk-weaker c.lasting_name_of.result _ _ (λ name holds. all_yes _ _ (ap not (sym c.eq.ensures ∙ c.if-eq.false)) holds) c.lasting_name_of.ensures.lawful

pub returns-then-eq-clause-refused : goal.returns-then-eq-clause-refused
unfolding is_split_file
returns-then-eq-clause-refused c = inr (refl, no_left _ _ (ap not (sym c.eq.ensures ∙ c.if-eq.true)))

pub returns-clause-name : goal.returns-clause-name
returns-clause-name c = c.lasting_name_of.ensures.name
