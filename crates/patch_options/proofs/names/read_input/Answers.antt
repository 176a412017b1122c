use Rattle.std.proofs.Common.{◌≡◌, ◌⊎◌, Bool, true, false, Option, IfOk, IfErr, refl, subst, inr}
use Rattle.clap.specs.Words.{Text}
use Rattle.patch_options.specs.Table.{input_of}
use Rattle.patch_options.specs.declared.options.WordFault.TheVariants.{Usage, Memory}
use Rattle.patch_options.proofs.Refusing.{input_alone, operand_alone, both_given}
use Rattle.patch_options.proofs.names.read_input.Goals as goal

pub returns-in-Some-None-clause-input : goal.returns-in-Some-None-clause-input
returns-in-Some-None-clause-input c = subst (λ (g : Option Text). IfOk c.input_of-in-Some-None.result (λ given. given ≡ input_of g)) (input_alone c.args.input c.args.operand c.in-Some-None.text c.in-Some-None.is-0 c.in-Some-None.is-1).0 c.input_of-in-Some-None.ensures.input

pub returns-in-Some-None-clause-lawful : goal.returns-in-Some-None-clause-lawful
returns-in-Some-None-clause-lawful c = subst (λ (b : Bool). IfOk c.input_of-in-Some-None.result (λ given. b ≡ true)) (input_alone c.args.input c.args.operand c.in-Some-None.text c.in-Some-None.is-0 c.in-Some-None.is-1).1 c.input_of-in-Some-None.ensures.lawful

pub returns-in-Some-None-clause-refused : goal.returns-in-Some-None-clause-refused
returns-in-Some-None-clause-refused c = subst (λ (b : Bool). IfErr c.input_of-in-Some-None.result (λ fault. (fault ≡ Memory) ⊎ ((fault ≡ Usage) × (b ≡ false)))) (input_alone c.args.input c.args.operand c.in-Some-None.text c.in-Some-None.is-0 c.in-Some-None.is-1).1 c.input_of-in-Some-None.ensures.refused

pub returns-in-None-Some-clause-input : goal.returns-in-None-Some-clause-input
returns-in-None-Some-clause-input c = subst (λ (g : Option Text). IfOk c.input_of.result (λ given. given ≡ input_of g)) (operand_alone c.args.input c.args.operand c.in-None-Some.text c.in-None-Some.is-0 c.in-None-Some.is-1).0 c.input_of.ensures.input

pub returns-in-None-Some-clause-lawful : goal.returns-in-None-Some-clause-lawful
returns-in-None-Some-clause-lawful c = subst (λ (b : Bool). IfOk c.input_of.result (λ given. b ≡ true)) (operand_alone c.args.input c.args.operand c.in-None-Some.text c.in-None-Some.is-0 c.in-None-Some.is-1).1 c.input_of.ensures.lawful

pub returns-in-None-Some-clause-refused : goal.returns-in-None-Some-clause-refused
returns-in-None-Some-clause-refused c = subst (λ (b : Bool). IfErr c.input_of.result (λ fault. (fault ≡ Memory) ⊎ ((fault ≡ Usage) × (b ≡ false)))) (operand_alone c.args.input c.args.operand c.in-None-Some.text c.in-None-Some.is-0 c.in-None-Some.is-1).1 c.input_of.ensures.refused

pub returns-in-Some-Some-clause-input : goal.returns-in-Some-Some-clause-input
returns-in-Some-Some-clause-input c = tt

pub returns-in-Some-Some-clause-lawful : goal.returns-in-Some-Some-clause-lawful
returns-in-Some-Some-clause-lawful c = tt

pub returns-in-Some-Some-clause-refused : goal.returns-in-Some-Some-clause-refused
returns-in-Some-Some-clause-refused c = inr (refl, both_given c.args.input c.args.operand c.in-Some-Some.field-0-0 c.in-Some-Some.field-0-1 c.in-Some-Some.is-0 c.in-Some-Some.is-1)
