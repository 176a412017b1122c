use Rattle.std.proofs.Common.{◌≡◌, ◌⊎◌, ◌∙◌, Bool, true, false, List, ℕ, Option, IfOk, IfErr, sym, subst}
use Rattle.patch_options.specs.Table.{text_of}
use Rattle.patch_options.specs.declared.options.WordFault.TheVariants.{Usage, Memory}
use Rattle.patch_options.proofs.Refusing.{reject_dash, reject_name}
use Rattle.patch_options.proofs.names.read_reject.Goals as goal

pub returns-then-is_no_file-clause-name : goal.returns-then-is_no_file-clause-name
returns-then-is_no_file-clause-name c = (reject_dash (text_of c.args.text) (sym c.is_no_file.ensures ∙ c.if-is_no_file.true)).0

pub returns-then-is_no_file-clause-lawful : goal.returns-then-is_no_file-clause-lawful
returns-then-is_no_file-clause-lawful c = (reject_dash (text_of c.args.text) (sym c.is_no_file.ensures ∙ c.if-is_no_file.true)).1

pub returns-else-is_no_file-clause-name : goal.returns-else-is_no_file-clause-name
returns-else-is_no_file-clause-name c =
    subst (λ (name : Option (List ℕ)). IfOk c.read_lasting_name.result (λ given. given ≡ name)) (reject_name (text_of c.args.text) (sym c.is_no_file.ensures ∙ c.if-is_no_file.false)).0 c.read_lasting_name.ensures.name

pub returns-else-is_no_file-clause-lawful : goal.returns-else-is_no_file-clause-lawful
returns-else-is_no_file-clause-lawful c =
    subst (λ (is : Bool). IfOk c.read_lasting_name.result (λ given. is ≡ true)) (reject_name (text_of c.args.text) (sym c.is_no_file.ensures ∙ c.if-is_no_file.false)).1 c.read_lasting_name.ensures.lawful

pub returns-else-is_no_file-clause-refused : goal.returns-else-is_no_file-clause-refused
returns-else-is_no_file-clause-refused c =
    subst (λ (is : Bool). IfErr c.read_lasting_name.result (λ fault. (fault ≡ Memory) ⊎ ((fault ≡ Usage) × (is ≡ false)))) (reject_name (text_of c.args.text) (sym c.is_no_file.ensures ∙ c.if-is_no_file.false)).1 c.read_lasting_name.ensures.refused
