use Rattle.std.proofs.Common.{◌≡◌, ◌⊎◌, ◌∙◌, Result, Ok, Err, IfOk, IfErr, string_bytes, codes, bytes_eq, ap, sym, subst, inr}
use Rattle.patch_options.specs.PlainJob.{PlainJob, plain_job}
use Rattle.patch_options.specs.declared.options.WordFault.{WordFault}
use Rattle.patch_options.specs.declared.options.WordFault.TheVariants.{Memory}
use Rattle.patch_options.proofs.Jobs.{by_patch, by_other, no_words}
use Rattle.patch_options.proofs.words.read_words.Goals as goal

pub returns-in-len1-up-clause-job : goal.returns-in-len1-up-clause-job
returns-in-len1-up-clause-job c = subst (λ (j : Result PlainJob WordFault). IfOk c.read_patch.result (λ job. j ≡ Ok (plain_job job))) (sym (by_patch string_bytes c.args.words.now c.tool-item.result c.tool-item.is (ap (λ t. bytes_eq t (codes "patch")) (sym c.as_str.ensures.value) ∙ (sym c.eq.ensures ∙ c.if-eq.true)) c.in-len1-up.len_at_least)) c.read_patch.ensures.job

pub returns-in-len1-up-clause-lawful : goal.returns-in-len1-up-clause-lawful
returns-in-len1-up-clause-lawful c = c.read_patch.ensures.lawful

pub returns-in-len1-up-clause-refused : goal.returns-in-len1-up-clause-refused
returns-in-len1-up-clause-refused c = subst (λ (j : Result PlainJob WordFault). IfErr c.read_patch.result (λ fault. (fault ≡ Memory) ⊎ (j ≡ Err fault))) (sym (by_patch string_bytes c.args.words.now c.tool-item.result c.tool-item.is (ap (λ t. bytes_eq t (codes "patch")) (sym c.as_str.ensures.value) ∙ (sym c.eq.ensures ∙ c.if-eq.true)) c.in-len1-up.len_at_least)) c.read_patch.ensures.refused

pub returns-in-len1-up-2-clause-job : goal.returns-in-len1-up-2-clause-job
returns-in-len1-up-2-clause-job c = tt

pub returns-in-len1-up-2-clause-lawful : goal.returns-in-len1-up-2-clause-lawful
returns-in-len1-up-2-clause-lawful c = tt

pub returns-in-len1-up-2-clause-refused : goal.returns-in-len1-up-2-clause-refused
returns-in-len1-up-2-clause-refused c = inr (by_other string_bytes c.args.words.now c.tool-item.result c.tool-item.is (ap (λ t. bytes_eq t (codes "patch")) (sym c.as_str.ensures.value) ∙ (sym c.eq.ensures ∙ c.if-eq.false)) c.in-len1-up.len_at_least)

pub returns-in-empty-clause-job : goal.returns-in-empty-clause-job
returns-in-empty-clause-job c = tt

pub returns-in-empty-clause-lawful : goal.returns-in-empty-clause-lawful
returns-in-empty-clause-lawful c = tt

pub returns-in-empty-clause-refused : goal.returns-in-empty-clause-refused
returns-in-empty-clause-refused c = inr (no_words string_bytes c.args.words.now c.in-empty.len_below)
