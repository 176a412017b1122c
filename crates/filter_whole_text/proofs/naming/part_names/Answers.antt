use Rattle.std.proofs.Common.{◌≡◌, ℕ, List, [], length, sym, ◌∙◌, ap}
use Rattle.std.proofs.lemmas.Result.{IfOk-weaker}
use Rattle.cli_tool_words.specs.PlainJobs.{plain_split_job}
use Rattle.split_recount.specs.Parts.{rows_of}
use Rattle.filter_whole_text.specs.PartNames.{numbered_names, own_names, part_names}
use Rattle.filter_whole_text.proofs.NameLoops.{names-numbered, names-owned}
use Rattle.filter_whole_text.proofs.naming.part_names.Goals as goal

pub returns-then-not-is_by_name : goal.returns-then-not-is_by_name
returns-then-not-is_by_name c =
    let j = plain_split_job c.args.job.now in
    IfOk-weaker c.numbered_names.result (λ names. names.items ≡ numbered_names j.input (length c.args.parts.now)) (λ names. names.items ≡ part_names j (rows_of c.args.set.now) c.args.parts.now)
    (λ names is. is ∙ names-numbered j (rows_of c.args.set.now) c.args.parts.now (sym c.is_by_name.ensures ∙ c.if-not-is_by_name.true))
    c.numbered_names.ensures

pub returns : goal.returns
returns c =
    let j = plain_split_job c.args.job.now in
    IfOk-weaker c.own_names-names.result (λ names. names.items ≡ own_names j [] 1 c.deref.result.now) (λ names. names.items ≡ part_names j (rows_of c.args.set.now) c.args.parts.now)
    (λ names is. is ∙ ap (λ (l : List (List ℕ)). own_names j [] 1 l) (c.deref.ensures.value ∙ c.in_ok-stems.ensures) ∙ names-owned j (rows_of c.args.set.now) c.args.parts.now (sym c.is_by_name.ensures ∙ c.if-not-is_by_name.false))
    c.own_names-names.ensures
