use Rattle.std.proofs.Common.{List, ap, codes, sym, ℕ, ◌++◌, ◌∙◌}
use Rattle.std.proofs.lemmas.List.{append-nil}
use Rattle.num_text.specs.Numbers.{decimal}
use Rattle.cli_run_answers.specs.Reasons.{reason_of}
use Rattle.cli_run_answers.proofs.reporting.reason_of.Goals as goal

pub returns-in-TooLong : goal.returns-in-TooLong
returns-in-TooLong c = c.plain-in-TooLong.ensures ∙ sym (ap reason_of c.in-TooLong.is)

pub returns-in-NoPatchFile : goal.returns-in-NoPatchFile
returns-in-NoPatchFile c = c.plain-in-NoPatchFile.ensures ∙ sym (ap reason_of c.in-NoPatchFile.is)

pub returns-in-Garbage : goal.returns-in-Garbage
returns-in-Garbage c = c.plain-in-Garbage.ensures ∙ sym (ap reason_of c.in-Garbage.is)

pub returns-in-Usage : goal.returns-in-Usage
returns-in-Usage c = c.plain-in-Usage.ensures ∙ sym (ap reason_of c.in-Usage.is)

pub returns-in-Malformed : goal.returns-in-Malformed
returns-in-Malformed c = c.malformed.ensures ∙ sym (ap reason_of c.in-Malformed.is)

pub returns-in-Reserved : goal.returns-in-Reserved
returns-in-Reserved c = c.numbered-in-Reserved.ensures ∙ ap (λ (l : List ℕ). codes "a reserved name at line " ++ l) (append-nil (decimal c.in-Reserved.line)) ∙ sym (ap reason_of c.in-Reserved.is)

pub returns-in-OutMany : goal.returns-in-OutMany
returns-in-OutMany c = c.numbered-in-OutMany.ensures ∙ ap (λ (l : List ℕ). codes "-o takes one file patch, here are " ++ l) (append-nil (decimal c.from.result) ∙ ap decimal c.from.ensures) ∙ sym (ap reason_of c.in-OutMany.is)

pub returns-in-StackEnd : goal.returns-in-StackEnd
returns-in-StackEnd c = c.numbered-in-StackEnd.ensures ∙ ap (λ n. decimal n ++ codes " patches are applied, nothing to do") c.from-in-StackEnd.ensures ∙ sym (ap reason_of c.in-StackEnd.is)

pub returns-in-LongLine : goal.returns-in-LongLine
returns-in-LongLine c = sym (ap reason_of c.in-LongLine.is)

pub returns-in-Disagree : goal.returns-in-Disagree
returns-in-Disagree c = sym (ap reason_of c.in-Disagree.is)
