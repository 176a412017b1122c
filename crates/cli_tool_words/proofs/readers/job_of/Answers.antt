use Rattle.cli_tool_words.proofs.readers.job_of.Goals as goal

pub returns-in-Lsdiff : goal.returns-in-Lsdiff
returns-in-Lsdiff c = rw c.in-Lsdiff.is c.list_of.ensures

pub returns-in-Filterdiff : goal.returns-in-Filterdiff
returns-in-Filterdiff c = rw c.in-Filterdiff.is c.filter_of.ensures

pub returns-in-Grepdiff : goal.returns-in-Grepdiff
returns-in-Grepdiff c = rw c.in-Grepdiff.is c.grep_of.ensures

pub returns-in-Splitdiff : goal.returns-in-Splitdiff
returns-in-Splitdiff c = rw c.in-Splitdiff.is c.split_of.ensures

pub returns-in-Recountdiff : goal.returns-in-Recountdiff
returns-in-Recountdiff c = rw c.in-Recountdiff.is c.recount_of.ensures

pub returns-in-Patchgen : goal.returns-in-Patchgen
returns-in-Patchgen c = rw c.in-Patchgen.is c.gen_of.ensures

pub returns-in-Reversediff : goal.returns-in-Reversediff
returns-in-Reversediff c = rw c.in-Reversediff.is c.flip_of.ensures

pub returns-in-Patchstack : goal.returns-in-Patchstack
returns-in-Patchstack c = rw c.in-Patchstack.is c.stack_of.ensures
