use Rattle.std.proofs.Common.{refl}
use Rattle.patch_header.proofs.bare.bare_header.Goals as goal

pub returns-clause-pieces : goal.returns-clause-pieces
returns-clause-pieces c = record { old_name = c.old_half.ensures.piece; new_name = c.new_half.ensures.piece; index = c.index_in.ensures.piece; prereq = c.word_in.ensures.piece; from = c.from_in.ensures.piece; to = c.to_in.ensures.piece; old_mode = c.whole_in.ensures.piece; new_mode = c.whole_in-2.ensures.piece }

pub to_in-requires-clause-lies : goal.to_in-requires-clause-lies
to_in-requires-clause-lies c = c.requires.lines

pub to_in-requires-clause-short : goal.to_in-requires-clause-short
to_in-requires-clause-short c = c.requires.short

pub from_in-requires-clause-lies : goal.from_in-requires-clause-lies
from_in-requires-clause-lies c = c.requires.lines

pub from_in-requires-clause-short : goal.from_in-requires-clause-short
from_in-requires-clause-short c = c.requires.short

pub word_in-requires-clause-lies : goal.word_in-requires-clause-lies
word_in-requires-clause-lies c = c.requires.seen.prereq

pub word_in-requires-clause-short : goal.word_in-requires-clause-short
word_in-requires-clause-short c = c.requires.short

pub index_in-requires-clause-short : goal.index_in-requires-clause-short
index_in-requires-clause-short c = c.requires.short

pub index_in-requires-clause-lies : goal.index_in-requires-clause-lies
index_in-requires-clause-lies c = c.requires.seen.index

pub new_half-requires-clause-short : goal.new_half-requires-clause-short
new_half-requires-clause-short c = c.requires.short

pub old_half-requires-clause-short : goal.old_half-requires-clause-short
old_half-requires-clause-short c = c.requires.short

pub new_half-requires-clause-lies : goal.new_half-requires-clause-lies
new_half-requires-clause-lies c = c.requires.rest

pub old_half-requires-clause-lies : goal.old_half-requires-clause-lies
old_half-requires-clause-lies c = c.requires.rest

pub returns-clause-opening : goal.returns-clause-opening
returns-clause-opening c = refl

pub returns-clause-form : goal.returns-clause-form
returns-clause-form c = refl

pub returns-clause-at : goal.returns-clause-at
returns-clause-at c = refl

pub whole_in-requires-clause-lies : goal.whole_in-requires-clause-lies
whole_in-requires-clause-lies c = c.requires.lines.old_mode

pub whole_in-requires-2-clause-lies : goal.whole_in-requires-2-clause-lies
whole_in-requires-2-clause-lies c = c.requires.lines.new_mode

pub whole_in-requires-clause-short : goal.whole_in-requires-clause-short
whole_in-requires-clause-short c = c.requires.short

pub whole_in-requires-2-clause-short : goal.whole_in-requires-2-clause-short
whole_in-requires-2-clause-short c = c.requires.short
