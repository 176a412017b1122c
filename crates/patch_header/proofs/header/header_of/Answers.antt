use Rattle.std.proofs.Common.{refl}
use Rattle.patch_header.proofs.header.header_of.Goals as goal

pub name_in-old_name-requires-clause-lies : goal.name_in-old_name-requires-clause-lies
name_in-old_name-requires-clause-lies c = c.old_tail-old.ensures.lies c.args.text.now c.requires.lies

pub name_in-requires-clause-lies : goal.name_in-requires-clause-lies
name_in-requires-clause-lies c = c.new_tail-new.ensures.lies c.args.text.now c.requires.lies

pub index_in-requires-clause-lies : goal.index_in-requires-clause-lies
index_in-requires-clause-lies c = c.requires.lies.index

pub word_in-requires-clause-lies : goal.word_in-requires-clause-lies
word_in-requires-clause-lies c = c.requires.lies.prereq

pub stamp_in-requires : goal.stamp_in-requires
stamp_in-requires c = c.old_tail-old.ensures.lies c.args.text.now c.requires.lies

pub stamp_in-requires-2 : goal.stamp_in-requires-2
stamp_in-requires-2 c = c.new_tail-new.ensures.lies c.args.text.now c.requires.lies

pub from_in-requires-clause-lies : goal.from_in-requires-clause-lies
from_in-requires-clause-lies c = c.requires.led

pub to_in-requires-clause-lies : goal.to_in-requires-clause-lies
to_in-requires-clause-lies c = c.requires.led

pub returns-clause-pieces : goal.returns-clause-pieces
returns-clause-pieces c = record { old_name = c.name_in-old_name.ensures.piece; new_name = c.name_in.ensures.piece; index = c.index_in.ensures.piece; prereq = c.word_in.ensures.piece; from = c.from_in.ensures.piece; to = c.to_in.ensures.piece; old_mode = c.whole_in.ensures.piece; new_mode = c.whole_in-2.ensures.piece }

pub to_in-requires-clause-short : goal.to_in-requires-clause-short
to_in-requires-clause-short c = c.requires.short

pub from_in-requires-clause-short : goal.from_in-requires-clause-short
from_in-requires-clause-short c = c.requires.short

pub word_in-requires-clause-short : goal.word_in-requires-clause-short
word_in-requires-clause-short c = c.requires.short

pub index_in-requires-clause-short : goal.index_in-requires-clause-short
index_in-requires-clause-short c = c.requires.short

pub name_in-requires-clause-short : goal.name_in-requires-clause-short
name_in-requires-clause-short c = c.requires.short

pub name_in-old_name-requires-clause-short : goal.name_in-old_name-requires-clause-short
name_in-old_name-requires-clause-short c = c.requires.short

pub returns-clause-opening : goal.returns-clause-opening
returns-clause-opening c = refl

pub returns-clause-form : goal.returns-clause-form
returns-clause-form c = refl

pub returns-clause-at : goal.returns-clause-at
returns-clause-at c = refl

pub whole_in-requires-clause-lies : goal.whole_in-requires-clause-lies
whole_in-requires-clause-lies c = c.requires.led.old_mode

pub whole_in-requires-2-clause-lies : goal.whole_in-requires-2-clause-lies
whole_in-requires-2-clause-lies c = c.requires.led.new_mode

pub whole_in-requires-clause-short : goal.whole_in-requires-clause-short
whole_in-requires-clause-short c = c.requires.short

pub whole_in-requires-2-clause-short : goal.whole_in-requires-2-clause-short
whole_in-requires-2-clause-short c = c.requires.short
