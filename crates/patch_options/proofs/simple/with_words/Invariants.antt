use Rattle.std.proofs.Common.{◌≡◌, drop}
use Rattle.clap.specs.Words.{app_of}
use Rattle.patch_options.proofs.ByTable.{with_words}
use Rattle.patch_options.proofs.simple.with_words.Given as goal

-- the command so far, with the rows that are left, is the whole one
abbrev pub invariant-loop-word : goal.invariant-loop-word
invariant-loop-word l = with_words (app_of l.initial.command) l.words ≡ with_words (app_of l.command) (drop l.word-index l.words)
