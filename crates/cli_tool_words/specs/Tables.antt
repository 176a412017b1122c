-- The tables of the words of the tools beside `patch` (manual pages of patchutils).
use Rattle.std.specs.Prelude.{ℕ, List, [], ◌∷◌, ◌++◌, codes, Some}
use Rattle.clap.specs.Words.{Text}
use Rattle.patch_options.specs.Simple.{PlainWord, a_word, long_switch, named, operand, option, switch}
use Rattle.patch_options.specs.declared.simple.WordForm.TheVariants.{Letter, Values}

-- which file patches are meant by their names; the letters in ASCII: p 112, i 105, x 120
abbrev pub name_words : List PlainWord
name_words = option 112 (codes "strip-match") ∷ a_word Values (Some 105) (codes "include") ∷ a_word Values (Some 120) (codes "exclude") ∷ []

-- files of patterns: I 73, X 88
abbrev pub file_words : List PlainWord
file_words = option 73 (codes "include-from-file") ∷ option 88 (codes "exclude-from-file") ∷ []

-- the text that is read
abbrev pub input_table : List PlainWord
input_table = operand (codes "input") ∷ []

-- the same where binary changes can be passed over
abbrev pub subject_table : List PlainWord
subject_table = long_switch (codes "skip-binary") ∷ input_table

-- how file patches are shown: s 115, n 110, v 118, H 72, h 104
abbrev pub shown_words : List PlainWord
shown_words = switch 115 (codes "status") ∷ switch 110 (codes "line-number") ∷ switch 118 (codes "verbose") ∷ switch 72 (codes "with-filename") ∷ switch 104 (codes "no-filename") ∷ named (codes "strip") ∷ named (codes "addprefix") ∷ []

-- N 78, E 69
abbrev pub list_table : List PlainWord
list_table = shown_words ++ switch 78 (codes "number-files") ∷ switch 69 (codes "empty-files-as-absent") ∷ long_switch (codes "empty-files-as-removed") ∷ (name_words ++ file_words) ++ subject_table

-- what is done to the lines that are written
abbrev pub style_words : List PlainWord
style_words = long_switch (codes "clean") ∷ named (codes "strip") ∷ named (codes "addprefix") ∷ named (codes "addoldprefix") ∷ named (codes "addnewprefix") ∷ long_switch (codes "remove-timestamps") ∷ []

-- what is told of hunks, or written in place of them
abbrev pub mark_words : List PlainWord
mark_words = long_switch (codes "annotate") ∷ named (codes "as-numbered-lines") ∷ []

-- F 70, # 35, v 118
abbrev pub filter_table : List PlainWord
filter_table = name_words ++ file_words ++ (option 70 (codes "files") ∷ option 35 (codes "hunks") ∷ named (codes "lines") ∷ named (codes "format") ∷ switch 118 (codes "verbose") ∷ (style_words ++ (mark_words ++ subject_table)))

-- f 102, E 69
abbrev pub grep_table : List PlainWord
grep_table = (name_words ++ file_words) ++ named (codes "only-match") ∷ shown_words ++ named (codes "output-matching") ∷ (mark_words ++ option 102 (codes "file") ∷ switch 69 (codes "extended-regexp") ∷ operand (codes "regex") ∷ subject_table)

-- a switch that has a letter alone
abbrev pub letter : ℕ → Text → PlainWord
letter byte name = a_word Letter (Some byte) name

-- a 97, d 100, D 68, E 69, p 112, v 118
abbrev pub split_table : List PlainWord
split_table = letter 97 (codes "every") ∷ letter 100 (codes "by-name") ∷ option 68 (codes "directory") ∷ letter 69 (codes "bare") ∷ option 112 (codes "strip-match") ∷ letter 118 (codes "verbose") ∷ named (codes "sync") ∷ subject_table

abbrev pub gen_table : List PlainWord
gen_table = operand (codes "seed") ∷ operand (codes "files") ∷ operand (codes "lines") ∷ named (codes "plan") ∷ named (codes "buffer") ∷ named (codes "sync") ∷ []

abbrev pub stack_table : List PlainWord
stack_table = operand (codes "operation") ∷ switch 97 (codes "all") ∷ named (codes "sync") ∷ []
