-- The table of the words of `patch` (POSIX `patch`, OPTIONS; the manual of GNU diffutils, section 'patch Options').
use Rattle.std.specs.Prelude.{List, [], ◌∷◌, ◌++◌, codes}
use Rattle.patch_options.specs.Simple.{PlainWord, named, operand, option, switch, long_switch}

-- what is read, and how it is taken; the letters in ASCII: p 112, d 100, i 105, c 99, e 101, n 110, u 117, R 82, F 70, l 108, N 78, t 116, f 102
abbrev pub input_words : List PlainWord
input_words = operand (codes "file") ∷ operand (codes "patchfile") ∷ option 112 (codes "strip")
    ∷ option 100 (codes "directory") ∷ option 105 (codes "input") ∷ switch 99 (codes "context") ∷ switch 101 (codes "ed")
    ∷ switch 110 (codes "normal") ∷ switch 117 (codes "unified") ∷ long_switch (codes "posix") ∷ long_switch (codes "skip-binary")
    ∷ switch 82 (codes "reverse") ∷ option 70 (codes "fuzz") ∷ switch 108 (codes "ignore-whitespace") ∷ switch 78 (codes "forward")
    ∷ switch 116 (codes "batch") ∷ switch 102 (codes "force") ∷ long_switch (codes "follow-symlinks") ∷ []

-- what is written, and what is said; o 111, r 114, D 68, E 69, s 115, T 84, Z 90
abbrev pub output_words : List PlainWord
output_words = option 111 (codes "output") ∷ option 114 (codes "reject-file") ∷ named (codes "reject-format")
    ∷ option 68 (codes "ifdef") ∷ switch 69 (codes "remove-empty-files") ∷ long_switch (codes "dry-run")
    ∷ switch 115 (codes "silent") ∷ long_switch (codes "quiet") ∷ long_switch (codes "verbose")
    ∷ switch 84 (codes "set-time") ∷ switch 90 (codes "set-utc") ∷ named (codes "read-only") ∷ named (codes "sync") ∷ []

-- what is kept of old bytes; b 98, z 122, B 66, Y 89, V 86
abbrev pub backup_words : List PlainWord
backup_words = switch 98 (codes "backup") ∷ long_switch (codes "backup-if-mismatch")
    ∷ long_switch (codes "no-backup-if-mismatch") ∷ option 122 (codes "suffix") ∷ option 66 (codes "prefix")
    ∷ option 89 (codes "basename-prefix") ∷ option 86 (codes "version-control") ∷ []

-- how the lines of a file are held
abbrev pub line_words : List PlainWord
line_words = named (codes "plan") ∷ named (codes "buffer") ∷ []

-- what other programs pass, and what changes nothing; g 103, x 120
abbrev pub other_words : List PlainWord
other_words = option 103 (codes "get") ∷ option 120 (codes "debug") ∷ long_switch (codes "binary") ∷ named (codes "quoting-style") ∷ []

abbrev pub patch_table : List PlainWord
patch_table = input_words ++ (output_words ++ (backup_words ++ (line_words ++ other_words)))
