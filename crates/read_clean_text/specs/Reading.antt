-- A patch text as a command reads it.
use Rattle.std.specs.Prelude.{ℕ, List}
use Rattle.patch_options.specs.PlainJob.{PlainOptions}
use Rattle.patch_set.specs.Asked.{ways_of}
use Rattle.read_git_order.specs.Ordered.{ordered}
use Rattle.read_clean_text.specs.Cleaned.{cleaned}
use Rattle.read_clean_text.specs.Indents.{unindented}

-- without its indent, if it has one, without the carriage returns that are no file's, and with what one `git diff` wrote in the order in which it
-- is carried out
abbrev pub clean_of : PlainOptions → List ℕ → List ℕ
clean_of o given = ordered o (cleaned (ways_of o) o.keep_returns (unindented (ways_of o) given))
