-- What a finder of regular expressions finds.
use Rattle.std.specs.Prelude.{◌≡◌, ◌≢◌, ℕ, ◌<◌, List, get_or, Bool, false, is_some, option_and_then, chars}
use Rattle.regex.specs.Patterns.{Re, Config, default_config, find}
use Rattle.regex.specs.Sources.{IsRefusal}
use Rattle.regex.specs.Failures.{IsRightKind}
use Rattle.regex.specs.declared.error.Error.{Error}
use Rattle.regex.specs.declared.error.Error.TheVariants.{OutOfMemory}
use Rattle.regex_syntax.specs.Grammar.{read}

-- the options under which a pattern is read for lines of any bytes
abbrev pub byte_config : Config
byte_config = record default_config { utf8 = false }

-- the text is a pattern, and what it is read as matches somewhere in the line
unfoldable pub regex_hit : List ℕ → List ℕ → Bool
regex_hit pattern line = is_some (option_and_then (λ (re, names). find re.value line 0) (read byte_config (chars pattern)))

-- in each line the pattern matches where the text says
abbrev pub IsAsWritten : List ℕ → Re → Type 0
IsAsWritten source re = (line : List ℕ) → ((k : ℕ) → get_or line k 0 < 256) → is_some (find re line 0) ≡ regex_hit source line

-- the library refuses the text: the grammar doesn't read it, or it is a pattern that takes more room than is given
pub record IsNoPattern (source : List ℕ) : Type 0 where
  pub error : Error
  pub no_memory : error ≢ OutOfMemory
  pub grammar : IsRefusal byte_config source error
  pub kind : IsRightKind byte_config source error
