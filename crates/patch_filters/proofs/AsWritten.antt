-- A compiled pattern matches where its text says.
use Rattle.std.proofs.Common.{◌≡◌, ℕ, ◌<◌, List, false, get_or, Option, None, Some, IsSomeAnd, is_some}
use Rattle.std.specs.Prelude.{option_and_then, chars}
use Rattle.regex.specs.Patterns.{Re, SameCaptures, Reads, find}
use Rattle.regex.specs.Bytes.{regex_pattern, regex_source, regex_config, regex_names, IsReadFromSource}
use Rattle.regex.specs.declared.bytes.regex.Regex.{Regex}
use Rattle.regex.proofs.ForCallers.{is_match_alike}
use Rattle.regex_syntax.specs.Brackets.{Nested}
use Rattle.regex_syntax.specs.Grammar.{Names, read}
use Rattle.patch_filters.specs.RegexFound.{byte_config, regex_hit, IsAsWritten}

hit-alike : (o : Option (Nested Re × Names)) (P : Nested Re × Names → Type 0) (a : Re) (line : List ℕ) → ((k : ℕ) → get_or line k 0 < 256) →
    ((x : Nested Re × Names) → P x → SameCaptures a x.0.value) → IsSomeAnd o P →
    is_some (find a line 0) ≡ is_some (option_and_then (λ (re, names). find re.value line 0) o)
hit-alike None P a line bytes same p = absurd p
hit-alike (Some x) P a line bytes same p = is_match_alike (same x p) line bytes false 0

pub as-written : (r : Regex) → regex_config r ≡ byte_config → IsReadFromSource r → IsAsWritten (regex_source r) (regex_pattern r)
unfolding Reads regex_hit
as-written r is_config is_read line bytes =
    let reads : Reads byte_config (regex_source r) r.pattern.program.hir (regex_names r) = rw is_config at is_read in
    hit-alike (read byte_config (chars (regex_source r))) _ (regex_pattern r) line bytes (λ x h. h.1) reads
