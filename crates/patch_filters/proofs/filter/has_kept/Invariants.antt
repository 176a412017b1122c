use Rattle.std.proofs.Common.{◌≡◌, take, false}
use Rattle.std.specs.List.{list_any}
use Rattle.cli_tool_words.specs.PlainJobs.{plain_filter_job}
use Rattle.patch_filters.specs.Digested.{digest_kept}
use Rattle.patch_filters.proofs.filter.has_kept.Given as goal

-- no hunk so far is kept
abbrev pub invariant-loop-hunk : goal.invariant-loop-hunk
invariant-loop-hunk l = list_any (λ is. is) (take l.hunk (digest_kept (plain_filter_job l.job) l.text l.patch l.olds)) ≡ false
