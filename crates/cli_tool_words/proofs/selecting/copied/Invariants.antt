use Rattle.std.proofs.Common.{◌≡◌, map, take}
use Rattle.cli_tool_words.proofs.selecting.copied.Given as goal

abbrev pub invariant-loop-text : goal.invariant-loop-text
invariant-loop-text l = map (λ p. p.items) l.list.items ≡ map (λ t. t.now) (take l.text-index l.texts)
