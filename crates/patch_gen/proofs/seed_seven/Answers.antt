use Rattle.std.proofs.Common.{◌≡◌, ℕ, ◌+◌, ◌*◌, ◌/◌, ◌%◌, ◌^◌, length, ap, ◌∙◌}
use Rattle.patch_gen.specs.Lcg.{draw}
use Rattle.patch_gen.specs.Texts.{extra_count}
use Rattle.patch_gen.specs.Tree.{file_state, made_file}
use Rattle.patch_gen.proofs.RunLemmas.{state-one, state-first}
use Rattle.patch_gen.proofs.LineLemmas.{length-text}
use Rattle.patch_gen.proofs.seed_seven.Goals as goal

first : draw 7 1 ≡ 1059165278
first = ap (λ y. y / 2 ^ 33) (state-one 7)

extras : (lines : ℕ) → extra_count (file_state 7 lines 1) ≡ 3
extras lines = ap extra_count (state-first 7 (1 + lines)) ∙ ap (λ d. d % 5) first

size : (lines : ℕ) → length (made_file 7 lines 1) ≡ 12 * (3 + lines)
size lines = length-text (file_state 7 lines 1) lines ∙ ap (λ n. 12 * (n + lines)) (extras lines)

pub returns : goal.returns
returns c = record { first = first; extras = λ lines. extras lines; short = size 20; long = size 200000 }
