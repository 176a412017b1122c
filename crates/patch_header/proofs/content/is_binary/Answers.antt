use Rattle.std.proofs.Common.{◌∙◌, ap}
use Rattle.std.specs.Prelude.{codes, nat_eq, bytes_eq}
use Rattle.std.specs.List.{ends_with}
use Rattle.patch_header.proofs.Tests.{first-of, second-of, first-no, both-asked}
use Rattle.patch_header.proofs.content.is_binary.Goals as goal

pub returns-then-eq : goal.returns-then-eq
returns-then-eq c = first-of _ _ _ (c.eq.ensures ∙ ap (bytes_eq c.content-bytes.result.now) c.as_slice.ensures ∙ ap (λ b. bytes_eq b (codes "GIT binary patch")) c.content-bytes.ensures) c.if-eq.true

pub returns-else-starts : goal.returns-else-starts
returns-else-starts c = second-of _ _ _ _ (c.eq.ensures ∙ ap (bytes_eq c.content-bytes.result.now) c.as_slice.ensures ∙ ap (λ b. bytes_eq b (codes "GIT binary patch")) c.content-bytes.ensures) c.if-eq.false (first-no _ _ _ c.starts.ensures c.if-starts.false)

pub returns-then-starts : goal.returns-then-starts
returns-then-starts c = second-of _ _ _ _ (c.eq.ensures ∙ ap (bytes_eq c.content-bytes.result.now) c.as_slice.ensures ∙ ap (λ b. bytes_eq b (codes "GIT binary patch")) c.content-bytes.ensures) c.if-eq.false
    (both-asked _ _ _ _ c.starts.ensures c.if-starts.true (c.ends_with.ensures.value ∙ ap (λ b. ends_with nat_eq b (codes " differ")) c.content-bytes.ensures))
