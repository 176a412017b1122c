-- Two sets whose file patches are the same and lie at the same places.
use Rattle.std.specs.Prelude.{◌≡◌, map}
use Rattle.patch_set.specs.SetView.{SetView, plain_patches}

-- their text, what their file patches stand for, where these and their hunks lie, which verdicts are theirs, their targets, and the binary changes that were passed over
pub record AreOne (v w : SetView) : Type 0 where
  pub text : v.text ≡ w.text
  pub patches : plain_patches v ≡ plain_patches w
  pub headers : map (λ p. p.header) v.patches ≡ map (λ p. p.header) w.patches
  pub spans : map (λ p. p.span) v.patches ≡ map (λ p. p.span) w.patches
  pub hunk_spans : map (λ p. p.hunk_spans.items) v.patches ≡ map (λ p. p.hunk_spans.items) w.patches
  pub firsts : map (λ p. p.first_verdict) v.patches ≡ map (λ p. p.first_verdict) w.patches
  pub targets : map (λ p. p.targets.items) v.patches ≡ map (λ p. p.targets.items) w.patches
  pub output : v.output ≡ w.output
  pub skipped : v.skipped ≡ w.skipped
