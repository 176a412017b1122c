use Rattle.read_patch_text.specs.Patches.{begins_change}
use Rattle.std.proofs.Common.{drop, subst, true, ◌≡◌}
use Rattle.line_list.specs.Lines.{lines}
use Rattle.read_patch_text.proofs.digest.digest_behind.Goals as goal

pub digest_whole-requires-clause-within : goal.digest_whole-requires-clause-within
digest_whole-requires-clause-within c = c.requires.within

pub digest_unified-requires-clause-within : goal.digest_unified-requires-clause-within
digest_unified-requires-clause-within c = c.requires.within

pub digest_whole-requires-clause-small : goal.digest_whole-requires-clause-small
digest_whole-requires-clause-small c = c.requires.small

pub digest_unified-requires-clause-small : goal.digest_unified-requires-clause-small
digest_unified-requires-clause-small c = c.requires.small

pub digest_whole-requires-clause-short : goal.digest_whole-requires-clause-short
digest_whole-requires-clause-short c = c.requires.short

pub digest_unified-requires-clause-short : goal.digest_unified-requires-clause-short
digest_unified-requires-clause-short c = c.requires.short

pub digest_unified-requires-clause-opens : goal.digest_unified-requires-clause-opens
digest_unified-requires-clause-opens c = subst (λ f. begins_change f (lines (drop c.args.header.at c.args.text.now)) ≡ true) (c.is_unified.ensures.form c.if-is_unified.true) (c.requires.opens (c.is_unified.ensures.bare c.if-is_unified.true))

pub digest_unified-requires-clause-some : goal.digest_unified-requires-clause-some
digest_unified-requires-clause-some c = c.is_unified.ensures.bare c.if-is_unified.true

pub digest_unified-requires-clause-form : goal.digest_unified-requires-clause-form
digest_unified-requires-clause-form c = c.is_unified.ensures.form c.if-is_unified.true

pub returns : goal.returns
returns c = record {
  is = c.digest_whole.ensures.is;
  exact = c.digest_whole.ensures.exact;
}

pub returns-then-is_unified : goal.returns-then-is_unified
returns-then-is_unified c = record {
  is = c.digest_unified.ensures.is;
  exact = c.digest_unified.ensures.exact;
}

pub digest_whole-requires-clause-opens : goal.digest_whole-requires-clause-opens
digest_whole-requires-clause-opens c = c.requires.opens
