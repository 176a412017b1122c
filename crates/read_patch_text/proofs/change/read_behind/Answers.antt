use Rattle.read_patch_text.proofs.ChangeLemmas.{behind-bare, behind-hunks}
use Rattle.hunk_core.specs.Reading.{Gives}
use Rattle.std.proofs.lemmas.Result.{IfOk-weaker}
use Rattle.read_patch_text.specs.Changes.{IsBehind, IsChange, read_of}
use Rattle.read_patch_text.proofs.Passed.{bare-is, behind-is, below}
use Rattle.std.proofs.Common.{subst}
use Rattle.read_patch_text.proofs.change.read_behind.Goals as goal

pub returns-then-header : goal.returns-then-header
returns-then-header c = record {
  is = behind-bare c.args.text.now c.args.header c.bare_at.result c.if-header.true c.bare_at.ensures.is;
  exact = bare-is c.args.text.now c.args.header _ c.if-header.true c.bare_at.ensures.exact;
}

pub returns : goal.returns
returns c = record {
  is = (
      let text = c.args.text.now in
      let h = c.args.header in
      IfOk-weaker c.read_change.result (IsChange text h.form h.at h.opening) (IsBehind text h) (λ r is. behind-hunks text h r c.if-header.false is) c.read_change.ensures.is);
  exact = subst (Gives (read_of c.args.text.now) c.read_change.result) (behind-is c.args.text.now c.args.header c.if-header.false) c.read_change.ensures.exact;
}

pub bare_at-requires-clause-short : goal.bare_at-requires-clause-short
bare_at-requires-clause-short c = c.requires.short

pub bare_at-requires-clause-within : goal.bare_at-requires-clause-within
bare_at-requires-clause-within c = c.requires.within

pub bare_at-requires-clause-small : goal.bare_at-requires-clause-small
bare_at-requires-clause-small c = c.requires.small

pub read_change-requires-clause-short : goal.read_change-requires-clause-short
read_change-requires-clause-short c = c.requires.short

pub read_change-requires-clause-within : goal.read_change-requires-clause-within
read_change-requires-clause-within c = below _ _ c.requires.within

pub read_change-requires-clause-small : goal.read_change-requires-clause-small
read_change-requires-clause-small c = c.requires.small

pub read_change-requires-clause-opens : goal.read_change-requires-clause-opens
read_change-requires-clause-opens c = c.requires.opens c.if-header.false
