use Rattle.std.proofs.Common.{ℕ, Bool, ◌&&◌, sym, ap, ◌∙◌}
use Rattle.std.specs.Prelude.{nat_lt}
use Rattle.format_convert.specs.Walk.{own_base}
use Rattle.format_convert.proofs.Bounds.{body-short, offset-fits}
use Rattle.format_convert.proofs.FitLemmas.{base-at}
use Rattle.format_convert.proofs.fitting.stands_before.Goals as goal

pub returns-then-not-is_kept : goal.returns-then-not-is_kept
returns-then-not-is_kept c = ap (λ (b : Bool). b && nat_lt (own_base c.args.kept c.args.hunk) c.args.end) (sym (sym c.is_kept.ensures ∙ c.if-not-is_kept.true))

pub returns : goal.returns
returns c =
    ap (λ (q : ℕ). nat_lt q c.args.end) (c.base.ensures.is ∙ base-at c.args.kept c.requires.kept c.args.hunk c.index-kept-hunk.result c.requires.within c.index-kept-hunk.is)
    ∙ ap (λ (b : Bool). b && nat_lt (own_base c.args.kept c.args.hunk) c.args.end) (sym (sym c.is_kept.ensures ∙ c.if-not-is_kept.false))

pub base-requires : goal.base-requires
base-requires c = body-short c.args.kept c.requires.kept c.args.hunk c.index-kept-hunk.result c.requires.within

pub is_kept-requires-clause-within : goal.is_kept-requires-clause-within
is_kept-requires-clause-within c = c.requires.within

pub bounds-kept-hunk : goal.bounds-kept-hunk
bounds-kept-hunk c = c.requires.within

pub offset_bounds-kept-hunk : goal.offset_bounds-kept-hunk
offset_bounds-kept-hunk c = offset-fits c.args.hunk _ c.requires.within c.requires.kept.lawful.count
