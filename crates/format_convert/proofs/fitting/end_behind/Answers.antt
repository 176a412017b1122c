use Rattle.std.proofs.Common.{ℕ, ◌+◌, ◌<◌, ◌^◌, Bool, cond, subst, sym, ap, ◌∙◌}
use Rattle.format_convert.specs.Walk.{own_base, own_count}
use Rattle.format_convert.proofs.Bounds.{body-short, offset-fits, own-fits}
use Rattle.format_convert.proofs.FitLemmas.{base-at, count-at}
use Rattle.format_convert.proofs.fitting.end_behind.Goals as goal

pub returns-then-not-is_kept : goal.returns-then-not-is_kept
returns-then-not-is_kept c = ap (λ (b : Bool). cond b (own_base c.args.kept c.args.hunk + own_count c.args.kept c.args.hunk) c.args.end) (sym (sym c.is_kept.ensures ∙ c.if-not-is_kept.true))

pub returns : goal.returns
returns c =
    ap (λ (q : ℕ). q + c.from.result) (c.base.ensures.is ∙ base-at c.args.kept c.requires.kept c.args.hunk c.index-kept-hunk.result c.requires.within c.index-kept-hunk.is)
    ∙ ap (λ (q : ℕ). own_base c.args.kept c.args.hunk + q) (c.from.ensures ∙ c.count.ensures ∙ count-at c.args.kept c.requires.kept c.args.hunk c.index-kept-hunk.result c.requires.within c.index-kept-hunk.is)
    ∙ ap (λ (b : Bool). cond b (own_base c.args.kept c.args.hunk + own_count c.args.kept c.args.hunk) c.args.end) (sym (sym c.is_kept.ensures ∙ c.if-not-is_kept.false))

pub base-requires : goal.base-requires
base-requires c = body-short c.args.kept c.requires.kept c.args.hunk c.index-kept-hunk.result c.requires.within

pub count-requires : goal.count-requires
count-requires c = body-short c.args.kept c.requires.kept c.args.hunk c.index-kept-hunk.result c.requires.within

pub overflow_add-result : goal.overflow_add-result
overflow_add-result c = own-fits c.base.result c.from.result c.base.ensures.small (subst (λ (n : ℕ). n < 2 ^ 32) (sym c.from.ensures) c.count.type_inv)

pub is_kept-requires-clause-within : goal.is_kept-requires-clause-within
is_kept-requires-clause-within c = c.requires.within

pub bounds-kept-hunk : goal.bounds-kept-hunk
bounds-kept-hunk c = c.requires.within

pub offset_bounds-kept-hunk : goal.offset_bounds-kept-hunk
offset_bounds-kept-hunk c = offset-fits c.args.hunk _ c.requires.within c.requires.kept.lawful.count
