use Rattle.std.proofs.Common.{refl, sym, ◌∙◌}
use Rattle.patch_filters.proofs.Searching.{asked-none}
use Rattle.patch_filters.proofs.search.script_has_hit.Goals as goal

pub returns-then-not-is_searched : goal.returns-then-not-is_searched
returns-then-not-is_searched g c = record {
  asked = asked-none (g.F.Finder.view c.args.finder.now);
  hit = rw (sym c.is_searched.ensures ∙ c.if-not-is_searched.true) refl;
}

pub returns : goal.returns
returns g c = record {
  asked = c.edits_have_hit.ensures.asked;
  hit = rw (sym c.is_searched.ensures ∙ c.if-not-is_searched.false) c.edits_have_hit.ensures.hit;
}
