use Rattle.std.proofs.Common.{◌≡◌, ◌&&◌, IfOk, sym, ap, subst, ◌∙◌}
use Rattle.hunk_core.specs.PlainHunk.{bytes_at}
use Rattle.patch_header.specs.Content.{content}
use Rattle.patch_filters.specs.Grepped.{test_of}
use Rattle.patch_filters.proofs.Searching.{asked-none}
use Rattle.patch_filters.proofs.search.line_has_hit.Goals as goal

pub returns-then-not-is_searched : goal.returns-then-not-is_searched
returns-then-not-is_searched g c = record {
  asked = asked-none (g.F.Finder.view c.args.finder.now);
  hit = sym (ap (λ b. b && test_of (g.F.Finder.view c.args.finder.now) (content (bytes_at c.args.text.now c.args.line.span))) (sym c.is_searched.ensures ∙ c.if-not-is_searched.true));
}

pub returns : goal.returns
returns g c = record {
  asked = c.has_hit.ensures.asked;
  hit = (
      let test = test_of (g.F.Finder.view c.args.finder.now) in
      let line = content (bytes_at c.args.text.now c.args.line.span) in
      subst (λ flag. IfOk c.has_hit.result (λ b. b ≡ flag)) (ap (λ l. test (content l)) c.bytes_at.ensures ∙ sym (ap (λ b. b && test line) (sym c.is_searched.ensures ∙ c.if-not-is_searched.false))) c.has_hit.ensures.hit);
}
