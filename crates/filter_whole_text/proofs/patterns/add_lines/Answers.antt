use Rattle.std.proofs.Common.{ℕ, ◌++◌, map, All, Vec, Global, sym, ap, subst, ◌∙◌, arith}
use Rattle.std.specs.List.{slice_range}
use Rattle.std.proofs.lemmas.List.{append-nil}
use Rattle.line_list.specs.Places.{IsWithin}
use Rattle.filter_whole_text.proofs.Choosing.{patterns_at, patterns-all, patterns-more, within-first, within-more}
use Rattle.filter_whole_text.proofs.patterns.add_lines.Goals as goal

pub loop-start-init : goal.loop-start-init
loop-start-init c =
    let text = c.args.text.now in
    let same = c.into_iter-start-iterator.ensures.into_iter_gives in record {
      within = subst (λ ps. All (IsWithin text) ps) (sym same) c.lines_of-start-items.ensures.within;
      added = ap (λ l. map (λ p. p.items) c.args.patterns.now.items ++ l) (patterns-all text c.into_iter-start-iterator.result (ap (map (λ (p : ℕ × ℕ). slice_range text p.0 p.1)) same ∙ c.lines_of-start-items.ensures.cut));
    }

pub slice_bounds-add_line-count : goal.slice_bounds-add_line-count
slice_bounds-add_line-count c =
    let h = within-first c.args.text.now (c.in-Some.start, c.in-Some.end) c.next.new.self (subst (λ ps. All (IsWithin c.args.text.now) ps) c.in-Some.ensures.steps c.loop-start.invariant.within) in
    omega (arith, h.some, h.high)

pub slice_bounds-add_line-start : goal.slice_bounds-add_line-start
slice_bounds-add_line-start c =
    let h = within-first c.args.text.now (c.in-Some.start, c.in-Some.end) c.next.new.self (subst (λ ps. All (IsWithin c.args.text.now) ps) c.in-Some.ensures.steps c.loop-start.invariant.within) in
    omega (arith, h.some, h.high)

pub slice_bounds-add_line-end : goal.slice_bounds-add_line-end
slice_bounds-add_line-end c =
    let h = within-first c.args.text.now (c.in-Some.start, c.in-Some.end) c.next.new.self (subst (λ ps. All (IsWithin c.args.text.now) ps) c.in-Some.ensures.steps c.loop-start.invariant.within) in
    omega (arith, h.some, h.high)

pub loop-start-preserved : goal.loop-start-preserved
loop-start-preserved c =
    let text = c.args.text.now in
    let place : ℕ × ℕ = (c.in-Some.start, c.in-Some.end) in
    let more = c.next.new.self in
    let before = map (λ (p : Vec ℕ Global). p.items) c.loop-start.patterns.items in record {
      within = within-more text place more (subst (λ ps. All (IsWithin text) ps) c.in-Some.ensures.steps c.loop-start.invariant.within);
      added = ap (λ l. l ++ patterns_at text more) c.in_ok-add_line.ensures
          ∙ sym (patterns-more text before place more)
          ∙ ap (λ ps. before ++ patterns_at text ps) (sym c.in-Some.ensures.steps)
          ∙ c.loop-start.invariant.added;
    }

pub returns : goal.returns
returns c =
    let text = c.args.text.now in
    let before = map (λ (p : Vec ℕ Global). p.items) c.loop-start.patterns.items in
    sym (append-nil before) ∙ ap (λ ps. before ++ patterns_at text ps) (sym c.in-None.ensures.steps.0) ∙ c.loop-start.invariant.added
