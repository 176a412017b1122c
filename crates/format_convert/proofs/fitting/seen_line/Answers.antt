use Rattle.std.proofs.Common.{◌≡◌, ◌∷◌, ◌++◌, ℕ, List, [], Bool, cond, true, false, not, map, sym, ap, subst, ◌∙◌, ◌||◌}
use Rattle.std.proofs.lemmas.List.{append-nil}
use Rattle.hunk_core.specs.LineTests.{ends_line}
use Rattle.hunk_core.specs.PlainHunk.{Marked, bytes_at, marked_of}
use Rattle.hunk_core.specs.Rules.{lacks_inner_end}
use Rattle.format_convert.specs.Fitting.{is_own, own_lines}
use Rattle.format_convert.specs.Seeing.{Sees, ends_open}
use Rattle.format_convert.specs.declared.fitting.OpenEnds.{OpenEnds}
use Rattle.format_convert.proofs.FitLemmas.{ends-last, lacks-last, own-none, own-some}
use Rattle.format_convert.proofs.fitting.seen_line.Goals as goal

pub returns-then-not-is_own : goal.returns-then-not-is_own
returns-then-not-is_own c = λ before sees.
    let m = marked_of c.args.text.now c.args.line in
    subst (Sees c.args.seen) (sym (ap (λ ls. before ++ ls) (own-none c.args.side m (sym c.is_own.ensures ∙ c.if-not-is_own.true)) ∙ append-nil before)) sees

pub returns : goal.returns
returns c = λ before sees.
    let m = marked_of c.args.text.now c.args.line in
    let line = bytes_at c.args.text.now c.args.line.span in
    let own = own-some c.args.side m (sym c.is_own.ensures ∙ c.if-not-is_own.false) in
    let is_open : not c.has_feed.result ≡ not (ends_line (bytes_at c.args.text.now c.args.line.span)) = ap not (c.has_feed.ensures ∙ ap ends_line c.line_at.ensures) in
    subst (Sees c.seen_one.result) (ap (λ ls. before ++ ls) (sym own)) (record {
      end = c.seen_one.ensures.end ∙ is_open ∙ sym (ends-last before line);
      inside = c.seen_one.ensures.inside ∙ ap (λ (b : Bool). b || c.args.seen.open_end) sees.inside ∙ ap (λ (b : Bool). lacks_inner_end before || b) sees.end ∙ sym (lacks-last before line);
    })
