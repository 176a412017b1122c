use Rattle.std.proofs.Common.{◌≡◌, ◌<◌, ◌≤◌, ◌+◌, ◌∷◌, [], ℕ, List, length, take, drop, get_or, Ok, Err, ap, subst, sym, ◌∙◌, refl, arith, to_z, w64}
use Rattle.std.specs.Prelude.{ℤ, pos, ◌+ℤ◌, ◌-ℤ◌, sum_by}
use Rattle.std.proofs.lemmas.Int.{ints}
use Rattle.std.proofs.lemmas.List.Sums.{sum_by_more, sum_by-take-le}
use Rattle.std.proofs.lemmas.Result.{err_from_is_err_and}
use Rattle.outside.specs.SinkView.{Writes}
use Rattle.hunk_core.specs.declared.Hunk.{Hunk}
use Rattle.hunk_core.specs.declared.Verdict.TheVariants.{Untried}
use Rattle.hunk_core.specs.PlainHunk.{hunk_of, hunks_of}
use Rattle.hunk_core.specs.Turned.{turned, IsLawful}
use Rattle.outside.proofs.SinkSteps.{has-none, has-put}
use Rattle.outside.specs.declared.Failed.{Failed}
use Rattle.patch_options.specs.PlainJob.{plain_options}
use Rattle.reject_text.specs.Starts.{Row, net, placed_adds, placed_drops}
use Rattle.reject_text.specs.Rejects.{rows_of}
use Rattle.reject_text.proofs.Rows.{rows-long, row-at, row-is, net-more}
use Rattle.apply_outcome.specs.HunksSaid.{hunks_said, hunk_said}
use Rattle.apply_outcome.proofs.Telling.{HasSaid, puts-of, writes-of, said-more, said-stop, said-all, said-step, said-end, grown-is, grown-fits, grown-high, grown-low, few-high, few-low, part-few, all-few}
use Rattle.apply_outcome.proofs.saying.say_hunks.Goals as goal

abbrev lines_of : Hunk → ℕ
lines_of h = length h.body.items

abbrev lines_to : List Hunk → ℕ → ℕ
lines_to hunks n = sum_by lines_of (take n hunks)

pub loop-i-init : goal.loop-i-init
loop-i-init g c = record {
  said = record { said = []; put = has-none g.met.O.Sink.rest_none c.args.out.now; all = refl };
  is = refl;
  small = omega arith;
  high = omega (arith, ints);
  low = omega (arith, ints);
}

pub loop-i-preserved : goal.loop-i-preserved
loop-i-preserved g c =
    let o = plain_options c.args.options.now in
    let text = c.args.text.now in
    let side = c.args.side in
    let hunks = c.args.hunks.now in
    let i = c.loop-i.i in
    let h = c.index-hunks-i.result in
    let rows : List Row = rows_of side (hunks_of text hunks) c.args.verdicts.now in
    let row : Row = (turned side (hunk_of text h), get_or c.args.verdicts.now i Untried) in
    let lt : i < length hunks = c.loop-i-test.true in
    let long : length rows ≡ length hunks = rows-long text side hunks c.args.verdicts.now c.requires.rows in
    let here : drop i rows ≡ row ∷ drop (i + 1) rows = row-is text side hunks c.args.verdicts.now i h Untried lt c.requires.rows c.index-hunks-i.is in
    let w : Writes (g.O.Sink.view c.loop-i.out) (g.O.Sink.view c.say_hunk.new.out) (Ok c.in_ok-say_hunk.field-0) (hunk_said o c.args.end (i + 1) (net (take i rows)) row.0 row.1) =
    subst (λ (n : ℤ). Writes {E = Failed} (g.O.Sink.view c.loop-i.out) (g.O.Sink.view c.say_hunk.new.out) (Ok c.in_ok-say_hunk.field-0) (hunk_said o c.args.end (i + 1) n row.0 row.1)) c.loop-i.invariant.is c.in_ok-say_hunk.ensures.writes in
    let sum : lines_to hunks (i + 1) ≡ lines_to hunks i + length h.body.items = sum_by_more lines_of hunks i h lt ∙ ap (λ x. lines_to hunks i + lines_of x) (sym c.index-hunks-i.is) in
    let most : lines_to hunks (i + 1) ≤ sum_by lines_of hunks = sum_by-take-le lines_of hunks (i + 1) in
    let next : net (take (i + 1) rows) ≡ net (take i rows) +ℤ (pos (placed_adds row) -ℤ pos (placed_drops row)) =
    net-more rows i (turned side (hunk_of text h), Untried) row (omega arith) (row-at text side hunks c.args.verdicts.now i h Untried lt c.requires.rows c.index-hunks-i.is) in
    let grown : c.placed_growth-net.result ≡ pos (placed_adds row) -ℤ pos (placed_drops row) = c.placed_growth-net.ensures.is text in
    record {
      said = said-more (hunk_said o c.args.end (i + 1) (net (take i rows)) row.0 row.1) (hunks_said o c.args.end (take (i + 1) rows) (drop (i + 1) rows)) g.met.O.Sink.rest_both c.loop-i.invariant.said (said-step o c.args.end rows i row (omega arith) here)
          (has-put c.in_ok-say_hunk.field-0 (puts-of {view = g.O.Sink.view} {same = g.O.Sink.same_rest} w c.in_ok-say_hunk.ensures.rest));
      is = grown-is (to_z w64 c.loop-i.net-bits) c.placed_growth-net.result (lines_to hunks i) (length h.body.items) (lines_to hunks (i + 1)) sum (all-few (lines_to hunks (i + 1)) (sum_by lines_of hunks) most c.requires.lawful.few) c.loop-i.invariant.high c.loop-i.invariant.low c.placed_growth-net.ensures.high c.placed_growth-net.ensures.low ∙ ap (λ (z : ℤ). z +ℤ c.placed_growth-net.result) c.loop-i.invariant.is ∙ ap (λ (z : ℤ). net (take i rows) +ℤ z) grown ∙ sym next;
      small = all-few (lines_to hunks (i + 1)) (sum_by lines_of hunks) most c.requires.lawful.few;
      high = grown-high (to_z w64 c.loop-i.net-bits) c.placed_growth-net.result (lines_to hunks i) (length h.body.items) (lines_to hunks (i + 1)) sum (all-few (lines_to hunks (i + 1)) (sum_by lines_of hunks) most c.requires.lawful.few) c.loop-i.invariant.high c.loop-i.invariant.low c.placed_growth-net.ensures.high c.placed_growth-net.ensures.low;
      low = grown-low (to_z w64 c.loop-i.net-bits) c.placed_growth-net.result (lines_to hunks i) (length h.body.items) (lines_to hunks (i + 1)) sum (all-few (lines_to hunks (i + 1)) (sum_by lines_of hunks) most c.requires.lawful.few) c.loop-i.invariant.high c.loop-i.invariant.low c.placed_growth-net.ensures.high c.placed_growth-net.ensures.low;
    }

pub overflow_add-net : goal.overflow_add-net
overflow_add-net g c =
    let hunks = c.args.hunks.now in
    let i = c.loop-i.i in
    let h = c.index-hunks-i.result in
    let sum : lines_to hunks (i + 1) ≡ lines_to hunks i + length h.body.items = sum_by_more lines_of hunks i h c.loop-i-test.true ∙ ap (λ x. lines_to hunks i + lines_of x) (sym c.index-hunks-i.is) in
    let most : lines_to hunks (i + 1) ≤ sum_by lines_of hunks = sum_by-take-le lines_of hunks (i + 1) in
    grown-fits (to_z w64 c.loop-i.net-bits) c.placed_growth-net.result (lines_to hunks i) (length h.body.items) (lines_to hunks (i + 1)) sum (all-few (lines_to hunks (i + 1)) (sum_by lines_of hunks) most c.requires.lawful.few) c.loop-i.invariant.high c.loop-i.invariant.low c.placed_growth-net.ensures.high c.placed_growth-net.ensures.low

pub placed_growth-net-requires : goal.placed_growth-net-requires
placed_growth-net-requires g c =
    let hunks = c.args.hunks.now in
    let i = c.loop-i.i in
    let h = c.index-hunks-i.result in
    let sum : lines_to hunks (i + 1) ≡ lines_to hunks i + length h.body.items = sum_by_more lines_of hunks i h c.loop-i-test.true ∙ ap (λ x. lines_to hunks i + lines_of x) (sym c.index-hunks-i.is) in
    let most : lines_to hunks (i + 1) ≤ sum_by lines_of hunks = sum_by-take-le lines_of hunks (i + 1) in
    part-few (lines_to hunks i) (length h.body.items) (lines_to hunks (i + 1)) (sum_by lines_of hunks) sum most c.requires.lawful.few

pub say_hunk-requires-clause-lawful : goal.say_hunk-requires-clause-lawful
say_hunk-requires-clause-lawful g c =
    subst (λ (h : Hunk). IsLawful c.args.text.now h) (sym c.index-hunks-i.is) (c.requires.lawful.lawful c.loop-i.i c.index-hunks-i.result c.loop-i-test.true)

pub say_hunk-requires-clause-low : goal.say_hunk-requires-clause-low
say_hunk-requires-clause-low g c = few-low (to_z w64 c.loop-i.net-bits) (lines_to c.args.hunks.now c.loop-i.i) c.loop-i.invariant.small c.loop-i.invariant.low

pub say_hunk-requires-clause-tried : goal.say_hunk-requires-clause-tried
say_hunk-requires-clause-tried g c = c.requires.tried c.loop-i.i Untried (subst (λ n. c.loop-i.i < n) (sym c.requires.rows) c.loop-i-test.true)

pub say_hunk-requires-clause-high : goal.say_hunk-requires-clause-high
say_hunk-requires-clause-high g c = few-high (to_z w64 c.loop-i.net-bits) (lines_to c.args.hunks.now c.loop-i.i) c.loop-i.invariant.small c.loop-i.invariant.high

pub returns : goal.returns
returns g c = record {
  writes = (
      let o = plain_options c.args.options.now in
      let hunks = c.args.hunks.now in
      let rows : List Row = rows_of c.args.side (hunks_of c.args.text.now hunks) c.args.verdicts.now in
      let long : length rows ≡ length hunks = rows-long c.args.text.now c.args.side hunks c.args.verdicts.now c.requires.rows in
      let so = subst (λ (left : List ℕ). HasSaid g.O.Sink.view g.O.Sink.same_rest c.args.out.now c.loop-i.out left (hunks_said o c.args.end [] rows)) (said-end o c.args.end rows c.loop-i.i (omega arith)) c.loop-i.invariant.said in
      writes-of (said-all _ so));
  rest = c.loop-i.invariant.said.put.rest;
}

pub bounds-verdicts-i : goal.bounds-verdicts-i
bounds-verdicts-i g c = subst (λ n. c.loop-i.i < n) (sym c.requires.rows) c.loop-i-test.true

pub bounds-hunks-i : goal.bounds-hunks-i
bounds-hunks-i g c = c.loop-i-test.true

pub returns-in_err-say_hunk : goal.returns-in_err-say_hunk
returns-in_err-say_hunk g c = record {
  writes = (
      let o = plain_options c.args.options.now in
      let p = err_from_is_err_and c.from_residual.result c.from_residual.ensures.1 in
      let text = c.args.text.now in
      let side = c.args.side in
      let hunks = c.args.hunks.now in
      let i = c.loop-i.i in
      let h = c.index-hunks-i.result in
      let rows : List Row = rows_of side (hunks_of text hunks) c.args.verdicts.now in
      let row : Row = (turned side (hunk_of text h), get_or c.args.verdicts.now i Untried) in
      let lt : i < length hunks = c.loop-i-test.true in
      let long : length rows ≡ length hunks = rows-long text side hunks c.args.verdicts.now c.requires.rows in
      let here : drop i rows ≡ row ∷ drop (i + 1) rows = row-is text side hunks c.args.verdicts.now i h Untried lt c.requires.rows c.index-hunks-i.is in
      let next = said-step o c.args.end rows i row (omega arith) here in
      let w : Writes (g.O.Sink.view c.loop-i.out) (g.O.Sink.view c.say_hunk.new.out) (Err c.in_err-say_hunk.field-0.0) (hunk_said o c.args.end (i + 1) (net (take i rows)) row.0 row.1) =
      subst (λ (n : ℤ). Writes {R = Unit {0}} (g.O.Sink.view c.loop-i.out) (g.O.Sink.view c.say_hunk.new.out) (Err c.in_err-say_hunk.field-0.0) (hunk_said o c.args.end (i + 1) n row.0 row.1)) c.loop-i.invariant.is c.in_err-say_hunk.ensures.writes in
      rw p.1 (writes-of (said-stop {left = hunks_said o c.args.end (take i rows) (drop i rows)} c.in_err-say_hunk.field-0.0 p.0 (hunk_said o c.args.end (i + 1) (net (take i rows)) row.0 row.1) (hunks_said o c.args.end (take (i + 1) rows) (drop (i + 1) rows)) g.met.O.Sink.rest_both c.loop-i.invariant.said next
      (puts-of {view = g.O.Sink.view} {same = g.O.Sink.same_rest} w c.in_err-say_hunk.ensures.rest))));
  rest = g.met.O.Sink.rest_both _ _ _ c.loop-i.invariant.said.put.rest c.in_err-say_hunk.ensures.rest;
}
