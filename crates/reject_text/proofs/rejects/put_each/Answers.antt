use Rattle.std.proofs.Common.{◌≡◌, ◌<◌, ◌≤◌, ◌+◌, ◌∷◌, ℕ, List, length, take, drop, get_or, ap, subst, sym, ◌∙◌, refl, rules, arith, ◌^◌}
use Rattle.std.specs.Prelude.{pos, ◌+ℤ◌, ◌-ℤ◌, sum_by, ℤ}
use Rattle.std.specs.List.{All, flat_map}
use Rattle.std.proofs.Common.{Ok, Err}
use Rattle.outside.specs.declared.Failed.{Failed}
use Rattle.std.proofs.lemmas.Int.{ints}
use Rattle.std.proofs.lemmas.List.Sums.{sum_by_more, sum_by-take-le}
use Rattle.std.proofs.lemmas.Result.{err_from_is_err_and}
use Rattle.hunk_core.specs.declared.Hunk.{Hunk}
use Rattle.hunk_core.specs.declared.Verdict.TheVariants.{Untried}
use Rattle.hunk_core.specs.PlainHunk.{hunk_of, hunks_of}
use Rattle.hunk_core.specs.Turned.{turned, IsLawful}
use Rattle.outside.specs.Puts.{Puts}
use Rattle.outside.proofs.SinkSteps.{HasPut, has-none, has-put, has-more, puts-more, puts-stop, puts-done}
use Rattle.patch_header.specs.Written.{hunk_text}
use Rattle.reject_text.specs.Starts.{Row, net, placed_adds, placed_drops}
use Rattle.reject_text.specs.Rejects.{rows_of, reject_of, rejects}
use Rattle.reject_text.proofs.Rows.{text_to, text_at, text_behind, text-more, cut-off, rows-long, row-at, row-is, rejects-are, net-more}
use Rattle.reject_text.proofs.Signed.{high-enough, low-enough, next-fits, next-high, next-is, next-low, offset-fits, still-few}
use Rattle.reject_text.proofs.rejects.put_each.Goals as goal

abbrev lines_of : Hunk → ℕ
lines_of h = length h.body.items

abbrev lines_to : List Hunk → ℕ → ℕ
lines_to hunks n = sum_by lines_of (take n hunks)

short : (text : List ℕ) (hunks : List Hunk) (i : ℕ) (h : Hunk) → All (IsLawful text) hunks → i < length hunks → h ≡ get_or hunks i h → length h.body.items < 2 ^ 32
short text hunks i h lawful lt is = let l : IsLawful text h = subst (IsLawful text) (sym is) (lawful i h lt) in l.few

pub loop-i-init : goal.loop-i-init
loop-i-init g c = record {
  put = has-none g.met.O.Sink.rest_none c.args.out.now;
  is = refl;
  small = omega arith;
  high = omega (arith, ints);
  low = omega (arith, ints);
}

pub returns-in_err-put_if_nowhere : goal.returns-in_err-put_if_nowhere
returns-in_err-put_if_nowhere g c =
    let p = err_from_is_err_and c.from_residual.result c.from_residual.ensures.1 in
    let text = c.args.text.now in
    let side = c.args.side in
    let form = c.args.form in
    let hunks = c.args.hunks.now in
    let i = c.loop-i.i in
    let rows : List Row = rows_of side (hunks_of text hunks) c.args.verdicts.now in
    let row : Row = (turned side (hunk_of text c.index-hunks-i.result), get_or c.args.verdicts.now i Untried) in
    let lt : i < length hunks = c.loop-i-test.true in
    let long : length rows ≡ length hunks = rows-long text side hunks c.args.verdicts.now c.requires.rows in
    let here : drop i rows ≡ row ∷ drop (i + 1) rows = row-is text side hunks c.args.verdicts.now i c.index-hunks-i.result Untried lt c.requires.rows c.index-hunks-i.is in
    let put : Puts g.O.Sink.view g.O.Sink.same_rest c.loop-i.out c.put_if_nowhere.new.out (Err c.in_err-put_if_nowhere.field-0.0) (text_at form rows i row) =
    subst (λ n. Puts {R = Unit {0}} g.O.Sink.view g.O.Sink.same_rest c.loop-i.out c.put_if_nowhere.new.out (Err c.in_err-put_if_nowhere.field-0.0) (flat_map (hunk_text form) (reject_of n row))) c.loop-i.invariant.is c.in_err-put_if_nowhere.ensures in
    rw (p.1, ← cut-off form rows i row (omega arith) here)
    (puts-stop c.in_err-put_if_nowhere.field-0.0 p.0 (text_behind form rows (i + 1)) (puts-more {a = text_to form rows i} g.met.O.Sink.rest_both c.loop-i.invariant.put put))

pub loop-i-preserved : goal.loop-i-preserved
loop-i-preserved g c =
    let text = c.args.text.now in
    let side = c.args.side in
    let form = c.args.form in
    let hunks = c.args.hunks.now in
    let i = c.loop-i.i in
    let h = c.index-hunks-i.result in
    let rows : List Row = rows_of side (hunks_of text hunks) c.args.verdicts.now in
    let row : Row = (turned side (hunk_of text h), get_or c.args.verdicts.now i Untried) in
    let lt : i < length hunks = c.loop-i-test.true in
    let long : length rows ≡ length hunks = rows-long text side hunks c.args.verdicts.now c.requires.rows in
    let here : drop i rows ≡ row ∷ drop (i + 1) rows = row-is text side hunks c.args.verdicts.now i h Untried lt c.requires.rows c.index-hunks-i.is in
    let put : Puts g.O.Sink.view g.O.Sink.same_rest c.loop-i.out c.put_if_nowhere.new.out (Ok c.in_ok-put_if_nowhere.field-0) (text_at form rows i row) =
    subst (λ n. Puts {E = Failed} g.O.Sink.view g.O.Sink.same_rest c.loop-i.out c.put_if_nowhere.new.out (Ok c.in_ok-put_if_nowhere.field-0) (flat_map (hunk_text form) (reject_of n row))) c.loop-i.invariant.is c.in_ok-put_if_nowhere.ensures in
    let sum : lines_to hunks (i + 1) ≡ lines_to hunks i + length h.body.items = sum_by_more lines_of hunks i h lt ∙ ap (λ x. lines_to hunks i + lines_of x) (sym c.index-hunks-i.is) in
    let most : lines_to hunks (i + 1) ≤ sum_by lines_of hunks = sum_by-take-le lines_of hunks (i + 1) in
    let next : net (take (i + 1) rows) ≡ net (take i rows) +ℤ (pos (placed_adds row) -ℤ pos (placed_drops row)) =
    net-more rows i (turned side (hunk_of text h), Untried) row (omega arith) (row-at text side hunks c.args.verdicts.now i h Untried lt c.requires.rows c.index-hunks-i.is) in
    let step = next-is _ c.placed_growth-net.result _ _ c.loop-i.invariant.small (short text hunks i h c.requires.lawful.lawful lt c.index-hunks-i.is) c.loop-i.invariant.high c.loop-i.invariant.low c.placed_growth-net.ensures.high c.placed_growth-net.ensures.low in
    let grown : c.placed_growth-net.result ≡ pos (placed_adds row) -ℤ pos (placed_drops row) = c.placed_growth-net.ensures.is text in
    record {
      put = subst (HasPut g.O.Sink.view g.O.Sink.same_rest c.args.out.now c.put_if_nowhere.new.out) (text-more form rows i row here) (has-more g.met.O.Sink.rest_both c.loop-i.invariant.put (has-put c.in_ok-put_if_nowhere.field-0 put));
      is = step ∙ ap (λ (n : ℤ). n +ℤ c.placed_growth-net.result) c.loop-i.invariant.is ∙ ap (λ (n : ℤ). net (take i rows) +ℤ n) grown ∙ sym next;
      small = still-few _ _ most c.requires.lawful.few;
      high = next-high _ _ c.placed_growth-net.result _ _ _ step sum c.loop-i.invariant.high c.placed_growth-net.ensures.high;
      low = next-low _ _ c.placed_growth-net.result _ _ _ step sum c.loop-i.invariant.low c.placed_growth-net.ensures.low;
    }

pub returns : goal.returns
returns g c =
    let text = c.args.text.now in
    let side = c.args.side in
    let form = c.args.form in
    let hunks = c.args.hunks.now in
    let rows : List Row = rows_of side (hunks_of text hunks) c.args.verdicts.now in
    let long : length rows ≡ length hunks = rows-long text side hunks c.args.verdicts.now c.requires.rows in
    let end : c.loop-i.i ≡ length rows = search (rules, long) in
    let all : text_to form rows c.loop-i.i ≡ flat_map (hunk_text form) (rejects rows) = ap (text_to form rows) end ∙ ap (flat_map (hunk_text form)) (sym (rejects-are rows)) in
    puts-done _ (subst (HasPut g.O.Sink.view g.O.Sink.same_rest c.args.out.now c.loop-i.out) all c.loop-i.invariant.put)

pub overflow_add-net : goal.overflow_add-net
overflow_add-net g c = next-fits _ c.placed_growth-net.result _ _ c.loop-i.invariant.small (short c.args.text.now c.args.hunks.now c.loop-i.i c.index-hunks-i.result c.requires.lawful.lawful c.loop-i-test.true c.index-hunks-i.is) c.loop-i.invariant.high c.loop-i.invariant.low c.placed_growth-net.ensures.high c.placed_growth-net.ensures.low

pub placed_growth-net-requires : goal.placed_growth-net-requires
placed_growth-net-requires g c = short c.args.text.now c.args.hunks.now c.loop-i.i c.index-hunks-i.result c.requires.lawful.lawful c.loop-i-test.true c.index-hunks-i.is

pub put_if_nowhere-requires-clause-lawful : goal.put_if_nowhere-requires-clause-lawful
put_if_nowhere-requires-clause-lawful g c = subst (IsLawful c.args.text.now) (sym c.index-hunks-i.is) (c.requires.lawful.lawful c.loop-i.i c.index-hunks-i.result c.loop-i-test.true)

pub put_if_nowhere-requires-clause-low : goal.put_if_nowhere-requires-clause-low
put_if_nowhere-requires-clause-low g c = low-enough _ _ c.loop-i.invariant.small c.loop-i.invariant.low

pub put_if_nowhere-requires-clause-high : goal.put_if_nowhere-requires-clause-high
put_if_nowhere-requires-clause-high g c = high-enough _ _ c.loop-i.invariant.small c.loop-i.invariant.high

pub put_if_nowhere-requires-clause-form : goal.put_if_nowhere-requires-clause-form
put_if_nowhere-requires-clause-form g c = c.requires.form

pub bounds-verdicts-i : goal.bounds-verdicts-i
bounds-verdicts-i g c = subst (λ (n : ℕ). c.loop-i.i < n) (sym c.requires.rows) c.loop-i-test.true

pub bounds-hunks-i : goal.bounds-hunks-i
bounds-hunks-i g c = c.loop-i-test.true

pub offset_bounds-verdicts-i : goal.offset_bounds-verdicts-i
offset_bounds-verdicts-i g c = offset-fits c.loop-i.i _ c.loop-i-test.true c.requires.lawful.count

pub offset_bounds-hunks-i : goal.offset_bounds-hunks-i
offset_bounds-hunks-i g c = offset-fits c.loop-i.i _ c.loop-i-test.true c.requires.lawful.count
