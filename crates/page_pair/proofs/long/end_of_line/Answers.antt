use Rattle.std.proofs.Common.{◌≡◌, ◌<◌, ℕ, List, length, ◌∙◌, arith, Bool, true, false, ◌∷◌, sym}
use Rattle.std.specs.Prelude.{not, drop, slice_range}
use Rattle.outside.proofs.Views.{untouched_both}
use Rattle.page_pair.specs.Reading.{GoesTo, IsOpen, IsReadFault}
use Rattle.page_pair.proofs.Opens.{open-end}
use Rattle.page_pair.proofs.Readings.{told-later, read-later, told-sooner}
use Rattle.line_list.specs.Lines.{lines}
use Rattle.outside.proofs.Exits.{if_ok_none}
use Rattle.page_pair.proofs.Pieces.{err-as, under}
use Rattle.page_pair.proofs.long.end_of_line.Goals as goal

still : (text : List ℕ) (at end : ℕ) (b : Bool) → not b ≡ true → GoesTo text at end b → IsOpen text at end
still text at end true e h = absurd cc
still text at end false e h = h

over : (text : List ℕ) (at end : ℕ) (b : Bool) → not b ≡ false → GoesTo text at end b → lines (drop at text) ≡ slice_range text at end ∷ lines (drop end text)
over text at end true e h = h
over text at end false e h = absurd cc

pub returns-in_err-known : goal.returns-in_err-known
returns-in_err-known g c = record {
  untouched = untouched_both c.loop-known.invariant.untouched c.in_err-known.ensures.untouched;
  size = c.in_err-known.ensures.size ∙ c.loop-known.invariant.size;
  low = if_ok_none _ _ c.from_residual.result c.from_residual.ensures.1;
  high = if_ok_none _ _ c.from_residual.result c.from_residual.ensures.1;
  line = if_ok_none _ _ c.from_residual.result c.from_residual.ensures.1;
  cause = err-as (λ e. IsReadFault e (g.T.Tree.view c.args.tree.now) (g.T.Tree.view c.read_on.new.tree)) c.in_err-known.field-0.0 c.from_residual.result c.from_residual.ensures.1 (read-later c.in_err-known.field-0.0 (g.T.Tree.view c.args.tree.now) (g.T.Tree.view c.loop-known.tree) (g.T.Tree.view c.read_on.new.tree) c.loop-known.invariant.untouched c.in_err-known.ensures.cause);
}

pub loop-known-preserved : goal.loop-known-preserved
loop-known-preserved g c = record {
  untouched = untouched_both c.loop-known.invariant.untouched c.in_ok-known.ensures.untouched;
  size = c.in_ok-known.ensures.size ∙ c.loop-known.invariant.size;
  low = let a : c.loop-known.known.end < c.in_ok-known.known.end = c.in_ok-known.ensures.low in omega arith;
  high = c.in_ok-known.ensures.high;
  goes = λ text told. c.in_ok-known.ensures.goes text (told-later c.args.name.now text c.loop-known.invariant.untouched told);
}

pub returns-else-known-length : goal.returns-else-known-length
returns-else-known-length g c = record {
  line = λ text told. let len : length text ≡ c.args.length = c.requires.stated text told in
      open-end text c.args.at c.loop-known.known.end (omega arith) (omega arith) (still text c.args.at c.loop-known.known.end c.loop-known.known.is_ended c.loop-known-test.true (c.loop-known.invariant.goes text told));
  untouched = c.loop-known.invariant.untouched;
  size = c.loop-known.invariant.size;
  low = c.loop-known.invariant.low;
  high = c.loop-known.invariant.high;
  cause = tt;
}

pub read_on-requires-clause-there : goal.read_on-requires-clause-there
read_on-requires-clause-there g c f told = c.requires.there f (sym c.loop-known.invariant.untouched.told ∙ told)

pub read_on-requires-clause-stated : goal.read_on-requires-clause-stated
read_on-requires-clause-stated g c text later = c.requires.stated text (told-sooner c.args.name.now text c.loop-known.invariant.untouched later)

pub read_on-requires-clause-is_open : goal.read_on-requires-clause-is_open
read_on-requires-clause-is_open g c text later = still text c.args.at c.loop-known.known.end c.loop-known.known.is_ended c.loop-known-test.true (c.loop-known.invariant.goes text (told-sooner c.args.name.now text c.loop-known.invariant.untouched later))

pub read_on-requires-clause-few : goal.read_on-requires-clause-few
read_on-requires-clause-few g c = c.requires.few

pub read_on-requires-clause-high : goal.read_on-requires-clause-high
read_on-requires-clause-high g c = c.if-known-length.true

pub read_on-requires-clause-low : goal.read_on-requires-clause-low
read_on-requires-clause-low g c = under _ _ _ c.requires.low c.loop-known.invariant.low

pub returns-after-loop-known : goal.returns-after-loop-known
returns-after-loop-known g c = record {
  untouched = c.loop-known.invariant.untouched;
  size = c.loop-known.invariant.size;
  low = c.loop-known.invariant.low;
  high = c.loop-known.invariant.high;
  cause = tt;
  line = λ text told. over text c.args.at c.loop-known.known.end c.loop-known.known.is_ended c.loop-known-test.false (c.loop-known.invariant.goes text told);
}
