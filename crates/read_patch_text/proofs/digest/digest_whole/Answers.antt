use Rattle.read_patch_text.proofs.DigestLemmas.{short-change, each-digested, behind-digests}
use Rattle.hunk_core.specs.Reading.{ahead}
use Rattle.line_list.specs.Lines.{lines}
use Rattle.std.specs.Prelude.{drop}
use Rattle.hunk_core.specs.declared.fault.FormFault.TheVariants.{Memory}
use Rattle.read_patch_text.specs.Digests.{digested_change}
use Rattle.read_patch_text.proofs.Passed.{fails-on, fault-given, nothing-said}
use Rattle.read_patch_text.proofs.digest.digest_whole.Goals as goal

pub old_ranges-requires : goal.old_ranges-requires
old_ranges-requires c = short-change c.args.text.now c.in_ok-read.read.change c.in_ok-read.ensures.is.lawful

pub returns : goal.returns
returns c = record {
  is = (
      let text = c.args.text.now in
      let is = c.in_ok-read.ensures.is in
      record {
        lawful = c.no_hunks.ensures.lawful text is.lawful;
        cut = is.cut;
        each = each-digested text c.in_ok-read.read.change c.no_hunks.result c.in_ok-olds.olds.items _ is.each (c.no_hunks.ensures.is text) (c.in_ok-olds.ensures text);
        ends = is.ends;
        some = is.some;
        high = is.high;
        numbers = is.numbers;
        dots = is.dots;
      });
  exact = (
      let text = c.args.text.now in
      let read = c.in_ok-read.read in
      behind-digests text c.args.header read.change c.no_hunks.result c.in_ok-olds.olds.items (ahead read.next (lines (drop read.end text))) (c.no_hunks.ensures.is text) (c.in_ok-olds.ensures text) c.in_ok-read.ensures.exact);
}

pub returns-in_err-read-clause-exact : goal.returns-in_err-read-clause-exact
returns-in_err-read-clause-exact c = fault-given _ c.in_err-read.field-0.0 c.from_residual.result _ c.from_residual.ensures.1 (fails-on c.in_err-read.field-0.0 _ digested_change c.in_err-read.ensures.exact)

pub read_behind-requires-clause-within : goal.read_behind-requires-clause-within
read_behind-requires-clause-within c = c.requires.within

pub read_behind-requires-clause-small : goal.read_behind-requires-clause-small
read_behind-requires-clause-small c = c.requires.small

pub returns-in_err-olds : goal.returns-in_err-olds
returns-in_err-olds c = record {
  is = nothing-said _ _ c.from_residual-in_err-olds.result c.from_residual-in_err-olds.ensures.1;
  exact = fault-given _ Memory c.from_residual-in_err-olds.result _ c.from_residual-in_err-olds.ensures.1 tt;
}

pub read_behind-requires-clause-opens : goal.read_behind-requires-clause-opens
read_behind-requires-clause-opens c = c.requires.opens

pub read_behind-requires-clause-short : goal.read_behind-requires-clause-short
read_behind-requires-clause-short c = c.requires.short
