use Rattle.std.proofs.Common.{◌≡◌, ◌+◌, ◌-◌, ◌<◌, ◌≤◌, eqb, eq-eqb, ℕ, List, length, min, take, drop, Some, sym, refl, subst, ◌∙◌, arith, inl, inr}
use Rattle.std.proofs.lemmas.Bool.{eqb-true, cases_eq}
use Rattle.std.proofs.lemmas.List.{length-take}
use Rattle.line_list.specs.Lines.{lines}
use Rattle.line_store.specs.declared.Half.TheVariants.{First, Second}
use Rattle.outside.specs.Files.{bytes_at}
use Rattle.page_pair.specs.Pair.{page_of}
use Rattle.page_pair.specs.Records.{longest}
use Rattle.page_pair.specs.Reading.{told_file, IsPart, HasNoFeed}
use Rattle.plan_b.specs.Copying.{IsCopied}
use Rattle.page_pair.proofs.Windows.{none-unless}
use Rattle.page_pair.proofs.Readings.{part-made, open-made}
use Rattle.plan_b.proofs.Copyings.{take-fault, copied-more, copied-short}
use Rattle.page_pair.proofs.Opens.{open-wide}
use Rattle.outside.specs.ScratchView.{scratch_passes_none}
use Rattle.plan_b.proofs.copying.copy_piece.Goals as goal

pub returns-in-Err-copy_lines : goal.returns-in-Err-copy_lines
returns-in-Err-copy_lines g c = record {
  untouched = c.in-Ok.ensures.untouched;
  size = c.copy_lines.ensures.size ∙ c.in-Ok.ensures.size;
  passes = c.copy_lines.ensures.passes;
  ready = tt;
  few = tt;
  on = tt;
  within = tt;
  copied = tt;
  cause = (
      let view = g.C.Scratch.view in
      let tree = g.T.Tree.view in
      take-fault c.in-Err-copy_lines.fault c.args.layout (view c.args.scratch.now) (view c.copy_lines.new.scratch) (tree c.args.tree.now) (tree c.read_piece.new.tree) (take c.in-Ok.got (page_of c.read_piece.new.pair First)) (eqb (c.args.copied.at + c.in-Ok.got) c.args.length)
      c.in-Err-copy_lines.ensures.cause
      (λ wide. none-unless _ (λ f told.
      let text : List ℕ = bytes_at f c.args.name.now in
      let file : told_file (tree c.args.tree.now) c.args.name.now ≡ Some (bytes_at f c.args.name.now) = rw told refl in
      let len : length (bytes_at f c.args.name.now) ≡ c.args.length = c.requires.stated (bytes_at f c.args.name.now) file in
      let n : c.in-Ok.got ≡ min c.args.pair.now.size (c.args.length - c.args.copied.at) = c.in-Ok.ensures.count in
      let part : IsPart (bytes_at f c.args.name.now) (take c.in-Ok.got (page_of c.read_piece.new.pair First)) c.args.copied.at (eqb (c.args.copied.at + c.in-Ok.got) c.args.length) =
      part-made (bytes_at f c.args.name.now) (page_of c.read_piece.new.pair First) c.args.copied.at c.in-Ok.got (eqb (c.args.copied.at + c.in-Ok.got) c.args.length) (c.in-Ok.ensures.bytes (bytes_at f c.args.name.now) file) (omega arith) (λ is. eqb-true _ _ is ∙ sym len) in
      let over : c.args.layout.width < 4 + longest (lines (drop c.args.copied.at (bytes_at f c.args.name.now))) = wide (bytes_at f c.args.name.now) c.args.copied.at part in
      let fits : c.args.layout.width ≡ 4 + longest (lines (bytes_at f c.args.name.now)) = c.requires.fits (bytes_at f c.args.name.now) file in
      let short : longest (lines (drop c.args.copied.at (bytes_at f c.args.name.now))) ≤ longest (lines (bytes_at f c.args.name.now)) = copied-short c.args.layout _ _ _ c.args.copied.at c.args.copied.filling (bytes_at f c.args.name.now) c.requires.copied file in
      omega arith)));
}

pub returns-then-now-eq0 : goal.returns-then-now-eq0
returns-then-now-eq0 g c = record {
  untouched = c.in-Ok.ensures.untouched;
  size = c.copy_lines.ensures.size ∙ c.in-Ok.ensures.size;
  passes = c.copy_lines.ensures.passes;
  ready = tt;
  few = tt;
  on = tt;
  within = tt;
  copied = tt;
  cause = (
      let tree = g.T.Tree.view in
      let size : c.args.layout.size ≡ c.args.pair.now.size = c.requires.size in
      let high : c.args.layout.width ≤ c.args.layout.size = c.requires.layout.high in
      let sized : 512 ≤ c.args.layout.size = c.requires.layout.sized.0 in
      let low : 4 ≤ c.args.layout.width = c.requires.layout.low in
      let n : c.in-Ok.got ≡ min c.args.pair.now.size (c.args.length - c.args.copied.at) = c.in-Ok.ensures.count in
      let page : length (page_of c.read_piece.new.pair First) ≡ c.args.pair.now.size = c.in-Ok.ensures.pair.first ∙ c.in-Ok.ensures.size in
      let piece : length (take c.in-Ok.got (page_of c.read_piece.new.pair First)) ≡ min c.in-Ok.got (length (page_of c.read_piece.new.pair First)) = length-take c.in-Ok.got (page_of c.read_piece.new.pair First) in
      let none : c.in-Ok-copy_lines.now.at ≡ 0 = c.if-now-eq0.true in
      let full : c.in-Ok.got ≡ c.args.layout.size = elim (cases_eq (c.args.copied.at + c.in-Ok.got) c.args.length) [
        | inl e ↦ absurd (let last : c.in-Ok-copy_lines.now.at ≡ length (take c.in-Ok.got (page_of c.read_piece.new.pair First)) = c.in-Ok-copy_lines.ensures.left.last (eq-eqb _ _ e) in omega (arith, last, none, piece, page, n, size, sized, c.requires.within))
        | inr ne ↦ omega (arith, ne, n, size, c.requires.within)
      ] in (
        (λ e. omega (arith, e, full, high, low, sized)),
        none-unless _ (λ f told.
            let file : told_file (tree c.args.tree.now) c.args.name.now ≡ Some (bytes_at f c.args.name.now) = rw told refl in
            let len : length (bytes_at f c.args.name.now) ≡ c.args.length = c.requires.stated (bytes_at f c.args.name.now) file in
            let wide : c.in-Ok.got ≤ longest (lines (drop c.args.copied.at (bytes_at f c.args.name.now))) =
            open-wide (bytes_at f c.args.name.now) c.args.copied.at c.in-Ok.got (omega arith)
            (open-made (bytes_at f c.args.name.now) (page_of c.read_piece.new.pair First) c.args.copied.at c.in-Ok.got (c.in-Ok.ensures.bytes (bytes_at f c.args.name.now) file) (omega arith)
            (subst (λ k. HasNoFeed (drop k (take c.in-Ok.got (page_of c.read_piece.new.pair First)))) none c.in-Ok-copy_lines.ensures.left.open_)) in
            let fits : c.args.layout.width ≡ 4 + longest (lines (bytes_at f c.args.name.now)) = c.requires.fits (bytes_at f c.args.name.now) file in
            let short : longest (lines (drop c.args.copied.at (bytes_at f c.args.name.now))) ≤ longest (lines (bytes_at f c.args.name.now)) = copied-short c.args.layout _ _ _ c.args.copied.at c.args.copied.filling (bytes_at f c.args.name.now) c.requires.copied file in
            omega (arith, wide, fits, short, full, high, low)),
      ));
}

pub returns : goal.returns
returns g c = record {
  untouched = c.in-Ok.ensures.untouched;
  size = c.copy_lines.ensures.size ∙ c.in-Ok.ensures.size;
  passes = c.copy_lines.ensures.passes;
  ready = c.in-Ok-copy_lines.ensures.ready;
  few = omega (arith, c.requires.few, c.in-Ok-copy_lines.ensures.count);
  on = omega arith;
  within = omega (arith, c.in-Ok-copy_lines.ensures.within, c.in-Ok.ensures.count);
  copied = (
      let view = g.C.Scratch.view in
      let tree = g.T.Tree.view in
      let n : c.in-Ok.got ≡ min c.args.pair.now.size (c.args.length - c.args.copied.at) = c.in-Ok.ensures.count in
      copied-more c.args.layout (view c.args.scratch.now).told (view c.copy_lines.new.scratch).told (told_file (tree c.args.tree.now) c.args.name.now) (page_of c.read_piece.new.pair Second) (page_of c.copy_lines.new.pair Second) c.args.copied.at c.in-Ok-copy_lines.now.at c.args.copied.filling c.in-Ok-copy_lines.now.filling
      (take c.in-Ok.got (page_of c.read_piece.new.pair First)) (eqb (c.args.copied.at + c.in-Ok.got) c.args.length)
      (subst (λ p. IsCopied c.args.layout (view c.args.scratch.now).told p c.args.copied.at c.args.copied.filling (told_file (tree c.args.tree.now) c.args.name.now)) (sym c.in-Ok.ensures.second) c.requires.copied)
      c.in-Ok-copy_lines.ensures.copies
      (λ text file.
      let len : length text ≡ c.args.length = c.requires.stated text file in
      part-made text (page_of c.read_piece.new.pair First) c.args.copied.at c.in-Ok.got (eqb (c.args.copied.at + c.in-Ok.got) c.args.length) (c.in-Ok.ensures.bytes text file) (omega arith) (λ is. eqb-true _ _ is ∙ sym len)));
  cause = tt;
}

pub copy_lines-requires-clause-layout : goal.copy_lines-requires-clause-layout
copy_lines-requires-clause-layout g c = c.requires.layout

pub copy_lines-requires-clause-size : goal.copy_lines-requires-clause-size
copy_lines-requires-clause-size g c = c.requires.size ∙ sym c.in-Ok.ensures.size

pub copy_lines-requires-clause-ready : goal.copy_lines-requires-clause-ready
copy_lines-requires-clause-ready g c = c.requires.ready

pub read_piece-requires-clause-there : goal.read_piece-requires-clause-there
read_piece-requires-clause-there g c = c.requires.there

pub read_piece-requires-clause-stated : goal.read_piece-requires-clause-stated
read_piece-requires-clause-stated g c = c.requires.stated

pub returns-in-Err-clause-untouched : goal.returns-in-Err-clause-untouched
returns-in-Err-clause-untouched g c = c.in-Err.ensures.untouched

pub returns-in-Err-clause-size : goal.returns-in-Err-clause-size
returns-in-Err-clause-size g c = c.in-Err.ensures.size

pub returns-in-Err-clause-passes : goal.returns-in-Err-clause-passes
returns-in-Err-clause-passes g c = scratch_passes_none _

pub returns-in-Err-clause-ready : goal.returns-in-Err-clause-ready
returns-in-Err-clause-ready g c = tt

pub returns-in-Err-clause-few : goal.returns-in-Err-clause-few
returns-in-Err-clause-few g c = tt

pub returns-in-Err-clause-on : goal.returns-in-Err-clause-on
returns-in-Err-clause-on g c = tt

pub returns-in-Err-clause-within : goal.returns-in-Err-clause-within
returns-in-Err-clause-within g c = tt

pub returns-in-Err-clause-copied : goal.returns-in-Err-clause-copied
returns-in-Err-clause-copied g c = tt

pub overflow_sub-result : goal.overflow_sub-result
overflow_sub-result g c = c.requires.layout.low

pub overflow_add-result : goal.overflow_add-result
overflow_add-result g c = omega (arith, c.in-Ok-copy_lines.ensures.within, c.in-Ok.ensures.count, c.requires.short, c.requires.within)

pub copy_lines-requires-clause-few : goal.copy_lines-requires-clause-few
copy_lines-requires-clause-few g c = omega (arith, c.requires.few, c.in-Ok.ensures.count, c.requires.short, c.requires.within)

pub copy_lines-requires-clause-within : goal.copy_lines-requires-clause-within
copy_lines-requires-clause-within g c = omega (arith, c.in-Ok.ensures.count, c.in-Ok.ensures.size)

pub overflow_add-is_last : goal.overflow_add-is_last
overflow_add-is_last g c = omega (arith, c.in-Ok.ensures.count, c.requires.short, c.requires.within)
