use Rattle.std.proofs.Common.{◌≡◌, ◌+◌, ◌-◌, ◌≤◌, ℕ, length, Some, ap, ◌∙◌, arith, refl}
use Rattle.std.specs.List.{slice_range}
use Rattle.line_store.specs.declared.fault.OpenFault.TheVariants.{LongLine}
use Rattle.page_pair.proofs.Cuts.{slice-length}
use Rattle.page_pair.proofs.Measures.{measured-long}
use Rattle.page_pair.proofs.Readings.{refusal-long, measure-read}
use Rattle.page_pair.specs.Reading.{IsMeasureFault}
use Rattle.page_pair.proofs.Pieces.{err-as}
use Rattle.page_pair.proofs.measuring.refuse_long.Goals as goal

pub returns : goal.returns
returns g c = record {
  cause = let s = c.args.start in
      let end : ℕ = c.in_ok-end.end in
      let low : c.args.from ≤ c.in_ok-end.end = c.in_ok-end.ensures.low in
      let high : c.in_ok-end.end ≤ c.args.length = c.in_ok-end.ensures.high in (
        omega arith,
        λ text told.
            let len : length text ≡ c.args.length = c.requires.stated text told in
            let wide : length (slice_range text s.at c.in_ok-end.end) ≡ c.in_ok-end.end - s.at = slice-length text s.at c.in_ok-end.end (omega arith) (omega arith) in
            refusal-long c.args.pair.now.size text _ (omega arith)
            (measured-long text s.at c.in_ok-end.end s.count s.longest c.args.pair.now.size (slice_range text s.at c.in_ok-end.end) (c.requires.measured text told) (c.in_ok-end.ensures.line text told) c.requires.sound.short (omega arith)
            ∙ ap (λ n. Some (LongLine (s.count + 1) n)) wide),
      );
  untouched = c.in_ok-end.ensures.untouched;
  size = c.end_of_line.ensures.size;
  refused = refl;
}

pub returns-in_err-end : goal.returns-in_err-end
returns-in_err-end g c = record {
  untouched = c.in_err-end.ensures.untouched;
  size = c.end_of_line.ensures.size;
  refused = c.from_residual.ensures.0;
  cause = err-as (λ e. IsMeasureFault e c.args.pair.now.size (g.T.Tree.view c.args.tree.now) (g.T.Tree.view c.end_of_line.new.tree) c.args.name.now) c.in_err-end.field-0.0 c.from_residual.result c.from_residual.ensures.1 (measure-read c.in_err-end.field-0.0 c.args.pair.now.size _ _ c.args.name.now c.in_err-end.ensures.cause);
}

pub end_of_line-requires-clause-there : goal.end_of_line-requires-clause-there
end_of_line-requires-clause-there g c = c.requires.there

pub end_of_line-requires-clause-stated : goal.end_of_line-requires-clause-stated
end_of_line-requires-clause-stated g c = c.requires.stated

pub end_of_line-requires-clause-high : goal.end_of_line-requires-clause-high
end_of_line-requires-clause-high g c = c.requires.high

pub end_of_line-requires-clause-few : goal.end_of_line-requires-clause-few
end_of_line-requires-clause-few g c = c.requires.few

pub end_of_line-requires-clause-is_open : goal.end_of_line-requires-clause-is_open
end_of_line-requires-clause-is_open g c = c.requires.is_open
