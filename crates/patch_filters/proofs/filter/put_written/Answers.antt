use Rattle.std.proofs.Common.{◌≡◌, true, false, arith, sym, subst, ◌∙◌}
use Rattle.std.specs.List.{list_any}
use Rattle.outside.specs.Puts.{Puts}
use Rattle.outside.proofs.SinkSteps.{has-none, puts-done}
use Rattle.cli_tool_words.specs.PlainJobs.{plain_filter_job}
use Rattle.patch_filters.specs.Digested.{digest_kept}
use Rattle.patch_filters.specs.Filtered.{asks_no_hunk}
use Rattle.patch_filters.proofs.filter.put_written.Goals as goal

pub bytes_at-requires-clause-order : goal.bytes_at-requires-clause-order
bytes_at-requires-clause-order g c = omega (arith, c.requires.region, c.requires.some)

pub bytes_at-requires-clause-within : goal.bytes_at-requires-clause-within
bytes_at-requires-clause-within g c = c.requires.high

pub has_kept-requires : goal.has_kept-requires
has_kept-requires g c = c.requires

pub put_parts-requires : goal.put_parts-requires
put_parts-requires g c = c.requires

pub returns-then-not-asks_no_hunk : goal.returns-then-not-asks_no_hunk
returns-then-not-asks_no_hunk g c =
    let asked : asks_no_hunk (plain_filter_job c.args.job.now) ≡ false = sym c.asks_no_hunk.ensures ∙ c.if-not-asks_no_hunk.true in
    rw (c.if-patch.true, asked) (puts-done _ (has-none g.met.O.Sink.rest_none c.args.out.now))

pub returns-then-patch : goal.returns-then-patch
returns-then-patch g c =
    let unasked : asks_no_hunk (plain_filter_job c.args.job.now) ≡ true = sym c.asks_no_hunk.ensures ∙ c.if-not-asks_no_hunk.false in
    rw (c.if-patch.true, unasked) (subst (Puts g.O.Sink.view g.O.Sink.same_rest c.args.out.now c.put_piece.new.out c.put_piece.result) c.bytes_at.ensures c.put_piece.ensures)

pub returns-then-not-has_kept : goal.returns-then-not-has_kept
returns-then-not-has_kept g c =
    let none : list_any (λ is. is) (digest_kept (plain_filter_job c.args.job.now) c.args.text.now c.args.patch.now c.args.olds.now) ≡ false = sym c.has_kept.ensures ∙ c.if-not-has_kept.true in
    rw (c.if-patch.false, none) (puts-done _ (has-none g.met.O.Sink.rest_none c.args.out.now))

pub returns : goal.returns
returns g c =
    let some : list_any (λ is. is) (digest_kept (plain_filter_job c.args.job.now) c.args.text.now c.args.patch.now c.args.olds.now) ≡ true = sym c.has_kept.ensures ∙ c.if-not-has_kept.false in
    rw (c.if-patch.false, some) c.put_parts.ensures
