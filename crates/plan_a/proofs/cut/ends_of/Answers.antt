use Rattle.std.proofs.Common.{◌≡◌, ◌+◌, ◌-◌, ◌<◌, [], ◌∷◌, ◌++◌, length, get_or, sym, ap, subst, ◌∙◌, arith, length-append}
use Rattle.line_list.specs.Lines.{lines}
use Rattle.plan_a.specs.Cut.{IsFirstLong}
use Rattle.plan_a.specs.Places.{places_of}
use Rattle.plan_a.proofs.PlaceLemmas.{takes-less}
use Rattle.plan_a.proofs.Reading.{IsCutSo, cut-start, cut-more, read-within, read-piece, read-length, read-end, cut-end}
use Rattle.plan_a.proofs.FirstLong.{NoneLong, none-start, none-more, none-here, none-end, refused}
use Rattle.plan_a.proofs.cut.ends_of.Goals as goal

pub loop-end-init : goal.loop-end-init
loop-end-init c = record {
  feeds = c.unknown-feeds.ensures c.args.text.now;
  cut = subst (λ ends. IsCutSo c.args.text.now ends 0) (sym c.in_ok-ends.ensures.none) (cut-start c.args.text.now);
  none = subst (λ ends. NoneLong c.args.size (lines c.args.text.now) (length ends)) (sym c.in_ok-ends.ensures.none) (none-start c.args.size (lines c.args.text.now));
  takes = c.in_ok-ends.ensures.takes;
}

pub returns-then-length-most-clause-cause : goal.returns-then-length-most-clause-cause
returns-then-length-most-clause-cause c =
    let lt : length (places_of c.loop-end.ends) < length (lines c.args.text.now) = read-within c.args.text.now c.loop-end.at c.in-Some.end (length (places_of c.loop-end.ends)) c.loop-end.invariant.cut.read c.in-Some.ensures.end in
    let size : length (get_or (lines c.args.text.now) (length (places_of c.loop-end.ends)) []) ≡ c.in-Some.end - c.loop-end.at = read-length c.args.text.now c.loop-end.at c.in-Some.end (length (places_of c.loop-end.ends)) (read-piece c.args.text.now c.loop-end.at c.in-Some.end (length (places_of c.loop-end.ends)) c.loop-end.invariant.cut.read c.in-Some.ensures.end) in
    let same : length (places_of c.loop-end.ends) ≡ c.len.result = sym c.len.ensures in
    refused c.args.size (c.len.result + 1) (c.in-Some.end - c.loop-end.at) c.args.text.now c.requires
    (subst (λ k. IsFirstLong c.args.size (lines c.args.text.now) (k + 1) (c.in-Some.end - c.loop-end.at)) same
    (none-here c.args.size (lines c.args.text.now) (length (places_of c.loop-end.ends)) (c.in-Some.end - c.loop-end.at) c.loop-end.invariant.none lt size (omega arith)))

pub loop-end-preserved : goal.loop-end-preserved
loop-end-preserved c =
    let lt : length (places_of c.loop-end.ends) < length (lines c.args.text.now) = read-within c.args.text.now c.loop-end.at c.in-Some.end (length (places_of c.loop-end.ends)) c.loop-end.invariant.cut.read c.in-Some.ensures.end in
    let size : length (get_or (lines c.args.text.now) (length (places_of c.loop-end.ends)) []) ≡ c.in-Some.end - c.loop-end.at = read-length c.args.text.now c.loop-end.at c.in-Some.end (length (places_of c.loop-end.ends)) (read-piece c.args.text.now c.loop-end.at c.in-Some.end (length (places_of c.loop-end.ends)) c.loop-end.invariant.cut.read c.in-Some.ensures.end) in
    let more : length ((places_of c.loop-end.ends) ++ c.in-Some.end ∷ []) ≡ length (places_of c.loop-end.ends) + 1 = simp length-append (omega arith) in
    record {
      feeds = c.next_line_by.ensures.feeds;
      cut = subst (λ ends. IsCutSo c.args.text.now ends c.in-Some.end) (sym c.in_ok-push.ensures.pushed) (cut-more c.args.text.now (places_of c.loop-end.ends) c.loop-end.at c.in-Some.end c.loop-end.invariant.cut c.in-Some.ensures.end);
      none = subst (λ k. NoneLong c.args.size (lines c.args.text.now) k) (sym more ∙ ap length (sym c.in_ok-push.ensures.pushed))
          (none-more c.args.size (lines c.args.text.now) (length (places_of c.loop-end.ends)) (c.in-Some.end - c.loop-end.at) c.loop-end.invariant.none lt size (omega arith));
      takes = c.in_ok-push.ensures.takes (length c.args.text.now) c.loop-end.invariant.takes;
    }

pub returns-clause-short : goal.returns-clause-short
returns-clause-short c = none-end c.args.size (lines c.args.text.now) (length (places_of c.loop-end.ends)) c.loop-end.invariant.none (read-end c.args.text.now c.loop-end.at (length (places_of c.loop-end.ends)) c.loop-end.invariant.cut.read c.in_default.ensures.end)

pub push-requires : goal.push-requires
push-requires c = takes-less c.loop-end.ends c.in-Some.end (length c.args.text.now) c.in-Some.ensures.end.high c.loop-end.invariant.takes

pub returns-clause-cut : goal.returns-clause-cut
returns-clause-cut c = cut-end c.args.text.now (places_of c.loop-end.ends) c.loop-end.at c.loop-end.invariant.cut c.in_default.ensures.end

pub next_line_by-requires-clause-feeds : goal.next_line_by-requires-clause-feeds
next_line_by-requires-clause-feeds c = c.loop-end.invariant.feeds
