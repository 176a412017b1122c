use Rattle.std.proofs.Common.{◌≡◌, ◌<◌, ◌∙◌, ℕ, List, [], ◌∷◌, length, Some, None, Bool, refl, ap, arith}
use Rattle.line_store.specs.Store.{line_at}
use Rattle.line_store.proofs.StoreLemmas.{keeps-same}
use Rattle.apply_task.specs.LineEnds.{is_returned, first_end}
use Rattle.apply_start.proofs.ends.first_end.Goals as goal

end-none : (ls : List (List ℕ)) → length ls ≡ 0 → None ≡ first_end ls
end-none [] none = refl
end-none (l ∷ ls) none = absurd (omega arith)

end-some : (ls : List (List ℕ)) → 0 < length ls → Some (is_returned (line_at ls 1)) ≡ first_end ls
end-some [] some = absurd (omega arith)
end-some (l ∷ ls) some = refl

pub returns-then-count-eq0 : goal.returns-then-count-eq0
returns-then-count-eq0 g c = record {
  value = λ lines told.
      let count : c.count.result ≡ length lines = c.count.ensures.is ∙ (c.count.ensures.told lines told).count in
      end-none lines (omega (arith, count, c.if-count-eq0.true));
  keeps = keeps-same _;
  cause = tt;
}

pub returns-clause-value : goal.returns-clause-value
returns-clause-value g c lines told =
    let count : c.count.result ≡ length lines = c.count.ensures.is ∙ (c.count.ensures.told lines told).count in
    let some : 0 < length lines = omega (arith, count, c.if-count-eq0.false) in
    ap (λ (b : Bool). Some b) (c.is_returned.ensures ∙ ap is_returned (c.line.ensures lines 1 (c.in_ok-load.ensures.keeps.told ∙ told) c.in_ok-load.ensures.held))
    ∙ end-some lines some

pub load-requires-clause-high : goal.load-requires-clause-high
load-requires-clause-high g c = omega (arith, c.count.ensures.is, c.if-count-eq0.false)
