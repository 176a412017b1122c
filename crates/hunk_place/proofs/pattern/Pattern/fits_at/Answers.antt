use Rattle.std.proofs.Common.{◌≡◌, ◌<◌, ◌≤◌, ◌+◌, ◌-◌, ℕ, List, [], ◌∷◌, length, true, false, sym, ap, ◌∙◌, subst, arith, rules, drop}
use Rattle.std.proofs.lemmas.List.{drop_all}
use Rattle.line_store.specs.Store.{Keeps, line_at}
use Rattle.line_store.proofs.StoreLemmas.{keeps-more}
use Rattle.hunk_core.specs.PlainHunk.{bytes_at}
use Rattle.hunk_core.specs.Sides.{taken_count}
use Rattle.line_list.proofs.Elements.{front-rest}
use Rattle.hunk_place.specs.Loose.{same_line}
use Rattle.hunk_place.specs.Taken.{side_lines}
use Rattle.hunk_place.proofs.FitLemmas.{side-length, side-skip, side-take, fits-so, fits-not, one-more, same-at, none-left, nothing}
use Rattle.std.proofs.lemmas.Result.{IfOk-from_err}
use Rattle.hunk_place.proofs.NumberLemmas.{line-low, line-high, one-up, is-behind, room-left, cause-on}
use Rattle.hunk_place.proofs.pattern.Pattern.fits_at.Goals as goal
use Rattle.hunk_place.proofs.pattern.Pattern.fits_at.Goals.{then-is_taken+in_ok-is_line+else-not-branch, else-is_taken}

pub returns-then-i-self-clause-value : goal.returns-then-i-self-clause-value
returns-then-i-self-clause-value g c lines told back last =
    let count : length (side_lines c.args.self.now.text.now c.args.self.now.side c.args.self.now.hunk.now.body.items) ≡ taken_count c.args.self.now.side c.args.self.now.hunk.now.body.items = side-length c.args.self.now.text.now c.args.self.now.side c.args.self.now.hunk.now.body.items in
    fits-so c.args.self.now.text.now c.args.self.now.side c.args.self.now.hunk.now lines c.args.self.now.loose c.args.self.now.front back c.args.at c.loop-k.i (c.loop-k.invariant.same lines told) (omega arith)

pub returns-then-not-branch-clause-value : goal.returns-then-not-branch-clause-value
returns-then-not-branch-clause-value g c lines told back last =
    let old : List (List ℕ) = side_lines c.args.self.now.text.now c.args.self.now.side c.args.self.now.hunk.now.body.items in
    let count : length old ≡ taken_count c.args.self.now.side c.args.self.now.hunk.now.body.items = side-length c.args.self.now.text.now c.args.self.now.side c.args.self.now.hunk.now.body.items in
    let value : c.in_ok-is_line.field-0 ≡ same_line c.args.self.now.loose (bytes_at c.args.self.now.text.now c.index-line.result.now.span) (line_at lines (c.args.at + c.loop-k.i)) = c.in_ok-is_line.ensures.value lines (c.loop-k.invariant.keeps.told ∙ told) in
    let head : drop c.loop-k.i old ≡ bytes_at c.args.self.now.text.now c.index-line.result.now.span ∷ side_lines c.args.self.now.text.now c.args.self.now.side (drop (c.loop-k.k + 1) c.args.self.now.hunk.now.body.items) =
    side-take c.args.self.now.text.now c.args.self.now.side c.args.self.now.hunk.now.body.items c.loop-k.k c.loop-k.i c.index-line.result.now (subst (λ n. c.loop-k.k < n) (c.len-k-end.ensures ∙ c.args.self.now.hunk.now.body.ok.0) c.loop-k-test.true) c.index-line.ensures (sym c.is_taken.ensures ∙ c.if-is_taken.true) c.loop-k.invariant.rest in
    fits-not c.args.self.now.text.now c.args.self.now.side c.args.self.now.hunk.now lines c.args.self.now.loose c.args.self.now.front back c.args.at (c.loop-k.i + 1) (is-behind c.args.self.now.front c.loop-k.i c.loop-k.invariant.low) (room-left c.loop-k.i c.args.self.now.last _ back _ c.if-i-self.false last count)
    (same-at lines old c.args.self.now.loose c.args.at c.loop-k.i _ _ c.in_ok-is_line.field-0 head value ∙ c.if-not-branch.true)

pub loop-k-preserved : goal.loop-k-preserved
loop-k-preserved g c =
    let old : List (List ℕ) = side_lines c.args.self.now.text.now c.args.self.now.side c.args.self.now.hunk.now.body.items in
    let rest : List (List ℕ) = side_lines c.args.self.now.text.now c.args.self.now.side (drop (c.loop-k.k + 1) c.args.self.now.hunk.now.body.items) in
    elim c.if-is_taken.branch [
      | then-is_taken+in_ok-is_line+else-not-branch w ↦
          let head : drop c.loop-k.i old ≡ bytes_at c.args.self.now.text.now c.index-line.result.now.span ∷ rest =
          side-take c.args.self.now.text.now c.args.self.now.side c.args.self.now.hunk.now.body.items c.loop-k.k c.loop-k.i c.index-line.result.now (subst (λ n. c.loop-k.k < n) (c.len-k-end.ensures ∙ c.args.self.now.hunk.now.body.ok.0) c.loop-k-test.true) c.index-line.ensures (sym c.is_taken.ensures ∙ w.if-is_taken.true) c.loop-k.invariant.rest in
          record {
            keeps = subst (λ s. Keeps (g.S.LineStore.seen c.args.store.now) (g.S.LineStore.seen s)) (sym w.store-is) (keeps-more _ _ _ c.loop-k.invariant.keeps w.in_ok-is_line.ensures.keeps);
            low = subst (λ n. c.args.self.now.front ≤ n) (sym w.i-is) (one-up c.args.self.now.front c.loop-k.i c.loop-k.invariant.low);
            rest = sym (ap (λ n. drop n old) w.i-is ∙ front-rest _ _ _ c.loop-k.i head);
            same = λ lines told n low high.
                let value : w.in_ok-is_line.field-0 ≡ same_line c.args.self.now.loose (bytes_at c.args.self.now.text.now c.index-line.result.now.span) (line_at lines (c.args.at + c.loop-k.i)) = w.in_ok-is_line.ensures.value lines (c.loop-k.invariant.keeps.told ∙ told) in
                one-more (λ n. same_line c.args.self.now.loose (line_at old n) (line_at lines (c.args.at + n - 1)) ≡ true) c.args.self.now.front c.loop-k.i
                (c.loop-k.invariant.same lines told)
                (same-at lines old c.args.self.now.loose c.args.at c.loop-k.i _ _ w.in_ok-is_line.field-0 head value ∙ w.if-not-branch.false)
                n low (subst (λ m. n ≤ m) w.i-is high);
          }
      | else-is_taken w ↦
          record {
            keeps = subst (λ s. Keeps (g.S.LineStore.seen c.args.store.now) (g.S.LineStore.seen s)) (sym w.store-is) c.loop-k.invariant.keeps;
            low = subst (λ n. c.args.self.now.front ≤ n) (sym w.i-is) c.loop-k.invariant.low;
            rest = side-skip c.args.self.now.text.now c.args.self.now.side c.args.self.now.hunk.now.body.items c.loop-k.k c.loop-k.i c.index-line.result.now (subst (λ n. c.loop-k.k < n) (c.len-k-end.ensures ∙ c.args.self.now.hunk.now.body.ok.0) c.loop-k-test.true) c.index-line.ensures (sym c.is_taken.ensures ∙ w.if-is_taken.false) c.loop-k.invariant.rest ∙ ap (λ n. drop n old) (sym w.i-is);
            same = λ lines told n low high. c.loop-k.invariant.same lines told n low (subst (λ m. n ≤ m) w.i-is high);
          }
    ]

pub returns-clause-value : goal.returns-clause-value
returns-clause-value g c lines told back last =
    let old : List (List ℕ) = side_lines c.args.self.now.text.now c.args.self.now.side c.args.self.now.hunk.now.body.items in
    let gone : drop c.loop-k.k c.args.self.now.hunk.now.body.items ≡ [] = drop_all c.loop-k.k c.args.self.now.hunk.now.body.items (search rules) in
    let none : side_lines c.args.self.now.text.now c.args.self.now.side [] ≡ [] = nothing c.args.self.now.text.now c.args.self.now.side in
    let n : length old ≤ c.loop-k.i = none-left old c.loop-k.i (sym (ap (side_lines c.args.self.now.text.now c.args.self.now.side) gone ∙ none) ∙ c.loop-k.invariant.rest) in
    fits-so c.args.self.now.text.now c.args.self.now.side c.args.self.now.hunk.now lines c.args.self.now.loose c.args.self.now.front back c.args.at c.loop-k.i (c.loop-k.invariant.same lines told) (omega arith)

pub returns-in_err-is_line-clause-value : goal.returns-in_err-is_line-clause-value
returns-in_err-is_line-clause-value g c = IfOk-from_err c.from_residual.result _ c.from_residual.ensures.0

pub returns-then-i-self-clause-keeps : goal.returns-then-i-self-clause-keeps
returns-then-i-self-clause-keeps g c = c.loop-k.invariant.keeps

pub returns-then-i-self-clause-cause : goal.returns-then-i-self-clause-cause
returns-then-i-self-clause-cause g c = tt

pub returns-then-not-branch-clause-cause : goal.returns-then-not-branch-clause-cause
returns-then-not-branch-clause-cause g c = tt

pub returns-clause-keeps : goal.returns-clause-keeps
returns-clause-keeps g c = c.loop-k.invariant.keeps

pub returns-clause-cause : goal.returns-clause-cause
returns-clause-cause g c = tt

pub is_line-requires-clause-low : goal.is_line-requires-clause-low
is_line-requires-clause-low g c = line-low c.args.at c.args.self.now.front c.loop-k.i c.loop-k.invariant.low (c.requires.within (omega (arith, c.loop-k.invariant.low, c.if-i-self.false))).0

pub is_line-requires-clause-high : goal.is_line-requires-clause-high
is_line-requires-clause-high g c = line-high c.args.at c.args.self.now.last c.loop-k.i (g.S.LineStore.seen c.args.store.now).count _ c.if-i-self.false (c.requires.within (omega (arith, c.loop-k.invariant.low, c.if-i-self.false))).1 c.loop-k.invariant.keeps.count

pub returns-in_err-is_line-clause-cause : goal.returns-in_err-is_line-clause-cause
returns-in_err-is_line-clause-cause g c = cause-on _ _ _ _ _ c.from_residual.ensures.1 c.loop-k.invariant.keeps c.in_err-is_line.ensures.cause

pub returns-then-not-branch-clause-keeps : goal.returns-then-not-branch-clause-keeps
returns-then-not-branch-clause-keeps g c = keeps-more _ _ _ c.loop-k.invariant.keeps c.in_ok-is_line.ensures.keeps

pub returns-in_err-is_line-clause-keeps : goal.returns-in_err-is_line-clause-keeps
returns-in_err-is_line-clause-keeps g c = keeps-more _ _ _ c.loop-k.invariant.keeps c.in_err-is_line.ensures.keeps
