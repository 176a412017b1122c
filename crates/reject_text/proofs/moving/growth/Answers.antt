use Rattle.std.proofs.Common.{◌≡◌, ◌≤◌, length, ap, ◌∙◌, subst, sym, ℕ}
use Rattle.std.proofs.lemmas.List.Sums.{count_by-le-length}
use Rattle.hunk_core.specs.Sides.{is_on_side, taken_count}
use Rattle.hunk_core.specs.Turned.{other_side}
use Rattle.reject_text.proofs.Balance.{balance}
use Rattle.reject_text.proofs.Signed.{balanced, body-short, difference-fits, difference-high, difference-is, difference-low}
use Rattle.std.specs.Prelude.{pos, ◌-ℤ◌}
use Rattle.reject_text.proofs.moving.growth.Goals as goal

pub returns-clause-is : goal.returns-clause-is
returns-clause-is c = λ text.
    let lines = c.args.hunk.now.body.items in
    let other : c.count.result ≡ taken_count (other_side c.args.side) lines = c.count.ensures ∙ ap (λ s. taken_count s lines) c.other.ensures in
    difference-is c.from.result c.from-2.result c.count.result c.count-2.result c.from.ensures c.from-2.ensures c.count.type_inv c.count-2.type_inv
    ∙ ap (λ (n : ℕ). pos n -ℤ pos c.count-2.result) other ∙ ap (λ (n : ℕ). pos (taken_count (other_side c.args.side) lines) -ℤ pos n) c.count-2.ensures
    ∙ balanced _ _ _ _ (balance text c.args.side c.args.hunk.now)

pub returns-clause-high : goal.returns-clause-high
returns-clause-high c =
    let lines = c.args.hunk.now.body.items in
    difference-high _ c.count.result c.count-2.result (length lines)
    (difference-is c.from.result c.from-2.result c.count.result c.count-2.result c.from.ensures c.from-2.ensures c.count.type_inv c.count-2.type_inv)
    (subst (λ (n : ℕ). n ≤ length lines) (sym c.count.ensures) (count_by-le-length (λ l. is_on_side c.other.result l.mark) lines))

pub returns-clause-low : goal.returns-clause-low
returns-clause-low c =
    let lines = c.args.hunk.now.body.items in
    difference-low _ c.count.result c.count-2.result (length lines)
    (difference-is c.from.result c.from-2.result c.count.result c.count-2.result c.from.ensures c.from-2.ensures c.count.type_inv c.count-2.type_inv)
    (subst (λ (n : ℕ). n ≤ length lines) (sym c.count-2.ensures) (count_by-le-length (λ l. is_on_side c.args.side l.mark) lines))

pub overflow_sub-result : goal.overflow_sub-result
overflow_sub-result c = difference-fits c.from.result c.from-2.result c.count.result c.count-2.result c.from.ensures c.from-2.ensures c.count.type_inv c.count-2.type_inv

pub count-requires-2 : goal.count-requires-2
count-requires-2 c = body-short c.args.hunk.now c.requires
