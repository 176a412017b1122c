use Rattle.std.proofs.Common.{length, ap, sym, subst, ◌∙◌}
use Rattle.std.specs.Prelude.{ℤ, pos, ◌-ℤ◌, ◌≤ℤ◌}
use Rattle.hunk_core.specs.declared.Verdict.{Verdict}
use Rattle.hunk_core.specs.PlainHunk.{hunk_of}
use Rattle.hunk_core.specs.Turned.{turned}
use Rattle.hunk_place.specs.Verdicts.{adds, drops}
use Rattle.reject_text.specs.Starts.{if_placed}
use Rattle.reject_text.proofs.Signed.{bits-are, none-grown, none-high, none-low}
use Rattle.reject_text.proofs.moving.placed_growth.Goals as goal

pub returns-in-At-clause-is : goal.returns-in-At-clause-is
returns-in-At-clause-is c = λ text.
    let h = turned c.args.side (hunk_of text c.args.hunk.now) in
    bits-are c.growth.result (length c.args.hunk.now.body.items) c.requires c.growth.ensures.high c.growth.ensures.low ∙ c.growth.ensures.is text
    ∙ sym (ap (λ (v : Verdict). pos (if_placed v (adds h)) -ℤ pos (if_placed v (drops h))) c.in-At.is)

pub returns-in-Untried : goal.returns-in-Untried
returns-in-Untried c = record {
  is = λ text. none-grown c.args.verdict (adds (turned c.args.side (hunk_of text c.args.hunk.now))) (drops (turned c.args.side (hunk_of text c.args.hunk.now))) c.in-Untried.is;
  high = none-high (length c.args.hunk.now.body.items);
  low = none-low (length c.args.hunk.now.body.items);
}

pub returns-in-At-clause-high : goal.returns-in-At-clause-high
returns-in-At-clause-high c = subst (λ (n : ℤ). n ≤ℤ pos (length c.args.hunk.now.body.items)) (sym (bits-are c.growth.result (length c.args.hunk.now.body.items) c.requires c.growth.ensures.high c.growth.ensures.low)) c.growth.ensures.high

pub returns-in-At-clause-low : goal.returns-in-At-clause-low
returns-in-At-clause-low c = subst (λ (n : ℤ). (pos 0 -ℤ pos (length c.args.hunk.now.body.items)) ≤ℤ n) (sym (bits-are c.growth.result (length c.args.hunk.now.body.items) c.requires c.growth.ensures.high c.growth.ensures.low)) c.growth.ensures.low
