use Rattle.hunk_core.specs.Reading.{Gives}
use Rattle.std.specs.Result.{IfOk}
use Rattle.read_patch_text.specs.Changes.{IsChange, read_of}
use Rattle.read_patch_text.specs.Patches.{begins_change, change_at}
use Rattle.std.proofs.Common.{drop, subst, sym, true, ◌≡◌}
use Rattle.line_list.specs.Lines.{lines}
use Rattle.read_patch_text.proofs.change.read_change.Goals as goal

pub returns-in-Ed : goal.returns-in-Ed
returns-in-Ed c = record {
  is = subst (λ f. IfOk c.script_at.result (IsChange c.args.text.now f c.args.at c.args.line)) (sym c.in-Ed.is) c.script_at.ensures.is;
  exact = subst (λ f. Gives (read_of c.args.text.now) c.script_at.result (change_at f c.args.line (lines (drop c.args.at c.args.text.now)))) (sym c.in-Ed.is) c.script_at.ensures.exact;
}

pub returns-in-Normal : goal.returns-in-Normal
returns-in-Normal c = record {
  is = subst (λ f. IfOk c.normal_at.result (IsChange c.args.text.now f c.args.at c.args.line)) (sym c.in-Normal.is) c.normal_at.ensures.is;
  exact = subst (λ f. Gives (read_of c.args.text.now) c.normal_at.result (change_at f c.args.line (lines (drop c.args.at c.args.text.now)))) (sym c.in-Normal.is) c.normal_at.ensures.exact;
}

pub returns-in-Context : goal.returns-in-Context
returns-in-Context c = record {
  is = subst (λ f. IfOk c.context_at.result (IsChange c.args.text.now f c.args.at c.args.line)) (sym c.in-Context.is) c.context_at.ensures.is;
  exact = subst (λ f. Gives (read_of c.args.text.now) c.context_at.result (change_at f c.args.line (lines (drop c.args.at c.args.text.now)))) (sym c.in-Context.is) c.context_at.ensures.exact;
}

pub returns-in-Unified : goal.returns-in-Unified
returns-in-Unified c = record {
  is = subst (λ f. IfOk c.unified_at.result (IsChange c.args.text.now f c.args.at c.args.line)) (sym c.in-Unified.is) c.unified_at.ensures.is;
  exact = subst (λ f. Gives (read_of c.args.text.now) c.unified_at.result (change_at f c.args.line (lines (drop c.args.at c.args.text.now)))) (sym c.in-Unified.is) c.unified_at.ensures.exact;
}

pub script_at-requires-clause-small : goal.script_at-requires-clause-small
script_at-requires-clause-small c = c.requires.small

pub normal_at-requires-clause-small : goal.normal_at-requires-clause-small
normal_at-requires-clause-small c = c.requires.small

pub context_at-requires-clause-small : goal.context_at-requires-clause-small
context_at-requires-clause-small c = c.requires.small

pub unified_at-requires-clause-small : goal.unified_at-requires-clause-small
unified_at-requires-clause-small c = c.requires.small

pub script_at-requires-clause-short : goal.script_at-requires-clause-short
script_at-requires-clause-short c = c.requires.short

pub normal_at-requires-clause-short : goal.normal_at-requires-clause-short
normal_at-requires-clause-short c = c.requires.short

pub context_at-requires-clause-short : goal.context_at-requires-clause-short
context_at-requires-clause-short c = c.requires.short

pub unified_at-requires-clause-short : goal.unified_at-requires-clause-short
unified_at-requires-clause-short c = c.requires.short

pub script_at-requires-clause-opens : goal.script_at-requires-clause-opens
script_at-requires-clause-opens c = subst (λ f. begins_change f (lines (drop c.args.at c.args.text.now)) ≡ true) c.in-Ed.is c.requires.opens

pub normal_at-requires-clause-opens : goal.normal_at-requires-clause-opens
normal_at-requires-clause-opens c = subst (λ f. begins_change f (lines (drop c.args.at c.args.text.now)) ≡ true) c.in-Normal.is c.requires.opens

pub context_at-requires-clause-opens : goal.context_at-requires-clause-opens
context_at-requires-clause-opens c = subst (λ f. begins_change f (lines (drop c.args.at c.args.text.now)) ≡ true) c.in-Context.is c.requires.opens

pub unified_at-requires-clause-opens : goal.unified_at-requires-clause-opens
unified_at-requires-clause-opens c = subst (λ f. begins_change f (lines (drop c.args.at c.args.text.now)) ≡ true) c.in-Unified.is c.requires.opens

pub script_at-requires-clause-within : goal.script_at-requires-clause-within
script_at-requires-clause-within c = c.requires.within

pub normal_at-requires-clause-within : goal.normal_at-requires-clause-within
normal_at-requires-clause-within c = c.requires.within

pub context_at-requires-clause-within : goal.context_at-requires-clause-within
context_at-requires-clause-within c = c.requires.within

pub unified_at-requires-clause-within : goal.unified_at-requires-clause-within
unified_at-requires-clause-within c = c.requires.within
