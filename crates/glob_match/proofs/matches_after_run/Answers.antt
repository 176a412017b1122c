use Rattle.std.proofs.Common.{drop, refl, arith}
use Rattle.std.proofs.lemmas.Bool.{false≢true}
use Rattle.std.proofs.lemmas.List.{drop_all}
use Rattle.glob_match.specs.Pattern.{elements}
use Rattle.glob_match.proofs.MatchLemmas.{run-met, run-on-at, run-end-at, run-whole}
use Rattle.glob_match.proofs.matches_after_run.Goals as goal

pub returns-in-Whole : goal.returns-in-Whole
returns-in-Whole c = (λ _. c.loop-next.invariant.back (run-whole (elements (drop c.loop-next.at c.args.pattern.now)) (drop c.loop-next.place c.args.name.now) c.in-Whole.ensures), λ _. refl)

pub loop-next-preserved-in-Run : goal.loop-next-preserved-in-Run
loop-next-preserved-in-Run c =
    let w = c.in-Run.ensures in
    let m = run-met (elements (drop c.loop-next.at c.args.pattern.now)) (elements (drop c.in-Run.next c.args.pattern.now)) (drop c.loop-next.place c.args.name.now) (drop c.in-Run.further c.args.name.now) w.4 in
    record { high = w.1; within = w.3; forth = λ a. m.0 (c.loop-next.invariant.forth a); back = λ a. c.loop-next.invariant.back (m.1 a) }

pub returns-then-place-name : goal.returns-then-place-name
returns-then-place-name c =
    (λ h. absurd (false≢true h), λ m. absurd (run-end-at (elements (drop c.loop-next.at c.args.pattern.now)) (drop c.loop-next.place c.args.name.now) (drop_all c.loop-next.place c.args.name.now (omega arith)) c.in-Mismatch.ensures (c.loop-next.invariant.forth m)))

pub loop-next-preserved : goal.loop-next-preserved
loop-next-preserved c =
    let i = c.loop-next.invariant in
    let step = run-on-at (elements (drop c.loop-next.at c.args.pattern.now)) c.args.name.now c.loop-next.place (omega arith) c.in-Mismatch.ensures in
    record { high = i.high; within = omega arith; forth = λ a. step.0 (i.forth a); back = λ a. i.back (step.1 a) }
