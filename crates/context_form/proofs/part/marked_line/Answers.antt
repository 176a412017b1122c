use Rattle.std.proofs.Common.{◌≡◌, ℕ, ◌+◌, List, ◌∷◌, Ok, false, slice_range, sym, ap, refl, ◌∙◌, arith}
use Rattle.std.proofs.lemmas.Bool.{ne_eqb}
use Rattle.hunk_core.specs.declared.Mark.TheVariants.{Keep}
use Rattle.hunk_core.specs.LineTests.{marked}
use Rattle.hunk_core.proofs.TextLemmas.{slice-first}
use Rattle.context_form.specs.Parts.{marked_at}
use Rattle.context_form.proofs.part.marked_line.Goals as goal

pub returns-then-byte-eq10-clause-exact : goal.returns-then-byte-eq10-clause-exact
returns-then-byte-eq10-clause-exact c =
    let rest = slice_range c.args.text.now (c.args.at + 1) c.args.end in
    let is : slice_range c.args.text.now c.args.at c.args.end ≡ 10 ∷ slice_range c.args.text.now (c.args.at + 1) c.args.end = slice-first c.args.text.now c.args.at c.args.end c.requires.low c.requires.high ∙ ap (λ b. b ∷ rest) c.if-byte-eq10.true in
    ap (marked_at c.args.number c.args.side) is ∙ ap (λ (l : List ℕ). Ok (marked Keep l, false)) (sym is)

pub returns-clause-exact : goal.returns-clause-exact
returns-clause-exact c = rw (slice-first c.args.text.now c.args.at c.args.end c.requires.low c.requires.high, ne_eqb _ 10 c.if-byte-eq10.false, ← c.in-Some.ensures, c.text_start-start.ensures.exact) refl
