use Rattle.std.proofs.Common.{◌≡◌, ◌≢◌, ⊎_elim, ℕ, List, Ok, Err, refl, sym, subst}
use Rattle.outside.specs.TreeView.{passes_none}
use Rattle.outside.proofs.Names.{apart, equal_or_not}
use Rattle.apply_task.specs.TargetEffects.{put_if}
use Rattle.apply_outcome.specs.Outcome.{rejects_text}
use Rattle.apply_outcome.specs.ContextView.{plain_context}
use Rattle.apply_task.specs.Making.{Makes, IsGone}
use Rattle.apply_task.specs.declared.fault.RunFault.TheVariants.{Tree}
use Rattle.apply_task.proofs.Making.{puts_made, puts_part, put_keeps, put_gone, gone_kept, makes_works}
use Rattle.apply_task.proofs.Tidy.{put_if_tidy, makes_tidy, tidy_none}
use Rattle.outside.proofs.Quiet.{works_none}
use Rattle.apply_outcome.proofs.rejects.put_rejects.Goals as goal

pub returns-in-Ok-clause-makes : goal.returns-in-Ok-clause-makes
returns-in-Ok-clause-makes g c =
    let u = g.T.Tree.view c.args.tree.now in
    let w = g.T.Tree.view c.swap_rejects.new.tree in
    let t = c.args.target.now in
    let named = c.requires.named in
    let text = rejects_text (plain_context c.args.turn.now) t c.args.side c.args.verdicts.now in
    subst (λ b. Makes {R = Unit {0}} u w (Ok tt) t.temp (λ f. put_if b t.reject text)) (sym c.if-not-rejected.false)
    (puts_made t.reject_temp t.reject (λ f. text) named.temps.reject c.requires.quiet tt tt t.temp named.reject_temp c.in-Ok.ensures)

pub returns-in-Ok-clause-gone : goal.returns-in-Ok-clause-gone
returns-in-Ok-clause-gone g c =
    let u = g.T.Tree.view c.args.tree.now in
    let w = g.T.Tree.view c.swap_rejects.new.tree in
    let t = c.args.target.now in
    let named = c.requires.named in
    let text = rejects_text (plain_context c.args.turn.now) t c.args.side c.args.verdicts.now in
    let puts = c.in-Ok.ensures in
    ⊎_elim
    (λ (eq : t.temp ≡ t.reject_temp). subst (λ (n : List ℕ). IsGone w n) (sym eq) (put_gone u w t.reject_temp t.reject (λ f. text) puts.ok puts.run.passes))
    (λ (ne : t.temp ≢ t.reject_temp). gone_kept t.temp puts.run.passes (put_keeps u w t.reject_temp t.reject (λ f. text) puts.ok t.temp (λ eq. apart t.reject t.temp named.lasting.reject named.temps.own (sym eq)) ne) c.requires.gone)
    (equal_or_not t.temp t.reject_temp)

pub returns-in-Ok-clause-tidy : goal.returns-in-Ok-clause-tidy
returns-in-Ok-clause-tidy g c =
    let t = c.args.target.now in
    let text = rejects_text (plain_context c.args.turn.now) t c.args.side c.args.verdicts.now in
    makes_tidy {R = Unit {0}} tt t.temp (λ f. put_if c.args.rejected t.reject text) (λ f told. returns-in-Ok-clause-makes g c) (returns-in-Ok-clause-gone g c)
    (λ f. put_if_tidy c.args.rejected t.reject text c.requires.named.lasting.reject)

pub returns-in-Err : goal.returns-in-Err
returns-in-Err g c = record {
  makes = (
      let u = g.T.Tree.view c.args.tree.now in
      let w = g.T.Tree.view c.swap_rejects.new.tree in
      let t = c.args.target.now in
      let text = rejects_text (plain_context c.args.turn.now) t c.args.side c.args.verdicts.now in
      subst (λ b. Makes {R = Unit {0}} u w (Err Tree) t.temp (λ f. put_if b t.reject text)) (sym c.if-not-rejected.false)
      (puts_part t.reject_temp t.reject (λ f. text) c.requires.named.temps.reject c.requires.quiet _ Tree t.temp c.in-Err.ensures));
  goes = record { passes = c.in-Err.ensures.run.passes; cause = (refl, c.in-Err.ensures.run.cause refl); quiet = tt };
  gone = tt;
  tidy = tt;
}

pub returns-then-not-rejected : goal.returns-then-not-rejected
returns-then-not-rejected g c = record {
  tidy = tidy_none (g.T.Tree.view c.args.tree.now);
  goes = record { passes = passes_none (g.T.Tree.view c.args.tree.now); cause = tt; quiet = c.requires.quiet };
  gone = c.requires.gone;
  makes = (
      let u = g.T.Tree.view c.args.tree.now in
      let t = c.args.target.now in
      let text = rejects_text (plain_context c.args.turn.now) t c.args.side c.args.verdicts.now in
      subst (λ b. Makes {R = Unit {0}} u u (Ok tt) t.temp (λ f. put_if b t.reject text)) (sym c.if-not-rejected.true)
      (makes_works t.temp c.requires.named.temps.own (works_none u t.temp c.requires.quiet) tt));
}

pub swap_rejects-requires-clause-hunks : goal.swap_rejects-requires-clause-hunks
swap_rejects-requires-clause-hunks g c = c.requires.hunks c.if-not-rejected.false

pub swap_rejects-requires-clause-rows : goal.swap_rejects-requires-clause-rows
swap_rejects-requires-clause-rows g c = c.requires.rows

pub swap_rejects-requires-clause-turn : goal.swap_rejects-requires-clause-turn
swap_rejects-requires-clause-turn g c = c.requires.turn

pub swap_rejects-requires-clause-named : goal.swap_rejects-requires-clause-named
swap_rejects-requires-clause-named g c = c.requires.named

pub swap_rejects-requires-clause-quiet : goal.swap_rejects-requires-clause-quiet
swap_rejects-requires-clause-quiet g c = c.requires.quiet
