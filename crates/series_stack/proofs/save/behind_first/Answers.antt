use Rattle.series_stack.specs.Saves.{Entry, first_entry, if_saved, is_saved}
use Rattle.std.proofs.Common.{List, ap, inr, refl, sym, ℕ, ◌∙◌, ◌≡◌}
use Rattle.series_stack.proofs.Saving.{bad_then, is-some_and, name-with, saved-none, saved-some}
use Rattle.series_stack.specs.Found.{found}
use Rattle.std.specs.Option.{option_copied}
use Rattle.series_stack.proofs.save.behind_first.Goals as goal

pub returns-in-Err-clause-cause : goal.returns-in-Err-clause-cause
returns-in-Err-clause-cause c =
    let x = c.in-Some.entry in
    bad_then c.in-Err.fault (λ no. saved-none (first_entry c.args.text.now) (found x) c.in-Some.ensures (ap is_saved (name-with x.name.now (option_copied x.bytes)) ∙ no)) c.in-Err.ensures.cause

pub returns-in-Ok-clause-first : goal.returns-in-Ok-clause-first
returns-in-Ok-clause-first c =
    let x = c.in-Some.entry in
    let o = first_entry c.args.text.now in
    is-some_and (λ (y : Entry × List ℕ). y.1 ≡ x.rest.now) (if_saved o) (found x) (saved-some o (found x) c.in-Some.ensures (ap is_saved (name-with x.name.now (option_copied x.bytes)) ∙ c.in-Ok.ensures.saved)) refl

pub returns-in-None-clause-cause : goal.returns-in-None-clause-cause
returns-in-None-clause-cause c = inr (refl, ap if_saved (sym c.in-None.ensures))
