use Rattle.std.proofs.Common.{◌≡◌, ℕ, List, [], ◌∷◌, Ok, Err, refl, sym, ◌∙◌, ap}
use Rattle.std.specs.Option.{option_copied}
use Rattle.series_stack.specs.Found.{found}
use Rattle.series_stack.specs.Saves.{Entry, first_entry, if_saved, is_saved}
use Rattle.series_stack.specs.Restoring.{Restores}
use Rattle.series_stack.proofs.Saving.{name-with, saved-some}
use Rattle.series_stack.proofs.Going.{if_some, found_saved, found_none}
use Rattle.series_stack.proofs.Steps.{restores_value, restores_fault}
use Rattle.series_stack.proofs.files.restore_first.Goals as goal

pub restore_entry-requires-clause-saved : goal.restore_entry-requires-clause-saved
restore_entry-requires-clause-saved g c =
    let x = c.in-Some.entry in
    ap is_saved (sym (name-with x.name.now (option_copied x.bytes))) ∙ found_saved (first_entry c.args.text.now) (found x) c.in-Some.ensures c.requires.saved

pub returns-in-Ok : goal.returns-in-Ok
returns-in-Ok g c =
    let x = c.in-Some.entry in
    let o = first_entry c.args.text.now in
    let first = saved-some o (found x) c.in-Some.ensures (found_saved o (found x) c.in-Some.ensures c.requires.saved) in
    record {
      rest = if_some (λ (y : Entry × List ℕ). x.rest.now ≡ y.1) (if_saved o) (found x) first refl;
      makes = if_some (λ (y : Entry × List ℕ). Restores (g.T.Tree.view c.args.tree.now) (g.T.Tree.view c.restore_entry.new.tree) (Ok x.rest) (y.0 ∷ [])) (if_saved o) (found x) first
          (restores_value c.in-Ok.field-0 x.rest c.in-Ok.ensures.makes);
      cause = tt;
    }

pub returns-in-Err : goal.returns-in-Err
returns-in-Err g c = record {
  rest = tt;
  makes = (
      let x = c.in-Some.entry in
      let o = first_entry c.args.text.now in
      let first = saved-some o (found x) c.in-Some.ensures (found_saved o (found x) c.in-Some.ensures c.requires.saved) in
      if_some (λ (y : Entry × List ℕ). Restores (g.T.Tree.view c.args.tree.now) (g.T.Tree.view c.restore_entry.new.tree) (Err c.in-Err.fault) (y.0 ∷ [])) (if_saved o) (found x) first
      (restores_fault c.in-Err.fault c.in-Err.ensures.makes));
  cause = c.in-Err.ensures.cause;
}

pub returns-in-None : goal.returns-in-None
returns-in-None g c = record {
  rest = absurd (found_none (first_entry c.args.text.now) c.in-None.ensures c.requires.saved);
  makes = absurd (found_none (first_entry c.args.text.now) c.in-None.ensures c.requires.saved);
  cause = tt;
}

pub restore_entry-requires-clause-quiet : goal.restore_entry-requires-clause-quiet
restore_entry-requires-clause-quiet g c = c.requires.quiet
