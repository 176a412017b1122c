use Rattle.std.proofs.Common.{◌≡◌, List, ℕ, Option, None, Some, sym, ◌∙◌, ap}
use Rattle.std.specs.Prelude.{slice_get}
use Rattle.std.specs.Option.{option_or, option_copied}
use Rattle.read_file_patch.specs.declared.derived.Target.{Target}
use Rattle.apply_task.proofs.names.written_at.Goals as goal

-- the first of the two, and else the second
either : (xs : List Target) (i j k : ℕ) (x : Option Target) → i ≡ j → slice_get xs i ≡ x → option_or (slice_get xs j) (slice_get xs k) ≡ option_or x (slice_get xs k)
either xs i j k x same is = ap (λ n. option_or (slice_get xs n) (slice_get xs k)) (sym same) ∙ ap (λ (o : Option Target). option_or o (slice_get xs k)) is

pub returns-in-Some : goal.returns-in-Some
returns-in-Some c = record {
  target = λ text skipped moved. (
      let xs = c.args.patch.now.targets.items in
      sym (either xs c.written_place.result _ c.args.place (Some c.in-Some.target.now) (c.written_place.ensures text) (sym c.target_in.ensures.target ∙ ap option_copied c.in-Some.is)));
  named = λ all x is. c.target_in.ensures.named all x (ap option_copied c.in-Some.is ∙ is);
}

pub returns-in-None-clause-target : goal.returns-in-None-clause-target
returns-in-None-clause-target c text skipped moved =
    let xs = c.args.patch.now.targets.items in
    c.target_in-in-None.ensures.target
    ∙ sym (either xs c.written_place.result _ c.args.place None (c.written_place.ensures text) (sym c.target_in.ensures.target ∙ ap option_copied c.in-None.is))
