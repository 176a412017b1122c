use Rattle.std.proofs.Common.{None, if◌then◌else◌, sym, ◌∙◌, ap}
use Rattle.std.specs.Prelude.{slice_get}
use Rattle.std.specs.Option.{option_and_then}
use Rattle.apply_outcome.proofs.past.renamed_by.Goals as goal

pub returns-then-not-renames : goal.returns-then-not-renames
returns-then-not-renames c = record {
  target = λ o v. sym (ap (λ b. if b then option_and_then (slice_get c.args.patch.now.targets.items) c.args.row.target else None) (sym (c.renames.ensures v.text) ∙ c.if-not-renames.true));
}

pub returns : goal.returns
returns c =
    let targets = c.args.patch.now.targets.items in
    record {
      target = λ o v. c.target_in.ensures.target
          ∙ sym (ap (λ b. if b then option_and_then (slice_get targets) c.args.row.target else None) (sym (c.renames.ensures v.text) ∙ c.if-not-renames.false)
          ∙ ap (option_and_then (slice_get targets)) c.in_ok-place.was);
    }
