use Rattle.std.proofs.Common.{◌<◌, Some, List, ℕ, sym, ap, subst, ◌∙◌}
use Rattle.std.specs.Prelude.{option_map}
use Rattle.std.proofs.lemmas.Option.{slice_get-get_or, slice_get-map}
use Rattle.read_patch_text.specs.Digests.{rows_in}
use Rattle.patch_filters.specs.Digested.{range_numbers}
use Rattle.patch_filters.proofs.hunks.row_lines.Goals as goal

pub returns-in-Hunks : goal.returns-in-Hunks
returns-in-Hunks c = λ text lawful.
    let olds = c.args.olds.now in
    let within = subst (λ x. c.args.hunk < rows_in x olds) c.in-Hunks.is c.requires.within in
    rw c.in-Hunks.is (slice_get-map range_numbers olds c.args.hunk ∙ ap (option_map range_numbers) (slice_get-get_or olds c.args.hunk _ within) ∙ ap (λ (l : List ℕ). Some l) (sym c.range_lines.ensures))
