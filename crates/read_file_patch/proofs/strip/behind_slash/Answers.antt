use Rattle.std.proofs.Common.{ap, sym, ◌∙◌, List, ℕ, Some}
use Rattle.std.specs.Option.{option_copied}
use Rattle.std.proofs.lemmas.List.{take_rest}
use Rattle.read_file_patch.specs.Stripped.{without_slashes}
use Rattle.read_file_patch.proofs.Stripping.{behind-found, behind-missing}
use Rattle.read_file_patch.proofs.strip.behind_slash.Goals as goal

pub returns : goal.returns
returns c =
    ap (λ (l : List ℕ). Some l) (c.without_slashes.ensures ∙ ap (λ (l : List ℕ). without_slashes l) (take_rest c.args.text.now c.in_ok-at.at))
    ∙ sym (behind-found c.args.text.now c.in_ok-at.at c.in_ok-at.ensures.0 c.in_ok-at.ensures.1)

pub returns-in_err-at : goal.returns-in_err-at
returns-in_err-at c = ap (λ o. option_copied o) c.from_residual.ensures ∙ sym (behind-missing c.args.text.now c.in_err-at.ensures)
