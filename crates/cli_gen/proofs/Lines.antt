-- The numbers of the summary.
use Rattle.std.proofs.Common.{◌≡◌, ℕ, List, Bool, if◌then◌else◌, count_by, ap, ◌∙◌}
use Rattle.outside.specs.Files.{Files}
use Rattle.hunk_core.specs.declared.Verdict.{Verdict}
use Rattle.hunk_apply.specs.Session.{is_placed}
use Rattle.cli_gen.specs.Summary.{is_moved, capped, bytes_in, summary_line, summary_of}

pub line_told : (files hunks placed moved bytes status F H : ℕ) (vs : List Verdict) (f : Files) (bad : Bool) → files ≡ F → hunks ≡ H → placed ≡ count_by is_placed vs → moved ≡ count_by is_moved vs → bytes ≡ capped (bytes_in f F)
    → status ≡ (if bad then 1 else 0) → summary_line files hunks placed moved bytes status ≡ summary_of F H vs f bad
line_told files hunks placed moved bytes status F H vs f bad one two three four five six =
    ap (λ n. summary_line n hunks placed moved bytes status) one
    ∙ ap (λ n. summary_line F n placed moved bytes status) two
    ∙ ap (λ n. summary_line F H n moved bytes status) three
    ∙ ap (λ n. summary_line F H (count_by is_placed vs) n bytes status) four
    ∙ ap (λ n. summary_line F H (count_by is_placed vs) (count_by is_moved vs) n status) five
    ∙ ap (λ n. summary_line F H (count_by is_placed vs) (count_by is_moved vs) (capped (bytes_in f F)) n) six
