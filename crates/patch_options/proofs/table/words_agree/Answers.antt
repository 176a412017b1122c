use Rattle.std.proofs.Common.{◌≡◌, ◌∙◌, ◌&&◌, ap, codes, is_some}
use Rattle.patch_options.specs.Forms.{plan_of, reject_form_of, is_suffix, backup_numbers_of}
use Rattle.patch_options.specs.Simple.{rows_in}
use Rattle.patch_options.specs.Table.{has_form, value_of}
use Rattle.patch_options.proofs.Agreeing.{joined_then, joined_else, four_then, four_else}
use Rattle.patch_options.proofs.table.words_agree.Goals as goal
use Rattle.patch_options.proofs.table.words_agree.Goals.{then-is_plan, else-is_plan, then-is_reject_form, else-is_reject_form}

pub returns-then-has_suffix_form : goal.returns-then-has_suffix_form
returns-then-has_suffix_form c =
    let plan = (has_form (λ t. is_some (plan_of t)) (value_of (rows_in c.args.matches.now) (codes "plan"))) in
    let form = (has_form (λ t. is_some (reject_form_of t)) (value_of (rows_in c.args.matches.now) (codes "reject-format"))) in
    let suffix = (has_form is_suffix (value_of (rows_in c.args.matches.now) (codes "suffix"))) in
    let backup = (has_form (λ t. is_some (backup_numbers_of t)) (value_of (rows_in c.args.matches.now) (codes "version-control"))) in
    let two : c.if-is_plan.value ≡ (plan && form) = elim c.if-is_plan.branch [
      | then-is_plan w ↦ joined_then w.value-is (w.is_reject_form.ensures ∙ ap (has_form (λ t. is_some (reject_form_of t))) w.value_of-then-is_plan.ensures) (c.is_plan.ensures ∙ ap (has_form (λ t. is_some (plan_of t))) c.value_of.ensures) w.if-is_plan.true
      | else-is_plan w ↦ joined_else form w.value-is (c.is_plan.ensures ∙ ap (has_form (λ t. is_some (plan_of t))) c.value_of.ensures) w.if-is_plan.false
    ] in
    let three : c.if-is_reject_form.value ≡ ((plan && form) && suffix) = elim c.if-is_reject_form.branch [
      | then-is_reject_form w ↦ joined_then w.value-is (w.has_suffix_form.ensures ∙ ap (has_form is_suffix) w.value_of-then-is_reject_form.ensures) two w.if-is_reject_form.true
      | else-is_reject_form w ↦ joined_else suffix w.value-is two w.if-is_reject_form.false
    ] in
    four_then plan form suffix backup c.if-is_reject_form.value c.has_backup_kind.result three c.if-has_suffix_form.true (c.has_backup_kind.ensures ∙ ap (has_form (λ t. is_some (backup_numbers_of t))) c.value_of-then-has_suffix_form.ensures)

pub returns-else-has_suffix_form : goal.returns-else-has_suffix_form
returns-else-has_suffix_form c =
    let plan = (has_form (λ t. is_some (plan_of t)) (value_of (rows_in c.args.matches.now) (codes "plan"))) in
    let form = (has_form (λ t. is_some (reject_form_of t)) (value_of (rows_in c.args.matches.now) (codes "reject-format"))) in
    let suffix = (has_form is_suffix (value_of (rows_in c.args.matches.now) (codes "suffix"))) in
    let backup = (has_form (λ t. is_some (backup_numbers_of t)) (value_of (rows_in c.args.matches.now) (codes "version-control"))) in
    let two : c.if-is_plan.value ≡ (plan && form) = elim c.if-is_plan.branch [
      | then-is_plan w ↦ joined_then w.value-is (w.is_reject_form.ensures ∙ ap (has_form (λ t. is_some (reject_form_of t))) w.value_of-then-is_plan.ensures) (c.is_plan.ensures ∙ ap (has_form (λ t. is_some (plan_of t))) c.value_of.ensures) w.if-is_plan.true
      | else-is_plan w ↦ joined_else form w.value-is (c.is_plan.ensures ∙ ap (has_form (λ t. is_some (plan_of t))) c.value_of.ensures) w.if-is_plan.false
    ] in
    let three : c.if-is_reject_form.value ≡ ((plan && form) && suffix) = elim c.if-is_reject_form.branch [
      | then-is_reject_form w ↦ joined_then w.value-is (w.has_suffix_form.ensures ∙ ap (has_form is_suffix) w.value_of-then-is_reject_form.ensures) two w.if-is_reject_form.true
      | else-is_reject_form w ↦ joined_else suffix w.value-is two w.if-is_reject_form.false
    ] in
    four_else plan form suffix backup c.if-is_reject_form.value three c.if-has_suffix_form.false
