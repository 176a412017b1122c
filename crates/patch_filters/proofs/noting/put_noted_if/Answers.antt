use Rattle.std.proofs.Common.{◌≡◌, ◌+◌, ◌++◌, ◌∙◌, [], OnOk, ℕ, true, ap, arith, if◌then◌else◌, suc, subst, sym}
use Rattle.std.specs.Prelude.{slice_index_or}
use Rattle.std.proofs.lemmas.List.{append-nil}
use Rattle.patch_set.specs.PlainName.{plain_name}
use Rattle.filter_style.specs.Styled.{noted_text}
use Rattle.patch_filters.specs.Rows.{plain, telling, texts}
use Rattle.patch_filters.specs.Told.{is_set, note}
use Rattle.patch_filters.proofs.noting.put_noted_if.Goals as goal

pub returns-then-not-is_kept : goal.returns-then-not-is_kept
returns-then-not-is_kept c =
    let r = c.args.row.now in
    let k = c.args.hunk in
    let text = noted_text (telling r).style.clean (note r.marks.annotate (suc k) (plain_name (plain r).header)) (plain r).header.form (slice_index_or (texts r) k []) in
    sym (append-nil c.args.out.now.items) ∙ ap (λ b. c.args.out.now.items ++ (if b then text else [])) (sym c.if-not-is_kept.true ∙ c.is_kept.ensures)

pub returns : goal.returns
returns c =
    let r = c.args.row.now in
    let k = c.args.hunk in
    let form = (plain r).header.form in
    let clean = (telling r).style.clean in
    let old = c.args.out.now.items in
    let called = plain_name (plain r).header in
    let text = noted_text clean (note r.marks.annotate (suc k) called) form (slice_index_or (texts r) k []) in
    let number : c.from-number.result + 1 ≡ suc k = omega (arith, c.from-number.ensures) in
    let noted = c.deref.ensures.value ∙ c.in_ok-note.ensures ∙ ap (λ (m : ℕ). note r.marks.annotate m c.name.result.now) number ∙ ap (note r.marks.annotate (suc k)) c.name.ensures in
    let kept : is_set r.flags.now k ≡ true = sym c.is_kept.ensures ∙ c.if-not-is_kept.false in
    subst (λ t. OnOk c.put_noted-done.result (c.put_noted-done.new.out.items ≡ old ++ t))
    (ap (λ n. noted_text clean n form c.piece.result.now) noted ∙ ap (noted_text clean (note r.marks.annotate (suc k) called) form) c.piece.ensures ∙ ap (λ b. if b then text else []) (sym kept))
    c.put_noted-done.ensures
