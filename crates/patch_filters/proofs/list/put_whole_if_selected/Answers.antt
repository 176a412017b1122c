use Rattle.std.proofs.Common.{◌≡◌, ℕ, Option, true, false, suc, Ok, Err, sym, ap, subst, ◌∙◌, arith}
use Rattle.std.proofs.lemmas.Result.{err_from_is_err_and}
use Rattle.std.proofs.lemmas.Option.{same_Some}
use Rattle.std.specs.List.{flat_map}
use Rattle.outside.specs.Puts.{Puts}
use Rattle.outside.specs.declared.Failed.{Failed}
use Rattle.outside.proofs.SinkSteps.{has-none, has-put, puts-done, puts-more, puts-stop}
use Rattle.read_file_patch.specs.declared.FilePatch.{FilePatch}
use Rattle.read_file_patch.specs.PlainPatch.{patch_of}
use Rattle.cli_tool_words.specs.PlainJobs.{plain_list_job}
use Rattle.filter_choice.specs.Selected.{is_selected}
use Rattle.patch_filters.specs.Filtered.{text_if}
use Rattle.patch_filters.specs.HunkLines.{hunk_lines}
use Rattle.patch_filters.specs.Listed.{is_listed, list_lines, name_line}
use Rattle.patch_filters.proofs.list.put_whole_if_selected.Goals as goal

pub returns-then-not-is_selected : goal.returns-then-not-is_selected
returns-then-not-is_selected g c = λ p is.
    let j = plain_list_job c.args.job.now in
    let left_out : is_listed j (patch_of c.args.set.now.text p) ≡ false = sym (c.is_selected.ensures ∙ ap (is_selected j.select) (c.plain_name-name.ensures p is)) ∙ c.if-not-is_selected.true in
    rw left_out (puts-done _ (has-none g.met.O.Sink.rest_none c.args.out.now))

pub returns-in_err-put_name_line : goal.returns-in_err-put_name_line
returns-in_err-put_name_line g c = λ p is.
    let j = plain_list_job c.args.job.now in
    let text = c.args.set.now.text in
    let q = c.patch_at-found.result.now in
    let same : q ≡ p = same_Some q p (sym c.patch_at-found.ensures.is ∙ is) in
    let listed_so : is_listed j (patch_of text p) ≡ true = sym (c.is_selected.ensures ∙ ap (is_selected j.select) (c.plain_name-name.ensures p is)) ∙ c.if-not-is_selected.false in
    let e = err_from_is_err_and c.from_residual.result c.from_residual.ensures.1 in
    rw (e.1, listed_so) (subst (λ (x : FilePatch). Puts {R = Unit {0}} g.O.Sink.view g.O.Sink.same_rest c.args.out.now c.put_name_line.new.out (Err e.0) (list_lines j text (suc c.args.patch, x))) same
    (puts-stop c.in_err-put_name_line.field-0.0 e.0 (text_if (j.shown.hunks, flat_map (λ line. line) (hunk_lines j.shown.hunk_label text q)))
    (subst (λ (n : Option ℕ). Puts {R = Unit {0}} g.O.Sink.view g.O.Sink.same_rest c.args.out.now c.put_name_line.new.out (Err c.in_err-put_name_line.field-0.0) (name_line j.shown n (patch_of text q)))
    c.file_number.ensures (c.in_err-put_name_line.ensures text c.patch_at-found.ensures.lawful (c.plain_name-name.ensures q c.patch_at-found.ensures.is)))))

pub returns-then-not-job : goal.returns-then-not-job
returns-then-not-job g c = λ p is.
    let j = plain_list_job c.args.job.now in
    let text = c.args.set.now.text in
    let q = c.patch_at-found.result.now in
    let same : q ≡ p = same_Some q p (sym c.patch_at-found.ensures.is ∙ is) in
    let listed_so : is_listed j (patch_of text p) ≡ true = sym (c.is_selected.ensures ∙ ap (is_selected j.select) (c.plain_name-name.ensures p is)) ∙ c.if-not-is_selected.false in
    let put = has-put c.in_ok-put_name_line.field-0 (subst (λ (n : Option ℕ). Puts {R = Unit {0}} {E = Failed} g.O.Sink.view g.O.Sink.same_rest c.args.out.now c.put_name_line.new.out (Ok c.in_ok-put_name_line.field-0) (name_line j.shown n (patch_of text q)))
    c.file_number.ensures (c.in_ok-put_name_line.ensures text c.patch_at-found.ensures.lawful (c.plain_name-name.ensures q c.patch_at-found.ensures.is))) in
    rw listed_so (subst (λ (x : FilePatch). Puts {R = Unit {0}} {E = Failed} g.O.Sink.view g.O.Sink.same_rest c.args.out.now c.put_name_line.new.out (Ok tt) (list_lines j text (suc c.args.patch, x))) same
    (rw c.if-not-job.true (puts-more g.met.O.Sink.rest_both put (puts-done tt (has-none g.met.O.Sink.rest_none c.put_name_line.new.out)))))

pub returns : goal.returns
returns g c = λ p is.
    let j = plain_list_job c.args.job.now in
    let text = c.args.set.now.text in
    let q = c.patch_at-found.result.now in
    let same : q ≡ p = same_Some q p (sym c.patch_at-found.ensures.is ∙ is) in
    let listed_so : is_listed j (patch_of text p) ≡ true = sym (c.is_selected.ensures ∙ ap (is_selected j.select) (c.plain_name-name.ensures p is)) ∙ c.if-not-is_selected.false in
    let put = has-put c.in_ok-put_name_line.field-0 (subst (λ (n : Option ℕ). Puts {R = Unit {0}} {E = Failed} g.O.Sink.view g.O.Sink.same_rest c.args.out.now c.put_name_line.new.out (Ok c.in_ok-put_name_line.field-0) (name_line j.shown n (patch_of text q)))
    c.file_number.ensures (c.in_ok-put_name_line.ensures text c.patch_at-found.ensures.lawful (c.plain_name-name.ensures q c.patch_at-found.ensures.is))) in
    let more = subst (λ t. Puts g.O.Sink.view g.O.Sink.same_rest c.put_name_line.new.out c.put_hunk_lines.new.out c.put_hunk_lines.result (flat_map (λ line. line) (hunk_lines j.shown.hunk_label t q))) c.text.ensures c.put_hunk_lines.ensures in
    rw listed_so (subst (λ (x : FilePatch). Puts g.O.Sink.view g.O.Sink.same_rest c.args.out.now c.put_hunk_lines.new.out c.put_hunk_lines.result (list_lines j text (suc c.args.patch, x))) same
    (rw c.if-not-job.false (puts-more g.met.O.Sink.rest_both put more)))

pub put_hunk_lines-requires-clause-lawful : goal.put_hunk_lines-requires-clause-lawful
put_hunk_lines-requires-clause-lawful g c = rw c.text.ensures c.patch_at-found.ensures.lawful.change

pub put_hunk_lines-requires-clause-placed : goal.put_hunk_lines-requires-clause-placed
put_hunk_lines-requires-clause-placed g c = rw c.text.ensures c.patch_at-found.ensures.placed

pub file_number-requires : goal.file_number-requires
file_number-requires g c = omega (arith, c.requires)

pub plain_name-name-requires : goal.plain_name-name-requires
plain_name-name-requires g c = omega (arith, c.requires)

pub patch_at-found-requires : goal.patch_at-found-requires
patch_at-found-requires g c = c.requires
