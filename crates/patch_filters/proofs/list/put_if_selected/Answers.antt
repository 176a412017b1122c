use Rattle.std.proofs.Common.{◌≡◌, ℕ, suc, Option, List, get_or, true, false, Some, sym, ap, subst, ◌∙◌, ◌<◌, length, arith}
use Rattle.std.specs.Prelude.{slice_get}
use Rattle.std.proofs.lemmas.Option.{get_or_from_slice_get, same_Some}
use Rattle.std.proofs.lemmas.List.Elements.{All-get_or}
use Rattle.line_list.proofs.Elements.{found}
use Rattle.outside.specs.Puts.{Puts}
use Rattle.outside.proofs.SinkSteps.{has-none, puts-done}
use Rattle.read_file_patch.specs.declared.FilePatch.{FilePatch}
use Rattle.read_file_patch.specs.Absent.{IsLawfulPatch}
use Rattle.read_file_patch.specs.PlainPatch.{patch_of}
use Rattle.cli_tool_words.specs.PlainJobs.{plain_list_job}
use Rattle.filter_choice.specs.Selected.{is_selected}
use Rattle.patch_filters.specs.Listed.{is_listed, list_line, name_line}
use Rattle.patch_filters.proofs.list.put_if_selected.Goals as goal

pub returns-then-not-is_selected : goal.returns-then-not-is_selected
returns-then-not-is_selected g c = λ p is.
    let j = plain_list_job c.args.job.now in
    let none = c.if-not-is_selected.true in
    let left_out : is_listed j (patch_of c.args.outline.now.text p) ≡ false = sym (c.is_selected.ensures ∙ ap (is_selected j.select) (c.plain_name-name.ensures p is)) ∙ none in
    rw left_out (puts-done _ (has-none g.met.O.Sink.rest_none c.args.out.now))

pub returns : goal.returns
returns g c = λ p is.
    let v = c.args.outline.now in
    let j = plain_list_job c.args.job.now in
    let i = c.args.patch in
    let q = c.index-patches-patch.result in
    let here : slice_get v.patches i ≡ Some q = found v.patches i q c.requires.within (subst (λ (l : List FilePatch). q ≡ get_or l i q) c.patches.ensures.patches c.index-patches-patch.is) in
    let lawful : IsLawfulPatch v.text q = subst (IsLawfulPatch v.text) (get_or_from_slice_get v.patches i q q here) (All-get_or (IsLawfulPatch v.text) v.patches i q c.requires.within c.patches.ensures.lawful) in
    let same : q ≡ p = same_Some q p (sym here ∙ is) in
    let listed_so : is_listed j (patch_of v.text p) ≡ true = sym (c.is_selected.ensures ∙ ap (is_selected j.select) (c.plain_name-name.ensures p is)) ∙ c.if-not-is_selected.false in
    rw listed_so (subst (λ (x : FilePatch). Puts g.O.Sink.view g.O.Sink.same_rest c.args.out.now c.put_name_line.new.out c.put_name_line.result (list_line j (suc i, patch_of v.text x))) same
    (subst (λ (n : Option ℕ). Puts g.O.Sink.view g.O.Sink.same_rest c.args.out.now c.put_name_line.new.out c.put_name_line.result (name_line j.shown n (patch_of v.text q)))
    c.file_number-number.ensures (c.put_name_line.ensures v.text lawful (c.plain_name-name.ensures q here))))

pub file_number-number-requires : goal.file_number-number-requires
file_number-number-requires g c = c.requires.few

pub plain_name-name-requires : goal.plain_name-name-requires
plain_name-name-requires g c = c.requires.within

pub bounds-patches-patch : goal.bounds-patches-patch
bounds-patches-patch g c = subst (λ (l : List FilePatch). c.args.patch < length l) (sym c.patches.ensures.patches) c.requires.within

pub offset_bounds-patches-patch : goal.offset_bounds-patches-patch
offset_bounds-patches-patch g c =
    let lt = subst (λ (l : List FilePatch). c.args.patch < length l) (sym c.patches.ensures.patches) c.requires.within in
    omega (arith, lt, c.patches.type_inv.0)
