use Rattle.std.proofs.Common.{◌∙◌, ap, length, map, nat_lt, subst, sym}
use Rattle.std.specs.Prelude.{◌||◌}
use Rattle.std.proofs.lemmas.Result.{IfOk-weaker}
use Rattle.hunk_core.specs.Reading.{Fails}
use Rattle.read_patch_text.specs.Digests.{digests_of, plain_digests}
use Rattle.read_patch_text.specs.Regions.{region_of, regions_of}
use Rattle.cli_tool_words.specs.PlainJobs.{plain_style}
use Rattle.filter_style.specs.Styled.{filter_ways, is_plain, styled_from}
use Rattle.filter_style.proofs.Small.{text-stays, read-styled, unread-stays}
use Rattle.filter_style.proofs.styling.restyle.Goals as goal

pub returns-then-stays : goal.returns-then-stays
returns-then-stays c =
    let s = plain_style c.args.style.now in
    text-stays s c.args.text.items (ap (λ t. is_plain s || nat_lt 268435456 (length t)) (sym c.deref.ensures.value) ∙ (sym c.stays.ensures.is ∙ c.if-stays.true))

pub returns-in-Ok : goal.returns-in-Ok
returns-in-Ok c =
    let s = plain_style c.args.style.now in
    let text = c.args.text.items in
    let goes = ap (λ t. is_plain s || nat_lt 268435456 (length t)) (sym c.deref.ensures.value) ∙ (sym c.stays.ensures.is ∙ c.if-stays.false) in
    let ps = c.in-Ok.digests.patches.items in
    IfOk-weaker c.styled_text.result _ _
    (λ new is. is ∙ (ap (λ t. styled_from s t 0 (map region_of c.deref-in-Ok-2.result.now)) c.deref-in-Ok.ensures.value
    ∙ (ap (λ xs. styled_from s text 0 (map region_of xs)) c.deref-in-Ok-2.ensures.value
    ∙ read-styled s text goes (plain_digests c.deref-2.result.now c.in-Ok.digests) (map region_of ps)
    (ap (digests_of filter_ways) (sym c.deref-2.ensures.value) ∙ c.in-Ok.ensures.exact) (c.in-Ok.ensures.regions ∙ ap (regions_of filter_ways) c.deref-2.ensures.value))))
    c.styled_text.ensures

pub returns-in-Err-Malformed : goal.returns-in-Err-Malformed
returns-in-Err-Malformed c =
    let s = plain_style c.args.style.now in
    let text = c.args.text.items in
    let goes = ap (λ t. is_plain s || nat_lt 268435456 (length t)) (sym c.deref.ensures.value) ∙ (sym c.stays.ensures.is ∙ c.if-stays.false) in
    unread-stays s text goes c.in-Err-Malformed.field-0 _ _ c.in-Err-Malformed.field-0-is
    (subst (λ t. Fails c.in-Err-Malformed.field-0 (digests_of filter_ways t)) c.deref-2.ensures.value c.in-Err-Malformed.ensures.exact)
