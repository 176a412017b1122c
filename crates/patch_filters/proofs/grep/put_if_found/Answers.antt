use Rattle.std.proofs.Common.{◌≡◌, true, false, ◌&&◌, Some, sym, ap, subst, ◌∙◌, arith}
use Rattle.std.specs.List.{list_any}
use Rattle.std.proofs.lemmas.Option.{same_Some}
use Rattle.read_file_patch.specs.PlainPatch.{change_of, header_of, patch_of}
use Rattle.patch_set.specs.PlainName.{plain_name}
use Rattle.cli_tool_words.specs.PlainJobs.{plain_grep_job}
use Rattle.patch_filters.specs.declared.fault.GrepFault.TheVariants.{Memory}
use Rattle.filter_choice.specs.Selected.{is_selected}
use Rattle.patch_filters.specs.Grepped.{IsFirst, asked_text, hits_of, is_found, test_of, text_if_found}
use Rattle.patch_filters.proofs.Searching.{same-test, still-kept}
use Rattle.patch_filters.proofs.Finding.{by-first, ends-in, finds-done, finds-memory, finds-more, found-asked, found-none, if-set, if-unset}
use Rattle.patch_filters.proofs.Hits.{first-some, hits-same, few-rows}
use Rattle.patch_filters.proofs.grep.put_if_found.Goals as goal

pub put_asked-requires-clause-kept : goal.put_asked-requires-clause-kept
put_asked-requires-clause-kept g c = still-kept c.in_ok-first.ensures.asked c.requires.kept

pub put_asked-requires-clause-first : goal.put_asked-requires-clause-first
put_asked-requires-clause-first g c = λ p is.
    let v = c.args.set.now in
    let j = plain_grep_job c.args.job.now in
    let found = c.patch_at.result.now in
    let old = test_of (g.F.Finder.view c.args.finder.now) in
    let new = test_of (g.F.Finder.view c.first_hit.new.finder) in
    let same : found ≡ p = same_Some found p (sym c.patch_at.ensures.is ∙ is) in
    let flags = hits_of j.searched old (change_of c.text.result.now found.change) in
    let moved : flags ≡ hits_of j.searched new (change_of v.text p.change) =
    hits-same j.searched old c.text.result.now v.text found p c.text.ensures same ∙ ap (λ hit. hits_of j.searched hit (change_of v.text p.change)) (sym (same-test c.in_ok-first.ensures.asked)) in
    subst (λ fs. IsFirst fs (Some c.in-Some.first)) moved (subst (IsFirst flags) c.in-Some.is c.in_ok-first.ensures.first)

pub returns-then-not-is_selected : goal.returns-then-not-is_selected
returns-then-not-is_selected g c = λ p is.
    let v = c.args.set.now in
    let j = plain_grep_job c.args.job.now in
    let hit = test_of (g.F.Finder.view c.args.finder.now) in
    let left_out : is_found hit j (patch_of v.text p) ≡ false =
    ap (λ b. b && list_any (λ is. is) (hits_of j.searched hit (change_of v.text p.change))) (sym (c.is_selected.ensures ∙ ap (is_selected j.select) (c.plain_name.ensures p is)) ∙ c.if-not-is_selected.true) in
    if-unset (is_found hit j (patch_of v.text p)) (asked_text hit j v.text p) left_out (finds-done tt (found-none g.met.O.Sink.rest_none (g.F.Finder.view c.args.finder.now) c.args.out.now))

pub returns-in_err-first : goal.returns-in_err-first
returns-in_err-first g c = λ p is.
    let bytes = text_if_found (test_of (g.F.Finder.view c.args.finder.now)) (plain_grep_job c.args.job.now) c.args.set.now.text p in
    ends-in c.from_residual.result Memory c.from_residual.ensures.1 (finds-memory bytes (found-asked (found-none g.met.O.Sink.rest_none (g.F.Finder.view c.args.finder.now) c.args.out.now) c.in_err-first.ensures.asked))

pub returns-in_default : goal.returns-in_default
returns-in_default g c = λ p is.
    let v = c.args.set.now in
    let j = plain_grep_job c.args.job.now in
    let found = c.patch_at.result.now in
    let hit = test_of (g.F.Finder.view c.args.finder.now) in
    let same : found ≡ p = same_Some found p (sym c.patch_at.ensures.is ∙ is) in
    let flags = hits_of j.searched hit (change_of c.text.result.now found.change) in
    let moved = hits-same j.searched hit c.text.result.now v.text found p c.text.ensures same in
    let no_hit : list_any (λ is. is) (hits_of j.searched hit (change_of v.text p.change)) ≡ false =
    subst (λ fs. list_any (λ is. is) fs ≡ false) moved (subst (IsFirst flags) (c.in_default.is) c.in_ok-first.ensures.first) in
    let selected : is_selected j.select (plain_name (header_of v.text p.header)) ≡ true = sym (c.is_selected.ensures ∙ ap (is_selected j.select) (c.plain_name.ensures p is)) ∙ c.if-not-is_selected.false in
    let left_out : is_found hit j (patch_of v.text p) ≡ false = ap (λ b. b && list_any (λ is. is) (hits_of j.searched hit (change_of v.text p.change))) selected ∙ no_hit in
    if-unset (is_found hit j (patch_of v.text p)) (asked_text hit j v.text p) left_out (finds-done tt (found-asked (found-none g.met.O.Sink.rest_none (g.F.Finder.view c.args.finder.now) c.args.out.now) c.in_ok-first.ensures.asked))

pub returns : goal.returns
returns g c = λ p is.
    let v = c.args.set.now in
    let j = plain_grep_job c.args.job.now in
    let found = c.patch_at.result.now in
    let hit = test_of (g.F.Finder.view c.args.finder.now) in
    let same : found ≡ p = same_Some found p (sym c.patch_at.ensures.is ∙ is) in
    let flags = hits_of j.searched hit (change_of c.text.result.now found.change) in
    let moved = hits-same j.searched hit c.text.result.now v.text found p c.text.ensures same in
    let some : list_any (λ is. is) (hits_of j.searched hit (change_of v.text p.change)) ≡ true =
    subst (λ fs. list_any (λ is. is) fs ≡ true) moved (first-some flags c.in-Some.first (subst (IsFirst flags) c.in-Some.is c.in_ok-first.ensures.first)) in
    let selected : is_selected j.select (plain_name (header_of v.text p.header)) ≡ true = sym (c.is_selected.ensures ∙ ap (is_selected j.select) (c.plain_name.ensures p is)) ∙ c.if-not-is_selected.false in
    let taken : is_found hit j (patch_of v.text p) ≡ true = ap (λ b. b && list_any (λ is. is) (hits_of j.searched hit (change_of v.text p.change))) selected ∙ some in
    if-set (is_found hit j (patch_of v.text p)) (asked_text hit j v.text p) taken (finds-more c.put_asked.result g.met.O.Sink.rest_both
    (found-asked (found-none g.met.O.Sink.rest_none (g.F.Finder.view c.args.finder.now) c.args.out.now) c.in_ok-first.ensures.asked)
    (by-first (λ hit. asked_text hit j v.text p) c.in_ok-first.ensures.asked (c.put_asked.ensures p is)))

pub first_hit-requires-clause-kept : goal.first_hit-requires-clause-kept
first_hit-requires-clause-kept g c = c.requires.kept

pub put_asked-requires-clause-within : goal.put_asked-requires-clause-within
put_asked-requires-clause-within g c = c.requires.within

pub first_hit-requires-clause-few : goal.first_hit-requires-clause-few
first_hit-requires-clause-few g c = few-rows c.args.set.now.text c.patch_at.result.now.change c.patch_at.ensures.lawful.change

pub first_hit-requires-clause-lawful : goal.first_hit-requires-clause-lawful
first_hit-requires-clause-lawful g c = rw c.text.ensures c.patch_at.ensures.lawful.change

pub patch_at-requires : goal.patch_at-requires
patch_at-requires g c = c.requires.within

pub plain_name-requires : goal.plain_name-requires
plain_name-requires g c = omega (arith, c.requires.within)
