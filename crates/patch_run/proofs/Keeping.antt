-- A file patch without hunks keeps the bytes of its file.
use Rattle.std.proofs.Common.{◌≡◌, ◌+◌, ℕ, zero, suc, List, [], ◌∷◌, length, drop, get_or, Bool, true, false, ◌==◌, if◌then◌else◌, arith, refl, sym, ◌∙◌, ap}
use Rattle.std.proofs.lemmas.Bool.Decides.{Decides-eqb}
use Rattle.std.proofs.lemmas.List.{drop_more, drop_all}
use Rattle.line_list.specs.Lines.{lines}
use Rattle.line_list.specs.Join.{join}
use Rattle.line_list.proofs.JoinLemmas.{join-lines}
use Rattle.hunk_core.specs.declared.Side.{Side}
use Rattle.hunk_place.specs.Verdicts.{spots}
use Rattle.read_file_patch.specs.PlainPatch.{PlainChange, hunks, script, hunk_count}
use Rattle.hunk_apply.specs.Applied.{applied}
use Rattle.hunk_apply.specs.Change.{change_output}
use Rattle.hunk_apply.specs.Splice.{spliced, spliced_from, all_edits}
use Rattle.hunk_apply.proofs.SpliceLemmas.{line-kept, nothing-left, spliced-whole}
use Rattle.apply_task.specs.Asking.{is_bare}
use Rattle.apply_task.specs.Outputs.{admitted, is_barred}
use Rattle.patch_run.specs.OnePatch.{PlainContext, text_of}

-- without an edit the lines from one on are the file's
lines_stay : (ls : List (List ℕ)) (n q : ℕ) → q + n ≡ length ls → spliced_from ls [] (q + 1) ≡ drop q ls
lines_stay ls zero q is = ap (λ k. spliced_from ls [] (k + 1)) (omega (arith, is)) ∙ nothing-left ls ∙ sym (drop_all q ls (omega (arith, is)))
lines_stay ls (suc n) q is =
    line-kept ls [] (q + 1) (omega (arith, is)) tt
    ∙ ap (λ k. get_or ls k [] ∷ spliced_from ls [] (q + 1 + 1)) (omega arith)
    ∙ ap (λ (more : List (List ℕ)). get_or ls q [] ∷ more) (lines_stay ls n (q + 1) (omega (arith, is)))
    ∙ sym (drop_more ls q [] (omega (arith, is)))

unspliced : (ls : List (List ℕ)) → spliced ls [] ≡ ls
unspliced ls = spliced-whole ls [] ∙ ap (λ k. spliced_from ls [] k) (omega arith) ∙ lines_stay ls (length ls) 0 (omega arith)

unchanged : (ls : List (List ℕ)) (fuzz : ℕ) (loose : Bool) (side : Side) (c : PlainChange) → (hunk_count c == 0) ≡ true → change_output ls fuzz loose side c ≡ join ls
unfolding applied spots all_edits
unchanged ls fuzz loose side (hunks []) is = ap join (unspliced ls)
unchanged ls fuzz loose side (hunks (h ∷ hs)) is = let none : suc (length hs) ≡ 0 = (Decides-eqb (suc (length hs)) 0).0 is in absurd (omega (arith, none))
unchanged ls fuzz loose side (script es) is = let none : 1 ≡ 0 = (Decides-eqb 1 0).0 is in absurd (omega (arith, none))

admitted_none : (b : Bool) (c : PlainChange) → (hunk_count c == 0) ≡ true → (hunk_count (if b then hunks [] else c) == 0) ≡ true
admitted_none true c is = refl
admitted_none false c is = is

pub bare_keeps : (t : PlainContext) (side : Side) (bytes : List ℕ) → is_bare t.item.patch ≡ true → text_of t side (lines bytes) ≡ bytes
bare_keeps t side bytes is = unchanged (lines bytes) t.options.fuzz t.options.loose side (admitted t.options side t.item.patch (lines bytes)) (admitted_none (is_barred t.options side t.item.patch (lines bytes)) t.item.patch.change is) ∙ join-lines bytes
