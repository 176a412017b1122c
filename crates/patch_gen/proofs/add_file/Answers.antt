use Rattle.std.proofs.Common.{◌≡◌, ℕ, ◌-◌, ◌*◌, ◌/◌, ◌≤◌, ◌++◌, List, length, drop, refl, ap, ◌∙◌, arith, ◌∷◌, [], map}
use Rattle.patch_gen.specs.Texts.{file_line, file_lines, file_text, line_in}
use Rattle.patch_gen.specs.Patches.{file_patch, header_lines}
use Rattle.patch_gen.proofs.LineLemmas.{length-run, length-text, numbered-part, line-found, same-hunks}
use Rattle.std.proofs.lemmas.List.{map-append}
use Rattle.patch_gen.proofs.RunLemmas.{on_ok_none}
use Rattle.patch_gen.proofs.add_file.Goals as goal

long : (bytes : List ℕ) (x lines : ℕ) → bytes ≡ file_text x lines → 12 * lines ≤ length bytes
long bytes x lines e = omega (arith, ap length e ∙ length-text x lines)

part : (text numbered : List ℕ) (x lines : ℕ) → text ≡ file_text x lines → numbered ≡ drop (length text - 12 * lines) text → numbered ≡ file_lines x lines
part text numbered x lines e is = is ∙ ap (λ t. drop (length t - 12 * lines) t) e ∙ numbered-part x lines

enough : (numbered : List ℕ) (x lines : ℕ) → numbered ≡ file_lines x lines → 240 * (lines / 20) ≤ length numbered
enough numbered x lines e = omega (arith, ap length e ∙ length-run (file_line x) 12 1 lines (λ j. refl))

same : (numbered : List ℕ) (x lines number : ℕ) → numbered ≡ file_lines x lines → file_patch (line_in numbered) number (lines / 20) ≡ file_patch (file_line x) number (lines / 20)
same numbered x lines number e =
    ap (λ t. header_lines number ++ t) (same-hunks (line_in numbered) (file_line x) (lines / 20) (λ j low high. ap (λ t. line_in t j) e ∙ line-found (file_line x) lines j (λ i. refl) low (omega arith)))

pub without_extras-requires : goal.without_extras-requires
without_extras-requires c = long _ _ c.args.lines (c.deref.ensures.value ∙ c.in_ok-text.ensures.text)

pub add_file_patch-requires : goal.add_file_patch-requires
add_file_patch-requires c =
    let text = c.deref.ensures.value ∙ c.in_ok-text.ensures.text in
    let most : c.args.lines ≤ 9999999 = c.requires in
    (omega arith, enough _ _ c.args.lines (part _ _ _ c.args.lines text c.without_extras.ensures))

pub returns : goal.returns
returns c = record {
  patch = let text = c.deref.ensures.value ∙ c.in_ok-text.ensures.text in
      c.in_ok-add_file_patch.ensures ∙ ap (λ l. c.args.patch.now.items ++ l) (same _ c.args.draws.now.state c.args.lines c.args.number (part _ _ _ c.args.lines text c.without_extras.ensures));
  files = ap (map (λ v. v.items)) c.in_ok-push.ensures.items ∙ map-append (λ v. v.items) c.args.files.now.items (c.in_ok-text.text ∷ []) ∙ ap (λ (t : List ℕ). map (λ v. v.items) c.args.files.now.items ++ t ∷ []) c.in_ok-text.ensures.text;
  state = c.in_ok-text.ensures.state;
}

pub returns-in_err-push : goal.returns-in_err-push
returns-in_err-push c = record {
  files = on_ok_none _ _ c.from_residual-in_err-push.result c.from_residual-in_err-push.ensures.1;
  patch = on_ok_none _ _ c.from_residual-in_err-push.result c.from_residual-in_err-push.ensures.1;
  state = on_ok_none _ _ c.from_residual-in_err-push.result c.from_residual-in_err-push.ensures.1;
}

pub returns-in_err-add_file_patch : goal.returns-in_err-add_file_patch
returns-in_err-add_file_patch c = record {
  files = on_ok_none _ _ c.from_residual-in_err-add_file_patch.result c.from_residual-in_err-add_file_patch.ensures.1;
  patch = on_ok_none _ _ c.from_residual-in_err-add_file_patch.result c.from_residual-in_err-add_file_patch.ensures.1;
  state = on_ok_none _ _ c.from_residual-in_err-add_file_patch.result c.from_residual-in_err-add_file_patch.ensures.1;
}
