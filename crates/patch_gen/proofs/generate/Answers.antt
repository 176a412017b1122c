use Rattle.std.proofs.Common.{◌≡◌, ℕ, ◌+◌, ◌-◌, ◌*◌, ◌/◌, ◌++◌, ◌∷◌, [], map, sym, ap, ◌∙◌, arith}
use Rattle.std.specs.List.{flat_map, range_with_len}
use Rattle.std.proofs.lemmas.List.FromFn.{map-range_with_len_more}
use Rattle.patch_gen.specs.Lcg.{state_after}
use Rattle.patch_gen.specs.Texts.{file_line, file_text}
use Rattle.patch_gen.specs.Patches.{file_patch}
use Rattle.patch_gen.specs.Tree.{file_state, made_file, made_patch, made}
use Rattle.patch_gen.proofs.RunLemmas.{run-more, state-first, state-files}
use Rattle.patch_gen.proofs.RoomLemmas.{hunks-fit}
use Rattle.patch_gen.proofs.generate.Goals as goal

here : (seed lines n x : ℕ) → x ≡ state_after seed (n * (1 + lines)) → x ≡ file_state seed lines (n + 1)
here seed lines n x e = let back : n ≡ n + 1 - 1 = omega arith in e ∙ ap (λ k. state_after seed (k * (1 + lines))) back

pub loop-done-init : goal.loop-done-init
loop-done-init c = record {
  files = ap (map (λ v. v.items)) c.in_ok-texts.ensures.items;
  patch = c.in_ok-patch.ensures.items;
  state = c.from.ensures ∙ sym (state-first c.args.seed (1 + c.args.lines));
}

pub loop-done-preserved : goal.loop-done-preserved
loop-done-preserved c =
    let i = c.loop-done.invariant in
    let n = c.loop-done.done in
    let e = c.in_ok-add_file.ensures in
    let at = here c.args.seed c.args.lines n c.loop-done.draws.state i.state in
    let piece : file_text c.loop-done.draws.state c.args.lines ≡ made_file c.args.seed c.args.lines (n + 1) = ap (λ x. file_text x c.args.lines) at in
    record {
      files = e.files ∙ ap (λ l. l ++ file_text c.loop-done.draws.state c.args.lines ∷ []) i.files ∙ ap (λ t. map (made_file c.args.seed c.args.lines) (range_with_len 1 n) ++ t ∷ []) piece ∙ sym (map-range_with_len_more (made_file c.args.seed c.args.lines) 1 n (n + 1) (omega arith));
      patch = run-more (made_patch c.args.seed c.args.lines) [] _ _ _ n i.patch e.patch (ap (λ x. file_patch (file_line x) (n + 1) (c.args.lines / 20)) at);
      state = state-files c.args.seed n (1 + c.args.lines) _ _ i.state e.state;
    }

pub returns-clause-files : goal.returns-clause-files
unfolding made
returns-clause-files c =
    let all : c.loop-done.done ≡ c.args.files = omega arith in
    c.loop-done.invariant.files ∙ ap (λ n. map (made_file c.args.seed c.args.lines) (range_with_len 1 n)) all

pub returns-clause-patch : goal.returns-clause-patch
unfolding made
returns-clause-patch c =
    let all : c.loop-done.done ≡ c.args.files = omega arith in
    c.loop-done.invariant.patch ∙ ap (λ n. flat_map (made_patch c.args.seed c.args.lines) (range_with_len 1 n)) all

pub overflow_mul-result : goal.overflow_mul-result
overflow_mul-result c = record { fits = hunks-fit c.args.files c.args.lines c.requires.all }
