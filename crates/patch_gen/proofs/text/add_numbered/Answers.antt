use Rattle.std.proofs.Common.{◌≡◌, ◌+◌, ◌/◌, ◌%◌, ◌^◌, ap, sym, ◌∙◌, ℕ, ◌++◌, arith}
use Rattle.std.proofs.lemmas.List.{append-nil}
use Rattle.patch_gen.specs.Lcg.{draw, next_state, state_after}
use Rattle.patch_gen.specs.Texts.{numbered_line}
use Rattle.patch_gen.proofs.RunLemmas.{run-more, state-start, state-more, on_ok_none}
use Rattle.std.specs.List.{flat_map, range_with_len}
use Rattle.patch_gen.proofs.text.add_numbered.Goals as goal

pub loop-done-init : goal.loop-done-init
loop-done-init c = record { text = sym (append-nil c.args.text.now.items); state = sym (state-start c.args.draws.now.state) }

pub loop-done-preserved : goal.loop-done-preserved
loop-done-preserved c =
    let x = c.args.draws.now.state in
    let n = c.loop-done.done in
    let state : c.next_draw-value.new.self.state ≡ state_after x (n + 1) = c.next_draw-value.ensures.state ∙ ap next_state c.loop-done.invariant.state ∙ sym (state-more x n) in
    record {
      text = run-more (λ j. numbered_line j (draw x j % 1000)) _ _ _ _ n c.loop-done.invariant.text c.in_ok-extend_from_slice.ensures.items (c.numbered_bytes.ensures ∙ ap (λ v. numbered_line (n + 1) (v % 1000)) (c.next_draw-value.ensures.drawn ∙ ap (λ y. y / 2 ^ 33) state));
      state = state;
    }

pub returns : goal.returns
returns c = let all : c.loop-done.done ≡ c.args.lines = omega (arith, c.loop-done-test.false, c.loop-done.auto.done-end) in let x = c.args.draws.now.state in record {
  text = c.loop-done.invariant.text ∙ ap (λ (n : ℕ). c.args.text.now.items ++ flat_map (λ j. numbered_line j (draw x j % 1000)) (range_with_len 1 n)) all;
  state = c.loop-done.invariant.state ∙ ap (λ (n : ℕ). state_after x n) all;
}

pub returns-in_err-extend_from_slice : goal.returns-in_err-extend_from_slice
returns-in_err-extend_from_slice c = record {
  text = on_ok_none _ _ c.from_residual.result c.from_residual.ensures.1;
  state = on_ok_none _ _ c.from_residual.result c.from_residual.ensures.1;
}
