use Rattle.std.proofs.Common.{◌≡◌, ◌+◌, ◌++◌, ◌∷◌, [], ℕ, List, take, sym, ◌∙◌, ap, arith}
use Rattle.std.specs.List.{fold}
use Rattle.std.proofs.lemmas.List.{take_all, take_more}
use Rattle.std.proofs.lemmas.List.Sums.{fold-append}
use Rattle.read_file_patch.specs.declared.FilePatch.{FilePatch}
use Rattle.stack_patch.specs.Gathering.{Gathered, nothing, with_patch}
use Rattle.stack_patch.proofs.Gathering.{saves}
use Rattle.stack_patch.proofs.names.saved_names.Goals as goal

pub loop-patch-init : goal.loop-patch-init
loop-patch-init c = ap (λ (l : List (List ℕ)). record { names = l; own = nothing.own; count = 0 }) c.new.ensures.items

pub loop-patch-preserved : goal.loop-patch-preserved
loop-patch-preserved c =
    let i = c.loop-patch.patch-index in
    let ps : List FilePatch = c.patches-patch-items.result.now in
    let p = c.patch-item.result in
    let more : take (i + 1) ps ≡ take i ps ++ p ∷ [] = take_more ps i p (omega arith) ∙ ap (λ (x : FilePatch). take i ps ++ x ∷ []) (sym c.patch-item.is) in
    c.in_ok-add_patch.ensures
    ∙ ap (λ (g : Gathered). with_patch g p) c.loop-patch.invariant
    ∙ sym (fold-append with_patch nothing (take i ps) (p ∷ []))
    ∙ ap (λ (l : List FilePatch). fold with_patch nothing l) (sym more)

pub returns : goal.returns
returns c = record {
  names = (
      ap (λ (g : Gathered). g.names)
      (c.loop-patch.invariant
      ∙ ap (λ (l : List FilePatch). fold with_patch nothing l) (take_all c.loop-patch.patch-index c.patches-patch-items.result.now (omega arith) ∙ c.patches-patch-items.ensures.patches)
      ∙ saves c.requires.read.0 c.args.set.now c.requires.read.1));
  own = (
      ap (λ (g : Gathered). g.own)
      (c.loop-patch.invariant
      ∙ ap (λ (l : List FilePatch). fold with_patch nothing l) (take_all c.loop-patch.patch-index c.patches-patch-items.result.now (omega arith) ∙ c.patches-patch-items.ensures.patches)
      ∙ saves c.requires.read.0 c.args.set.now c.requires.read.1));
}
