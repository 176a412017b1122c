use Rattle.std.proofs.Common.{◌≡◌, ◌+◌, ◌++◌, ◌∷◌, [], List, take, sym, ◌∙◌, ap, arith}
use Rattle.std.specs.List.{fold}
use Rattle.std.proofs.lemmas.List.{take_all, take_more}
use Rattle.std.proofs.lemmas.List.Sums.{fold-append}
use Rattle.read_file_patch.specs.declared.derived.Target.{Target}
use Rattle.stack_patch.specs.Gathering.{Gathered, gathered, with_target}
use Rattle.stack_patch.proofs.names.add_patch.Goals as goal

pub loop-target-preserved : goal.loop-target-preserved
loop-target-preserved c =
    let i = c.loop-target.target-index in
    let ts : List Target = c.deref-target-items.result.now in
    let t = c.target-item.result in
    let line = c.args.patch.now.header.opening in
    let start : Gathered = gathered c.args.saved.now in
    let more : take (i + 1) ts ≡ take i ts ++ t ∷ [] = take_more ts i t (omega arith) ∙ ap (λ (x : Target). take i ts ++ x ∷ []) (sym c.target-item.is) in
    c.in_ok-add_target.ensures
    ∙ ap (λ (g : Gathered). with_target line g t) c.loop-target.invariant
    ∙ sym (fold-append (with_target line) start (take i ts) (t ∷ []))
    ∙ ap (λ (l : List Target). fold (with_target line) start l) (sym more)

pub returns : goal.returns
returns c =
    let ts : List Target = c.deref-target-items.result.now in
    c.loop-target.invariant
    ∙ ap (λ (l : List Target). fold (with_target c.args.patch.now.header.opening) (gathered c.args.saved.now) l)
    (take_all c.loop-target.target-index ts (omega arith) ∙ c.deref-target-items.ensures.value)
