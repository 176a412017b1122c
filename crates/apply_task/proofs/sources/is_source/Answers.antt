use Rattle.std.proofs.Common.{◌≡◌, List, [], ◌∷◌, Bool, ◌||◌, map, refl, sym, ◌∙◌, ap, rules, tests}
use Rattle.std.specs.List.{list_any}
use Rattle.std.proofs.lemmas.Iterator.{YieldsList-from_slice}
use Rattle.std.proofs.lemmas.Iterator.Search.{any_from_yields_List}
use Rattle.read_file_patch.specs.declared.FilePatch.{FilePatch}
use Rattle.apply_task.specs.Contexts.{has_at}
use Rattle.apply_task.specs.Ready.{moved_of}
use Rattle.apply_task.proofs.sources.is_source.Goals as goal

any_map : {X Y : Type 0} (p : Y → Bool) (h : X → Y) (xs : List X) → list_any p (map h xs) ≡ list_any (λ x. p (h x)) xs
any_map p h [] = refl
any_map p h (x ∷ xs) = ap (λ b. p (h x) || b) (any_map p h xs)

pub returns : goal.returns
returns c =
    let place = c.source_at-place.result in
    let name = c.args.name.now in
    any_from_yields_List (λ (p : FilePatch). has_at place name (moved_of p)) _ _ _ c.any.ensures.ran (YieldsList-from_slice c.patches-patches.result.now c.iter.ensures.rest) (λ x b q k. search (rules, tests))
    ∙ ap (list_any (λ (p : FilePatch). has_at place name (moved_of p))) c.patches-patches.ensures.patches
    ∙ sym (any_map (has_at place name) moved_of c.args.task.now.set.now.patches)
    ∙ ap (λ k. list_any (has_at k name) (map moved_of c.args.task.now.set.now.patches)) c.source_at-place.ensures
