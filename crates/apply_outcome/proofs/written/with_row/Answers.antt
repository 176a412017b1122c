use Rattle.std.proofs.Common.{◌≡◌, List, [], ◌∷◌, ◌++◌, All, get_or, Some, sym, ◌∙◌, ap, subst}
use Rattle.std.proofs.lemmas.List.Elements.{All-get_or}
use Rattle.read_file_patch.specs.declared.FilePatch.{FilePatch}
use Rattle.outside.specs.Marked.{is_marked}
use Rattle.patch_set.specs.Room.{HasRoom}
use Rattle.apply_outcome.specs.Outcome.{mark_of}
use Rattle.apply_outcome.specs.Ready.{AreWritten}
use Rattle.apply_task.specs.Ready.{alone}
use Rattle.apply_outcome.proofs.Marks.{same-patch}
use Rattle.apply_outcome.proofs.MoreWritten.{isset, unset, some-written, written-still, written-more}
use Rattle.apply_outcome.proofs.Roomy.{some-rooms, still-rooms}
use Rattle.apply_outcome.proofs.written.with_row.Goals as goal

pub returns-then-not-row-clause-written : goal.returns-then-not-row-clause-written
returns-then-not-row-clause-written c o same past p vs is old =
    let t = alone o c.args.set.now p in
    let n = c.in_ok-kept.kept in
    some-written n (past ++ mark_of t c.args.row vs ∷ []) (λ q. old n c.in_ok-kept.was q ∙ written-still t c.args.row vs past q (unset c.args.row.wrote c.if-not-row.true))

pub returns-then-not-row-clause-room : goal.returns-then-not-row-clause-room
returns-then-not-row-clause-room c =
    let v = c.args.set.now in
    some-rooms v.patches v.output c.in_ok-kept.kept (c.requires.room c.in_ok-kept.kept c.in_ok-kept.was)

pub mark_both-requires-clause-targets : goal.mark_both-requires-clause-targets
mark_both-requires-clause-targets c =
    let v = c.args.set.now in
    let n = c.in_ok-kept.kept in
    let x = c.index-patches-patch.result in
    let at : x ≡ get_or v.patches c.args.patch x = c.index-patches-patch.is ∙ ap (λ (l : List FilePatch). get_or l c.args.patch x) c.patches.ensures.patches in
    let P : FilePatch → Type 0 = λ p. All (HasRoom n) p.targets.items in
    subst P (sym at) (All-get_or P v.patches c.args.patch x c.requires.within (c.requires.room n c.in_ok-kept.was).targets)

pub mark_both-requires-clause-output : goal.mark_both-requires-clause-output
mark_both-requires-clause-output c = (c.requires.room c.in_ok-kept.kept c.in_ok-kept.was).output

pub returns-clause-written : goal.returns-clause-written
returns-clause-written c o same past p vs is old =
    let v = c.args.set.now in
    let r = c.args.row in
    let n = c.in_ok-kept.kept in
    let m = c.mark_both.new.names in
    let x = c.index-patches-patch.result in
    let at : x ≡ get_or v.patches c.args.patch x = c.index-patches-patch.is ∙ ap (λ (l : List FilePatch). get_or l c.args.patch x) c.patches.ensures.patches in
    subst (λ (y : FilePatch). AreWritten (Some m) (past ++ mark_of (alone o v y) r vs ∷ [])) (same-patch v.patches c.args.patch p x c.requires.within is at)
    (some-written m (past ++ mark_of (alone o v x) r vs ∷ []) (λ q. written-more (alone o v x) r vs past q (is_marked n q) (is_marked m q) (isset c.args.row.wrote c.if-not-row.false) (old n c.in_ok-kept.was q) (c.mark_both.ensures.marked o same q)))

pub returns-clause-room : goal.returns-clause-room
returns-clause-room c =
    let v = c.args.set.now in
    let n = c.in_ok-kept.kept in
    let m = c.mark_both.new.names in
    some-rooms v.patches v.output m (still-rooms n m c.mark_both.ensures.rooms v.patches v.output (c.requires.room n c.in_ok-kept.was))
