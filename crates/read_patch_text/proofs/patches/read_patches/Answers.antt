use Rattle.std.proofs.Common.{◌≡◌, Ok, ap, map, refl, subst, sym, ◌∙◌}
use Rattle.std.proofs.lemmas.Result.{err_from_is_err_and}
use Rattle.hunk_core.specs.Reading.{Fails}
use Rattle.read_file_patch.specs.PlainPatch.{patch_of}
use Rattle.read_patch_text.specs.Patches.{patches_of}
use Rattle.read_patch_text.specs.Spans.{ArePatches}
use Rattle.read_patch_text.proofs.Kept.{whole-none}
use Rattle.read_patch_text.proofs.Passed.{count-fits, rows-fit, value-isnt}
use Rattle.read_patch_text.proofs.RegionLaws.{regions-are}
use Rattle.read_patch_text.proofs.TextLaws.{patches-are, text-again, turn-stands}
use Rattle.read_patch_text.proofs.Taking.{failed-too}
use Rattle.read_patch_text.proofs.patches.read_patches.Goals as goal

pub returns : goal.returns
returns c =
    let text = c.args.text.now in
    let ways = c.args.ways in
    let items = c.walk.new.kept.patches.items in
    let taken = c.in_ok-walk.ensures.taken in
    let has = taken.has (whole-none ways text c.new.result.items c.new.ensures.items) in
    let are : ArePatches ways text items = record { end = c.in_ok-walk.field-0.at; next = c.in_ok-walk.field-0.number; turn = has.turn; ends = taken.ends } in
    let exact : patches_of ways text ≡ Ok (map (patch_of text) items) = taken.read ∙ ap Ok has.are in
    record {
      found = patches-are ways text items are;
      only = λ ps h. sym (text-again ways text ps h) ∙ exact;
      malformed = λ line kind e. absurd (value-isnt _ _ _ refl e);
      exact = exact;
      regions = regions-are ways text items are;
      are = are;
      lawful = has.lawful;
      count = count-fits _ c.in_ok-walk.field-0.at _ has.count taken.progress.within c.requires;
      hunks = rows-fit _ c.in_ok-walk.field-0.hunks c.in_ok-walk.field-0.at _ has.rows taken.progress.few taken.progress.within c.requires;
    }

pub returns-in_err-walk : goal.returns-in_err-walk
returns-in_err-walk c =
    let p = err_from_is_err_and c.from_residual.result c.from_residual.ensures.1 in
    let text = c.args.text.now in
    let ways = c.args.ways in
    let e = c.in_err-walk.field-0.0 in
    let fails : Fails e (patches_of ways text) = c.in_err-walk.ensures.fails in
    let none = whole-none ways text c.new.result.items c.new.ensures.items in
    rw (p.1, p.2) (record {
      found = tt;
      only = λ ps h. subst (Fails e) (text-again ways text ps h) fails;
      malformed = λ line kind is.
          let s = c.in_err-walk.ensures.stopped line kind (failed-too _ _ is) in
          record { front = map (patch_of text) s.then.patches.items; end = s.here.at; next = s.here.number; stand = turn-stands ways text 0 1 0 s.then.patches.items s.here.at s.here.number (s.has none).turn; comes = s.comes };
      exact = fails;
      regions = tt;
      are = tt;
      lawful = tt;
      count = tt;
      hunks = tt;
    })
