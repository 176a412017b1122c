use Rattle.std.proofs.Common.{◌≡◌, ◌||◌, ℕ, List, false, None, Some, is_some, bytes_eq, sym, ◌∙◌, ap, subst, string_bytes}
use Rattle.std.specs.BTreeMap.{get_by_text}
use Rattle.std.proofs.lemmas.Map.Text.{btree_map_updates_text}
use Rattle.outside.proofs.Marking.{enough, roomier, roomy}
use Rattle.outside.proofs.marks.WrittenNames.add.Goals as goal

pub returns-in-Some-clause-room : goal.returns-in-Some-clause-room
returns-in-Some-clause-room c q =
    let m = c.args.self.now.marks in
    enough m c.args.name.now q (ap (λ (t : List ℕ). is_some (get_by_text m t)) (sym c.text.ensures.text) ∙ sym (ap is_some c.in-Some.ensures.value))

pub returns-clause-room : goal.returns-clause-room
returns-clause-room c q =
    let m = c.args.self.now.marks in
    let n = c.insert.new.self in
    let k = string_bytes c.in_ok-text.text in
    subst (λ (t : List ℕ). is_some (get_by_text n q) ≡ (bytes_eq q t || is_some (get_by_text m q))) (c.in_ok-text.ensures.ok ∙ c.text-2.ensures.text)
    (roomier k q (get_by_text m q) (get_by_text n q) (btree_map_updates_text k m n (Some false) c.in_ok-insert.ensures.updates q))

pub returns-clause-marks : goal.returns-clause-marks
returns-clause-marks c q =
    let m = c.args.self.now.marks in
    let none : get_by_text m (string_bytes c.in_ok-text.text) ≡ None =
    ap (λ (t : List ℕ). get_by_text m t) (c.in_ok-text.ensures.ok ∙ c.text-2.ensures.text ∙ sym c.text.ensures.text) ∙ sym c.in_default.ensures.value in
    roomy m c.insert.new.self c.in_ok-text.text q none c.in_ok-insert.ensures.updates
