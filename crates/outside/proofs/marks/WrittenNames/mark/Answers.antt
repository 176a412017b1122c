use Rattle.std.proofs.Common.{rules, ◌≡◌, ◌||◌, ℕ, List, true, Some, is_some, bytes_eq, sym, ◌∙◌, ap, subst}
use Rattle.std.specs.BTreeMap.{get_by_text}
use Rattle.std.proofs.lemmas.Map.Text.{btree_map_updates_text}
use Rattle.outside.specs.Marked.{is_marked}
use Rattle.outside.proofs.Marking.{marked, same_room}
use Rattle.outside.proofs.marks.WrittenNames.mark.Goals as goal

pub returns-in-Some-clause-room : goal.returns-in-Some-clause-room
returns-in-Some-clause-room c =
    let m = c.args.self.now.marks in
    ap is_some c.in-Some.ensures.value ∙ ap (λ (t : List ℕ). is_some (get_by_text m t)) c.text.ensures.text

pub returns-in-None-clause-room : goal.returns-in-None-clause-room
returns-in-None-clause-room c =
    let m = c.args.self.now.marks in
    ap is_some c.in-None.ensures.value ∙ ap (λ (t : List ℕ). is_some (get_by_text m t)) c.text.ensures.text

pub returns-in-Some-clause-rooms : goal.returns-in-Some-clause-rooms
returns-in-Some-clause-rooms c q =
    let m = c.args.self.now.marks in
    let n = c.get_mut.follows.lender true in
    same_room m n c.text.result.now q (sym (ap is_some c.in-Some.ensures.value))
    (btree_map_updates_text c.text.result.now m n (Some true) ((c.get_mut.follows.holds true).3 (search rules)) q)

pub returns-in-Some-clause-marked : goal.returns-in-Some-clause-marked
returns-in-Some-clause-marked c is q =
    let m = c.args.self.now.marks in
    let n = c.get_mut.follows.lender true in
    subst (λ (t : List ℕ). is_marked (record { marks = n }) q ≡ (bytes_eq q t || is_marked c.args.self.now q)) c.text.ensures.text
    (marked c.text.result.now q (get_by_text m q) (get_by_text n q) (btree_map_updates_text c.text.result.now m n (Some true) ((c.get_mut.follows.holds true).3 (search rules)) q))
