use Rattle.std.proofs.Common.{◌≡◌, ◌||◌, ℕ, List, bytes_eq, refl}
use Rattle.std.specs.Option.{ForSome}
use Rattle.std.proofs.lemmas.Result.{IfOk-weaker}
use Rattle.outside.specs.Marked.{has_room}
use Rattle.patch_set.specs.Room.{GivesRoom, HasRoom}
use Rattle.patch_set.proofs.Roomy.{gives-none, gives-name, has-output, no-output}
use Rattle.patch_set.proofs.marks.add_output.Goals as goal

pub returns-in-Some : goal.returns-in-Some
returns-in-Some c = record {
  gives = (
      let n = c.args.names.now in
      let m = c.add.new.self in
      let t = c.in-Some.target in
      IfOk-weaker c.add.result (λ _. (q : List ℕ) → has_room m q ≡ (bytes_eq q t.name || has_room n q)) (λ _. GivesRoom n m) (λ _ room. gives-name n m t.name room c.add.ensures.marks) c.add.ensures.room);
  room = (
      let n = c.args.names.now in
      let m = c.add.new.self in
      let t = c.in-Some.target in
      IfOk-weaker c.add.result (λ _. (q : List ℕ) → has_room m q ≡ (bytes_eq q t.name || has_room n q)) (λ _. ForSome c.args.output.now (HasRoom m)) (λ _ room. has-output n m t.name room t c.args.output.now refl c.in-Some.is) c.add.ensures.room);
}

pub returns-in-None : goal.returns-in-None
returns-in-None c = record {
  gives = gives-none c.args.names.now;
  room = no-output c.args.output.now c.args.names.now c.in-None.is;
}
