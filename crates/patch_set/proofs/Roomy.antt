-- Room that is made name by name.
use Rattle.std.proofs.Common.{◌≡◌, ◌||◌, ℕ, List, Bool, true, false, All, Option, None, Some, bytes_eq, refl, sym, ◌∙◌, ap, subst}
use Rattle.std.specs.Option.{ForSome}
use Rattle.std.proofs.lemmas.List.Elements.{All-weaker}
use Rattle.std.proofs.lemmas.Option.{none-some, same_Some}
use Rattle.std.proofs.lemmas.Slice.Eq.{bytes_eq-Decides}
use Rattle.read_file_patch.specs.declared.FilePatch.{FilePatch}
use Rattle.outside.specs.Marked.{has_room, is_marked}
use Rattle.outside.specs.declared.marks.WrittenNames.{WrittenNames}
use Rattle.read_file_patch.specs.declared.derived.Target.{Target}
use Rattle.patch_set.specs.Room.{AreBlank, AreUnmarked, GivesRoom, HasRoom, HaveRoom}
use Rattle.patch_set.specs.SetView.{SetView, IsWhole}

pub gives-none : (n : WrittenNames) → GivesRoom n n
gives-none n = record { same = λ q. refl; room = λ q is. is }

pub gives-both : (one two three : WrittenNames) → GivesRoom one two → GivesRoom two three → GivesRoom one three
gives-both one two three g h = record { same = λ q. h.same q ∙ g.same q; room = λ q is. h.room q (g.room q is) }

or-true : (b : Bool) → (b || true) ≡ true
or-true true = refl
or-true false = refl

module _ (old new : WrittenNames) (name : List ℕ) (room : (q : List ℕ) → has_room new q ≡ (bytes_eq q name || has_room old q)) where
  -- room for a name more
  pub gives-name : ((q : List ℕ) → is_marked new q ≡ is_marked old q) → GivesRoom old new
  gives-name same = record { same = same; room = λ q is. room q ∙ ap (λ b. bytes_eq q name || b) is ∙ or-true (bytes_eq q name) }

  pub has-name : has_room new name ≡ true
  has-name = room name ∙ ap (λ b. b || has_room old name) ((bytes_eq-Decides name name).1 refl)

  pub has-output : (t : Target) (out : Option Target) → t.name ≡ name → out ≡ Some t → ForSome out (HasRoom new)
  has-output t out is at = λ x there. subst (λ (y : Target). HasRoom new y) (same_Some t x (sym at ∙ there)) (ap (has_room new) is ∙ has-name)

module _ (old new : WrittenNames) (gives : GivesRoom old new) where
  -- what had room still has
  pub still-roomy : (ts : List Target) → All (HasRoom old) ts → All (HasRoom new) ts
  still-roomy ts has = All-weaker (HasRoom old) (HasRoom new) (λ t is. gives.room t.name is) ts has

  pub all-roomy : (ps : List FilePatch) → All (λ p. All (HasRoom old) p.targets.items) ps → All (λ p. All (HasRoom new) p.targets.items) ps
  all-roomy ps has = All-weaker (λ p. All (HasRoom old) p.targets.items) (λ p. All (HasRoom new) p.targets.items) (λ p all. still-roomy p.targets.items all) ps has

  pub still-unmarked : AreUnmarked old → AreUnmarked new
  still-unmarked un = λ q. gives.same q ∙ un q

-- where there are no marks, nothing is said
pub no-output : (out : Option Target) (n : WrittenNames) → out ≡ None → ForSome out (HasRoom n)
no-output out n none = λ x is. absurd (none-some x (sym none ∙ is))

pub none-blank : (ps : List FilePatch) (out : Option Target) (marks : Option WrittenNames) → marks ≡ None → AreBlank ps out marks
none-blank ps out marks none = record {
  unmarked = λ n is. absurd (none-some n (sym none ∙ is));
  room = λ n is. absurd (none-some n (sym none ∙ is));
}

pub some-blank : (ps : List FilePatch) (out : Option Target) (n : WrittenNames) → AreUnmarked n → HaveRoom ps out n → AreBlank ps out (Some n)
some-blank ps out n unmarked room = record {
  unmarked = λ m is. subst AreUnmarked (same_Some n m is) unmarked;
  room = λ m is. subst (λ (x : WrittenNames). HaveRoom ps out x) (same_Some n m is) room;
}

-- a set is whole with marks and without
pub whole-still : (v : SetView) (has : Bool) → IsWhole v → IsWhole (record v { has_marks = has })
whole-still v has whole = record {
  lawful = whole.lawful;
  regions = whole.regions;
  placed = whole.placed;
  count = whole.count;
  hunks = whole.hunks;
  rows = whole.rows;
  skipped = whole.skipped;
}
