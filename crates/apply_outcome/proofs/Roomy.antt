-- The names that a file patch makes or takes away have room where those of its targets and of the output have.
use Rattle.std.proofs.Common.{◌≡◌, ℕ, List, Bool, true, false, if◌then◌else◌, All, Option, None, Some, ◌∙◌, subst}
use Rattle.std.proofs.lemmas.List.Elements.{All-get_or, All-weaker}
use Rattle.std.proofs.lemmas.Option.{none-some, same_Some, get_or_from_slice_get, slice_get_within}
use Rattle.std.specs.Prelude.{slice_get}
use Rattle.std.specs.Option.{ForSome, option_or, option_and_then}
use Rattle.read_file_patch.specs.declared.FilePatch.{FilePatch}
use Rattle.outside.specs.Marked.{has_room}
use Rattle.outside.specs.declared.marks.WrittenNames.{WrittenNames}
use Rattle.read_file_patch.specs.declared.derived.Target.{Target}
use Rattle.patch_set.specs.declared.set.Row.{Row}
use Rattle.patch_set.specs.Room.{HasRoom, HaveRoom}
use Rattle.apply_task.specs.Asking.{renames, written_place}
use Rattle.apply_task.specs.Contexts.{PlainContext, renamed_by, written_at, written_by}

module _ (P : Target → Type 0) where
  for-first : (a b : Option Target) → ForSome a P → ForSome b P → ForSome (option_or a b) P
  for-first None b one other = other
  for-first (Some x) b one other = one

  for-then : (f : ℕ → Option Target) (o : Option ℕ) → ((k : ℕ) → ForSome (f k) P) → ForSome (option_and_then f o) P
  for-then f None each = λ x is. absurd (none-some x is)
  for-then f (Some k) each = each k

  for-if : (b : Bool) (o : Option Target) → ForSome o P → ForSome (if b then o else None) P
  for-if true o one = one
  for-if false o one = λ x is. absurd (none-some x is)

  for-at : (ts : List Target) → All P ts → (k : ℕ) → ForSome (slice_get ts k) P
  for-at ts all k = λ x is. subst P (get_or_from_slice_get ts k x x is) (All-get_or P ts k x (slice_get_within ts k x is) all)

module _ (n : WrittenNames) (t : PlainContext) (r : Row) (all : All (HasRoom n) t.item.targets) where
  pub written-roomy : ForSome t.output (HasRoom n) → ForSome (written_by t r) (HasRoom n)
  written-roomy output =
      let P = HasRoom n in
      let ts = t.item.targets in
      for-first P t.output (option_and_then (written_at t.options.reverse t.item) r.target) output
      (for-then P (written_at t.options.reverse t.item) r.target
      (λ k. for-first P (slice_get ts (written_place t.options.reverse t.item.patch k)) (slice_get ts k) (for-at P ts all (written_place t.options.reverse t.item.patch k)) (for-at P ts all k)))

  pub renamed-roomy : ForSome (renamed_by t r) (HasRoom n)
  renamed-roomy =
      let P = HasRoom n in
      let ts = t.item.targets in
      for-if P (renames t.item.patch) (option_and_then (slice_get ts) r.target) (for-then P (slice_get ts) r.target (for-at P ts all))

module _ (old new : WrittenNames) (same : (q : List ℕ) → has_room new q ≡ has_room old q) where
  still-one : (t : Target) → HasRoom old t → HasRoom new t
  still-one t has = same t.name ∙ has

  pub still-roomy : (ts : List Target) → All (HasRoom old) ts → All (HasRoom new) ts
  still-roomy ts all = All-weaker (HasRoom old) (HasRoom new) still-one ts all

  -- marks take no room away
  pub still-rooms : (ps : List FilePatch) (out : Option Target) → HaveRoom ps out old → HaveRoom ps out new
  still-rooms ps out have = record {
    targets = All-weaker (λ p. All (HasRoom old) p.targets.items) (λ p. All (HasRoom new) p.targets.items) (λ p all. still-roomy p.targets.items all) ps have.targets;
    output = λ t is. still-one t (have.output t is);
  }

pub some-rooms : (ps : List FilePatch) (out : Option Target) (n : WrittenNames) → HaveRoom ps out n → ForSome (Some n) (HaveRoom ps out)
some-rooms ps out n have = λ m is. subst (λ (x : WrittenNames). HaveRoom ps out x) (same_Some n m is) have
