-- When a file patch is skipped.
use Rattle.std.proofs.Common.{◌≡◌, ◌⊎◌, inl, inr, ◌↔◌, ℕ, List, [], Bool, true, false, not, ◌&&◌, ◌||◌, if◌then◌else◌, Option, None, Some, is_none, is_some, refl, sym, ◌∙◌, ap}
use Rattle.std.specs.Prelude.{◌==◌}
use Rattle.std.proofs.lemmas.Bool.{false≢true}
use Rattle.outside.specs.Files.{Files}
use Rattle.hunk_core.specs.declared.Side.{Side}
use Rattle.hunk_core.specs.Turned.{other_side}
use Rattle.line_store.specs.declared.fault.OpenFault.{OpenFault}
use Rattle.name_choice.specs.Choice.{side_of}
use Rattle.name_choice.specs.declared.Choice.{Choice}
use Rattle.name_choice.specs.declared.Choice.TheVariants.{Existing, Create, Nothing}
use Rattle.say_text.specs.Messages.{silenced, reversed_line}
use Rattle.say_text.specs.declared.standing.Standing.{Standing}
use Rattle.patch_run.specs.OnePatch.{PlainContext, Start, skips, refuses, tries, said_first, skips_at, lines_in, first_hunk, is_reversed, turns_round, on_direction, lacks_word, prereq_said, on_prereq, refusal_of, refused_or, on_taking, unfit, unfit_said, on_misfit, is_needed, is_forced, on_fitting, on_file, patching_said, on_meant, unmeant_said, on_target, on_choice, choice_of, skipped_said, own_start, start, bytes_of, written}
use Rattle.apply_task.specs.Asking.{moves, source_at}
use Rattle.apply_task.specs.Kinds.{is_meant}
use Rattle.apply_task.specs.Contexts.{is_source}
use Rattle.patch_run.specs.Laws.{IsSkip, is_taken, is_over_needed, is_unsuited_if_meant, is_unsuited, is_skipped, goes_over_needed}

abbrev is_skip : Start → Bool
is_skip (skips said row taken) = true
is_skip (refuses said fault) = false
is_skip (tries said place side) = false

skip_is : (s : Start) → IsSkip s → is_skip s ≡ true
skip_is (skips said row taken) is = refl
skip_is (refuses said fault) is = absurd is
skip_is (tries said place side) is = absurd is

is_of : (s : Start) → is_skip s ≡ true → IsSkip s
is_of (skips said row taken) is = tt
is_of (refuses said fault) is = absurd (false≢true is)
is_of (tries said place side) is = absurd (false≢true is)

skip_if : (b : Bool) (x y : Start) → is_skip (if b then x else y) ≡ (if b then is_skip x else is_skip y)
skip_if true x y = refl
skip_if false x y = refl

skip_first : (text : List ℕ) (s : Start) → is_skip (said_first text s) ≡ is_skip s
skip_first text (skips said row taken) = refl
skip_first text (refuses said fault) = refl
skip_first text (tries said place side) = refl

skip_refused : (o : Option OpenFault) (s : Start) → is_skip (refused_or o s) ≡ (is_none o && is_skip s)
skip_refused None s = refl
skip_refused (Some fault) s = refl

-- ---- the tests in their order

abbrev by_direction : Bool → Bool → Bool → Bool → Bool
by_direction force was rev turns = if force || was || not rev then false else (if turns then false else true)

abbrev by_word : Bool → Bool → Bool → Bool → Bool → Bool
by_word force was lacks rev turns = if not lacks then by_direction force was rev turns else (if force then by_direction force was rev turns else true)

abbrev by_all : Bool → Bool → Bool → Bool → Bool → Bool → Bool → Bool → Bool
by_all force way needed taken lacks rev turns other = if not way || (force && not needed) then taken && by_word force false lacks rev turns else (if turns then taken && by_word force true lacks other turns else true)

unless_meant : (meant rest : Bool) → (if meant then rest else true) ≡ (not meant || rest)
unless_meant true rest = refl
unless_meant false rest = refl

-- they are the one test that the law says; what moves a file is never turned round
same_tests : (force way needed taken lacks rev turns other : Bool) → (needed && turns) ≡ false
    → by_all force way needed taken lacks rev turns other ≡ ((way && needed) || (not force && (((way || (taken && rev)) && not turns) || (taken && lacks))))
same_tests true false needed false lacks rev turns other never = refl
same_tests true false needed true true rev turns other never = refl
same_tests true false needed true false rev turns other never = refl
same_tests true true false false lacks rev turns other never = refl
same_tests true true false true true rev turns other never = refl
same_tests true true false true false rev turns other never = refl
same_tests true true true taken lacks rev false other never = refl
same_tests true true true taken lacks rev true other never = absurd cc
same_tests false false needed false lacks rev turns other never = refl
same_tests false false needed true true false turns other never = refl
same_tests false false needed true true true true other never = refl
same_tests false false needed true true true false other never = refl
same_tests false false needed true false false turns other never = refl
same_tests false false needed true false true true other never = refl
same_tests false false needed true false true false other never = refl
same_tests false true false false lacks rev true other never = refl
same_tests false true false false lacks rev false other never = refl
same_tests false true false true true rev true other never = refl
same_tests false true false true true rev false other never = refl
same_tests false true false true false rev true other never = refl
same_tests false true false true false rev false other never = refl
same_tests false true true taken lacks rev false other never = refl
same_tests false true true taken lacks rev true other never = absurd cc

needed_stays : (moved first source turns : Bool) → (((moved && first) && source) && (turns && not moved)) ≡ false
needed_stays false first source turns = refl
needed_stays true false source turns = refl
needed_stays true true false turns = refl
needed_stays true true true true = refl
needed_stays true true true false = refl

module _ (t : PlainContext) (k : ℕ) where
  skip_direction : (bytes : Option (List ℕ)) (was : Bool) (side : Side)
      → is_skip (on_direction t k bytes was side) ≡ by_direction t.options.force was (is_reversed t.options (lines_in bytes) side (first_hunk t.item.patch.change)) (turns_round t)
  skip_direction bytes was side =
      let goes = t.options.force || was || not (is_reversed t.options (lines_in bytes) side (first_hunk t.item.patch.change)) in
      let turned = tries (silenced t.options (reversed_line true)) k (other_side side) in
      let stays = skips_at (silenced t.options (reversed_line false)) k side bytes in
      skip_if goes (tries [] k side) (if turns_round t then turned else stays)
      ∙ ap (λ b. if goes then false else b) (skip_if (turns_round t) turned stays)

  skip_prereq : (bytes : Option (List ℕ)) (was : Bool) (side : Side)
      → is_skip (on_prereq t k bytes was side) ≡ by_word t.options.force was (lacks_word t.item.patch.header.prereq bytes) (is_reversed t.options (lines_in bytes) side (first_hunk t.item.patch.change)) (turns_round t)
  skip_prereq bytes was side =
      let lacks = lacks_word t.item.patch.header.prereq bytes in
      let go = on_direction t k bytes was side in
      let first = said_first (prereq_said t) go in
      let stop = skips_at (prereq_said t) k side bytes in
      let is = skip_direction bytes was side in
      skip_if (not lacks) go (if t.options.force then first else stop)
      ∙ ap (λ b. if not lacks then is_skip go else b) (skip_if t.options.force first stop ∙ ap (λ b. if t.options.force then b else true) (skip_first (prereq_said t) go))
      ∙ ap (λ b. if not lacks then b else (if t.options.force then b else true)) is

  skip_taking : (bytes : Option (List ℕ)) (was : Bool) (side : Side)
      → is_skip (on_taking t k bytes was side)
      ≡ (is_none (refusal_of t.options.buffer bytes) && by_word t.options.force was (lacks_word t.item.patch.header.prereq bytes) (is_reversed t.options (lines_in bytes) side (first_hunk t.item.patch.change)) (turns_round t))
  skip_taking bytes was side =
      skip_refused (refusal_of t.options.buffer bytes) (on_prereq t k bytes was side)
      ∙ ap (λ b. is_none (refusal_of t.options.buffer bytes) && b) (skip_prereq bytes was side)

  -- what stands there if it misfits that
  skip_fitting : (bytes : Option (List ℕ)) (side : Side) (stands : Option Standing)
      → is_skip (on_fitting t k bytes side stands)
      ≡ by_all t.options.force (is_some stands) (is_needed t k) (is_none (refusal_of t.options.buffer bytes)) (lacks_word t.item.patch.header.prereq bytes)
      (is_reversed t.options (lines_in bytes) side (first_hunk t.item.patch.change)) (turns_round t) (is_reversed t.options (lines_in bytes) (other_side side) (first_hunk t.item.patch.change))
  skip_fitting bytes side None = skip_taking bytes false side
  skip_fitting bytes side (Some stands) =
      let force = t.options.force in
      let goes = is_forced t k in
      let turns = turns_round t in
      let taking = on_taking t k bytes true (other_side side) in
      let turned = said_first (unfit_said t stands k true) taking in
      let stop = skips_at (unfit_said t stands k false) k side None in
      skip_if goes (on_taking t k bytes false side) (on_misfit t stands k bytes side)
      ∙ ap (λ b. if goes then b else is_skip (on_misfit t stands k bytes side)) (skip_taking bytes false side)
      ∙ ap (λ b. if goes then is_none (refusal_of t.options.buffer bytes) && by_word force false (lacks_word t.item.patch.header.prereq bytes) (is_reversed t.options (lines_in bytes) side (first_hunk t.item.patch.change)) turns else b)
      (skip_if turns turned stop ∙ ap (λ b. if turns then b else true) (skip_first (unfit_said t stands k true) taking ∙ skip_taking bytes true (other_side side)))

  skip_meant : (f : Files) → is_skip (on_meant t f k) ≡ is_unsuited_if_meant t f k
  skip_meant f =
      let side = side_of t.options.reverse in
      let bytes = bytes_of t f k in
      let rev = is_reversed t.options (lines_in bytes) side (first_hunk t.item.patch.change) in
      let other = is_reversed t.options (lines_in bytes) (other_side side) (first_hunk t.item.patch.change) in
      skip_first (patching_said t k) (on_file t f k side)
      ∙ skip_fitting bytes side (unfit t f k side)
      ∙ same_tests t.options.force (is_some (unfit t f k side)) (is_needed t k) (is_taken t f k) (lacks_word t.item.patch.header.prereq bytes) rev (turns_round t) other
      (needed_stays (moves t.item.patch) (k == source_at t.options.reverse) (is_source t (written t k).name) (t.options.batch && not t.options.forward))

  skip_target : (f : Files) → is_skip (on_target t f k) ≡ is_unsuited t f k
  skip_target f =
      let meant = is_meant t.item.patch in
      skip_if meant (on_meant t f k) (skips_at (unmeant_said t k) k (side_of t.options.reverse) None)
      ∙ ap (λ b. if meant then b else true) (skip_meant f)
      ∙ unless_meant meant (is_unsuited_if_meant t f k)

skip_choice : (t : PlainContext) (f : Files) (c : Choice) → is_skip (on_choice t f c) ≡ is_skipped t f c
skip_choice t f (Existing k) = skip_target t k f
skip_choice t f (Create k) = skip_target t k f
skip_choice t f Nothing = refl

pub skipped_as : (t : PlainContext) (f : Files) → IsSkip (start t f) ↔ (is_skipped t f (choice_of t f) ≡ true)
unfolding start
skipped_as t f =
    let c = choice_of t f in
    let said = said_first (skipped_said t) (own_start t f) in
    let same : is_skip said ≡ is_skipped t f c = skip_first (skipped_said t) (own_start t f) ∙ skip_choice t f c in
    (λ is. sym same ∙ skip_is said is, λ is. is_of said (same ∙ is))

-- ---- with `-f`

forced_only : (meant over force rest : Bool) → force ≡ true → (not meant || (over || (not force && rest))) ≡ true → (meant ≡ false) ⊎ (over ≡ true)
forced_only false over force rest forced is = inl refl
forced_only true true force rest forced is = inr refl
forced_only true false true rest forced is = inr is
forced_only true false false rest forced is = absurd (false≢true forced)

over_skips : (unmeant over rest : Bool) → over ≡ true → (unmeant || (over || rest)) ≡ true
over_skips true over rest is = refl
over_skips false true rest is = refl
over_skips false false rest is = absurd (false≢true is)

forced_choice : (t : PlainContext) (f : Files) (c : Choice) → t.options.force ≡ true → is_skipped t f c ≡ true → (c ≡ Nothing) ⊎ ((is_meant t.item.patch ≡ false) ⊎ (goes_over_needed t f c ≡ true))
forced_choice t f (Existing k) forced is = inr (forced_only (is_meant t.item.patch) (is_over_needed t f k) t.options.force _ forced is)
forced_choice t f (Create k) forced is = inr (forced_only (is_meant t.item.patch) (is_over_needed t f k) t.options.force _ forced is)
forced_choice t f Nothing forced is = inl refl

needed_choice : (t : PlainContext) (f : Files) (c : Choice) → goes_over_needed t f c ≡ true → is_skipped t f c ≡ true
needed_choice t f (Existing k) is = over_skips (not (is_meant t.item.patch)) (is_over_needed t f k) _ is
needed_choice t f (Create k) is = over_skips (not (is_meant t.item.patch)) (is_over_needed t f k) _ is
needed_choice t f Nothing is = refl

-- a file patch is skipped only where no name results, or where it would go over a file that is needed
pub forced_skip : (t : PlainContext) (f : Files) → t.options.force ≡ true → IsSkip (start t f) → (choice_of t f ≡ Nothing) ⊎ ((is_meant t.item.patch ≡ false) ⊎ (goes_over_needed t f (choice_of t f) ≡ true))
forced_skip t f forced is = forced_choice t f (choice_of t f) forced ((skipped_as t f).0 is)

pub needed_skip : (t : PlainContext) (f : Files) → goes_over_needed t f (choice_of t f) ≡ true → IsSkip (start t f)
needed_skip t f is = (skipped_as t f).1 (needed_choice t f (choice_of t f) is)
