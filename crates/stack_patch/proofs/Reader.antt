-- What the bytes of a patch file give is a patch that a stack can take back.
use Rattle.std.proofs.Common.{◌≡◌, ℕ, List, [], ◌∷◌, ◌++◌, map, codes, Bool, true, false, ◌||◌, Option, None, Some, refl, sym, ◌∙◌, ap, subst, if◌then◌else◌}
use Rattle.std.specs.Prelude.{option_map, Result, Ok, Err}
use Rattle.std.specs.List.{AllByRecursion, list_any, flat_map, find}
use Rattle.std.proofs.lemmas.List.{append-nil}
use Rattle.outside.specs.Files.{Files, is_temp}
use Rattle.outside.specs.Names.{IsPatchName}
use Rattle.outside.proofs.Components.{neither}
use Rattle.line_list.specs.Completed.{completed}
use Rattle.hunk_core.specs.Reading.{Fault}
use Rattle.read_file_patch.specs.PlainPatch.{PlainHeader, PlainPatch}
use Rattle.read_file_patch.specs.Targets.{is_reserved}
use Rattle.read_file_patch.specs.declared.derived.Target.{Target as FileTarget}
use Rattle.patch_run.specs.Outcome.{moved_for}
use Rattle.read_file_patch.specs.Numbered.{is_among}
use Rattle.read_patch_text.specs.Patches.{patches_of}
use Rattle.read_clean_text.specs.Reading.{clean_of}
use Rattle.patch_set.specs.declared.fault.SetFault.{SetFault}
use Rattle.patch_set.specs.declared.fault.SetFault.TheVariants as faults
use Rattle.patch_set.specs.Asked.{ways_of}
use Rattle.patch_set.specs.Named.{known_names, patch_names, target_in, targets_of}
use Rattle.patch_set.specs.Named as named
use Rattle.patch_set.specs.Refusals.{first_of, garbage, out_many, ed_reverse, has_reserved, reserves_output, reserved_patch, reserved, refusal, refusal_of, is_too_long}
use Rattle.series_stack.specs.Undoing.{is_one_of}
use Rattle.series_stack.specs.Commands.{names_of, IsLasting, IsPatch, IsReader, Patch, changed_by}
use Rattle.stack_patch.specs.Changed.{may_back_up}
use Rattle.stack_patch.specs.Reading.{push_options, item_for, items_for, target_for, targets_for, patch_for, patch_in, unless_refused, read_patch}
use Rattle.stack_patch.proofs.Changing.{IsOpen, AreOpen, run_only}
use Rattle.stack_patch.proofs.TargetNames.{Each, each_by, each_flat, flat_each, each_front, each_both, distinct_each, among_distinct, header_each, reject_named, are_among, each_target}

-- ---- no name is a temporary's

last_none : (a b c d : Option SetFault) → first_of (a ∷ b ∷ c ∷ d ∷ []) ≡ None → d ≡ None
last_none None None None None is = refl
last_none None None None (Some f) is = absurd cc
last_none None None (Some f) d is = absurd cc
last_none None (Some f) c d is = absurd cc
last_none (Some f) b c d is = absurd cc

unmapped : {X : Type 0} (g : X → SetFault) (o : Option X) → option_map g o ≡ None → o ≡ None
unmapped g None is = refl
unmapped g (Some x) is = absurd cc

found_none : {X : Type 0} (p : X → Bool) (xs : List X) → find p xs ≡ None → Each (λ x. p x ≡ false) xs
found_none p [] is = tt
found_none p (x ∷ xs) is = by (p x) refl (found_none p xs)
  where
    by : (b : Bool) → p x ≡ b → (find p xs ≡ None → Each (λ y. p y ≡ false) xs) → Each (λ y. p y ≡ false) (x ∷ xs)
    by true here rest = absurd (let no : None ≡ Some x = sym is ∙ ap (λ b. if b then Some x else find p xs) here in cc)
    by false here rest = (here, rest (sym (ap (λ b. if b then Some x else find p xs) here) ∙ is))

-- a name that a patch may give, of which neither it nor its reject file is a temporary's
abbrev IsFine : List (List ℕ) → List ℕ → Type 0
IsFine known name = IsPatchName name × (is_reserved (target_in push_options known name) ≡ false)

all_fine : (known names : List (List ℕ)) → Each IsPatchName names → list_any is_reserved (map (target_in push_options known) names) ≡ false → Each (IsFine known) names
all_fine known [] each is = tt
all_fine known (n ∷ names) each is =
    let both = neither (is_reserved (target_in push_options known n)) (list_any is_reserved (map (target_in push_options known) names)) is in
    ((each.0, both.0), all_fine known names each.1 both.1)

patches_fine : (known : List (List ℕ)) (ps : List PlainPatch) → Each (λ p. (has_reserved push_options known p || reserves_output push_options known) ≡ false) ps → Each (λ p. Each (IsFine known) (named.names_of push_options p.header)) ps
patches_fine known [] each = tt
patches_fine known (p ∷ ps) each = (
  all_fine known (named.names_of push_options p.header) (header_each p.header) (neither (has_reserved push_options known p) (reserves_output push_options known) each.0).0,
  patches_fine known ps each.1,
)

-- ---- the names of one target

own_name : (known : List (List ℕ)) (name : List ℕ) → (target_in push_options known name).name ≡ name
unfolding push_options
own_name known name = refl

own_reject : (known : List (List ℕ)) (name : List ℕ) → (target_in push_options known name).reject ≡ name ++ codes ".rej"
unfolding push_options
own_reject known name = refl

pub fine_lasting : (known : List (List ℕ)) (name : List ℕ) → IsFine known name → IsLasting name × IsLasting (name ++ codes ".rej")
fine_lasting known name fine =
    let t = target_in push_options known name in
    let one = neither (is_temp t.name) (is_temp t.backup || is_temp t.reject) fine.1 in
    let two = neither (is_temp t.backup) (is_temp t.reject) one.1 in (
      record { lawful = fine.0; lasting = subst (λ (n : List ℕ). is_temp n ≡ false) (own_name known name) one.0 },
      record { lawful = reject_named name fine.0; lasting = subst (λ (n : List ℕ). is_temp n ≡ false) (own_reject known name) two.1 },
    )

-- ---- the patch

module _ (ps : List PlainPatch) where
  abbrev known : List (List ℕ)
  known = known_names push_options ps

  -- what holds of the names of all file patches holds of the distinct ones
  known_each : (P : List ℕ → Type 0) → Each P (patch_names push_options ps) → Each P known
  unfolding push_options
  known_each P each = distinct_each P (patch_names push_options ps ++ []) (each_both P (patch_names push_options ps) [] each tt)

  known_among : Each (λ n. is_among known n ≡ true) (patch_names push_options ps)
  unfolding push_options
  known_among = each_front (λ n. is_among known n ≡ true) (patch_names push_options ps) [] (among_distinct (patch_names push_options ps ++ []))

  own_of : (n : List ℕ) → (target_for push_options ps n).name ≡ n
  own_of n = own_name known n

  reject_of : (n : List ℕ) → (target_for push_options ps n).reject ≡ n ++ codes ".rej"
  reject_of n = own_reject known n

  patch_lasting : reserved push_options ps ≡ None → Each IsLasting (names_of (targets_for push_options ps))
  patch_lasting is =
      let none : Each (λ p. (has_reserved push_options known p || reserves_output push_options known) ≡ false) ps =
      found_none (λ p. has_reserved push_options known p || reserves_output push_options known) ps (unmapped (λ p. faults.Reserved p.header.opening) (reserved_patch push_options known ps) is) in
      let fine : Each (IsFine known) (patch_names push_options ps) =
      each_flat (IsFine known) (λ p. named.names_of push_options p.header) ps (patches_fine known ps none) in
      each_target (target_for push_options ps) own_of reject_of IsLasting known
      (known_each (λ n. IsLasting n × IsLasting (n ++ codes ".rej")) (each_by (IsFine known) (λ n. IsLasting n × IsLasting (n ++ codes ".rej")) (fine_lasting known) (patch_names push_options ps) fine))

  abbrev IsOwn : List ℕ → Type 0
  IsOwn name = is_one_of (names_of (targets_for push_options ps)) name ≡ true

  no_backups : may_back_up push_options ≡ true → ⊥
  unfolding push_options
  no_backups is = cc

  target_open : (name : List ℕ) → is_among known name ≡ true → IsOpen IsOwn push_options (target_in push_options known name)
  target_open name is =
      let both = are_among (target_for push_options ps) own_of reject_of known name is in
      record {
        own = subst IsOwn (sym (own_name known name)) both.0;
        reject = subst IsOwn (sym (own_reject known name)) both.1;
        backup = λ may. absurd (no_backups may);
      }

  targets_open : (names : List (List ℕ)) → Each (λ n. is_among known n ≡ true) names → AreOpen IsOwn push_options (map (target_in push_options known) names)
  targets_open [] each = tt
  targets_open (n ∷ names) each = (target_open n each.0, targets_open names each.1)

  items_open : (moved : List (List FileTarget)) (qs : List PlainPatch) → Each (λ p. Each (λ n. is_among known n ≡ true) (named.names_of push_options p.header)) qs → Each (λ i. AreOpen IsOwn push_options i.targets) (map (item_for push_options known moved) qs)
  items_open moved [] each = tt
  items_open moved (q ∷ qs) each = (targets_open (named.names_of push_options q.header) each.0, items_open moved qs each.1)

  patch_within : (f : Files) → AllByRecursion (λ e. IsOwn (changed_by e)) ((patch_for ps).run f).effects
  patch_within f =
      run_only IsOwn push_options None (λ w is. absurd cc) (items_for push_options ps) f
      (items_open (map (moved_for push_options known) ps) ps (flat_each (λ n. is_among known n ≡ true) (λ p. named.names_of push_options p.header) ps known_among))

  patch_is : reserved push_options ps ≡ None → IsPatch (patch_for ps)
  patch_is none = record { names = patch_lasting none; within = patch_within }

-- ---- reading

by_text : (text : List ℕ) (r : Result (List PlainPatch) Fault) (p : Patch) → refusal_of push_options text r ≡ None → patch_in r ≡ Some p → IsPatch p
by_text text (Err fault) p none is = absurd cc
by_text text (Ok ps) p none is =
    let same : patch_for ps ≡ p = cc in
    subst IsPatch same (patch_is ps (last_none (garbage text ps) (out_many push_options ps) (ed_reverse push_options ps) (reserved push_options ps) none))

not_refused : (text : List ℕ) (long : Bool) (o : Option SetFault) → (if long then Some faults.TooLong else o) ≡ None → o ≡ None
not_refused text true o is = absurd cc
not_refused text false o is = is

text_is : (text : List ℕ) (o : Option SetFault) (p : Patch) → refusal push_options text ≡ o → unless_refused o (patch_in (patches_of (ways_of push_options) (completed text))) ≡ Some p → IsPatch p
text_is text (Some fault) p refused is = absurd cc
text_is text None p refused is =
    by_text text (patches_of (ways_of push_options) (completed text)) p (not_refused text (is_too_long text) _ refused) is

pub held_is : (held : Option (List ℕ)) (p : Patch) → read_patch held ≡ Some p → IsPatch p
unfolding read_patch
held_is None p is = absurd cc
held_is (Some bytes) p is = text_is (clean_of push_options bytes) (refusal push_options (clean_of push_options bytes)) p refl is

pub reads : IsReader read_patch
reads = record { patches = held_is }
