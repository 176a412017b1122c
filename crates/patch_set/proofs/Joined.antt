-- Names that are numbered one after another.
use Rattle.std.proofs.Common.{◌≡◌, ℕ, ◌+◌, ◌<◌, ◌≤◌, ◌^◌, Bool, true, false, bytes_eq, if◌then◌else◌, Option, None, Some, List, [], ◌∷◌, ◌++◌, map, take, length, refl, sym, ap, ◌∙◌, arith, length-append}
use Rattle.std.specs.Prelude.{option_and_then}
use Rattle.std.specs.Option.{option_to_list}
use Rattle.std.proofs.lemmas.List.{map-append}
use Rattle.patch_options.specs.PlainJob.{PlainOptions}
use Rattle.read_file_patch.specs.declared.derived.Target.{Target}
use Rattle.read_file_patch.specs.Targets.{target_of}
use Rattle.read_file_patch.specs.Numbered.{with_name, joined_by, distinct}
use Rattle.read_file_patch.proofs.Names.{numbers-stay, with-among}
use Rattle.read_file_patch.specs.PlainPatch.{PlainHeader}
use Rattle.read_file_patch.specs.Actions.{is_moved}
use Rattle.read_file_patch.specs.Candidates.{candidate, candidates, header_candidate, header_names, index_beside, index_names}
use Rattle.read_file_patch.specs.Moved.{moved_name, moved_names, two_names}
use Rattle.patch_set.specs.Asked.{is_posix}
use Rattle.patch_set.specs.Named.{names_of, operand_or, output_of, own_names, target_in}

pub joined-nil : (known : List (List ℕ)) → joined_by known [] ≡ known
unfolding joined_by
joined-nil known = refl

pub joined-first : (known : List (List ℕ)) (name : List ℕ) (names : List (List ℕ)) → joined_by known (name ∷ names) ≡ joined_by (with_name known name) names
unfolding joined_by
joined-first known name names = refl

pub joined-one : (known : List (List ℕ)) (name : List ℕ) → joined_by known (name ∷ []) ≡ with_name known name
joined-one known name = joined-first known name [] ∙ joined-nil (with_name known name)

pub joined-append : (known names others : List (List ℕ)) → joined_by known (names ++ others) ≡ joined_by (joined_by known names) others
joined-append known [] others = ap (λ k. joined_by k others) (sym (joined-nil known))
joined-append known (name ∷ names) others =
    joined-first known name (names ++ others) ∙ joined-append (with_name known name) names others
    ∙ ap (λ k. joined_by k others) (sym (joined-first known name names))

-- one more name
pub known-more : (first : List (List ℕ)) (names : List (List ℕ)) (i : ℕ) (name : List ℕ) (known later : List (List ℕ))
    → known ≡ joined_by first (take i names) → later ≡ with_name known name → take (i + 1) names ≡ take i names ++ name ∷ []
    → later ≡ joined_by first (take (i + 1) names)
known-more first names i name known later is one more =
    one ∙ ap (λ k. with_name k name) is ∙ sym (joined-one (joined_by first (take i names)) name)
    ∙ sym (joined-append first (take i names) (name ∷ [])) ∙ ap (joined_by first) (sym more)

-- the targets of these names, whichever names come later
pub record AreTargets (o : PlainOptions) (known names : List (List ℕ)) (targets : List Target) : Type 0 where
  pub are : (others : List (List ℕ)) → targets ≡ map (target_in o (joined_by known others)) names

-- a name that is known keeps its target
pub target-stays : (o : PlainOptions) (known others : List (List ℕ)) (name : List ℕ) → target_in o (joined_by (with_name known name) others) name ≡ target_in o (with_name known name) name
target-stays o known others name = ap (target_of o name) (numbers-stay (with_name known name) others name (with-among known name))

pub targets-more : (o : PlainOptions) (known names : List (List ℕ)) (targets : List Target) (name : List ℕ) (t : Target)
    → AreTargets o known names targets → t ≡ target_in o (with_name known name) name
    → AreTargets o (with_name known name) (names ++ name ∷ []) (targets ++ t ∷ [])
targets-more o known names targets name t are is = record {
  are = λ others.
      let before : targets ≡ map (target_in o (joined_by (with_name known name) others)) names =
      are.are (name ∷ others) ∙ ap (λ k. map (target_in o k) names) (joined-first known name others) in
      let last : t ≡ target_in o (joined_by (with_name known name) others) name = is ∙ sym (target-stays o known others name) in
      ap (λ l. l ++ t ∷ []) before ∙ ap (λ u. map (target_in o (joined_by (with_name known name) others)) names ++ u ∷ []) last
      ∙ sym (map-append (target_in o (joined_by (with_name known name) others)) names (name ∷ []));
}

-- the target of the output, whose name comes last
pub output-last : (o : PlainOptions) (known later : List (List ℕ)) (name : List ℕ) (t : Target)
    → o.output ≡ Some name → later ≡ with_name known name → t ≡ target_in o later name
    → Some t ≡ output_of o (joined_by known (option_to_list o.output))
output-last o known later name t e one is =
    rw e (ap Some (is ∙ ap (λ k. target_in o k name) (one ∙ sym (joined-one known name))))

one-most : {A : Type 0} (x : Option A) → length (option_to_list x) ≤ 1
one-most None = omega arith
one-most (Some x) = omega arith

three-most : (strip : Option ℕ) (old new index : Option (List ℕ)) (posix : Bool) → length (candidates strip old new index posix) ≤ 3
three-most strip old new index posix = omega (
  arith,
  length-append (header_names strip old ++ header_names strip new) (index_names strip (index_beside posix old new index)),
  length-append (header_names strip old) (header_names strip new),
  one-most (option_and_then (header_candidate strip) old),
  one-most (option_and_then (header_candidate strip) new),
  one-most (option_and_then (candidate strip) (index_beside posix old new index)),
)

differing-most : (source destination : List ℕ) (v : Bool) → length (if v then [] else source ∷ destination ∷ []) ≤ 2
differing-most source destination true = omega arith
differing-most source destination false = omega arith

two-most : (source destination : Option (List ℕ)) → length (two_names source destination) ≤ 2
two-most None destination = omega arith
two-most (Some source) None = omega arith
two-most (Some source) (Some destination) = differing-most source destination (bytes_eq source destination)

own-most : (o : PlainOptions) (h : PlainHeader) (v : Bool)
    → length (if v then moved_names o.strip h.from h.to else candidates o.strip h.old_name h.new_name h.index (is_posix o)) ≤ 3
own-most o h true = let a = two-most (moved_name o.strip h.from) (moved_name o.strip h.to) in omega (arith, a)
own-most o h false = three-most o.strip h.old_name h.new_name h.index (is_posix o)

names-few-by : (o : PlainOptions) (h : PlainHeader) (file : Option (List ℕ)) → length (operand_or file (own_names o h)) < 2 ^ 32
names-few-by o h None = let a = own-most o h (is_moved h.action) in omega (arith, a)
names-few-by o h (Some file) = omega arith

pub names-few : (o : PlainOptions) (h : PlainHeader) → length (names_of o h) < 2 ^ 32
names-few o h = names-few-by o h o.file

-- all names, once the last are known
pub known-all : (first known names others : List (List ℕ)) → first ≡ [] → known ≡ joined_by first names → joined_by known others ≡ distinct (names ++ others)
known-all first known names others start is =
    ap (λ k. joined_by k others) (is ∙ ap (λ k. joined_by k names) start) ∙ sym (joined-append [] names others)
