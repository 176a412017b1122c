-- The blocks of a lawful script have no number that is too large.
use Rattle.std.proofs.Common.{◌≡◌, ℕ, zero, suc, ◌+◌, ◌-◌, ◌<◌, ◌≤◌, ◌^◌, Bool, true, false, ◌||◌, eqb, List, [], ◌∷◌, ◌++◌, length, map, refl, sym, ap, subst, ◌∙◌, append_assoc, arith}
use Rattle.std.specs.Prelude.{nat_lt, reverse}
use Rattle.std.specs.List.{flat_map, list_any}
use Rattle.std.proofs.lemmas.Bool.Decides.{nat_tests}
use Rattle.std.proofs.lemmas.List.{append-nil, reverse-append}
use Rattle.std.proofs.lemmas.Grind.{flat_map-append}
use Rattle.std.proofs.lemmas.List.Concat.{flat_map-cons}
use Rattle.hunk_core.specs.declared.Side.TheVariants.{Forward}
use Rattle.ed_form.specs.PlainEdit.{PlainEdit, IsLawfulEdit, AreLawful, lowest}
use Rattle.format_convert.specs.Blocks.{Block, Edit, add_at, behind, blocks_of, command_edits, drop_at, drop_count, drops_from, is_change, script_edits}
use Rattle.format_convert.specs.Fitting.{is_large_ed}
use Rattle.format_convert.specs.Fronts.{begins_at, front, front_block, front_rest}
use Rattle.format_convert.specs.Runs.{StartsAt}
use Rattle.format_convert.proofs.FrontLemmas.{blocks-front, blocks-none, front-none, front-stop, rest-more, rest-none, rest-stop}
use Rattle.format_convert.proofs.ScriptLemmas.{command-fore, command-none, command-starts, drops-more, drops-none}

-- no block of these edits has too large a number
abbrev AreSmall : List Edit → Type 0
AreSmall es = list_any is_large_ed (blocks_of es) ≡ false

both-false : (a b : Bool) → (a || b) ≡ false → (a ≡ false) × (b ≡ false)
both-false true b is = absurd cc
both-false false b is = (refl, is)

-- the end of a block that isn't too large
block-end : (first drops : ℕ) → (nat_lt 4294967295 first || nat_lt 4294967295 (first + drops - 1)) ≡ false → 1 ≤ first → first + drops ≤ 2 ^ 32
block-end first drops is one =
    let two = both-false (nat_lt 4294967295 first) (nat_lt 4294967295 (first + drops - 1)) is in
    grind (arith, nat_tests, two.0, two.1)

block-small : (first drops : ℕ) → first < 2 ^ 32 → first + drops ≤ 2 ^ 32 → (nat_lt 4294967295 first || nat_lt 4294967295 (first + drops - 1)) ≡ false
block-small first drops low high = grind (arith, nat_tests)

-- the edits behind a gap, and the block that begins there
record Behind (gap : ℕ) (left : List Edit) : Type 0 where
  pub end : gap + length (front Forward gap left) ≤ 2 ^ 32
  pub rest : AreSmall (front_rest gap left)

behind-by : (gap : ℕ) (e : Edit) (es : List Edit) (b : Bool) → eqb e.at gap ≡ b → 1 ≤ gap → gap ≤ 2 ^ 32 → AreSmall (e ∷ es) → Behind gap (e ∷ es)
behind-by gap e es true here one high small =
    let at : e.at ≡ gap = grind (arith, nat_tests) in
    let cut = both-false (is_large_ed (front_block e.at (e ∷ es))) (list_any is_large_ed (blocks_of (front_rest e.at (e ∷ es)))) (sym (ap (list_any is_large_ed) (blocks-front e es)) ∙ small) in
    record {
      end = subst (λ n. n + length (front Forward n (e ∷ es)) ≤ 2 ^ 32) at (block-end e.at (length (front Forward e.at (e ∷ es))) cut.0 (omega (arith, at, one)));
      rest = subst (λ n. AreSmall (front_rest n (e ∷ es))) at cut.1;
    }
behind-by gap e es false away one high small = record {
  end = omega (arith, high, ap length (front-stop Forward gap (e ∷ es) away));
  rest = subst AreSmall (sym (rest-stop gap (e ∷ es) away)) small;
}

behind-small : (gap : ℕ) (left : List Edit) → 1 ≤ gap → gap ≤ 2 ^ 32 → AreSmall left → Behind gap left
behind-small gap [] one high small = record {
  end = omega (arith, high, ap length (front-none Forward gap));
  rest = subst AreSmall (sym (rest-none gap)) small;
}
behind-small gap (e ∷ es) one high small = behind-by gap e es (eqb e.at gap) refl one high small

-- ---- one command

drops-rest : (n at gap : ℕ) (es : List Edit) → at + n ≡ gap → front_rest at (drops_from at n ++ es) ≡ front_rest gap es
drops-rest zero at gap es to =
    let same : at ≡ gap = omega (arith, to) in
    ap (λ xs. front_rest at (xs ++ es)) (drops-none at) ∙ ap (λ q. front_rest q es) same
drops-rest (suc n) at gap es to =
    ap (λ xs. front_rest at (xs ++ es)) (drops-more at n)
    ∙ rest-more at (drop_at at []) (drops_from (at + 1) n ++ es) refl
    ∙ drops-rest n (at + 1) gap es (omega (arith, to))

adds-rest : (ls : List (List ℕ)) (gap : ℕ) (es : List Edit) → front_rest gap (map (add_at gap) ls ++ es) ≡ front_rest gap es
adds-rest [] gap es = refl
adds-rest (l ∷ ls) gap es = rest-more gap (add_at gap l) (map (add_at gap) ls ++ es) refl ∙ adds-rest ls gap es

command-rest : (e : PlainEdit) → e.first ≤ e.last + 1 → (es : List Edit) → front_rest e.first (command_edits e ++ es) ≡ front_rest (e.last + 1) es
command-rest e lawful es =
    ap (front_rest e.first) (append_assoc (drops_from e.first (drop_count e)) (map (add_at (e.last + 1)) e.added) es)
    ∙ drops-rest (drop_count e) e.first (e.last + 1) (map (add_at (e.last + 1)) e.added ++ es) (omega (arith, lawful))
    ∙ adds-rest e.added (e.last + 1) es

-- edits that start somewhere, whose first block isn't too large
starts-small : (first : ℕ) (es : List Edit) → StartsAt first es → first < 2 ^ 32 → Behind first es → AreSmall es
starts-small first [] at low b = ap (list_any is_large_ed) blocks-none
starts-small first (e ∷ es) at low b =
    ap (list_any is_large_ed) (blocks-front e es)
    ∙ ap (λ n. is_large_ed (front_block n (e ∷ es)) || list_any is_large_ed (blocks_of (front_rest n (e ∷ es)))) at.0
    ∙ ap (λ x. x || list_any is_large_ed (blocks_of (front_rest first (e ∷ es)))) (block-small first (length (front Forward first (e ∷ es))) low b.end)
    ∙ b.rest

command-by : (e : PlainEdit) → IsLawfulEdit e → e.last < 2 ^ 32 → (left : List Edit) → AreSmall left → (b : Bool) → is_change e ≡ b → AreSmall (command_edits e ++ left)
command-by e lawful low left small true some =
    let b = behind-small (e.last + 1) left (omega arith) (omega (arith, low)) small in
    starts-small e.first (command_edits e ++ left) (command-starts e lawful.order left lawful.start some) lawful.small (record {
      end = omega (arith, command-fore e lawful.order left, b.end, lawful.order);
      rest = subst AreSmall (sym (command-rest e lawful.order left)) b.rest;
    })
command-by e lawful low left small false none = subst (λ xs. AreSmall (xs ++ left)) (sym (command-none e none)) small

-- ---- all commands, from the first one of the script

all-small : (below : ℕ) (es : List PlainEdit) (left : List Edit) → below ≤ 2 ^ 32 → AreLawful below es → AreSmall left → AreSmall (script_edits es ++ left)
all-small below [] left high are small = small
all-small below (e ∷ es) left high are small =
    let low : e.last < 2 ^ 32 = omega (arith, high, are.1) in
    subst AreSmall (sym (
    ap (λ xs. flat_map command_edits xs ++ left) (reverse-append (e ∷ []) es)
    ∙ ap (λ xs. xs ++ left) (flat_map-append command_edits (reverse es) (e ∷ []) ∙ ap (λ xs. script_edits es ++ xs) (flat_map-cons command_edits e [] ∙ append-nil (command_edits e)))
    ∙ append_assoc (script_edits es) (command_edits e) left))
    (all-small (lowest e) es (command_edits e ++ left) (lowest-low e low are.0.small) are.2 (command-by e are.0 low left small (is_change e) refl))
  where
    lowest-low : (x : PlainEdit) → x.last < 2 ^ 32 → x.first < 2 ^ 32 → lowest x ≤ 2 ^ 32
    lowest-low x last first = grind arith

pub script-small : (es : List PlainEdit) → AreLawful (2 ^ 32) es → list_any is_large_ed (blocks_of (script_edits es)) ≡ false
script-small es are =
    subst AreSmall (append-nil (script_edits es))
    (all-small (2 ^ 32) es [] (omega arith) are (ap (list_any is_large_ed) blocks-none))
