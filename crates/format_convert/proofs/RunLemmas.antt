-- A walk over the commands of a script, from the first one, and the run that it has come by last.
use Rattle.std.proofs.Common.{◌≡◌, ℕ, zero, suc, ◌+◌, ◌*◌, ◌^◌, ◌<◌, ◌≤◌, Bool, true, false, not, ◌||◌, cond, eqb, List, [], ◌∷◌, ◌++◌, length, get_or, drop, take, refl, sym, ap, subst, ◌∙◌, arith}
use Rattle.std.specs.Prelude.{reverse}
use Rattle.std.specs.List.{flat_map}
use Rattle.std.proofs.lemmas.Bool.Decides.{nat_tests}
use Rattle.std.proofs.lemmas.List.{append-nil, length-append, reverse-append, take-append-drop, take_all}
use Rattle.std.proofs.lemmas.Grind.{flat_map-append}
use Rattle.hunk_core.specs.declared.Side.TheVariants.{Forward, Reversed}
use Rattle.ed_form.specs.PlainEdit.{PlainEdit, IsLawfulEdit}
use Rattle.format_convert.specs.Backward.{closing, first_text, grown, text_behind}
use Rattle.format_convert.specs.Blocks.{Edit, blocks_of, command_edits, drop_count, is_change, script_edits}
use Rattle.format_convert.specs.Commands.{ed_command, ed_text}
use Rattle.format_convert.specs.Fronts.{begins_at, front, front_block}
use Rattle.format_convert.specs.Runs.{IsRun, StartsAt, edits_before, grown_at, run_adds}
use Rattle.format_convert.specs.declared.script.Run.{Run}
use Rattle.format_convert.proofs.EdLemmas.{counted, counted-is, grown-is, grown-none, text-ends, text-rest}
use Rattle.format_convert.proofs.FrontLemmas.{blocks-none, front-none, front-stop}
use Rattle.format_convert.proofs.ScriptLemmas.{added-none, adds-more, adds-own, command-back, command-fore, command-none, command-starts, edits-more, grown-command, grown-here, starts-begins, starts-text}

-- no command so far
pub run-none : (es : List PlainEdit) (r : Run) → r.from ≡ 0 → r.first ≡ 0 → r.end ≡ 0 → r.adds ≡ 0 → IsRun es 0 r
run-none es r from first end adds =
    let none : (q : ℕ) → length (front Forward q []) ≡ 0 = λ q. ap length (front-none Forward q) in
    let empty : run_adds es r.from 0 ≡ [] = ap (λ n. run_adds es n 0) from in
    record {
      starts = first;
      drops = omega (arith, first, end, none r.first);
      added = front-none Reversed r.first ∙ sym empty;
      adds = adds ∙ sym (ap length empty);
      from = omega (arith, from);
      near = omega (arith, end);
      few = omega (arith, adds);
    }

module _ (es : List PlainEdit) (i : ℕ) (e : PlainEdit) (lt : i < length es) (is : e ≡ get_or es i e) where
  -- the text so far with what is written of one command more
  pub behind-more : text_behind (blocks_of (edits_before es (i + 1))) ≡ text_behind (blocks_of (edits_before es i)) ++ grown_at es i
  behind-more =
      ap (λ xs. text_behind (blocks_of xs)) (edits-more es i e lt is)
      ∙ grown-is (command_edits e) (edits_before es i)
      ∙ ap (λ t. text_behind (blocks_of (edits_before es i)) ++ t) (sym (grown-here es i e lt is))

  -- a command that changes nothing
  module _ (none : is_change e ≡ false) where
    still : edits_before es (i + 1) ≡ edits_before es i
    still = edits-more es i e lt is ∙ ap (λ xs. xs ++ edits_before es i) (command-none e none)

    pub grown-still : grown_at es i ≡ []
    grown-still = grown-here es i e lt is ∙ ap (λ xs. grown xs (edits_before es i)) (command-none e none) ∙ grown-none (edits_before es i)

    pub run-still : (r : Run) → IsRun es i r → IsRun es (i + 1) r
    run-still r run =
        let same : run_adds es r.from (i + 1) ≡ run_adds es r.from i = adds-more es i e lt is r.from run.from ∙ ap (λ xs. xs ++ run_adds es r.from i) (added-none e none) in
        record {
          starts = subst (StartsAt r.first) (sym still) run.starts;
          drops = ap (λ xs. r.first + length (front Forward r.first xs)) still ∙ run.drops;
          added = ap (front Reversed r.first) still ∙ run.added ∙ sym same;
          adds = run.adds ∙ ap length (sym same);
          from = omega (arith, run.from);
          near = run.near;
          few = omega (arith, run.few);
        }

  module _ (lawful : IsLawfulEdit e) (some : is_change e ≡ true) (r : Run) (run : IsRun es i r) where
    begins : begins_at (e.last + 1) (edits_before es i) ≡ eqb r.first (e.last + 1)
    begins = starts-begins r.first (e.last + 1) (edits_before es i) run.starts (omega arith)

    pub grown-by : (b : Bool) → eqb r.first (e.last + 1) ≡ b → grown_at es i ≡ cond b [] (first_text (blocks_of (edits_before es i)))
    grown-by b here =
        grown-here es i e lt is
        ∙ grown-command e lawful.order (edits_before es i)
        ∙ ap (λ x. cond x (closing (e.last + 1) (edits_before es i)) []) some
        ∙ ap (λ x. cond x [] (first_text (blocks_of (edits_before es i)))) (begins ∙ here)

    module _ (s : Run) (n : ℕ) (first : s.first ≡ e.first) (count : n ≡ length e.added) (few : n < 2 ^ 32) where
      starts : StartsAt s.first (edits_before es (i + 1))
      starts = subst (λ q. StartsAt q (edits_before es (i + 1))) (sym first) (subst (StartsAt e.first) (sym (edits-more es i e lt is)) (command-starts e lawful.order (edits_before es i) lawful.start some))

      fore : length (front Forward s.first (edits_before es (i + 1))) ≡ drop_count e + length (front Forward (e.last + 1) (edits_before es i))
      fore = ap (λ q. length (front Forward q (edits_before es (i + 1)))) first ∙ ap (λ xs. length (front Forward e.first xs)) (edits-more es i e lt is) ∙ command-fore e lawful.order (edits_before es i)

      back : front Reversed s.first (edits_before es (i + 1)) ≡ e.added ++ front Reversed (e.last + 1) (edits_before es i)
      back = ap (λ q. front Reversed q (edits_before es (i + 1))) first ∙ ap (front Reversed e.first) (edits-more es i e lt is) ∙ command-back e lawful.order (edits_before es i)

      -- one that the run goes on with
      pub run-grown : eqb r.first (e.last + 1) ≡ true → s.from ≡ r.from → s.end ≡ r.end → s.adds ≡ r.adds + n → IsRun es (i + 1) s
      run-grown here from end adds =
          let at : r.first ≡ e.last + 1 = grind (arith, nat_tests) in
          let more : run_adds es s.from (i + 1) ≡ e.added ++ run_adds es r.from i = ap (λ m. run_adds es m (i + 1)) from ∙ adds-more es i e lt is r.from run.from in
          record {
            starts = starts;
            drops = omega (arith, fore, first, end, run.drops, at, lawful.order, ap (λ q. length (front Forward q (edits_before es i))) at);
            added = back ∙ ap (λ q. e.added ++ front Reversed q (edits_before es i)) (sym at) ∙ ap (λ xs. e.added ++ xs) run.added ∙ sym more;
            adds = omega (arith, adds, count, run.adds, ap length more, length-append e.added (run_adds es r.from i));
            from = omega (arith, from, run.from);
            near = omega (arith, end, run.near);
            few = omega (arith, adds, few, run.few);
          }

      -- one behind which the run doesn't begin
      pub run-own : eqb r.first (e.last + 1) ≡ false → s.from ≡ i → s.end ≡ e.last + 1 → s.adds ≡ n → s.end ≤ 2 ^ 32 → IsRun es (i + 1) s
      run-own away from end adds near =
          let apart : begins_at (e.last + 1) (edits_before es i) ≡ false = begins ∙ away in
          let own : run_adds es s.from (i + 1) ≡ e.added = ap (λ m. run_adds es m (i + 1)) from ∙ adds-own es i e lt is in
          record {
            starts = starts;
            drops = omega (arith, fore, first, end, lawful.order, ap length (front-stop Forward (e.last + 1) (edits_before es i) apart));
            added = back ∙ ap (λ xs. e.added ++ xs) (front-stop Reversed (e.last + 1) (edits_before es i) apart) ∙ append-nil e.added ∙ sym own;
            adds = adds ∙ count ∙ ap length (sym own);
            from = omega (arith, from);
            near = near;
            few = omega (arith, adds, few);
          }

-- ---- the text of a run

module _ (es : List PlainEdit) (i : ℕ) (r : Run) (run : IsRun es i r) where
  pub run-order : r.first ≤ r.end
  run-order = omega (arith, run.drops)

  pub run-text : (d : ℕ) → d + r.first ≡ r.end → first_text (blocks_of (edits_before es i)) ≡ cond (not (eqb d 0) || not (eqb r.adds 0)) (ed_command (front_block r.first (edits_before es i))) []
  run-text d to = starts-text r.first (edits_before es i) d r.adds run.starts (omega (arith, to, run.drops)) (run.adds ∙ ap length (sym run.added))

  pub run-command : (d : ℕ) → d + r.first ≡ r.end → ed_command (front_block r.first (edits_before es i)) ≡ counted r.first (edits_before es i) d r.adds
  run-command d to = sym (counted-is r.first (edits_before es i) d r.adds (omega (arith, to, run.drops)) (run.adds ∙ ap length (sym run.added)))

-- ---- the whole script

script-cut : (es : List PlainEdit) (k : ℕ) → script_edits es ≡ script_edits (drop k es) ++ edits_before es k
script-cut es k =
    ap script_edits (sym (take-append-drop k es))
    ∙ ap (flat_map command_edits) (reverse-append (take k es) (drop k es))
    ∙ flat_map-append command_edits (reverse (drop k es)) (reverse (take k es))

-- what is written behind the commands so far
pub script-rest : (es : List PlainEdit) (k : ℕ) → ed_text (blocks_of (script_edits es)) ≡ text_behind (blocks_of (edits_before es k)) ++ (grown (script_edits (drop k es)) (edits_before es k) ++ first_text (blocks_of (script_edits (drop k es) ++ edits_before es k)))
script-rest es k = ap (λ xs. ed_text (blocks_of xs)) (script-cut es k) ∙ text-rest (script_edits (drop k es)) (edits_before es k)

pub script-none : (es : List PlainEdit) → text_behind (blocks_of (edits_before es 0)) ≡ []
script-none es = ap text_behind blocks-none

pub script-ends : (es : List PlainEdit) (k : ℕ) → length es ≤ k → text_behind (blocks_of (edits_before es k)) ++ first_text (blocks_of (edits_before es k)) ≡ ed_text (blocks_of (script_edits es))
script-ends es k le = text-ends (blocks_of (edits_before es k)) ∙ ap (λ xs. ed_text (blocks_of (script_edits xs))) (take_all k es le)
