-- The first fault of hunks that follow each other, in a form whose faults are decided by their own line: it stays whatever lines come later, and
-- the lines in front of it can go on.
use Rattle.std.proofs.Common.{◌≡◌, ◌≢◌, ℕ, zero, suc, ◌+◌, ◌-◌, ◌≤◌, Bool, true, List, [], ◌∷◌, ◌++◌, length, take, Result, Ok, Err, refl, sym, subst, ◌∙◌, arith, inl, inr}
use Rattle.std.specs.List.{AllByRecursion}
use Rattle.std.proofs.lemmas.Bool.{cases_lt}
use Rattle.std.proofs.lemmas.List.{length-append}
use Rattle.line_list.specs.Lines.{IsLine}
use Rattle.line_list.proofs.Choices.{chosen}
use Rattle.hunk_core.specs.declared.BadKind.TheVariants as kinds
use Rattle.hunk_core.specs.FirstFault.{AgreeTo}
use Rattle.hunk_core.specs.PlainHunk.{PlainHunk}
use Rattle.hunk_core.specs.Reading.{Fault, Ahead, ahead}
use Rattle.hunk_core.specs.Following.{hunks_by, reading_by, SpellsEach}
use Rattle.hunk_core.proofs.Agreeing.{agree_less, agree_front}
use Rattle.hunk_core.proofs.FaultSteps.{failed, bind_err, short_or, add_err}
use Rattle.hunk_core.proofs.Filling.{IsInside, none_in_front, front_with, past_inside}
use Rattle.hunk_core.proofs.Following.{more_hunks, hunks_step}
use Rattle.hunk_core.proofs.Grammars.{TakesHunk, IsGrammar, some-lines, hunk-shrinks}
use Rattle.hunk_core.proofs.Steady.{SteadyTo}

-- the lines in front of a fault, with others, are hunks
pub record FillsHunks (Spells : ℕ → List (List ℕ) → List (List ℕ) → PlainHunk → Type 0) (least : ℕ) (p : Ahead) (e : Fault) : Type 0 where
  pub others : List (List ℕ)
  pub are_lines : AllByRecursion IsLine others
  pub hs : List PlainHunk
  pub spelled : SpellsEach Spells least (take (e.line - p.number) p.rest ++ others) [] hs
  pub inside : IsInside p e

-- a fault of one hunk is decided by its own line, and whether a hunk opens at a line by the lines up to this one
pub record IsSteady (begins : List (List ℕ) → Bool) (hunk : ℕ → Ahead → Result (PlainHunk × Ahead) Fault) (Spells : ℕ → List (List ℕ) → List (List ℕ) → PlainHunk → Type 0) (over : ℕ → ℕ) : Type 0 where
  pub far : (n : ℕ) → n ≤ over n
  pub opens : (last number : ℕ) (rest others : List (List ℕ)) → AgreeTo (over last) number rest others → number ≤ last → begins rest ≡ true → begins others ≡ true
  pub one : (least : ℕ) → SteadyTo (λ e. e.line) (hunk least)

module _ (begins : List (List ℕ) → Bool) (hunk : ℕ → Ahead → Result (PlainHunk × Ahead) Fault) (Spells : ℕ → List (List ℕ) → List (List ℕ) → PlainHunk → Type 0) (over : ℕ → ℕ) (law : IsGrammar begins hunk Spells) (steady : IsSteady begins hunk Spells over) where
  pub hunks_low : (most least : ℕ) (p : Ahead) (e : Fault) → hunks_by begins hunk most least p ≡ Err e → (p.number ≤ e.line) × (e.kind ≡ kinds.ShortEnd → e.line ≡ p.number + length p.rest)
  unfolding hunks_by
  hunks_low zero least p e h = absurd cc
  hunks_low (suc most) least p e h =
      elim (chosen (begins p.rest) _ _ (Err e) h) [
        | inl some ↦ elim (bind_err (hunk least p) (more_hunks begins hunk most) e some.1) [
          | inl bad ↦ (steady.one least).low p e bad
          | inr good ↦ (
              let x = good.0 in
              let up = (steady.one least).up p x good.1 in
              let l = hunks_low most x.0.old_start x.1 e (add_err x.0 (hunks_by begins hunk most x.0.old_start x.1) e good.2) in
              (omega (arith, up.0, l.0), λ short. l.1 short ∙ up.1))
        ]
        | inr none ↦ absurd (let bad : Ok ([], p) ≡ failed {A = List PlainHunk × Ahead} e = none.1 in cc)
      ]

  hunks_err : (most least : ℕ) (p : Ahead) (e : Fault) → begins p.rest ≡ true → hunk least p ≡ Err e → hunks_by begins hunk (suc most) least p ≡ Err e
  hunks_err most least p e opens h = hunks_step begins hunk most least p opens ∙ rw h refl

  hunks_on : (most least : ℕ) (p : Ahead) (x : PlainHunk × Ahead) (e : Fault) → begins p.rest ≡ true → hunk least p ≡ Ok x → hunks_by begins hunk most x.0.old_start x.1 ≡ Err e → hunks_by begins hunk (suc most) least p ≡ Err e
  hunks_on most least p x e opens h more = hunks_step begins hunk most least p opens ∙ rw (h, more) refl

  pub hunks_stay : (most most2 least : ℕ) (p : Ahead) (others : List (List ℕ)) (e : Fault) → hunks_by begins hunk most least p ≡ Err e → e.kind ≢ kinds.ShortEnd → AgreeTo (over e.line) p.number p.rest others → length others ≤ most2 → hunks_by begins hunk most2 least (ahead p.number others) ≡ Err e
  unfolding hunks_by
  hunks_stay zero most2 least p others e h long agree enough = absurd cc
  hunks_stay (suc most) most2 least p others e h long agree enough =
      let low = hunks_low (suc most) least p e h in
      elim (chosen (begins p.rest) _ _ (Err e) h) [
        | inl some ↦ (
            let opens = steady.opens e.line p.number p.rest others agree low.0 some.0 in
            let k : most2 ≡ suc (most2 - 1) = omega (arith, enough, some-lines begins hunk Spells law others opens) in
            subst (λ n. hunks_by begins hunk n least (ahead p.number others) ≡ Err e) (sym k) (elim (bind_err (hunk least p) (more_hunks begins hunk most) e some.1) [
              | inl bad ↦ hunks_err (most2 - 1) least (ahead p.number others) e opens ((steady.one least).stays p others e bad long (agree_less (over e.line) e.line p.number p.rest others (steady.far e.line) agree))
              | inr good ↦ (
                  let x = good.0 in
                  let rest : hunks_by begins hunk most x.0.old_start x.1 ≡ Err e = add_err x.0 (hunks_by begins hunk most x.0.old_start x.1) e good.2 in
                  let there = hunks_low most x.0.old_start x.1 e rest in
                  let go = (steady.one least).goes (over e.line) p others x good.1 (omega (arith, there.0, steady.far e.line)) agree in
                  let fewer : length go.rest ≤ most2 - 1 = omega (arith, enough, hunk-shrinks begins hunk Spells law least (ahead p.number others) (x.0, ahead x.1.number go.rest) opens go.read) in
                  hunks_on (most2 - 1) least (ahead p.number others) (x.0, ahead x.1.number go.rest) e opens go.read (hunks_stay most (most2 - 1) x.0.old_start x.1 go.rest e rest long go.agree fewer))
            ]))
        | inr none ↦ absurd (let bad : Ok ([], p) ≡ failed {A = List PlainHunk × Ahead} e = none.1 in cc)
      ]

  -- ---- the first fault

  pub stays : (number : ℕ) (lines others : List (List ℕ)) (e : Fault) → reading_by begins hunk number lines ≡ Err e → e.kind ≢ kinds.ShortEnd → AgreeTo (over e.line) number lines others → reading_by begins hunk number others ≡ Err e
  stays number lines others e h long agree = hunks_stay (length lines) (length others) 0 (ahead number lines) others e h long agree (omega arith)

  pub short : (number : ℕ) (lines : List (List ℕ)) (e : Fault) → reading_by begins hunk number lines ≡ Err e → e.kind ≡ kinds.ShortEnd → e.line ≡ number + length lines
  short number lines e h end = (hunks_low (length lines) 0 (ahead number lines) e h).1 end

  -- lines that read otherwise
  pub unread : (number : ℕ) (lines others : List (List ℕ)) (e : Fault) (x : List PlainHunk × Ahead) → reading_by begins hunk number lines ≡ Err e → e.kind ≢ kinds.ShortEnd → AgreeTo (over e.line) number lines others → reading_by begins hunk number others ≡ Ok x → ⊥
  unread number lines others e x h long agree reads = let fails = stays number lines others e h long agree in cc

  pub late : (number : ℕ) (front behind others : List (List ℕ)) (e : Fault) (x : List PlainHunk × Ahead) → reading_by begins hunk number (front ++ others) ≡ Ok x → reading_by begins hunk number (front ++ behind) ≡ Err e → number + length front ≤ over e.line
  late number front behind others e x reads h =
      elim (cases_lt (over e.line) (number + length front)) [
        | inl early ↦ elim (short_or e.kind) [
          | inl end ↦ omega (arith, steady.far e.line, short number (front ++ behind) e h end, length-append front behind)
          | inr long ↦ absurd (unread number (front ++ behind) (front ++ others) e x h long (agree_front (over e.line) number front behind others early) reads)
        ]
        | inr after ↦ after
      ]

  -- ---- the lines in front of it

  past_hunk : ((least : ℕ) (own behind others : List (List ℕ)) (h : PlainHunk) → Spells least own behind h → Spells least own others h) → (least : ℕ) (p : Ahead) (e : Fault) (x : PlainHunk × Ahead) → TakesHunk Spells least p x → x.1.number ≤ e.line → FillsHunks Spells x.0.old_start x.1 e → FillsHunks Spells least p e
  past_hunk free least p e x t le more = record {
    others = more.others;
    are_lines = more.are_lines;
    hs = x.0 ∷ more.hs;
    spelled = (t.own, take (e.line - x.1.number) x.1.rest ++ more.others, front_with e.line p.number x.1.number p.rest t.own x.1.rest more.others t.parts t.number le, free least t.own x.1.rest _ x.0 t.spelled, more.spelled);
    inside = past_inside p x.1 e t.own t.parts t.number more.inside;
  }

  pub hunks_fill : ((least : ℕ) (own behind others : List (List ℕ)) (h : PlainHunk) → Spells least own behind h → Spells least own others h) → ((least : ℕ) (p : Ahead) (e : Fault) → hunk least p ≡ Err e → FillsHunks Spells least p e)
      → (most least : ℕ) (p : Ahead) (e : Fault) → hunks_by begins hunk most least p ≡ Err e → FillsHunks Spells least p e
  unfolding hunks_by
  hunks_fill free one zero least p e h = absurd cc
  hunks_fill free one (suc most) least p e h =
      elim (chosen (begins p.rest) _ _ (Err e) h) [
        | inl some ↦ elim (bind_err (hunk least p) (more_hunks begins hunk most) e some.1) [
          | inl bad ↦ one least p e bad
          | inr good ↦ (
              let x = good.0 in
              let rest : hunks_by begins hunk most x.0.old_start x.1 ≡ Err e = add_err x.0 (hunks_by begins hunk most x.0.old_start x.1) e good.2 in
              past_hunk free least p e x (law.takes least p x some.0 good.1) (hunks_low most x.0.old_start x.1 e rest).0 (hunks_fill free one most x.0.old_start x.1 e rest))
        ]
        | inr none ↦ absurd (let bad : Ok ([], p) ≡ failed {A = List PlainHunk × Ahead} e = none.1 in cc)
      ]

-- a fault at once
pub no_hunk : (Spells : ℕ → List (List ℕ) → List (List ℕ) → PlainHunk → Type 0) (least : ℕ) (p : Ahead) (e : Fault) → e.line ≡ p.number → IsInside p e → FillsHunks Spells least p e
no_hunk Spells least p e here inside = record { others = []; are_lines = tt; hs = []; spelled = rw (none_in_front e.line p.number p.rest here) refl; inside = inside }
