-- Lines that agree up to a place, and whether a backslash line stands there.
use Rattle.std.proofs.Common.{◌≡◌, ℕ, ◌+◌, ◌≤◌, List, [], ◌∷◌, sym, ap, arith, ◌<◌, ◌++◌, length, refl, Bool, true, false, cond, None, Some, Option, subst, ◌∙◌}
use Rattle.hunk_core.specs.FirstFault.{AgreeTo}
use Rattle.hunk_core.specs.LineTests.{is_backslash, after_backslash}

pub agree_head : (last number : ℕ) (line : List ℕ) (rest others : List (List ℕ)) → AgreeTo last number (line ∷ rest) others → number ≤ last → (more : List (List ℕ)) × (others ≡ line ∷ more) × AgreeTo last (number + 1) rest more
agree_head last number line rest [] h le = absurd (omega arith)
agree_head last number line rest (other ∷ more) h le = (more, ap (λ l. l ∷ more) (sym (h.0 le)), h.1)

-- lines that agree further on agree up to here
pub agree_less : (last less number : ℕ) (lines others : List (List ℕ)) → less ≤ last → AgreeTo last number lines others → AgreeTo less number lines others
agree_less last less number [] others le h = omega (arith, le, h)
agree_less last less number (line ∷ lines) [] le h = omega (arith, le, h)
agree_less last less number (line ∷ lines) (other ∷ others) le h = ((λ low. h.0 (omega (arith, low, le))), agree_less last less (number + 1) lines others le h.1)

pub agree_past : (last number : ℕ) (lines others : List (List ℕ)) → last < number → AgreeTo last number lines others
agree_past last number [] others past = past
agree_past last number (line ∷ lines) [] past = past
agree_past last number (line ∷ lines) (other ∷ others) past = ((λ le. absurd (omega (arith, past, le))), agree_past last (number + 1) lines others (omega (arith, past)))

pub agree_front : (last number : ℕ) (front behind others : List (List ℕ)) → last < number + length front → AgreeTo last number (front ++ behind) (front ++ others)
agree_front last number [] behind others past = agree_past last number behind others (omega (arith, past))
agree_front last number (line ∷ front) behind others past = ((λ le. refl), agree_front last (number + 1) front behind others (omega (arith, past)))

pub after_backslash-some : (rest more : List (List ℕ)) → after_backslash rest ≡ Some more → (line : List ℕ) × (rest ≡ line ∷ more) × (is_backslash line ≡ true)
after_backslash-some [] more e = absurd cc
after_backslash-some (line ∷ rest) more e = by (is_backslash line) refl e
  where
    by : (b : Bool) → is_backslash line ≡ b → cond b (Some rest) None ≡ Some more → (l : List ℕ) × (line ∷ rest ≡ l ∷ more) × (is_backslash l ≡ true)
    by true is e = (line, (let same : rest ≡ more = cc in rw same refl), is)
    by false is e = absurd cc

-- whether the first of these lines is a backslash line
pub record Loud (rest more : List (List ℕ)) : Type 0 where
  pub line : List ℕ
  pub parts : rest ≡ line ∷ more
  pub backslash : is_backslash line ≡ true

abbrev pub Hears : List (List ℕ) → Option (List (List ℕ)) → Type 0
Hears rest None = Unit {0}
Hears rest (Some more) = Loud rest more

pub hears : (rest : List (List ℕ)) → Hears rest (after_backslash rest)
hears [] = tt
hears (line ∷ rest) = by (is_backslash line) refl
  where
    by : (v : Bool) → is_backslash line ≡ v → Hears (line ∷ rest) (cond v (Some rest) None)
    by true is = record { line = line; parts = refl; backslash = is }
    by false is = tt

pub agree_quiet : (last number : ℕ) (rest others : List (List ℕ)) → AgreeTo last number rest others → number ≤ last → after_backslash rest ≡ None → after_backslash others ≡ None
agree_quiet last number [] others h le e = absurd (omega arith)
agree_quiet last number (line ∷ rest) others h le e = let a = agree_head last number line rest others h le in rw a.1 (quiet_too (is_backslash line) rest a.0 e)
  where
    quiet_too : (b : Bool) (xs ys : List (List ℕ)) → cond b (Some xs) None ≡ None → cond b (Some ys) None ≡ None
    quiet_too true xs ys h = absurd cc
    quiet_too false xs ys h = refl

pub loud-step : (line : List ℕ) (more : List (List ℕ)) → is_backslash line ≡ true → after_backslash (line ∷ more) ≡ Some more
loud-step line more is = rw is refl

pub agree_loud : (last number : ℕ) (rest others kept : List (List ℕ)) → Loud rest kept → AgreeTo last number rest others → number ≤ last → (more : List (List ℕ)) × (after_backslash others ≡ Some more) × AgreeTo last (number + 1) kept more
agree_loud last number rest others kept loud h le =
    let a = agree_head last number loud.line kept others (subst (λ ls. AgreeTo last number ls others) loud.parts h) le in
    (a.0, ap after_backslash a.1 ∙ loud-step loud.line a.0 loud.backslash, a.2)
