-- The first byte of what can stand at a line.
use Rattle.std.proofs.Common.{◌≡◌, ◌⊎◌, inl, inr, ℕ, suc, ◌-◌, Bool, true, false, cond, ◌&&◌, ◌||◌, eqb, List, [], ◌∷◌, length, take, Option, None, Some, refl, subst, arith}
use Rattle.std.specs.Prelude.{is_some, codes, nat_eq, bytes_eq}
use Rattle.std.specs.List.{ends_with}
use Rattle.std.proofs.lemmas.Bool.{eqb-true, false≢true}
use Rattle.hunk_core.specs.LineTests.{after, ends_line}
use Rattle.num_text.specs.Numbers.{is_digit, value_after, after_digits}
use Rattle.num_text.specs.NumberRanges.{range_at, from_first}
use Rattle.num_text.specs.declared.range.NumberRange.{NumberRange}
use Rattle.hunk_core.specs.Letters.{action_at, is_line_end}
use Rattle.hunk_core.specs.declared.command.Action.{Action}
use Rattle.ed_form.specs.Commands as ed
use Rattle.ed_form.specs.declared.command.Command.{Command}
use Rattle.unified_form.specs.Ranges as range_line
use Rattle.context_form.specs.Openings as context
use Rattle.normal_form.specs.Commands as command
use Rattle.hunk_core.specs.OptionSteps.{◌>>=◌}
use Rattle.patch_header.specs.Content.{content, is_binary}
use Rattle.patch_header.specs.GitHeaders.{is_range_like}

-- the first byte of a line; 0 where there is none
abbrev pub front : List ℕ → ℕ
front [] = 0
front (b ∷ bytes) = b

pub and_left : (v w : Bool) → (v && w) ≡ true → v ≡ true
and_left true w h = refl
and_left false w h = absurd cc

pub and_right : (v w : Bool) → (v && w) ≡ true → w ≡ true
and_right true w h = h
and_right false w h = absurd cc

-- what begins with a prefix begins with its first byte
pub after-front : (p : ℕ) (prefix line : List ℕ) → is_some (after (p ∷ prefix) line) ≡ true → front line ≡ p
unfolding after
after-front p prefix [] h = absurd cc
after-front p prefix (b ∷ bytes) h = by (eqb b p) refl h
  where
    by : (v : Bool) → eqb b p ≡ v → is_some (cond v (after prefix bytes) None) ≡ true → b ≡ p
    by true e k = eqb-true b p e
    by false e k = absurd cc

unified-some : (o : Option (List ℕ)) → is_some (o >>= range_line.size_at) ≡ true → is_some o ≡ true
unified-some None h = absurd cc
unified-some (Some x) h = refl

-- the range line of a hunk begins as one, and what begins so has its first byte
pub unified-range : (line : List ℕ) → range_line.is_opening line ≡ true → is_range_like line ≡ true
unfolding range_line.is_opening
unified-range line h = unified-some (after (64 ∷ 64 ∷ 32 ∷ 45 ∷ []) line) h

pub ranged-front : (line : List ℕ) → is_range_like line ≡ true → front line ≡ 64
ranged-front line h = after-front 64 (64 ∷ 32 ∷ 45 ∷ []) line h

pub unified-front : (line : List ℕ) → range_line.is_opening line ≡ true → front line ≡ 64
unified-front line h = ranged-front line (unified-range line h)

pub context-front : (line : List ℕ) → context.is_stars line ≡ true → front line ≡ 42
context-front line h = after-front 42 (42 ∷ 42 ∷ 42 ∷ 42 ∷ 42 ∷ 42 ∷ 42 ∷ 42 ∷ 42 ∷ 42 ∷ 42 ∷ 42 ∷ 42 ∷ 42 ∷ []) line h

pub range-front : (line : List ℕ) → is_some (range_at line) ≡ true → is_digit (front line) ≡ true
unfolding range_at
range-front [] h = absurd cc
range-front (b ∷ bytes) h = by (is_digit b) h
  where
    by : (v : Bool) → is_some (from_first (cond v (Some (value_after 0 (b ∷ bytes), after_digits bytes)) None)) ≡ true → v ≡ true
    by true k = refl
    by false k = absurd (false≢true k)

bind-some : {A B : Type 0} (o : Option A) (f : A → Option B) → is_some (o >>= f) ≡ true → is_some o ≡ true
bind-some None f h = absurd cc
bind-some (Some x) f h = refl

-- ---- commands

pub normal-range : (line : List ℕ) → command.is_command line ≡ true → is_some (range_at line) ≡ true
unfolding command.parts_at
normal-range line h = bind-some (range_at line) (λ old. action_at old.1 >>= λ action. range_at action.1 >>= λ new. command.whole old.0 action.0 new.0 new.1) h

pub ed-range : (line : List ℕ) → ed.is_command line ≡ true → is_some (range_at line) ≡ true
unfolding ed.parts_at
ed-range line h = bind-some (range_at line) (λ range. action_at range.1 >>= λ action. ed.whole range.0 action.0 action.1) h

ended : (range : NumberRange) (action : Action) (rest : List ℕ) → is_some (ed.whole range action rest) ≡ true → is_line_end rest ≡ true
ended range action rest h = by (is_line_end rest) h
  where
    by : (v : Bool) → is_some {T = Command} (cond v (Some (record { range = range; action = action })) None) ≡ true → v ≡ true
    by true k = refl
    by false k = absurd cc

-- a range doesn't stand where the line ends
no-range : (rest : List ℕ) → is_line_end rest ≡ true → is_some (range_at rest) ≡ true → ⊥
no-range [] h k = let d : is_digit 0 ≡ true = range-front [] k in absurd cc
no-range (b ∷ []) h k = let d : is_digit 10 ≡ true = subst (λ x. is_digit x ≡ true) (eqb-true b 10 h) (range-front (b ∷ []) k) in absurd cc
no-range (b ∷ c ∷ bytes) h k = absurd cc

clash-action : (old : NumberRange) (o : Option (Action × List ℕ)) → is_some (o >>= λ action. range_at action.1 >>= λ new. command.whole old action.0 new.0 new.1) ≡ true → is_some (o >>= λ action. ed.whole old action.0 action.1) ≡ true → ⊥
clash-action old None h k = absurd cc
clash-action old (Some a) h k = no-range a.1 (ended old a.0 a.1 k) (bind-some (range_at a.1) (λ new. command.whole old a.0 new.0 new.1) h)

clash-range : (o : Option (NumberRange × List ℕ)) → is_some (o >>= λ old. action_at old.1 >>= λ action. range_at action.1 >>= λ new. command.whole old.0 action.0 new.0 new.1) ≡ true → is_some (o >>= λ range. action_at range.1 >>= λ action. ed.whole range.0 action.0 action.1) ≡ true → ⊥
clash-range None h k = absurd cc
clash-range (Some r) h k = clash-action r.0 (action_at r.1) h k

-- no command of a normal diff is one of an ed script
pub clash : (line : List ℕ) → command.is_command line ≡ true → ed.is_command line ≡ true → ⊥
unfolding command.parts_at ed.parts_at
clash line h k = clash-range (range_at line) h k

-- ---- binary lines

eq-front : (bytes : List ℕ) (b : ℕ) (rest : List ℕ) → bytes_eq bytes (b ∷ rest) ≡ true → front bytes ≡ b
eq-front [] b rest h = absurd cc
eq-front (x ∷ bytes) b rest h = eqb-true x b (and_left _ _ h)

pub content-front : (line : List ℕ) (n : ℕ) → front (content line) ≡ suc n → front line ≡ suc n
content-front [] n h = h
content-front (b ∷ []) n h = by (eqb b 10) h
  where
    by : (v : Bool) → front (cond v (take (length (b ∷ []) - 1) (b ∷ [])) (b ∷ [])) ≡ suc n → b ≡ suc n
    by true k = absurd (omega (arith, k))
    by false k = k
content-front (b ∷ c ∷ bytes) n h = by (ends_line (c ∷ bytes)) h
  where
    most : length (b ∷ c ∷ bytes) - 1 ≡ suc (length bytes)
    most = omega arith

    by : (v : Bool) → front (cond v (take (length (b ∷ c ∷ bytes) - 1) (b ∷ c ∷ bytes)) (b ∷ c ∷ bytes)) ≡ suc n → b ≡ suc n
    by true k = rw most at k
    by false k = k

pub or_cases : (v w : Bool) → (v || w) ≡ true → (v ≡ true) ⊎ (w ≡ true)
or_cases true w h = inl refl
or_cases false w h = inr h

-- 'G' or 'B'
pub binary-front : (line : List ℕ) → is_binary line ≡ true → (front line ≡ 71) ⊎ (front line ≡ 66)
binary-front line h =
    elim (or_cases (bytes_eq (content line) (codes "GIT binary patch")) (is_some (after (codes "Binary files ") (content line)) && ends_with nat_eq (content line) (codes " differ")) h) [
      | inl e ↦ inl (content-front line 70 (eq-front (content line) 71 (codes "IT binary patch") e))
      | inr e ↦ inr (content-front line 65 (after-front 66 (codes "inary files ") (content line) (and_left _ _ e)))
    ]
