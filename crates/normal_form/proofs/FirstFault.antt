-- A fault stays whatever lines come after the one behind its own.
use Rattle.std.proofs.Common.{◌≡◌, ◌≢◌, inl, inr, ℕ, zero, suc, ◌+◌, ◌-◌, ◌≤◌, ◌<◌, Bool, true, false, cond, eqb, ltb, ◌||◌, List, [], ◌∷◌, ◌++◌, length, Option, None, Some, Result, Ok, Err, refl, sym, ap, subst, ◌∙◌, arith}
use Rattle.std.specs.Prelude.{is_some}
use Rattle.std.proofs.lemmas.Bool.{cases_lt, and_parts}
use Rattle.std.proofs.lemmas.List.{length-append}
use Rattle.hunk_core.specs.declared.BadKind.{BadKind}
use Rattle.hunk_core.specs.declared.BadKind.TheVariants as kinds
use Rattle.hunk_core.specs.declared.Side.{Side}
use Rattle.hunk_core.specs.declared.Side.TheVariants.{Forward, Reversed}
use Rattle.hunk_core.specs.PlainHunk.{Marked, PlainHunk}
use Rattle.hunk_core.specs.LineTests.{after, unended, after_backslash}
use Rattle.hunk_core.specs.Reading.{◌>>=◌, Fault, fault, Ahead, ahead}
use Rattle.hunk_core.proofs.ReadSteps.{bind_ok, ok_is}
use Rattle.line_list.proofs.Choices.{chosen}
use Rattle.hunk_core.specs.FirstFault.{AgreeTo}
use Rattle.hunk_core.specs.Rules.{is_too_large}
use Rattle.hunk_core.specs.Refusals.{unmarked, settled}
use Rattle.hunk_core.proofs.FaultSteps.{failed, bind_err, with_rest, err_is, put_first, add_err, assoc, short_or, here-is, unmarked-kind}
use Rattle.hunk_core.proofs.Agreeing.{agree_head, agree_front}
use Rattle.hunk_core.proofs.Steady.{one_line, FailsHere, peek_by}
use Rattle.normal_form.specs.FirstFault.{CanGoOn}
use Rattle.hunk_core.specs.declared.command.Action.{Action}
use Rattle.hunk_core.specs.declared.command.Action.TheVariants.{Add, Change, Delete}
use Rattle.normal_form.specs.declared.command.Command.{Command}
use Rattle.normal_form.specs.declared.command.Parts.{Parts}
use Rattle.normal_form.specs.Commands.{takes_lines, is_bad_range, command, placed, from_parts, parts_at, opening, is_command}
use Rattle.normal_form.specs.Stretches.{marks, must_be_marked, marked_at, ended_by, first_line, line_at, stretch_at, is_divider, first_divider, divider_at}
use Rattle.normal_form.specs.Hunks.{at_line, body_at, change, first_hunk, hunk_at, begins_marked, begins_hunk, hunks_at, reading}
use Rattle.normal_form.specs.Grammar.{IsPiece}
use Rattle.hunk_core.proofs.Steady.{steady-then, steady-value, steady-same}
use Rattle.normal_form.proofs.Steady.{Steady, steady-line, steady-peek}
use Rattle.hunk_core.specs.Following.{hunks_by}
use Rattle.hunk_core.proofs.Following.{more_hunks, hunks_step, no_hunks}
use Rattle.hunk_core.proofs.Grammars.{hunk-shrinks, some-lines}
use Rattle.hunk_core.proofs.Faults.{FillsHunks, IsSteady, hunks_low as low_of, hunks_fill as fill_of, stays, short, unread, late}
use Rattle.normal_form.proofs.Pieces.{SpellsIn, grammar, reading_again}

-- ---- lines
pub marked-here : (side : Side) → FailsHere (λ number line. marked_at number side line)
marked-here side number line e h = by (after (marks side) line) h
  where
    by : (o : Option (List ℕ)) → must_be_marked number side line o ≡ Err e → (e.line ≡ number) × (e.kind ≢ kinds.ShortEnd)
    by None h = here-is number (unmarked line) e (unmarked-kind line) (err_is {A = Marked} _ e h)
    by (Some bytes) h = absurd cc

abbrev ended : ℕ → Marked → Ahead → Result (Marked × Ahead) Fault
ended left m q = peek_by m (cond (eqb left 0) (Some (unended m)) None) q (after_backslash q.rest)

ended-same : (left : ℕ) (m : Marked) (q : Ahead) (o : Option (List (List ℕ))) → peek_by m (cond (eqb left 0) (Some (unended m)) None) q o ≡ ended_by m left q o
ended-same left m q None = by (eqb left 0)
  where
    by : (b : Bool) → peek_by m (cond b (Some (unended m)) None) q None ≡ Ok (m, q)
    by true = refl
    by false = refl
ended-same left m q (Some more) = by (eqb left 0)
  where
    by : (b : Bool) → peek_by m (cond b (Some (unended m)) None) q (Some more) ≡ cond b (Ok (unended m, ahead (q.number + 1) more)) (Err (fault q.number kinds.MisplacedBackslash))
    by true = refl
    by false = refl

line-same : (side : Side) (left number : ℕ) (lines : List (List ℕ)) → (one_line (λ n l. marked_at n side l) number lines >>= λ x. ended left x.0 x.1) ≡ first_line side left number lines
unfolding first_line
line-same side left number [] = refl
line-same side left number (line ∷ rest) = assoc (marked_at number side line) (ahead (number + 1) rest) (ended left) ∙ by (marked_at number side line)
  where
    by : (r : Result Marked Fault) → (r >>= λ m. ended left m (ahead (number + 1) rest)) ≡ (r >>= λ m. ended_by m left (ahead (number + 1) rest) (after_backslash rest))
    by (Ok m) = ended-same left m (ahead (number + 1) rest) (after_backslash rest)
    by (Err d) = refl

pub steady-marked : (side : Side) (left : ℕ) → Steady (line_at side left)
steady-marked side left = steady-same (λ p. one_line (λ n l. marked_at n side l) p.number p.rest >>= λ x. ended left x.0 x.1) (line_at side left) (λ p. line-same side left p.number p.rest)
    (steady-then (λ p. one_line (λ n l. marked_at n side l) p.number p.rest) (ended left) (steady-line (λ n l. marked_at n side l) (marked-here side)) (λ m. steady-peek m (cond (eqb left 0) (Some (unended m)) None)))

pub steady-stretch : (side : Side) (left : ℕ) (before : List Marked) → Steady (stretch_at side left before)
unfolding stretch_at
steady-stretch side zero before = steady-value before
steady-stretch side (suc left) before = steady-then (line_at side left) (λ m. stretch_at side left (before ++ m ∷ [])) (steady-marked side left) (λ m. steady-stretch side left (before ++ m ∷ []))

-- ---- the line between

abbrev nothing : Unit {0}
nothing = tt

abbrev divided : Bool → ℕ → List ℕ → Result (Unit {0}) Fault
divided b number line = cond b (Ok nothing) (Err (fault number (unmarked line)))

abbrev dividing : ℕ → List ℕ → Result (Unit {0}) Fault
dividing number line = divided (is_divider line) number line

dividing-here : FailsHere dividing
dividing-here number line e h = by (is_divider line) h
  where
    by : (b : Bool) → divided b number line ≡ failed {A = Unit {0}} e → (e.line ≡ number) × (e.kind ≢ kinds.ShortEnd)
    by true h = absurd cc
    by false h = here-is number (unmarked line) e (unmarked-kind line) (err_is {A = Unit {0}} _ e h)

abbrev divides_to : Bool → ℕ → List ℕ → List (List ℕ) → Result (Unit {0} × Ahead) Fault
divides_to b number line rest = cond b (Ok (nothing, ahead (number + 1) rest)) (Err (fault number (unmarked line)))

divided-by : (b : Bool) (number : ℕ) (line : List ℕ) (rest : List (List ℕ)) → (divided b number line >>= with_rest (ahead (number + 1) rest)) ≡ divides_to b number line rest
divided-by true number line rest = refl
divided-by false number line rest = refl

divider-same : (number : ℕ) (lines : List (List ℕ)) → one_line dividing number lines ≡ first_divider number lines
unfolding first_divider
divider-same number [] = refl
divider-same number (line ∷ rest) = divided-by (is_divider line) number line rest

pub steady-divider : (action : Action) → Steady (divider_at action)
steady-divider Add = steady-value tt
steady-divider Change = steady-same (λ p. one_line dividing p.number p.rest) (divider_at Change) (λ p. divider-same p.number p.rest) (steady-line dividing dividing-here)
steady-divider Delete = steady-value tt

-- ---- a hunk

pub steady-body : (c : Command) → Steady (body_at c)
unfolding body_at
steady-body c = steady-then (stretch_at Forward c.old_count []) (λ old q. divider_at c.action q >>= λ middle. stretch_at Reversed c.new_count old middle.1) (steady-stretch Forward c.old_count [])
    (λ old. steady-then (divider_at c.action) (λ none. stretch_at Reversed c.new_count old) (steady-divider c.action) (λ none. steady-stretch Reversed c.new_count old))

opening-kind : (least : ℕ) (line : List ℕ) (kind : BadKind) → opening least line ≡ Err kind → kind ≢ kinds.ShortEnd
opening-kind least line kind h = by (parts_at line) h
  where
    is : (k : BadKind) → (x : Result Command BadKind) → x ≡ Err k → k ≢ kinds.ShortEnd → x ≡ Err kind → kind ≢ kinds.ShortEnd
    is k x e ne f = subst (λ z. z ≢ kinds.ShortEnd) (let same : k ≡ kind = cc in same) ne

    order : (c : Command) (b : Bool) → cond b (Err kinds.HunkOrder) (Ok c) ≡ Err kind → kind ≢ kinds.ShortEnd
    order c true h = is kinds.HunkOrder (Err kinds.HunkOrder) refl (λ z. cc) h
    order c false h = absurd cc

    large : (c : Command) (b : Bool) → cond b (Err kinds.NumberTooLarge) (cond (ltb c.old_start least) (Err kinds.HunkOrder) (Ok c)) ≡ Err kind → kind ≢ kinds.ShortEnd
    large c true h = is kinds.NumberTooLarge (Err kinds.NumberTooLarge) refl (λ z. cc) h
    large c false h = order c (ltb c.old_start least) h

    bad : (p : Parts) (b : Bool) → cond b (Err kinds.Range) (placed least (command p)) ≡ Err kind → kind ≢ kinds.ShortEnd
    bad p true h = is kinds.Range (Err kinds.Range) refl (λ z. cc) h
    bad p false h = large (command p) (is_too_large (command p).old_start (command p).old_count || is_too_large (command p).new_start (command p).new_count) h

    by : (o : Option Parts) → from_parts least o ≡ Err kind → kind ≢ kinds.ShortEnd
    by None h = is kinds.Range (Err kinds.Range) refl (λ z. cc) h
    by (Some p) h = bad p (is_bad_range p.old (takes_lines p.action Forward) || is_bad_range p.new (takes_lines p.action Reversed)) h

pub opening-here : (least : ℕ) → FailsHere (λ number line. at_line number (opening least line))
opening-here least number line e h = by (opening least line) refl h
  where
    by : (o : Result Command BadKind) → opening least line ≡ o → at_line number o ≡ Err e → (e.line ≡ number) × (e.kind ≢ kinds.ShortEnd)
    by (Ok c) is h = absurd cc
    by (Err kind) is h = here-is number kind e (opening-kind least line kind is) (err_is {A = Command} _ e h)

abbrev settles : Command → List Marked → Ahead → Result (PlainHunk × Ahead) Fault
settles c body q = settled (change c body) q

settled-same : (h : PlainHunk) (q : Ahead) (o : Option (List (List ℕ))) → peek_by h None q o ≡ cond (is_some o) (Err (fault q.number kinds.MisplacedBackslash)) (Ok (h, q))
settled-same h q None = refl
settled-same h q (Some more) = refl

steady-settled : (h : PlainHunk) → Steady (settled h)
steady-settled h = steady-same (λ q. peek_by h None q (after_backslash q.rest)) (settled h) (λ q. settled-same h q (after_backslash q.rest)) (steady-peek h None)

abbrev pub with_body : Command → Ahead → Result (PlainHunk × Ahead) Fault
with_body c q = body_at c q >>= λ body. settled (change c body.0) body.1

hunk-same : (least number : ℕ) (lines : List (List ℕ)) → (one_line (λ n l. at_line n (opening least l)) number lines >>= λ x. with_body x.0 x.1) ≡ first_hunk least number lines
unfolding first_hunk
hunk-same least number [] = refl
hunk-same least number (line ∷ rest) = assoc (at_line number (opening least line)) (ahead (number + 1) rest) with_body

pub steady-hunk : (least : ℕ) → Steady (hunk_at least)
steady-hunk least = steady-same (λ p. one_line (λ n l. at_line n (opening least l)) p.number p.rest >>= λ x. with_body x.0 x.1) (hunk_at least) (λ p. hunk-same least p.number p.rest)
    (steady-then (λ p. one_line (λ n l. at_line n (opening least l)) p.number p.rest) with_body (steady-line (λ n l. at_line n (opening least l)) (opening-here least))
    (λ c. steady-then (body_at c) (λ body. settled (change c body)) (steady-body c) (λ body. steady-settled (change c body))))

-- ---- hunks that follow each other

marked_too : (last number : ℕ) (rest others : List (List ℕ)) → AgreeTo last number rest others → number ≤ last → begins_marked rest ≡ true → begins_marked others ≡ true
marked_too last number [] others agree le e = absurd cc
marked_too last number (line ∷ rest) others agree le e = let a = agree_head last number line rest others agree le in rw a.1 e

begins_again : (line : List ℕ) (rest : List (List ℕ)) → is_command line ≡ true → begins_marked rest ≡ true → begins_hunk (line ∷ rest) ≡ true
begins_again line rest c m = rw (c, m) refl

begins_too : (last number : ℕ) (rest others : List (List ℕ)) → AgreeTo (last + 1) number rest others → number ≤ last → begins_hunk rest ≡ true → begins_hunk others ≡ true
begins_too last number [] others agree le e = absurd cc
begins_too last number (line ∷ rest) others agree le e =
    let a = agree_head (last + 1) number line rest others agree (omega (arith, le)) in
    let b = and_parts (is_command line) (begins_marked rest) e in
    ap begins_hunk a.1 ∙ begins_again line a.0 b.0 (marked_too (last + 1) (number + 1) rest a.0 a.2 (omega (arith, le)) b.1)

steady : IsSteady begins_hunk hunk_at SpellsIn (λ n. n + 1)
steady = record { far = λ n. omega arith; opens = begins_too; one = steady-hunk }

pub hunks_low : (most least : ℕ) (p : Ahead) (e : Fault) → hunks_at most least p ≡ Err e → (p.number ≤ e.line) × (e.kind ≡ kinds.ShortEnd → e.line ≡ p.number + length p.rest)
hunks_low = low_of begins_hunk hunk_at SpellsIn (λ n. n + 1) grammar steady

-- the lines in front of a fault, with others, are hunks
pub hunks_fill : ((least : ℕ) (p : Ahead) (e : Fault) → hunk_at least p ≡ Err e → FillsHunks SpellsIn least p e) → (most least : ℕ) (p : Ahead) (e : Fault) → hunks_at most least p ≡ Err e → FillsHunks SpellsIn least p e
hunks_fill = fill_of begins_hunk hunk_at SpellsIn (λ n. n + 1) grammar steady (λ least own behind others h s. s)

-- ---- the first fault

pub fault-stays : (number : ℕ) (lines others : List (List ℕ)) (e : Fault) → reading number lines ≡ Err e → e.kind ≢ kinds.ShortEnd → AgreeTo (e.line + 1) number lines others → reading number others ≡ Err e
fault-stays = stays begins_hunk hunk_at SpellsIn (λ n. n + 1) grammar steady

pub fault-short : (number : ℕ) (lines : List (List ℕ)) (e : Fault) → reading number lines ≡ Err e → e.kind ≡ kinds.ShortEnd → e.line ≡ number + length lines
fault-short = short begins_hunk hunk_at SpellsIn (λ n. n + 1) grammar steady

pub fault-unspelled : (number : ℕ) (lines others : List (List ℕ)) (e : Fault) (hs : List PlainHunk) (next : ℕ) (rest : List (List ℕ)) → reading number lines ≡ Err e → e.kind ≢ kinds.ShortEnd → AgreeTo (e.line + 1) number lines others → IsPiece number others hs next rest → ⊥
fault-unspelled number lines others e hs next rest h long agree piece = unread begins_hunk hunk_at SpellsIn (λ n. n + 1) grammar steady number lines others e (hs, ahead next rest) h long agree (reading_again number others hs next rest piece)

pub fault-late : (number : ℕ) (front behind others : List (List ℕ)) (e : Fault) (hs : List PlainHunk) (next : ℕ) (rest : List (List ℕ)) → IsPiece number (front ++ others) hs next rest → reading number (front ++ behind) ≡ Err e → number + length front ≤ e.line + 1
fault-late number front behind others e hs next rest piece h = late begins_hunk hunk_at SpellsIn (λ n. n + 1) grammar steady number front behind others e (hs, ahead next rest) (reading_again number (front ++ others) hs next rest piece) h

-- ---- lines that hunks are whole with

nothing_begins : (most least : ℕ) (p : Ahead) (x : List PlainHunk × Ahead) → begins_hunk p.rest ≡ false → hunks_at most least p ≡ Ok x → x.1.rest ≡ p.rest
nothing_begins most least p x none h = ap (λ (y : List PlainHunk × Ahead). y.1.rest) (ok_is x ([], p) (sym h ∙ no_hunks begins_hunk hunk_at most least p none))

some_agree : (last number : ℕ) (lines : List (List ℕ)) → 0 < length lines → number ≤ last → AgreeTo last number lines [] → ⊥
some_agree last number [] some le agree = omega (arith, some)
some_agree last number (line ∷ lines) some le agree = omega (arith, le, agree)

-- over lines that are the same up to the fault, reading doesn't come to an end of all lines
hunks_stop : (most most2 least : ℕ) (p : Ahead) (others : List (List ℕ)) (e : Fault) (x : List PlainHunk × Ahead) → hunks_at most least p ≡ Err e → e.kind ≢ kinds.ShortEnd → AgreeTo e.line p.number p.rest others → length others ≤ most2 → hunks_at most2 least (ahead p.number others) ≡ Ok x → x.1.rest ≡ [] → ⊥
unfolding hunks_by
hunks_stop zero most2 least p others e x h long agree enough read none = absurd cc
hunks_stop (suc most) most2 least p others e x h long agree enough read none =
    let low = hunks_low (suc most) least p e h in
    elim (chosen (begins_hunk p.rest) _ _ (Err e) h) [
      | inl some ↦ elim (chosen (begins_hunk others) true false _ refl) [
        | inl begins ↦ (
            let k : most2 ≡ suc (most2 - 1) = omega (arith, enough, some-lines begins_hunk hunk_at SpellsIn grammar others begins.0) in
            let on : (hunk_at least (ahead p.number others) >>= more_hunks begins_hunk hunk_at (most2 - 1)) ≡ Ok x = sym (hunks_step begins_hunk hunk_at (most2 - 1) least (ahead p.number others) begins.0) ∙ subst (λ n. hunks_at n least (ahead p.number others) ≡ Ok x) k read in
            elim (bind_err (hunk_at least p) (more_hunks begins_hunk hunk_at most) e some.1) [
              | inl bad ↦ (let same : hunk_at least (ahead p.number others) ≡ Err e = (steady-hunk least).stays p others e bad long agree in let a = bind_ok (hunk_at least (ahead p.number others)) (more_hunks begins_hunk hunk_at (most2 - 1)) x on in cc)
              | inr good ↦ (
                  let y = good.0 in
                  let rest : hunks_at most y.0.old_start y.1 ≡ Err e = add_err y.0 (hunks_at most y.0.old_start y.1) e good.2 in
                  let there = hunks_low most y.0.old_start y.1 e rest in
                  let go = (steady-hunk least).goes e.line p others y good.1 there.0 agree in
                  let fewer : length go.rest ≤ most2 - 1 = omega (arith, enough, hunk-shrinks begins_hunk hunk_at SpellsIn grammar least (ahead p.number others) (y.0, ahead y.1.number go.rest) begins.0 go.read) in
                  let a = bind_ok (hunk_at least (ahead p.number others)) (more_hunks begins_hunk hunk_at (most2 - 1)) x on in
                  let first : a.0 ≡ (y.0, ahead y.1.number go.rest) = ok_is _ _ (sym a.1 ∙ go.read) in
                  let second : more_hunks begins_hunk hunk_at (most2 - 1) (y.0, ahead y.1.number go.rest) ≡ Ok x = subst (λ z. more_hunks begins_hunk hunk_at (most2 - 1) z ≡ Ok x) first a.2 in
                  let b = bind_ok (hunks_at (most2 - 1) y.0.old_start (ahead y.1.number go.rest)) (put_first y.0) x second in
                  let end : b.0.1.rest ≡ [] = ap (λ (z : List PlainHunk × Ahead). z.1.rest) (ok_is _ _ b.2) ∙ none in
                  hunks_stop most (most2 - 1) y.0.old_start y.1 go.rest e b.0 rest long go.agree fewer b.1 end)
            ])
        | inr quiet ↦ (
            let left : others ≡ [] = sym (nothing_begins most2 least (ahead p.number others) x quiet.0 read) ∙ none in
            some_agree e.line p.number p.rest (some-lines begins_hunk hunk_at SpellsIn grammar p.rest some.0) low.0 (subst (AgreeTo e.line p.number p.rest) left agree))
      ]
      | inr other ↦ absurd (let bad : Ok ([], p) ≡ failed {A = List PlainHunk × Ahead} e = other.1 in cc)
    ]

pub fault-not_sooner : (number : ℕ) (front behind : List (List ℕ)) (e : Fault) → CanGoOn number front → reading number (front ++ behind) ≡ Err e → number + length front ≤ e.line
fault-not_sooner number front behind e g h =
    elim (cases_lt e.line (number + length front)) [
      | inl early ↦ elim (short_or e.kind) [
        | inl short ↦ omega (arith, fault-short number (front ++ behind) e h short, length-append front behind)
        | inr long ↦ absurd (hunks_stop (length (front ++ behind)) (length (front ++ g.others)) 0 (ahead number (front ++ behind)) (front ++ g.others) e (g.hs, ahead g.next []) h long (agree_front e.line number front behind g.others early) (omega arith) (reading_again number (front ++ g.others) g.hs g.next [] g.whole) refl)
      ]
      | inr late ↦ late
    ]
