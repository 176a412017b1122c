-- The line that a fault in the lines of a part names.
use Rattle.std.proofs.Common.{◌≡◌, ◌≢◌, ◌⊎◌, inl, inr, ℕ, zero, suc, ◌+◌, Bool, true, false, cond, eqb, List, [], ◌∷◌, ◌++◌, Option, None, Some, Result, Ok, Err, refl, sym, ap, subst, ◌∙◌, arith}
use Rattle.std.specs.List.{AllByRecursion}
use Rattle.hunk_core.specs.declared.Mark.{Mark}
use Rattle.hunk_core.specs.declared.Mark.TheVariants as its
use Rattle.hunk_core.specs.declared.Side.{Side}
use Rattle.hunk_core.specs.declared.Side.TheVariants.{Forward, Reversed}
use Rattle.hunk_core.specs.declared.BadKind.{BadKind}
use Rattle.hunk_core.specs.declared.BadKind.TheVariants as kinds
use Rattle.hunk_core.specs.Sides.{is_on_side}
use Rattle.hunk_core.specs.PlainHunk.{Marked}
use Rattle.hunk_core.specs.LineTests.{after, is_backslash, after_backslash}
use Rattle.hunk_core.specs.Reading.{◌>>=◌, Fault, fault, Ahead, ahead}
use Rattle.line_list.proofs.Choices.{chosen}
use Rattle.hunk_core.proofs.TextLemmas.{backslash-words}
use Rattle.context_form.specs.Parts.{Shown, PlainBody, shown_at, must_be_marked, marked_at, room_at, cut, ended_by, first_line, line_at, is_done, with_line, body_at}
use Rattle.context_form.specs.Grammar.{mark_byte, IsEmptyLine, SpellsLine}
use Rattle.context_form.proofs.PartLemmas.{byte-again, empty-again, shows-marks, TakesLine, line_takes}
use Rattle.hunk_core.specs.Refusals.{unmarked}
use Rattle.hunk_core.proofs.FaultSteps.{failed, err_is, bind_err}
use Rattle.hunk_core.proofs.Agreeing.{after_backslash-some}
use Rattle.law_faults.specs.NamedLines.{NamesLine}
use Rattle.law_faults.specs.ContextFaults.{HasNoMark, has_dashes}
use Rattle.law_faults.proofs.Naming.{ends_short, named-here, named-past}

-- ---- lines without '--- '

abbrev pub AreClear : List (List ℕ) → Type 0
AreClear lines = AllByRecursion (λ line. has_dashes line ≡ false) lines

-- the lines of an old part that were read are so
abbrev pub Clear : Side → List (List ℕ) → Type 0
Clear Forward part = AreClear part
Clear Reversed part = Unit {0}

both_clear : (xs ys : List (List ℕ)) → AreClear xs → AreClear ys → AreClear (xs ++ ys)
both_clear [] ys h k = k
both_clear (x ∷ xs) ys h k = (h.0, both_clear xs ys h.1 k)

and_clear : (side : Side) (xs ys : List (List ℕ)) → Clear side xs → Clear side ys → Clear side (xs ++ ys)
and_clear Forward xs ys h k = both_clear xs ys h k
and_clear Reversed xs ys h k = tt

none_clear : (side : Side) → Clear side []
none_clear Forward = tt
none_clear Reversed = tt

loud_clear : (line : List ℕ) → is_backslash line ≡ true → has_dashes line ≡ false
unfolding after
loud_clear line e = let w = (backslash-words line).0 e in rw w.1 refl

line_clear : (own : List (List ℕ)) (m : Marked) → SpellsLine own m [] → AreClear own
line_clear [] m s = absurd s
line_clear (line ∷ []) m s = ((shows-marks line m s).dashes, tt)
line_clear (line ∷ mark ∷ []) m s = ((shows-marks line s.2 s.3).dashes, (loud_clear mark s.0, tt))
line_clear (line ∷ mark ∷ other ∷ more) m s = absurd s

own_clear : (side : Side) (left : ℕ) (p : Ahead) (x : Shown × Ahead) (t : TakesLine side left p x) → Clear side t.own
own_clear Forward left p x t = line_clear t.own x.0.0 (t.spelled [] (omega (arith, t.left_one)))
own_clear Reversed left p x t = tt

-- ---- a line of a part

-- a line too many, a backslash line, or a line without a mark of this part behind such as have theirs
abbrev pub InPart : Side → BadKind → List (List ℕ) → List ℕ → List (List ℕ) → Type 0
InPart side kind part line behind = (kind ≡ kinds.Count) ⊎ (((kind ≡ kinds.MisplacedBackslash) × (is_backslash line ≡ true)) ⊎ ((kind ≡ kinds.Mark) × HasNoMark side line × Clear side part))

unmarked_breaks : (side : Side) (line : List ℕ) (b : Bool) → shown_at side line ≡ None → is_backslash line ≡ b → InPart side (cond b kinds.MisplacedBackslash kinds.Mark) [] line []
unmarked_breaks side line true none is = inr (inl (refl, is))
unmarked_breaks side line false none is = inr (inr (refl, (no_mark, not_empty, is), none_clear side))
  where
    no_mark : (changed : Bool) (mark : Mark) (bytes : List ℕ) → is_on_side side mark ≡ true → line ≢ mark_byte changed mark ∷ bytes
    no_mark changed mark bytes on = λ same. let some = ap (shown_at side) same ∙ byte-again side changed mark bytes on in absurd cc

    not_empty : IsEmptyLine line → ⊥
    not_empty h = let some = empty-again side line h in absurd cc

marked_breaks : (number : ℕ) (side : Side) (line : List ℕ) (e : Fault) → marked_at number side line ≡ Err e → (e.line ≡ number) × InPart side e.kind [] line []
marked_breaks number side line e h = by (shown_at side line) refl h
  where
    by : (o : Option Shown) → shown_at side line ≡ o → must_be_marked number line o ≡ Err e → (e.line ≡ number) × InPart side e.kind [] line []
    by (Some m) is h = absurd cc
    by None is h =
        let same : fault number (unmarked line) ≡ e = err_is {A = Shown} _ e h in
        (sym (ap (λ (x : Fault). x.line) same), subst (λ (x : Fault). InPart side x.kind [] line []) same (unmarked_breaks side line (is_backslash line) is refl))

room_breaks : (number left : ℕ) (side : Side) (line : List ℕ) (m : Shown) (e : Fault) → room_at number left m ≡ Err e → (e.line ≡ number) × InPart side e.kind [] line []
room_breaks number left side line m e h = by (eqb left 0) h
  where
    by : (b : Bool) → cond {A = Result Shown Fault} b (Err (fault number kinds.Count)) (Ok m) ≡ Err e → (e.line ≡ number) × InPart side e.kind [] line []
    by false h = absurd cc
    by true h = let same : fault number kinds.Count ≡ e = err_is {A = Shown} _ e h in (sym (ap (λ (x : Fault). x.line) same), inl (sym (ap (λ (x : Fault). x.kind) same)))

ended_at : (m : Shown) (left : ℕ) (q : Ahead) (e : Fault) → ended_by m left q (after_backslash q.rest) ≡ Err e → (fault q.number kinds.MisplacedBackslash ≡ e) × (more : List (List ℕ)) × (after_backslash q.rest ≡ Some more)
ended_at m left q e h = by (after_backslash q.rest) refl h
  where
    late : (more : List (List ℕ)) (b : Bool) → cond {A = Result (Shown × Ahead) Fault} b (Ok (cut m, ahead (q.number + 1) more)) (Err (fault q.number kinds.MisplacedBackslash)) ≡ Err e → fault q.number kinds.MisplacedBackslash ≡ e
    late more true h = absurd cc
    late more false h = err_is {A = Shown × Ahead} _ e h

    by : (o : Option (List (List ℕ))) → after_backslash q.rest ≡ o → ended_by m left q o ≡ Err e → (fault q.number kinds.MisplacedBackslash ≡ e) × (more : List (List ℕ)) × (after_backslash q.rest ≡ Some more)
    by None is h = absurd (let bad : Ok (m, q) ≡ failed {A = Shown × Ahead} e = h in cc)
    by (Some more) is h = (late more (eqb left 1) h, more, is)

line_breaks : (side : Side) (left number : ℕ) (lines : List (List ℕ)) (e : Fault) → first_line side left number lines ≡ Err e → e.kind ≢ kinds.ShortEnd → NamesLine (InPart side e.kind) number lines e.line
unfolding first_line
line_breaks side left number [] e h long = ends_short {A = Shown × Ahead} number e h long
line_breaks side left number (line ∷ rest) e h long =
    elim (bind_err (marked_at number side line) (λ m. room_at number left m >>= λ one. ended_by one left (ahead (number + 1) rest) (after_backslash rest)) e h) [
      | inl bad ↦ (let b = marked_breaks number side line e bad in named-here (InPart side e.kind) number line rest e.line b.0 b.1)
      | inr good ↦ elim (bind_err (room_at number left good.0) (λ one. ended_by one left (ahead (number + 1) rest) (after_backslash rest)) e good.2) [
        | inl bad ↦ (let b = room_breaks number left side line good.0 e bad in named-here (InPart side e.kind) number line rest e.line b.0 b.1)
        | inr room ↦ (
            let l = ended_at room.0 left (ahead (number + 1) rest) e room.2 in
            let b = after_backslash-some rest l.1 l.2 in
            record {
              front = line ∷ [];
              line = b.0;
              behind = l.1;
              parts = ap (λ (ls : List (List ℕ)). line ∷ ls) b.1;
              counted = sym (ap (λ (x : Fault). x.line) l.0);
              holds = inr (inl (sym (ap (λ (x : Fault). x.kind) l.0), b.2));
            })
      ]
    ]

-- ---- the lines of a part

past_line : (side : Side) (kind : BadKind) (own part : List (List ℕ)) (line : List ℕ) (behind : List (List ℕ)) → Clear side own → InPart side kind part line behind → InPart side kind (own ++ part) line behind
past_line side kind own part line behind clear (inl count) = inl count
past_line side kind own part line behind clear (inr (inl loud)) = inr (inl loud)
past_line side kind own part line behind clear (inr (inr lacks)) = inr (inr (lacks.0, lacks.1, and_clear side own part clear lacks.2))

pub body_breaks : (side : Side) (left : ℕ) (before : PlainBody) (p : Ahead) (e : Fault) → body_at side left before p ≡ Err e → e.kind ≢ kinds.ShortEnd → NamesLine (InPart side e.kind) p.number p.rest e.line
unfolding body_at
body_breaks side zero before p e h long =
    elim (chosen (is_done side 0 p.rest) _ _ (Err e) h) [
      | inl done ↦ absurd (let bad : Ok (before, p) ≡ failed {A = PlainBody × Ahead} e = done.1 in cc)
      | inr on ↦ elim (bind_err (line_at side 0 p) (λ x. Ok (with_line before x.0, x.1)) e on.1) [
        | inl bad ↦ line_breaks side 0 p.number p.rest e bad long
        | inr good ↦ absurd (let bad : Ok (with_line before good.0.0, good.0.1) ≡ failed {A = PlainBody × Ahead} e = good.2 in cc)
      ]
    ]
body_breaks side (suc left) before p e h long =
    elim (chosen (is_done side (suc left) p.rest) _ _ (Err e) h) [
      | inl done ↦ absurd (let bad : Ok (before, p) ≡ failed {A = PlainBody × Ahead} e = done.1 in cc)
      | inr on ↦ elim (bind_err (line_at side (suc left) p) (λ x. body_at side left (with_line before x.0) x.1) e on.1) [
        | inl bad ↦ line_breaks side (suc left) p.number p.rest e bad long
        | inr good ↦ (
            let x = good.0 in
            let t = line_takes side (suc left) p.number p.rest x on.0 good.1 in
            named-past (InPart side e.kind) (InPart side e.kind) t.own p.number x.1.number p.rest x.1.rest e.line t.parts t.number (λ part line behind same holds. past_line side e.kind t.own part line behind (own_clear side (suc left) p x t) holds) (body_breaks side left (with_line before x.0) x.1 e good.2 long))
      ]
    ]
