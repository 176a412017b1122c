-- The line that a fault of unified hunks names.
use Rattle.std.proofs.Common.{◌≡◌, ◌≢◌, inl, inr, ℕ, zero, suc, ◌+◌, Bool, true, false, cond, eqb, ◌||◌, List, [], ◌∷◌, ◌++◌, length, Option, None, Some, Result, Ok, Err, refl, sym, ap, subst, ◌∙◌, append_assoc, arith}
use Rattle.hunk_core.specs.declared.Mark.{Mark}
use Rattle.hunk_core.specs.declared.Mark.TheVariants.{Keep, Drop, Add}
use Rattle.hunk_core.specs.declared.BadKind.{BadKind}
use Rattle.hunk_core.specs.declared.BadKind.TheVariants as kinds
use Rattle.hunk_core.specs.PlainHunk.{Marked, PlainHunk}
use Rattle.hunk_core.specs.LineTests.{is_backslash, after_backslash}
use Rattle.hunk_core.specs.Following.{hunks_by}
use Rattle.hunk_core.proofs.Following.{more_hunks}
use Rattle.hunk_core.specs.Reading.{Fault, fault, Ahead, ahead}
use Rattle.line_list.proofs.Choices.{chosen}
use Rattle.hunk_core.proofs.TextLemmas.{has_some}
use Rattle.unified_form.specs.declared.body.Left.{Left}
use Rattle.unified_form.specs.declared.range.Ranges.{Ranges}
use Rattle.unified_form.specs.Ranges.{opening}
use Rattle.unified_form.specs.Bodies.{marked_at, mark_at, must_be_marked, room_at, ended_by, first_line, line_at, body_at}
use Rattle.unified_form.specs.Hunks.{at_line, left_of, change, first_hunk, hunk_at, begins_hunk, hunks_at, reading}
use Rattle.unified_form.specs.Grammar.{Shows}
use Rattle.unified_form.proofs.Bodies.{shows-mark_at, mark_at-shows, marked-ok, line_takes, body_takes}
use Rattle.unified_form.proofs.BodyFaults.{ended_low, rest_of_line, one_more_line}
use Rattle.unified_form.proofs.FirstFault.{settled_err, with_body}
use Rattle.unified_form.proofs.Pieces.{hunk_takes}
use Rattle.hunk_core.specs.Refusals.{settled}
use Rattle.hunk_core.proofs.FaultSteps.{failed, err_is, bind_err, guard_err}
use Rattle.hunk_core.proofs.Agreeing.{after_backslash-some}
use Rattle.law_faults.specs.NamedLines.{NamesLine}
use Rattle.law_faults.specs.UnifiedFaults.{Breaks, IsAtFault}
use Rattle.law_faults.proofs.Naming.{add_err, ends_short, named-here, named-past}
use Rattle.law_faults.proofs.UnifiedRanges.{opening_breaks}

-- ---- a line of a body

-- what is wrong with a line of a body tells nothing of the lines in front of it
abbrev InBody : BadKind → List (List ℕ) → List ℕ → List (List ℕ) → Type 0
InBody kind front line behind = (least : ℕ) (part : List (List ℕ)) → Breaks least kind part line

abbrev InHunk : ℕ → BadKind → List (List ℕ) → List ℕ → List (List ℕ) → Type 0
InHunk least kind part line behind = Breaks least kind part line

unmarked_breaks : (line : List ℕ) (b : Bool) → mark_at line ≡ None → is_backslash line ≡ b → InBody (cond b kinds.MisplacedBackslash kinds.Mark) [] line []
unmarked_breaks line true none is = λ least part. is
unmarked_breaks line false none is = λ least part. (λ m shown. (let some = shows-mark_at line m shown in absurd cc), is)

marked_breaks : (number : ℕ) (line : List ℕ) (e : Fault) → marked_at number line ≡ Err e → (e.line ≡ number) × InBody e.kind [] line []
marked_breaks number line e h = by (mark_at line) refl h
  where
    by : (o : Option Marked) → mark_at line ≡ o → must_be_marked number line o ≡ Err e → (e.line ≡ number) × InBody e.kind [] line []
    by None is h =
        let same : fault number (cond (is_backslash line) kinds.MisplacedBackslash kinds.Mark) ≡ e = err_is {A = Marked} _ e h in
        (sym (ap (λ (x : Fault). x.line) same), subst (λ (x : Fault). InBody x.kind [] line []) same (unmarked_breaks line (is_backslash line) is refl))
    by (Some m) is h = absurd cc

count_breaks : (number : ℕ) (line : List ℕ) (m : Marked) (e : Fault) → Shows line m → fault number kinds.Count ≡ e → (e.line ≡ number) × InBody e.kind [] line []
count_breaks number line m e shown same = (sym (ap (λ (x : Fault). x.line) same), subst (λ (x : Fault). InBody x.kind [] line []) same (λ least part. inr (m, shown)))

room_breaks : (number : ℕ) (line : List ℕ) (m : Marked) (mark : Mark) (left : Left) (e : Fault) → Shows line m → room_at number mark left ≡ Err e → (e.line ≡ number) × InBody e.kind [] line []
room_breaks number line m Keep left e shown h = count_breaks number line m e shown (guard_err (eqb left.old 0 || eqb left.new 0) (fault number kinds.Count) e _ h)
room_breaks number line m Drop left e shown h = count_breaks number line m e shown (guard_err (eqb left.old 0) (fault number kinds.Count) e _ h)
room_breaks number line m Add left e shown h = count_breaks number line m e shown (guard_err (eqb left.new 0) (fault number kinds.Count) e _ h)

-- a backslash line behind others
loud_breaks : (own lines rest more : List (List ℕ)) (number next : ℕ) (e : Fault) → lines ≡ own ++ rest → next ≡ number + length own → after_backslash rest ≡ Some more → fault next kinds.MisplacedBackslash ≡ e → NamesLine (InBody e.kind) number lines e.line
loud_breaks own lines rest more number next e parts count loud same =
    let b = after_backslash-some rest more loud in
    subst (λ (x : Fault). NamesLine (InBody x.kind) number lines x.line) same (record {
      front = own;
      line = b.0;
      behind = more;
      parts = parts ∙ ap (λ (ls : List (List ℕ)). own ++ ls) b.1;
      counted = count;
      holds = λ least part. b.2;
    })

line_breaks : (left : Left) (number : ℕ) (lines : List (List ℕ)) (e : Fault) → first_line left number lines ≡ Err e → e.kind ≢ kinds.ShortEnd → NamesLine (InBody e.kind) number lines e.line
unfolding first_line
line_breaks left number [] e h long = ends_short {A = Marked × Left × Ahead} number e h long
line_breaks left number (line ∷ rest) e h long =
    elim (bind_err (marked_at number line) (rest_of_line left number rest) e h) [
      | inl bad ↦ (let b = marked_breaks number line e bad in named-here (InBody e.kind) number line rest e.line b.0 b.1)
      | inr good ↦ (
          let shown = mark_at-shows line good.0 (marked-ok number line (mark_at line) good.0 good.1) in
          elim (bind_err (room_at number good.0.mark left) (λ room. ended_by number good.0 room rest (after_backslash rest)) e good.2) [
            | inl bad ↦ (let b = room_breaks number line good.0 good.0.mark left e shown bad in named-here (InBody e.kind) number line rest e.line b.0 b.1)
            | inr room ↦ (let l = ended_low number good.0 room.0 rest (after_backslash rest) e room.2 in loud_breaks (line ∷ []) (line ∷ rest) rest l.2 number (number + 1) e refl refl l.3 (sym l.0))
          ])
    ]

-- ---- a body

body_breaks : (most : ℕ) (left : Left) (p : Ahead) (e : Fault) → body_at most left p ≡ Err e → e.kind ≢ kinds.ShortEnd → NamesLine (InBody e.kind) p.number p.rest e.line
unfolding body_at
body_breaks zero left p e h long = absurd cc
body_breaks (suc most) left p e h long =
    elim (chosen (eqb (left.old + left.new) 0) _ _ (Err e) h) [
      | inl none ↦ absurd (let bad : Ok ([], p) ≡ failed {A = List Marked × Ahead} e = none.1 in cc)
      | inr some ↦ elim (bind_err (line_at left p) (one_more_line most) e some.1) [
        | inl bad ↦ line_breaks left p.number p.rest e bad long
        | inr good ↦ (
            let x = good.0 in
            let t = line_takes left p.number p.rest x good.1 in
            named-past (InBody e.kind) (InBody e.kind) t.own p.number x.2.number p.rest x.2.rest e.line t.parts t.number (λ front line behind same holds. holds) (body_breaks most x.1 x.2 e (add_err x.0 (body_at most x.1 x.2) e good.2) long))
      ]
    ]

-- ---- a hunk

range_breaks : (least number : ℕ) (line : List ℕ) (e : Fault) → at_line number (opening least line) ≡ Err e → (e.line ≡ number) × Breaks least e.kind [] line
range_breaks least number line e h = by (opening least line) refl h
  where
    by : (o : Result Ranges BadKind) → opening least line ≡ o → at_line number o ≡ Err e → (e.line ≡ number) × Breaks least e.kind [] line
    by (Ok r) is h = absurd cc
    by (Err kind) is h =
        let same : fault number kind ≡ e = err_is {A = Ranges} (fault number kind) e h in
        (sym (ap (λ (x : Fault). x.line) same), subst (λ (x : Fault). Breaks least x.kind [] line) same (opening_breaks least line kind is))

hunk_breaks : (least number : ℕ) (lines : List (List ℕ)) (e : Fault) → first_hunk least number lines ≡ Err e → e.kind ≢ kinds.ShortEnd → NamesLine (InHunk least e.kind) number lines e.line
unfolding first_hunk
hunk_breaks least number [] e h long = ends_short {A = PlainHunk × Ahead} number e h long
hunk_breaks least number (line ∷ rest) e h long =
    elim (bind_err (at_line number (opening least line)) (with_body number rest) e h) [
      | inl bad ↦ (let b = range_breaks least number line e bad in named-here (InHunk least e.kind) number line rest e.line b.0 b.1)
      | inr good ↦ (
          let r = good.0 in
          elim (bind_err (body_at (r.old_count + r.new_count) (left_of r) (ahead (number + 1) rest)) (λ body. settled (change r body.0) body.1) e good.2) [
            | inl bad ↦ named-past (InBody e.kind) (InHunk least e.kind) (line ∷ []) number (number + 1) (line ∷ rest) rest e.line refl refl (λ front one behind same holds. holds least (line ∷ front)) (body_breaks _ (left_of r) (ahead (number + 1) rest) e bad long)
            | inr body ↦ (
                let t = body_takes _ (left_of r) (ahead (number + 1) rest) body.0 (omega arith) body.1 in
                let s = settled_err (change r body.0.0) body.0.1 e body.2 in
                let loud = has_some (after_backslash body.0.1.rest) s.1 in
                let n = loud_breaks (line ∷ t.own) (line ∷ rest) body.0.1.rest loud.0 number body.0.1.number e (ap (λ (ls : List (List ℕ)). line ∷ ls) t.parts) (omega (arith, t.number)) loud.1 s.0 in
                record { front = n.front; line = n.line; behind = n.behind; parts = n.parts; counted = n.counted; holds = n.holds least n.front })
          ])
    ]

-- ---- hunks that follow each other

hunks_break : (most least : ℕ) (p : Ahead) (e : Fault) → hunks_at most least p ≡ Err e → e.kind ≢ kinds.ShortEnd → NamesLine (IsAtFault least e.kind) p.number p.rest e.line
unfolding hunks_by
hunks_break zero least p e h long = absurd cc
hunks_break (suc most) least p e h long =
    elim (chosen (begins_hunk p.rest) _ _ (Err e) h) [
      | inl some ↦ elim (bind_err (hunk_at least p) (more_hunks begins_hunk hunk_at most) e some.1) [
        | inl bad ↦ named-past (InHunk least e.kind) (IsAtFault least e.kind) [] p.number p.number p.rest p.rest e.line refl (omega arith) (λ front line behind same holds. ([], [], front, refl, refl, holds)) (hunk_breaks least p.number p.rest e bad long)
        | inr good ↦ (
            let x = good.0 in
            let t = hunk_takes least p.number p.rest x good.1 in
            named-past (IsAtFault x.0.old_start e.kind) (IsAtFault least e.kind) t.own p.number x.1.number p.rest x.1.rest e.line t.parts t.number
            (λ front line behind same a. (x.0 ∷ a.0, t.own ++ a.1, a.2, ap (λ (ls : List (List ℕ)). t.own ++ ls) a.3 ∙ sym (append_assoc t.own a.1 a.2), (t.own, a.1, refl, t.spelled, a.4), a.5))
            (hunks_break most x.0.old_start x.1 e (add_err x.0 (hunks_at most x.0.old_start x.1) e good.2) long))
      ]
      | inr none ↦ absurd (let bad : Ok ([], p) ≡ failed {A = List PlainHunk × Ahead} e = none.1 in cc)
    ]

pub fault-named : (number : ℕ) (lines : List (List ℕ)) (e : Fault) → reading number lines ≡ Err e → e.kind ≢ kinds.ShortEnd → NamesLine (IsAtFault 0 e.kind) number lines e.line
fault-named number lines e h long = hunks_break (length lines) 0 (ahead number lines) e h long
