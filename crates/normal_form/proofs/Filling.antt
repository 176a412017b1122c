-- The lines in front of a fault, filled up to the lines of a hunk.
use Rattle.std.proofs.Common.{◌≡◌, ℕ, zero, suc, ◌+◌, ◌-◌, ◌≤◌, Bool, true, false, cond, eqb, List, [], ◌∷◌, ◌++◌, length, take, Option, None, Some, Result, Ok, Err, refl, sym, ap, subst, ◌∙◌, append_assoc, arith, inl, inr, ◌<◌}
use Rattle.std.specs.List.{AllByRecursion}
use Rattle.line_list.specs.Lines.{IsLine}
use Rattle.line_list.proofs.WholeLines.{lines-both}
use Rattle.hunk_core.specs.declared.BadKind.{BadKind}
use Rattle.hunk_core.specs.declared.BadKind.TheVariants as kinds
use Rattle.hunk_core.specs.declared.Side.{Side}
use Rattle.hunk_core.specs.declared.Side.TheVariants.{Forward, Reversed}
use Rattle.hunk_core.specs.PlainHunk.{Marked}
use Rattle.hunk_core.specs.LineTests.{after, unended, after_backslash}
use Rattle.hunk_core.specs.Reading.{◌>>=◌, Fault, fault, Ahead, ahead}
use Rattle.hunk_core.proofs.ReadSteps.{ok_is}
use Rattle.hunk_core.proofs.TextLemmas.{after-takes}
use Rattle.hunk_core.specs.declared.command.Action.{Action}
use Rattle.hunk_core.specs.declared.command.Action.TheVariants.{Add, Change, Delete}
use Rattle.hunk_core.specs.Refusals.{unmarked}
use Rattle.hunk_core.proofs.FaultSteps.{failed, bind_err, err_is}
use Rattle.hunk_core.proofs.Filling.{IsInside, none_in_front, front_with, first_inside, past_inside, none_inside}
use Rattle.normal_form.specs.declared.command.Command.{Command}
use Rattle.normal_form.specs.Stretches.{marks, marked_at, ended_by, first_line, line_at, stretch_at, is_divider, first_divider, divider_at}
use Rattle.normal_form.specs.Hunks.{body_at}
use Rattle.normal_form.specs.Grammar.{SpellsStretch, SpellsBody}
use Rattle.normal_form.proofs.Stretches.{marked-ok, TakesLine, line_takes, TakesStretch, stretch_takes, none-left}
use Rattle.normal_form.proofs.Pieces.{CountsNone, no-lines, empty-piece, divider_takes}
use Rattle.normal_form.proofs.FirstFault.{marked-here, steady-stretch}

pub fault_at : {A : Type 0} (number : ℕ) (kind : BadKind) (e : Fault) → failed {A = A} (fault number kind) ≡ failed e → e.line ≡ number
fault_at {A = A} number kind e h = sym (ap (λ (x : Fault). x.line) (err_is {A = A} (fault number kind) e h))

-- ---- the lines in front
-- and a fault directly behind them
pub front_to : (at number next : ℕ) (lines own rest others : List (List ℕ)) → lines ≡ own ++ rest → next ≡ number + length own → at ≡ next → take (at - number) lines ++ others ≡ own ++ others
front_to at number next lines own rest others parts count here =
    front_with at number next lines own rest others parts count (omega (arith, here)) ∙ ap (λ (ls : List (List ℕ)). own ++ (ls ++ others)) (none_in_front at next rest here)

pub some_loud : (rest more : List (List ℕ)) → after_backslash rest ≡ Some more → 0 < length rest
some_loud [] more e = absurd cc
some_loud (line ∷ rest) more e = omega arith

-- ---- lines that fill a hunk up

abbrev fill : Side → ℕ → List (List ℕ)
fill side zero = []
fill side (suc n) = (marks side ++ 10 ∷ []) ∷ fill side n

abbrev filled : ℕ → List (List ℕ)
filled zero = []
filled (suc n) = (10 ∷ []) ∷ filled n

abbrev dashes : List ℕ
dashes = 45 ∷ 45 ∷ 45 ∷ 10 ∷ []

fill-spelled : (side : Side) (n : ℕ) → SpellsStretch side (fill side n) (filled n)
fill-spelled side zero = refl
fill-spelled side (suc n) = ((marks side ++ 10 ∷ []) ∷ [], fill side n, refl, refl, fill-spelled side n)

fill-counts : (n : ℕ) → length (filled n) ≡ n
fill-counts zero = refl
fill-counts (suc n) = ap suc (fill-counts n)

fill-line : (side : Side) → IsLine (marks side ++ 10 ∷ [])
fill-line Forward = ((λ h. absurd (omega (arith, h))), ((λ h. absurd (omega (arith, h))), refl))
fill-line Reversed = ((λ h. absurd (omega (arith, h))), ((λ h. absurd (omega (arith, h))), refl))

fill-lines : (side : Side) (n : ℕ) → AllByRecursion IsLine (fill side n)
fill-lines side zero = tt
fill-lines side (suc n) = (fill-line side, fill-lines side n)

dashes-line : IsLine dashes
dashes-line = ((λ h. absurd (omega (arith, h))), ((λ h. absurd (omega (arith, h))), ((λ h. absurd (omega (arith, h))), refl)))

divides : is_divider dashes ≡ true
unfolding after
divides = refl

-- ---- lines of one side

-- the lines in front of the fault, with others, are so many of this side
record FillsStretch (side : Side) (left : ℕ) (p : Ahead) (e : Fault) : Type 0 where
  others : List (List ℕ)
  are_lines : AllByRecursion IsLine others
  ls : List (List ℕ)
  counts : length ls ≡ left
  spelled : SpellsStretch side (take (e.line - p.number) p.rest ++ others) ls
  inside : IsInside p e

fills_at_once : (side : Side) (left : ℕ) (p : Ahead) (e : Fault) → e.line ≡ p.number → IsInside p e → FillsStretch side left p e
fills_at_once side left p e here inside = record {
  others = fill side left;
  are_lines = fill-lines side left;
  ls = filled left;
  counts = fill-counts left;
  spelled = rw (none_in_front e.line p.number p.rest here) (fill-spelled side left);
  inside = inside;
}

fills_past : (side : Side) (left : ℕ) (p : Ahead) (e : Fault) (x : Marked × Ahead) → TakesLine side left p x → x.1.number ≤ e.line → FillsStretch side left x.1 e → FillsStretch side (suc left) p e
fills_past side left p e x t le more = record {
  others = more.others;
  are_lines = more.are_lines;
  ls = t.line ∷ more.ls;
  counts = ap suc more.counts;
  spelled = (t.own, take (e.line - x.1.number) x.1.rest ++ more.others, front_with e.line p.number x.1.number p.rest t.own x.1.rest more.others t.parts t.number le, t.spelled more.ls more.counts, more.spelled);
  inside = past_inside p x.1 e t.own t.parts t.number more.inside;
}

ended_at : (m : Marked) (left : ℕ) (q : Ahead) (e : Fault) → ended_by m left q (after_backslash q.rest) ≡ Err e → (e.line ≡ q.number) × (0 < length q.rest)
ended_at m left q e h = by (after_backslash q.rest) refl h
  where
    late : (more : List (List ℕ)) (b : Bool) → cond {A = Result (Marked × Ahead) Fault} b (Ok (unended m, ahead (q.number + 1) more)) (Err (fault q.number kinds.MisplacedBackslash)) ≡ Err e → e.line ≡ q.number
    late more true h = absurd cc
    late more false h = fault_at {A = Marked × Ahead} q.number kinds.MisplacedBackslash e h

    by : (o : Option (List (List ℕ))) → after_backslash q.rest ≡ o → ended_by m left q o ≡ Err e → (e.line ≡ q.number) × (0 < length q.rest)
    by None is h = absurd (let bad : Ok (m, q) ≡ failed {A = Marked × Ahead} e = h in cc)
    by (Some more) is h = (late more (eqb left 0) h, some_loud q.rest more is)

line_fills : (side : Side) (left number : ℕ) (lines : List (List ℕ)) (e : Fault) → first_line side left number lines ≡ Err e → FillsStretch side (suc left) (ahead number lines) e
unfolding first_line
line_fills side left number [] e h = fills_at_once side (suc left) (ahead number []) e (fault_at {A = Marked × Ahead} number kinds.ShortEnd e h) (none_inside {A = Marked × Ahead} number e h)
line_fills side left number (line ∷ rest) e h =
    elim (bind_err (marked_at number side line) (λ m. ended_by m left (ahead (number + 1) rest) (after_backslash rest)) e h) [
      | inl bad ↦ (let here = (marked-here side number line e bad).0 in fills_at_once side (suc left) (ahead number (line ∷ rest)) e here (first_inside number line rest e here))
      | inr good ↦ (
          let late = ended_at good.0 left (ahead (number + 1) rest) e good.2 in
          let here : e.line ≡ number + 1 = late.0 in
          let m = marked-ok number side line (after (marks side) line) good.0 good.1 in
          let one : TakesLine side left (ahead number (line ∷ rest)) (good.0, ahead (number + 1) rest) = record {
            own = line ∷ [];
            line = m.0;
            parts = refl;
            number = refl;
            is = sym m.2;
            spelled = λ others same. after-takes (marks side) line m.0 m.1;
          } in
          fills_past side left (ahead number (line ∷ rest)) e (good.0, ahead (number + 1) rest) one (omega (arith, here)) (fills_at_once side left (ahead (number + 1) rest) e here (λ long. omega (arith, here, late.1))))
    ]

stretch_fills : (side : Side) (left : ℕ) (before : List Marked) (p : Ahead) (e : Fault) → stretch_at side left before p ≡ Err e → FillsStretch side left p e
unfolding stretch_at
stretch_fills side zero before p e h = absurd (let bad : Ok (before, p) ≡ failed {A = List Marked × Ahead} e = h in cc)
stretch_fills side (suc left) before p e h =
    elim (bind_err (line_at side left p) (λ x. stretch_at side left (before ++ x.0 ∷ []) x.1) e h) [
      | inl bad ↦ line_fills side left p.number p.rest e bad
      | inr good ↦ (
          let x = good.0 in
          let more = before ++ x.0 ∷ [] in
          fills_past side left p e x (line_takes side left p.number p.rest x good.1) ((steady-stretch side left more).low x.1 e good.2).0 (stretch_fills side left more x.1 e good.2))
    ]

-- ---- the lines of a hunk

-- the lines in front of the fault, with others, are so many old and new lines
pub record FillsBody (action : Action) (old new : ℕ) (p : Ahead) (e : Fault) : Type 0 where
  pub others : List (List ℕ)
  pub are_lines : AllByRecursion IsLine others
  pub olds : List (List ℕ)
  pub news : List (List ℕ)
  pub old_count : length olds ≡ old
  pub new_count : length news ≡ new
  pub spelled : SpellsBody action (take (e.line - p.number) p.rest ++ others) olds news
  pub inside : IsInside p e

-- the fault lies in the old lines
old_fills : (action : Action) (old new : ℕ) (p : Ahead) (e : Fault) → CountsNone action old new → stretch_at Forward old [] p ≡ Err e → FillsBody action old new p e
old_fills Add old new p e none bad = absurd (let good = no-lines Forward old [] p none in cc)
old_fills Change old new p e none bad =
    let f = stretch_fills Forward old [] p e bad in
    let front = take (e.line - p.number) p.rest in
    record {
      others = f.others ++ dashes ∷ fill Reversed new;
      are_lines = lines-both f.others (dashes ∷ fill Reversed new) f.are_lines (dashes-line, fill-lines Reversed new);
      olds = f.ls;
      news = filled new;
      old_count = f.counts;
      new_count = fill-counts new;
      spelled = (front ++ f.others, dashes, fill Reversed new, sym (append_assoc front f.others (dashes ∷ fill Reversed new)), f.spelled, divides, fill-spelled Reversed new);
      inside = f.inside;
    }
old_fills Delete old new p e none bad =
    let f = stretch_fills Forward old [] p e bad in
    record {
      others = f.others;
      are_lines = f.are_lines;
      olds = f.ls;
      news = [];
      old_count = f.counts;
      new_count = sym none;
      spelled = (f.spelled, refl);
      inside = f.inside;
    }

divider_fault : (number : ℕ) (lines : List (List ℕ)) (e : Fault) → first_divider number lines ≡ Err e → (e.line ≡ number) × IsInside (ahead number lines) e
unfolding first_divider
divider_fault number [] e h = (fault_at {A = Unit {0} × Ahead} number kinds.ShortEnd e h, none_inside {A = Unit {0} × Ahead} number e h)
divider_fault number (line ∷ rest) e h = let here = by (is_divider line) h in (here, first_inside number line rest e here)
  where
    by : (b : Bool) → cond {A = Result (Unit {0} × Ahead) Fault} b (Ok (tt, ahead (number + 1) rest)) (Err (fault number (unmarked line))) ≡ Err e → e.line ≡ number
    by true h = absurd cc
    by false h = fault_at {A = Unit {0} × Ahead} number (unmarked line) e h

-- the fault is the line between the sides
middle_fills : (action : Action) (old new : ℕ) (p : Ahead) (e : Fault) (y : List Marked × Ahead) → TakesStretch Forward old [] p y → divider_at action y.1 ≡ Err e → FillsBody action old new p e
middle_fills Add old new p e y a bad = absurd (let wrong : Ok (tt, y.1) ≡ failed {A = Unit {0} × Ahead} e = bad in cc)
middle_fills Change old new p e y a bad =
    let d = divider_fault y.1.number y.1.rest e bad in
    let others = dashes ∷ fill Reversed new in
    record {
      others = others;
      are_lines = (dashes-line, fill-lines Reversed new);
      olds = a.ls;
      news = filled new;
      old_count = a.counts;
      new_count = fill-counts new;
      spelled = (a.own, dashes, fill Reversed new, front_to e.line p.number y.1.number p.rest a.own y.1.rest others a.parts a.number d.0, a.spelled, divides, fill-spelled Reversed new);
      inside = past_inside p y.1 e a.own a.parts a.number d.1;
    }
middle_fills Delete old new p e y a bad = absurd (let wrong : Ok (tt, y.1) ≡ failed {A = Unit {0} × Ahead} e = bad in cc)

-- the fault lies in the new lines
new_fills : (action : Action) (old new : ℕ) (p : Ahead) (e : Fault) (y : List Marked × Ahead) (z : Unit {0} × Ahead) → CountsNone action old new → TakesStretch Forward old [] p y → divider_at action y.1 ≡ Ok z → stretch_at Reversed new y.0 z.1 ≡ Err e → FillsBody action old new p e
new_fills Add old new p e y z none a d bad =
    let olds : a.ls ≡ [] = none-left a.ls (a.counts ∙ none) in
    let own : a.own ≡ [] = empty-piece Forward a.own a.ls olds a.spelled in
    let same : (tt, y.1) ≡ z = ok_is _ _ d in
    let rest : y.1.rest ≡ z.1.rest = ap (λ (w : Unit {0} × Ahead). w.1.rest) same in
    let number : y.1.number ≡ z.1.number = ap (λ (w : Unit {0} × Ahead). w.1.number) same in
    let f = stretch_fills Reversed new y.0 z.1 e bad in
    let le = ((steady-stretch Reversed new y.0).low z.1 e bad).0 in
    let piece : take (e.line - p.number) p.rest ++ f.others ≡ take (e.line - z.1.number) z.1.rest ++ f.others = front_with e.line p.number z.1.number p.rest a.own z.1.rest f.others (a.parts ∙ ap (λ r. a.own ++ r) rest) (sym number ∙ a.number) le ∙ ap (λ (ls : List (List ℕ)). ls ++ (take (e.line - z.1.number) z.1.rest ++ f.others)) own in
    record {
      others = f.others;
      are_lines = f.are_lines;
      olds = a.ls;
      news = f.ls;
      old_count = a.counts;
      new_count = f.counts;
      spelled = (olds, subst (λ (ls : List (List ℕ)). SpellsStretch Reversed ls f.ls) (sym piece) f.spelled);
      inside = past_inside p z.1 e a.own (a.parts ∙ ap (λ r. a.own ++ r) rest) (sym number ∙ a.number) f.inside;
    }
new_fills Change old new p e y z none a d bad =
    let t = divider_takes y.1.number y.1.rest z d in
    let f = stretch_fills Reversed new y.0 z.1 e bad in
    let le = ((steady-stretch Reversed new y.0).low z.1 e bad).0 in
    let front = take (e.line - z.1.number) z.1.rest ++ f.others in
    let one : take (e.line - p.number) p.rest ++ f.others ≡ a.own ++ (take (e.line - y.1.number) y.1.rest ++ f.others) = front_with e.line p.number y.1.number p.rest a.own y.1.rest f.others a.parts a.number (omega (arith, le, t.2)) in
    let two : take (e.line - y.1.number) y.1.rest ++ f.others ≡ t.0 ∷ front = front_with e.line y.1.number z.1.number y.1.rest (t.0 ∷ []) z.1.rest f.others t.1 t.2 le in
    record {
      others = f.others;
      are_lines = f.are_lines;
      olds = a.ls;
      news = f.ls;
      old_count = a.counts;
      new_count = f.counts;
      spelled = (a.own, t.0, front, one ∙ ap (λ (ls : List (List ℕ)). a.own ++ ls) two, a.spelled, t.3, f.spelled);
      inside = past_inside p y.1 e a.own a.parts a.number (past_inside y.1 z.1 e (t.0 ∷ []) t.1 t.2 f.inside);
    }
new_fills Delete old new p e y z none a d bad = absurd (let good = no-lines Reversed new y.0 z.1 none in cc)

pub body_fills : (c : Command) (p : Ahead) (e : Fault) → CountsNone c.action c.old_count c.new_count → body_at c p ≡ Err e → FillsBody c.action c.old_count c.new_count p e
unfolding body_at
body_fills c p e none h =
    elim (bind_err (stretch_at Forward c.old_count [] p) (λ old. divider_at c.action old.1 >>= λ middle. stretch_at Reversed c.new_count old.0 middle.1) e h) [
      | inl bad ↦ old_fills c.action c.old_count c.new_count p e none bad
      | inr old ↦ (
          let a = stretch_takes Forward c.old_count [] p old.0 old.1 in
          elim (bind_err (divider_at c.action old.0.1) (λ middle. stretch_at Reversed c.new_count old.0.0 middle.1) e old.2) [
            | inl bad ↦ middle_fills c.action c.old_count c.new_count p e old.0 a bad
            | inr middle ↦ new_fills c.action c.old_count c.new_count p e old.0 middle.0 none a middle.1 middle.2
          ])
    ]
