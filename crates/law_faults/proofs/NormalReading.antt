-- The line that a fault of normal hunks names.
use Rattle.std.proofs.Common.{◌≡◌, ◌≢◌, ◌⊎◌, inl, inr, ℕ, zero, suc, ◌+◌, ◌<◌, Bool, true, false, cond, eqb, ◌&&◌, List, [], ◌∷◌, ◌++◌, length, Option, None, Some, Result, Ok, Err, refl, sym, ap, subst, ◌∙◌, append_assoc, arith}
use Rattle.std.specs.Prelude.{is_some}
use Rattle.std.proofs.lemmas.List.{append-nil, length-append}
use Rattle.hunk_core.specs.declared.Side.{Side}
use Rattle.hunk_core.specs.declared.Side.TheVariants.{Forward, Reversed}
use Rattle.hunk_core.specs.declared.BadKind.{BadKind}
use Rattle.hunk_core.specs.declared.BadKind.TheVariants as kinds
use Rattle.hunk_core.specs.PlainHunk.{Marked, PlainHunk}
use Rattle.hunk_core.specs.LineTests.{after, is_backslash, unended, after_backslash}
use Rattle.hunk_core.specs.Following.{hunks_by}
use Rattle.hunk_core.proofs.Following.{more_hunks}
use Rattle.hunk_core.specs.Reading.{◌>>=◌, Fault, fault, Ahead, ahead}
use Rattle.line_list.proofs.Choices.{chosen}
use Rattle.hunk_core.proofs.ReadSteps.{ok_is}
use Rattle.hunk_core.proofs.TextLemmas.{after-again}
use Rattle.hunk_core.specs.declared.command.Action.{Action}
use Rattle.hunk_core.specs.declared.command.Action.TheVariants.{Add, Change, Delete}
use Rattle.normal_form.specs.declared.command.Command.{Command}
use Rattle.normal_form.specs.Commands.{is_command, opening}
use Rattle.normal_form.specs.Stretches.{marks, must_be_marked, marked_at, ended_by, first_line, line_at, stretch_at, is_divider, first_divider, divider_at}
use Rattle.normal_form.specs.Hunks.{at_line, body_at, change, first_hunk, hunk_at, begins_marked, begins_hunk, hunks_at, reading}
use Rattle.normal_form.specs.Grammar.{SpellsLine, SpellsStretch, SpellsCommand}
use Rattle.normal_form.proofs.CommandGrammar.{opening-takes}
use Rattle.normal_form.proofs.Stretches.{TakesLine, line_takes, TakesStretch, stretch_takes, none-left}
use Rattle.normal_form.proofs.Pieces.{CountsNone, counts-none, no-lines, empty-piece, divider_takes, body_takes, at_line-ok, hunk_takes}
use Rattle.normal_form.proofs.FirstFault.{with_body}
use Rattle.hunk_core.specs.Refusals.{unmarked, settled}
use Rattle.hunk_core.proofs.FaultSteps.{failed, err_is, bind_err}
use Rattle.hunk_core.proofs.Agreeing.{after_backslash-some}
use Rattle.law_faults.specs.NamedLines.{NamesLine}
use Rattle.law_faults.specs.NormalFaults.{LacksSide, LacksMark, Breaks, IsAtFault}
use Rattle.law_faults.proofs.Naming.{add_err, ends_short, named-here, named-past}
use Rattle.law_faults.proofs.NormalCommands.{opening_breaks}

-- ---- a line that isn't what must stand there

-- a backslash line, or no line with this lack
abbrev Unmarked : BadKind → List ℕ → Type 0 → Type 0
Unmarked kind line Lacks = ((kind ≡ kinds.MisplacedBackslash) × (is_backslash line ≡ true)) ⊎ ((kind ≡ kinds.Mark) × (is_backslash line ≡ false) × Lacks)

unmarked_is : (number : ℕ) (line : List ℕ) (e : Fault) (Lacks : Type 0) → fault number (unmarked line) ≡ e → Lacks → (e.line ≡ number) × Unmarked e.kind line Lacks
unmarked_is number line e Lacks same lacks = (sym (ap (λ (x : Fault). x.line) same), subst (λ (x : Fault). Unmarked x.kind line Lacks) same (by (is_backslash line) refl))
  where
    by : (b : Bool) → is_backslash line ≡ b → Unmarked (cond b kinds.MisplacedBackslash kinds.Mark) line Lacks
    by true is = inl (refl, is)
    by false is = inr (refl, is, lacks)

-- a backslash line behind others, whatever else is asked
loud_named : (Lacks : List (List ℕ) → List ℕ → Type 0) (own lines rest more : List (List ℕ)) (number next : ℕ) (e : Fault) → lines ≡ own ++ rest → next ≡ number + length own → after_backslash rest ≡ Some more → fault next kinds.MisplacedBackslash ≡ e
    → NamesLine (λ part line behind. Unmarked e.kind line (Lacks part line)) number lines e.line
loud_named Lacks own lines rest more number next e parts count loud same =
    let b = after_backslash-some rest more loud in
    record {
      front = own;
      line = b.0;
      behind = more;
      parts = parts ∙ ap (λ (ls : List (List ℕ)). own ++ ls) b.1;
      counted = sym (ap (λ (x : Fault). x.line) same) ∙ count;
      holds = inl (sym (ap (λ (x : Fault). x.kind) same), b.2);
    }

-- ---- lines of one side

abbrev InStretch : Side → ℕ → BadKind → List (List ℕ) → List ℕ → List (List ℕ) → Type 0
InStretch side left kind part line behind = Unmarked kind line (LacksSide side left part line)

ended_at : (m : Marked) (left : ℕ) (q : Ahead) (e : Fault) → ended_by m left q (after_backslash q.rest) ≡ Err e → (fault q.number kinds.MisplacedBackslash ≡ e) × (more : List (List ℕ)) × (after_backslash q.rest ≡ Some more)
ended_at m left q e h = by (after_backslash q.rest) refl h
  where
    late : (more : List (List ℕ)) (b : Bool) → cond {A = Result (Marked × Ahead) Fault} b (Ok (unended m, ahead (q.number + 1) more)) (Err (fault q.number kinds.MisplacedBackslash)) ≡ Err e → fault q.number kinds.MisplacedBackslash ≡ e
    late more true h = absurd cc
    late more false h = err_is {A = Marked × Ahead} _ e h

    by : (o : Option (List (List ℕ))) → after_backslash q.rest ≡ o → ended_by m left q o ≡ Err e → (fault q.number kinds.MisplacedBackslash ≡ e) × (more : List (List ℕ)) × (after_backslash q.rest ≡ Some more)
    by None is h = absurd (let bad : Ok (m, q) ≡ failed {A = Marked × Ahead} e = h in cc)
    by (Some more) is h = (late more (eqb left 0) h, more, is)

marked_breaks : (number : ℕ) (side : Side) (left : ℕ) (line : List ℕ) (e : Fault) → marked_at number side line ≡ Err e → (e.line ≡ number) × InStretch side (suc left) e.kind [] line []
marked_breaks number side left line e h = by (after (marks side) line) refl h
  where
    by : (o : Option (List ℕ)) → after (marks side) line ≡ o → must_be_marked number side line o ≡ Err e → (e.line ≡ number) × InStretch side (suc left) e.kind [] line []
    by (Some bytes) is h = absurd cc
    by None is h = unmarked_is number line e (LacksSide side (suc left) [] line) (err_is {A = Marked} _ e h) ([], refl, omega arith, (λ bytes same. let there : after (marks side) line ≡ Some bytes = ap (after (marks side)) same ∙ after-again (marks side) bytes in absurd cc))

line_breaks : (side : Side) (left number : ℕ) (lines : List (List ℕ)) (e : Fault) → first_line side left number lines ≡ Err e → e.kind ≢ kinds.ShortEnd → NamesLine (InStretch side (suc left) e.kind) number lines e.line
unfolding first_line
line_breaks side left number [] e h long = ends_short {A = Marked × Ahead} number e h long
line_breaks side left number (line ∷ rest) e h long =
    elim (bind_err (marked_at number side line) (λ m. ended_by m left (ahead (number + 1) rest) (after_backslash rest)) e h) [
      | inl bad ↦ (let b = marked_breaks number side left line e bad in named-here (InStretch side (suc left) e.kind) number line rest e.line b.0 b.1)
      | inr good ↦ (let l = ended_at good.0 left (ahead (number + 1) rest) e good.2 in loud_named (LacksSide side (suc left)) (line ∷ []) (line ∷ rest) rest l.1 number (number + 1) e refl refl l.2 l.0)
    ]

-- lines enough
abbrev blank : ℕ → List (List ℕ)
blank zero = []
blank (suc n) = [] ∷ blank n

blank-counts : (n : ℕ) → length (blank n) ≡ n
blank-counts zero = refl
blank-counts (suc n) = ap suc (blank-counts n)

-- a line that isn't the last takes no backslash line
before_others : (side : Side) (own : List (List ℕ)) (l : List ℕ) (others more : List (List ℕ)) → SpellsLine side own l others → 0 < length others → SpellsLine side own l more
before_others side [] l others more s some = absurd s
before_others side (line ∷ []) l others more s some = s
before_others side (line ∷ mark ∷ []) l others more s some = absurd (omega (arith, some, ap length s.1))
before_others side (line ∷ mark ∷ other ∷ own) l others more s some = absurd s

past_line : (side : Side) (left : ℕ) (p : Ahead) (x : Marked × Ahead) (kind : BadKind) (t : TakesLine side left p x) (part : List (List ℕ)) (line : List ℕ) (behind : List (List ℕ)) (rest : List (List ℕ)) → rest ≡ part ++ line ∷ behind → InStretch side left kind part line behind → InStretch side (suc left) kind (t.own ++ part) line behind
past_line side left p x kind t part line behind rest same (inl loud) = inl loud
past_line side left p x kind t part line behind rest same (inr lacks) =
    let lack = lacks.2 in
    let some : 0 < length (blank left) = omega (arith, blank-counts left, lack.2) in
    let one : SpellsLine side t.own t.line lack.0 = before_others side t.own t.line (blank left) lack.0 (t.spelled (blank left) (blank-counts left)) some in
    inr (lacks.0, lacks.1, (t.line ∷ lack.0, (t.own, part, refl, one, lack.1), omega (arith, lack.2), lack.3))

stretch_breaks : (side : Side) (left : ℕ) (before : List Marked) (p : Ahead) (e : Fault) → stretch_at side left before p ≡ Err e → e.kind ≢ kinds.ShortEnd → NamesLine (InStretch side left e.kind) p.number p.rest e.line
unfolding stretch_at
stretch_breaks side zero before p e h long = absurd (let bad : Ok (before, p) ≡ failed {A = List Marked × Ahead} e = h in cc)
stretch_breaks side (suc left) before p e h long =
    elim (bind_err (line_at side left p) (λ x. stretch_at side left (before ++ x.0 ∷ []) x.1) e h) [
      | inl bad ↦ line_breaks side left p.number p.rest e bad long
      | inr good ↦ (
          let x = good.0 in
          let t = line_takes side left p.number p.rest x good.1 in
          named-past (InStretch side left e.kind) (InStretch side (suc left) e.kind) t.own p.number x.1.number p.rest x.1.rest e.line t.parts t.number (λ part line behind same holds. past_line side left p x e.kind t part line behind x.1.rest same holds) (stretch_breaks side left (before ++ x.0 ∷ []) x.1 e good.2 long))
    ]

-- ---- the lines of a hunk

abbrev InHunk : Action → ℕ → ℕ → BadKind → List (List ℕ) → List ℕ → List (List ℕ) → Type 0
InHunk action old new kind part line behind = Unmarked kind line (LacksMark action old new part line)

lacks_then : (kind : BadKind) (line : List ℕ) (A B : Type 0) → (A → B) → Unmarked kind line A → Unmarked kind line B
lacks_then kind line A B f (inl loud) = inl loud
lacks_then kind line A B f (inr lacks) = inr (lacks.0, lacks.1, f lacks.2)

in_old : (action : Action) (old new : ℕ) (part : List (List ℕ)) (line : List ℕ) → CountsNone action old new → LacksSide Forward old part line → LacksMark action old new part line
in_old Add old new part line none l = absurd (omega (arith, none, l.2))
in_old Change old new part line none l = inl l
in_old Delete old new part line none l = l

-- the line is the first one, and isn't '---'
abbrev AtDivider : BadKind → List (List ℕ) → List ℕ → List (List ℕ) → Type 0
AtDivider kind part line behind = (part ≡ []) × Unmarked kind line (is_divider line ≡ false)

divider_breaks : (number : ℕ) (lines : List (List ℕ)) (e : Fault) → first_divider number lines ≡ Err e → e.kind ≢ kinds.ShortEnd → NamesLine (AtDivider e.kind) number lines e.line
unfolding first_divider
divider_breaks number [] e h long = ends_short {A = Unit {0} × Ahead} number e h long
divider_breaks number (line ∷ rest) e h long = by (is_divider line) refl h
  where
    by : (b : Bool) → is_divider line ≡ b → cond {A = Result (Unit {0} × Ahead) Fault} b (Ok (tt, ahead (number + 1) rest)) (Err (fault number (unmarked line))) ≡ Err e → NamesLine (AtDivider e.kind) number (line ∷ rest) e.line
    by true is h = absurd cc
    by false is h =
        let u = unmarked_is number line e (is_divider line ≡ false) (err_is {A = Unit {0} × Ahead} _ e h) is in
        named-here (AtDivider e.kind) number line rest e.line u.0 (refl, u.1)

behind_old : (old new : ℕ) (own ls : List (List ℕ)) (kind : BadKind) → SpellsStretch Forward own ls → length ls ≡ old → (part : List (List ℕ)) (line : List ℕ) (behind rest : List (List ℕ)) → rest ≡ part ++ line ∷ behind → AtDivider kind part line behind → InHunk Change old new kind (own ++ part) line behind
behind_old old new own ls kind s count part line behind rest same a =
    let whole : own ++ part ≡ own = ap (λ (ps : List (List ℕ)). own ++ ps) a.0 ∙ append-nil own in
    lacks_then kind line (is_divider line ≡ false) (LacksMark Change old new (own ++ part) line) (λ none. inr (inl (ls, subst (λ (ps : List (List ℕ)). SpellsStretch Forward ps ls) (sym whole) s, count, none))) a.1

middle_breaks : (action : Action) (old new : ℕ) (p : Ahead) (e : Fault) (y : List Marked × Ahead) → TakesStretch Forward old [] p y → divider_at action y.1 ≡ Err e → e.kind ≢ kinds.ShortEnd → NamesLine (InHunk action old new e.kind) p.number p.rest e.line
middle_breaks Add old new p e y a bad long = absurd (let wrong : Ok (tt, y.1) ≡ failed {A = Unit {0} × Ahead} e = bad in cc)
middle_breaks Change old new p e y a bad long = named-past (AtDivider e.kind) (InHunk Change old new e.kind) a.own p.number y.1.number p.rest y.1.rest e.line a.parts a.number (λ part line behind same holds. behind_old old new a.own a.ls e.kind a.spelled a.counts part line behind y.1.rest same holds) (divider_breaks y.1.number y.1.rest e bad long)
middle_breaks Delete old new p e y a bad long = absurd (let wrong : Ok (tt, y.1) ≡ failed {A = Unit {0} × Ahead} e = bad in cc)

new_breaks : (action : Action) (old new : ℕ) (p : Ahead) (e : Fault) (y : List Marked × Ahead) (z : Unit {0} × Ahead) → CountsNone action old new → TakesStretch Forward old [] p y → divider_at action y.1 ≡ Ok z → stretch_at Reversed new y.0 z.1 ≡ Err e → e.kind ≢ kinds.ShortEnd → NamesLine (InHunk action old new e.kind) p.number p.rest e.line
new_breaks Add old new p e y z none a d bad long =
    let own : a.own ≡ [] = empty-piece Forward a.own a.ls (none-left a.ls (a.counts ∙ none)) a.spelled in
    let same : (tt, y.1) ≡ z = ok_is _ _ d in
    let rest : y.1.rest ≡ z.1.rest = ap (λ (w : Unit {0} × Ahead). w.1.rest) same in
    let number : y.1.number ≡ z.1.number = ap (λ (w : Unit {0} × Ahead). w.1.number) same in
    named-past (InStretch Reversed new e.kind) (InHunk Add old new e.kind) [] p.number z.1.number p.rest z.1.rest e.line (a.parts ∙ ap (λ (ls : List (List ℕ)). ls ++ y.1.rest) own ∙ rest) (omega (arith, number, a.number, ap length own)) (λ part line behind same holds. holds) (stretch_breaks Reversed new y.0 z.1 e bad long)
new_breaks Change old new p e y z none a d bad long =
    let t = divider_takes y.1.number y.1.rest z d in
    named-past (InStretch Reversed new e.kind) (InHunk Change old new e.kind) (a.own ++ t.0 ∷ []) p.number z.1.number p.rest z.1.rest e.line
    (a.parts ∙ ap (λ (ls : List (List ℕ)). a.own ++ ls) t.1 ∙ sym (append_assoc a.own (t.0 ∷ []) z.1.rest))
    (omega (arith, t.2, a.number, length-append a.own (t.0 ∷ [])))
    (λ part line behind same holds. lacks_then e.kind line (LacksSide Reversed new part line) (LacksMark Change old new ((a.own ++ t.0 ∷ []) ++ part) line) (λ l. inr (inr (a.own, t.0, part, append_assoc a.own (t.0 ∷ []) part, a.ls, a.spelled, a.counts, t.3, l))) holds)
    (stretch_breaks Reversed new y.0 z.1 e bad long)
new_breaks Delete old new p e y z none a d bad long = absurd (let good = no-lines Reversed new y.0 z.1 none in cc)

body_breaks : (c : Command) (p : Ahead) (e : Fault) → CountsNone c.action c.old_count c.new_count → body_at c p ≡ Err e → e.kind ≢ kinds.ShortEnd → NamesLine (InHunk c.action c.old_count c.new_count e.kind) p.number p.rest e.line
unfolding body_at
body_breaks c p e none h long =
    elim (bind_err (stretch_at Forward c.old_count [] p) (λ old. divider_at c.action old.1 >>= λ middle. stretch_at Reversed c.new_count old.0 middle.1) e h) [
      | inl bad ↦ named-past (InStretch Forward c.old_count e.kind) (InHunk c.action c.old_count c.new_count e.kind) [] p.number p.number p.rest p.rest e.line refl (omega arith)
          (λ part line behind same holds. lacks_then e.kind line (LacksSide Forward c.old_count part line) (LacksMark c.action c.old_count c.new_count part line) (in_old c.action c.old_count c.new_count part line none) holds)
          (stretch_breaks Forward c.old_count [] p e bad long)
      | inr old ↦ (
          let a = stretch_takes Forward c.old_count [] p old.0 old.1 in
          elim (bind_err (divider_at c.action old.0.1) (λ middle. stretch_at Reversed c.new_count old.0.0 middle.1) e old.2) [
            | inl bad ↦ middle_breaks c.action c.old_count c.new_count p e old.0 a bad long
            | inr middle ↦ new_breaks c.action c.old_count c.new_count p e old.0 middle.0 none a middle.1 middle.2 long
          ])
    ]

-- ---- a hunk

abbrev OfHunk : ℕ → BadKind → List (List ℕ) → List ℕ → List (List ℕ) → Type 0
OfHunk least kind part line behind = Breaks least kind part line

command_breaks : (least number : ℕ) (line : List ℕ) (e : Fault) → is_command line ≡ true → at_line number (opening least line) ≡ Err e → (e.line ≡ number) × Breaks least e.kind [] line
command_breaks least number line e begins h = by (opening least line) refl h
  where
    by : (o : Result Command BadKind) → opening least line ≡ o → at_line number o ≡ Err e → (e.line ≡ number) × Breaks least e.kind [] line
    by (Ok c) is h = absurd cc
    by (Err kind) is h =
        let same : fault number kind ≡ e = err_is {A = Command} (fault number kind) e h in
        (sym (ap (λ (x : Fault). x.line) same), subst (λ (x : Fault). Breaks least x.kind [] line) same (opening_breaks least line kind begins is))

behind_command : (least : ℕ) (first : List ℕ) (c : Command) (kind : BadKind) → SpellsCommand first c → (part : List (List ℕ)) (line : List ℕ) (behind : List (List ℕ)) → InHunk c.action c.old_count c.new_count kind part line behind → Breaks least kind (first ∷ part) line
behind_command least first c kind s part line behind (inl loud) = subst (λ k. Breaks least k (first ∷ part) line) (sym loud.0) loud.1
behind_command least first c kind s part line behind (inr lacks) = subst (λ k. Breaks least k (first ∷ part) line) (sym lacks.0) ((c, s, lacks.2), lacks.1)

settled_at : (h : PlainHunk) (p : Ahead) (e : Fault) → settled h p ≡ Err e → (fault p.number kinds.MisplacedBackslash ≡ e) × (more : List (List ℕ)) × (after_backslash p.rest ≡ Some more)
settled_at h p e is = by (after_backslash p.rest) refl is
  where
    by : (o : Option (List (List ℕ))) → after_backslash p.rest ≡ o → cond {A = Result (PlainHunk × Ahead) Fault} (is_some o) (Err (fault p.number kinds.MisplacedBackslash)) (Ok (h, p)) ≡ Err e → (fault p.number kinds.MisplacedBackslash ≡ e) × (more : List (List ℕ)) × (after_backslash p.rest ≡ Some more)
    by None is h = absurd cc
    by (Some more) is h = (err_is {A = PlainHunk × Ahead} _ e h, more, is)

hunk_breaks : (least number : ℕ) (line : List ℕ) (rest : List (List ℕ)) (e : Fault) → is_command line ≡ true → first_hunk least number (line ∷ rest) ≡ Err e → e.kind ≢ kinds.ShortEnd → NamesLine (OfHunk least e.kind) number (line ∷ rest) e.line
unfolding first_hunk
hunk_breaks least number line rest e begins h long =
    elim (bind_err (at_line number (opening least line)) (λ c. with_body c (ahead (number + 1) rest)) e h) [
      | inl bad ↦ (let b = command_breaks least number line e begins bad in named-here (OfHunk least e.kind) number line rest e.line b.0 b.1)
      | inr good ↦ (
          let c = good.0 in
          let p : Ahead = ahead (number + 1) rest in
          let s = opening-takes least line c (at_line-ok number (opening least line) c good.1) in
          let none = counts-none c.action s.0.old s.0.new c.old_start c.old_count c.new_start c.new_count s.0.old_span s.0.new_span in
          elim (bind_err (body_at c p) (λ body. settled (change c body.0) body.1) e good.2) [
            | inl bad ↦ named-past (InHunk c.action c.old_count c.new_count e.kind) (OfHunk least e.kind) (line ∷ []) number (number + 1) (line ∷ rest) rest e.line refl refl (λ part one behind same holds. behind_command least line c e.kind s.0 part one behind holds) (body_breaks c p e none bad long)
            | inr body ↦ (
                let t = body_takes c p body.0 none body.1 in
                let late = settled_at (change c body.0.0) body.0.1 e body.2 in
                let b = after_backslash-some body.0.1.rest late.1 late.2 in
                subst (λ (x : Fault). NamesLine (OfHunk least x.kind) number (line ∷ rest) x.line) late.0 (record {
                  front = line ∷ t.own;
                  line = b.0;
                  behind = late.1;
                  parts = ap (λ (ls : List (List ℕ)). line ∷ ls) (t.parts ∙ ap (λ (ls : List (List ℕ)). t.own ++ ls) b.1);
                  counted = omega (arith, t.number);
                  holds = b.2;
                }))
          ])
    ]

-- ---- hunks that follow each other

begun : (p : Ahead) → begins_hunk p.rest ≡ true → (line : List ℕ) × (rest : List (List ℕ)) × (p.rest ≡ line ∷ rest) × (is_command line ≡ true)
begun p e = by p.rest refl e
  where
    both : (x y : Bool) → (x && y) ≡ true → x ≡ true
    both true y e = refl
    both false y e = absurd cc

    by : (ls : List (List ℕ)) → p.rest ≡ ls → begins_hunk ls ≡ true → (line : List ℕ) × (rest : List (List ℕ)) × (p.rest ≡ line ∷ rest) × (is_command line ≡ true)
    by [] is e = absurd cc
    by (line ∷ rest) is e = (line, rest, is, both (is_command line) (begins_marked rest) e)

first_breaks : (least : ℕ) (p : Ahead) (e : Fault) → begins_hunk p.rest ≡ true → hunk_at least p ≡ Err e → e.kind ≢ kinds.ShortEnd → NamesLine (OfHunk least e.kind) p.number p.rest e.line
first_breaks least p e begins h long =
    let b = begun p begins in
    subst (λ (ls : List (List ℕ)). NamesLine (OfHunk least e.kind) p.number ls e.line) (sym b.2) (hunk_breaks least p.number b.0 b.1 e b.3 (subst (λ (ls : List (List ℕ)). first_hunk least p.number ls ≡ Err e) b.2 h) long)

hunks_break : (most least : ℕ) (p : Ahead) (e : Fault) → hunks_at most least p ≡ Err e → e.kind ≢ kinds.ShortEnd → NamesLine (IsAtFault least e.kind) p.number p.rest e.line
unfolding hunks_by
hunks_break zero least p e h long = absurd cc
hunks_break (suc most) least p e h long =
    elim (chosen (begins_hunk p.rest) _ _ (Err e) h) [
      | inl some ↦ elim (bind_err (hunk_at least p) (more_hunks begins_hunk hunk_at most) e some.1) [
        | inl bad ↦ named-past (OfHunk least e.kind) (IsAtFault least e.kind) [] p.number p.number p.rest p.rest e.line refl (omega arith) (λ front line behind same holds. ([], [], front, refl, refl, holds)) (first_breaks least p e some.0 bad long)
        | inr good ↦ (
            let x = good.0 in
            let t = hunk_takes least p.number p.rest x good.1 in
            named-past (IsAtFault x.0.old_start e.kind) (IsAtFault least e.kind) t.own p.number x.1.number p.rest x.1.rest e.line t.parts t.number
            (λ front line behind same a. (x.0 ∷ a.0, t.own ++ a.1, a.2, ap (λ (ls : List (List ℕ)). t.own ++ ls) a.3 ∙ sym (append_assoc t.own a.1 a.2), (t.own, a.1, refl, t.spelled, a.4), a.5))
            (hunks_break most x.0.old_start x.1 e (add_err x.0 (hunks_at most x.0.old_start x.1) e good.2) long))
      ]
      | inr none ↦ absurd (let bad : Ok ([], p) ≡ failed {A = List PlainHunk × Ahead} e = none.1 in cc)
    ]

pub fault-named : (number : ℕ) (lines : List (List ℕ)) (e : Fault) → reading number lines ≡ Err e → e.kind ≢ kinds.ShortEnd → NamesLine (IsAtFault 0 e.kind) number lines e.line
fault-named number lines e h long = hunks_break (length lines) 0 (ahead number lines) e h long
