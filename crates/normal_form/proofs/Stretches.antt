-- Lines of a side that are read are spelled so, and what is spelled so is read.
use Rattle.std.proofs.Common.{◌≡◌, ℕ, zero, suc, ◌+◌, ◌-◌, true, false, eqb, List, [], ◌∷◌, ◌++◌, length, take, Option, None, Some, Ok, refl, sym, ap, subst, ◌∙◌, append_assoc, arith, inl, inr}
use Rattle.std.proofs.lemmas.Bool.{eqb-true}
use Rattle.std.proofs.lemmas.List.{length-append, append-nil}
use Rattle.hunk_core.specs.declared.Side.{Side}
use Rattle.hunk_core.specs.declared.Side.TheVariants.{Forward, Reversed}
use Rattle.hunk_core.specs.PlainHunk.{Marked}
use Rattle.hunk_core.specs.LineTests.{after, marked, unended, is_backslash, after_backslash}
use Rattle.hunk_core.specs.Reading.{Ahead, ahead}
use Rattle.hunk_core.proofs.ReadSteps.{bind_ok, must_ok, ok_is}
use Rattle.line_list.proofs.Choices.{chosen}
use Rattle.hunk_core.proofs.TextLemmas.{after-takes, after-again}
use Rattle.hunk_core.specs.Sides.{own_mark}
use Rattle.hunk_core.proofs.Agreeing.{after_backslash-some}
use Rattle.normal_form.specs.Stretches.{marks, must_be_marked, marked_at, ended_by, first_line, line_at, stretch_at, is_divider}
use Rattle.normal_form.specs.Grammar.{on_side, SpellsLine, SpellsStretch}

-- ---- one line

pub marked-ok : (number : ℕ) (side : Side) (line : List ℕ) (o : Option (List ℕ)) (m : Marked) → must_be_marked number side line o ≡ Ok m → (bytes : List ℕ) × (o ≡ Some bytes) × (marked (own_mark side) bytes ≡ m)
marked-ok number side line None m e = absurd cc
marked-ok number side line (Some bytes) m e = (bytes, refl, cc)

-- what a line took from what is ahead
pub record TakesLine (side : Side) (left : ℕ) (p : Ahead) (x : Marked × Ahead) : Type 0 where
  pub own : List (List ℕ)
  pub line : List ℕ
  pub parts : p.rest ≡ own ++ x.1.rest
  pub number : x.1.number ≡ p.number + length own
  pub is : x.0 ≡ marked (own_mark side) line
  pub spelled : (others : List (List ℕ)) → length others ≡ left → SpellsLine side own line others

pub none-left : (others : List (List ℕ)) → length others ≡ 0 → others ≡ []
none-left [] e = refl
none-left (l ∷ ls) e = absurd (omega (arith, e))

line_ends : (side : Side) (line bytes : List ℕ) (left number : ℕ) (rest : List (List ℕ)) (o : Option (List (List ℕ))) (x : Marked × Ahead) → line ≡ marks side ++ bytes → after_backslash rest ≡ o
    → ended_by (marked (own_mark side) bytes) left (ahead (number + 1) rest) o ≡ Ok x → TakesLine side left (ahead number (line ∷ rest)) x
line_ends side line bytes left number rest None x shows e h =
    subst (TakesLine side left (ahead number (line ∷ rest))) (ok_is _ _ h) (record { own = line ∷ []; line = bytes; parts = refl; number = refl; is = refl; spelled = λ others same. shows })
line_ends side line bytes left number rest (Some more) x shows e h =
    let g = must_ok (eqb left 0) _ (unended (marked (own_mark side) bytes), ahead (number + 1 + 1) more) x h in
    let b = after_backslash-some rest more e in
    subst (TakesLine side left (ahead number (line ∷ rest))) g.1 (record {
      own = line ∷ b.0 ∷ [];
      line = take (length bytes - 1) bytes;
      parts = ap (λ (r : List (List ℕ)). line ∷ r) b.1;
      number = omega arith;
      is = refl;
      spelled = λ others same. (b.2, none-left others (same ∙ eqb-true left 0 g.0), bytes, shows, refl);
    })

pub line_takes : (side : Side) (left number : ℕ) (rest : List (List ℕ)) (x : Marked × Ahead) → first_line side left number rest ≡ Ok x → TakesLine side left (ahead number rest) x
unfolding first_line
line_takes side left number [] x h = absurd cc
line_takes side left number (line ∷ rest) x h =
    let a = bind_ok (marked_at number side line) (λ m. ended_by m left (ahead (number + 1) rest) (after_backslash rest)) x h in
    let m = marked-ok number side line (after (marks side) line) a.0 a.1 in
    line_ends side line m.0 left number rest (after_backslash rest) x (after-takes (marks side) line m.0 m.1) refl
    (subst (λ (y : Marked). ended_by y left (ahead (number + 1) rest) (after_backslash rest) ≡ Ok x) (sym m.2) a.2)

-- ---- a stretch

pub record TakesStretch (side : Side) (left : ℕ) (before : List Marked) (p : Ahead) (x : List Marked × Ahead) : Type 0 where
  pub own : List (List ℕ)
  pub ls : List (List ℕ)
  pub parts : p.rest ≡ own ++ x.1.rest
  pub number : x.1.number ≡ p.number + length own
  pub is : x.0 ≡ before ++ on_side side ls
  pub counts : length ls ≡ left
  pub spelled : SpellsStretch side own ls

stretch_none : (side : Side) (before : List Marked) (p : Ahead) → TakesStretch side 0 before p (before, p)
stretch_none side before p = record { own = []; ls = []; parts = refl; number = omega arith; is = sym (append-nil before); counts = refl; spelled = refl }

stretch_more : (side : Side) (left : ℕ) (before : List Marked) (p : Ahead) (x : Marked × Ahead) (y : List Marked × Ahead) → TakesLine side left p x → TakesStretch side left (before ++ x.0 ∷ []) x.1 y → TakesStretch side (suc left) before p y
stretch_more side left before p x y one more = record {
  own = one.own ++ more.own;
  ls = one.line ∷ more.ls;
  parts = one.parts ∙ ap (λ (r : List (List ℕ)). one.own ++ r) more.parts ∙ sym (append_assoc one.own more.own y.1.rest);
  number = omega (arith, one.number, more.number, length-append one.own more.own);
  is = more.is ∙ append_assoc before (x.0 ∷ []) (on_side side more.ls) ∙ ap (λ m. before ++ m ∷ on_side side more.ls) one.is;
  counts = ap suc more.counts;
  spelled = (one.own, more.own, refl, one.spelled more.ls more.counts, more.spelled);
}

pub stretch_takes : (side : Side) (left : ℕ) (before : List Marked) (p : Ahead) (x : List Marked × Ahead) → stretch_at side left before p ≡ Ok x → TakesStretch side left before p x
unfolding stretch_at
stretch_takes side zero before p x h = subst (TakesStretch side 0 before p) (ok_is _ _ h) (stretch_none side before p)
stretch_takes side (suc left) before p x h =
    let a = bind_ok (line_at side left p) (λ y. stretch_at side left (before ++ y.0 ∷ []) y.1) x h in
    stretch_more side left before p a.0 x (line_takes side left p.number p.rest a.0 a.1) (stretch_takes side left (before ++ a.0.0 ∷ []) a.0.1 x a.2)

-- ---- what is spelled is read

marked-quiet : (side : Side) (bytes : List ℕ) → is_backslash (marks side ++ bytes) ≡ false
unfolding after
marked-quiet Forward bytes = refl
marked-quiet Reversed bytes = refl

starts_quiet : (side : Side) (own tail : List (List ℕ)) (l : List ℕ) (others : List (List ℕ)) → SpellsLine side own l others → after_backslash (own ++ tail) ≡ None
starts_quiet side [] tail l others h = absurd h
starts_quiet side (line ∷ []) tail l others h = rw (h, marked-quiet side l) refl
starts_quiet side (line ∷ mark ∷ []) tail l others h = rw (h.3, marked-quiet side h.2) refl
starts_quiet side (line ∷ mark ∷ other ∷ more) tail l others h = absurd h

pub stretch_quiet : (side : Side) (ls : List (List ℕ)) (piece rest : List (List ℕ)) → SpellsStretch side piece ls → after_backslash rest ≡ None → after_backslash (piece ++ rest) ≡ None
stretch_quiet side [] piece rest h none = rw h none
stretch_quiet side (l ∷ ls) piece rest h none = rw (h.2, append_assoc h.0 h.1 rest) (starts_quiet side h.0 (h.1 ++ rest) l ls h.3)

line_again : (side : Side) (own tail : List (List ℕ)) (l : List ℕ) (others : List (List ℕ)) (number : ℕ) → SpellsLine side own l others → after_backslash tail ≡ None → first_line side (length others) number (own ++ tail) ≡ Ok (marked (own_mark side) l, ahead (number + length own) tail)
unfolding first_line
line_again side [] tail l others number h none = absurd h
line_again side (line ∷ []) tail l others number h none = rw (h, after-again (marks side) l, none) refl
line_again side (line ∷ mark ∷ []) tail l others number h none = let two : number + 1 + 1 ≡ number + 2 = omega arith in rw (h.1, h.3, after-again (marks side) h.2, h.0, h.4, two) refl
line_again side (line ∷ mark ∷ other ∷ more) tail l others number h none = absurd h

pub stretch_again : (side : Side) (ls : List (List ℕ)) (piece rest : List (List ℕ)) (number : ℕ) (before : List Marked) → SpellsStretch side piece ls → after_backslash rest ≡ None
    → stretch_at side (length ls) before (ahead number (piece ++ rest)) ≡ Ok (before ++ on_side side ls, ahead (number + length piece) rest)
unfolding stretch_at
stretch_again side [] piece rest number before h none =
    let same : number + 0 ≡ number = omega arith in
    rw (h, same, append-nil before) refl
stretch_again side (l ∷ ls) piece rest number before h none =
    let own = h.0 in
    let more = h.1 in
    let parts : piece ++ rest ≡ own ++ (more ++ rest) = ap (λ (p : List (List ℕ)). p ++ rest) h.2 ∙ append_assoc own more rest in
    let one : first_line side (length ls) number (own ++ (more ++ rest)) ≡ Ok (marked (own_mark side) l, ahead (number + length own) (more ++ rest)) = line_again side own (more ++ rest) l ls number h.3 (stretch_quiet side ls more rest h.4 none) in
    let others : stretch_at side (length ls) (before ++ marked (own_mark side) l ∷ []) (ahead (number + length own) (more ++ rest)) ≡ Ok ((before ++ marked (own_mark side) l ∷ []) ++ on_side side ls, ahead (number + length own + length more) rest) =
    stretch_again side ls more rest (number + length own) (before ++ marked (own_mark side) l ∷ []) h.4 none in
    let lines : number + length own + length more ≡ number + length piece = omega (arith, length-append own more, ap length h.2) in
    ap (λ (p : List (List ℕ)). stretch_at side (suc (length ls)) before (ahead number p)) parts
    ∙ rw (one, others, lines, append_assoc before (marked (own_mark side) l ∷ []) (on_side side ls)) refl

-- ---- the line between

pub divider-quiet : (line : List ℕ) → is_divider line ≡ true → is_backslash line ≡ false
unfolding after
divider-quiet [] e = absurd cc
divider-quiet (b ∷ bytes) e =
    elim (chosen (eqb b 92) true false _ refl) [
      | inl slash ↦ absurd (let is : b ≡ 92 = eqb-true b 92 slash.0 in let bad : is_divider (92 ∷ bytes) ≡ true = subst (λ k. is_divider (k ∷ bytes) ≡ true) is e in cc)
      | inr other ↦ rw other.0 refl
    ]
