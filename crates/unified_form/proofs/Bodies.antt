-- A body that is read is spelled so, and what is spelled so is read.
use Rattle.std.proofs.Common.{◌≡◌, ℕ, zero, suc, ◌+◌, ◌-◌, ◌≤◌, ◌<◌, true, false, eqb, ◌||◌, List, [], ◌∷◌, ◌++◌, length, Option, None, Some, Ok, refl, sym, ap, subst, ◌∙◌, append_assoc, arith, inl, inr}
use Rattle.std.proofs.lemmas.Bool.{eqb-true, eqb-false, or_cases, or_parts}
use Rattle.std.proofs.lemmas.List.{length-append}
use Rattle.hunk_core.specs.declared.Mark.{Mark}
use Rattle.hunk_core.specs.declared.Mark.TheVariants.{Keep, Drop, Add}
use Rattle.hunk_core.specs.PlainHunk.{Marked}
use Rattle.hunk_core.specs.Reading.{◌>>=◌, Ahead, ahead}
use Rattle.hunk_core.proofs.Agreeing.{after_backslash-some}
use Rattle.unified_form.specs.declared.body.Left.{Left}
use Rattle.hunk_core.specs.LineTests.{after}
use Rattle.unified_form.specs.Bodies.{mark_at, is_last_line, must_be_marked, marked_at, room_at, ended_by, first_line, line_at, body_at}
use Rattle.hunk_core.specs.LineTests.{marked, is_backslash, after_backslash, unended}
use Rattle.unified_form.specs.Grammar.{mark_byte, LostBlank, Shows, one_more, counts_of, SpellsLine, SpellsBody}
use Rattle.unified_form.proofs.Loops.{body_empty}
use Rattle.hunk_core.proofs.ReadSteps.{bind_ok, guard_ok, must_ok, ok_is}
use Rattle.line_list.proofs.Choices.{chosen}

-- ---- one line

some_is : (x y : Marked) (o : Option Marked) → o ≡ Some x → o ≡ Some y → x ≡ y
some_is x y o e f = cc

pub mark_at-shows : (line : List ℕ) (m : Marked) → mark_at line ≡ Some m → Shows line m
mark_at-shows [] m e = absurd cc
mark_at-shows (b ∷ bytes) m e =
    elim (chosen (eqb b 32) _ _ (Some m) e) [
      | inl keep ↦ inl (rw (← some_is _ _ (Some m) (sym keep.1) refl, eqb-true b 32 keep.0) refl)
      | inr e1 ↦ elim (chosen (eqb b 45) _ _ (Some m) e1.1) [
        | inl drop ↦ inl (rw (← some_is _ _ (Some m) (sym drop.1) refl, eqb-true b 45 drop.0) refl)
        | inr e2 ↦ elim (chosen (eqb b 43) _ _ (Some m) e2.1) [
          | inl add ↦ inl (rw (← some_is _ _ (Some m) (sym add.1) refl, eqb-true b 43 add.0) refl)
          | inr e3 ↦ elim (chosen (eqb b 10 || eqb b 9) _ _ (Some m) e3.1) [
            | inl lost ↦ inr (elim (or_cases (eqb b 10) (eqb b 9) lost.0) [ inl feed ↦ inl (eqb-true b 10 feed) | inr tab ↦ inr (eqb-true b 9 tab) ], some_is _ _ (Some m) refl (sym lost.1))
            | inr other ↦ absurd cc
          ]
        ]
      ]
    ]

by_mark : (mark : Mark) (line : List ℕ) → mark_at (mark_byte mark ∷ line) ≡ Some (marked mark line)
by_mark Keep line = refl
by_mark Drop line = refl
by_mark Add line = refl

lost_mark : (line : List ℕ) → LostBlank line → mark_at line ≡ Some (marked Keep line)
lost_mark [] h = absurd h
lost_mark (b ∷ bytes) (inl feed) = rw feed refl
lost_mark (b ∷ bytes) (inr tab) = rw tab refl

pub shows-mark_at : (line : List ℕ) (m : Marked) → Shows line m → mark_at line ≡ Some m
shows-mark_at line m (inl e) = rw e (by_mark m.mark m.line)
shows-mark_at line m (inr h) = rw h.1 (lost_mark line h.0)

no_backslash_byte : (mark : Mark) (line : List ℕ) → is_backslash (mark_byte mark ∷ line) ≡ false
unfolding after
no_backslash_byte Keep line = refl
no_backslash_byte Drop line = refl
no_backslash_byte Add line = refl

lost_no_backslash : (line : List ℕ) → LostBlank line → is_backslash line ≡ false
unfolding after
lost_no_backslash [] h = absurd h
lost_no_backslash (b ∷ bytes) (inl feed) = rw feed refl
lost_no_backslash (b ∷ bytes) (inr tab) = rw tab refl

pub shows-no_backslash : (line : List ℕ) (m : Marked) → Shows line m → is_backslash line ≡ false
shows-no_backslash line m (inl e) = rw e (no_backslash_byte m.mark m.line)
shows-no_backslash line m (inr h) = lost_no_backslash line h.0

pub marked-ok : (number : ℕ) (line : List ℕ) (o : Option Marked) (m : Marked) → must_be_marked number line o ≡ Ok m → o ≡ Some m
marked-ok number line None m e = absurd cc
marked-ok number line (Some x) m e = cc

-- ---- what is left

abbrev pub made : ℕ → ℕ → Left
made o n = record { old = o; new = n }

not_zero : (a : ℕ) → eqb a 0 ≡ false → 0 < a
not_zero a e = let ne = eqb-false a 0 e in omega arith

pub is_left : (a b c d : ℕ) → a ≡ c → b ≡ d → made a b ≡ made c d
is_left a b c d e f = rw (e, f) refl

pub room-back : (number : ℕ) (mark : Mark) (before room : Left) → room_at number mark before ≡ Ok room → before ≡ one_more mark room
room-back number Keep before room e =
    let g = guard_ok _ _ (made (before.old - 1) (before.new - 1)) room e in
    let z = or_parts (eqb before.old 0) (eqb before.new 0) g.0 in
    let o : before.old - 1 ≡ room.old = ap (λ (r : Left). r.old) g.1 in
    let n : before.new - 1 ≡ room.new = ap (λ (r : Left). r.new) g.1 in
    is_left before.old before.new (room.old + 1) (room.new + 1) (omega (arith, not_zero before.old z.0)) (omega (arith, not_zero before.new z.1))
room-back number Drop before room e =
    let g = guard_ok _ _ (made (before.old - 1) before.new) room e in
    let o : before.old - 1 ≡ room.old = ap (λ (r : Left). r.old) g.1 in
    let n : before.new ≡ room.new = ap (λ (r : Left). r.new) g.1 in
    is_left before.old before.new (room.old + 1) room.new (omega (arith, not_zero before.old g.0)) n
room-back number Add before room e =
    let g = guard_ok _ _ (made before.old (before.new - 1)) room e in
    let o : before.old ≡ room.old = ap (λ (r : Left). r.old) g.1 in
    let n : before.new - 1 ≡ room.new = ap (λ (r : Left). r.new) g.1 in
    is_left before.old before.new room.old (room.new + 1) o (omega (arith, not_zero before.new g.0))

more_than_none : (a : ℕ) → eqb (a + 1) 0 ≡ false
more_than_none a = grind arith

one_back : (a : ℕ) → a + 1 - 1 ≡ a
one_back a = omega arith

pub room-again : (number : ℕ) (mark : Mark) (room : Left) → room_at number mark (one_more mark room) ≡ Ok room
room-again number Keep room = rw (more_than_none room.old, more_than_none room.new, one_back room.old, one_back room.new) refl
room-again number Drop room = rw (more_than_none room.old, one_back room.old) refl
room-again number Add room = rw (more_than_none room.new, one_back room.new) refl

-- ---- one line, and a backslash line behind it

-- what a line took from what is ahead
pub record TakesLine (before : Left) (p : Ahead) (x : Marked × Left × Ahead) : Type 0 where
  pub own : List (List ℕ)
  pub parts : p.rest ≡ own ++ x.2.rest
  pub number : x.2.number ≡ p.number + length own
  pub counts : before ≡ one_more x.0.mark x.1
  pub spelled : (body : List Marked) → counts_of body ≡ x.1 → SpellsLine own x.0 body

line_ends : (line : List ℕ) (m : Marked) (before room : Left) (number : ℕ) (rest : List (List ℕ)) (o : Option (List (List ℕ))) (x : Marked × Left × Ahead) → Shows line m → before ≡ one_more m.mark room → after_backslash rest ≡ o
    → ended_by number m room rest o ≡ Ok x → TakesLine before (ahead number (line ∷ rest)) x
line_ends line m before room number rest None x shows counts e h =
    subst (λ (y : Marked × Left × Ahead). TakesLine before (ahead number (line ∷ rest)) y) (ok_is _ _ h) (record { own = line ∷ []; parts = refl; number = refl; counts = counts; spelled = λ body same. shows })
line_ends line m before room number rest (Some more) x shows counts e h =
    let g = must_ok (is_last_line m.mark room) _ (unended m, room, ahead (number + 2) more) x h in
    let b = after_backslash-some rest more e in
    subst (λ (y : Marked × Left × Ahead). TakesLine before (ahead number (line ∷ rest)) y) g.1 (record { own = line ∷ b.0 ∷ []; parts = ap (λ (r : List (List ℕ)). line ∷ r) b.1; number = refl; counts = counts; spelled = λ body same. (b.2, rw same g.0, m, shows, refl) })

pub line_takes : (before : Left) (number : ℕ) (rest : List (List ℕ)) (x : Marked × Left × Ahead) → first_line before number rest ≡ Ok x → TakesLine before (ahead number rest) x
unfolding first_line
line_takes before number [] x h = absurd cc
line_takes before number (line ∷ rest) x h =
    let a = bind_ok (marked_at number line) (λ m. room_at number m.mark before >>= λ room. ended_by number m room rest (after_backslash rest)) x h in
    let b = bind_ok (room_at number a.0.mark before) (λ room. ended_by number a.0 room rest (after_backslash rest)) x a.2 in
    line_ends line a.0 before b.0 number rest (after_backslash rest) x (mark_at-shows line a.0 (marked-ok number line (mark_at line) a.0 a.1)) (room-back number a.0.mark before b.0 b.1) refl b.2

-- ---- a whole body

pub record TakesBody (before : Left) (p : Ahead) (x : List Marked × Ahead) : Type 0 where
  pub own : List (List ℕ)
  pub parts : p.rest ≡ own ++ x.1.rest
  pub number : x.1.number ≡ p.number + length own
  pub counts : before ≡ counts_of x.0
  pub spelled : SpellsBody own x.0

body_none : (before : Left) (p : Ahead) → before.old + before.new ≡ 0 → TakesBody before p ([], p)
body_none before p none = record { own = []; parts = refl; number = omega arith; counts = is_left before.old before.new 0 0 (omega arith) (omega arith); spelled = refl }

body_more : (before : Left) (p : Ahead) (x : Marked × Left × Ahead) (y : List Marked × Ahead) → TakesLine before p x → TakesBody x.1 x.2 y → TakesBody before p (x.0 ∷ y.0, y.1)
body_more before p x y line body =
    record {
      own = line.own ++ body.own;
      parts = line.parts ∙ ap (λ (r : List (List ℕ)). line.own ++ r) body.parts ∙ sym (append_assoc line.own body.own y.1.rest);
      number = omega (arith, line.number, body.number, length-append line.own body.own);
      counts = line.counts ∙ ap (one_more x.0.mark) body.counts;
      spelled = (line.own, body.own, refl, line.spelled y.0 (sym body.counts), body.spelled);
    }

pub fewer : (mark : Mark) (before room : Left) (most : ℕ) → before ≡ one_more mark room → before.old + before.new ≤ suc most → room.old + room.new ≤ most
fewer Keep before room most e le = omega (arith, ap (λ (r : Left). r.old) e, ap (λ (r : Left). r.new) e)
fewer Drop before room most e le = omega (arith, ap (λ (r : Left). r.old) e, ap (λ (r : Left). r.new) e)
fewer Add before room most e le = omega (arith, ap (λ (r : Left). r.old) e, ap (λ (r : Left). r.new) e)

pub body_takes : (most : ℕ) (before : Left) (p : Ahead) (x : List Marked × Ahead) → before.old + before.new ≤ most → body_at most before p ≡ Ok x → TakesBody before p x
unfolding body_at
body_takes zero before p x enough h = subst (λ (y : List Marked × Ahead). TakesBody before p y) (ok_is _ _ h) (body_none before p (omega arith))
body_takes (suc most) before p x enough h =
    elim (chosen (eqb (before.old + before.new) 0) _ _ (Ok x) h) [
      | inl none ↦ subst (λ (y : List Marked × Ahead). TakesBody before p y) (ok_is _ _ none.1) (body_none before p (eqb-true _ _ none.0))
      | inr some ↦ (
          let a = bind_ok (line_at before p) (λ first. body_at most first.1 first.2 >>= λ others. Ok (first.0 ∷ others.0, others.1)) x some.1 in
          let b = bind_ok (body_at most a.0.1 a.0.2) (λ others. Ok (a.0.0 ∷ others.0, others.1)) x a.2 in
          let line = line_takes before p.number p.rest a.0 a.1 in
          let less : a.0.1.old + a.0.1.new ≤ most = fewer a.0.0.mark before a.0.1 most line.counts enough in
          let others = body_takes most a.0.1 a.0.2 b.0 less b.1 in
          subst (λ (y : List Marked × Ahead). TakesBody before p y) (ok_is _ _ b.2) (body_more before p a.0 b.0 line others))
    ]

-- ---- what is spelled is read

starts_quiet : (own tail : List (List ℕ)) (m : Marked) (body : List Marked) → SpellsLine own m body → after_backslash (own ++ tail) ≡ None
starts_quiet [] tail m body h = absurd h
starts_quiet (line ∷ []) tail m body h = rw (shows-no_backslash line m h) refl
starts_quiet (line ∷ mark ∷ []) tail m body h = rw (shows-no_backslash line h.2 h.3) refl
starts_quiet (line ∷ mark ∷ other ∷ more) tail m body h = absurd h

quiet : (body : List Marked) (piece rest : List (List ℕ)) → SpellsBody piece body → after_backslash rest ≡ None → after_backslash (piece ++ rest) ≡ None
quiet [] piece rest h none = rw h none
quiet (m ∷ body) piece rest h none = rw (h.2, append_assoc h.0 h.1 rest) (starts_quiet h.0 (h.1 ++ rest) m body h.3)

line_again : (own tail : List (List ℕ)) (m : Marked) (body : List Marked) (number : ℕ) → SpellsLine own m body → after_backslash tail ≡ None → first_line (counts_of (m ∷ body)) number (own ++ tail) ≡ Ok (m, counts_of body, ahead (number + length own) tail)
unfolding first_line
line_again [] tail m body number h none = absurd h
line_again (line ∷ []) tail m body number h none = rw (shows-mark_at line m h, room-again number m.mark (counts_of body), none) refl
line_again (line ∷ mark ∷ []) tail m body number h none =
    let full = h.2 in
    let last : is_last_line full.mark (counts_of body) ≡ true = subst (λ (n : Marked). is_last_line n.mark (counts_of body) ≡ true) h.4 h.1 in
    subst (λ (n : Marked). first_line (counts_of (n ∷ body)) number (line ∷ mark ∷ tail) ≡ Ok (n, counts_of body, ahead (number + 2) tail)) (sym h.4)
    (rw (shows-mark_at line full h.3, room-again number full.mark (counts_of body), h.0, last) refl)
line_again (line ∷ mark ∷ other ∷ more) tail m body number h none = absurd h

some_left : (mark : Mark) (room : Left) → eqb ((one_more mark room).old + (one_more mark room).new) 0 ≡ false
some_left Keep room = grind arith
some_left Drop room = grind arith
some_left Add room = grind arith

pub one_line : (mark : Mark) (room : Left) → 0 < (one_more mark room).old + (one_more mark room).new
one_line Keep room = omega arith
one_line Drop room = omega arith
one_line Add room = omega arith

pub body_again : (body : List Marked) (piece rest : List (List ℕ)) (number most : ℕ) → SpellsBody piece body → after_backslash rest ≡ None → (counts_of body).old + (counts_of body).new ≤ most
    → body_at most (counts_of body) (ahead number (piece ++ rest)) ≡ Ok (body, ahead (number + length piece) rest)
unfolding body_at
body_again [] piece rest number most h none enough =
    let same : number + 0 ≡ number = omega arith in
    rw (h, same) (body_empty most (counts_of []) (ahead number rest) refl)
body_again (m ∷ body) piece rest number zero h none enough = absurd (omega (arith, one_line m.mark (counts_of body)))
body_again (m ∷ body) piece rest number (suc most) h none enough =
    let own = h.0 in
    let more = h.1 in
    let parts : piece ++ rest ≡ own ++ (more ++ rest) = ap (λ (p : List (List ℕ)). p ++ rest) h.2 ∙ append_assoc own more rest in
    let one : first_line (counts_of (m ∷ body)) number (own ++ (more ++ rest)) ≡ Ok (m, counts_of body, ahead (number + length own) (more ++ rest)) = line_again own (more ++ rest) m body number h.3 (quiet body more rest h.4 none) in
    let others : body_at most (counts_of body) (ahead (number + length own) (more ++ rest)) ≡ Ok (body, ahead (number + length own + length more) rest) = body_again body more rest (number + length own) most h.4 none (fewer m.mark (counts_of (m ∷ body)) (counts_of body) most refl enough) in
    let lines : number + length own + length more ≡ number + length piece = omega (arith, length-append own more, ap length h.2) in
    ap (λ (p : List (List ℕ)). body_at (suc most) (counts_of (m ∷ body)) (ahead number p)) parts
    ∙ rw (some_left m.mark (counts_of body), one, others, lines) refl
