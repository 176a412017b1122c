-- Hunks that are read are spelled so, and what is spelled so is read.
use Rattle.std.proofs.Common.{◌≡◌, ℕ, ◌+◌, ◌<◌, true, false, eqb, List, [], ◌∷◌, ◌++◌, length, None, Result, Ok, Err, refl, sym, ap, subst, ◌∙◌, append_assoc, arith, inl, inr}
use Rattle.std.specs.Prelude.{IfOk}
use Rattle.std.proofs.lemmas.Bool.{eqb-true, and_parts}
use Rattle.std.proofs.lemmas.List.{length-append, append-nil}
use Rattle.hunk_core.specs.declared.BadKind.{BadKind}
use Rattle.hunk_core.specs.declared.fault.FormFault.{FormFault}
use Rattle.hunk_core.specs.declared.Side.{Side}
use Rattle.hunk_core.specs.declared.Side.TheVariants.{Forward, Reversed}
use Rattle.hunk_core.specs.PlainHunk.{Marked, PlainHunk}
use Rattle.hunk_core.specs.LineTests.{after, is_backslash, after_backslash}
use Rattle.hunk_core.specs.Reading.{Fault, Gives, ◌>>=◌, Ahead, ahead}
use Rattle.hunk_core.proofs.ReadSteps.{bind_ok, guard_ok, must_ok, ok_is}
use Rattle.line_list.proofs.Choices.{chosen}
use Rattle.num_text.specs.NumberRanges.{range_at}
use Rattle.hunk_core.specs.declared.command.Action.{Action}
use Rattle.hunk_core.specs.declared.command.Action.TheVariants.{Add, Change, Delete}
use Rattle.hunk_core.specs.Refusals.{settled}
use Rattle.hunk_core.proofs.OptionLemmas.{is_none}
use Rattle.hunk_core.proofs.SideLemmas.{hunk_is}
use Rattle.hunk_core.proofs.Grammars.{TakesHunk, IsGrammar, piece-alike, reading_takes, piece_reads}
use Rattle.normal_form.specs.declared.command.Command.{Command}
use Rattle.normal_form.specs.Commands.{takes_lines, parts_at, opening, is_command}
use Rattle.normal_form.specs.Stretches.{marks, stretch_at, is_divider, first_divider, divider_at}
use Rattle.normal_form.specs.Hunks.{at_line, body_at, change, first_hunk, hunk_at, is_marked, begins_marked, begins_hunk, reading}
use Rattle.normal_form.specs.Grammar.{on_side, SpellsLine, SpellsStretch, SpellsBody, SpellsSpan, command_of, SpellsCommand, AreFair, SpellsHunk, IsPiece}
use Rattle.normal_form.proofs.CommandGrammar.{opening-takes, opening-again, opening-is, command_is}
use Rattle.normal_form.proofs.Stretches.{TakesStretch, stretch_takes, stretch_again, divider-quiet, none-left}
use Rattle.normal_form.proofs.Unbroken.{span-some}
use Rattle.normal_form.proofs.Words.{mark-is}

-- ---- the lines of a hunk

pub divider_takes : (number : ℕ) (rest : List (List ℕ)) (z : Unit {0} × Ahead) → first_divider number rest ≡ Ok z → (line : List ℕ) × (rest ≡ line ∷ z.1.rest) × (z.1.number ≡ number + 1) × (is_divider line ≡ true)
unfolding first_divider
divider_takes number [] z h = absurd cc
divider_takes number (line ∷ rest) z h =
    let g = must_ok (is_divider line) _ (tt, ahead (number + 1) rest) z h in
    (line, ap (λ (y : Unit {0} × Ahead). line ∷ y.1.rest) g.1, sym (ap (λ (y : Unit {0} × Ahead). y.1.number) g.1), g.0)

-- a command for one side alone counts no lines of the other
abbrev pub CountsNone : Action → ℕ → ℕ → Type 0
CountsNone Add old new = old ≡ 0
CountsNone Change old new = Unit {0}
CountsNone Delete old new = new ≡ 0

pub record TakesBody (action : Action) (old new : ℕ) (p : Ahead) (x : List Marked × Ahead) : Type 0 where
  pub own : List (List ℕ)
  pub olds : List (List ℕ)
  pub news : List (List ℕ)
  pub parts : p.rest ≡ own ++ x.1.rest
  pub number : x.1.number ≡ p.number + length own
  pub is : x.0 ≡ on_side Forward olds ++ on_side Reversed news
  pub old_count : length olds ≡ old
  pub new_count : length news ≡ new
  pub spelled : SpellsBody action own olds news

pub empty-piece : (side : Side) (piece ls : List (List ℕ)) → ls ≡ [] → SpellsStretch side piece ls → piece ≡ []
empty-piece side piece ls e s = subst (SpellsStretch side piece) e s

body_by : (action : Action) (old new : ℕ) (p : Ahead) (y : List Marked × Ahead) (z : Unit {0} × Ahead) (x : List Marked × Ahead) → CountsNone action old new → TakesStretch Forward old [] p y → divider_at action y.1 ≡ Ok z → TakesStretch Reversed new y.0 z.1 x → TakesBody action old new p x
body_by Add old new p y z x none a d b =
    let olds : a.ls ≡ [] = none-left a.ls (a.counts ∙ none) in
    let own : a.own ≡ [] = empty-piece Forward a.own a.ls olds a.spelled in
    let same : (tt, y.1) ≡ z = ok_is _ _ d in
    let rest : y.1.rest ≡ z.1.rest = ap (λ (w : Unit {0} × Ahead). w.1.rest) same in
    let number : y.1.number ≡ z.1.number = ap (λ (w : Unit {0} × Ahead). w.1.number) same in
    record {
      own = b.own;
      olds = a.ls;
      news = b.ls;
      parts = a.parts ∙ ap (λ (o : List (List ℕ)). o ++ y.1.rest) own ∙ rest ∙ b.parts;
      number = omega (arith, a.number, b.number, number, ap length own);
      is = b.is ∙ ap (λ ms. ms ++ on_side Reversed b.ls) a.is;
      old_count = a.counts;
      new_count = b.counts;
      spelled = (olds, b.spelled);
    }
body_by Change old new p y z x none a d b =
    let t = divider_takes y.1.number y.1.rest z d in
    record {
      own = a.own ++ t.0 ∷ b.own;
      olds = a.ls;
      news = b.ls;
      parts = a.parts ∙ ap (λ (r : List (List ℕ)). a.own ++ r) (t.1 ∙ ap (λ (r : List (List ℕ)). t.0 ∷ r) b.parts) ∙ sym (append_assoc a.own (t.0 ∷ b.own) x.1.rest);
      number = omega (arith, a.number, b.number, t.2, length-append a.own (t.0 ∷ b.own));
      is = b.is ∙ ap (λ ms. ms ++ on_side Reversed b.ls) a.is;
      old_count = a.counts;
      new_count = b.counts;
      spelled = (a.own, t.0, b.own, refl, a.spelled, t.3, b.spelled);
    }
body_by Delete old new p y z x none a d b =
    let news : b.ls ≡ [] = none-left b.ls (b.counts ∙ none) in
    let own : b.own ≡ [] = empty-piece Reversed b.own b.ls news b.spelled in
    let same : (tt, y.1) ≡ z = ok_is _ _ d in
    let rest : y.1.rest ≡ z.1.rest = ap (λ (w : Unit {0} × Ahead). w.1.rest) same in
    let number : y.1.number ≡ z.1.number = ap (λ (w : Unit {0} × Ahead). w.1.number) same in
    record {
      own = a.own;
      olds = a.ls;
      news = b.ls;
      parts = a.parts ∙ ap (λ (r : List (List ℕ)). a.own ++ r) (rest ∙ b.parts ∙ ap (λ (o : List (List ℕ)). o ++ x.1.rest) own);
      number = omega (arith, a.number, b.number, number, ap length own);
      is = b.is ∙ ap (λ ms. ms ++ on_side Reversed b.ls) a.is;
      old_count = a.counts;
      new_count = b.counts;
      spelled = (a.spelled, news);
    }

pub body_takes : (c : Command) (p : Ahead) (x : List Marked × Ahead) → CountsNone c.action c.old_count c.new_count → body_at c p ≡ Ok x → TakesBody c.action c.old_count c.new_count p x
unfolding body_at
body_takes c p x none h =
    let a = bind_ok (stretch_at Forward c.old_count [] p) (λ old. divider_at c.action old.1 >>= λ middle. stretch_at Reversed c.new_count old.0 middle.1) x h in
    let d = bind_ok (divider_at c.action a.0.1) (λ middle. stretch_at Reversed c.new_count a.0.0 middle.1) x a.2 in
    body_by c.action c.old_count c.new_count p a.0 d.0 x none (stretch_takes Forward c.old_count [] p a.0 a.1) d.1 (stretch_takes Reversed c.new_count a.0.0 d.0.1 x d.2)

pub no-lines : (side : Side) (n : ℕ) (before : List Marked) (p : Ahead) → n ≡ 0 → stretch_at side n before p ≡ Ok (before, p)
unfolding stretch_at
no-lines side n before p e = rw e refl

divider-step : (number : ℕ) (line : List ℕ) (rest : List (List ℕ)) → is_divider line ≡ true → first_divider number (line ∷ rest) ≡ Ok (tt, ahead (number + 1) rest)
unfolding first_divider
divider-step number line rest e = rw e refl

abbrev body_with : Action → ℕ → ℕ → Ahead → Result (List Marked × Ahead) Fault
body_with action old new p = stretch_at Forward old [] p >>= λ y. divider_at action y.1 >>= λ z. stretch_at Reversed new y.0 z.1

with_again : (action : Action) (piece rest olds news : List (List ℕ)) (number : ℕ) → SpellsBody action piece olds news → after_backslash rest ≡ None
    → body_with action (length olds) (length news) (ahead number (piece ++ rest)) ≡ Ok (on_side Forward olds ++ on_side Reversed news, ahead (number + length piece) rest)
with_again Add piece rest olds news number s none =
    rw (s.0, no-lines Forward 0 [] (ahead number (piece ++ rest)) refl, stretch_again Reversed news piece rest number [] s.1 none) refl
with_again Change piece rest olds news number s none =
    let old = s.0 in
    let line = s.1 in
    let new = s.2 in
    let parts : piece ++ rest ≡ old ++ (line ∷ (new ++ rest)) = ap (λ (p : List (List ℕ)). p ++ rest) s.3 ∙ append_assoc old (line ∷ new) rest in
    let quiet : after_backslash (line ∷ (new ++ rest)) ≡ None = rw (divider-quiet line s.5) refl in
    let one = stretch_again Forward olds old (line ∷ (new ++ rest)) number [] s.4 quiet in
    let two = divider-step (number + length old) line (new ++ rest) s.5 in
    let three = stretch_again Reversed news new rest (number + length old + 1) (on_side Forward olds) s.6 none in
    let count : number + length old + 1 + length new ≡ number + length piece = omega (arith, ap length s.3, length-append old (line ∷ new)) in
    ap (λ (p : List (List ℕ)). body_with Change (length olds) (length news) (ahead number p)) parts ∙ rw (one, two, three, count) refl
with_again Delete piece rest olds news number s none =
    rw (s.1, stretch_again Forward olds piece rest number [] s.0 none, no-lines Reversed 0 (on_side Forward olds) (ahead (number + length piece) rest) refl, append-nil (on_side Forward olds)) refl

pub body_again : (c : Command) (piece rest olds news : List (List ℕ)) (number : ℕ) → c.old_count ≡ length olds → c.new_count ≡ length news → SpellsBody c.action piece olds news → after_backslash rest ≡ None
    → body_at c (ahead number (piece ++ rest)) ≡ Ok (on_side Forward olds ++ on_side Reversed news, ahead (number + length piece) rest)
unfolding body_at
body_again c piece rest olds news number old new s none = rw (old, new) (with_again c.action piece rest olds news number s none)

-- ---- how a hunk begins

stretch-first : (side : Side) (piece tail ls : List (List ℕ)) → SpellsStretch side piece ls → 0 < length ls → begins_marked (piece ++ tail) ≡ true
stretch-first side piece tail [] s some = absurd (omega (arith, some))
stretch-first side piece tail (l ∷ ls) s some = rw (s.2, append_assoc s.0 s.1 tail) (first s.0 s.3)
  where
    shows : (line bytes : List ℕ) → line ≡ marks side ++ bytes → is_marked line ≡ true
    shows line bytes e = rw e (mark-is side bytes)

    first : (own : List (List ℕ)) → SpellsLine side own l ls → begins_marked (own ++ (s.1 ++ tail)) ≡ true
    first [] h = absurd h
    first (line ∷ []) h = shows line l h
    first (line ∷ mark ∷ []) h = shows line h.2 h.3
    first (line ∷ mark ∷ other ∷ more) h = absurd h

body-first : (action : Action) (piece tail olds news : List (List ℕ)) (old new : List ℕ) (a m : ℕ) → SpellsBody action piece olds news → SpellsSpan old (takes_lines action Forward) a (length olds) → SpellsSpan new (takes_lines action Reversed) m (length news) → begins_marked (piece ++ tail) ≡ true
body-first Add piece tail olds news old new a m s o n = stretch-first Reversed piece tail news s.1 (span-some new m (length news) n)
body-first Change piece tail olds news old new a m s o n = rw (s.3, append_assoc s.0 (s.1 ∷ s.2) tail) (stretch-first Forward s.0 ((s.1 ∷ s.2) ++ tail) olds s.4 (span-some old a (length olds) o))
body-first Delete piece tail olds news old new a m s o n = stretch-first Forward piece tail olds s.0 (span-some old a (length olds) o)

pub counts-none : (action : Action) (old new : List ℕ) (a b m n : ℕ) → SpellsSpan old (takes_lines action Forward) a b → SpellsSpan new (takes_lines action Reversed) m n → CountsNone action b n
counts-none Add old new a b m n s t = s.1
counts-none Change old new a b m n s t = tt
counts-none Delete old new a b m n s t = t.1

command-quiet : (line : List ℕ) → is_command line ≡ true → is_backslash line ≡ false
unfolding parts_at range_at after
command-quiet [] e = refl
command-quiet (b ∷ bytes) e =
    elim (chosen (eqb b 92) true false _ refl) [
      | inl slash ↦ absurd (let is : b ≡ 92 = eqb-true b 92 slash.0 in let bad : is_command (92 ∷ bytes) ≡ true = subst (λ k. is_command (k ∷ bytes) ≡ true) is e in cc)
      | inr other ↦ rw other.0 refl
    ]

-- ---- one hunk

-- a hunk doesn't look at the lines behind it
abbrev pub SpellsIn : ℕ → List (List ℕ) → List (List ℕ) → PlainHunk → Type 0
SpellsIn least own behind h = SpellsHunk least own h

pub at_line-ok : (number : ℕ) (o : Result Command BadKind) (c : Command) → at_line number o ≡ Ok c → o ≡ Ok c
at_line-ok number (Ok q) c e = cc
at_line-ok number (Err kind) c e = absurd cc

pub is_counted : (action : Action) (a b m n e f : ℕ) → e ≡ b → f ≡ n → command_is action a b m n ≡ command_is action a e m f
is_counted action a b m n e f h k = rw (h, k) refl

pub hunk_takes : (least number : ℕ) (rest : List (List ℕ)) (x : PlainHunk × Ahead) → first_hunk least number rest ≡ Ok x → TakesHunk SpellsIn least (ahead number rest) x
unfolding first_hunk
hunk_takes least number [] x h = absurd cc
hunk_takes least number (line ∷ rest) x h =
    let a = bind_ok (at_line number (opening least line)) (λ c. body_at c (ahead (number + 1) rest) >>= λ body. settled (change c body.0) body.1) x h in
    let c = a.0 in
    let b = bind_ok (body_at c (ahead (number + 1) rest)) (λ body. settled (change c body.0) body.1) x a.2 in
    let g = guard_ok _ _ (change c b.0.0, b.0.1) x b.2 in
    let o = opening-takes least line c (at_line-ok number (opening least line) c a.1) in
    let none = counts-none c.action o.0.old o.0.new c.old_start c.old_count c.new_start c.new_count o.0.old_span o.0.new_span in
    let body = body_takes c (ahead (number + 1) rest) b.0 none b.1 in
    let stated : c ≡ command_of c.action (change c b.0.0) body.olds body.news = is_counted c.action c.old_start c.old_count c.new_start c.new_count (length body.olds) (length body.news) body.old_count body.new_count in
    subst (TakesHunk SpellsIn least (ahead number (line ∷ rest))) g.1 (record {
      own = line ∷ body.own;
      parts = ap (λ (r : List (List ℕ)). line ∷ r) body.parts;
      number = omega (arith, body.number);
      spelled = (c.action, body.olds, body.news, body.is, subst (SpellsCommand line) stated o.0, subst (AreFair least) stated o.1, body.spelled);
      quiet = is_none (after_backslash b.0.1.rest) g.0;
    })

first-step : (least number : ℕ) (line : List ℕ) (rest more : List (List ℕ)) (c : Command) (body : List Marked) (after_number : ℕ) → opening least line ≡ Ok c → body_at c (ahead (number + 1) rest) ≡ Ok (body, ahead after_number more) → after_backslash more ≡ None → first_hunk least number (line ∷ rest) ≡ Ok (change c body, ahead after_number more)
unfolding first_hunk
first-step least number line rest more c body after_number e1 e2 e3 = rw (e1, e2, e3) refl

pub hunk_again : (h : PlainHunk) (own rest : List (List ℕ)) (least number : ℕ) → SpellsHunk least own h → after_backslash rest ≡ None → first_hunk least number (own ++ rest) ≡ Ok (h, ahead (number + length own) rest)
hunk_again h [] rest least number s none = absurd s
hunk_again h (line ∷ lines) rest least number s none =
    let c = command_of s.0 h s.1 s.2 in
    let command : opening least line ≡ Ok c = opening-again least line c s.4 s.5 in
    let body = body_again c lines rest s.1 s.2 (number + 1) refl refl s.6 none in
    let count : number + 1 + length lines ≡ number + length (line ∷ lines) = omega arith in
    first-step least number line (lines ++ rest) rest c (on_side Forward s.1 ++ on_side Reversed s.2) (number + 1 + length lines) command body none
    ∙ ap (λ n. Ok (hunk_is h.old_start h.new_start (on_side Forward s.1 ++ on_side Reversed s.2), ahead n rest)) count
    ∙ ap (λ b. Ok (hunk_is h.old_start h.new_start b, ahead (number + length (line ∷ lines)) rest)) (sym s.3)

-- ---- hunks that follow each other

pub opening_quiet : (rest : List (List ℕ)) → begins_hunk rest ≡ true → after_backslash rest ≡ None
opening_quiet [] e = refl
opening_quiet (line ∷ rest) e = rw (command-quiet line (and_parts _ _ e).0) refl

pub hunk_opens : (least : ℕ) (own tail : List (List ℕ)) (h : PlainHunk) → SpellsHunk least own h → begins_hunk (own ++ tail) ≡ true
hunk_opens least [] tail h s = absurd s
hunk_opens least (line ∷ lines) tail h s =
    let c = command_of s.0 h s.1 s.2 in
    let p = opening-is least line c (opening-again least line c s.4 s.5) in
    let marked = body-first s.0 lines tail s.1 s.2 s.4.old s.4.new h.old_start h.new_start s.6 s.4.old_span s.4.new_span in
    rw (p.1, marked) refl

pub grammar : IsGrammar begins_hunk hunk_at SpellsIn
grammar = record {
  none = refl;
  quiet = opening_quiet;
  opens = λ least own behind tail h s. hunk_opens least own tail h s;
  takes = λ least p x opens h. hunk_takes least p.number p.rest x h;
  again = λ h own rest least number s none. hunk_again h own rest least number s none;
}

pub reading_finds : (number : ℕ) (lines : List (List ℕ)) (x : List PlainHunk × Ahead) → begins_hunk lines ≡ true → reading number lines ≡ Ok x → IsPiece number lines x.0 x.1.number x.1.rest
reading_finds number lines x opens h = piece-alike begins_hunk SpellsIn (λ ls. ls) (λ ls. []) (λ least own behind others h s. s) number lines x.0 x.1.number x.1.rest (reading_takes begins_hunk hunk_at SpellsIn grammar number lines x h opens)

pub reading_again : (number : ℕ) (lines : List (List ℕ)) (hs : List PlainHunk) (next : ℕ) (rest : List (List ℕ)) → IsPiece number lines hs next rest → reading number lines ≡ Ok (hs, ahead next rest)
reading_again number lines hs next rest p = piece_reads begins_hunk hunk_at SpellsIn grammar number lines hs next rest (piece-alike begins_hunk SpellsIn (λ ls. []) (λ ls. ls) (λ least own behind others h s. s) number lines hs next rest p)

pub is_found : {X : Type 0} (view : X → List PlainHunk × Ahead) (number : ℕ) (lines : List (List ℕ)) (r : Result X FormFault) → begins_hunk lines ≡ true → Gives view r (reading number lines) → IfOk r (λ h. IsPiece number lines (view h).0 (view h).1.number (view h).1.rest)
is_found view number lines (Ok h) opens given = reading_finds number lines (view h) opens given
is_found view number lines (Err e) opens given = tt
