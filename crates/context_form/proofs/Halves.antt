-- Each part with its range line, read and spelled.
use Rattle.std.proofs.Common.{◌≡◌, ℕ, zero, suc, ◌+◌, ◌^◌, ◌<◌, Bool, true, false, cond, eqb, ltb, not, ◌&&◌, ◌||◌, List, [], ◌∷◌, ◌++◌, length, Option, None, Some, Result, Ok, Err, refl, sym, ap, subst, ◌∙◌, arith, inl, inr}
use Rattle.std.proofs.lemmas.Bool.{eqb-true, ltb-false, and_parts, or_cases, or_parts}
use Rattle.hunk_core.specs.declared.BadKind.{BadKind}
use Rattle.hunk_core.specs.declared.BadKind.TheVariants as kinds
use Rattle.hunk_core.specs.declared.Side.{Side}
use Rattle.hunk_core.specs.declared.Side.TheVariants.{Forward, Reversed}
use Rattle.hunk_core.specs.PlainHunk.{Marked, PlainHunk}
use Rattle.hunk_core.specs.Reading.{◌>>=◌, fault, Ahead, ahead}
use Rattle.hunk_core.proofs.ReadSteps.{bind_ok, guard_ok, ok_is}
use Rattle.context_form.specs.declared.range.Stated.{Stated}
use Rattle.context_form.specs.Ranges.{range_line, most, is_count}
use Rattle.context_form.specs.Parts.{PlainBody, no_body, body_at}
use Rattle.context_form.specs.Merging.{size_beside, joined}
use Rattle.context_form.specs.Hunks.{fitting, PlainPart, at_line, first_range, range_here, old_part, enough, new_count, new_part, sized, agreed, whole}
use Rattle.context_form.specs.Presence.{begins_part, drops_alone, is_there, begins_shown, tells_other, is_needed, is_new, begins_old_part}
use Rattle.context_form.specs.Grammar.{SpellsPart, has_change}
use Rattle.context_form.proofs.MergeIs.{AllOn}
use Rattle.context_form.proofs.RangeGrammar.{line-known}
use Rattle.context_form.proofs.PartLemmas.{TakesBody, body_takes, First, first-of}

-- ---- a range line that is read

at_line-ok : (number : ℕ) (o : Result Stated BadKind) (s : Stated) → at_line number o ≡ Ok s → o ≡ Ok s
at_line-ok number (Ok q) s e = cc
at_line-ok number (Err kind) s e = absurd cc

pub record TakesRange (side : Side) (least number : ℕ) (lines : List (List ℕ)) (x : Stated × Ahead) : Type 0 where
  pub line : List ℕ
  pub parts : lines ≡ line ∷ x.1.rest
  pub number_is : x.1.number ≡ number + 1
  pub read : range_line side least line ≡ Ok x.0

pub range-takes : (side : Side) (least number : ℕ) (lines : List (List ℕ)) (x : Stated × Ahead) → first_range side least number lines ≡ Ok x → TakesRange side least number lines x
unfolding first_range
range-takes side least number [] x h = absurd cc
range-takes side least number (line ∷ rest) x h =
    let a = bind_ok (at_line number (range_line side least line)) (λ s. Ok (s, ahead (number + 1) rest)) x h in
    subst (TakesRange side least number (line ∷ rest)) (ok_is _ _ a.2) (record { line = line; parts = refl; number_is = refl; read = at_line-ok number (range_line side least line) a.0 a.1 })

-- a part that was read
pub record TakesPart (side : Side) (least : ℕ) (p : Ahead) (x : PlainPart × Ahead) : Type 0 where
  pub line : List ℕ
  pub own : List (List ℕ)
  pub parts : p.rest ≡ line ∷ (own ++ x.1.rest)
  pub number : x.1.number ≡ p.number + 1 + length own
  pub read : range_line side least line ≡ Ok x.0.stated
  pub spelled : SpellsPart own x.0.body.lines
  pub on : AllOn side x.0.body.lines
  pub change : x.0.body.changed ≡ has_change own

part-of : (side : Side) (least left : ℕ) (p : Ahead) (s : Stated × Ahead) (b : PlainBody × Ahead) → TakesRange side least p.number p.rest s → TakesBody side left no_body s.1 b → TakesPart side least p (record { number = p.number; stated = s.0; body = b.0 }, b.1)
part-of side least left p s b r t = record {
  line = r.line;
  own = t.own;
  parts = r.parts ∙ ap (λ (ls : List (List ℕ)). r.line ∷ ls) t.parts;
  number = omega (arith, r.number_is, t.number);
  read = r.read;
  spelled = subst (SpellsPart t.own) (sym t.is) t.spelled;
  on = subst (AllOn side) (sym t.is) t.on;
  change = t.change;
}

pub old-takes : (least : ℕ) (p : Ahead) (x : PlainPart × Ahead) → old_part least p ≡ Ok x → TakesPart Forward least p x
unfolding old_part
old-takes least p x h =
    let a = bind_ok (range_here Forward least p) (λ s. fitting p.number s.0 (begins_old_part s.1.rest) >>= λ fits. body_at Forward (most s.0) no_body s.1 >>= λ b. Ok (record { number = p.number; stated = s.0; body = b.0 }, b.1)) x h in
    let f = bind_ok (fitting p.number a.0.0 (begins_old_part a.0.1.rest)) (λ fits. body_at Forward (most a.0.0) no_body a.0.1 >>= λ b. Ok (record { number = p.number; stated = a.0.0; body = b.0 }, b.1)) x a.2 in
    let b = bind_ok (body_at Forward (most a.0.0) no_body a.0.1) (λ b. Ok (record { number = p.number; stated = a.0.0; body = b.0 }, b.1)) x f.2 in
    subst (TakesPart Forward least p) (ok_is _ _ b.2) (part-of Forward least (most a.0.0) p a.0 b.0 (range-takes Forward least p.number p.rest a.0 a.1) (body_takes Forward (most a.0.0) no_body a.0.1 b.0 b.1))

-- ---- a new part that is left out

-- where a new part is there, it has lines
there-most : (s : Stated) (olds : List Marked) (rest : List (List ℕ)) → ((count : ℕ) → s.count ≡ Some count → 0 < count) → is_there s olds rest ≡ true → 0 < most s
there-most s olds rest many there = by s.start s.count many there
  where
    none : (start : ℕ) (b : Bool) → eqb start 0 ≡ b → cond b false (begins_part (not (drops_alone olds)) rest) ≡ true → 0 < cond b 0 1
    none start true is h = absurd cc
    none start false is h = omega arith

    by : (start : ℕ) (o : Option ℕ) → ((count : ℕ) → o ≡ Some count → 0 < count) → is_there (record { start = start; count = o }) olds rest ≡ true → 0 < most (record { start = start; count = o })
    by start None many h = none start (eqb start 0) refl h
    by start (Some count) many h = many count refl

-- the same where blanks may be lost
needed-most : (s : Stated) (old : PlainBody) → is_needed s old ≡ true → 0 < most s
needed-most s old e = let one = and_parts (not (eqb (most s) 0)) (tells_other s old) e in some (most s) one.0
  where
    some : (n : ℕ) → not (eqb n 0) ≡ true → 0 < n
    some zero e = absurd cc
    some (suc n) e = omega arith

new-most : (s : Stated) (old : PlainBody) (rest : List (List ℕ)) → ((count : ℕ) → s.count ≡ Some count → 0 < count) → is_new s old rest ≡ true → 0 < most s
new-most s old rest many e =
    elim (or_cases (is_there s old.lines rest) (is_needed s old && begins_shown rest) e) [
      | inl there ↦ there-most s old.lines rest many there
      | inr needed ↦ needed-most s old (and_parts (is_needed s old) (begins_shown rest) needed).0
    ]

no-part : (part : List Marked) (own : List (List ℕ)) → own ≡ [] → SpellsPart own part → length part ≡ 0
no-part [] own e s = refl
no-part (m ∷ part) own e s = absurd (none s.0 s.1 (sym e ∙ s.2) (first-of s.0 m part s.3))
  where
    none : (mine rest : List (List ℕ)) → [] ≡ mine ++ rest → First mine m.mark → ⊥
    none mine rest e f = let bad : [] ≡ f.line ∷ (f.more ++ rest) = e ∙ ap (λ (ls : List (List ℕ)). ls ++ rest) f.parts in cc

-- a new part without lines isn't there, and one with lines is
record IsNewBy (s : Stated) (old : PlainBody) (own rest : List (List ℕ)) : Type 0 where
  begins : 0 < length own → is_new s old own ≡ true
  told : own ≡ [] → is_there s old.lines rest ≡ false

pub new-front : (s : Stated) (old : PlainBody) (own rest : List (List ℕ)) → 0 < length own → is_new s old (own ++ rest) ≡ is_new s old own
new-front s old [] rest some = absurd (omega (arith, some))
new-front s old (line ∷ own) rest some = by s.start s.count
  where
    by : (start : ℕ) (o : Option ℕ) → is_new (record { start = start; count = o }) old (line ∷ (own ++ rest)) ≡ is_new (record { start = start; count = o }) old (line ∷ own)
    by start None = refl
    by start (Some n) = refl

new-told : (s : Stated) (old : PlainBody) (q : Ahead) (b : PlainBody × Ahead) → ((count : ℕ) → s.count ≡ Some count → 0 < count) → (t : TakesBody Reversed (new_count s old q.rest) no_body q b) → IsNewBy s old t.own b.1.rest
new-told s old q b many t = by (is_new s old q.rest) refl t.left_over t.counts t.done
  where
    none : t.own ≡ [] → length t.part ≡ 0
    none e = no-part t.part t.own e t.spelled

    lacks : length t.part ≡ 0 → 0 < length t.own → ⊥
    lacks e some = over t.part e t.spelled
      where
        over : (part : List Marked) → length part ≡ 0 → SpellsPart t.own part → ⊥
        over [] z k = omega (arith, some, ap length k)
        over (m ∷ part) z k = omega (arith, z)

    same : q.rest ≡ t.own ++ b.1.rest
    same = t.parts

    by : (v : Bool) → is_new s old q.rest ≡ v → (left : ℕ) → left + length t.part ≡ cond v (most s) 0 → eqb left 0 ≡ true → IsNewBy s old t.own b.1.rest
    by false is left counts done = record {
      begins = λ some. absurd (lacks (omega (arith, counts)) some);
      told = λ e. (or_parts (is_there s old.lines b.1.rest) _ (subst (λ r. is_new s old r ≡ false) (same ∙ ap (λ (ls : List (List ℕ)). ls ++ b.1.rest) e) is)).0;
    }
    by true is left counts done = record {
      begins = λ some. sym (new-front s old t.own b.1.rest some) ∙ sym (ap (is_new s old) same) ∙ is;
      told = λ e. absurd (omega (arith, new-most s old q.rest many is, counts, none e, eqb-true left 0 done));
    }

pub record TakesNew (old : PlainPart) (p : Ahead) (x : PlainPart × Ahead) : Type 0 where
  pub part : TakesPart Reversed 0 p x
  pub begins : 0 < length part.own → is_new x.0.stated old.body part.own ≡ true
  pub told : part.own ≡ [] → is_there x.0.stated old.body.lines x.1.rest ≡ false

new-of : (old : PlainPart) (p : Ahead) (s : Stated × Ahead) (b : PlainBody × Ahead) → TakesRange Reversed 0 p.number p.rest s → TakesBody Reversed (new_count s.0 old.body s.1.rest) no_body s.1 b → TakesNew old p (record { number = p.number; stated = s.0; body = b.0 }, b.1)
unfolding part-of
new-of old p s b r t =
    let by = new-told s.0 old.body s.1 b (line-known Reversed 0 r.line s.0 r.read).many t in
    record { part = part-of Reversed 0 (new_count s.0 old.body s.1.rest) p s b r t; begins = by.begins; told = by.told }

pub new-takes : (old : PlainPart) (p : Ahead) (x : PlainPart × Ahead) → new_part old p ≡ Ok x → TakesNew old p x
unfolding new_part
new-takes old p x h =
    let a = bind_ok (range_here Reversed 0 p) (λ s. fitting p.number s.0 (is_new s.0 old.body s.1.rest) >>= λ fits. enough p.number old >>= λ few. body_at Reversed (new_count s.0 old.body s.1.rest) no_body s.1 >>= λ b. Ok (record { number = p.number; stated = s.0; body = b.0 }, b.1)) x h in
    let f = bind_ok (fitting p.number a.0.0 (is_new a.0.0 old.body a.0.1.rest)) (λ fits. enough p.number old >>= λ few. body_at Reversed (new_count a.0.0 old.body a.0.1.rest) no_body a.0.1 >>= λ b. Ok (record { number = p.number; stated = a.0.0; body = b.0 }, b.1)) x a.2 in
    let e = bind_ok (enough p.number old) (λ few. body_at Reversed (new_count a.0.0 old.body a.0.1.rest) no_body a.0.1 >>= λ b. Ok (record { number = p.number; stated = a.0.0; body = b.0 }, b.1)) x f.2 in
    let b = bind_ok (body_at Reversed (new_count a.0.0 old.body a.0.1.rest) no_body a.0.1) (λ b. Ok (record { number = p.number; stated = a.0.0; body = b.0 }, b.1)) x e.2 in
    subst (TakesNew old p) (ok_is _ _ b.2) (new-of old p a.0 b.0 (range-takes Reversed 0 p.number p.rest a.0 a.1) (body_takes Reversed (new_count a.0.0 old.body a.0.1.rest) no_body a.0.1 b.0 b.1))

-- ---- both parts

pub record Sized (part partner : PlainPart) : Type 0 where
  pub count : is_count part.stated (size_beside part.body partner.body) ≡ true
  pub fits : part.stated.start + size_beside part.body partner.body < 2 ^ 32

sized-ok : (part partner : PlainPart) (x : Unit {0}) → sized part partner ≡ Ok x → Sized part partner
sized-ok part partner x e = by (is_count part.stated (size_beside part.body partner.body)) refl e
  where
    by : (v : Bool) → is_count part.stated (size_beside part.body partner.body) ≡ v
        → cond (not v) (Err (fault part.number kinds.Count)) (cond (ltb 4294967295 (part.stated.start + size_beside part.body partner.body)) (Err (fault part.number kinds.NumberTooLarge)) (Ok tt)) ≡ Ok x → Sized part partner
    by false is h = absurd cc
    by true is h = let g = guard_ok (ltb 4294967295 (part.stated.start + size_beside part.body partner.body)) _ tt x h in record { count = is; fits = omega (arith, ltb-false 4294967295 (part.stated.start + size_beside part.body partner.body) g.0) }

agreed-ok : (number : ℕ) (o : Option (List Marked)) (body : List Marked) → agreed number o ≡ Ok body → o ≡ Some body
agreed-ok number None body e = absurd cc
agreed-ok number (Some b) body e = cc

-- what two whole parts passed
pub record TakesWhole (old new : PlainPart) (h : PlainHunk) : Type 0 where
  pub old_sized : Sized old new
  pub new_sized : Sized new old
  pub joins : joined old.body new.body ≡ Some h.body
  pub old_start : h.old_start ≡ old.stated.start
  pub new_start : h.new_start ≡ new.stated.start

abbrev pub made : PlainPart → PlainPart → List Marked → PlainHunk
made old new body = record { old_start = old.stated.start; new_start = new.stated.start; body = body }

pub whole-takes : (old new : PlainPart) (h : PlainHunk) → whole old new ≡ Ok h → TakesWhole old new h
unfolding whole
whole-takes old new h e =
    let a = bind_ok (sized old new) (λ x. sized new old >>= λ y. agreed new.number (joined old.body new.body) >>= λ body. Ok (made old new body)) h e in
    let b = bind_ok (sized new old) (λ y. agreed new.number (joined old.body new.body) >>= λ body. Ok (made old new body)) h a.2 in
    let c = bind_ok (agreed new.number (joined old.body new.body)) (λ body. Ok (made old new body)) h b.2 in
    subst (TakesWhole old new) (ok_is _ _ c.2) (record { old_sized = sized-ok old new a.0 a.1; new_sized = sized-ok new old b.0 b.1; joins = agreed-ok new.number (joined old.body new.body) c.0 c.1; old_start = refl; new_start = refl })
