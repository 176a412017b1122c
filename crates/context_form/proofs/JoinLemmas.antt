-- The two parts of a hunk are those of its body, each written or left out.
use Rattle.std.proofs.Common.{◌≡◌, ℕ, ◌+◌, ◌<◌, Bool, true, false, cond, List, [], ◌∷◌, ◌++◌, length, None, Some, refl, sym, ap, subst, ◌∙◌, arith}
use Rattle.std.proofs.lemmas.List.{length-append}
use Rattle.std.proofs.lemmas.List.Recursion.{is_count_by}
use Rattle.hunk_core.specs.declared.Mark.{Mark}
use Rattle.hunk_core.specs.declared.Mark.TheVariants as its
use Rattle.hunk_core.specs.declared.Side.{Side}
use Rattle.hunk_core.specs.declared.Side.TheVariants.{Forward, Reversed}
use Rattle.hunk_core.specs.Sides.{is_on_side}
use Rattle.hunk_core.specs.PlainHunk.{Marked}
use Rattle.hunk_core.specs.Turned.{is_keep, other_side}
use Rattle.hunk_core.specs.LineTests.{marked}
use Rattle.context_form.specs.Parts.{PlainBody}
use Rattle.context_form.specs.Merging.{merge, alone, joined, kept_count, size_by, part_of, may_follow, DropsFirst}
use Rattle.context_form.specs.Grammar.{SpellsPart, SpellsLine, has_change, AreKept, SpellsSide, written}
use Rattle.context_form.proofs.MergeIs.{AllOn}
use Rattle.context_form.proofs.MergeLaws.{merge-again, merge-takes}
use Rattle.context_form.proofs.PartLemmas.{bodied}

-- ---- counting kept lines

abbrev counted : List Marked → ℕ
counted [] = 0
counted (m ∷ part) = cond (is_keep m.mark) (1 + counted part) (counted part)

counted-is : (part : List Marked) → counted part ≡ kept_count part
counted-is part = is_count_by counted (λ m. is_keep m.mark) refl (λ x xs. refl) part

pub kept-cons : (m : Marked) (part : List Marked) → kept_count (m ∷ part) ≡ cond (is_keep m.mark) (1 + kept_count part) (kept_count part)
kept-cons m part = sym (counted-is (m ∷ part)) ∙ ap (λ n. cond (is_keep m.mark) (1 + n) n) (counted-is part)

pub kept-first : (m : Marked) (part : List Marked) → is_keep m.mark ≡ true → 0 < kept_count (m ∷ part)
kept-first m part keeps =
    let one : kept_count (m ∷ part) ≡ 1 + kept_count part = kept-cons m part ∙ ap (λ b. cond b (1 + kept_count part) (kept_count part)) keeps in
    omega (arith, one)

-- a part of a body keeps the lines that the body keeps
pub kept-on : (side : Side) (body : List Marked) → kept_count (part_of side body) ≡ kept_count body
kept-on side [] = refl
kept-on side (m ∷ body) = by side m.mark (kept-on side body)
  where
    by : (s : Side) (mark : Mark) → kept_count (part_of s body) ≡ kept_count body → kept_count (part_of s (marked mark m.line ∷ body)) ≡ kept_count (marked mark m.line ∷ body)
    by s its.Keep e = kept-cons (marked its.Keep m.line) (part_of s body) ∙ ap (λ n. 1 + n) e ∙ sym (kept-cons (marked its.Keep m.line) body)
    by Forward its.Drop e = kept-cons (marked its.Drop m.line) (part_of Forward body) ∙ e ∙ sym (kept-cons (marked its.Drop m.line) body)
    by Reversed its.Drop e = e ∙ sym (kept-cons (marked its.Drop m.line) body)
    by Forward its.Add e = e ∙ sym (kept-cons (marked its.Add m.line) body)
    by Reversed its.Add e = kept-cons (marked its.Add m.line) (part_of Reversed body) ∙ e ∙ sym (kept-cons (marked its.Add m.line) body)

pub kept-all : (part : List Marked) → AreKept part → kept_count part ≡ length part
kept-all [] h = refl
kept-all (m ∷ part) h =
    let keeps : is_keep m.mark ≡ true = ap is_keep h.0 in
    let one : kept_count (m ∷ part) ≡ 1 + kept_count part = kept-cons m part ∙ ap (λ b. cond b (1 + kept_count part) (kept_count part)) keeps in
    omega (arith, one, kept-all part h.1)

-- how many lines a part that is left out has
pub left-out-size : (side other : Side) (body : List Marked) → AreKept (part_of side body) → kept_count (part_of other body) ≡ length (part_of side body)
left-out-size side other body h = kept-on other body ∙ sym (kept-on side body) ∙ kept-all (part_of side body) h

-- ---- lines of one side

pub on-all : (side : Side) (part : List Marked) → AllOn side part → part_of side part ≡ part
on-all side [] h = refl
on-all side (m ∷ part) h = ap (λ b. cond b (m ∷ part_of side part) (part_of side part)) h.0 ∙ ap (λ ms. m ∷ ms) (on-all side part h.1)

pub of-all : (side : Side) (body : List Marked) → AllOn side (part_of side body)
of-all side [] = tt
of-all side (m ∷ body) = by (is_on_side side m.mark) refl (of-all side body)
  where
    by : (b : Bool) → is_on_side side m.mark ≡ b → AllOn side (part_of side body) → AllOn side (cond b (m ∷ part_of side body) (part_of side body))
    by true e more = (e, more)
    by false e more = more

-- the other part of lines of one side has their kept lines alone
other-kept : (side : Side) (part : List Marked) → AllOn side part → AreKept (part_of (other_side side) part)
other-kept side [] h = tt
other-kept side (m ∷ part) h = by side m.mark h.0 (other-kept side part h.1)
  where
    by : (s : Side) (mark : Mark) → is_on_side s mark ≡ true → AreKept (part_of (other_side s) part) → AreKept (part_of (other_side s) (marked mark m.line ∷ part))
    by Forward its.Keep on more = (refl, more)
    by Reversed its.Keep on more = (refl, more)
    by Forward its.Drop on more = more
    by Reversed its.Drop on more = absurd cc
    by Forward its.Add on more = absurd cc
    by Reversed its.Add on more = more

drops-alone : (side : Side) (part : List Marked) → AllOn side part → DropsFirst part
drops-alone side [] h = tt
drops-alone side (m ∷ part) h = (by part h.1, drops-alone side part h.1)
  where
    by : (ms : List Marked) → AllOn side ms → may_follow m.mark ms ≡ true
    by [] k = refl
    by (x ∷ ms) k = both side m.mark x.mark h.0 k.0
      where
        both : (s : Side) (a b : Mark) → is_on_side s a ≡ true → is_on_side s b ≡ true → may_follow a (marked b x.line ∷ ms) ≡ true
        both s its.Keep b e f = refl
        both s its.Drop b e f = refl
        both Forward its.Add b e f = absurd cc
        both Reversed its.Add its.Keep e f = refl
        both Reversed its.Add its.Drop e f = absurd cc
        both Reversed its.Add its.Add e f = refl

-- a body whose one part has kept lines alone is its other part
pub kept-other : (side : Side) (body : List Marked) → AreKept (part_of side body) → part_of (other_side side) body ≡ body
kept-other side [] h = refl
kept-other side (m ∷ body) h = by side m.mark (λ k. kept-other side body k) h
  where
    by : (s : Side) (mark : Mark) → (AreKept (part_of s body) → part_of (other_side s) body ≡ body) → AreKept (part_of s (marked mark m.line ∷ body)) → part_of (other_side s) (marked mark m.line ∷ body) ≡ marked mark m.line ∷ body
    by Forward its.Keep more k = ap (λ ms. marked its.Keep m.line ∷ ms) (more k.1)
    by Reversed its.Keep more k = ap (λ ms. marked its.Keep m.line ∷ ms) (more k.1)
    by Forward its.Drop more k = absurd (let bad = k.0 in cc)
    by Reversed its.Drop more k = ap (λ ms. marked its.Drop m.line ∷ ms) (more k)
    by Forward its.Add more k = ap (λ ms. marked its.Add m.line ∷ ms) (more k)
    by Reversed its.Add more k = absurd (let bad = k.0 in cc)

-- ---- parts that are written

pub part-some : (own : List (List ℕ)) (m : Marked) (part : List Marked) → SpellsPart own (m ∷ part) → 0 < length own
part-some [] m part s = absurd (none s.0 s.1 s.2 s.3)
  where
    none : (mine rest : List (List ℕ)) → [] ≡ mine ++ rest → SpellsLine mine m part → ⊥
    none [] rest e h = h
    none (line ∷ mine) rest e h = cc
part-some (line ∷ own) m part s = omega arith

pub side-written : (side : Side) (own partner : List (List ℕ)) (body : List Marked) → 0 < length own → SpellsPart own (part_of side body) → SpellsSide side own partner body
side-written side [] partner body some s = absurd (omega (arith, some))
side-written side (line ∷ own) partner body some s = s

pub side-left-out : (side : Side) (own partner : List (List ℕ)) (body : List Marked) → own ≡ [] → AreKept (part_of side body) → has_change partner ≡ false → SpellsSide side own partner body
side-left-out side own partner body e kept quiet = subst (λ o. SpellsSide side o partner body) (sym e) (kept, quiet)

written-is : (side : Side) (own : List (List ℕ)) (body : List Marked) → 0 < length own → written side own body ≡ part_of side body
written-is side [] body some = absurd (omega (arith, some))
written-is side (line ∷ own) body some = refl

written-none : (side : Side) (own : List (List ℕ)) (body : List Marked) → own ≡ [] → written side own body ≡ []
written-none side own body e = rw e refl

-- what two parts say of the body that they make
pub record TakesJoin (old new : List (List ℕ)) (olds news body : List Marked) : Type 0 where
  pub old_side : SpellsSide Forward old new body
  pub new_side : SpellsSide Reversed new old body
  pub some : 0 < length (old ++ new)
  pub drops : DropsFirst body
  pub old_size : size_by olds news ≡ length (part_of Forward body)
  pub new_size : size_by news olds ≡ length (part_of Reversed body)
  pub is : olds ≡ written Forward old body

size-some : (m : Marked) (part partner full : List Marked) → full ≡ m ∷ part → size_by (m ∷ part) partner ≡ length full
size-some m part partner full e = sym (ap length e)

alone-ok : (b : PlainBody) (body : List Marked) → alone b ≡ Some body → (b.changed ≡ false) × (b.lines ≡ body)
alone-ok b body e = by b.changed refl e
  where
    by : (v : Bool) → b.changed ≡ v → cond v None (Some b.lines) ≡ Some body → (b.changed ≡ false) × (b.lines ≡ body)
    by true is h = absurd cc
    by false is h = (is, cc)

new-alone : (old new : List (List ℕ)) (n : Marked) (news body : List Marked) → old ≡ [] → SpellsPart new (n ∷ news) → AllOn Reversed (n ∷ news) → has_change new ≡ false → n ∷ news ≡ body → TakesJoin old new [] (n ∷ news) body
new-alone old new n news body none s on quiet e =
    let some = part-some new n news s in
    let kept : AreKept (part_of Forward (n ∷ news)) = other-kept Reversed (n ∷ news) on in
    let all : part_of Reversed (n ∷ news) ≡ n ∷ news = on-all Reversed (n ∷ news) on in
    subst (TakesJoin old new [] (n ∷ news)) e (record {
      old_side = side-left-out Forward old new (n ∷ news) none kept quiet;
      new_side = side-written Reversed new old (n ∷ news) some (subst (SpellsPart new) (sym all) s);
      some = omega (arith, some, length-append old new);
      drops = drops-alone Reversed (n ∷ news) on;
      old_size = sym (kept-on Forward (n ∷ news)) ∙ kept-all (part_of Forward (n ∷ news)) kept;
      new_size = size-some n news [] (part_of Reversed (n ∷ news)) all;
      is = sym (written-none Forward old (n ∷ news) none);
    })

old-alone : (old new : List (List ℕ)) (o : Marked) (olds body : List Marked) → new ≡ [] → SpellsPart old (o ∷ olds) → AllOn Forward (o ∷ olds) → has_change old ≡ false → o ∷ olds ≡ body → TakesJoin old new (o ∷ olds) [] body
old-alone old new o olds body none s on quiet e =
    let some = part-some old o olds s in
    let kept : AreKept (part_of Reversed (o ∷ olds)) = other-kept Forward (o ∷ olds) on in
    let all : part_of Forward (o ∷ olds) ≡ o ∷ olds = on-all Forward (o ∷ olds) on in
    subst (TakesJoin old new (o ∷ olds) []) e (record {
      old_side = side-written Forward old new (o ∷ olds) some (subst (SpellsPart old) (sym all) s);
      new_side = side-left-out Reversed new old (o ∷ olds) none kept quiet;
      some = omega (arith, some, length-append old new);
      drops = drops-alone Forward (o ∷ olds) on;
      old_size = size-some o olds [] (part_of Forward (o ∷ olds)) all;
      new_size = sym (kept-on Reversed (o ∷ olds)) ∙ kept-all (part_of Reversed (o ∷ olds)) kept;
      is = sym all ∙ sym (written-is Forward old (o ∷ olds) some);
    })

both-written : (old new : List (List ℕ)) (o n : Marked) (olds news body : List Marked) → SpellsPart old (o ∷ olds) → SpellsPart new (n ∷ news) → AllOn Forward (o ∷ olds) → AllOn Reversed (n ∷ news) → merge (o ∷ olds) (n ∷ news) ≡ Some body → TakesJoin old new (o ∷ olds) (n ∷ news) body
both-written old new o n olds news body s t on on2 e =
    let m = merge-takes (o ∷ olds) (n ∷ news) body on on2 e in
    let some = part-some old o olds s in
    let some2 = part-some new n news t in
    record {
      old_side = side-written Forward old new body some (subst (SpellsPart old) (sym m.old_side) s);
      new_side = side-written Reversed new old body some2 (subst (SpellsPart new) (sym m.new_side) t);
      some = omega (arith, some, length-append old new);
      drops = m.order;
      old_size = size-some o olds (n ∷ news) (part_of Forward body) m.old_side;
      new_size = size-some n news (o ∷ olds) (part_of Reversed body) m.new_side;
      is = sym m.old_side ∙ sym (written-is Forward old body some);
    }

pub join-takes : (old new : List (List ℕ)) (olds news : List Marked) (a b : Bool) (body : List Marked) → SpellsPart old olds → SpellsPart new news → AllOn Forward olds → AllOn Reversed news → a ≡ has_change old → b ≡ has_change new → joined (bodied olds a) (bodied news b) ≡ Some body → TakesJoin old new olds news body
join-takes old new [] [] a b body s t on on2 e f h = absurd cc
join-takes old new [] (n ∷ news) a b body s t on on2 e f h = let k = alone-ok (bodied (n ∷ news) b) body h in new-alone old new n news body s t on2 (sym f ∙ k.0) k.1
join-takes old new (o ∷ olds) [] a b body s t on on2 e f h = let k = alone-ok (bodied (o ∷ olds) a) body h in old-alone old new o olds body t s on (sym e ∙ k.0) k.1
join-takes old new (o ∷ olds) (n ∷ news) a b body s t on on2 e f h = both-written old new o n olds news body s t on on2 h

-- ---- and back

new-left : (a b : Bool) (news body : List Marked) (line : List ℕ) (piece : List (List ℕ)) → SpellsPart (line ∷ piece) news → b ≡ false → news ≡ body → joined (bodied [] a) (bodied news b) ≡ Some body
new-left a b [] body line piece s e f = absurd (let bad : line ∷ piece ≡ [] = s in cc)
new-left a b (n ∷ news) body line piece s e f = rw (e, f) refl

old-left : (a b : Bool) (olds body : List Marked) (line : List ℕ) (piece : List (List ℕ)) → SpellsPart (line ∷ piece) olds → a ≡ false → olds ≡ body → joined (bodied olds a) (bodied [] b) ≡ Some body
old-left a b [] body line piece s e f = absurd (let bad : line ∷ piece ≡ [] = s in cc)
old-left a b (o ∷ olds) body line piece s e f = rw (e, f) refl

none-left : (a b : Bool) (olds news body : List Marked) (line : List ℕ) (piece : List (List ℕ)) (line2 : List ℕ) (piece2 : List (List ℕ)) → SpellsPart (line ∷ piece) olds → SpellsPart (line2 ∷ piece2) news → merge olds news ≡ Some body → joined (bodied olds a) (bodied news b) ≡ Some body
none-left a b [] news body line piece line2 piece2 s t e = absurd (let bad : line ∷ piece ≡ [] = s in cc)
none-left a b (o ∷ olds) [] body line piece line2 piece2 s t e = absurd (let bad : line2 ∷ piece2 ≡ [] = t in cc)
none-left a b (o ∷ olds) (n ∷ news) body line piece line2 piece2 s t e = e

pub join-again : (old new : List (List ℕ)) (body : List Marked) → SpellsSide Forward old new body → SpellsSide Reversed new old body → 0 < length (old ++ new) → DropsFirst body
    → joined (bodied (written Forward old body) (has_change old)) (bodied (written Reversed new body) (has_change new)) ≡ Some body
join-again [] [] body s t some drops = absurd (omega (arith, some))
join-again [] (line ∷ new) body s t some drops = new-left false (has_change (line ∷ new)) (part_of Reversed body) body line new t s.1 (kept-other Forward body s.0)
join-again (line ∷ old) [] body s t some drops = old-left (has_change (line ∷ old)) false (part_of Forward body) body line old s t.1 (kept-other Reversed body t.0)
join-again (line ∷ old) (line2 ∷ new) body s t some drops = none-left (has_change (line ∷ old)) (has_change (line2 ∷ new)) (part_of Forward body) (part_of Reversed body) body line old line2 new s t (merge-again body (part_of Forward body) (part_of Reversed body) (record { old_side = refl; new_side = refl; order = drops }))

size-full : (side : Side) (line : List ℕ) (piece : List (List ℕ)) (part partner : List Marked) → SpellsPart (line ∷ piece) part → size_by part partner ≡ length part
size-full side line piece [] partner s = absurd (let bad : line ∷ piece ≡ [] = s in cc)
size-full side line piece (m ∷ part) partner s = refl

-- a part, written or left out, has the lines of its side
pub size-again : (side other : Side) (own partner : List (List ℕ)) (body : List Marked) → SpellsSide side own partner body → 0 < length (own ++ partner) → size_by (written side own body) (written other partner body) ≡ length (part_of side body)
size-again side other [] [] body s some = absurd (omega (arith, some))
size-again side other [] (line ∷ partner) body s some = left-out-size side other body s.0
size-again side other (line ∷ own) partner body s some = size-full side line own (part_of side body) (written other partner body) s
