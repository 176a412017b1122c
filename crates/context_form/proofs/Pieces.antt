-- Hunks that are read are spelled so, and what is spelled so is read.
use Rattle.std.proofs.Common.{◌≡◌, ℕ, ◌+◌, true, false, eqb, List, [], ◌∷◌, ◌++◌, length, None, Result, Ok, Err, refl, sym, ap, subst, ◌∙◌, append_assoc, arith, inl, inr}
use Rattle.std.specs.Prelude.{is_some, IfOk}
use Rattle.std.proofs.lemmas.Bool.{eqb-true, and_parts}
use Rattle.std.proofs.lemmas.List.{length-append}
use Rattle.hunk_core.specs.declared.fault.FormFault.{FormFault}
use Rattle.hunk_core.specs.declared.Side.TheVariants.{Forward, Reversed}
use Rattle.hunk_core.specs.PlainHunk.{Marked, PlainHunk}
use Rattle.hunk_core.specs.LineTests.{after, is_backslash, after_backslash}
use Rattle.hunk_core.specs.Reading.{Gives, ◌>>=◌, Ahead, ahead}
use Rattle.hunk_core.proofs.ReadSteps.{bind_ok, guard_ok, ok_is}
use Rattle.line_list.proofs.Choices.{chosen}
use Rattle.hunk_core.proofs.OptionLemmas.{is_none}
use Rattle.hunk_core.proofs.Grammars.{TakesHunk, IsGrammar, reading_takes, piece_reads}
use Rattle.context_form.specs.Openings.{is_stars, opens_old, begins_hunk}
use Rattle.context_form.specs.Parts.{begins_new}
use Rattle.context_form.specs.Merging.{part_of, size_by}
use Rattle.context_form.specs.Hunks.{PlainPart, old_part, new_part, quiet, parts_at, whole, first_hunk, hunk_at, reading}
use Rattle.context_form.specs.Presence.{is_there, is_new}
use Rattle.context_form.specs.Grammar.{SpellsRange, has_change, stated_as, written, SpellsHunk, IsPiece}
use Rattle.context_form.proofs.RangeGrammar.{is_one, line-known, dashes-again, dashes-quiet, dashes-unmarked, stars-again}
use Rattle.context_form.proofs.JoinLemmas.{join-takes}
use Rattle.context_form.proofs.Halves.{TakesPart, TakesNew, TakesWhole, old-takes, new-takes, whole-takes}
use Rattle.context_form.proofs.HalvesAgain.{parted, old-again, new-again, whole-again}
use Rattle.context_form.proofs.PartLemmas.{bodied}

-- ---- one hunk that is read

-- what and_parts parts took
record TakesParts (least : ℕ) (p : Ahead) (x : (PlainPart × PlainPart) × Ahead) : Type 0 where
  middle : Ahead
  old : TakesPart Forward least p (x.0.0, middle)
  new : TakesNew x.0.0 middle (x.0.1, x.1)

parts-take : (least : ℕ) (p : Ahead) (x : (PlainPart × PlainPart) × Ahead) → parts_at least p ≡ Ok x → TakesParts least p x
unfolding parts_at
parts-take least p x h =
    let a = bind_ok (old_part least p) (λ old. new_part old.0 old.1 >>= λ new. Ok ((old.0, new.0), new.1)) x h in
    let b = bind_ok (new_part a.0.0 a.0.1) (λ new. Ok ((a.0.0, new.0), new.1)) x a.2 in
    subst (TakesParts least p) (ok_is _ _ b.2) (record { middle = a.0.1; old = old-takes least p a.0 a.1; new = new-takes a.0.0 a.0.1 b.0 b.1 })

join_lines : (stars : List ℕ) (rest : List (List ℕ)) (line : List ℕ) (old middle : List (List ℕ)) (line2 : List ℕ) (new behind : List (List ℕ)) → rest ≡ line ∷ (old ++ middle) → middle ≡ line2 ∷ (new ++ behind) → stars ∷ rest ≡ (stars ∷ line ∷ (old ++ line2 ∷ new)) ++ behind
join_lines stars rest line old middle line2 new behind e1 e2 = rw (e1, e2) (ap (λ (ls : List (List ℕ)). stars ∷ line ∷ ls) (sym (append_assoc old (line2 ∷ new) behind)))

hunk-from : (least number : ℕ) (stars : List ℕ) (rest : List (List ℕ)) (old new : PlainPart) (next : Ahead) (h : PlainHunk) → is_stars stars ≡ true → TakesParts least (ahead (number + 1) rest) ((old, new), next) → TakesWhole old new h → after_backslash next.rest ≡ None → TakesHunk SpellsHunk least (ahead number (stars ∷ rest)) (h, next)
hunk-from least number stars rest old new next h opens t w silent =
    let o = t.old in
    let n = t.new.part in
    let j = join-takes o.own n.own old.body.lines new.body.lines old.body.changed new.body.changed h.body o.spelled n.spelled o.on n.on o.change n.change w.joins in
    let ko = line-known Forward least o.line old.stated o.read in
    let kn = line-known Reversed 0 n.line new.stated n.read in
    let so : size_by old.body.lines new.body.lines ≡ length (part_of Forward h.body) = j.old_size in
    let sn : size_by new.body.lines old.body.lines ≡ length (part_of Reversed h.body) = j.new_size in
    let range : SpellsRange Forward o.line (is_one old.stated) h.old_start (length (part_of Forward h.body)) = rw (w.old_start, ← so) (ko.spelled (size_by old.body.lines new.body.lines) w.old_sized.count) in
    let range2 : SpellsRange Reversed n.line (is_one new.stated) h.new_start (length (part_of Reversed h.body)) = rw (w.new_start, ← sn) (kn.spelled (size_by new.body.lines old.body.lines) w.new_sized.count) in
    let same : new.stated ≡ stated_as (is_one new.stated) h.new_start (length (part_of Reversed h.body)) = rw (w.new_start, ← sn) (kn.same (size_by new.body.lines old.body.lines) w.new_sized.count) in
    let count : length (stars ∷ o.line ∷ (o.own ++ n.line ∷ n.own)) ≡ 2 + (length o.own + (1 + length n.own)) = omega (arith, length-append o.own (n.line ∷ n.own)) in
    record {
      own = stars ∷ o.line ∷ (o.own ++ n.line ∷ n.own);
      parts = join_lines stars rest o.line o.own t.middle.rest n.line n.own next.rest o.parts n.parts;
      number = omega (arith, o.number, n.number, count);
      spelled = record {
        stars = stars;
        old_line = o.line;
        old = o.own;
        new_line = n.line;
        new = n.own;
        parts = refl;
        asterisks = opens;
        old_single = is_one old.stated;
        new_single = is_one new.stated;
        old_range = range;
        new_range = range2;
        old_part = j.old_side;
        new_part = j.new_side;
        some = j.some;
        drops = j.drops;
        old_fits = rw (w.old_start, ← so) w.old_sized.fits;
        new_fits = rw (w.new_start, ← sn) w.new_sized.fits;
        order = rw w.old_start ko.order;
        begins = λ has. subst (λ (ls : List Marked). is_new (stated_as (is_one new.stated) h.new_start (length (part_of Reversed h.body))) (bodied ls (has_change o.own)) n.own ≡ true) j.is (subst (λ s. is_new s (bodied old.body.lines (has_change o.own)) n.own ≡ true) same (subst (λ c. is_new new.stated (bodied old.body.lines c) n.own ≡ true) o.change (t.new.begins has)));
        told = λ e. subst (λ (ls : List Marked). is_there (stated_as (is_one new.stated) h.new_start (length (part_of Reversed h.body))) ls next.rest ≡ false) j.is (subst (λ s. is_there s old.body.lines next.rest ≡ false) same (t.new.told e));
      };
      quiet = silent;
    }

pub hunk_takes : (least number : ℕ) (rest : List (List ℕ)) (x : PlainHunk × Ahead) → begins_hunk rest ≡ true → first_hunk least number rest ≡ Ok x → TakesHunk SpellsHunk least (ahead number rest) x
unfolding first_hunk
hunk_takes least number [] x opens h = absurd cc
hunk_takes least number (stars ∷ rest) x opens h =
    let a = bind_ok (parts_at least (ahead (number + 1) rest)) (λ parts. whole parts.0.0 parts.0.1 >>= λ g. quiet parts.1 >>= λ done. Ok (g, parts.1)) x h in
    let b = bind_ok (whole a.0.0.0 a.0.0.1) (λ g. quiet a.0.1 >>= λ done. Ok (g, a.0.1)) x a.2 in
    let c = bind_ok (quiet a.0.1) (λ done. Ok (b.0, a.0.1)) x b.2 in
    let g = guard_ok (is_some (after_backslash a.0.1.rest)) _ tt c.0 c.1 in
    subst (TakesHunk SpellsHunk least (ahead number (stars ∷ rest))) (ok_is _ _ c.2) (hunk-from least number stars rest a.0.0.0 a.0.0.1 a.0.1 b.0 (and_parts _ _ opens).0 (parts-take least (ahead (number + 1) rest) a.0 a.1) (whole-takes a.0.0.0 a.0.0.1 b.0 b.1) (is_none (after_backslash a.0.1.rest) g.0))

-- ---- one hunk that is spelled

parts-step : (least number middle after : ℕ) (rest tail behind : List (List ℕ)) (old new : PlainPart) → old_part least (ahead number rest) ≡ Ok (old, ahead middle tail) → new_part old (ahead middle tail) ≡ Ok (new, ahead after behind) → parts_at least (ahead number rest) ≡ Ok ((old, new), ahead after behind)
unfolding parts_at
parts-step least number middle after rest tail behind old new e1 e2 = rw (e1, e2) refl

hunk-step : (least number after : ℕ) (stars : List ℕ) (rest behind : List (List ℕ)) (old new : PlainPart) (h : PlainHunk) → parts_at least (ahead (number + 1) rest) ≡ Ok ((old, new), ahead after behind) → whole old new ≡ Ok h → after_backslash behind ≡ None → first_hunk least number (stars ∷ rest) ≡ Ok (h, ahead after behind)
unfolding first_hunk
hunk-step least number after stars rest behind old new h e1 e2 e3 = rw (e1, e2, e3) refl

line_quiet : (line : List ℕ) (rest : List (List ℕ)) → is_backslash line ≡ false → after_backslash (line ∷ rest) ≡ None
line_quiet line rest e = rw e refl

pub hunk_again : (h : PlainHunk) (own rest : List (List ℕ)) (least number : ℕ) → SpellsHunk least own rest h → after_backslash rest ≡ None → first_hunk least number (own ++ rest) ≡ Ok (h, ahead (number + length own) rest)
hunk_again h own rest least number s none =
    let n0 = length (part_of Forward h.body) in
    let n = length (part_of Reversed h.body) in
    let tail : List (List ℕ) = s.new_line ∷ (s.new ++ rest) in
    let parts : own ++ rest ≡ s.stars ∷ s.old_line ∷ (s.old ++ (s.new_line ∷ (s.new ++ rest))) = ap (λ (ls : List (List ℕ)). ls ++ rest) s.parts ∙ ap (λ (ls : List (List ℕ)). s.stars ∷ s.old_line ∷ ls) (append_assoc s.old (s.new_line ∷ s.new) rest) in
    let dashes : begins_new (s.new_line ∷ (s.new ++ rest)) ≡ true = dashes-again s.new_line s.new_single h.new_start n s.new_range in
    let silent : after_backslash (s.new_line ∷ (s.new ++ rest)) ≡ None = line_quiet s.new_line (s.new ++ rest) (dashes-quiet s.new_line s.new_single h.new_start n s.new_range) in
    let old = parted (number + 1) (stated_as s.old_single h.old_start n0) (bodied (written Forward s.old h.body) (has_change s.old)) in
    let new = parted (number + 1 + 1 + length s.old) (stated_as s.new_single h.new_start n) (bodied (written Reversed s.new h.body) (has_change s.new)) in
    let one = old-again least (number + 1) s.old_line s.old_single h.old_start s.old s.new h.body (s.new_line ∷ (s.new ++ rest)) s.old_range s.old_fits s.order s.old_part dashes silent (dashes-unmarked s.new_line s.new_single h.new_start n s.new_range) in
    let two = new-again (number + 1) (number + 1 + 1 + length s.old) s.old_line s.old_single h.old_start s.new_line s.new_single h.new_start s.old s.new h.body rest s.old_range s.new_range s.new_fits s.old_part s.new_part none s.some s.begins s.told in
    let three = whole-again (number + 1) (number + 1 + 1 + length s.old) s.old_line s.old_single h.old_start s.new_line s.new_single h.new_start s.old s.new h.body s.old_range s.new_range s.old_fits s.new_fits s.old_part s.new_part s.some s.drops in
    let after = number + 1 + 1 + length s.old + 1 + length s.new in
    let count : number + 1 + 1 + length s.old + 1 + length s.new ≡ number + length own = omega (arith, ap length s.parts, length-append s.old (s.new_line ∷ s.new)) in
    ap (first_hunk least number) parts
    ∙ hunk-step least number after s.stars (s.old_line ∷ (s.old ++ (s.new_line ∷ (s.new ++ rest)))) rest old new h (parts-step least (number + 1) (number + 1 + 1 + length s.old) after (s.old_line ∷ (s.old ++ (s.new_line ∷ (s.new ++ rest)))) (s.new_line ∷ (s.new ++ rest)) rest old new one two) three none
    ∙ ap (λ k. Ok (h, ahead k rest)) count

-- ---- hunks that follow each other

stars-quiet : (line : List ℕ) → is_stars line ≡ true → is_backslash line ≡ false
unfolding after
stars-quiet [] e = refl
stars-quiet (b ∷ bytes) e =
    elim (chosen (eqb b 92) true false _ refl) [
      | inl slash ↦ absurd (let is : b ≡ 92 = eqb-true b 92 slash.0 in let bad : is_stars (92 ∷ bytes) ≡ true = subst (λ k. is_stars (k ∷ bytes) ≡ true) is e in cc)
      | inr other ↦ rw other.0 refl
    ]

pub opening_quiet : (rest : List (List ℕ)) → begins_hunk rest ≡ true → after_backslash rest ≡ None
opening_quiet [] e = refl
opening_quiet (line ∷ rest) e = line_quiet line rest (stars-quiet line (and_parts _ _ e).0)

pub opens-both : (stars line : List ℕ) (rest : List (List ℕ)) → is_stars stars ≡ true → opens_old line ≡ true → begins_hunk (stars ∷ line ∷ rest) ≡ true
opens-both stars line rest e f = rw (e, f) refl

pub hunk_opens : (least : ℕ) (own behind tail : List (List ℕ)) (h : PlainHunk) → SpellsHunk least own behind h → begins_hunk (own ++ tail) ≡ true
hunk_opens least own behind tail h s = rw s.parts (opens-both s.stars s.old_line ((s.old ++ s.new_line ∷ s.new) ++ tail) s.asterisks (stars-again s.old_line s.old_single h.old_start (length (part_of Forward h.body)) s.old_range))

pub grammar : IsGrammar begins_hunk hunk_at SpellsHunk
grammar = record {
  none = refl;
  quiet = opening_quiet;
  opens = hunk_opens;
  takes = λ least p x opens h. hunk_takes least p.number p.rest x opens h;
  again = hunk_again;
}

pub reading_finds : (number : ℕ) (lines : List (List ℕ)) (x : List PlainHunk × Ahead) → begins_hunk lines ≡ true → reading number lines ≡ Ok x → IsPiece number lines x.0 x.1.number x.1.rest
reading_finds number lines x opens h = reading_takes begins_hunk hunk_at SpellsHunk grammar number lines x h opens

pub reading_again : (number : ℕ) (lines : List (List ℕ)) (hs : List PlainHunk) (next : ℕ) (rest : List (List ℕ)) → IsPiece number lines hs next rest → reading number lines ≡ Ok (hs, ahead next rest)
reading_again = piece_reads begins_hunk hunk_at SpellsHunk grammar

pub is_found : {X : Type 0} (view : X → List PlainHunk × Ahead) (number : ℕ) (lines : List (List ℕ)) (r : Result X FormFault) → begins_hunk lines ≡ true → Gives view r (reading number lines) → IfOk r (λ h. IsPiece number lines (view h).0 (view h).1.number (view h).1.rest)
is_found view number lines (Ok h) opens given = reading_finds number lines (view h) opens given
is_found view number lines (Err e) opens given = tt
