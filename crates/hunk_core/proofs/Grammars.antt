-- From one hunk to those that follow each other, in any form: hunks that are read are spelled so, what is spelled so is read, and a fault stays.
use Rattle.std.proofs.Common.{◌≡◌, ℕ, zero, suc, ◌+◌, ◌-◌, ◌≤◌, ◌<◌, Bool, true, false, List, [], ◌∷◌, ◌++◌, drop, slice_range, length, None, Result, Ok, Err, refl, sym, ap, subst, ◌∙◌, append_assoc, arith, inl, inr}
use Rattle.std.specs.Prelude.{IfOk}
use Rattle.std.proofs.lemmas.List.{append-nil, length-append}
use Rattle.line_list.specs.Lines.{lines, ArePieces}
use Rattle.line_list.proofs.Choices.{chosen}
use Rattle.line_list.proofs.Pieces.{lines-pieces}
use Rattle.hunk_core.specs.declared.Hunk.{Hunk}
use Rattle.hunk_core.specs.declared.fault.FormFault.{FormFault}
use Rattle.hunk_core.specs.declared.fault.Place.{Place}
use Rattle.hunk_core.specs.LineTests.{after_backslash}
use Rattle.hunk_core.specs.PlainHunk.{PlainHunk, hunk_of}
use Rattle.hunk_core.specs.Reading.{◌>>=◌, Fault, Gives, Ahead, IsPlace, ahead, ahead_of}
use Rattle.hunk_core.specs.Rules.{first_broken}
use Rattle.hunk_core.specs.Following.{hunks_by, reading_by, SpellsEach, IsPieceOf}
use Rattle.hunk_core.proofs.Following.{more_hunks, hunks_step, no_hunks}
use Rattle.hunk_core.proofs.PieceLemmas.{piece-lines, piece-whole}
use Rattle.hunk_core.proofs.ReadSteps.{bind_ok, ok_is}

-- what a hunk that was read takes
pub record TakesHunk (Spells : ℕ → List (List ℕ) → List (List ℕ) → PlainHunk → Type 0) (least : ℕ) (p : Ahead) (x : PlainHunk × Ahead) : Type 0 where
  pub own : List (List ℕ)
  pub parts : p.rest ≡ own ++ x.1.rest
  pub number : x.1.number ≡ p.number + length own
  pub spelled : Spells least own x.1.rest x.0
  pub quiet : after_backslash x.1.rest ≡ None

-- what is known of one hunk of a form: how it opens, reads and is spelled before the lines behind it
pub record IsGrammar (begins : List (List ℕ) → Bool) (hunk : ℕ → Ahead → Result (PlainHunk × Ahead) Fault) (Spells : ℕ → List (List ℕ) → List (List ℕ) → PlainHunk → Type 0) : Type 0 where
  pub none : begins [] ≡ false
  pub quiet : (rest : List (List ℕ)) → begins rest ≡ true → after_backslash rest ≡ None
  pub opens : (least : ℕ) (own behind tail : List (List ℕ)) (h : PlainHunk) → Spells least own behind h → begins (own ++ tail) ≡ true
  pub takes : (least : ℕ) (p : Ahead) (x : PlainHunk × Ahead) → begins p.rest ≡ true → hunk least p ≡ Ok x → TakesHunk Spells least p x
  pub again : (h : PlainHunk) (own rest : List (List ℕ)) (least number : ℕ) → Spells least own rest h → after_backslash rest ≡ None → hunk least (ahead number (own ++ rest)) ≡ Ok (h, ahead (number + length own) rest)

-- what hunks that were read take
pub record TakesHunks (begins : List (List ℕ) → Bool) (Spells : ℕ → List (List ℕ) → List (List ℕ) → PlainHunk → Type 0) (least : ℕ) (p : Ahead) (x : List PlainHunk × Ahead) : Type 0 where
  pub own : List (List ℕ)
  pub parts : p.rest ≡ own ++ x.1.rest
  pub number : x.1.number ≡ p.number + length own
  pub spelled : SpellsEach Spells least own x.1.rest x.0
  pub stops : begins x.1.rest ≡ false
  pub quiet : after_backslash p.rest ≡ None → after_backslash x.1.rest ≡ None

-- hunks that don't look at the lines behind them are spelled before any
pub each-alike : (S T : ℕ → List (List ℕ) → List (List ℕ) → PlainHunk → Type 0) → ((least : ℕ) (own behind others : List (List ℕ)) (h : PlainHunk) → S least own behind h → T least own others h)
    → (least : ℕ) (piece rest others : List (List ℕ)) (hs : List PlainHunk) → SpellsEach S least piece rest hs → SpellsEach T least piece others hs
each-alike S T same least piece rest others [] s = s
each-alike S T same least piece rest others (h ∷ hs) s = (s.0, s.1, s.2, same least s.0 (s.1 ++ rest) (s.1 ++ others) h s.3, each-alike S T same h.old_start s.1 rest others hs s.4)

-- a piece of such hunks
pub piece-alike : (begins : List (List ℕ) → Bool) (S : ℕ → List (List ℕ) → List (List ℕ) → PlainHunk → Type 0) (before after : List (List ℕ) → List (List ℕ)) → ((least : ℕ) (own behind others : List (List ℕ)) (h : PlainHunk) → S least own behind h → S least own others h)
    → (number : ℕ) (lines : List (List ℕ)) (hs : List PlainHunk) (next : ℕ) (rest : List (List ℕ)) → IsPieceOf begins (λ own behind hs. SpellsEach S 0 own (before behind) hs) number lines hs next rest → IsPieceOf begins (λ own behind hs. SpellsEach S 0 own (after behind) hs) number lines hs next rest
piece-alike begins S before after same number lines hs next rest p = record { own = p.own; parts = p.parts; spelled = each-alike S S same 0 p.own (before rest) (after rest) hs p.spelled; ends = p.ends; counted = p.counted }

module _ (begins : List (List ℕ) → Bool) (hunk : ℕ → Ahead → Result (PlainHunk × Ahead) Fault) (Spells : ℕ → List (List ℕ) → List (List ℕ) → PlainHunk → Type 0) (law : IsGrammar begins hunk Spells) where
  pub some-lines : (rest : List (List ℕ)) → begins rest ≡ true → 0 < length rest
  some-lines [] e = absurd (let bad : true ≡ false = sym e ∙ law.none in cc)
  some-lines (line ∷ rest) e = omega arith

  pub own-lines : (least : ℕ) (own behind : List (List ℕ)) (h : PlainHunk) → Spells least own behind h → 0 < length own
  own-lines least own behind h s = some-lines own (subst (λ ls. begins ls ≡ true) (append-nil own) (law.opens least own behind [] h s))

  pub hunk-shrinks : (least : ℕ) (p : Ahead) (x : PlainHunk × Ahead) → begins p.rest ≡ true → hunk least p ≡ Ok x → length x.1.rest < length p.rest
  hunk-shrinks least p x opens h = let t = law.takes least p x opens h in omega (arith, ap length t.parts, length-append t.own x.1.rest, own-lines least t.own x.1.rest x.0 t.spelled)

  hunks_none : (least : ℕ) (p : Ahead) → begins p.rest ≡ false → TakesHunks begins Spells least p ([], p)
  hunks_none least p none = record { own = []; parts = refl; number = omega arith; spelled = refl; stops = none; quiet = λ h. h }

  hunks_more : (least : ℕ) (p : Ahead) (x : PlainHunk × Ahead) (y : List PlainHunk × Ahead) → TakesHunk Spells least p x → TakesHunks begins Spells x.0.old_start x.1 y → TakesHunks begins Spells least p (x.0 ∷ y.0, y.1)
  hunks_more least p x y first others = record {
    own = first.own ++ others.own;
    parts = first.parts ∙ ap (λ (r : List (List ℕ)). first.own ++ r) others.parts ∙ sym (append_assoc first.own others.own y.1.rest);
    number = omega (arith, first.number, others.number, length-append first.own others.own);
    spelled = (first.own, others.own, refl, subst (λ (ls : List (List ℕ)). Spells least first.own ls x.0) others.parts first.spelled, others.spelled);
    stops = others.stops;
    quiet = λ _. others.quiet first.quiet;
  }

  nothing_begins : (rest : List (List ℕ)) → length rest ≤ 0 → begins rest ≡ false
  nothing_begins [] le = law.none
  nothing_begins (line ∷ rest) le = absurd (omega arith)

  pub hunks_take : (most least : ℕ) (p : Ahead) (x : List PlainHunk × Ahead) → length p.rest ≤ most → hunks_by begins hunk most least p ≡ Ok x → TakesHunks begins Spells least p x
  unfolding hunks_by
  hunks_take zero least p x enough h = subst (TakesHunks begins Spells least p) (ok_is _ _ h) (hunks_none least p (nothing_begins p.rest enough))
  hunks_take (suc most) least p x enough h =
      elim (chosen (begins p.rest) _ _ (Ok x) h) [
        | inl some ↦ (
            let a = bind_ok (hunk least p) (more_hunks begins hunk most) x some.1 in
            let b = bind_ok (hunks_by begins hunk most a.0.0.old_start a.0.1) (λ others. Ok (a.0.0 ∷ others.0, others.1)) x a.2 in
            let others = hunks_take most a.0.0.old_start a.0.1 b.0 (omega (arith, hunk-shrinks least p a.0 some.0 a.1)) b.1 in
            subst (TakesHunks begins Spells least p) (ok_is _ _ b.2) (hunks_more least p a.0 b.0 (law.takes least p a.0 some.0 a.1) others))
        | inr none ↦ subst (TakesHunks begins Spells least p) (ok_is _ _ none.1) (hunks_none least p none.0)
      ]

  hunks_quiet : (hs : List PlainHunk) (least : ℕ) (own rest : List (List ℕ)) → SpellsEach Spells least own rest hs → after_backslash rest ≡ None → after_backslash (own ++ rest) ≡ None
  hunks_quiet [] least own rest s none = rw s none
  hunks_quiet (h ∷ hs) least own rest s none = rw (s.2, append_assoc s.0 s.1 rest) (law.quiet (s.0 ++ (s.1 ++ rest)) (law.opens least s.0 (s.1 ++ rest) (s.1 ++ rest) h s.3))

  pub hunks_again : (hs : List PlainHunk) (own rest : List (List ℕ)) (least number most : ℕ) → SpellsEach Spells least own rest hs → begins rest ≡ false → after_backslash rest ≡ None → length (own ++ rest) ≤ most
      → hunks_by begins hunk most least (ahead number (own ++ rest)) ≡ Ok (hs, ahead (number + length own) rest)
  unfolding hunks_by
  hunks_again [] own rest least number most s ends quiet enough =
      let same : number + 0 ≡ number = omega arith in
      rw (s, same) (no_hunks begins hunk most least (ahead number rest) ends)
  hunks_again (h ∷ hs) own rest least number zero s ends quiet enough =
      absurd (omega (arith, length-append own rest, length-append s.0 s.1, ap length s.2, own-lines least s.0 (s.1 ++ rest) h s.3))
  hunks_again (h ∷ hs) own rest least number (suc most) s ends quiet enough =
      let mine = s.0 in
      let more = s.1 in
      let parts : own ++ rest ≡ mine ++ (more ++ rest) = ap (λ (p : List (List ℕ)). p ++ rest) s.2 ∙ append_assoc mine more rest in
      let opens : begins (mine ++ (more ++ rest)) ≡ true = law.opens least mine (more ++ rest) (more ++ rest) h s.3 in
      let one : hunk least (ahead number (mine ++ (more ++ rest))) ≡ Ok (h, ahead (number + length mine) (more ++ rest)) = law.again h mine (more ++ rest) least number s.3 (hunks_quiet hs h.old_start more rest s.4 quiet) in
      let fewer : length (more ++ rest) ≤ most = omega (arith, enough, ap length parts, length-append mine (more ++ rest), own-lines least mine (more ++ rest) h s.3) in
      let others : hunks_by begins hunk most h.old_start (ahead (number + length mine) (more ++ rest)) ≡ Ok (hs, ahead (number + length mine + length more) rest) = hunks_again hs more rest h.old_start (number + length mine) most s.4 ends quiet fewer in
      let count : number + length mine + length more ≡ number + length own = omega (arith, length-append mine more, ap length s.2) in
      ap (λ (p : List (List ℕ)). hunks_by begins hunk (suc most) least (ahead number p)) parts
      ∙ rw (opens, one, others, count) refl

  -- ---- the whole piece

  pub reading_takes : (number : ℕ) (rest : List (List ℕ)) (x : List PlainHunk × Ahead) → reading_by begins hunk number rest ≡ Ok x → begins rest ≡ true → IsPieceOf begins (λ own behind hs. SpellsEach Spells 0 own behind hs) number rest x.0 x.1.number x.1.rest
  reading_takes number rest x h opens =
      let t = hunks_take (length rest) 0 (ahead number rest) x (omega arith) h in
      record { own = t.own; parts = t.parts; spelled = t.spelled; ends = (t.stops, t.quiet (law.quiet rest opens)); counted = t.number }

  pub piece_reads : (number : ℕ) (rest : List (List ℕ)) (hs : List PlainHunk) (next : ℕ) (behind : List (List ℕ)) → IsPieceOf begins (λ own behind hs. SpellsEach Spells 0 own behind hs) number rest hs next behind → reading_by begins hunk number rest ≡ Ok (hs, ahead next behind)
  piece_reads number rest hs next behind p =
      rw (p.parts, p.counted) (hunks_again hs p.own behind 0 number (length (p.own ++ behind)) p.spelled p.ends.0 p.ends.1 (omega arith))

  -- whatever is read of lines that begin with a hunk begins with it
  pub reads_first : (h : PlainHunk) (own rest : List (List ℕ)) (number : ℕ) (x : List PlainHunk × Ahead) → Spells 0 own rest h → after_backslash rest ≡ None → reading_by begins hunk number (own ++ rest) ≡ Ok x → (others : List PlainHunk) × (x.0 ≡ h ∷ others)
  reads_first h own rest number x s quiet read =
      let p : Ahead = ahead number (own ++ rest) in
      let most = length (own ++ rest) - 1 in
      let k : length (own ++ rest) ≡ suc most = omega (arith, length-append own rest, own-lines 0 own rest h s) in
      let goes : (hunk 0 p >>= more_hunks begins hunk most) ≡ Ok x = sym (hunks_step begins hunk most 0 p (law.opens 0 own rest rest h s)) ∙ subst (λ n. hunks_by begins hunk n 0 p ≡ Ok x) k read in
      let a = bind_ok (hunk 0 p) (more_hunks begins hunk most) x goes in
      let b = bind_ok (hunks_by begins hunk most a.0.0.old_start a.0.1) (λ others. Ok (a.0.0 ∷ others.0, others.1)) x a.2 in
      let same : a.0 ≡ (h, ahead (number + length own) rest) = ok_is _ _ (sym a.1 ∙ law.again h own rest 0 number s quiet) in
      (b.0.0, ap (λ (y : List PlainHunk × Ahead). y.0) (sym (ok_is _ _ b.2)) ∙ ap (λ (y : PlainHunk × Ahead). y.0 ∷ b.0.0) same)

  -- where a hunk opens, one is read
  pub reads_some : (number : ℕ) (rest : List (List ℕ)) (x : List PlainHunk × Ahead) → begins rest ≡ true → reading_by begins hunk number rest ≡ Ok x → x.0 ≡ [] → ⊥
  reads_some number rest x opens h none =
      let t = hunks_take (length rest) 0 (ahead number rest) x (omega arith) h in
      let own : t.own ≡ [] = subst (SpellsEach Spells 0 t.own x.1.rest) none t.spelled in
      let all : rest ≡ x.1.rest = t.parts ∙ ap (λ (ls : List (List ℕ)). ls ++ x.1.rest) own in
      absurd (let bad : true ≡ false = sym opens ∙ ap begins all ∙ t.stops in cc)

  -- ---- a hunk that was read, over the text

  pub result-piece : (text : List ℕ) (least : ℕ) (place : Place) (r : Result (Hunk × Place) FormFault) → begins (lines (drop place.at text)) ≡ true → IfOk r (λ x. IsPlace text x.1 × (place.at < x.1.at)) → Gives (λ x. (hunk_of text x.0, ahead_of text x.1)) r (hunk least (ahead_of text place))
      → IfOk r (λ x. Spells least (lines (slice_range text place.at x.1.at)) (lines (drop x.1.at text)) (hunk_of text x.0))
  result-piece text least place (Ok x) opens goes given =
      let t = law.takes least (ahead_of text place) (hunk_of text x.0, ahead_of text x.1) opens given in
      subst (λ ls. Spells least ls (lines (drop x.1.at text)) (hunk_of text x.0)) (sym (piece-lines text place.at x.1.at t.own (omega (arith, goes.1)) goes.0.within t.parts)) t.spelled
  result-piece text least place (Err e) opens goes given = tt

  pub result-whole : (text : List ℕ) (least : ℕ) (place : Place) (r : Result (Hunk × Place) FormFault) → begins (lines (drop place.at text)) ≡ true → IfOk r (λ x. IsPlace text x.1 × (place.at < x.1.at)) → Gives (λ x. (hunk_of text x.0, ahead_of text x.1)) r (hunk least (ahead_of text place))
      → IfOk r (λ x. lines (drop place.at text) ≡ lines (slice_range text place.at x.1.at) ++ lines (drop x.1.at text))
  result-whole text least place (Ok x) opens goes given =
      let t = law.takes least (ahead_of text place) (hunk_of text x.0, ahead_of text x.1) opens given in
      piece-whole text place.at x.1.at t.own (omega (arith, goes.1)) goes.0.within t.parts
  result-whole text least place (Err e) opens goes given = tt

  pub result-unbroken : (text : List ℕ) (least : ℕ) (place : Place) (r : Result (Hunk × Place) FormFault) → ((own behind : List (List ℕ)) (h : PlainHunk) → Spells least own behind h → ArePieces own → first_broken h ≡ None)
      → IfOk r (λ x. Spells least (lines (slice_range text place.at x.1.at)) (lines (drop x.1.at text)) (hunk_of text x.0)) → IfOk r (λ x. first_broken (hunk_of text x.0) ≡ None)
  result-unbroken text least place (Ok x) unbroken s = unbroken (lines (slice_range text place.at x.1.at)) (lines (drop x.1.at text)) (hunk_of text x.0) s (lines-pieces (slice_range text place.at x.1.at))
  result-unbroken text least place (Err e) unbroken s = tt
