-- Hunks of which only the first is kept, or of each its piece and its old lines.
use Rattle.std.proofs.Common.{◌≡◌, ℕ, ◌<◌, Bool, true, false, refl, List, [], ◌∷◌, ◌++◌, drop, map, Result, Ok, Err, sym, ap, subst, ◌∙◌, arith}
use Rattle.std.specs.Prelude.{IfOk, IfErr}
use Rattle.std.proofs.lemmas.List.{map_push}
use Rattle.line_list.specs.Lines.{lines}
use Rattle.line_list.specs.declared.Span.{Span}
use Rattle.hunk_core.specs.declared.fault.FormFault.{FormFault}
use Rattle.hunk_core.specs.declared.fault.Place.{Place}
use Rattle.hunk_core.specs.PlainHunk.{PlainHunk, hunk_of}
use Rattle.hunk_core.specs.Reading.{Fault, Fails, Gives, Ahead, IsPlace, ahead, ahead_of}
use Rattle.hunk_core.proofs.PieceLemmas.{spans_go_on, piece-lines, piece-whole}
use Rattle.hunk_core.proofs.Keeping.{fewer-behind}
use Rattle.hunk_core.proofs.Grammars.{reads_some}
use Rattle.hunk_core.specs.Pieces.{SpansSoFar}
use Rattle.hunk_core.specs.Following.{IsTaken}
use Rattle.hunk_core.specs.declared.Hunk.{Hunk}
use Rattle.hunk_core.specs.Turned.{IsLawful}
use Rattle.unified_form.specs.declared.hunk_scan.HunkScan.{HunkScan}
use Rattle.unified_form.specs.declared.hunk_scan.OldRange.{OldRange}
use Rattle.unified_form.specs.Grammar.{SpellsHunk}
use Rattle.unified_form.specs.Hunks.{hunk_at, begins_hunk, reading}
use Rattle.unified_form.specs.Skimmed.{HasFirst, HasRows, IsRow, IsSkimmed, are_some, old_range, past_hunk}
use Rattle.unified_form.proofs.Pieces.{SpellsIn, grammar, hunk_takes, reading_finds}
use Rattle.unified_form.proofs.Skimming.{row_fails, row_reads}

abbrev hunks_are : List PlainHunk → Ahead → Result (List PlainHunk × Ahead) Fault
hunks_are hs p = Ok (hs, p)

-- ---- one

pub row-is : (text : List ℕ) (least : ℕ) (place : Place) (r : Result (OldRange × Place) FormFault) → IfOk r (λ x. IsPlace text x.1 × (place.at < x.1.at)) → Gives (λ x. (x.0, ahead_of text x.1)) r (past_hunk least (ahead_of text place))
    → IfOk r (λ x. IsRow text least place x.0 x.1)
row-is text least place (Ok x) goes given =
    let h = row_reads least place.number (lines (drop place.at text)) x.0 (ahead_of text x.1) given in
    let t = hunk_takes least place.number (lines (drop place.at text)) (h.0, ahead_of text x.1) h.1 in
    record {
      hunk = h.0;
      is = sym h.2;
      read = h.1;
      whole = piece-whole text place.at x.1.at t.own (omega (arith, goes.1)) goes.0.within t.parts;
      piece = subst (λ ls. SpellsHunk least ls h.0) (sym (piece-lines text place.at x.1.at t.own (omega (arith, goes.1)) goes.0.within t.parts)) t.spelled;
    }
row-is text least place (Err e) goes given = tt

pub row-fails : (text : List ℕ) (least : ℕ) (place : Place) (r : Result (OldRange × Place) FormFault) → Gives (λ x. (x.0, ahead_of text x.1)) r (past_hunk least (ahead_of text place)) → IfErr r (λ e. Fails e (hunk_at least (ahead_of text place)))
row-fails text least place (Ok x) given = tt
row-fails text least place (Err e) given = row_fails e least place.number (lines (drop place.at text)) given

-- ---- those that follow each other

pub row-taken : {S : Type 0} (Has : List ℕ → ℕ → List PlainHunk → ℕ → ℕ → S → Type 0) (text : List ℕ) (least : ℕ) (place next : Place) (old : OldRange) (before after : S) → IsPlace text next × (place.at < next.at) → (row : IsRow text least place old next)
    → ((from : ℕ) (hs : List PlainHunk) → Has text from hs place.at least before → Has text from (hs ++ row.hunk ∷ []) next.at old.start after) → IsTaken hunk_at Has text least place before after old.start next
row-taken Has text least place next old before after goes row has = record {
  first = row.hunk;
  starts = ap (λ (o : OldRange). o.start) (sym row.is);
  read = row.read;
  fewer = fewer-behind text place.at next.at goes.1 goes.0.within row.whole;
  has = has;
}

pub rows-push : (text : List ℕ) (from : ℕ) (hs : List PlainHunk) (least : ℕ) (place next : Place) (old : OldRange) (olds : List OldRange) (spans : List Span) → place.at < next.at → (row : IsRow text least place old next)
    → HasRows text from hs place.at least olds spans → HasRows text from (hs ++ row.hunk ∷ []) next.at old.start (olds ++ old ∷ []) (spans ++ (record { start = place.at; end = next.at }) ∷ [])
rows-push text from hs least place next old olds spans some row has = record {
  olds_are = ap (λ (os : List OldRange). os ++ old ∷ []) has.olds_are ∙ ap (λ (o : OldRange). map old_range hs ++ o ∷ []) row.is ∙ sym (map_push old_range hs row.hunk);
  pieces = subst (λ n. SpansSoFar SpellsHunk text from (spans ++ (record { start = place.at; end = next.at }) ∷ []) (hs ++ row.hunk ∷ []) next.at n) (ap (λ (o : OldRange). o.start) (sym row.is)) (spans_go_on SpellsHunk text from spans hs place.at next.at least row.hunk has.pieces some row.whole row.piece);
}

-- ---- of which the first is kept

pub first-kept : (text : List ℕ) (from : ℕ) (hs : List PlainHunk) (at next : ℕ) (none more : Bool) (before h : Hunk) → none ≡ true → at < next → IsLawful text h → HasFirst text from hs at none before more → HasFirst text from (hs ++ hunk_of text h ∷ []) next false h more
first-kept text from [] at next none more before h is some lawful has = (refl, refl, has.1, lawful, omega (arith, some, has.2))
first-kept text from (x ∷ hs) at next none more before h is some lawful has = absurd (let bad : true ≡ false = sym is ∙ has.0 in cc)

are-more : (hs : List PlainHunk) (h : PlainHunk) → true ≡ are_some (hs ++ h ∷ [])
are-more [] h = refl
are-more (x ∷ hs) h = refl

pub first-stays : (text : List ℕ) (from : ℕ) (hs : List PlainHunk) (at next : ℕ) (none more : Bool) (first : Hunk) (h : PlainHunk) → none ≡ false → at < next → HasFirst text from hs at none first more → HasFirst text from (hs ++ h ∷ []) next none first true
first-stays text from [] at next none more first h is some has = absurd (let bad : true ≡ false = sym has.0 ∙ is in cc)
first-stays text from (x ∷ hs) at next none more first h is some has = (has.0, has.1, are-more hs h, has.3, omega (arith, some, has.4))

pub record SkimmedIs (text : List ℕ) (at line : ℕ) (s : HunkScan) : Type 0 where
  pub is : IsSkimmed text line (lines (drop at text)) s
  pub lawful : IsLawful text s.first
  pub some : at < s.end

pub skimmed-is : (text : List ℕ) (at line : ℕ) (none : Bool) (s : HunkScan) (hs : List PlainHunk) → begins_hunk (lines (drop at text)) ≡ true → reading line (lines (drop at text)) ≡ Ok (hs, ahead s.next (lines (drop s.end text))) → HasFirst text at hs s.end none s.first s.more → SkimmedIs text at line s
skimmed-is text at line none s [] opens read has = absurd (reads_some begins_hunk hunk_at SpellsIn grammar line (lines (drop at text)) ([], ahead s.next (lines (drop s.end text))) opens read refl)
skimmed-is text at line none s (h ∷ hs) opens read has =
    let q : Ahead = ahead s.next (lines (drop s.end text)) in
    let same : hunks_are (h ∷ hs) q ≡ hunks_are (hunk_of text s.first ∷ hs) q = ap (λ (x : PlainHunk). hunks_are (x ∷ hs) q) has.1 in
    let first : reading line (lines (drop at text)) ≡ Ok (hunk_of text s.first ∷ hs, q) = read ∙ same in
    record {
      is = record { others = hs; more = has.2; read = first; piece = reading_finds line (lines (drop at text)) (hunk_of text s.first ∷ hs, q) opens first };
      lawful = has.3;
      some = has.4;
    }
