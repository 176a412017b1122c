-- A text that is read has the file patches that are read.
use Rattle.std.proofs.Common.{◌≡◌, ◌⊎◌, inl, inr, ◌+◌, ◌<◌, ◌≤◌, ℕ, zero, suc, true, false, cond, List, [], ◌∷◌, ◌++◌, length, map, drop, Some, Result, Ok, Err, refl, sym, ap, subst, ◌∙◌, arith}
use Rattle.std.specs.Prelude.{sum_by}
use Rattle.std.proofs.lemmas.Option.{same_Some}
use Rattle.line_list.specs.Lines.{lines}
use Rattle.line_list.proofs.Pieces.{lines-pieces}
use Rattle.hunk_core.specs.Reading.{Fault, ◌>>=◌, Ahead}
use Rattle.hunk_core.proofs.ReadSteps.{bind_ok, ok_is}
use Rattle.patch_header.specs.GitHeaders.{git_header}
use Rattle.patch_header.specs.GitRows.{led_by}
use Rattle.patch_header.specs.Openings.{admits, begins, stop_at}
use Rattle.patch_header.specs.Region.{Row, rows}
use Rattle.patch_header.specs.Steps.{IsEnd, IsFirstOpening, header_with, bare_with, header_at, seen_for, next_step}
use Rattle.read_header_record.specs.declared.Header.{Header}
use Rattle.patch_header.specs.declared.openings.Stop.{Stop}
use Rattle.patch_header.specs.declared.openings.Stop.TheVariants.{Opening, Binary, Bare}
use Rattle.patch_header.specs.declared.search.HeaderStep.{HeaderStep}
use Rattle.patch_header.specs.declared.search.HeaderStep.TheVariants as steps
use Rattle.patch_header.specs.declared.read_options.ReadOptions.{ReadOptions}
use Rattle.patch_header.proofs.Stands.{and_right, opening-words}
use Rattle.read_file_patch.specs.PlainPatch.{PlainChange, PlainPatch, hunks}
use Rattle.read_patch_text.specs.Patches.{bare_change, change_at, change_behind, patch_with, patch_by, and_later, place_before, patches_at, patches_of}
use Rattle.read_patch_text.specs.Texts.{IsPiece, GoesUpTo, StandsFirst, Stand, HasPatches}
use Rattle.read_patch_text.proofs.ChangeLemmas.{opens-change}
use Rattle.read_patch_text.proofs.TextLaws.{quiet-end}
use Rattle.read_patch_text.proofs.TextLoops.{patches-step, patches-zero}
use Rattle.law_reading.specs.Unnumbered.{unnumbered}
use Rattle.law_reading.specs.Following.{Spell, AreFilePatches}
use Rattle.law_reading.specs.Joins.{read_unnumbered}
use Rattle.law_reading.proofs.Finding.{opening-found, end-found, change-found, place-is}
use Rattle.law_reading.proofs.Joining.{body-some}
use Rattle.law_reading.proofs.Places.{skip-lines, lines-within}
use Rattle.law_reading.proofs.Standing.{placed, behind_header, header-split, some-bytes, text-alone}

-- ---- what stands, by the header

abbrev pub Stands : Stop → ℕ → Header → Type 0
Stands stop place h = ((stop ≡ Opening h.form) × (place ≡ h.at) × (h.bare ≡ false)) ⊎ ((stop ≡ Bare) × (place ≡ h.at) × (h.bare ≡ true))

pub stands-so : (ways : ReadOptions) (text : List ℕ) (place number : ℕ) (rs : List Row) (stop : Stop) (h : Header) → header_at ways text place number rs stop ≡ Some h → Stands stop place h
stands-so ways text place number rs (Opening form) h e =
    let is : header_with text form place number (seen_for ways form text rs) (led_by ways form rs) ≡ h = same_Some _ h e in
    inl (ap (λ (x : Header). Opening x.form) is, ap (λ (x : Header). x.at) is, sym (ap (λ (x : Header). x.bare) is))
stands-so ways text place number rs Bare h e =
    let is : bare_with text place number rs ≡ h = same_Some _ h e in
    inr (refl, ap (λ (x : Header). x.at) is, sym (ap (λ (x : Header). x.bare) is))
stands-so ways text place number rs Binary h e = absurd cc

-- ---- one file patch

-- how far a change goes that was read at a header
pub record Goes (text : List ℕ) (h : Header) (x : PlainChange × Ahead) : Type 0 where
  pub body : List (List ℕ)
  pub ahead_is : lines (drop h.at text) ≡ body ++ x.1.rest
  pub some : 0 < sum_by length body
  pub end : place_before text x.1.rest ≡ h.at + sum_by length body
  pub behind : lines (drop (place_before text x.1.rest) text) ≡ x.1.rest
  pub high : place_before text x.1.rest ≤ length text
  pub goes : GoesUpTo text h x.0 (place_before text x.1.rest) x.1.number

module _ (ways : ReadOptions) (text : List ℕ) (h : Header) (x : PlainChange × Ahead) (high : h.at ≤ length text) (read : change_behind text h ≡ Ok x) where
  open-goes : h.bare ≡ false → stop_at ways (lines (drop h.at text)) ≡ Some (Opening h.form) → Goes text h x
  open-goes bare stands =
      let rest = lines (drop h.at text) in
      let begins_there : begins ways.only h.form rest ≡ true = and_right (admits ways.only h.form) _ ((opening-words ways h.form rest).0 stands) in
      let read_at : change_at h.form h.opening rest ≡ Ok x = ap (λ b. cond b (Ok (bare_change text h.at h.opening)) (change_at h.form h.opening rest)) (sym bare) ∙ read in
      let piece = change-found h.form h.opening rest x (opens-change ways.only h.form rest begins_there) read_at in
      let p = placed h.form h.opening rest x.0 x.1.number x.1.rest piece in
      let end : place_before text x.1.rest ≡ h.at + sum_by length p.own = place-is text h.at p.own x.1.rest high p.parts in
      let behind : lines (drop (place_before text x.1.rest) text) ≡ x.1.rest = ap (λ k. lines (drop k text)) end ∙ skip-lines text h.at p.own x.1.rest p.parts in
      let spell : Spell (Opening h.form) p.own x.1.rest x.0 = p.anywhere 0 (length p.own) (omega arith) in
      let line = body-some ways p.own x.1.rest (Opening h.form) x.0 (ap (stop_at ways) (sym p.parts) ∙ stands) spell in
      let within : h.at + sum_by length p.own ≤ length text = lines-within text h.at p.own x.1.rest high p.parts in
      record {
        body = p.own;
        ahead_is = p.parts;
        some = some-bytes p.own x.1.rest rest (lines-pieces (drop h.at text)) p.parts line;
        end = end;
        behind = behind;
        high = omega (arith, end, within);
        goes = record {
          spelled = λ b. subst (λ (ls : List (List ℕ)). IsPiece h.form h.opening rest x.0 x.1.number ls) (sym behind) piece;
          bare = λ b. absurd cc;
        };
      }

  bare-goes : h.bare ≡ true → stop_at ways (lines (drop h.at text)) ≡ Some Bare → Goes text h x
  bare-goes bare stands =
      let rest = lines (drop h.at text) in
      let is : bare_change text h.at h.opening ≡ x = ok_is (bare_change text h.at h.opening) x (sym (ap (λ b. cond b (Ok (bare_change text h.at h.opening)) (change_at h.form h.opening rest)) bare) ∙ read) in
      let others : x.1.rest ≡ behind_header rest = sym (ap (λ (y : PlainChange × Ahead). y.1.rest) is) ∙ skip-lines text h.at (git_header rest) (behind_header rest) (header-split rest) in
      let parts : rest ≡ git_header rest ++ x.1.rest = header-split rest ∙ ap (λ ls. git_header rest ++ ls) (sym others) in
      let end : place_before text x.1.rest ≡ h.at + sum_by length (git_header rest) = place-is text h.at (git_header rest) x.1.rest high parts in
      let behind : lines (drop (place_before text x.1.rest) text) ≡ x.1.rest = ap (λ k. lines (drop k text)) end ∙ skip-lines text h.at (git_header rest) x.1.rest parts in
      let none : hunks [] ≡ x.0 = ap (λ (y : PlainChange × Ahead). y.0) is in
      let spell : Spell Bare (git_header rest) x.1.rest x.0 = (ap git_header parts, sym none) in
      let line = body-some ways (git_header rest) x.1.rest Bare x.0 (ap (stop_at ways) (sym parts) ∙ stands) spell in
      let within : h.at + sum_by length (git_header rest) ≤ length text = lines-within text h.at (git_header rest) x.1.rest high parts in
      record {
        body = git_header rest;
        ahead_is = parts;
        some = some-bytes (git_header rest) x.1.rest rest (lines-pieces (drop h.at text)) parts line;
        end = end;
        behind = behind;
        high = omega (arith, end, within);
        goes = record {
          spelled = λ b. absurd cc;
          bare = λ b. record { none = sym none; ends = end; counted = sym (ap (λ (y : PlainChange × Ahead). y.1.number) is) };
        };
      }

inside : (ways : ReadOptions) (text : List ℕ) (at number : ℕ) (h : Header) (le : at ≤ length text) (opens : IsFirstOpening ways text at number h) → opens.place ≡ h.at → h.at ≤ length text
inside ways text at number h le opens e =
    let within : at + sum_by length opens.region ≤ length text = lines-within text at opens.region (lines (drop opens.place text)) le opens.is_region.parts in
    omega (arith, within, opens.is_region.ends, e)

pub goes-of : (ways : ReadOptions) (text : List ℕ) (at number : ℕ) (h : Header) (x : PlainChange × Ahead) → at ≤ length text → IsFirstOpening ways text at number h → change_behind text h ≡ Ok x → (at ≤ h.at) × Goes text h x
goes-of ways text at number h x le opens read =
    elim (stands-so ways text opens.place (number + length opens.region) (rows number at opens.region) opens.stop h opens.says) [
      | inl s ↦ (omega (arith, opens.is_region.ends, s.1), open-goes ways text h x (inside ways text at number h le opens s.1) read s.2 (ap (λ k. stop_at ways (lines (drop k text))) (sym s.1) ∙ opens.stands ∙ ap (λ t. Some t) s.0))
      | inr s ↦ (omega (arith, opens.is_region.ends, s.1), bare-goes ways text h x (inside ways text at number h le opens s.1) read s.2 (ap (λ k. stop_at ways (lines (drop k text))) (sym s.1) ∙ opens.stands ∙ ap (λ t. Some t) s.0))
    ]

goes-so : (ways : ReadOptions) (text : List ℕ) (at number : ℕ) (h : Header) (x : PlainChange × Ahead) → at ≤ length text → IsFirstOpening ways text at number h → change_behind text h ≡ Ok x → StandsFirst ways text at number (patch_with text h x.0) (place_before text x.1.rest) x.1.number
goes-so ways text at number h x le opens read =
    let two = goes-of ways text at number h x le opens read in
    let g = two.1 in
    record { header = h; opens = opens; says = refl; goes = g.goes; some = omega (arith, two.0, g.some, g.end); high = g.high }

-- ---- all of them

record Standing (ways : ReadOptions) (text : List ℕ) (at number : ℕ) (ps : List PlainPatch) : Type 0 where
  end : ℕ
  next : ℕ
  stand : Stand ways text at number ps end next
  ends : IsEnd ways text end

none-stand : (ways : ReadOptions) (text : List ℕ) (at number : ℕ) (ps : List PlainPatch) → [] ≡ ps → IsEnd ways text at → Standing ways text at number ps
none-stand ways text at number [] e ends = record { end = at; next = number; stand = (refl, refl); ends = ends }
none-stand ways text at number (p ∷ ps) e ends = absurd cc

one-more : (ways : ReadOptions) (text : List ℕ) (at number mid line : ℕ) (p : PlainPatch) (later ps : List PlainPatch) → StandsFirst ways text at number p mid line → Standing ways text mid line later → p ∷ later ≡ ps → Standing ways text at number ps
one-more ways text at number mid line p later ps first more e =
    subst (λ (qs : List PlainPatch). Standing ways text at number qs) e (record { end = more.end; next = more.next; stand = (mid, line, first, more.stand); ends = more.ends })

all-found : (most : ℕ) (ways : ReadOptions) (text : List ℕ) (at number : ℕ) (ps : List PlainPatch) → length text ≤ at + most → at ≤ length text → patches_at most ways text at number ≡ Ok ps → Standing ways text at number ps
all-found zero ways text at number ps enough le e =
    none-stand ways text at number ps (ok_is [] ps (sym (patches-zero ways text at number) ∙ e)) (quiet-end ways text at (omega (arith, enough, le)))
all-found (suc most) ways text at number ps enough le e =
    by (next_step ways text at number) refl (sym (patches-step most ways text at number) ∙ e) (λ mid line later far high read. all-found most ways text mid line later far high read)
  where
    by : (s : HeaderStep) → next_step ways text at number ≡ s → (patch_by text s >>= and_later (λ p. patches_at most ways text (place_before text p.rest) p.number)) ≡ Ok ps
        → ((mid line : ℕ) (later : List PlainPatch) → length text ≤ mid + most → mid ≤ length text → patches_at most ways text mid line ≡ Ok later → Standing ways text mid line later) → Standing ways text at number ps
    by steps.End s r again = none-stand ways text at number ps (ok_is [] ps r) (end-found ways text at number s)
    by (steps.Binary n) s r again = absurd cc
    by (steps.Found h) s r again = found (change_behind text h) refl r
      where
        found : (o : Result (PlainChange × Ahead) Fault) → change_behind text h ≡ o
            → ((o >>= λ x. Ok (patch_with text h x.0, x.1)) >>= (λ x. Ok (Some x)) >>= and_later (λ p. patches_at most ways text (place_before text p.rest) p.number)) ≡ Ok ps → Standing ways text at number ps
        found (Err f) k q = absurd cc
        found (Ok x) k q =
            let first = goes-so ways text at number h x le (opening-found ways text at number h s) k in
            let mid = place_before text x.1.rest in
            let b = bind_ok (patches_at most ways text mid x.1.number) (λ others. Ok (patch_with text h x.0 ∷ others)) ps q in
            let more = again mid x.1.number b.0 (let far : at < mid = first.some in omega arith) first.high b.1 in
            one-more ways text at number mid x.1.number (patch_with text h x.0) b.0 ps first more (ok_is (patch_with text h x.0 ∷ b.0) ps b.2)

-- what is read stands by the grammars
pub text-found : (ways : ReadOptions) (text : List ℕ) (ps : List PlainPatch) → patches_of ways text ≡ Ok ps → HasPatches ways text ps
text-found ways text ps e = let s = all-found (length text) ways text 0 1 ps (omega arith) (omega arith) e in record { end = s.end; next = s.next; stand = s.stand; ends = s.ends }

pub lines-found : (ways : ReadOptions) (text : List ℕ) (qs : List PlainPatch) → read_unnumbered ways text ≡ Ok qs → AreFilePatches ways (lines text) qs
lines-found ways text qs e =
    let b = bind_ok (patches_of ways text) (λ ps. Ok (map unnumbered ps)) qs e in
    subst (AreFilePatches ways (lines text)) (ok_is (map unnumbered b.0) qs b.2) (text-alone ways text b.0 (text-found ways text b.0 b.1))
