-- The line that a fault of context hunks names.
use Rattle.std.proofs.Common.{◌≡◌, ◌≢◌, ◌⊎◌, inl, inr, ℕ, zero, suc, ◌+◌, Bool, true, false, not, cond, ltb, ◌&&◌, List, [], ◌∷◌, ◌++◌, length, Option, None, Some, Result, Ok, Err, refl, sym, ap, subst, ◌∙◌, append_assoc, arith}
use Rattle.std.specs.Prelude.{is_some}
use Rattle.std.proofs.lemmas.List.{append-nil, length-append}
use Rattle.hunk_core.specs.declared.Side.{Side}
use Rattle.hunk_core.specs.declared.Side.TheVariants.{Forward, Reversed}
use Rattle.hunk_core.specs.declared.BadKind.{BadKind}
use Rattle.hunk_core.specs.declared.BadKind.TheVariants as kinds
use Rattle.hunk_core.specs.PlainHunk.{Marked, PlainHunk}
use Rattle.hunk_core.specs.LineTests.{after_backslash}
use Rattle.hunk_core.specs.Following.{hunks_by}
use Rattle.hunk_core.proofs.Following.{more_hunks}
use Rattle.hunk_core.specs.Reading.{◌>>=◌, Fault, fault, Ahead, ahead}
use Rattle.hunk_core.proofs.ReadSteps.{bind_ok, ok_is}
use Rattle.line_list.proofs.Choices.{chosen}
use Rattle.hunk_core.proofs.TextLemmas.{has_some}
use Rattle.context_form.specs.declared.range.Stated.{Stated}
use Rattle.context_form.specs.Openings.{begins_hunk}
use Rattle.context_form.specs.Ranges.{range_line, most, is_count}
use Rattle.context_form.specs.Parts.{no_body, body_at}
use Rattle.context_form.specs.Merging.{joined, size_beside}
use Rattle.context_form.specs.Presence.{is_new, begins_old_part}
use Rattle.context_form.specs.Hunks.{PlainPart, at_line, first_range, range_here, fitting, old_part, too_few, enough, new_count, new_part, sized, agreed, whole, parts_at, hunk_at, hunks_at, reading}
use Rattle.context_form.specs.Grammar.{SpellsHunk}
use Rattle.context_form.specs.FirstFault.{behind_first}
use Rattle.context_form.proofs.RangeGrammar.{is_one, line-known, dashes-again}
use Rattle.context_form.proofs.Halves.{TakesPart, range-takes, old-takes, new-takes}
use Rattle.context_form.proofs.HunkFaults.{hunk-fails}
use Rattle.context_form.proofs.Pieces.{hunk_takes}
use Rattle.hunk_core.proofs.FaultSteps.{failed, err_is, bind_err}
use Rattle.hunk_core.proofs.Agreeing.{after_backslash-some}
use Rattle.law_faults.specs.NamedLines.{NamesLine}
use Rattle.law_faults.specs.ContextFaults.{IsTooLarge, StartsBelow, has_dashes, Breaks, IsAtFault}
use Rattle.law_faults.proofs.Naming.{add_err, ends_short, named-here, named-past}
use Rattle.law_faults.proofs.ContextRanges.{RangeFault, range_breaks, large_stated, most-counts}
use Rattle.law_faults.proofs.ContextParts.{InPart, body_breaks}

-- ---- what is said of lines behind the asterisks, and behind the old part

abbrev InParts : ℕ → BadKind → List (List ℕ) → List ℕ → List (List ℕ) → Type 0
InParts least kind part line behind = (stars : List ℕ) → Breaks least kind (stars ∷ part) line

abbrev InNew : ℕ → BadKind → List (List ℕ) → List ℕ → List (List ℕ) → Type 0
InNew least kind part line behind = (stars range : List ℕ) (old : List (List ℕ)) → Breaks least kind (stars ∷ range ∷ (old ++ part)) line

old_range : (least : ℕ) (kind : BadKind) (line : List ℕ) → RangeFault Forward least kind line → InParts least kind [] line []
old_range least kind line (inl bad) stars = subst (λ k. Breaks least k (stars ∷ []) line) (sym bad.0) (Forward, (stars, refl), bad.1)
old_range least kind line (inr (inl large)) stars = subst (λ k. Breaks least k (stars ∷ []) line) (sym large.0) (Forward, (stars, refl), large.1)
old_range least kind line (inr (inr order)) stars = subst (λ k. Breaks least k (stars ∷ []) line) (sym order.0) ((stars, refl), order.1)

none_below : (line : List ℕ) → StartsBelow Reversed 0 line → ⊥
none_below line s = omega (arith, s.4)

new_range : (least : ℕ) (kind : BadKind) (line : List ℕ) → RangeFault Reversed 0 kind line → InNew least kind [] line []
new_range least kind line (inl bad) stars range old = subst (λ k. Breaks least k (stars ∷ range ∷ (old ++ [])) line) (sym bad.0) (Reversed, (stars, range, old ++ [], refl), bad.1)
new_range least kind line (inr (inl large)) stars range old = subst (λ k. Breaks least k (stars ∷ range ∷ (old ++ [])) line) (sym large.0) (Reversed, (stars, range, old ++ [], refl), large.1)
new_range least kind line (inr (inr order)) stars range old = absurd (none_below line order.1)

old_body : (least : ℕ) (kind : BadKind) (range : List ℕ) (part : List (List ℕ)) (line : List ℕ) (behind : List (List ℕ)) → InPart Forward kind part line behind → InParts least kind (range ∷ part) line behind
old_body least kind range part line behind (inl count) stars = subst (λ k. Breaks least k (stars ∷ range ∷ part) line) (sym count) tt
old_body least kind range part line behind (inr (inl loud)) stars = subst (λ k. Breaks least k (stars ∷ range ∷ part) line) (sym loud.0) loud.1
old_body least kind range part line behind (inr (inr lacks)) stars = subst (λ k. Breaks least k (stars ∷ range ∷ part) line) (sym lacks.0) (Forward, (stars, range, part, refl, lacks.2), lacks.1)

new_body : (least : ℕ) (kind : BadKind) (dashes : List ℕ) (part : List (List ℕ)) (line : List ℕ) (behind : List (List ℕ)) → has_dashes dashes ≡ true → InPart Reversed kind part line behind → InNew least kind (dashes ∷ part) line behind
new_body least kind dashes part line behind is (inl count) stars range old = subst (λ k. Breaks least k (stars ∷ range ∷ (old ++ dashes ∷ part)) line) (sym count) tt
new_body least kind dashes part line behind is (inr (inl loud)) stars range old = subst (λ k. Breaks least k (stars ∷ range ∷ (old ++ dashes ∷ part)) line) (sym loud.0) loud.1
new_body least kind dashes part line behind is (inr (inr lacks)) stars range old = subst (λ k. Breaks least k (stars ∷ range ∷ (old ++ dashes ∷ part)) line) (sym lacks.0) (Reversed, (stars, range, old, dashes, part, refl, is), lacks.1)

-- ---- a range line

abbrev AtRange : Side → ℕ → BadKind → List (List ℕ) → List ℕ → List (List ℕ) → Type 0
AtRange side least kind part line behind = (part ≡ []) × RangeFault side least kind line

range_named : (side : Side) (least number : ℕ) (lines : List (List ℕ)) (e : Fault) → first_range side least number lines ≡ Err e → e.kind ≢ kinds.ShortEnd → NamesLine (AtRange side least e.kind) number lines e.line
unfolding first_range
range_named side least number [] e h long = ends_short {A = Stated × Ahead} number e h long
range_named side least number (line ∷ rest) e h long =
    elim (bind_err (at_line number (range_line side least line)) (λ s. Ok (s, ahead (number + 1) rest)) e h) [
      | inl bad ↦ by (range_line side least line) refl bad
      | inr good ↦ absurd (let wrong : Ok (good.0, ahead (number + 1) rest) ≡ failed {A = Stated × Ahead} e = good.2 in cc)
    ]
  where
    by : (o : Result Stated BadKind) → range_line side least line ≡ o → at_line number o ≡ Err e → NamesLine (AtRange side least e.kind) number (line ∷ rest) e.line
    by (Ok s) is h = absurd cc
    by (Err kind) is h =
        let same : fault number kind ≡ e = err_is {A = Stated} (fault number kind) e h in
        let found : RangeFault side least e.kind line = subst (λ (x : Fault). RangeFault side least x.kind line) same (range_breaks side least line kind is) in
        named-here (AtRange side least e.kind) number line rest e.line (sym (ap (λ (x : Fault). x.line) same)) (refl, found)

-- a range line with its start above what its first line leaves room for
fitting_large : (side : Side) (least number : ℕ) (line : List ℕ) (s : Stated) (there : Bool) (e : Fault) → range_line side least line ≡ Ok s → fitting number s there ≡ Err e → (e.line ≡ number) × RangeFault side least e.kind line
fitting_large side least number line s there e read h = by there (ltb 4294967295 (s.start + most s)) refl h
  where
    large : ltb 4294967295 (s.start + most s) ≡ true → Err (fault number kinds.NumberTooLarge) ≡ failed {A = Unit {0}} e → (e.line ≡ number) × RangeFault side least e.kind line
    large over h =
        let same : fault number kinds.NumberTooLarge ≡ e = err_is {A = Unit {0}} _ e h in
        (sym (ap (λ (x : Fault). x.line) same), inr (inl (sym (ap (λ (x : Fault). x.kind) same), large_stated side least line s (most s) read (most-counts s) over)))

    by : (a b : Bool) → ltb 4294967295 (s.start + most s) ≡ b → cond {A = Result (Unit {0}) Fault} (a && b) (Err (fault number kinds.NumberTooLarge)) (Ok tt) ≡ Err e → (e.line ≡ number) × RangeFault side least e.kind line
    by true true is h = large is h
    by true false is h = absurd cc
    by false b is h = absurd cc

-- ---- the old part

old_named : (least : ℕ) (p : Ahead) (e : Fault) → old_part least p ≡ Err e → e.kind ≢ kinds.ShortEnd → NamesLine (InParts least e.kind) p.number p.rest e.line
unfolding old_part
old_named least p e h long =
    elim (bind_err (range_here Forward least p) (λ s. fitting p.number s.0 (begins_old_part s.1.rest) >>= λ fits. body_at Forward (most s.0) no_body s.1 >>= λ b. Ok (record { number = p.number; stated = s.0; body = b.0 }, b.1)) e h) [
      | inl bad ↦ named-past (AtRange Forward least e.kind) (InParts least e.kind) [] p.number p.number p.rest p.rest e.line refl (omega arith) (λ part line behind same holds. subst (λ (ls : List (List ℕ)). InParts least e.kind ls line behind) (sym holds.0) (old_range least e.kind line holds.1)) (range_named Forward least p.number p.rest e bad long)
      | inr range ↦ (
          let s = range.0 in
          let r = range-takes Forward least p.number p.rest s range.1 in
          elim (bind_err (fitting p.number s.0 (begins_old_part s.1.rest)) (λ fits. body_at Forward (most s.0) no_body s.1 >>= λ b. Ok (record { number = p.number; stated = s.0; body = b.0 }, b.1)) e range.2) [
            | inl bad ↦ (
                let f = fitting_large Forward least p.number r.line s.0 (begins_old_part s.1.rest) e r.read bad in
                subst (λ (ls : List (List ℕ)). NamesLine (InParts least e.kind) p.number ls e.line) (sym r.parts) (named-here (InParts least e.kind) p.number r.line s.1.rest e.line f.0 (old_range least e.kind r.line f.1)))
            | inr fits ↦ elim (bind_err (body_at Forward (most s.0) no_body s.1) (λ b. Ok (record { number = p.number; stated = s.0; body = b.0 }, b.1)) e fits.2) [
              | inl bad ↦ named-past (InPart Forward e.kind) (InParts least e.kind) (r.line ∷ []) p.number s.1.number p.rest s.1.rest e.line r.parts r.number_is (λ part line behind same holds. old_body least e.kind r.line part line behind holds) (body_breaks Forward (most s.0) no_body s.1 e bad long)
              | inr good ↦ absurd (let wrong : Ok (record { number = p.number; stated = s.0; body = good.0.0 }, good.0.1) ≡ failed {A = PlainPart × Ahead} e = good.2 in cc)
            ]
          ])
    ]

old_number : (least : ℕ) (p : Ahead) (x : PlainPart × Ahead) → old_part least p ≡ Ok x → x.0.number ≡ p.number
unfolding old_part
old_number least p x h =
    let a = bind_ok (range_here Forward least p) (λ s. fitting p.number s.0 (begins_old_part s.1.rest) >>= λ fits. body_at Forward (most s.0) no_body s.1 >>= λ b. Ok (record { number = p.number; stated = s.0; body = b.0 }, b.1)) x h in
    let f = bind_ok (fitting p.number a.0.0 (begins_old_part a.0.1.rest)) (λ fits. body_at Forward (most a.0.0) no_body a.0.1 >>= λ b. Ok (record { number = p.number; stated = a.0.0; body = b.0 }, b.1)) x a.2 in
    let b = bind_ok (body_at Forward (most a.0.0) no_body a.0.1) (λ b. Ok (record { number = p.number; stated = a.0.0; body = b.0 }, b.1)) x f.2 in
    sym (ap (λ (y : PlainPart × Ahead). y.0.number) (ok_is _ _ b.2))

-- ---- the new part

new_named : (least : ℕ) (old : PlainPart) (p : Ahead) (e : Fault) → new_part old p ≡ Err e → e.kind ≢ kinds.ShortEnd → NamesLine (InNew least e.kind) p.number p.rest e.line
unfolding new_part
new_named least old p e h long =
    elim (bind_err (range_here Reversed 0 p) (λ s. fitting p.number s.0 (is_new s.0 old.body s.1.rest) >>= λ fits. enough p.number old >>= λ few. body_at Reversed (new_count s.0 old.body s.1.rest) no_body s.1 >>= λ b. Ok (record { number = p.number; stated = s.0; body = b.0 }, b.1)) e h) [
      | inl bad ↦ named-past (AtRange Reversed 0 e.kind) (InNew least e.kind) [] p.number p.number p.rest p.rest e.line refl (omega arith) (λ part line behind same holds. subst (λ (ls : List (List ℕ)). InNew least e.kind ls line behind) (sym holds.0) (new_range least e.kind line holds.1)) (range_named Reversed 0 p.number p.rest e bad long)
      | inr range ↦ (
          let s = range.0 in
          let r = range-takes Reversed 0 p.number p.rest s range.1 in
          let here = λ (line_is : e.line ≡ p.number) (holds : InNew least e.kind [] r.line s.1.rest). subst (λ (ls : List (List ℕ)). NamesLine (InNew least e.kind) p.number ls e.line) (sym r.parts) (named-here (InNew least e.kind) p.number r.line s.1.rest e.line line_is holds) in
          elim (bind_err (fitting p.number s.0 (is_new s.0 old.body s.1.rest)) (λ fits. enough p.number old >>= λ few. body_at Reversed (new_count s.0 old.body s.1.rest) no_body s.1 >>= λ b. Ok (record { number = p.number; stated = s.0; body = b.0 }, b.1)) e range.2) [
            | inl bad ↦ (let f = fitting_large Reversed 0 p.number r.line s.0 (is_new s.0 old.body s.1.rest) e r.read bad in here f.0 (new_range least e.kind r.line f.1))
            | inr fits ↦ elim (bind_err (enough p.number old) (λ few. body_at Reversed (new_count s.0 old.body s.1.rest) no_body s.1 >>= λ b. Ok (record { number = p.number; stated = s.0; body = b.0 }, b.1)) e fits.2) [
              | inl bad ↦ (let f = few_breaks p.number old e bad in here (sym (ap (λ (x : Fault). x.line) f)) (λ stars line old_lines. subst (λ (x : Fault). Breaks least x.kind (stars ∷ line ∷ (old_lines ++ [])) r.line) f tt))
              | inr few ↦ elim (bind_err (body_at Reversed (new_count s.0 old.body s.1.rest) no_body s.1) (λ b. Ok (record { number = p.number; stated = s.0; body = b.0 }, b.1)) e few.2) [
                | inl bad ↦ (
                    let dashes = dashes-again r.line (is_one s.0) s.0.start (most s.0) ((line-known Reversed 0 r.line s.0 r.read).spelled (most s.0) (most-counts s.0)) in
                    named-past (InPart Reversed e.kind) (InNew least e.kind) (r.line ∷ []) p.number s.1.number p.rest s.1.rest e.line r.parts r.number_is (λ part line behind same holds. new_body least e.kind r.line part line behind dashes holds) (body_breaks Reversed (new_count s.0 old.body s.1.rest) no_body s.1 e bad long))
                | inr good ↦ absurd (let wrong : Ok (record { number = p.number; stated = s.0; body = good.0.0 }, good.0.1) ≡ failed {A = PlainPart × Ahead} e = good.2 in cc)
              ]
            ]
          ])
    ]
  where
    few_breaks : (number : ℕ) (old : PlainPart) (e : Fault) → enough number old ≡ Err e → fault number kinds.Count ≡ e
    few_breaks number old e h = by (too_few old.stated old.body.lines) h
      where
        by : (b : Bool) → cond {A = Result (Unit {0}) Fault} b (Err (fault number kinds.Count)) (Ok tt) ≡ Err e → fault number kinds.Count ≡ e
        by true h = err_is {A = Unit {0}} _ e h
        by false h = absurd cc

new_number : (old : PlainPart) (p : Ahead) (x : PlainPart × Ahead) → new_part old p ≡ Ok x → x.0.number ≡ p.number
unfolding new_part
new_number old p x h =
    let a = bind_ok (range_here Reversed 0 p) (λ s. fitting p.number s.0 (is_new s.0 old.body s.1.rest) >>= λ fits. enough p.number old >>= λ few. body_at Reversed (new_count s.0 old.body s.1.rest) no_body s.1 >>= λ b. Ok (record { number = p.number; stated = s.0; body = b.0 }, b.1)) x h in
    let f = bind_ok (fitting p.number a.0.0 (is_new a.0.0 old.body a.0.1.rest)) (λ fits. enough p.number old >>= λ few. body_at Reversed (new_count a.0.0 old.body a.0.1.rest) no_body a.0.1 >>= λ b. Ok (record { number = p.number; stated = a.0.0; body = b.0 }, b.1)) x a.2 in
    let e = bind_ok (enough p.number old) (λ few. body_at Reversed (new_count a.0.0 old.body a.0.1.rest) no_body a.0.1 >>= λ b. Ok (record { number = p.number; stated = a.0.0; body = b.0 }, b.1)) x f.2 in
    let b = bind_ok (body_at Reversed (new_count a.0.0 old.body a.0.1.rest) no_body a.0.1) (λ b. Ok (record { number = p.number; stated = a.0.0; body = b.0 }, b.1)) x e.2 in
    sym (ap (λ (y : PlainPart × Ahead). y.0.number) (ok_is _ _ b.2))

-- ---- both parts

record BothParts (least : ℕ) (p : Ahead) (x : (PlainPart × PlainPart) × Ahead) : Type 0 where
  middle : Ahead
  old : TakesPart Forward least p (x.0.0, middle)
  new : TakesPart Reversed 0 middle (x.0.1, x.1)
  old_at : x.0.0.number ≡ p.number
  new_at : x.0.1.number ≡ middle.number

both_parts : (least : ℕ) (p : Ahead) (x : (PlainPart × PlainPart) × Ahead) → parts_at least p ≡ Ok x → BothParts least p x
unfolding parts_at
both_parts least p x h =
    let a = bind_ok (old_part least p) (λ old. new_part old.0 old.1 >>= λ new. Ok ((old.0, new.0), new.1)) x h in
    let b = bind_ok (new_part a.0.0 a.0.1) (λ new. Ok ((a.0.0, new.0), new.1)) x a.2 in
    subst (BothParts least p) (ok_is _ _ b.2) (record { middle = a.0.1; old = old-takes least p a.0 a.1; new = (new-takes a.0.0 a.0.1 b.0 b.1).part; old_at = old_number least p a.0 a.1; new_at = new_number a.0.0 a.0.1 b.0 b.1 })

parts_named : (least : ℕ) (p : Ahead) (e : Fault) → parts_at least p ≡ Err e → e.kind ≢ kinds.ShortEnd → NamesLine (InParts least e.kind) p.number p.rest e.line
unfolding parts_at
parts_named least p e h long =
    elim (bind_err (old_part least p) (λ old. new_part old.0 old.1 >>= λ new. Ok ((old.0, new.0), new.1)) e h) [
      | inl bad ↦ old_named least p e bad long
      | inr old ↦ (
          let t = old-takes least p old.0 old.1 in
          elim (bind_err (new_part old.0.0 old.0.1) (λ new. Ok ((old.0.0, new.0), new.1)) e old.2) [
            | inl bad ↦ named-past (InNew least e.kind) (InParts least e.kind) (t.line ∷ t.own) p.number old.0.1.number p.rest old.0.1.rest e.line t.parts (omega (arith, t.number)) (λ part line behind same holds stars. holds stars t.line t.own) (new_named least old.0.0 old.0.1 e bad long)
            | inr new ↦ absurd (let wrong : Ok ((old.0.0, new.0.0), new.0.1) ≡ failed {A = (PlainPart × PlainPart) × Ahead} e = new.2 in cc)
          ])
    ]

-- ---- the tests over both parts

-- what is wrong with the number of a range line, or with the count that it states
abbrev OfCount : Side → BadKind → List ℕ → Type 0
OfCount side kind line = (kind ≡ kinds.Count) ⊎ ((kind ≡ kinds.NumberTooLarge) × IsTooLarge side line)

sized_breaks : (side : Side) (least : ℕ) (line : List ℕ) (part partner : PlainPart) (e : Fault) → range_line side least line ≡ Ok part.stated → sized part partner ≡ Err e → (e.line ≡ part.number) × OfCount side e.kind line
sized_breaks side least line part partner e read h = by (is_count part.stated (size_beside part.body partner.body)) (ltb 4294967295 (part.stated.start + size_beside part.body partner.body)) refl refl h
  where
    by : (a b : Bool) → is_count part.stated (size_beside part.body partner.body) ≡ a → ltb 4294967295 (part.stated.start + size_beside part.body partner.body) ≡ b → cond (not a) (Err (fault part.number kinds.Count)) (cond b (Err (fault part.number kinds.NumberTooLarge)) (Ok tt)) ≡ failed {A = Unit {0}} e → (e.line ≡ part.number) × OfCount side e.kind line
    by false b counts over h = let same : fault part.number kinds.Count ≡ e = err_is {A = Unit {0}} _ e h in (sym (ap (λ (x : Fault). x.line) same), inl (sym (ap (λ (x : Fault). x.kind) same)))
    by true true counts over h =
        let same : fault part.number kinds.NumberTooLarge ≡ e = err_is {A = Unit {0}} _ e h in
        (sym (ap (λ (x : Fault). x.line) same), inr (sym (ap (λ (x : Fault). x.kind) same), large_stated side least line part.stated (size_beside part.body partner.body) read counts over))
    by true false counts over h = absurd cc

old_count : (least : ℕ) (kind : BadKind) (line : List ℕ) → OfCount Forward kind line → InParts least kind [] line []
old_count least kind line (inl count) stars = subst (λ k. Breaks least k (stars ∷ []) line) (sym count) tt
old_count least kind line (inr large) stars = subst (λ k. Breaks least k (stars ∷ []) line) (sym large.0) (Forward, (stars, refl), large.1)

new_counted : (least : ℕ) (kind : BadKind) (range line : List ℕ) (old : List (List ℕ)) → OfCount Reversed kind line → InParts least kind (range ∷ old) line []
new_counted least kind range line old (inl count) stars = subst (λ k. Breaks least k (stars ∷ range ∷ old) line) (sym count) tt
new_counted least kind range line old (inr large) stars = subst (λ k. Breaks least k (stars ∷ range ∷ old) line) (sym large.0) (Reversed, (stars, range, old, refl), large.1)

agreed_breaks : (number : ℕ) (o : Option (List Marked)) (e : Fault) → agreed number o ≡ Err e → fault number kinds.SidesDiffer ≡ e
agreed_breaks number None e h = err_is {A = List Marked} _ e h
agreed_breaks number (Some body) e h = absurd cc

whole_named : (least : ℕ) (p : Ahead) (x : (PlainPart × PlainPart) × Ahead) (e : Fault) → BothParts least p x → whole x.0.0 x.0.1 ≡ Err e → NamesLine (InParts least e.kind) p.number p.rest e.line
unfolding whole
whole_named least p x e b h =
    let old = x.0.0 in
    let new = x.0.1 in
    let o = b.old in
    let n = b.new in
    let at_new = λ (line_is : e.line ≡ new.number) (holds : InParts least e.kind (o.line ∷ o.own) n.line []).
    named-past (λ part line behind. (part ≡ []) × (line ≡ n.line)) (InParts least e.kind) (o.line ∷ o.own) p.number b.middle.number p.rest b.middle.rest e.line o.parts (omega (arith, o.number)) (λ part line behind same found. let whole_front : (o.line ∷ o.own) ++ part ≡ o.line ∷ o.own = ap (λ (ls : List (List ℕ)). (o.line ∷ o.own) ++ ls) found.0 ∙ append-nil (o.line ∷ o.own) in subst (λ (ls : List (List ℕ)). InParts least e.kind ls line behind) (sym whole_front) (subst (λ (l : List ℕ). InParts least e.kind (o.line ∷ o.own) l behind) (sym found.1) holds)) (subst (λ (ls : List (List ℕ)). NamesLine (λ part line behind. (part ≡ []) × (line ≡ n.line)) b.middle.number ls e.line) (sym n.parts) (named-here (λ part line behind. (part ≡ []) × (line ≡ n.line)) b.middle.number n.line (n.own ++ x.1.rest) e.line (line_is ∙ b.new_at) (refl, refl))) in
    elim (bind_err (sized old new) (λ a. sized new old >>= λ c. agreed new.number (joined old.body new.body) >>= λ body. Ok (record { old_start = old.stated.start; new_start = new.stated.start; body = body })) e h) [
      | inl bad ↦ (
          let f = sized_breaks Forward least o.line old new e o.read bad in
          subst (λ (ls : List (List ℕ)). NamesLine (InParts least e.kind) p.number ls e.line) (sym o.parts) (named-here (InParts least e.kind) p.number o.line (o.own ++ b.middle.rest) e.line (f.0 ∙ b.old_at) (old_count least e.kind o.line f.1)))
      | inr good ↦ elim (bind_err (sized new old) (λ c. agreed new.number (joined old.body new.body) >>= λ body. Ok (record { old_start = old.stated.start; new_start = new.stated.start; body = body })) e good.2) [
        | inl bad ↦ (let f = sized_breaks Reversed 0 n.line new old e n.read bad in at_new f.0 (new_counted least e.kind o.line n.line o.own f.1))
        | inr fine ↦ elim (bind_err (agreed new.number (joined old.body new.body)) (λ body. Ok (record { old_start = old.stated.start; new_start = new.stated.start; body = body })) e fine.2) [
          | inl bad ↦ (let same = agreed_breaks new.number (joined old.body new.body) e bad in at_new (sym (ap (λ (y : Fault). y.line) same)) (λ stars. subst (λ (y : Fault). Breaks least y.kind (stars ∷ o.line ∷ o.own) n.line) same tt))
          | inr none ↦ absurd (let wrong : Ok (record { old_start = old.stated.start; new_start = new.stated.start; body = none.0 }) ≡ failed {A = PlainHunk} e = none.2 in cc)
        ]
      ]
    ]

-- ---- a hunk

abbrev OfHunk : ℕ → BadKind → List (List ℕ) → List ℕ → List (List ℕ) → Type 0
OfHunk least kind part line behind = Breaks least kind part line

behind_stars : (least number : ℕ) (stars : List ℕ) (rest : List (List ℕ)) (e : Fault) → NamesLine (InParts least e.kind) (number + 1) rest e.line → NamesLine (OfHunk least e.kind) number (stars ∷ rest) e.line
behind_stars least number stars rest e n = named-past (InParts least e.kind) (OfHunk least e.kind) (stars ∷ []) number (number + 1) (stars ∷ rest) rest e.line refl refl (λ part line behind same holds. holds stars) n

loud_behind : (least : ℕ) (p : Ahead) (x : (PlainPart × PlainPart) × Ahead) (e : Fault) → BothParts least p x → is_some (after_backslash x.1.rest) ≡ true → fault x.1.number kinds.MisplacedBackslash ≡ e → NamesLine (InParts least e.kind) p.number p.rest e.line
loud_behind least p x e b loud same =
    let o = b.old in
    let n = b.new in
    let some = has_some (after_backslash x.1.rest) loud in
    let l = after_backslash-some x.1.rest some.0 some.1 in
    let own = o.line ∷ (o.own ++ n.line ∷ n.own) in
    subst (λ (y : Fault). NamesLine (InParts least y.kind) p.number p.rest y.line) same (record {
      front = own;
      line = l.0;
      behind = some.0;
      parts = o.parts ∙ ap (λ (ls : List (List ℕ)). o.line ∷ (o.own ++ ls)) (n.parts ∙ ap (λ (ls : List (List ℕ)). n.line ∷ (n.own ++ ls)) l.1) ∙ ap (λ (ls : List (List ℕ)). o.line ∷ ls) (sym (append_assoc o.own (n.line ∷ n.own) (l.0 ∷ some.0)));
      counted = omega (arith, o.number, n.number, length-append o.own (n.line ∷ n.own));
      holds = λ stars. l.2;
    })

hunk_named : (least : ℕ) (p : Ahead) (e : Fault) → begins_hunk p.rest ≡ true → hunk_at least p ≡ Err e → e.kind ≢ kinds.ShortEnd → NamesLine (OfHunk least e.kind) p.number p.rest e.line
hunk_named least p e begins h long = by p.rest refl begins
  where
    by : (ls : List (List ℕ)) → p.rest ≡ ls → begins_hunk ls ≡ true → NamesLine (OfHunk least e.kind) p.number p.rest e.line
    by [] is b = absurd cc
    by (stars ∷ rest) is b =
        let q : Ahead = ahead (p.number + 1) rest in
        let same : behind_first p.number p.rest ≡ q = ap (behind_first p.number) is in
        subst (λ (ls : List (List ℕ)). NamesLine (OfHunk least e.kind) p.number ls e.line) (sym is) (behind_stars least p.number stars rest e (elim (hunk-fails least p e begins h) [
          | inl bad ↦ parts_named least q e (ap (parts_at least) (sym same) ∙ bad) long
          | inr late ↦ elim late [
            | inl over ↦ whole_named least q over.parts e (both_parts least q over.parts (ap (parts_at least) (sym same) ∙ over.read)) over.bad
            | inr behind ↦ loud_behind least q behind.parts e (both_parts least q behind.parts (ap (parts_at least) (sym same) ∙ behind.read)) behind.loud behind.is
          ]
        ]))

-- ---- hunks that follow each other

hunks_named : (most least : ℕ) (p : Ahead) (e : Fault) → hunks_at most least p ≡ Err e → e.kind ≢ kinds.ShortEnd → NamesLine (IsAtFault least e.kind) p.number p.rest e.line
unfolding hunks_by
hunks_named zero least p e h long = absurd cc
hunks_named (suc most) least p e h long =
    elim (chosen (begins_hunk p.rest) _ _ (Err e) h) [
      | inl some ↦ elim (bind_err (hunk_at least p) (more_hunks begins_hunk hunk_at most) e some.1) [
        | inl bad ↦ named-past (OfHunk least e.kind) (IsAtFault least e.kind) [] p.number p.number p.rest p.rest e.line refl (omega arith) (λ front line behind same holds. ([], [], front, refl, refl, holds)) (hunk_named least p e some.0 bad long)
        | inr good ↦ (
            let x = good.0 in
            let t = hunk_takes least p.number p.rest x some.0 good.1 in
            named-past (IsAtFault x.0.old_start e.kind) (IsAtFault least e.kind) t.own p.number x.1.number p.rest x.1.rest e.line t.parts t.number
            (λ front line behind same a. (
              x.0 ∷ a.0,
              t.own ++ a.1,
              a.2,
              ap (λ (ls : List (List ℕ)). t.own ++ ls) a.3 ∙ sym (append_assoc t.own a.1 a.2),
              (t.own, a.1, refl, subst (λ (ls : List (List ℕ)). SpellsHunk least t.own ls x.0) (same ∙ ap (λ (ls : List (List ℕ)). ls ++ line ∷ behind) a.3 ∙ append_assoc a.1 a.2 (line ∷ behind)) t.spelled, a.4),
              a.5,
            ))
            (hunks_named most x.0.old_start x.1 e (add_err x.0 (hunks_at most x.0.old_start x.1) e good.2) long))
      ]
      | inr none ↦ absurd (let bad : Ok ([], p) ≡ failed {A = List PlainHunk × Ahead} e = none.1 in cc)
    ]

pub fault-named : (number : ℕ) (lines : List (List ℕ)) (e : Fault) → reading number lines ≡ Err e → e.kind ≢ kinds.ShortEnd → NamesLine (IsAtFault 0 e.kind) number lines e.line
fault-named number lines e h long = hunks_named (length lines) 0 (ahead number lines) e h long
