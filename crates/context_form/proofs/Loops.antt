-- Reading one line after the other, as a loop does.
use Rattle.std.proofs.Common.{◌≡◌, ℕ, zero, suc, ◌-◌, ◌<◌, true, false, Result, Ok, refl, sym, ◌∙◌, arith}
use Rattle.hunk_core.specs.declared.fault.FormFault.{FormFault}
use Rattle.hunk_core.specs.declared.fault.FormFault.TheVariants as errors
use Rattle.hunk_core.specs.declared.Side.{Side}
use Rattle.hunk_core.specs.Reading.{◌>>=◌, Fault, Fails, Ahead}
use Rattle.context_form.specs.Parts.{Shown, PlainBody, is_done, with_line, line_at, body_at}

pub body_step : (side : Side) (left : ℕ) (before : PlainBody) (p : Ahead) → is_done side left p.rest ≡ false → 0 < left → body_at side left before p ≡ (line_at side left p >>= λ x. body_at side (left - 1) (with_line before x.0) x.1)
unfolding body_at
body_step side zero before p on some = absurd (omega (arith, some))
body_step side (suc left) before p on some = let same : suc left - 1 ≡ left = omega arith in rw (same, on) refl

pub body_goes_on : (side : Side) (left : ℕ) (before : PlainBody) (p : Ahead) (x : Shown × Ahead) → is_done side left p.rest ≡ false → 0 < left → line_at side left p ≡ Ok x → body_at side (left - 1) (with_line before x.0) x.1 ≡ body_at side left before p
body_goes_on side left before p x on some read = sym (body_step side left before p on some ∙ rw read refl)

pub body_fails : (e : FormFault) (side : Side) (left : ℕ) (before : PlainBody) (p : Ahead) (total : Result (PlainBody × Ahead) Fault) → is_done side left p.rest ≡ false → Fails e (line_at side left p) → body_at side left before p ≡ total → Fails e total
unfolding body_at
body_fails errors.Memory side left before p total on h same = tt
body_fails (errors.Malformed line kind) side zero before p total on h same = sym same ∙ rw (on, h) refl
body_fails (errors.Malformed line kind) side (suc left) before p total on h same = sym same ∙ rw (on, h) refl

pub body_done : (side : Side) (left : ℕ) (before : PlainBody) (p : Ahead) → is_done side left p.rest ≡ true → body_at side left before p ≡ Ok (before, p)
unfolding body_at
body_done side zero before p e = rw e refl
body_done side (suc left) before p e = rw e refl
