-- Reading one line after the other, as a loop does.
use Rattle.std.proofs.Common.{◌≡◌, ℕ, zero, suc, ◌-◌, ◌<◌, List, [], ◌∷◌, ◌++◌, Result, Ok, refl, sym, ◌∙◌, arith}
use Rattle.hunk_core.specs.declared.fault.FormFault.{FormFault}
use Rattle.hunk_core.specs.declared.fault.FormFault.TheVariants as errors
use Rattle.hunk_core.specs.declared.Side.{Side}
use Rattle.hunk_core.specs.PlainHunk.{Marked}
use Rattle.hunk_core.specs.Reading.{◌>>=◌, Fault, Fails, Ahead}
use Rattle.normal_form.specs.Stretches.{line_at, stretch_at}

pub stretch_step : (side : Side) (left : ℕ) (before : List Marked) (p : Ahead) → 0 < left → stretch_at side left before p ≡ (line_at side (left - 1) p >>= λ x. stretch_at side (left - 1) (before ++ x.0 ∷ []) x.1)
unfolding stretch_at
stretch_step side zero before p some = absurd (omega arith)
stretch_step side (suc left) before p some = let same : suc left - 1 ≡ left = omega arith in rw same refl

pub stretch_goes_on : (side : Side) (left : ℕ) (before : List Marked) (p : Ahead) (x : Marked × Ahead) → 0 < left → line_at side (left - 1) p ≡ Ok x → stretch_at side (left - 1) (before ++ x.0 ∷ []) x.1 ≡ stretch_at side left before p
stretch_goes_on side left before p x some read = sym (stretch_step side left before p some ∙ rw read refl)

pub stretch_fails : (e : FormFault) (side : Side) (left : ℕ) (before : List Marked) (p : Ahead) (total : Result (List Marked × Ahead) Fault) → 0 < left → Fails e (line_at side (left - 1) p) → stretch_at side left before p ≡ total → Fails e total
stretch_fails errors.Memory side left before p total some h same = tt
stretch_fails (errors.Malformed line kind) side left before p total some h same = sym same ∙ stretch_step side left before p some ∙ rw h refl

pub stretch_none : (side : Side) (before : List Marked) (p : Ahead) → stretch_at side 0 before p ≡ Ok (before, p)
unfolding stretch_at
stretch_none side before p = refl
