-- The refusal of a text, and of the file patches of the completed text.
use Rattle.std.proofs.Common.{◌≡◌, ℕ, ◌+◌, ◌≤◌, Bool, true, false, not, ◌&&◌, ◌⊎◌, inl, inr, if◌then◌else◌, List, [], ◌∷◌, ◌++◌, length, Option, None, Some, Result, Ok, Err, refl, sym, ap, ◌∙◌, arith, length-append}
use Rattle.std.specs.Prelude.{◌==◌}
use Rattle.std.proofs.Math.Dec.{eqb-suc-zero}
use Rattle.line_list.specs.Lines.{lines}
use Rattle.line_list.specs.Join.{ends_open, feed_if}
use Rattle.line_list.specs.Completed.{completed}
use Rattle.read_file_patch.specs.PlainPatch.{PlainPatch}
use Rattle.patch_options.specs.PlainJob.{PlainOptions}
use Rattle.read_patch_text.specs.Patches.{patches_of}
use Rattle.patch_set.specs.Asked.{ways_of}
use Rattle.patch_set.specs.declared.fault.SetFault.{SetFault}
use Rattle.patch_set.specs.declared.fault.SetFault.TheVariants as faults
use Rattle.std.specs.Result.{IsErrAnd}
use Rattle.patch_set.specs.SetView.{SetView, Meets, IsRead, IsSetOf}
use Rattle.patch_set.specs.Refusals.{first_of, out_many, ed_reverse, reserved, is_too_long, too_long, refusal, refusal_of}

one-byte : (v : Bool) → length (feed_if v) ≤ 1
one-byte true = omega arith
one-byte false = omega arith

pub completed-length : (text : List ℕ) → length (completed text) ≤ length text + 1
unfolding completed
completed-length text =
    omega (arith, length-append text (feed_if (ends_open (lines text))), one-byte (ends_open (lines text)))

same-empty : (text : List ℕ) → (length (completed text) == 0) ≡ (length text == 0)
unfolding completed lines ends_open
same-empty [] = refl
same-empty (b ∷ bs) = eqb-suc-zero (length (bs ++ feed_if (ends_open (lines (b ∷ bs))))) ∙ sym (eqb-suc-zero (length bs))

same-refusal : (o : PlainOptions) (text : List ℕ) (ps : List PlainPatch) → refusal_of o (completed text) (Ok ps) ≡ refusal_of o text (Ok ps)
same-refusal o text ps =
    ap (λ v. first_of ((if length ps == 0 && not v then Some faults.Garbage else None) ∷ out_many o ps ∷ ed_reverse o ps ∷ reserved o ps ∷ [])) (same-empty text)

-- the refusal of the file patches that were read is that of the text
pub read-refusal : (o : PlainOptions) (text whole : List ℕ) (ps : List PlainPatch) → is_too_long text ≡ false → whole ≡ completed text
    → patches_of (ways_of o) whole ≡ Ok ps → refusal_of o whole (Ok ps) ≡ refusal o text
read-refusal o text whole ps short is read =
    ap (λ t. refusal_of o t (Ok ps)) is ∙ same-refusal o text ps
    ∙ ap (λ r. refusal_of o text r) (sym read) ∙ ap (λ t. refusal_of o text (patches_of (ways_of o) t)) is
    ∙ ap (λ v. if v then Some faults.TooLong else refusal_of o text (patches_of (ways_of o) (completed text))) (sym short)

long-first : (v : Bool) (r : Option SetFault) (e : SetFault) → (if v then Some faults.TooLong else None) ≡ Some e → (if v then Some faults.TooLong else r) ≡ Some e
long-first true r e is = is
long-first false r e is = absurd cc

-- want of memory, or that the text is too long, are its refusal
pub long-refusal : (o : PlainOptions) (text : List ℕ) (e : SetFault) → (e ≡ faults.Memory) ⊎ (too_long text ≡ Some e) → (e ≡ faults.Memory) ⊎ (refusal o text ≡ Some e)
long-refusal o text e (inl memory) = inl memory
long-refusal o text e (inr is) = inr (long-first (is_too_long text) (refusal_of o text (patches_of (ways_of o) (completed text))) e is)

-- the set of the file patches of a whole text is read from the text
pub is-read : (o : PlainOptions) (given whole : List ℕ) (ps : List PlainPatch) → whole ≡ completed given → patches_of (ways_of o) whole ≡ Ok ps
    → (v : SetView) → IsSetOf o whole ps v → IsRead o given v
is-read o given whole ps is read v set = record {
  text = set.text ∙ is;
  ways = set.ways;
  patches = ap (patches_of (ways_of o)) set.text ∙ read ∙ ap Ok (sym set.plain);
  regions = set.regions;
  spans = set.spans;
  skipped = set.skipped;
  names = set.names;
}

-- want of memory is told whatever else is refused
pub meets-memory : {X : Type 0} (refused : Option SetFault) (r : Result X SetFault) → IsErrAnd r (λ e. e ≡ faults.Memory) → Meets refused r
meets-memory refused (Ok x) is = absurd is
meets-memory refused (Err e) is = inl is
