-- What is told of a file and of a scratch, and the lines of a file that is taken.
use Rattle.std.proofs.Common.{◌≡◌, ℕ, true, false, List, Option, None, Some, is_some, refl, ◌^◌, ◌<◌, length, ap, arith, [], ◌∷◌}
use Rattle.std.proofs.lemmas.Bool.{false≢true}
use Rattle.std.specs.Option.{option_map}
use Rattle.std.specs.Prelude.{nat_le}
use Rattle.std.proofs.lemmas.Bool.Decides.{nat_tests}
use Rattle.line_list.specs.Lines.{lines}
use Rattle.line_store.specs.Store.{line_at}
use Rattle.line_store.specs.Taking.{refusal, first_long, HasOpenCause, KeepsAtLong}
use Rattle.line_store.specs.declared.fault.OpenFault.{OpenFault}
use Rattle.line_store.specs.declared.fault.OpenFault.TheVariants.{Tree, Scratch, LongLine, FileTooLong, Disagree, Memory}
use Rattle.outside.specs.TreeView.{TreeView}
use Rattle.outside.specs.ScratchView.{ScratchView}
use Rattle.page_pair.specs.Held.{bare}
use Rattle.page_pair.specs.Reading.{IsTakeFault}

pub told-something : (o : Option (List ℕ)) → is_some o ≡ true → (b : List ℕ) × (o ≡ Some b)
told-something None e = absurd (false≢true e)
told-something (Some b) e = (b, refl)

pub mapped-lines : (f : List ℕ → List (List ℕ)) (o : Option (List ℕ)) (ls : List (List ℕ)) → option_map f o ≡ Some ls → (b : List ℕ) × ((o ≡ Some b) × (f b ≡ ls))
mapped-lines f None ls e = absurd cc
mapped-lines f (Some b) ls e = (b, (refl, cc))

pub admitted-is : (size : ℕ) (text : List ℕ) → length text < 2 ^ 40 → first_long size (lines text) ≡ None → refusal size text ≡ None
admitted-is size text lt short =
    let t : nat_le (2 ^ 40) (length text) ≡ false = grind (arith, nat_tests) in
    rw t (ap (option_map (λ k. LongLine k (length (line_at (lines text) k)))) short)

-- why a file that was measured was not copied is why none was taken
pub open-cause : (e : OpenFault) (size : ℕ) (v w : ScratchView) (t x : TreeView) (name : List ℕ) → IsTakeFault e v w t x → HasOpenCause e (bare size v) (bare size w) t x name
open-cause Tree size v w t x name h = h
open-cause Scratch size v w t x name h = h
open-cause (LongLine line length) size v w t x name h = absurd h
open-cause (FileTooLong length) size v w t x name h = absurd h
open-cause (Disagree want got) size v w t x name h = (h.0, λ some. h.1)
open-cause Memory size v w t x name h = absurd h

-- no line that is too long is met in copying
pub take-kept : (e : OpenFault) (v w : ScratchView) (t x : TreeView) → IsTakeFault e v w t x → KeepsAtLong e v.told w.told
take-kept Tree v w t x h = tt
take-kept Scratch v w t x h = tt
take-kept (LongLine line length) v w t x h = absurd h
take-kept (FileTooLong length) v w t x h = tt
take-kept (Disagree want got) v w t x h = tt
take-kept Memory v w t x h = tt

abbrev pub two_lines : List (List ℕ)
two_lines = (97 ∷ 10 ∷ []) ∷ (98 ∷ 99 ∷ 100 ∷ 10 ∷ []) ∷ []
