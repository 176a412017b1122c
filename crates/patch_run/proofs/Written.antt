-- How the line of an answer was written.
use Rattle.std.proofs.Common.{◌⊎◌, inl, inr, ℕ, List, Result, Ok, Err, refl}
use Rattle.outside.specs.SinkView.{SinkView, Receives, Rises, Writes}

-- whole, or its stream failed
pub writes_whole : {R E : Type 0} (a b : SinkView) (s : Result R E) (p : List ℕ) → Writes a b s p → Receives a b p ⊎ Rises a b
writes_whole a b (Ok r) p w = inl w.received
writes_whole a b (Err e) p w = inr (w.call.cause refl)
