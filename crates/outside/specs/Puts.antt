-- What a call that writes bytes to a sink promises.
use Rattle.std.specs.Prelude.{List, ℕ, Result, OnOk, OnErr}
use Rattle.outside.specs.SinkView.{SinkView, IsSinkCall, Receives, ReceivesPart}

-- on Ok the sink received these bytes, after a refusal a first part of them or it tells nothing any more; the rest stays
pub record Puts {O R E : Type 0} (view : O → SinkView) (same_rest : O → O → Type 0) (old new : O) (result : Result R E) (bytes : List ℕ) : Type 0 where
  pub call : IsSinkCall (view old) (view new) result
  pub rest : same_rest old new
  pub received : OnOk result (Receives (view old) (view new) bytes)
  pub failed : OnErr result (ReceivesPart (view old) (view new) bytes)
