-- An output that is written with or without conditions.
use Rattle.std.proofs.Common.{◌≡◌, List, ℕ, Option, None, Some, Result, OnOk, sym, ap, subst}
use Rattle.std.proofs.lemmas.Result.{on_ok_weaker}
use Rattle.outside.specs.SinkView.{SinkView, Receives}
use Rattle.hunk_core.specs.declared.Side.{Side}
use Rattle.line_store.specs.Store.{Seen}
use Rattle.apply_task.specs.Contexts.{PlainContext}
use Rattle.apply_task.specs.Outputs.{text_of, output_on, tried}

module _ {R E : Type 0} (t : PlainContext) (side : Side) (a : Seen) (c d : SinkView) (r : Result R E) where
  -- the sink has received the output for the lines that are told
  abbrev Has : (List (List ℕ) → List ℕ) → Type 0
  Has output = (lines : List (List ℕ)) → a.told ≡ Some lines → Receives c d (output lines)

  output_same : (o : Option (List ℕ)) → t.options.define ≡ o → Has (λ lines. output_on o t side lines) → Has (λ lines. (tried t side lines).output)
  output_same o is has lines told = subst (λ (p : List ℕ). Receives c d p) (ap (λ (x : Option (List ℕ)). output_on x t side lines) (sym is)) (has lines told)

  pub received_parted : (define : List ℕ) → t.options.define ≡ Some define → OnOk r (Has (λ lines. output_on (Some define) t side lines)) → OnOk r (Has (λ lines. (tried t side lines).output))
  received_parted define is = on_ok_weaker r (output_same (Some define) is)

  pub received_plain : t.options.define ≡ None → OnOk r (Has (λ lines. text_of t side lines)) → OnOk r (Has (λ lines. (tried t side lines).output))
  received_plain is = on_ok_weaker r (output_same None is)
