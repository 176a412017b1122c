use Rattle.stack_state.specs.Causes.{HasReadCause, HasSize}
use Rattle.std.proofs.Common.{List, Some, ap, is_some, length, subst, sym, ℕ, ◌∙◌}
use Rattle.stack_state.proofs.Held.{buffer-whole}
use Rattle.outside.specs.Files.{bytes_at}
use Rattle.stack_state.proofs.Saving.{err-still}
use Rattle.stack_state.proofs.whole.read_file.Goals as goal

pub returns : goal.returns
returns g c = record {
  untouched = c.read_into.ensures.untouched;
  bytes = λ f told. c.requires.there f told ∙ ap Some (sym (buffer-whole c.read_into.new.buf c.in_ok-text.text.items (bytes_at f c.args.name.now) c.in_ok-text.text.len (c.read_into.auto.buf ∙ c.deref_mut.ensures.len) (c.in_ok-read_into.ensures.bytes f told)));
  cause = tt;
  size = tt;
}

pub read_into-requires-clause-long : goal.read_into-requires-clause-long
read_into-requires-clause-long g c = λ f told. ap (λ (l : List ℕ). length l) c.deref_mut.ensures.value ∙ c.in_ok-text.ensures ∙ c.requires.long f told

pub read_into-requires-clause-there : goal.read_into-requires-clause-there
read_into-requires-clause-there g c = λ f told. ap is_some (c.requires.there f told)

pub returns-in_err-read_into-clause-size : goal.returns-in_err-read_into-clause-size
returns-in_err-read_into-clause-size g c = err-still (HasSize c.args.size) c.in_err-read_into.field-0.0 c.from_residual-in_err-read_into.result c.from_residual-in_err-read_into.ensures.1 (subst (λ n. HasSize n c.in_err-read_into.field-0.0) (ap (λ (l : List ℕ). length l) c.deref_mut.ensures.value ∙ c.in_ok-text.ensures) c.in_err-read_into.ensures.size)

pub returns-in_err-read_into-clause-cause : goal.returns-in_err-read_into-clause-cause
returns-in_err-read_into-clause-cause g c = err-still (λ e. HasReadCause e (g.T.Tree.view c.args.tree.now) (g.T.Tree.view c.read_into.new.tree)) c.in_err-read_into.field-0.0 c.from_residual-in_err-read_into.result c.from_residual-in_err-read_into.ensures.1 c.in_err-read_into.ensures.cause

pub returns-in_err-read_into-clause-untouched : goal.returns-in_err-read_into-clause-untouched
returns-in_err-read_into-clause-untouched g c = c.read_into.ensures.untouched
