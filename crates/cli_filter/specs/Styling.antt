-- What `filterdiff` promises of a text that it restyles in memory before it writes it.
use Rattle.std.specs.Prelude.{ℕ, List, Result, IfErr, OnErr, OnOk, Ok, Err}
use Rattle.outside.specs.SinkView.{SinkView, SinkPasses, Receives, ReceivesPart, Rises}
use Rattle.filter_whole_text.specs.declared.fault.FilterFault.{FilterFault}
use Rattle.filter_whole_text.specs.declared.fault.FilterFault.TheVariants as faults
use Rattle.cli_filter.specs.declared.form_fault.FormFault.{FormFault}
use Rattle.cli_filter.specs.declared.form_fault.FormFault.TheVariants.{Filter, NoContext, Unfit}

-- the sink failed, or memory ran out
abbrev pub IsPutFault : FilterFault → SinkView → SinkView → Type 0
IsPutFault faults.Write c d = Rises c d
IsPutFault faults.Memory c d = Unit {0}
IsPutFault (faults.Input e) c d = ⊥
IsPutFault (faults.Set e) c d = ⊥
IsPutFault (faults.Unfit line) c d = ⊥
IsPutFault faults.Pattern c d = ⊥
IsPutFault faults.Tree c d = ⊥

-- a text was written, or after a fault a first part of it
pub record PutsText {O : Type 0} (view : O → SinkView) (same_rest : O → O → Type 0) (old new : O) (result : Result (Unit {0}) FilterFault) (text : List ℕ) : Type 0 where
  pub passes : SinkPasses (view old) (view new)
  pub rest : same_rest old new
  pub received : OnOk result (Receives (view old) (view new) text)
  pub failed : OnErr result (ReceivesPart (view old) (view new) text)
  pub cause : IfErr result (λ e. IsPutFault e (view old) (view new))

-- what a fault of a filter is whose sink is in memory: that fails only where memory runs out
abbrev pub in_memory : FilterFault → FilterFault
in_memory faults.Write = faults.Memory
in_memory (faults.Input e) = faults.Input e
in_memory (faults.Set e) = faults.Set e
in_memory (faults.Unfit line) = faults.Unfit line
in_memory faults.Pattern = faults.Pattern
in_memory faults.Tree = faults.Tree
in_memory faults.Memory = faults.Memory

-- the same with a form
abbrev pub form_in_memory : FormFault → FormFault
form_in_memory (Filter fault) = Filter (in_memory fault)
form_in_memory (NoContext line) = NoContext line
form_in_memory (Unfit line) = Unfit line

abbrev pub of_put : Result (Unit {0}) FilterFault → Result (Unit {0}) FormFault
of_put (Ok done) = Ok done
of_put (Err e) = Err (Filter e)
