-- Tests of which one failed.
use Rattle.std.proofs.Common.{◌≡◌, Result, Err}
use Rattle.hunk_core.specs.declared.BadKind.{BadKind}

abbrev pub refused : {A : Type 0} → BadKind → Result A BadKind
refused kind = Err kind

pub kind_is : {A : Type 0} (k kind : BadKind) → refused {A = A} k ≡ refused kind → k ≡ kind
kind_is k kind e = cc
