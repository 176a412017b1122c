-- A fault that is passed on: what is said of a value says nothing.
use Rattle.std.proofs.Common.{Result, Ok, Err, OnOk, OnErr, IfOk}
use Rattle.std.specs.Result.{IsErrAnd}

pub if_ok_none : {R E : Type 0} (P : R → Type 0) (Q : E → Type 0) (r : Result R E) → IsErrAnd r Q → IfOk r P
if_ok_none P Q (Ok x) is = absurd is
if_ok_none P Q (Err e) is = tt

pub on_ok_none : {R E : Type 0} (P : Type 0) (Q : E → Type 0) (r : Result R E) → IsErrAnd r Q → OnOk r P
on_ok_none P Q (Ok x) is = absurd is
on_ok_none P Q (Err e) is = tt

-- where an exit may be either, what is said of a fault is said of it
pub on_err_told : {R E : Type 0} (P : Type 0) (r : Result R E) → P → OnErr r P
on_err_told P (Ok x) p = tt
on_err_told P (Err e) p = p
