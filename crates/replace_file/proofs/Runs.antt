-- Several calls as one run, and what the exits of functions say of them.
use Rattle.std.proofs.Common.{◌≡◌, ℕ, ◌≤◌, Result, Ok, Err, OnOk, OnErr, Some, List, length, take, sym, ap, ◌∙◌, length-take-le}
use Rattle.std.proofs.lemmas.Bool.{false≢true}
use Rattle.std.proofs.lemmas.Option.{same_Some}
use Rattle.outside.specs.Calls.{Becomes}
use Rattle.outside.specs.Files.{Files, bytes_at}
use Rattle.outside.specs.TreeView.{TreeView, Passes, Rises, IsRun, passes_both}
use Rattle.outside.proofs.Views.{rises_then}

pub run_ok : {R E : Type 0} {u w : TreeView} {x : R} → Passes u w → IsRun {R = R} {E = E} u w (Ok x)
run_ok passes = record { passes = passes; cause = λ err. absurd (false≢true err) }

pub run_first : {R E : Type 0} {u w : TreeView} {r : Result R E} → Passes u w → Rises u w → IsRun u w r
run_first passes rises = record { passes = passes; cause = λ err. rises }

pub run_late : {R E : Type 0} {u v w : TreeView} {r : Result R E} → Passes u v → Passes v w → Rises v w → IsRun u w r
run_late {u = u} {v = v} {w = w} before passes rises = record { passes = passes_both before passes; cause = λ err. rises_then u v w before rises }

pub run_then : {R E : Type 0} {u v w : TreeView} {r : Result R E} → Passes u v → IsRun v w r → IsRun u w r
run_then {u = u} {v = v} {w = w} before run = record { passes = passes_both before run.passes; cause = λ err. rises_then u v w before (run.cause err) }

pub on_ok_from : {R E P : Type 0} (r : Result R E) → P → OnOk r P
on_ok_from (Ok x) p = p
on_ok_from (Err e) p = tt

pub on_err_from : {R E P : Type 0} (r : Result R E) → P → OnErr r P
on_err_from (Ok x) p = tt
on_err_from (Err e) p = p

pub bytes_stay : (u v : TreeView) (n : List ℕ) → Becomes u v (λ f. f) → (f g : Files) → u.told ≡ Some f → v.told ≡ Some g → bytes_at g n ≡ bytes_at f n
bytes_stay u v n is f g told now = ap (λ (x : Files). bytes_at x n) (same_Some _ _ (sym now ∙ is f told))

pub taken-length : (n : ℕ) (bytes : List ℕ) → n ≤ length bytes → n ≡ length (take n bytes)
taken-length n bytes le = sym (length-take-le n bytes le)
