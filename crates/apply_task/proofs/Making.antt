-- How parts of a run that make effects go on from one another.
use Rattle.std.proofs.Common.{◌≡◌, ◌≢◌, ℕ, zero, List, [], ◌∷◌, ◌++◌, true, false, Option, Some, IsSome, Result, Ok, Err, OnOk, refl, sym, ◌∙◌, ap, subst, arith}
use Rattle.std.specs.Result.{IsErrAnd}
use Rattle.std.proofs.lemmas.Option.{same_Some}
use Rattle.std.proofs.lemmas.Result.{IfErr-weaker}
use Rattle.std.specs.FinMap.{get, insert, remove}
use Rattle.outside.specs.Files.{Files, is_temp, temp_of, bytes_at}
use Rattle.outside.specs.TreeView.{TreeView, Passes, passes_both, told_on}
use Rattle.outside.specs.Calls.{Becomes, IsThere, IsUntouched}
use Rattle.outside.specs.Quiet.{IsQuiet, Effect, Holds, WorksOn, MakesEffect, HasMade, after, after_all}
use Rattle.outside.specs.Quiet.Effect.{Put}
use Rattle.outside.proofs.Names.{get-gone, get-gone_other, get-put_other}
use Rattle.outside.proofs.Views.{told_back, rises_then}
use Rattle.outside.proofs.Quiet.{lasting-only}
use Rattle.outside.proofs.Effects.{made_none, made_more, made_since, made_tells, made_tells_all, since_longer, tells_longer}
use Rattle.replace_file.specs.Puts.{Puts}
use Rattle.replace_file.proofs.Putting.{puts_makes, bytes_same}
pub use Rattle.replace_file.proofs.Copying.{untouched_works}
use Rattle.read_file_patch.specs.declared.derived.Target.{Target}
use Rattle.apply_task.specs.declared.fault.RunFault.{RunFault}
use Rattle.apply_task.specs.Named.{IsNamed}
use Rattle.apply_task.specs.Making.{IsMade, IsPart, Makes, GoesQuietly, KeepsAt, IsGone}
use Rattle.apply_task.proofs.EffectLists.{after_all-append, after_all-at, leaves_after, tells_after, made_both}

-- ---- one part after another
is_made_both : {u v w : TreeView} {temp : List ℕ} {es ds : List Effect} → IsMade u v temp es → IsMade v w temp ds → IsMade u w temp (es ++ ds)
is_made_both {es = es} {ds = ds} x y = record {
  made = made_both x.made y.made;
  exact = λ f h told now q ne.
      let mid = told_on f x.made.passes told in
      y.exact mid.0 h mid.1 now q ne
      ∙ after_all-at ds mid.0 (after_all es f) q (x.exact f mid.0 told mid.1 q ne)
      ∙ ap (λ (z : Files). get z q) (sym (after_all-append es ds f));
}

is_part_after : {u v w : TreeView} {temp : List ℕ} {es ds : List Effect} → IsMade u v temp es → Passes v w → IsPart v w ds → IsPart u w (es ++ ds)
is_part_after {ds = ds} x passes y = record { tells = tells_after x.made passes ds y.tells; leaves = leaves_after x.made passes ds y.leaves }

is_part_more : {u w : TreeView} {es : List Effect} (ds all : List Effect) → all ≡ es ++ ds → IsPart u w es → IsPart u w all
is_part_more {u = u} {w = w} {es = es} ds all is x = record { tells = tells_longer u w es ds all is x.tells; leaves = since_longer u w es ds all is x.leaves }

pub makes_both : {R S : Type 0} {u v w : TreeView} {temp : List ℕ} {es ds : Files → List Effect} (x : R) (r : Result S RunFault) (all : Files → List Effect)
    → Passes u v → Passes v w → Makes u v (Ok x) temp es → Makes v w r temp ds
    → ((f g : Files) → u.told ≡ Some f → v.told ≡ Some g → IsMade u v temp (es f) → all f ≡ es f ++ ds g) → Makes u w r temp all
makes_both {u = u} {w = w} {temp = temp} x (Ok y) all first then one two is = record {
  ok = λ f told.
      let mid = told_on f first told in
      let made = one.ok f told in
      subst (λ (l : List Effect). IsMade u w temp l) (sym (is f mid.0 told mid.1 made)) (is_made_both made (two.ok mid.0 mid.1));
  err = tt;
}
makes_both {u = u} {w = w} x (Err e) all first then one two is = record {
  ok = tt;
  err = λ f told.
      let mid = told_on f first told in
      let made = one.ok f told in
      subst (λ (l : List Effect). IsPart u w l) (sym (is f mid.0 told mid.1 made)) (is_part_after made then (two.err mid.0 mid.1));
}

-- a fault ends it
pub makes_stops : {R S : Type 0} {u w : TreeView} {temp : List ℕ} {es : Files → List Effect} (e : RunFault) (s : Result S RunFault) (rest all : Files → List Effect)
    → IsErrAnd s (λ d. d ≡ e) → Makes {R = R} u w (Err e) temp es → ((f : Files) → u.told ≡ Some f → all f ≡ es f ++ rest f) → Makes u w s temp all
makes_stops e (Ok x) rest all fault one is = absurd fault
makes_stops e (Err d) rest all fault one is = record { ok = tt; err = λ f told. is_part_more (rest f) (all f) (is f told) (one.err f told) }

pub makes_fault : {R S : Type 0} {u w : TreeView} {temp : List ℕ} {es : Files → List Effect} (e : RunFault) (s : Result S RunFault) → IsErrAnd s (λ d. d ≡ e) → Makes {R = R} u w (Err e) temp es → Makes u w s temp es
makes_fault e (Ok x) fault one = absurd fault
makes_fault e (Err d) fault one = record { ok = tt; err = one.err }

-- the same effects, said otherwise
pub makes_is : {R : Type 0} {u w : TreeView} {temp : List ℕ} {es : Files → List Effect} (r : Result R RunFault) (all : Files → List Effect) → Makes u w r temp es → ((f : Files) → u.told ≡ Some f → all f ≡ es f) → Makes u w r temp all
makes_is {u = u} {w = w} {temp = temp} (Ok x) all one is = record { ok = λ f told. subst (λ (l : List Effect). IsMade u w temp l) (sym (is f told)) (one.ok f told); err = tt }
makes_is {u = u} {w = w} (Err e) all one is = record { ok = tt; err = λ f told. subst (λ (l : List Effect). IsPart u w l) (sym (is f told)) (one.err f told) }

-- with another value
pub makes_value : {R S : Type 0} {u w : TreeView} {temp : List ℕ} {es : Files → List Effect} (x : R) (y : S) → Makes u w (Ok x) temp es → Makes u w (Ok y) temp es
makes_value x y one = record { ok = one.ok; err = tt }

-- ---- no effect
-- calls on a temporary alone
module _ {u w : TreeView} (temp : List ℕ) (is : is_temp temp ≡ true) (works : WorksOn u w temp) where
  pub works_made : HasMade u w []
  works_made = record {
    passes = works.passes;
    quiet = works.quiet;
    live = λ f g told now. lasting-only is (works.others f g told now);
    since = λ f told c left. (zero, omega arith, works.since f told c left);
  }

  pub makes_works : {R : Type 0} (x : R) → Makes u w (Ok x) temp (λ f. [])
  makes_works x = record { ok = λ f told. record { made = works_made; exact = works.others }; err = tt }

  -- of other effects a first part, where a call failed
  pub works_fails : {R : Type 0} (e : RunFault) (es : Files → List Effect) → Makes {R = R} u w (Err e) temp es
  works_fails e es = record { ok = tt; err = λ f told. record { tells = tells_longer u w [] (es f) (es f) refl (made_tells_all u w [] works_made); leaves = since_longer u w [] (es f) (es f) refl works_made.since } }

pub makes_nothing : {R : Type 0} (u : TreeView) (temp : List ℕ) (x : R) → IsQuiet u → Makes u u (Ok x) temp (λ f. [])
makes_nothing u temp x quiet = record { ok = λ f told. record { made = made_none u quiet; exact = λ g h was now q ne. ap (λ (z : Files). get z q) (same_Some h g (sym now ∙ was)) }; err = tt }

-- ---- one effect
effect_made : {R E : Type 0} {u w : TreeView} (temp : List ℕ) (y : R) (e : Effect) → IsQuiet u → MakesEffect {E = E} u w (Ok y) e
    → ((f g : Files) → u.told ≡ Some f → w.told ≡ Some g → (q : List ℕ) → q ≢ temp → get g q ≡ get (after_all (e ∷ []) f) q) → IsMade u w temp (e ∷ [])
effect_made {u = u} {w = w} temp y e quiet makes exact = record {
  made = made_more u u w [] e (made_none u quiet) makes.run.passes makes.quiet makes.live makes.since;
  exact = exact;
}

effect_part : {R E : Type 0} {u w : TreeView} (d : E) (e : Effect) → IsQuiet u → MakesEffect {R = R} u w (Err d) e → IsPart u w (e ∷ [])
effect_part {u = u} {w = w} d e quiet makes = record {
  tells = made_tells u u w [] e (made_none u quiet) makes.run.passes makes.either;
  leaves = made_since u u w [] e (made_none u quiet) makes.run.passes makes.since;
}

pub effect_makes : {R E X : Type 0} {u w : TreeView} (temp : List ℕ) (y : R) (x : X) (e : Effect) → IsQuiet u → MakesEffect {E = E} u w (Ok y) e → Becomes u w (after e) → Makes u w (Ok x) temp (λ f. e ∷ [])
effect_makes temp y x e quiet makes becomes = record {
  ok = λ f told. effect_made temp y e quiet makes (λ g h was now q ne. ap (λ (z : Files). get z q) (same_Some _ _ (sym now ∙ becomes g was)));
  err = tt;
}

pub effect_fails : {R E X : Type 0} {u w : TreeView} (temp : List ℕ) (d : E) (fault : RunFault) (e : Effect) → IsQuiet u → MakesEffect {R = R} u w (Err d) e → Makes {R = X} u w (Err fault) temp (λ f. e ∷ [])
effect_fails temp d fault e quiet makes = record { ok = tt; err = λ f told. effect_part d e quiet makes }

-- a file that is put by way of its temporary
module _ {R E X : Type 0} {u w : TreeView} (t to : List ℕ) (bytes : Files → List ℕ) (is : is_temp t ≡ true) (quiet : IsQuiet u) where
  pub puts_made : (y : R) (x : X) (temp : List ℕ) → t ≡ temp_of to → Puts {E = E} u w (Ok y) t to bytes → Makes u w (Ok x) temp (λ f. Put to (bytes f) ∷ [])
  puts_made y x temp named puts = record {
    ok = λ f told. effect_made temp y (Put to (bytes f)) quiet (puts_makes u w (Ok y) t to (bytes f) bytes is puts (bytes_same u bytes f told))
        (λ g h was now q ne. ap (λ (z : Files). get z q) (same_Some _ _ (sym now ∙ puts.ok g was))
        ∙ ap (λ (n : List ℕ). get (remove (insert g to (bytes g)) n) q) named
        ∙ ap (λ (b : List ℕ). get (remove (insert g to b) (temp_of to)) q) (bytes_same u bytes f told g was));
    err = tt;
  }

  pub puts_part : (d : E) (e : RunFault) (temp : List ℕ) → Puts {R = R} u w (Err d) t to bytes → Makes {R = X} u w (Err e) temp (λ f. Put to (bytes f) ∷ [])
  puts_part d e temp puts = record {
    ok = tt;
    err = λ f told. effect_part d (Put to (bytes f)) quiet (puts_makes u w (Err d) t to (bytes f) bytes is puts (bytes_same u bytes f told));
  }

pub puts_named : {R E : Type 0} {u w : TreeView} {r : Result R E} {t n : List ℕ} (to : List ℕ) → t ≡ n → Puts u w r t to (λ f. bytes_at f t) → Puts u w r n to (λ f. bytes_at f n)
puts_named {u = u} {w = w} {r = r} to is puts = subst (λ (n : List ℕ). Puts u w r n to (λ f. bytes_at f n)) is puts

-- ---- what names stand for
module _ (u w : TreeView) (t to : List ℕ) (bytes : Files → List ℕ) (becomes : Becomes u w (λ f. remove (insert f to (bytes f)) t)) where
  put_now : (f g : Files) → u.told ≡ Some f → w.told ≡ Some g → remove (insert f to (bytes f)) t ≡ g
  put_now f g told now = same_Some _ _ (sym (becomes f told) ∙ now)

  pub put_keeps : (q : List ℕ) → q ≢ to → q ≢ t → KeepsAt u w q
  put_keeps q ne net f g told now = ap (λ (z : Files). get z q) (sym (put_now f g told now)) ∙ get-gone_other (insert f to (bytes f)) t q net ∙ get-put_other f to (bytes f) q ne

  pub put_gone : Passes u w → IsGone w t
  put_gone passes g now =
      let was = told_back g passes now in
      ap (λ (z : Files). get z t) (sym (put_now was.0 g was.1 now)) ∙ get-gone (insert was.0 to (bytes was.0)) t

module _ (u w : TreeView) (n : List ℕ) (becomes : Becomes u w (λ f. remove f n)) where
  remove_now : (f g : Files) → u.told ≡ Some f → w.told ≡ Some g → remove f n ≡ g
  remove_now f g told now = same_Some _ _ (sym (becomes f told) ∙ now)

  pub remove_keeps : (q : List ℕ) → q ≢ n → KeepsAt u w q
  remove_keeps q ne f g told now = ap (λ (z : Files). get z q) (sym (remove_now f g told now)) ∙ get-gone_other f n q ne

  pub remove_gone : Passes u w → IsGone w n
  remove_gone passes g now = let was = told_back g passes now in ap (λ (z : Files). get z n) (sym (remove_now was.0 g was.1 now)) ∙ get-gone was.0 n

module _ {u w : TreeView} (q : List ℕ) (passes : Passes u w) (keeps : KeepsAt u w q) where
  pub gone_kept : IsGone u q → IsGone w q
  gone_kept gone g now = let was = told_back g passes now in keeps was.0 g was.1 now ∙ gone was.0 was.1

  pub holds_kept : (b : List ℕ) → Holds u q b → Holds w q b
  holds_kept b holds g now = let was = told_back g passes now in keeps was.0 g was.1 now ∙ holds was.0 was.1

  pub there_kept : IsThere u q → IsThere w q
  there_kept there g now = let was = told_back g passes now in subst (λ (o : Option (List ℕ)). IsSome o) (sym (keeps was.0 g was.1 now)) (there was.0 was.1)

-- a name that a call leaves alone stays gone
pub gone_behind : {R : Type 0} {u w : TreeView} (r : Result R RunFault) (n q : List ℕ) → OnOk r ((p : List ℕ) → p ≢ n → KeepsAt u w p) → Passes u w → q ≢ n → IsGone u q → OnOk r (IsGone w q)
gone_behind (Ok x) n q keeps passes ne gone = gone_kept q passes (keeps q ne) gone
gone_behind (Err e) n q keeps passes ne gone = tt

-- ---- what goes quietly, call after call
pub goes_both : {R S : Type 0} {u v w : TreeView} (x : R) (r : Result S RunFault) → GoesQuietly u v (Ok x) → GoesQuietly v w r → GoesQuietly u w r
goes_both {u = u} {v = v} {w = w} x r first second = record {
  passes = passes_both first.passes second.passes;
  cause = IfErr-weaker r _ _ (λ e is. (is.0, rises_then u v w first.passes is.1)) second.cause;
  quiet = second.quiet;
}

pub goes_value : {R S : Type 0} {u w : TreeView} (x : R) (y : S) → GoesQuietly u w (Ok x) → GoesQuietly u w (Ok y)
goes_value x y goes = record { passes = goes.passes; cause = tt; quiet = goes.quiet }

pub goes_fault : {R S : Type 0} {u w : TreeView} (e : RunFault) (r : Result S RunFault) → IsErrAnd r (λ d. d ≡ e) → GoesQuietly {R = R} u w (Err e) → GoesQuietly u w r
goes_fault e (Ok x) is goes = absurd is
goes_fault e (Err d) is goes = record { passes = goes.passes; cause = (is ∙ goes.cause.0, goes.cause.1); quiet = tt }

-- ---- behind a call that leaves the tree untouched, since before it
module _ {R : Type 0} {u v w : TreeView} (same : IsUntouched u v) where
  pub goes_after : (r : Result R RunFault) → GoesQuietly v w r → GoesQuietly u w r
  goes_after r goes = record {
    passes = passes_both same.passes goes.passes;
    cause = IfErr-weaker r _ _ (λ e is. (is.0, rises_then u v w same.passes is.1)) goes.cause;
    quiet = goes.quiet;
  }

module _ {R : Type 0} {u v : TreeView} {t : Target} (named : IsNamed t) (same : IsUntouched u v) (quiet : IsQuiet u) (es : Files → List Effect) where
  pub makes_after : {w : TreeView} (r : Result R RunFault) → Passes v w → Makes v w r t.temp es → Makes u w r t.temp es
  makes_after r passes makes =
      makes_both false r es same.passes passes (makes_works t.temp named.temps.own (untouched_works t.temp same quiet) false) makes
      (λ f h told now made. ap es (same_Some f h (sym told ∙ sym same.told ∙ now)))

  -- no effect, where the call failed
  pub makes_none : (e : RunFault) → Makes {R = R} u v (Err e) t.temp es
  makes_none e = works_fails t.temp named.temps.own (untouched_works t.temp same quiet) e es
