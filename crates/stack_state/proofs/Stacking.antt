-- From the series and the count to the stack.
use Rattle.std.proofs.Common.{◌≡◌, ℕ, List, length, Option, None, Some, sym, ◌∙◌, ap}
use Rattle.std.specs.Prelude.{Result, Ok, Err}
use Rattle.std.specs.FinMap.{get}
use Rattle.outside.specs.Files.{Files}
use Rattle.outside.specs.TreeView.{TreeView}
use Rattle.series_stack.specs.Series.{series_of}
use Rattle.series_stack.specs.Stack.{Stack, Refusal, series_name, count_name, count_in, counted, listed, stack_in, stack_of}
use Rattle.stack_state.specs.declared.fault.StateFault.{StateFault}
use Rattle.stack_state.specs.declared.fault.StateFault.TheVariants.{NoSeries, Bad, Tree, Disagree, Memory}
use Rattle.stack_state.specs.Reading.{listed_in, patches_in, numbered_in, applied_in}
use Rattle.stack_state.specs.Causes.{HasCause}

-- ---- the series is refused

listed_refused : (o : Option (List (List ℕ))) (c : Option (List ℕ)) (e : Refusal) → listed_in o ≡ Err e → listed o c ≡ Err e
listed_refused None c e is = (let x : ◌≡◌ {A = Result Stack Refusal} (listed None c) (Err e) = cc in x)
listed_refused (Some patches) c e is = absurd cc

first_refused : (t c : Option (List ℕ)) (e : Refusal) → patches_in t ≡ Err e → stack_in t c ≡ Err e
first_refused None c e is = (let x : ◌≡◌ {A = Result Stack Refusal} (stack_in None c) (Err e) = cc in x)
first_refused (Some text) c e is = listed_refused (series_of text) c e is

series_refused : (f : Files) (e : Refusal) → patches_in (get f series_name) ≡ Err e → stack_of f ≡ Err e
unfolding stack_of
series_refused f e is = first_refused (get f series_name) (get f count_name) e is

pub series_cause : (e : StateFault) (u w : TreeView) → HasCause e u w (λ f. patches_in (get f series_name)) → HasCause e u w stack_of
series_cause NoSeries u w is = λ f told. series_refused f _ (is f told)
series_cause (Bad file) u w is = λ f told. series_refused f _ (is f told)
series_cause Tree u w is = is
series_cause (Disagree want got) u w is = is
series_cause Memory u w is = is

-- ---- the series is listed

listed_as : (o : Option (List (List ℕ))) (c : Option (List ℕ)) (patches : List (List ℕ)) → listed_in o ≡ Ok patches → listed o c ≡ counted patches (count_in (length patches) c)
listed_as None c patches is = absurd cc
listed_as (Some ps) c patches is = (let same : ps ≡ patches = cc in ap (λ (l : List (List ℕ)). counted l (count_in (length l) c)) same)

first_listed : (t c : Option (List ℕ)) (patches : List (List ℕ)) → patches_in t ≡ Ok patches → stack_in t c ≡ counted patches (count_in (length patches) c)
first_listed None c patches is = absurd cc
first_listed (Some text) c patches is = listed_as (series_of text) c patches is

stack_listed : (f : Files) (patches : List (List ℕ)) → patches_in (get f series_name) ≡ Ok patches → stack_of f ≡ counted patches (count_in (length patches) (get f count_name))
unfolding stack_of
stack_listed f patches is = first_listed (get f series_name) (get f count_name) patches is

count_refused : (patches : List (List ℕ)) (o : Option ℕ) (e : Refusal) → numbered_in o ≡ Err e → counted patches o ≡ Err e
count_refused patches None e is = (let x : ◌≡◌ {A = Result Stack Refusal} (counted patches None) (Err e) = cc in x)
count_refused patches (Some n) e is = absurd cc

count_taken : (patches : List (List ℕ)) (o : Option ℕ) (n : ℕ) → numbered_in o ≡ Ok n → counted patches o ≡ Ok (record { patches = patches; applied = n })
count_taken patches None n is = absurd cc
count_taken patches (Some k) n is = (let same : k ≡ n = cc in ap (λ m. counted patches (Some m)) same)

module _ (u : TreeView) (patches : List (List ℕ)) (most : ℕ) (all : most ≡ length patches) (series : (f : Files) → u.told ≡ Some f → patches_in (get f series_name) ≡ Ok patches) where
  refused : (f : Files) (e : Refusal) → u.told ≡ Some f → applied_in most (get f count_name) ≡ Err e → stack_of f ≡ Err e
  refused f e told is =
      stack_listed f patches (series f told)
      ∙ count_refused patches (count_in (length patches) (get f count_name)) e (sym (ap (λ m. applied_in m (get f count_name)) all) ∙ is)

  pub count_cause : (e : StateFault) (w : TreeView) → HasCause e u w (λ f. applied_in most (get f count_name)) → HasCause e u w stack_of
  count_cause NoSeries w is = λ f told. refused f _ told (is f told)
  count_cause (Bad file) w is = λ f told. refused f _ told (is f told)
  count_cause Tree w is = is
  count_cause (Disagree want got) w is = is
  count_cause Memory w is = is

  pub stack_read : (n : ℕ) (f : Files) → u.told ≡ Some f → applied_in most (get f count_name) ≡ Ok n → stack_of f ≡ Ok (record { patches = patches; applied = n })
  stack_read n f told is =
      stack_listed f patches (series f told)
      ∙ count_taken patches (count_in (length patches) (get f count_name)) n (sym (ap (λ m. applied_in m (get f count_name)) all) ∙ is)
