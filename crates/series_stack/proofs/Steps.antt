-- Entries of a save that are restored one after another.
use Rattle.std.proofs.Common.{◌≡◌, ℕ, zero, List, [], ◌∷◌, ◌++◌, length, is_some, cond, Some, None, Option, IsSome, Result, Ok, Err, OnOk, refl, sym, ◌∙◌, ap, subst, arith, append_assoc}
use Rattle.std.specs.Prelude.{option_map}
use Rattle.std.proofs.lemmas.List.{append-nil}
use Rattle.std.proofs.lemmas.Option.{same_Some}
use Rattle.std.specs.FinMap.{get}
use Rattle.outside.specs.Files.{Files, SameLasting, lasting-same}
use Rattle.outside.specs.TreeView.{TreeView, Passes, passes_both, passes_none}
use Rattle.outside.specs.Calls.{Becomes, IsThere, IsUntouched, LastingSealsStay}
use Rattle.outside.specs.Quiet.{IsQuiet, Effect, after, after_all, HasMade, TellsPrefix, LeavesPrefix, MakesEffect}
use Rattle.outside.specs.Quiet.Effect.{Remove}
use Rattle.outside.proofs.Views.{untouched_quiet}
use Rattle.outside.proofs.Effects.{made_none, made_more, made_since, made_tells, made_tells_all, since_longer, tells_longer}
use Rattle.outside.proofs.Quiet.{works_none, seals_both}
use Rattle.series_stack.specs.Saves.{Entry}
use Rattle.series_stack.specs.Saves.Entry.{Missing}
use Rattle.series_stack.specs.Restoring.{effects_of, restoring, restored, IsRestored, IsPartly, Restores}
use Rattle.series_stack.proofs.EffectLists.{after_all-append, leaves_after, tells_after, made_both}

-- ---- the effects of entries
pub restoring-cons : (e : Entry) (es : List Entry) (f : Files) → restoring (e ∷ es) f ≡ effects_of e f ++ restoring es (after_all (effects_of e f) f)
unfolding restoring
restoring-cons e es f = refl

pub restoring-nil : (f : Files) → restoring [] f ≡ []
unfolding restoring
restoring-nil f = refl

pub restoring-one : (e : Entry) (f : Files) → restoring (e ∷ []) f ≡ effects_of e f
restoring-one e f = restoring-cons e [] f ∙ ap (λ (l : List Effect). effects_of e f ++ l) (restoring-nil (after_all (effects_of e f) f)) ∙ append-nil (effects_of e f)

pub restored-cons : (e : Entry) (es : List Entry) (f : Files) → restored (e ∷ es) f ≡ restored es (after_all (effects_of e f) f)
restored-cons e es f =
    ap (λ (l : List Effect). after_all l f) (restoring-cons e es f)
    ∙ after_all-append (effects_of e f) (restoring es (after_all (effects_of e f) f)) f

pub restoring-append : (ds es : List Entry) (f : Files) → restoring (ds ++ es) f ≡ restoring ds f ++ restoring es (restored ds f)
restoring-append [] es f = sym (rw (restoring-nil f) refl)
restoring-append (d ∷ ds) es f =
    let now : Files = after_all (effects_of d f) f in
    restoring-cons d (ds ++ es) f
    ∙ ap (λ (l : List Effect). effects_of d f ++ l) (restoring-append ds es now)
    ∙ sym (append_assoc (effects_of d f) (restoring ds now) (restoring es (restored ds now)))
    ∙ ap (λ (l : List Effect). l ++ restoring es (restored ds now)) (sym (restoring-cons d ds f))
    ∙ ap (λ (g : Files). restoring (d ∷ ds) f ++ restoring es g) (sym (restored-cons d ds f))

restored-append : (ds es : List Entry) (f : Files) → restored (ds ++ es) f ≡ restored es (restored ds f)
restored-append ds es f =
    ap (λ (l : List Effect). after_all l f) (restoring-append ds es f)
    ∙ after_all-append (restoring ds f) (restoring es (restored ds f)) f

-- ---- entries that were restored, and others after them
module _ {u v w : TreeView} (ds es : List Entry) (f : Files) (told : u.told ≡ Some f) (one : IsRestored u v ds f) where
  pub both_whole : IsRestored v w es (restored ds f) → IsRestored u w (ds ++ es) f
  both_whole two = record {
    made = subst (λ (l : List Effect). HasMade u w l) (sym (restoring-append ds es f)) (made_both one.made two.made);
    told = two.told ∙ ap (λ (g : Files). Some g) (sym (restored-append ds es f));
  }

  pub both_part : (more : List Entry) → Passes v w → IsPartly v w es (restored ds f) → IsPartly u w ((ds ++ es) ++ more) f
  both_part more passes two =
      let all : restoring ((ds ++ es) ++ more) f ≡ (restoring ds f ++ restoring es (restored ds f)) ++ restoring more (restored (ds ++ es) f) =
      restoring-append (ds ++ es) more f ∙ ap (λ (l : List Effect). l ++ restoring more (restored (ds ++ es) f)) (restoring-append ds es f) in
      record {
        tells = tells_longer u w (restoring ds f ++ restoring es (restored ds f)) (restoring more (restored (ds ++ es) f)) (restoring ((ds ++ es) ++ more) f) all (tells_after one.made passes (restoring es (restored ds f)) two.tells);
        leaves = since_longer u w (restoring ds f ++ restoring es (restored ds f)) (restoring more (restored (ds ++ es) f)) (restoring ((ds ++ es) ++ more) f) all (leaves_after one.made passes (restoring es (restored ds f)) two.leaves);
      }

-- how far a save is restored: entries that are, and those ahead
pub record Halfway (u v : TreeView) (ds : List Entry) : Type 0 where
  pub passes : Passes u v
  pub quiet : IsQuiet v
  pub seals : LastingSealsStay u v
  pub made : (f : Files) → u.told ≡ Some f → IsRestored u v ds f

pub begun : (u : TreeView) → IsQuiet u → Halfway u u []
begun u quiet = record {
  passes = passes_none u;
  quiet = quiet;
  seals = λ q l was. was;
  made = λ f told. record {
    made = subst (λ (l : List Effect). HasMade u u l) (sym (restoring-nil f)) (made_none u quiet);
    told = told ∙ ap (λ (l : List Effect). Some (after_all l f)) (sym (restoring-nil f));
  };
}

module _ {u v w : TreeView} {ds : List Entry} (e : Entry) (half : Halfway u v ds) where
  pub goes_on : {R E : Type 0} (x : R) → Restores {E = E} v w (Ok x) (e ∷ []) → Halfway u w (ds ++ (e ∷ []))
  goes_on x one = record {
    passes = passes_both half.passes one.passes;
    quiet = one.quiet;
    seals = seals_both u v w half.seals one.seals;
    made = λ f told.
        let first = half.made f told in
        both_whole ds (e ∷ []) f told first (one.ok (restored ds f) first.told);
  }

  pub stops : {R S E : Type 0} (d : E) (s : Result S E) → s ≡ Err d → (more : List Entry) → Restores {R = R} v w (Err d) (e ∷ []) → Restores u w s ((ds ++ (e ∷ [])) ++ more)
  stops {R = R} {S = S} {E = E} d s is more one = subst (λ (r : Result S E). Restores u w r ((ds ++ (e ∷ [])) ++ more)) (sym is) record {
    passes = passes_both half.passes one.passes;
    quiet = tt;
    seals = seals_both u v w half.seals one.seals;
    ok = tt;
    err = λ f told.
        let first = half.made f told in
        both_part ds (e ∷ []) f told first more one.passes (one.err (restored ds f) first.told);
  }

pub whole_save : {R E : Type 0} {u v : TreeView} {ds : List Entry} (x : R) → Halfway u v ds → Restores {E = E} u v (Ok x) ds
whole_save x half = record { passes = half.passes; quiet = half.quiet; seals = half.seals; ok = half.made; err = tt }

-- ---- one entry
-- no effect yet
module _ {u v : TreeView} (same : IsUntouched u v) (quiet : IsQuiet u) where
  pub untouched_made : HasMade u v []
  untouched_made = record {
    passes = same.passes;
    quiet = untouched_quiet same quiet;
    live = λ f g told now. subst (λ (x : Files). SameLasting f x) (same_Some _ _ (sym told ∙ sym same.told ∙ now)) (lasting-same f);
    since = λ f told c left. (zero, omega arith, (works_none u [] quiet).since f told c ((same.since u.moment c (omega arith)).0 left));
  }

  pub untouched_fails : {R E : Type 0} (d : E) (es : List Entry) → Restores {R = R} u v (Err d) es
  untouched_fails d es = record {
    passes = same.passes;
    quiet = tt;
    seals = λ q l was. same.sealed q ∙ was;
    ok = tt;
    err = λ f told. record {
      tells = tells_longer u v [] (restoring es f) (restoring es f) refl (made_tells_all u v [] untouched_made);
      leaves = since_longer u v [] (restoring es f) (restoring es f) refl untouched_made.since;
    };
  }

  -- nothing had the name, and nothing has it
  pub absent_made : {R E : Type 0} (x : R) (name : List ℕ) → ((f : Files) → u.told ≡ Some f → get f name ≡ None) → Restores {E = E} u v (Ok x) (Missing name ∷ [])
  absent_made x name absent = record {
    passes = same.passes;
    quiet = untouched_quiet same quiet;
    seals = λ q l was. same.sealed q ∙ was;
    ok = λ f told.
        let none : restoring (Missing name ∷ []) f ≡ [] = restoring-one (Missing name) f ∙ ap (λ o. cond (is_some o) (Remove name ∷ []) []) (absent f told) in
        record {
          made = subst (λ (l : List Effect). HasMade u v l) (sym none) untouched_made;
          told = same.told ∙ told ∙ ap (λ (l : List Effect). Some (after_all l f)) (sym none);
        };
    err = tt;
  }

  pub untouched_first : {R E : Type 0} {w : TreeView} (r : Result R E) (es : List Entry) → Restores v w r es → Restores u w r es
  untouched_first {w = w} (Ok x) es one = record {
    passes = passes_both same.passes one.passes;
    quiet = one.quiet;
    seals = λ q l was. one.seals q l (same.sealed q ∙ was);
    ok = λ f told. let two = one.ok f (same.told ∙ told) in record { made = made_both untouched_made two.made; told = two.told };
    err = tt;
  }
  untouched_first {w = w} (Err d) es one = record {
    passes = passes_both same.passes one.passes;
    quiet = tt;
    seals = λ q l was. one.seals q l (same.sealed q ∙ was);
    ok = tt;
    err = λ f told.
        let two = one.err f (same.told ∙ told) in
        record { tells = tells_after untouched_made one.passes (restoring es f) two.tells; leaves = leaves_after untouched_made one.passes (restoring es f) two.leaves };
  }

-- the one effect of an entry
module _ {u : TreeView} (e : Entry) (effect : Effect) (quiet : IsQuiet u) (is : (f : Files) → u.told ≡ Some f → effects_of e f ≡ effect ∷ []) where
  one_is : (f : Files) → u.told ≡ Some f → restoring (e ∷ []) f ≡ effect ∷ []
  one_is f told = restoring-one e f ∙ is f told

  module _ {w : TreeView} where
    pub effect_whole : {R S E D : Type 0} (x : R) (y : S) → MakesEffect {E = E} u w (Ok x) effect → Becomes u w (after effect) → Restores {E = D} u w (Ok y) (e ∷ [])
    effect_whole x y makes becomes = record {
      passes = makes.run.passes;
      quiet = makes.quiet;
      seals = makes.seals;
      ok = λ f told. record {
        made = subst (λ (l : List Effect). HasMade u w l) (sym (one_is f told)) (made_more u u w [] effect (made_none u quiet) makes.run.passes makes.quiet makes.live makes.since);
        told = becomes f told ∙ ap (λ (l : List Effect). Some (after_all l f)) (sym (one_is f told));
      };
      err = tt;
    }

    pub effect_part : {R S E D : Type 0} (x : E) (y : D) → MakesEffect {R = R} u w (Err x) effect → Restores {R = S} u w (Err y) (e ∷ [])
    effect_part x y makes = record {
      passes = makes.run.passes;
      quiet = tt;
      seals = makes.seals;
      ok = tt;
      err = λ f told. record {
        tells = subst (λ (l : List Effect). TellsPrefix u w l) (sym (one_is f told)) (made_tells u u w [] effect (made_none u quiet) makes.run.passes makes.either);
        leaves = subst (λ (l : List Effect). LeavesPrefix u w l) (sym (one_is f told)) (made_since u u w [] effect (made_none u quiet) makes.run.passes makes.since);
      };
    }

-- ---- the same with another value
pub restores_value : {R S E : Type 0} {u w : TreeView} {es : List Entry} (x : R) (y : S) → Restores {E = E} u w (Ok x) es → Restores {E = E} u w (Ok y) es
restores_value x y one = record { passes = one.passes; quiet = one.quiet; seals = one.seals; ok = one.ok; err = tt }

pub restores_fault : {R S E : Type 0} {u w : TreeView} {es : List Entry} (d : E) → Restores {R = R} u w (Err d) es → Restores {R = S} u w (Err d) es
restores_fault d one = record { passes = one.passes; quiet = tt; seals = one.seals; ok = tt; err = one.err }

-- ---- what is said of the whole
pub restores_files : {R E : Type 0} {u w : TreeView} {es : List Entry} (r : Result R E) → Restores u w r es → OnOk r (Becomes u w (restored es))
restores_files (Ok x) one = λ f told. (one.ok f told).told
restores_files (Err d) one = tt

pub restores_tells : {R E : Type 0} {u w : TreeView} {es : List Entry} (r : Result R E) → Restores u w r es → (f : Files) → u.told ≡ Some f → TellsPrefix u w (restoring es f)
restores_tells {u = u} {w = w} {es = es} (Ok x) one f told = made_tells_all u w (restoring es f) (one.ok f told).made
restores_tells (Err d) one f told = (one.err f told).tells

pub restores_leaves : {R E : Type 0} {u w : TreeView} {es : List Entry} (r : Result R E) → Restores u w r es → (f : Files) → u.told ≡ Some f → LeavesPrefix u w (restoring es f)
restores_leaves (Ok x) one f told = (one.ok f told).made.since
restores_leaves (Err d) one f told = (one.err f told).leaves

-- ---- what a size says
absent-size : (o : Option (List ℕ)) → None ≡ option_map length o → o ≡ None
absent-size None is = refl
absent-size (Some b) is = absurd cc

there-size : (o : Option (List ℕ)) (n : ℕ) → Some n ≡ option_map length o → IsSome o
there-size None n is = absurd cc
there-size (Some b) n is = refl

pub size_absent : (u : TreeView) (name : List ℕ) → ((f : Files) → u.told ≡ Some f → None ≡ option_map length (get f name)) → (f : Files) → u.told ≡ Some f → get f name ≡ None
size_absent u name sizes f told = absent-size (get f name) (sizes f told)

pub size_there : (u v : TreeView) (name : List ℕ) (n : ℕ) → IsUntouched u v → ((f : Files) → u.told ≡ Some f → Some n ≡ option_map length (get f name)) → IsThere v name
size_there u v name n same sizes f told = there-size (get f name) n (sizes f (sym same.told ∙ told))
