-- What is left of a command that is stopped.
use Rattle.std.proofs.Common.{◌≡◌, ◌⊎◌, inl, inr, ⊎_elim, ℕ, List, ◌++◌, take, sym, ◌∙◌, subst}
use Rattle.outside.specs.Files.{Files, SameLasting, lasting-both}
use Rattle.outside.specs.Quiet.{Effect, after_all}
use Rattle.series_stack.specs.Stack.{Stack, stack_of, recovering, recover}
use Rattle.series_stack.specs.Laws.{Recovers}
use Rattle.series_stack.proofs.Every.{Every, every-take, every-last, every-append, every-map}
use Rattle.series_stack.proofs.Touching.{lasting-back}
use Rattle.series_stack.proofs.Recovering.{IsOnTheWay, way-same, way-both}
use Rattle.series_stack.proofs.Recovery.{Recovery}

-- whatever first part of these effects is made
abbrev pub Stops : Files → List Effect → Type 0
Stops f l = (k : ℕ) (c : Files) → SameLasting (after_all (take k l) f) c → Recovers f (after_all l f) c

-- on the way from the files before, or to those after
abbrev pub IsBetween : Files → Files → Files → Type 0
IsBetween f z x = IsOnTheWay f x ⊎ IsOnTheWay z x

pub stops_on_way : (f : Files) (l : List Effect) → Every (IsOnTheWay f) l f → Stops f l
stops_on_way f l every k c same =
    let way : IsOnTheWay f c = way-both (every-take (IsOnTheWay f) l f k every) (way-same (after_all (take k l) f) c same) in
    let last : IsOnTheWay f (after_all l f) = every-last (IsOnTheWay f) l f every in
    record {
      counts = inl way.stack;
      early = λ is. way.files;
      late = λ is. lasting-both (lasting-back last.files) way.files;
    }

left_between : (f z c : Files) → (stack_of z ≡ stack_of f → ⊥) → IsBetween f z c → Recovers f z c
left_between f z c apart between = ⊎_elim
    (λ (way : IsOnTheWay f c). record {
      counts = inl way.stack;
      early = λ is. way.files;
      late = λ is. absurd (apart (sym is ∙ way.stack));
    })
    (λ (way : IsOnTheWay z c). record {
      counts = inr way.stack;
      early = λ is. absurd (apart (sym way.stack ∙ is));
      late = λ is. way.files;
    })
    between

pub stops_between : (f z : Files) (l : List Effect) → after_all l f ≡ z → (stack_of z ≡ stack_of f → ⊥) → Every (IsBetween f z) l f → Stops f l
stops_between f z l end apart every k c same = subst (λ (y : Files). Recovers f y c) (sym end)
    (left_between f z c apart (⊎_elim
    (λ (way : IsOnTheWay f (after_all (take k l) f)). inl (way-both way (way-same (after_all (take k l) f) c same)))
    (λ (way : IsOnTheWay z (after_all (take k l) f)). inr (way-both way (way-same (after_all (take k l) f) c same)))
    (every-take (IsBetween f z) l f k every)))

-- ---- behind a recovery
module _ {f : Files} {s : Stack} (done : Recovery f s) (es : List Effect) where
  there : IsOnTheWay f (recover f)
  there = every-last (IsOnTheWay f) (recovering f) f done.every

  pub way_behind : Every (IsOnTheWay (recover f)) es (recover f) → Every (IsOnTheWay f) (recovering f ++ es) f
  way_behind every = every-append (IsOnTheWay f) (recovering f) es f done.every (every-map (IsOnTheWay (recover f)) (IsOnTheWay f) (λ x way. way-both there way) es (recover f) every)

  pub between_behind : (z : Files) → Every (IsBetween (recover f) z) es (recover f) → Every (IsBetween f z) (recovering f ++ es) f
  between_behind z every = every-append (IsBetween f z) (recovering f) es f
      (every-map (IsOnTheWay f) (IsBetween f z) (λ x way. inl way) (recovering f) f done.every)
      (every-map (IsBetween (recover f) z) (IsBetween f z) (λ x between. ⊎_elim (λ (way : IsOnTheWay (recover f) x). inl (way-both there way)) (λ (way : IsOnTheWay z x). inr way) between) es (recover f) every)
