-- What an answered option and a passed test tell.
use Rattle.std.proofs.Common.{◌≡◌, Bool, true, false, cond, Option, None, Some, refl, sym, subst}
use Rattle.std.specs.Option.{option_map, IfSome}

pub map-some : {A B P : Type 0} (f : A → B) (o : Option A) (y : B) → option_map f o ≡ Some y → ((x : A) → o ≡ Some x → f x ≡ y → P) → P
map-some f None y e k = absurd cc
map-some f (Some x) y e k = k x refl cc

pub if-some : {A : Type 0} (b : Bool) (x y : A) → cond b (Some x) None ≡ Some y → (b ≡ true) × (x ≡ y)
if-some true x y e = (refl, cc)
if-some false x y e = absurd cc

pub if-other : {A : Type 0} (b : Bool) (o : Option A) (y : A) → cond b o None ≡ Some y → (b ≡ true) × (o ≡ Some y)
if-other true o y e = (refl, e)
if-other false o y e = absurd cc

-- what is said of a value says nothing of none
pub none-if : {A : Type 0} (P : A → Type 0) (r : Option A) → r ≡ None → IfSome r P
none-if P r e = subst (λ o. IfSome o P) (sym e) tt
