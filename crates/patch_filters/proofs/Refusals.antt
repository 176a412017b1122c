-- What a refused pattern says, and numbers in front of a name.
use Rattle.std.proofs.Common.{◌≡◌, ◌≢◌, ℕ, ◌≤◌, Bool, true, false, List, [], ◌∷◌, ◌++◌, codes, length, Option, None, Some, Result, Ok, Err, IsErr, IsErrAnd, refl, sym, ap, ◌∙◌, arith, length-append}
use Rattle.std.specs.Prelude.{option_map}
use Rattle.std.proofs.lemmas.Bool.{false≢true}
use Rattle.std.proofs.lemmas.Option.{same_Some}
use Rattle.num_text.specs.Numbers.{decimal}
use Rattle.outside.specs.FinderView.{FinderView, IsSet}
use Rattle.outside.specs.declared.finder.FindFault.{FindFault}
use Rattle.outside.specs.declared.finder.FindFault.TheVariants.{Refused, Memory}
use Rattle.regex.specs.declared.error.Error.{Error}
use Rattle.regex.specs.declared.error.Error.TheVariants.{OutOfMemory}
use Rattle.hunk_core.specs.LineTests.{ends_line}
use Rattle.patch_filters.specs.Listed.{number_text}

-- ---- a pattern that is refused, or not

pub taken : {A E P : Type 0} (x : A) (e : E) → ◌≡◌ {A = Result A E} (Ok x) (Err e) → P
taken x e is = absurd cc

pub no-room : {A P : Type 0} → ◌≡◌ {A = Result A FindFault} (Err Memory) (Err Refused) → P
no-room is = absurd cc

pub other-cause : {A : Type 0} (fault : FindFault) (error : Error) → (error ≡ OutOfMemory → fault ≡ Memory) → ◌≡◌ {A = Result A FindFault} (Err fault) (Err Refused) → error ≢ OutOfMemory
other-cause Refused error memory is = λ out. let same = memory out in absurd cc
other-cause Memory error memory is = absurd cc

pub handed-on : {A B P : Type 0} (r : Result A FindFault) (e : FindFault) → IsErrAnd r (λ d. d ≡ e) → (◌≡◌ {A = Result B FindFault} (Err e) (Err Refused) → P) → r ≡ Err Refused → P
handed-on (Ok x) e is refused same = absurd is
handed-on (Err Refused) e is refused same = refused (ap (λ f. Err f) (sym is))
handed-on (Err Memory) e is refused same = absurd cc

pub failed-set : (old new : FinderView) (pattern : List ℕ) (r : Result (Unit {0}) FindFault) → IsErr r → old.takes pattern ≡ false → new.kept ≡ None → IsSet old new pattern r
failed-set old new pattern (Ok x) is takes kept = absurd (false≢true is)
failed-set old new pattern (Err Refused) is takes kept = (takes, kept)
failed-set old new pattern (Err Memory) is takes kept = tt

pub kept-same : {A B : Type 0} (f : A → B) (o : Option A) (k : A) (x : B) → o ≡ Some k → option_map f o ≡ Some x → f k ≡ x
kept-same f o k x at is = same_Some (f k) x (sym (ap (option_map f) at) ∙ is)

pub none-kept : {A B P : Type 0} (f : A → B) (o : Option A) (x : B) → o ≡ None → option_map f o ≡ Some x → P
none-kept f None x at is = absurd cc
none-kept f (Some k) x at is = absurd cc

-- ---- a number in front of a name

pub number-told : (is : Bool) (n : ℕ) (front digits mid new : List ℕ) → is ≡ true → length front ≡ 0 → mid ≡ front ++ digits → digits ≡ decimal n → new ≡ mid ++ codes "\t" → new ≡ number_text is n
number-told false n front digits mid new is none first told last = absurd (false≢true is)
number-told true n [] digits mid new is none first told last = last ∙ ap (λ t. t ++ codes "\t") (first ∙ told)
number-told true n (b ∷ front) digits mid new is none first told last = absurd (omega (arith, none))

pub none-told : (is : Bool) (n : ℕ) (front : List ℕ) → is ≡ false → length front ≡ 0 → front ≡ number_text is n
none-told true n front is none = absurd (false≢true (sym is))
none-told false n [] is none = refl
none-told false n (b ∷ front) is none = absurd (omega (arith, none))

pub digits-few : (front digits mid : List ℕ) → length front ≡ 0 → length digits ≤ 20 → mid ≡ front ++ digits → length mid ≤ 20
digits-few front digits mid none few first = omega (arith, none, few, ap length first, length-append front digits)

pub number-few : (mid new : List ℕ) → length mid ≤ 20 → new ≡ mid ++ codes "\t" → length new ≤ 21
number-few mid new few last = omega (arith, few, ap length last, length-append mid (codes "\t"))

-- ---- a line with its feed has a byte

pub fed-some : (line : List ℕ) → true ≡ ends_line line → 1 ≤ length line
fed-some [] is = absurd (false≢true (sym is))
fed-some (b ∷ line) is = omega arith
