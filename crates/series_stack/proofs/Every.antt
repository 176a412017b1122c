-- What holds of the files after each first part of some effects.
use Rattle.std.proofs.Common.{ℕ, zero, suc, List, [], ◌∷◌, ◌++◌, take}
use Rattle.std.specs.List.{AllByRecursion}
use Rattle.outside.specs.Files.{Files}
use Rattle.outside.specs.Quiet.{Effect, after, after_all}

abbrev pub Every : (Files → Type 0) → List Effect → Files → Type 0
Every P [] f = P f
Every P (e ∷ es) f = P f × Every P es (after e f)

pub every-take : (P : Files → Type 0) (es : List Effect) (f : Files) (k : ℕ) → Every P es f → P (after_all (take k es) f)
every-take P [] f zero each = each
every-take P [] f (suc k) each = each
every-take P (e ∷ es) f zero each = each.0
every-take P (e ∷ es) f (suc k) each = every-take P es (after e f) k each.1

pub every-last : (P : Files → Type 0) (es : List Effect) (f : Files) → Every P es f → P (after_all es f)
every-last P [] f each = each
every-last P (e ∷ es) f each = every-last P es (after e f) each.1

pub every-append : (P : Files → Type 0) (es ds : List Effect) (f : Files) → Every P es f → Every P ds (after_all es f) → Every P (es ++ ds) f
every-append P [] ds f each more = more
every-append P (e ∷ es) ds f each more = (each.0, every-append P es ds (after e f) each.1 more)

pub every-map : (P Q : Files → Type 0) → ((x : Files) → P x → Q x) → (es : List Effect) (f : Files) → Every P es f → Every Q es f
every-map P Q map [] f each = map f each
every-map P Q map (e ∷ es) f each = (map f each.0, every-map P Q map es (after e f) each.1)

-- what each of these effects keeps
pub every-kept : (P : Files → Type 0) (A : Effect → Type 0) → ((e : Effect) (x : Files) → A e → P x → P (after e x)) → (es : List Effect) (f : Files) → AllByRecursion A es → P f → Every P es f
every-kept P A keeps [] f all holds = holds
every-kept P A keeps (e ∷ es) f all holds = (holds, every-kept P A keeps es (after e f) all.1 (keeps e f all.0 holds))
