-- Calls on a temporary name.
use Rattle.std.proofs.Common.{◌≡◌, ⊎_elim, ℕ, List, [], ◌++◌, true, Some, unwrap_or, IsSome, Option, Result, Ok, Err, OnOk, OnErr, sym, ◌∙◌, ap, subst}
use Rattle.std.proofs.lemmas.Option.{same_Some}
use Rattle.std.specs.FinMap.{get, insert, remove}
use Rattle.outside.specs.Files.{Files, is_temp, bytes_at}
use Rattle.outside.specs.TreeView.{TreeView, Passes, IsCall}
use Rattle.outside.specs.Calls.{Becomes, Spoils, IsThere, SealsStay}
use Rattle.outside.specs.Quiet.{IsQuiet, LeavesEither, ChangesOnly, WorksOn}
use Rattle.outside.proofs.Names.{get-put, get-gone_other, apart}
use Rattle.outside.proofs.Views.{told_on, told_back}
use Rattle.outside.proofs.Quiet.{only_same, only_spoils, works_none, works_on}

-- one call on a temporary name, over a quiet tree
pub worked : {R E : Type 0} (u v : TreeView) (r : Result R E) (n : List ℕ) → is_temp n ≡ true → IsCall u v r → (IsQuiet u → IsQuiet v) → SealsStay u v n → ChangesOnly u v n → IsQuiet u → WorksOn u v n
worked u v r n is call keeps seals only quiet = works_on u u v r n is (works_none u n quiet) call keeps seals only

pub only_kept : {R E : Type 0} (r : Result R E) (v w : TreeView) (n : List ℕ) → OnOk r (Becomes v w (λ f. f)) → OnErr r (Spoils v w n) → ChangesOnly v w n
only_kept (Ok x) v w n ok err = only_same v w n ok
only_kept (Err e) v w n ok err = only_spoils v w n err

-- what is there stays there
pub there_same : (v w : TreeView) (n : List ℕ) → Passes v w → Becomes v w (λ f. f) → IsThere v n → IsThere w n
there_same v w n passes is there g now =
    let was = told_back g passes now in
    subst (λ (f : Files). IsSome (get f n)) (same_Some _ _ (sym (is was.0 was.1) ∙ now)) (there was.0 was.1)

-- ---- a name that is taken away
pub only_gone : {R E : Type 0} (r : Result R E) (v w : TreeView) (n : List ℕ) → OnOk r (Becomes v w (λ f. remove f n)) → OnErr r (Spoils v w n) → ChangesOnly v w n
only_gone (Ok x) v w n ok err f g told now q ne = ap (λ (x : Files). get x q) (same_Some _ _ (sym now ∙ ok f told)) ∙ get-gone_other f n q ne
only_gone (Err e) v w n ok err f g told now q ne = (err f g told now).others q ne

-- ---- bytes behind what a temporary holds
pub stays_both : (u v w : TreeView) (n : List ℕ) → SealsStay u v n → SealsStay v w n → SealsStay u w n
stays_both u v w n a b q ne was = b q ne (a q ne was)

pub bytes_put : (v w : TreeView) (n : List ℕ) (b : Files → List ℕ) → Becomes v w (λ f. insert f n (b f)) → (f g : Files) → v.told ≡ Some f → w.told ≡ Some g → bytes_at g n ≡ b f
bytes_put v w n b is f g told now = ap (λ (x : Files). bytes_at x n) (same_Some _ _ (sym now ∙ is f told)) ∙ ap (λ (o : Option (List ℕ)). unwrap_or o []) (get-put f n (b f))

pub bytes_begun : (u v w : TreeView) (n bytes : List ℕ) → Passes u v → Becomes u v (λ f. insert f n []) → Becomes v w (λ f. insert f n (bytes_at f n ++ bytes)) → (f g : Files) → u.told ≡ Some f → w.told ≡ Some g → bytes_at g n ≡ bytes
bytes_begun u v w n bytes passes begun put f g told now =
    let mid = told_on f passes told in
    bytes_put v w n (λ x. bytes_at x n ++ bytes) put mid.0 g mid.1 now ∙ ap (λ (l : List ℕ). l ++ bytes) (bytes_put u v n (λ x. []) begun f mid.0 told mid.1)
