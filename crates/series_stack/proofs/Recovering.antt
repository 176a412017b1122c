-- Files that recover to the same, and a recovery that is stopped.
use Rattle.std.proofs.Common.{◌≡◌, ℕ, suc, List, [], false, cond, bytes_eq, Option, Some, None, Result, Ok, Err, refl, sym, ◌∙◌, ap, subst}
use Rattle.std.specs.FinMap.{get}
use Rattle.outside.specs.Files.{Files, SameLasting, lasting-both}
use Rattle.outside.specs.Quiet.{Effect, after_all}
use Rattle.series_stack.specs.Saves.{Entry}
use Rattle.series_stack.specs.Restoring.{saved_at}
use Rattle.series_stack.specs.Stack.{Stack, Refusal, save_name, stack_of, saved_in, undoing_by, undoing, recovering_by, recovering, recover}
use Rattle.series_stack.specs.Commands.{is_bad}
use Rattle.series_stack.proofs.Names.{save-lasting}
use Rattle.series_stack.proofs.Touching.{lasting-back, undone-at}
use Rattle.series_stack.proofs.States.{stack-lasting}

-- ---- the effects of a recovery
pub recovering-is : (f : Files) (r : Result Stack Refusal) → stack_of f ≡ r → recovering f ≡ recovering_by r f
unfolding recovering
recovering-is f r is = ap (λ (x : Result Stack Refusal). recovering_by x f) is

pub undoing-is : (k : ℕ) (f : Files) (o : Option (List Entry)) → saved_in (get f (save_name k)) ≡ o → undoing k f ≡ undoing_by (save_name k) o f
unfolding undoing
undoing-is k f o is = ap (λ (x : Option (List Entry)). undoing_by (save_name k) x f) is

pub recovering-ok : (f : Files) (s : Stack) (o : Option (List Entry)) → stack_of f ≡ Ok s → saved_in (get f (save_name (suc s.applied))) ≡ o → recovering f ≡ undoing_by (save_name (suc s.applied)) o f
recovering-ok f s o stack saved = recovering-is f (Ok s) stack ∙ undoing-is (suc s.applied) f o saved

pub recover-by : (f : Files) (l : List Effect) → recovering f ≡ l → recover f ≡ after_all l f
recover-by f l is = ap (λ (x : List Effect). after_all x f) is

-- ---- files that are the same recover to the same
same_undone : (name : List ℕ) (o : Option (List Entry)) (f g : Files) → SameLasting f g → SameLasting (after_all (undoing_by name o f) f) (after_all (undoing_by name o g) g)
same_undone name None f g same = same
same_undone name (Some es) f g same = record {
  at = λ q lasting.
      undone-at name es g q lasting
      ∙ ap (λ (o : Option (List ℕ)). cond (bytes_eq name q) None (saved_at es q o)) (same.at q lasting)
      ∙ sym (undone-at name es f q lasting);
}

pub same_along : {a b x y : Files} → a ≡ x → b ≡ y → SameLasting x y → SameLasting a b
same_along {b = b} {x = x} p q same = subst (λ (v : Files). SameLasting v b) (sym p) (subst (λ (v : Files). SameLasting x v) (sym q) same)

recover_by : (f g : Files) → SameLasting f g → (r : Result Stack Refusal) → stack_of f ≡ r → SameLasting (recover f) (recover g)
recover_by f g same (Err e) is = same_along
    (recover-by f [] (recovering-is f (Err e) is))
    (recover-by g [] (recovering-is g (Err e) (stack-lasting f g same ∙ is)))
    same
recover_by f g same (Ok s) is =
    let name : List ℕ = save_name (suc s.applied) in
    let o : Option (List Entry) = saved_in (get f name) in
    same_along
    (recover-by f (undoing_by name o f) (recovering-ok f s o is refl))
    (recover-by g (undoing_by name o g) (recovering-ok g s o (stack-lasting f g same ∙ is) (ap saved_in (same.at name (save-lasting (suc s.applied))))))
    (same_undone name o f g same)

pub recover-same : (f g : Files) → SameLasting f g → SameLasting (recover f) (recover g)
recover-same f g same = recover_by f g same (stack_of f) refl

-- ---- files on the way
-- the same stack, and the same files once they are recovered
pub record IsOnTheWay (f x : Files) : Type 0 where
  pub stack : stack_of x ≡ stack_of f
  pub files : SameLasting (recover f) (recover x)

pub way-same : (f x : Files) → SameLasting f x → IsOnTheWay f x
way-same f x same = record { stack = stack-lasting f x same; files = recover-same f x same }

pub way-both : {f g x : Files} → IsOnTheWay f g → IsOnTheWay g x → IsOnTheWay f x
way-both a b = record { stack = b.stack ∙ a.stack; files = lasting-both a.files b.files }

pub way-back : {f x : Files} → IsOnTheWay f x → IsOnTheWay x f
way-back a = record { stack = sym a.stack; files = lasting-back a.files }

-- ---- before a command that isn't refused
pub record IsReady (f : Files) (s : Stack) : Type 0 where
  pub stack : stack_of f ≡ Ok s
  pub next : is_bad (get f (save_name (suc s.applied))) ≡ false
  pub behind : get f (save_name (suc (suc s.applied))) ≡ None

-- no save of a patch that isn't applied
pub record IsClean (f : Files) (s : Stack) : Type 0 where
  pub stack : stack_of f ≡ Ok s
  pub next : get f (save_name (suc s.applied)) ≡ None
  pub behind : get f (save_name (suc (suc s.applied))) ≡ None

pub clean-recovering : (f : Files) (s : Stack) → stack_of f ≡ Ok s → get f (save_name (suc s.applied)) ≡ None → recovering f ≡ []
clean-recovering f s stack next = recovering-ok f s None stack (ap saved_in next)

pub clean-recover : (f : Files) (s : Stack) → stack_of f ≡ Ok s → get f (save_name (suc s.applied)) ≡ None → recover f ≡ f
clean-recover f s stack next = recover-by f [] (clean-recovering f s stack next)
