-- What a name stands for after effects; how lists of them go on from one another is said of any effects.
use Rattle.std.proofs.Common.{◌≡◌, ◌≢◌, ⊎_elim, ℕ, List, [], ◌∷◌, sym, ◌∙◌, subst}
use Rattle.std.specs.FinMap.{get, insert, remove}
use Rattle.outside.specs.Files.{Files, temp_of}
use Rattle.outside.specs.Quiet.{Effect, after, after_all}
use Rattle.outside.specs.Quiet.Effect.{Put, Remove}
use Rattle.outside.proofs.Names.{equal_or_not, get-put, get-put_other, get-gone, get-gone_other}
pub use Rattle.replace_file.proofs.EffectLists.{after_all-append, leaves_after, tells_after, made_both}

-- what a name stands for after effects follows from what it stood for
after-at : (e : Effect) (f g : Files) (q : List ℕ) → get f q ≡ get g q → get (after e f) q ≡ get (after e g) q
after-at (Put n b) f g q is = ⊎_elim
    (λ (eq : q ≡ temp_of n). subst (λ x. get (remove (insert f n b) (temp_of n)) x ≡ get (remove (insert g n b) (temp_of n)) x) (sym eq) (get-gone (insert f n b) (temp_of n) ∙ sym (get-gone (insert g n b) (temp_of n))))
    (λ (ne : q ≢ temp_of n). get-gone_other (insert f n b) (temp_of n) q ne
    ∙ ⊎_elim
    (λ (eq : q ≡ n). subst (λ x. get (insert f n b) x ≡ get (insert g n b) x) (sym eq) (get-put f n b ∙ sym (get-put g n b)))
    (λ (nq : q ≢ n). get-put_other f n b q nq ∙ is ∙ sym (get-put_other g n b q nq))
    (equal_or_not q n)
    ∙ sym (get-gone_other (insert g n b) (temp_of n) q ne))
    (equal_or_not q (temp_of n))
after-at (Remove n) f g q is = ⊎_elim
    (λ (eq : q ≡ n). subst (λ x. get (remove f n) x ≡ get (remove g n) x) (sym eq) (get-gone f n ∙ sym (get-gone g n)))
    (λ (ne : q ≢ n). get-gone_other f n q ne ∙ is ∙ sym (get-gone_other g n q ne))
    (equal_or_not q n)

pub after_all-at : (es : List Effect) (f g : Files) (q : List ℕ) → get f q ≡ get g q → get (after_all es f) q ≡ get (after_all es g) q
after_all-at [] f g q is = is
after_all-at (e ∷ es) f g q is = after_all-at es (after e f) (after e g) q (after-at e f g q is)
