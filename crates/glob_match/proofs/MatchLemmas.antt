-- A walk up to the next run tells what a match is.
use Rattle.std.proofs.Common.{◌≡◌, ℕ, zero, suc, ◌+◌, ◌<◌, ◌≤◌, Bool, true, false, cond, List, [], ◌∷◌, length, get_or, drop, refl, sym, ap, subst, ◌∙◌, arith, length-drop}
use Rattle.std.proofs.lemmas.List.{drop-drop, drop_more}
use Rattle.glob_match.specs.Pattern.{Element, Run, Any, Byte, OneOf}
use Rattle.glob_match.specs.Matching.{takes, Match}
use Rattle.glob_match.specs.Walking.{Walked, Stop, Done, Met, walked}

-- an element that isn't a run takes one byte
pub data IsOne : Element → Type 0 where
  any : IsOne Any
  byte : (c : ℕ) → IsOne (Byte c)
  one : (o : Bool) (ms : List ℕ) → IsOne (OneOf o ms)

taking : (v : Bool) (w x : Walked) → cond v w Stop ≡ x → (x ≡ Stop → (v ≡ true → w ≡ Stop))
taking true w x e s h = e ∙ s
taking false w x e s h = absurd cc

pub stop-fails : (es : List Element) (bs : List ℕ) → walked es bs ≡ Stop → Match es bs → ⊥
unfolding walked Match
stop-fails [] bs e m = cc
stop-fails (Run ∷ es) bs e m = cc
stop-fails (Any ∷ es) [] e m = m
stop-fails (Any ∷ es) (b ∷ bs) e m = stop-fails es bs e m
stop-fails (Byte c ∷ es) [] e m = m
stop-fails (Byte c ∷ es) (b ∷ bs) e m = stop-fails es bs (taking (takes (Byte c) b) (walked es bs) Stop e refl m.0) m.1
stop-fails (OneOf o ms ∷ es) [] e m = m
stop-fails (OneOf o ms ∷ es) (b ∷ bs) e m = stop-fails es bs (taking (takes (OneOf o ms) b) (walked es bs) Stop e refl m.0) m.1

passed : (v : Bool) (w x : Walked) → cond v w Stop ≡ x → (x ≡ Stop → ⊥) → (v ≡ true) × (w ≡ x)
passed true w x e ne = (refl, e)
passed false w x e ne = absurd (ne (sym e))

pub done-match : (es : List Element) (bs rest : List ℕ) → walked es bs ≡ Done rest → (Match es bs → rest ≡ []) × (rest ≡ [] → Match es bs)
unfolding walked Match
done-match [] bs rest e = let same : bs ≡ rest = cc in (λ m. sym same ∙ m, λ n. same ∙ n)
done-match (Run ∷ es) bs rest e = absurd cc
done-match (Any ∷ es) [] rest e = absurd cc
done-match (Any ∷ es) (b ∷ bs) rest e = done-match es bs rest e
done-match (Byte c ∷ es) [] rest e = absurd cc
done-match (Byte c ∷ es) (b ∷ bs) rest e =
    let p = passed (takes (Byte c) b) (walked es bs) (Done rest) e (λ s. absurd cc) in
    let m = done-match es bs rest p.1 in (λ h. m.0 h.1, λ n. (p.0, m.1 n))
done-match (OneOf o ms ∷ es) [] rest e = absurd cc
done-match (OneOf o ms ∷ es) (b ∷ bs) rest e =
    let p = passed (takes (OneOf o ms) b) (walked es bs) (Done rest) e (λ s. absurd cc) in
    let m = done-match es bs rest p.1 in (λ h. m.0 h.1, λ n. (p.0, m.1 n))

-- what a run takes later, an earlier one takes too
After : List Element → List ℕ → Type 0
After es bs = (k : ℕ) × (k ≤ length bs) × Match es (drop k bs)

pub met-match : (es more : List Element) (bs rest : List ℕ) → walked es bs ≡ Met more rest → (k : ℕ) × (k ≤ length rest) × Match more (drop k rest) → Match es bs
unfolding walked Match
met-match [] more bs rest e a = absurd cc
met-match (Run ∷ es) more bs rest e a = let x : es ≡ more = cc in let y : bs ≡ rest = cc in subst (λ s. (k : ℕ) × (k ≤ length s) × Match es (drop k s)) (sym y) (subst (λ s. (k : ℕ) × (k ≤ length rest) × Match s (drop k rest)) (sym x) a)
met-match (Any ∷ es) more [] rest e a = absurd cc
met-match (Any ∷ es) more (b ∷ bs) rest e a = met-match es more bs rest e a
met-match (Byte c ∷ es) more [] rest e a = absurd cc
met-match (Byte c ∷ es) more (b ∷ bs) rest e a = let p = passed (takes (Byte c) b) (walked es bs) (Met more rest) e (λ s. absurd cc) in (p.0, met-match es more bs rest p.1 a)
met-match (OneOf o ms ∷ es) more [] rest e a = absurd cc
met-match (OneOf o ms ∷ es) more (b ∷ bs) rest e a = let p = passed (takes (OneOf o ms) b) (walked es bs) (Met more rest) e (λ s. absurd cc) in (p.0, met-match es more bs rest p.1 a)

less : (n j : ℕ) → suc j ≤ suc n → j ≤ n
less n j h = omega arith

further : (es : List Element) (bs : List ℕ) (j : ℕ) → j ≤ length bs → (k : ℕ) × (k ≤ length (drop j bs)) × Match es (drop k (drop j bs)) → (k : ℕ) × (k ≤ length bs) × Match es (drop k bs)
further es bs j le a = (j + a.0, omega (arith, a.1, length-drop j bs), subst (Match es) (drop-drop a.0 j bs) a.2)

-- one byte on in a list
tail-of : (bs cs : List ℕ) (b c j : ℕ) → drop j (b ∷ bs) ≡ c ∷ cs → cs ≡ drop j bs
tail-of bs cs b c zero e = cc
tail-of [] cs b c (suc zero) e = absurd cc
tail-of [] cs b c (suc (suc j)) e = absurd cc
tail-of (x ∷ bs) cs b c (suc j) e = tail-of bs cs x c j e

short : (bs : List ℕ) (b j : ℕ) (c : ℕ) (cs : List ℕ) → drop j (b ∷ bs) ≡ c ∷ cs → j ≤ length bs
short bs b j c cs e = omega (arith, ap length e, length-drop j (b ∷ bs))

pub met-later : (es more : List Element) (bs rest : List ℕ) → walked es bs ≡ Met more rest → (cs : List ℕ) (j : ℕ) → j ≤ length bs → drop j bs ≡ cs → Match es cs → (k : ℕ) × (k ≤ length rest) × Match more (drop k rest)
unfolding walked Match
met-later [] more bs rest e cs j le d m = absurd cc
met-later (Run ∷ es) more bs rest e cs j le d m =
    let x : es ≡ more = cc in
    let y : bs ≡ rest = cc in
    let a : (k : ℕ) × (k ≤ length (drop j bs)) × Match es (drop k (drop j bs)) = subst (λ s. (k : ℕ) × (k ≤ length s) × Match es (drop k s)) (sym d) m in
    subst (λ s. (k : ℕ) × (k ≤ length rest) × Match s (drop k rest)) x (subst (λ s. (k : ℕ) × (k ≤ length s) × Match es (drop k s)) y (further es bs j le a))
met-later (Any ∷ es) more [] rest e cs j le d m = absurd cc
met-later (Any ∷ es) more (b ∷ bs) rest e [] j le d m = absurd m
met-later (Any ∷ es) more (b ∷ bs) rest e (c ∷ cs) j le d m = met-later es more bs rest e cs j (short bs b j c cs d) (sym (tail-of bs cs b c j d)) m
met-later (Byte a ∷ es) more [] rest e cs j le d m = absurd cc
met-later (Byte a ∷ es) more (b ∷ bs) rest e [] j le d m = absurd m
met-later (Byte a ∷ es) more (b ∷ bs) rest e (c ∷ cs) j le d m = met-later es more bs rest (passed (takes (Byte a) b) (walked es bs) (Met more rest) e (λ s. absurd cc)).1 cs j (short bs b j c cs d) (sym (tail-of bs cs b c j d)) m.1
met-later (OneOf o ms ∷ es) more [] rest e cs j le d m = absurd cc
met-later (OneOf o ms ∷ es) more (b ∷ bs) rest e [] j le d m = absurd m
met-later (OneOf o ms ∷ es) more (b ∷ bs) rest e (c ∷ cs) j le d m = met-later es more bs rest (passed (takes (OneOf o ms) b) (walked es bs) (Met more rest) e (λ s. absurd cc)).1 cs j (short bs b j c cs d) (sym (tail-of bs cs b c j d)) m.1

-- ---- one turn of the search after a run

pub run-met : (es more : List Element) (bs rest : List ℕ) → walked es bs ≡ Met more rest → (Match (Run ∷ es) bs → Match (Run ∷ more) rest) × (Match (Run ∷ more) rest → Match (Run ∷ es) bs)
unfolding Match
run-met es more bs rest e = (λ a. met-later es more bs rest e (drop a.0 bs) a.0 a.1 refl a.2, λ a. (0, omega arith, met-match es more bs rest e a))

pub run-on : (es : List Element) (b : ℕ) (bs : List ℕ) → (Match es (b ∷ bs) → ⊥) → (Match (Run ∷ es) (b ∷ bs) → Match (Run ∷ es) bs) × (Match (Run ∷ es) bs → Match (Run ∷ es) (b ∷ bs))
unfolding Match
run-on es b bs none = (λ a. by a.0 a.1 a.2, λ a. (suc a.0, omega (arith, a.1), a.2))
  where
    by : (k : ℕ) → k ≤ length (b ∷ bs) → Match es (drop k (b ∷ bs)) → (k : ℕ) × (k ≤ length bs) × Match es (drop k bs)
    by zero le m = absurd (none m)
    by (suc k) le m = (k, omega arith, m)

pub run-end : (es : List Element) → (Match es [] → ⊥) → Match (Run ∷ es) [] → ⊥
unfolding Match
run-end es none a = by a.0 a.1 a.2
  where
    by : (k : ℕ) → k ≤ length {A = ℕ} [] → Match es (drop k []) → ⊥
    by zero le m = none m
    by (suc k) le m = omega arith

pub run-whole : (es : List Element) (bs : List ℕ) → Match es bs → Match (Run ∷ es) bs
unfolding Match
run-whole es bs m = (0, omega arith, m)

pub met-then : (es more : List Element) (bs rest : List ℕ) → walked es bs ≡ Met more rest → (Match es bs → Match (Run ∷ more) rest) × (Match (Run ∷ more) rest → Match es bs)
unfolding Match
met-then es more bs rest e = (λ m. met-later es more bs rest e bs 0 (omega arith) refl m, λ a. met-match es more bs rest e a)

pub run-end-at : (es : List Element) (xs : List ℕ) → xs ≡ [] → (Match es xs → ⊥) → Match (Run ∷ es) xs → ⊥
run-end-at es xs e none m = run-end es (λ h. none (subst (Match es) (sym e) h)) (subst (Match (Run ∷ es)) e m)

pub run-on-at : (es : List Element) (name : List ℕ) (place : ℕ) → place < length name → (Match es (drop place name) → ⊥) → (Match (Run ∷ es) (drop place name) → Match (Run ∷ es) (drop (place + 1) name)) × (Match (Run ∷ es) (drop (place + 1) name) → Match (Run ∷ es) (drop place name))
run-on-at es name place lt none =
    let more : drop place name ≡ get_or name place 0 ∷ drop (place + 1) name = drop_more name place 0 lt in
    let step = run-on es (get_or name place 0) (drop (place + 1) name) (λ m. none (subst (Match es) (sym more) m)) in
    (λ m. step.0 (subst (Match (Run ∷ es)) more m), λ m. subst (Match (Run ∷ es)) (sym more) (step.1 m))
