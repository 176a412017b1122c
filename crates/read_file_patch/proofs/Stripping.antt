-- Where slashes stand in a text, and what is left behind them.
use Rattle.std.proofs.Common.{◌≡◌, ℕ, zero, suc, ◌+◌, ◌-◌, ◌<◌, ◌≤◌, true, false, cond, List, [], ◌∷◌, ◌++◌, length, get_or, take, drop, None, Some, refl, sym, ap, ◌∙◌, arith, inl, inr, eq-eqb}
use Rattle.std.specs.Prelude.{option_and_then}
use Rattle.std.specs.List.{All, onto_first}
use Rattle.std.proofs.lemmas.Bool.{cases_lt, eqb-true, false_from_ne_true}
use Rattle.std.proofs.lemmas.List.{drop_more, drop_all, take-append-drop, get_or-drop, length-drop}
use Rattle.std.proofs.lemmas.List.Elements.{All-from_get_or}
use Rattle.std.proofs.lemmas.List.Splits.{slice_split_none}
use Rattle.memchr.specs.Find.{Passes, is_byte, Nowhere, NoneBefore, NoneAfter}
use Rattle.outside.specs.Names.{is_slash, components, last_of, last_component}
use Rattle.read_file_patch.specs.Stripped.{without_slashes, behind_slash, behind_slashes}

-- ---- slashes at the front

pub slashes-step : (b : ℕ) (bs : List ℕ) → is_slash b ≡ true → without_slashes (b ∷ bs) ≡ without_slashes bs
unfolding without_slashes
slashes-step b bs h = rw h refl

pub slashes-stop : (b : ℕ) (bs : List ℕ) → is_slash b ≡ false → without_slashes (b ∷ bs) ≡ b ∷ bs
unfolding without_slashes
slashes-stop b bs h = rw h refl

pub slashes-nil : without_slashes [] ≡ []
unfolding without_slashes
slashes-nil = refl

pub slashes-more : (text : List ℕ) (at : ℕ) → at < length text → get_or text at 0 ≡ 47 → without_slashes (drop at text) ≡ without_slashes (drop (at + 1) text)
slashes-more text at lt h = rw (drop_more text at 0 lt) (slashes-step (get_or text at 0) (drop (at + 1) text) (eq-eqb _ _ h))

pub slashes-end : (text : List ℕ) (at : ℕ) → (at < length text → is_slash (get_or text at 0) ≡ false) → without_slashes (drop at text) ≡ drop at text
slashes-end text at h =
    elim (cases_lt at (length text)) [
      | inl lt ↦ rw (drop_more text at 0 lt) (slashes-stop (get_or text at 0) (drop (at + 1) text) (h lt))
      | inr le ↦ rw (drop_all at text le) slashes-nil
    ]

-- ---- the first slash

pub behind-step : (b : ℕ) (bs : List ℕ) → is_slash b ≡ false → behind_slash (b ∷ bs) ≡ behind_slash bs
unfolding behind_slash
behind-step b bs h = rw h refl

pub behind-here : (b : ℕ) (bs : List ℕ) → is_slash b ≡ true → behind_slash (b ∷ bs) ≡ Some (without_slashes bs)
unfolding behind_slash
behind-here b bs h = rw h refl

pub behind-nil : behind_slash [] ≡ None
unfolding behind_slash
behind-nil = refl

none_here : (text : List ℕ) (i : ℕ) → (Passes (is_byte 47) text i → ⊥) → is_slash (get_or text i 0) ≡ false
none_here text i h = false_from_ne_true (is_slash (get_or text i 0)) h

behind-first : (text : List ℕ) (k : ℕ) → k < length text → is_slash (get_or text k 0) ≡ true → ((i : ℕ) → i < k → is_slash (get_or text i 0) ≡ false) → behind_slash text ≡ Some (without_slashes (drop k text))
behind-first [] k lt here before = absurd (omega arith)
behind-first (b ∷ bs) zero lt here before = behind-here b bs here ∙ ap (λ (l : List ℕ). Some l) (sym (slashes-step b bs here))
behind-first (b ∷ bs) (suc k) lt here before =
    behind-step b bs (before 0 (omega arith)) ∙ behind-first bs k (omega arith) here (λ i h. before (suc i) (omega arith))

behind-none : (text : List ℕ) → ((i : ℕ) → i < length text → is_slash (get_or text i 0) ≡ false) → behind_slash text ≡ None
behind-none [] before = behind-nil
behind-none (b ∷ bs) before = behind-step b bs (before 0 (omega arith)) ∙ behind-none bs (λ i h. before (suc i) (omega arith))

pub behind-found : (text : List ℕ) (k : ℕ) → NoneBefore (Passes (is_byte 47) text) 0 (length text) k → Passes (is_byte 47) text k → behind_slash text ≡ Some (without_slashes (drop k text))
behind-found text k first here = behind-first text k first.high here (λ i lt. none_here text i (first.before i (omega arith) lt))

pub behind-missing : (text : List ℕ) → Nowhere (Passes (is_byte 47) text) 0 (length text) → behind_slash text ≡ None
behind-missing text none = behind-none text (λ i lt. none_here text i (none i (omega arith) lt))

-- ---- several slashes

pub count-zero : (text : List ℕ) → behind_slashes 0 text ≡ Some text
unfolding behind_slashes
count-zero text = refl

pub count-suc : (n : ℕ) (text : List ℕ) → behind_slashes (suc n) text ≡ option_and_then (behind_slashes n) (behind_slash text)
unfolding behind_slashes
count-suc n text = refl

pub count-next : (n : ℕ) (text rest : List ℕ) → behind_slash text ≡ Some rest → behind_slashes (suc n) text ≡ behind_slashes n rest
count-next n text rest h = count-suc n text ∙ ap (λ o. option_and_then (behind_slashes n) o) h

pub count-none : (n : ℕ) (text : List ℕ) → behind_slash text ≡ None → behind_slashes (suc n) text ≡ None
count-none n text h = count-suc n text ∙ ap (λ o. option_and_then (behind_slashes n) o) h

-- so many of n were stripped
pub count-turn : (n k : ℕ) (text rest : List ℕ) → k < n → behind_slash text ≡ Some rest → behind_slashes (n - k) text ≡ behind_slashes (n - (k + 1)) rest
count-turn n k text rest lt h =
    let one : n - k ≡ suc (n - (k + 1)) = omega arith in
    ap (λ m. behind_slashes m text) one ∙ count-next (n - (k + 1)) text rest h

pub count-lack : (n k : ℕ) (text : List ℕ) → k < n → behind_slash text ≡ None → behind_slashes (n - k) text ≡ None
count-lack n k text lt h =
    let one : n - k ≡ suc (n - (k + 1)) = omega arith in
    ap (λ m. behind_slashes m text) one ∙ count-none (n - (k + 1)) text h

pub count-end : (n k : ℕ) (text : List ℕ) → n ≤ k → behind_slashes (n - k) text ≡ Some text
count-end n k text le =
    let one : n - k ≡ 0 = omega arith in
    ap (λ m. behind_slashes m text) one ∙ count-zero text

-- ---- the last slash

-- several texts, the last of which is this
record EndsIn (cs : List (List ℕ)) (s : List ℕ) : Type 0 where
  pub first : List ℕ
  pub second : List ℕ
  pub rest : List (List ℕ)
  pub parts : cs ≡ first ∷ second ∷ rest
  pub last : last_of (second ∷ rest) ≡ s

ends_after : (cs : List (List ℕ)) (s : List ℕ) → EndsIn cs s → EndsIn ([] ∷ cs) s
ends_after cs s e = record { first = []; second = e.first; rest = e.second ∷ e.rest; parts = ap (λ (l : List (List ℕ)). [] ∷ l) e.parts; last = e.last }

ends_onto : (b : ℕ) (cs : List (List ℕ)) (s : List ℕ) → EndsIn cs s → EndsIn (onto_first b cs) s
ends_onto b cs s e = record { first = b ∷ e.first; second = e.second; rest = e.rest; parts = ap (λ (l : List (List ℕ)). onto_first b l) e.parts; last = e.last }

ends_so : (front s : List ℕ) → All (λ x. is_slash x ≡ false) s → EndsIn (components (front ++ 47 ∷ s)) s
ends_so [] s free = record { first = []; second = s; rest = []; parts = ap (λ (l : List (List ℕ)). [] ∷ l) (slice_split_none is_slash s free); last = refl }
ends_so (b ∷ bs) s free =
    elim (is_slash b) as (λ v. EndsIn (cond v ([] ∷ components (bs ++ 47 ∷ s)) (onto_first b (components (bs ++ 47 ∷ s)))) s) [
      | true ↦ ends_after (components (bs ++ 47 ∷ s)) s (ends_so bs s free)
      | false ↦ ends_onto b (components (bs ++ 47 ∷ s)) s (ends_so bs s free)
    ]

last_behind : (front s : List ℕ) → All (λ x. is_slash x ≡ false) s → last_component (front ++ 47 ∷ s) ≡ s
last_behind front s free = let e = ends_so front s free in ap (λ (l : List (List ℕ)). last_of l) e.parts ∙ e.last

pub last-found : (text : List ℕ) (k : ℕ) → NoneAfter (Passes (is_byte 47) text) 0 (length text) k → Passes (is_byte 47) text k → last_component text ≡ drop (k + 1) text
last-found text k after here =
    let s = drop (k + 1) text in
    let is : get_or text k 0 ≡ 47 = eqb-true _ _ here in
    let split : text ≡ take k text ++ 47 ∷ s =
    sym (take-append-drop k text) ∙ ap (λ (l : List ℕ). take k text ++ l) (drop_more text k 0 after.high ∙ ap (λ b. b ∷ s) is) in
    let free : All (λ x. is_slash x ≡ false) s = All-from_get_or (λ x. is_slash x ≡ false) s 0 (λ i lt.
    rw (get_or-drop (k + 1) text i 0) (none_here text (k + 1 + i) (after.after (k + 1 + i) (omega arith) (omega (arith, lt, length-drop (k + 1) text))))) in
    ap (λ (l : List ℕ). last_component l) split ∙ last_behind (take k text) s free

pub last-missing : (text : List ℕ) → Nowhere (Passes (is_byte 47) text) 0 (length text) → last_component text ≡ text
last-missing text none =
    let free : All (λ x. is_slash x ≡ false) text = All-from_get_or (λ x. is_slash x ≡ false) text 0 (λ i lt. none_here text i (none i (omega arith) lt)) in
    ap (λ (l : List (List ℕ)). last_of l) (slice_split_none is_slash text free)
