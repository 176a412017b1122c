-- No line has two openings, no opening is a binary line, and none of them begins a git header: the first byte tells them apart, and for normal diffs and ed scripts what follows the letter.
use Rattle.std.proofs.Common.{◌≡◌, inl, inr, ◌↔◌, ℕ, Bool, true, false, cond, not, ◌&&◌, eqb, List, [], ◌∷◌, Option, None, Some, refl, sym, ap, ◌∙◌, arith}
use Rattle.std.specs.Prelude.{codes}
use Rattle.hunk_core.specs.declared.Form.{Form}
use Rattle.hunk_core.specs.declared.Form.TheVariants.{Unified, Context, Normal, Ed}
use Rattle.num_text.specs.Numbers.{is_digit}
use Rattle.patch_header.specs.Content.{content, is_binary}
use Rattle.patch_header.specs.Openings.{admits, begins, begins_binary, opens, stops_binary, tells_binary, is_passed_over, stops_bare, stop_at}
use Rattle.patch_header.specs.GitHeaders.{begins_bare}
use Rattle.patch_header.specs.declared.read_options.ReadOptions.{ReadOptions}
use Rattle.patch_header.specs.declared.openings.Stop.{Stop}
use Rattle.patch_header.specs.declared.openings.Stop.TheVariants.{Opening, Binary, Bare}
pub use Rattle.patch_header.proofs.Fronts.{front, and_left, and_right, or_cases}
use Rattle.patch_header.proofs.Fronts.{after-front, unified-front, context-front, range-front, normal-range, ed-range, clash, content-front, binary-front}

-- ---- what the first byte tells

abbrev kind : ℕ → ℕ
kind b = cond (is_digit b) 3 (cond (eqb b 64) 1 (cond (eqb b 42) 2 (cond (eqb b 100) 4 0)))

abbrev number : Form → ℕ
number Unified = 1
number Context = 2
number Normal = 3
number Ed = 3

digit-kind : (b : ℕ) → is_digit b ≡ true → kind b ≡ 3
digit-kind b h = rw h refl

binary-kind : (line : List ℕ) → is_binary line ≡ true → kind (front line) ≡ 0
binary-kind line h =
    elim (binary-front line h) [
      | inl e ↦ ap kind e
      | inr e ↦ ap kind e
    ]

-- the first byte of the first line
abbrev first_byte : List (List ℕ) → ℕ
first_byte [] = 0
first_byte (line ∷ rest) = front line

kind-of : (only : Option Form) (f : Form) (rest : List (List ℕ)) → begins only f rest ≡ true → kind (first_byte rest) ≡ number f
kind-of only Unified [] h = absurd cc
kind-of only Context [] h = absurd cc
kind-of only Normal [] h = absurd cc
kind-of only Ed [] h = absurd cc
kind-of only Unified (line ∷ more) h = ap kind (unified-front line h)
kind-of only Context (line ∷ more) h = ap kind (context-front line (and_left _ _ h))
kind-of only Normal (line ∷ more) h = digit-kind (front line) (range-front line (normal-range line (and_left _ _ h)))
kind-of only Ed (line ∷ more) h = digit-kind (front line) (range-front line (ed-range line (and_left _ _ h)))

commands-clash : (only : Option Form) (rest : List (List ℕ)) → begins only Normal rest ≡ true → begins only Ed rest ≡ true → ⊥
commands-clash only [] h k = absurd cc
commands-clash only (line ∷ more) h k = clash line (and_left _ _ h) (and_left _ _ k)

pub alone : (only : Option Form) (f g : Form) (rest : List (List ℕ)) → begins only f rest ≡ true → begins only g rest ≡ true → f ≡ g
alone only f g rest h k = by f g h k (sym (kind-of only f rest h) ∙ kind-of only g rest k)
  where
    by : (f g : Form) → begins only f rest ≡ true → begins only g rest ≡ true → number f ≡ number g → f ≡ g
    by Unified Unified h k e = refl
    by Unified Context h k e = absurd (omega (arith, e))
    by Unified Normal h k e = absurd (omega (arith, e))
    by Unified Ed h k e = absurd (omega (arith, e))
    by Context Unified h k e = absurd (omega (arith, e))
    by Context Context h k e = refl
    by Context Normal h k e = absurd (omega (arith, e))
    by Context Ed h k e = absurd (omega (arith, e))
    by Normal Unified h k e = absurd (omega (arith, e))
    by Normal Context h k e = absurd (omega (arith, e))
    by Normal Normal h k e = refl
    by Normal Ed h k e = absurd (commands-clash only rest h k)
    by Ed Unified h k e = absurd (omega (arith, e))
    by Ed Context h k e = absurd (omega (arith, e))
    by Ed Normal h k e = absurd (commands-clash only rest k h)
    by Ed Ed h k e = refl

is_no : (v : Bool) → (v ≡ true → ⊥) → v ≡ false
is_no true h = absurd (h refl)
is_no false h = refl

no-binary : (f : Form) (n : ℕ) → n ≡ number f → n ≡ 0 → ⊥
no-binary Unified n e z = omega (arith, e, z)
no-binary Context n e z = omega (arith, e, z)
no-binary Normal n e z = omega (arith, e, z)
no-binary Ed n e z = omega (arith, e, z)

first-binary : (rest : List (List ℕ)) → begins_binary rest ≡ true → kind (first_byte rest) ≡ 0
first-binary [] h = absurd cc
first-binary (line ∷ more) h = binary-kind line h

pub not_binary : (only : Option Form) (f : Form) (rest : List (List ℕ)) → begins only f rest ≡ true → begins_binary rest ≡ false
not_binary only f rest h = is_no (begins_binary rest) (λ b. no-binary f (kind (first_byte rest)) (kind-of only f rest h) (first-binary rest b))

-- ---- git headers

first-bare : (rest : List (List ℕ)) → begins_bare rest ≡ true → kind (first_byte rest) ≡ 4
unfolding begins_bare
first-bare [] h = absurd cc
first-bare (line ∷ more) h = ap kind (content-front line 99 (after-front 100 (codes "iff --git ") (content line) (and_left _ _ h)))

no-bare : (f : Form) (n : ℕ) → n ≡ number f → n ≡ 4 → ⊥
no-bare Unified n e z = omega (arith, e, z)
no-bare Context n e z = omega (arith, e, z)
no-bare Normal n e z = omega (arith, e, z)
no-bare Ed n e z = omega (arith, e, z)

bare-shut : (only : Option Form) (f : Form) (rest : List (List ℕ)) → begins_bare rest ≡ true → begins only f rest ≡ false
bare-shut only f rest h = is_no (begins only f rest) (λ k. no-bare f (kind (first_byte rest)) (kind-of only f rest k) (first-bare rest h))

no-four : (n : ℕ) → n ≡ 0 → n ≡ 4 → ⊥
no-four n e z = omega (arith, e, z)

bare-text : (rest : List (List ℕ)) → begins_bare rest ≡ true → begins_binary rest ≡ false
bare-text rest h = is_no (begins_binary rest) (λ k. no-four (kind (first_byte rest)) (first-binary rest k) (first-bare rest h))

pub bare-alone : (only : Option Form) (f : Form) (rest : List (List ℕ)) → begins_bare rest ≡ true → (begins only f rest ≡ false) × (begins_binary rest ≡ false)
bare-alone only f rest h = (bare-shut only f rest h, bare-text rest h)

-- ---- the order of the tests tells nothing

-- which test is the first to hold
abbrev chain : Bool → Bool → Bool → Bool → Bool → Bool → Option Stop
chain u c n e b g = cond u (Some (Opening Unified)) (cond c (Some (Opening Context)) (cond n (Some (Opening Normal)) (cond e (Some (Opening Ed)) (cond b (Some Binary) (cond g (Some Bare) None)))))

abbrev pick : Bool → Bool → Bool → Bool → Form → Bool
pick u c n e Unified = u
pick u c n e Context = c
pick u c n e Normal = n
pick u c n e Ed = e

told : (u c n e b g : Bool) (f : Form) → chain u c n e b g ≡ Some (Opening f) → pick u c n e f ≡ true
told true c n e b g Unified h = refl
told true c n e b g Context h = absurd cc
told true c n e b g Normal h = absurd cc
told true c n e b g Ed h = absurd cc
told false true n e b g Unified h = absurd cc
told false true n e b g Context h = refl
told false true n e b g Normal h = absurd cc
told false true n e b g Ed h = absurd cc
told false false true e b g Unified h = absurd cc
told false false true e b g Context h = absurd cc
told false false true e b g Normal h = refl
told false false true e b g Ed h = absurd cc
told false false false true b g Unified h = absurd cc
told false false false true b g Context h = absurd cc
told false false false true b g Normal h = absurd cc
told false false false true b g Ed h = refl
told false false false false true g f h = absurd cc
told false false false false false true f h = absurd cc
told false false false false false false f h = absurd cc

-- a line of no form
told-binary : (u c n e b g : Bool) → chain u c n e b g ≡ Some Binary → b ≡ true
told-binary true c n e b g h = absurd cc
told-binary false true n e b g h = absurd cc
told-binary false false true e b g h = absurd cc
told-binary false false false true b g h = absurd cc
told-binary false false false false true g h = refl
told-binary false false false false false true h = absurd cc
told-binary false false false false false false h = absurd cc

told-bare : (u c n e b g : Bool) → chain u c n e b g ≡ Some Bare → g ≡ true
told-bare true c n e b g h = absurd cc
told-bare false true n e b g h = absurd cc
told-bare false false true e b g h = absurd cc
told-bare false false false true b g h = absurd cc
told-bare false false false false true g h = absurd cc
told-bare false false false false false true h = refl
told-bare false false false false false false h = absurd cc

told-none : (u c n e b g : Bool) → chain u c n e b g ≡ None → ((f : Form) → pick u c n e f ≡ false) × (b ≡ false) × (g ≡ false)
told-none true c n e b g h = absurd cc
told-none false true n e b g h = absurd cc
told-none false false true e b g h = absurd cc
told-none false false false true b g h = absurd cc
told-none false false false false true g h = absurd cc
told-none false false false false false true h = absurd cc
told-none false false false false false false h = (none, refl, refl)
  where
    none : (f : Form) → pick false false false false f ≡ false
    none Unified = refl
    none Context = refl
    none Normal = refl
    none Ed = refl

picked : (only : Option Form) (rest : List (List ℕ)) (f : Form) → pick (opens only Unified rest) (opens only Context rest) (opens only Normal rest) (opens only Ed rest) f ≡ opens only f rest
picked only rest Unified = refl
picked only rest Context = refl
picked only rest Normal = refl
picked only rest Ed = refl

pub stop-opens : (ways : ReadOptions) (f : Form) (rest : List (List ℕ)) → stop_at ways rest ≡ Some (Opening f) → opens ways.only f rest ≡ true
unfolding stop_at
stop-opens ways f rest h = sym (picked ways.only rest f) ∙ told (opens ways.only Unified rest) (opens ways.only Context rest) (opens ways.only Normal rest) (opens ways.only Ed rest) (stops_binary ways rest) (stops_bare ways rest) f h

other-shut : (only : Option Form) (f g : Form) (rest : List (List ℕ)) → (f ≡ g → ⊥) → opens only f rest ≡ true → opens only g rest ≡ false
other-shut only f g rest ne h = is_no (opens only g rest) (λ k. ne (alone only f g rest (and_right (admits only f) _ h) (and_right (admits only g) _ k)))

opens-stop : (ways : ReadOptions) (f : Form) (rest : List (List ℕ)) → opens ways.only f rest ≡ true → stop_at ways rest ≡ Some (Opening f)
unfolding stop_at
opens-stop ways Unified rest h = rw h refl
opens-stop ways Context rest h = rw (other-shut ways.only Context Unified rest (λ e. absurd cc) h, h) refl
opens-stop ways Normal rest h = rw (other-shut ways.only Normal Unified rest (λ e. absurd cc) h, other-shut ways.only Normal Context rest (λ e. absurd cc) h, h) refl
opens-stop ways Ed rest h = rw (other-shut ways.only Ed Unified rest (λ e. absurd cc) h, other-shut ways.only Ed Context rest (λ e. absurd cc) h, other-shut ways.only Ed Normal rest (λ e. absurd cc) h, h) refl

pub opening-words : (ways : ReadOptions) (f : Form) (rest : List (List ℕ)) → stop_at ways rest ≡ Some (Opening f) ↔ opens ways.only f rest ≡ true
opening-words ways f rest = (λ h. stop-opens ways f rest h, λ h. opens-stop ways f rest h)

-- where no form opens, the last two tests are left
stop-none : (ways : ReadOptions) (rest : List (List ℕ)) → ((f : Form) → opens ways.only f rest ≡ false) → stop_at ways rest ≡ cond (stops_binary ways rest) (Some Binary) (cond (stops_bare ways rest) (Some Bare) None)
unfolding stop_at
stop-none ways rest h = rw (h Unified, h Context, h Normal, h Ed) refl

shut-binary : (only : Option Form) (f : Form) (rest : List (List ℕ)) → begins_binary rest ≡ true → opens only f rest ≡ false
shut-binary only f rest h = is_no (opens only f rest) (λ k. let b : begins_binary rest ≡ false = not_binary only f rest (and_right (admits only f) _ k) in absurd cc)

shut-bare : (only : Option Form) (f : Form) (rest : List (List ℕ)) → begins_bare rest ≡ true → opens only f rest ≡ false
shut-bare only f rest h = is_no (opens only f rest) (λ k. let b : begins only f rest ≡ false = bare-shut only f rest h in let c : begins only f rest ≡ true = and_right (admits only f) _ k in absurd cc)

pub binary-words : (ways : ReadOptions) (rest : List (List ℕ)) → stop_at ways rest ≡ Some Binary ↔ stops_binary ways rest ≡ true
unfolding stop_at
binary-words ways rest = (
  λ h. told-binary (opens ways.only Unified rest) (opens ways.only Context rest) (opens ways.only Normal rest) (opens ways.only Ed rest) (stops_binary ways rest) (stops_bare ways rest) h,
  λ h. stop-none ways rest (λ f. shut-binary ways.only f rest (and_right (not ways.skip_binary) _ h)) ∙ ap (λ v. cond v (Some Binary) (cond (stops_bare ways rest) (Some Bare) None)) h,
)

and_no : (v w : Bool) → w ≡ false → (v && w) ≡ false
and_no true w h = h
and_no false w h = refl

-- what stands is a bare git header
pub stops-begins : (ways : ReadOptions) (rest : List (List ℕ)) → stops_bare ways rest ≡ true → begins_bare rest ≡ true
stops-begins ways rest h = and_left (begins_bare rest) _ (and_right ways.git _ h)

none-passed : (s t : Bool) → t ≡ false → not (s && t) ≡ true
none-passed true t h = ap not h
none-passed false t h = refl

-- one that no binary line follows directly stands
pub stops-by : (ways : ReadOptions) (rest : List (List ℕ)) → ways.git ≡ true → begins_bare rest ≡ true → tells_binary rest ≡ false → stops_bare ways rest ≡ true
stops-by ways rest git bare other =
    ap (λ v. v && (begins_bare rest && not (is_passed_over ways rest))) git
    ∙ ap (λ v. v && not (is_passed_over ways rest)) bare
    ∙ none-passed ways.skip_binary (tells_binary rest) other

-- where none begins, none stands
pub stops-not : (ways : ReadOptions) (rest : List (List ℕ)) → begins_bare rest ≡ false → stops_bare ways rest ≡ false
stops-not ways rest h = ap (λ v. ways.git && (v && not (is_passed_over ways rest))) h ∙ and_no ways.git false refl

and-yes : (v : Bool) → (v && true) ≡ v
and-yes true = refl
and-yes false = refl

pub stops-plain : (ways : ReadOptions) (rest : List (List ℕ)) → ways.skip_binary ≡ false → stops_bare ways rest ≡ (ways.git && begins_bare rest)
stops-plain ways rest h = ap (λ s. ways.git && (begins_bare rest && not (s && tells_binary rest))) h ∙ ap (λ v. ways.git && v) (and-yes (begins_bare rest))

pub stops-skipped : (ways : ReadOptions) (rest : List (List ℕ)) → ways.skip_binary ≡ true → tells_binary rest ≡ true → stops_bare ways rest ≡ false
stops-skipped ways rest s t =
    ap (λ v. ways.git && (begins_bare rest && not (v && tells_binary rest))) s
    ∙ ap (λ v. ways.git && (begins_bare rest && not v)) t
    ∙ ap (λ v. ways.git && v) (and_no (begins_bare rest) false refl)
    ∙ and_no ways.git false refl

bare-no_text : (ways : ReadOptions) (rest : List (List ℕ)) → stops_bare ways rest ≡ true → stops_binary ways rest ≡ false
bare-no_text ways rest h = is_no (stops_binary ways rest) (λ k. let b : begins_binary rest ≡ false = bare-text rest (stops-begins ways rest h) in let c : begins_binary rest ≡ true = and_right (not ways.skip_binary) _ k in absurd cc)

pub bare-words : (ways : ReadOptions) (rest : List (List ℕ)) → stop_at ways rest ≡ Some Bare ↔ stops_bare ways rest ≡ true
unfolding stop_at
bare-words ways rest = (
  λ h. told-bare (opens ways.only Unified rest) (opens ways.only Context rest) (opens ways.only Normal rest) (opens ways.only Ed rest) (stops_binary ways rest) (stops_bare ways rest) h,
  λ h. stop-none ways rest (λ f. shut-bare ways.only f rest (stops-begins ways rest h))
      ∙ ap (λ v. cond v (Some Binary) (cond (stops_bare ways rest) (Some Bare) None)) (bare-no_text ways rest h)
      ∙ ap (λ v. cond v (Some Bare) None) h,
)

pub nothing-words : (ways : ReadOptions) (rest : List (List ℕ)) → (stop_at ways rest ≡ None) ↔ (((f : Form) → opens ways.only f rest ≡ false) × (stops_binary ways rest ≡ false) × (stops_bare ways rest ≡ false))
unfolding stop_at
nothing-words ways rest = (
  λ h. let all = told-none (opens ways.only Unified rest) (opens ways.only Context rest) (opens ways.only Normal rest) (opens ways.only Ed rest) (stops_binary ways rest) (stops_bare ways rest) h in (λ f. sym (picked ways.only rest f) ∙ all.0 f, all.1, all.2),
  λ h. stop-none ways rest h.0 ∙ ap (λ v. cond v (Some Binary) (cond (stops_bare ways rest) (Some Bare) None)) h.1 ∙ ap (λ v. cond v (Some Bare) None) h.2,
)

no-git : begins_bare [] ≡ false
unfolding begins_bare
no-git = refl

-- nothing stands where no line is left
pub stop-end : (ways : ReadOptions) → stop_at ways [] ≡ None
stop-end ways = (nothing-words ways []).1 (λ f. shut f, and_no (not ways.skip_binary) false refl, stops-not ways [] no-git)
  where
    shut : (f : Form) → opens ways.only f [] ≡ false
    shut f = is_no (opens ways.only f []) (λ k. let z : kind (first_byte []) ≡ number f = kind-of ways.only f [] (and_right (admits ways.only f) _ k) in no-binary f 0 z refl)
