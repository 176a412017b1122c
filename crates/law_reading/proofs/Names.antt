-- A name that was read is read again behind 'Index: '.
use Rattle.std.proofs.Common.{◌≡◌, ◌≢◌, ℕ, zero, suc, ◌+◌, ◌≤◌, Bool, true, false, cond, not, eqb, List, [], ◌∷◌, ◌++◌, length, take, drop, Option, None, Some, refl, sym, ap, ◌∙◌, arith}
use Rattle.std.specs.Prelude.{nat_lt, unwrap_or}
use Rattle.std.specs.List.{AllByRecursion, list_any, position_or_len, prefix_len}
use Rattle.std.specs.Option.{option_map_or}
use Rattle.std.proofs.Math.Seq.{take-append_seam, take-length}
use Rattle.std.proofs.lemmas.Bool.Decides.{nat_tests}
use Rattle.std.proofs.lemmas.List.{append-nil, length-append, length-take}
use Rattle.std.proofs.lemmas.Bool.{or_parts}
use Rattle.read_header_record.specs.Quoted.{begins_quoted, quoted_length}
use Rattle.read_header_record.proofs.Quotes.{ends-again, quoted-fits}
use Rattle.patch_header.specs.Values.{bare_length, blanks, first, index_length, is_blank, length_or, name_length, unblanked}
use Rattle.law_reading.specs.Said.{bytes_before, index_named, name_said}
use Rattle.law_reading.proofs.HeaderLines.{first-short, index-short}
use Rattle.patch_header.specs.Written.{holds_space}
use Rattle.law_reading.proofs.Shown.{CleanIn, blanks-none, clean-drop, first-is, not-blank}
use Rattle.line_list.proofs.WholeLines.{no-feed-take, NoFeed, no-feed-both}

-- a tab behind a name with a space
abbrev pub tab_if : List ℕ → List ℕ
tab_if name = cond (holds_space name) (9 ∷ []) []

abbrev pub text_or_none : Option (List ℕ) → List ℕ
text_or_none o = option_map_or (λ name. name) o []

-- ---- fronts that pass a test

abbrev pub Passing : (ℕ → Bool) → List ℕ → Type 0
Passing p bs = AllByRecursion (λ b. p b ≡ true) bs

pub take-passing : (p : ℕ → Bool) (n : ℕ) (bs : List ℕ) → n ≤ prefix_len p bs → Passing p (take n bs)
take-passing p zero bs le = tt
take-passing p (suc n) [] le = tt
take-passing p (suc n) (b ∷ bs) le = by (p b) refl le (take-passing p n bs)
  where
    by : (v : Bool) → p b ≡ v → suc n ≤ cond v (1 + prefix_len p bs) 0 → (n ≤ prefix_len p bs → Passing p (take n bs)) → (p b ≡ true) × Passing p (take n bs)
    by true e le again = (e, again (omega (arith, le)))
    by false e le again = absurd (omega (arith, le))

passing-whole : (p : ℕ → Bool) (bs : List ℕ) → Passing p bs → prefix_len p bs ≡ length bs
passing-whole p [] all = refl
passing-whole p (b ∷ bs) all = let again : prefix_len p bs ≡ length bs = passing-whole p bs all.1 in rw (all.0) (omega (arith, again))

passing-ends : (p : ℕ → Bool) (bs : List ℕ) (c : ℕ) → Passing p bs → p c ≡ false → prefix_len p (bs ++ c ∷ []) ≡ length bs
passing-ends p [] c all stop = rw stop refl
passing-ends p (b ∷ bs) c all stop = let again : prefix_len p (bs ++ c ∷ []) ≡ length bs = passing-ends p bs c all.1 stop in rw (all.0) (omega (arith, again))

no-spaces : (bs : List ℕ) → list_any (λ b. eqb b 32) bs ≡ false → Passing (λ b. not (eqb b 32)) bs
no-spaces [] e = tt
no-spaces (b ∷ bs) e = let both = or_parts (eqb b 32) (list_any (λ c. eqb c 32) bs) e in (ap not both.0, no-spaces bs both.1)

abbrev pub NoTab : List ℕ → Type 0
NoTab bs = Passing (λ b. not (eqb b 9)) bs

-- a name without quotes is in front of the first tab
pub bare-before : (bs : List ℕ) → bare_length bs ≤ position_or_len (λ b. eqb b 9) bs
bare-before bs = by (nat_lt (position_or_len (λ b. eqb b 9) bs) (length bs)) refl
  where
    by : (v : Bool) → nat_lt (position_or_len (λ b. eqb b 9) bs) (length bs) ≡ v → unwrap_or (cond v (Some (position_or_len (λ b. eqb b 9) bs)) None) (first (λ b. eqb b 32) bs) ≤ position_or_len (λ b. eqb b 9) bs
    by true e = omega arith
    by false e = let all : length bs ≤ position_or_len (λ b. eqb b 9) bs = grind (arith, nat_tests) in omega (arith, all, first-short (λ b. eqb b 32) bs)

pub index-before : (bs : List ℕ) → first (λ b. eqb b 9) bs ≤ position_or_len (λ b. eqb b 9) bs
index-before bs = omega (arith, first-is (λ b. eqb b 9) bs)

-- a name that an `Index:` line gives back
pub record GivesBack (name : List ℕ) : Type 0 where
  pub front : blanks name ≡ 0
  pub bare : begins_quoted name ≡ false → NoTab name
  pub quoted : begins_quoted name ≡ true → quoted_length name ≡ Some (length name)

-- such a name is read whole, whether or not a tab follows it
length-again : (name : List ℕ) → GivesBack name → index_length (name ++ tab_if name) ≡ length name
length-again [] g = refl
length-again (c ∷ cs) g = by (eqb c 34) refl
  where
    spaced-so : NoTab (c ∷ cs) → (w : Bool) → first (λ b. eqb b 9) ((c ∷ cs) ++ cond w (9 ∷ []) []) ≡ length (c ∷ cs)
    spaced-so all true = first-is (λ b. eqb b 9) ((c ∷ cs) ++ 9 ∷ []) ∙ passing-ends (λ b. not (eqb b 9)) (c ∷ cs) 9 all refl
    spaced-so all false = ap (first (λ b. eqb b 9)) (append-nil (c ∷ cs)) ∙ first-is (λ b. eqb b 9) (c ∷ cs) ∙ passing-whole (λ b. not (eqb b 9)) (c ∷ cs) all

    by : (v : Bool) → eqb c 34 ≡ v → index_length ((c ∷ cs) ++ tab_if (c ∷ cs)) ≡ length (c ∷ cs)
    by true is =
        let own : quoted_length ((c ∷ cs) ++ tab_if (c ∷ cs)) ≡ Some (length (c ∷ cs)) =
        ap (λ l. quoted_length (l ++ tab_if (c ∷ cs))) (sym (take-length (c ∷ cs))) ∙ ends-again (c ∷ cs) (tab_if (c ∷ cs)) (length (c ∷ cs)) (g.quoted is) in
        ap (λ v. cond v (unwrap_or (quoted_length ((c ∷ cs) ++ tab_if (c ∷ cs))) 0) (first (λ b. eqb b 9) ((c ∷ cs) ++ tab_if (c ∷ cs)))) is ∙ ap (λ o. unwrap_or o 0) own
    by false is = rw is (spaced-so (g.bare is) (holds_space (c ∷ cs)))

-- ---- behind a space

blanks-more : (bs : List ℕ) → blanks (32 ∷ bs) ≡ suc (blanks bs)
blanks-more bs =
    let step : position_or_len (λ b. not (is_blank b)) (32 ∷ bs) ≡ suc (position_or_len (λ b. not (is_blank b)) bs) = omega arith in
    first-is (λ b. not (is_blank b)) (32 ∷ bs) ∙ step ∙ ap suc (sym (first-is (λ b. not (is_blank b)) bs))

pub blanks-zero : (c : ℕ) (bs : List ℕ) → is_blank c ≡ false → blanks (c ∷ bs) ≡ 0
blanks-zero c bs e = first-is (λ b. not (is_blank b)) (c ∷ bs) ∙ rw e refl

-- a name that is given back, behind a space
pub spaced : (name : List ℕ) → GivesBack name → eqb (length name) 0 ≡ false → index_named (Some (32 ∷ (name ++ tab_if name))) ≡ Some name
spaced [] g some = absurd cc
spaced (c ∷ cs) g some =
    let name : List ℕ = c ∷ cs in
    let whole : List ℕ = (c ∷ cs) ++ tab_if (c ∷ cs) in
    let k : blanks (32 ∷ whole) ≡ 1 = blanks-more whole ∙ ap suc (blanks-zero c (cs ++ tab_if (c ∷ cs)) (not-blank c cs g.front)) in
    let there : unblanked (32 ∷ whole) ≡ whole = ap (λ n. drop n (32 ∷ whole)) k in
    ap (λ x. bytes_before (index_length x) x) there
    ∙ ap (λ m. bytes_before m whole) (length-again (c ∷ cs) g)
    ∙ ap (λ v. cond v None (Some (take (length name) whole))) some
    ∙ ap (λ (x : List ℕ). Some x) (take-append_seam name (tab_if name))

empty-said : index_named (Some (32 ∷ [])) ≡ None
empty-said = refl

none-gives : GivesBack []
none-gives = record { front = refl; bare = λ e. tt; quoted = λ e. absurd cc }

take-none : (n : ℕ) → GivesBack (take n [])
take-none zero = none-gives
take-none (suc n) = none-gives

-- what is read in front of a name without blanks is given back
pub front-gives : (bare : ℕ) (u : List ℕ) → blanks u ≡ 0 → bare ≤ position_or_len (λ b. eqb b 9) u → GivesBack (take (length_or bare u) u)
front-gives bare [] e low = take-none bare
front-gives bare (c ∷ cs) e low = by (eqb c 34) refl
  where
    first-plain : is_blank c ≡ false
    first-plain = not-blank c cs e

    bare-so : (n : ℕ) → eqb c 34 ≡ false → n ≤ position_or_len (λ b. eqb b 9) (c ∷ cs) → GivesBack (take n (c ∷ cs))
    bare-so zero is le = none-gives
    bare-so (suc n) is le = record {
      front = blanks-zero c (take n cs) first-plain;
      bare = λ q. take-passing (λ b. not (eqb b 9)) (suc n) (c ∷ cs) le;
      quoted = λ q. let bad : true ≡ false = sym q ∙ is in absurd cc;
    }

    whole-so : (n : ℕ) → eqb c 34 ≡ true → quoted_length (c ∷ cs) ≡ Some n → GivesBack (take n (c ∷ cs))
    whole-so zero is own = none-gives
    whole-so (suc n) is own =
        let long : length (take (suc n) (c ∷ cs)) ≡ suc n = length-take (suc n) (c ∷ cs) ∙ omega (arith, (quoted-fits (c ∷ cs) (suc n) own).1) in
        record {
          front = blanks-zero c (take n cs) first-plain;
          bare = λ q. let bad : true ≡ false = sym is ∙ q in absurd cc;
          quoted = λ q. ap quoted_length (sym (append-nil (take (suc n) (c ∷ cs)))) ∙ ends-again (c ∷ cs) [] (suc n) own ∙ ap (λ (k : ℕ). Some k) (sym long);
        }

    quoted-so : (o : Option ℕ) → eqb c 34 ≡ true → quoted_length (c ∷ cs) ≡ o → GivesBack (take (unwrap_or o 0) (c ∷ cs))
    quoted-so None is own = none-gives
    quoted-so (Some n) is own = whole-so n is own

    by : (v : Bool) → eqb c 34 ≡ v → GivesBack (take (cond v (unwrap_or (quoted_length (c ∷ cs)) 0) bare) (c ∷ cs))
    by true is = quoted-so (quoted_length (c ∷ cs)) is refl
    by false is = bare-so bare is low

-- the name that was read
pub said-again : (o : Option (List ℕ)) → index_named (Some (32 ∷ (text_or_none (index_named o) ++ tab_if (text_or_none (index_named o))))) ≡ index_named o
said-again None = empty-said
said-again (Some bs) = by (eqb (index_length (unblanked bs)) 0) refl
  where
    by : (v : Bool) → eqb (index_length (unblanked bs)) 0 ≡ v
        → let o = cond v None (Some (take (index_length (unblanked bs)) (unblanked bs))) in index_named (Some (32 ∷ (text_or_none o ++ tab_if (text_or_none o)))) ≡ o
    by true e = empty-said
    by false e =
        let u : List ℕ = unblanked bs in
        let long : length (take (index_length (unblanked bs)) (unblanked bs)) ≡ index_length (unblanked bs) = length-take (index_length (unblanked bs)) (unblanked bs) ∙ omega (arith, index-short (unblanked bs)) in
        let some : eqb (length (take (index_length (unblanked bs)) (unblanked bs))) 0 ≡ false = ap (λ n. eqb n 0) long ∙ e in
        spaced (take (index_length (unblanked bs)) (unblanked bs)) (front-gives (first (λ b. eqb b 9) (unblanked bs)) (unblanked bs) (blanks-none bs) (index-before (unblanked bs))) some

-- ---- without line feeds

clean-tab : (v : Bool) → NoFeed (cond v (9 ∷ []) [])
clean-tab true = ((λ e. cc), tt)
clean-tab false = tt

clean-front : (n : ℕ) (bs : List ℕ) → NoFeed bs → NoFeed (text_or_none (bytes_before n (unblanked bs)))
clean-front n bs all = by (eqb n 0)
  where
    by : (v : Bool) → NoFeed (text_or_none (cond v None (Some (take n (unblanked bs)))))
    by true = tt
    by false = no-feed-take n (unblanked bs) (clean-drop (blanks bs) bs all)

pub clean-said : (bs : List ℕ) → NoFeed bs → NoFeed (text_or_none (name_said (Some bs)))
clean-said bs all = clean-front (name_length (unblanked bs)) bs all

pub clean-index : (bs : List ℕ) → NoFeed bs → NoFeed (text_or_none (index_named (Some bs)))
clean-index bs all = clean-front (index_length (unblanked bs)) bs all

pub tab-clean : (name : List ℕ) → NoFeed (tab_if name)
tab-clean name = clean-tab (holds_space name)

pub index-clean : (o : Option (List ℕ)) → CleanIn o → NoFeed (text_or_none (index_named o) ++ tab_if (text_or_none (index_named o)))
index-clean None all = tt
index-clean (Some bs) all = no-feed-both (text_or_none (index_named (Some bs))) (tab_if (text_or_none (index_named (Some bs)))) (clean-index bs all) (tab-clean (text_or_none (index_named (Some bs))))
