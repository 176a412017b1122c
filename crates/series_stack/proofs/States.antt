-- The stack that files hold.
use Rattle.std.proofs.Common.{◌≡◌, ℕ, ◌<◌, ◌≤◌, ◌^◌, List, length, map, Bool, true, false, ◌&&◌, cond, leb, Option, Some, None, Ok, refl, ◌∙◌, ap, subst, arith}
use Rattle.std.proofs.lemmas.Bool.{leb-true, and_parts}
use Rattle.std.proofs.lemmas.List.{length-map}
use Rattle.outside.specs.Names.{normal_form}
use Rattle.std.specs.List.{slice_split, list_all}
use Rattle.std.specs.FinMap.{get}
use Rattle.outside.specs.Files.{Files, SameLasting}
use Rattle.outside.specs.Quiet.{after}
use Rattle.outside.specs.Quiet.Effect.{Put}
use Rattle.series_stack.specs.Series.{series_of, names_written, named_lines, is_lawful, is_feed}
use Rattle.series_stack.specs.Count.{count_text}
use Rattle.series_stack.specs.Undoing.{is_one_of, SameBeside}
use Rattle.series_stack.proofs.Meaning.{count-sound, count-again, put-at}
use Rattle.series_stack.specs.Stack.{Stack, series_name, count_name, count_in, counted, listed, stack_in, stack_of}
use Rattle.series_stack.proofs.Names.{series-lasting, count-lasting}

pub stack-same : (f g : Files) → get g series_name ≡ get f series_name → get g count_name ≡ get f count_name → stack_of g ≡ stack_of f
unfolding stack_of
stack-same f g series count = ap (λ (o : Option (List ℕ)). stack_in o (get g count_name)) series ∙ ap (λ (o : Option (List ℕ)). stack_in (get f series_name) o) count

pub stack-lasting : (f g : Files) → SameLasting f g → stack_of g ≡ stack_of f
stack-lasting f g same = stack-same f g (same.at series_name series-lasting) (same.at count_name count-lasting)

pub stack-beside : (names : List (List ℕ)) (f g : Files) → is_one_of names series_name ≡ false → is_one_of names count_name ≡ false → SameBeside names f g → stack_of g ≡ stack_of f
stack-beside names f g series count same = stack-same f g (same.at series_name series-lasting series) (same.at count_name count-lasting count)

-- ---- what a stack is read from
pub record IsRead (f : Files) (s : Stack) : Type 0 where
  pub text : List ℕ
  pub file : get f series_name ≡ Some text
  pub patches : series_of text ≡ Some s.patches
  pub few : length s.patches < 2 ^ 32
  pub most : s.applied ≤ length s.patches

few_written : (named names : List (List ℕ)) → names_written named ≡ Some names → length names ≤ 9999
few_written named names is = by (list_all is_lawful named && leb (length named) 9999) refl is
  where
    by : (v : Bool) → (list_all is_lawful named && leb (length named) 9999) ≡ v → cond v (Some (map normal_form named)) None ≡ Some names → length names ≤ 9999
    by true holds e =
        let same : map normal_form named ≡ names = cc in
        let count : length (map normal_form named) ≡ length names = ap (λ (l : List (List ℕ)). length l) same in
        let few : length named ≤ 9999 = leb-true (length named) 9999 (and_parts (list_all is_lawful named) (leb (length named) 9999) holds).1 in
        omega (arith, count, few, length-map named normal_form)
    by false holds e = absurd cc

few_names : (text : List ℕ) (names : List (List ℕ)) → series_of text ≡ Some names → length names ≤ 9999
unfolding series_of
few_names text names is = few_written (named_lines (slice_split is_feed text)) names is

count_within : (most : ℕ) (file : Option (List ℕ)) (n : ℕ) → count_in most file ≡ Some n → n ≤ most
count_within most None n is = (let zero_is : 0 ≡ n = cc in omega (arith, zero_is))
count_within most (Some text) n is = (count-sound most n text is).1

read_counted : (f : Files) (s : Stack) (text : List ℕ) (patches : List (List ℕ)) → get f series_name ≡ Some text → series_of text ≡ Some patches → (n : Option ℕ) → count_in (length patches) (get f count_name) ≡ n → counted patches n ≡ Ok s → IsRead f s
read_counted f s text patches file series None count e = absurd cc
read_counted f s text patches file series (Some n) count e =
    let made : Stack = record { patches = patches; applied = n } in
    let same : made ≡ s = cc in
    let few = few_names text patches series in
    subst (λ (t : Stack). IsRead f t) same
    (record { text = text; file = file; patches = series; few = omega (arith, few); most = count_within (length patches) (get f count_name) n count })

read_listed : (f : Files) (s : Stack) (text : List ℕ) → get f series_name ≡ Some text → (o : Option (List (List ℕ))) → series_of text ≡ o → listed o (get f count_name) ≡ Ok s → IsRead f s
read_listed f s text file None series e = absurd cc
read_listed f s text file (Some patches) series e = read_counted f s text patches file series (count_in (length patches) (get f count_name)) refl e

read_in : (f : Files) (s : Stack) (o : Option (List ℕ)) → get f series_name ≡ o → stack_in o (get f count_name) ≡ Ok s → IsRead f s
read_in f s None file e = absurd cc
read_in f s (Some text) file e = read_listed f s text file (series_of text) refl e

pub stack-read : (f : Files) (s : Stack) → stack_of f ≡ Ok s → IsRead f s
unfolding stack_of
stack-read f s is = read_in f s (get f series_name) refl is

-- ---- another count is put
abbrev pub with_count : Stack → ℕ → Stack
with_count s n = record { patches = s.patches; applied = n }

pub stack-put : (f : Files) (s : Stack) (n : ℕ) → stack_of f ≡ Ok s → n ≤ length s.patches → stack_of (after (Put count_name (count_text n)) f) ≡ Ok (with_count s n)
unfolding stack_of
stack-put f s n is le =
    let x = stack-read f s is in
    let g : Files = after (Put count_name (count_text n)) f in
    let series : get g series_name ≡ Some x.text = put-at count_name (count_text n) f series_name series-lasting ∙ x.file in
    let count : get g count_name ≡ Some (count_text n) = put-at count_name (count_text n) f count_name count-lasting in
    ap (λ (o : Option (List ℕ)). stack_in o (get g count_name)) series
    ∙ ap (λ (o : Option (List (List ℕ))). listed o (get g count_name)) x.patches
    ∙ ap (λ (o : Option (List ℕ)). counted s.patches (count_in (length s.patches) o)) count
    ∙ ap (λ (o : Option ℕ). counted s.patches o) (count-again (length s.patches) n (count_text n) x.few refl le)
