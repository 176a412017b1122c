-- A series has at most 9,999 names, and a count is at most the most.
use Rattle.std.proofs.Common.{◌≡◌, ℕ, suc, ◌≤◌, List, ◌∷◌, [], map, length, Bool, true, false, ◌&&◌, bytes_eq, Option, None, Some, refl, sym, ◌∙◌, ap, subst, arith, if◌then◌else◌}
use Rattle.std.specs.Prelude.{nat_le}
use Rattle.std.specs.List.{list_all, slice_split}
use Rattle.std.proofs.lemmas.Bool.Decides.{nat_tests}
use Rattle.outside.specs.Names.{normal_form}
use Rattle.series_stack.specs.Series.{is_feed, is_lawful, named_lines, series_of}
use Rattle.series_stack.specs.Count.{counted, count_of}
use Rattle.series_stack.specs.Texts.{first_number}

at_most : (n m : ℕ) → nat_le n m ≡ true → n ≤ m
at_most n m is = grind (arith, nat_tests)

normal_count : (named : List (List ℕ)) → length (map normal_form named) ≡ length named
normal_count [] = refl
normal_count (x ∷ named) = ap suc (normal_count named)

written_few : (named : List (List ℕ)) (names : List (List ℕ)) (lawful few : Bool) → nat_le (length named) 9999 ≡ few → (if lawful && few then Some (map normal_form named) else None) ≡ Some names → length names ≤ 9999
written_few named names true true is same =
    let eq : map normal_form named ≡ names = cc in
    subst (λ n. n ≤ 9999) (sym (normal_count named) ∙ ap length eq) (at_most (length named) 9999 is)
written_few named names true false is same = absurd cc
written_few named names false few is same = absurd cc

pub series_few : (text : List ℕ) (names : List (List ℕ)) → series_of text ≡ Some names → length names ≤ 9999
unfolding series_of
series_few text names is =
    let named = named_lines (slice_split is_feed text) in
    written_few named names (list_all is_lawful named) (nat_le (length named) 9999) refl is

number_few : (most k n : ℕ) (whole few : Bool) → nat_le k most ≡ few → (if whole && few then Some k else None) ≡ Some n → n ≤ most
number_few most k n true true is same = (let eq : k ≡ n = cc in subst (λ x. x ≤ most) eq (at_most k most is))
number_few most k n true false is same = absurd cc
number_few most k n false few is same = absurd cc

counted_few : (most n : ℕ) (o : Option (ℕ × List ℕ)) → counted most o ≡ Some n → n ≤ most
counted_few most n None is = absurd cc
counted_few most n (Some x) is = number_few most x.0 n (bytes_eq x.1 (10 ∷ [])) (nat_le x.0 most) refl is

pub count_few : (most : ℕ) (text : List ℕ) (n : ℕ) → count_of most text ≡ Some n → n ≤ most
unfolding count_of
count_few most text n is = counted_few most n (first_number text) is
