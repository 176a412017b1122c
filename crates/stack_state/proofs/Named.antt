-- The names of a stack's files are names.
use Rattle.std.proofs.Common.{◌≡◌, ℕ, zero, suc, ◌<◌, List, [], ◌∷◌, ◌++◌, codes, length, Bool, true, false, ◌&&◌, ◌||◌, not, nat_eq, bytes_eq, refl, sym, ap, subst, arith}
use Rattle.std.specs.Prelude.{nat_lt}
use Rattle.std.specs.List.{list_any}
use Rattle.std.specs.Str.{IsUtf8, IsAscii}
use Rattle.std.proofs.lemmas.Bool.Decides.{nat_tests}
use Rattle.std.proofs.lemmas.Str.{IsUtf8-from_ascii, IsUtf8-append}
use Rattle.std.proofs.lemmas.Str.Ascii.{IsAscii-nil}
use Rattle.num_text.specs.Numbers.{decimal, is_digit, AllDigits}
use Rattle.num_text.proofs.Decimal.{decimal-numeral}
use Rattle.outside.specs.Names.{is_slash, is_control, is_absolute, is_kept, IsPatchName, IsEnding}
use Rattle.outside.proofs.Components.{Each, Free, neither, either_free, components_one}
use Rattle.outside.proofs.Lawful.{is_parent, patch_made, patch_below, patch_behind}
use Rattle.series_stack.specs.Stack.{series_name, count_name, save_name}

-- ---- texts of ASCII

abbrev is_large : ℕ → Bool
is_large b = not (nat_lt b 128)

small : (b : ℕ) → is_large b ≡ false → b < 128
small b is = grind (arith, nat_tests)

ascii_of : (bs : List ℕ) → Free is_large bs → IsAscii bs
ascii_of [] is = IsAscii-nil
ascii_of (b ∷ bs) is = next (small b (neither (is_large b) (list_any is_large bs) is).0) (ascii_of bs (neither (is_large b) (list_any is_large bs) is).1)
  where
    next : b < 128 → IsAscii bs → IsAscii (b ∷ bs)
    next less rest zero = less
    next less rest (suc i) = rest i

utf8_of : (bs : List ℕ) → Free is_large bs → IsUtf8 bs
utf8_of bs is = IsUtf8-from_ascii bs (ascii_of bs is)

-- ---- one component is a name

part_named : (c : List ℕ) → Free is_large c → Free is_slash c → Free is_control c → is_absolute c ≡ false → is_kept c ≡ true → is_parent c ≡ false → IsPatchName c
part_named c ascii slash control absolute keeps parent =
    patch_made c (utf8_of c ascii) control absolute
    (subst (λ (l : List (List ℕ)). Each (λ x. (is_kept x ≡ true) × (is_parent x ≡ false)) l) (sym (components_one c slash)) ((keeps, parent), tt))

-- ---- digits

digits_free : (p : ℕ → Bool) → ((b : ℕ) → is_digit b ≡ true → p b ≡ false) → (ds : List ℕ) → AllDigits ds → Free p ds
digits_free p is [] all = refl
digits_free p is (d ∷ ds) all = either_free (p d) (list_any p ds) (is d all.0) (digits_free p is ds all.1)

digit_small : (b : ℕ) → is_digit b ≡ true → is_large b ≡ false
digit_small b is = grind (arith, nat_tests)

digit_slash : (b : ℕ) → is_digit b ≡ true → is_slash b ≡ false
digit_slash b is = grind (arith, nat_tests)

digit_control : (b : ℕ) → is_digit b ≡ true → is_control b ≡ false
digit_control b is = grind (arith, nat_tests)

digit_dot : (b : ℕ) → is_digit b ≡ true → nat_eq b 46 ≡ false
digit_dot b is = grind (arith, nat_tests)

dot_digit : (b : ℕ) → is_digit b ≡ true → nat_eq 46 b ≡ false
dot_digit b is = grind (arith, nat_tests)

digits_named : (ds : List ℕ) → 0 < length ds → AllDigits ds → IsPatchName ds
digits_named [] some all = absurd (omega (arith, some))
digits_named (d ∷ ds) some all =
    part_named (d ∷ ds)
    (digits_free is_large digit_small (d ∷ ds) all) (digits_free is_slash digit_slash (d ∷ ds) all) (digits_free is_control digit_control (d ∷ ds) all)
    (digit_slash d all.0)
    (ap (λ b. not (false || (b && bytes_eq ds []))) (digit_dot d all.0))
    (ap (λ b. b && bytes_eq (codes ".") ds) (dot_digit d all.0))

-- ---- the stack's own

pc_named : IsPatchName (codes ".pc")
pc_named = part_named (codes ".pc") refl refl refl refl refl refl

pub series_named : IsPatchName series_name
series_named =
    patch_below (codes "patches") (codes "series") (part_named (codes "patches") refl refl refl refl refl refl) (part_named (codes "series") refl refl refl refl refl refl)
    (utf8_of series_name refl)

pub count_named : IsPatchName count_name
count_named = patch_below (codes ".pc") (codes "applied") pc_named (part_named (codes "applied") refl refl refl refl refl refl) (utf8_of count_name refl)

save_ending : IsEnding (codes ".save")
save_ending = record { no_slash = refl; no_control = refl }

pub save_named : (k : ℕ) → IsPatchName (save_name k)
unfolding save_name
save_named k =
    let n = decimal-numeral k in
    let ascii : IsUtf8 (codes ".pc/" ++ decimal k) = IsUtf8-append (codes ".pc/") (decimal k) (utf8_of (codes ".pc/") refl) (utf8_of (decimal k) (digits_free is_large digit_small (decimal k) n.digits)) in
    patch_behind (codes ".pc/" ++ decimal k) (codes ".save")
    (patch_below (codes ".pc") (decimal k) pc_named (digits_named (decimal k) n.some n.digits) ascii)
    save_ending
    (IsUtf8-append (codes ".pc/" ++ decimal k) (codes ".save") ascii (utf8_of (codes ".save") refl))

pub save_is : (k : ℕ) → codes ".pc/" ++ (decimal k ++ codes ".save") ≡ save_name k
unfolding save_name
save_is k = refl
