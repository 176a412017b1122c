-- Lines that are gathered one behind the other.
use Rattle.std.proofs.Common.{◌≡◌, ℕ, ◌+◌, ◌-◌, ◌<◌, ◌≤◌, List, [], ◌∷◌, ◌++◌, Option, Some, None, IfSome, false, length, take, drop, refl, sym, ap, subst, ◌∙◌, arith, append_assoc}
use Rattle.std.proofs.lemmas.List.{append-nil, length-take-le, length-drop}
use Rattle.line_list.specs.Join.{join, lacks_feed, feed_if, ends_open}
use Rattle.line_list.proofs.JoinLemmas.{lacks-append}
use Rattle.line_store.specs.Store.{line_at}
use Rattle.hunk_apply.specs.Written.{lines_between}
use Rattle.hunk_apply.specs.Gathering.{Gathers}
use Rattle.hunk_apply.proofs.CopyLemmas.{none-between, more-between, between-take}

-- a line behind lines that all have their line feeds
join-more : (ls : List (List ℕ)) (line : List ℕ) → ends_open ls ≡ false → join (ls ++ (line ∷ [])) ≡ join ls ++ line
unfolding join ends_open
join-more [] line shut = refl
join-more (l ∷ []) line shut = ap (λ b. (l ++ feed_if b) ++ line) shut ∙ ap (λ r. r ++ line) (append-nil l)
join-more (l ∷ next ∷ ls) line shut =
    ap (λ r. (l ++ feed_if (lacks_feed l)) ++ r) (join-more (next ∷ ls) line shut)
    ∙ sym (append_assoc (l ++ feed_if (lacks_feed l)) (join (next ∷ ls)) line)

open-more : (ls : List (List ℕ)) (line : List ℕ) → ends_open (ls ++ (line ∷ [])) ≡ lacks_feed line
unfolding ends_open
open-more [] line = refl
open-more (l ∷ []) line = refl
open-more (l ∷ next ∷ ls) line = open-more (next ∷ ls) line

none-open : (ls : List (List ℕ)) → ls ≡ [] → ends_open ls ≡ false
unfolding ends_open
none-open ls none = ap ends_open none

none-joined : (ls : List (List ℕ)) → ls ≡ [] → [] ≡ join ls
unfolding join
none-joined ls none = sym (ap join none)

has-byte : (line : List ℕ) → lacks_feed line ≡ false → 0 < length line
has-byte [] fed = grind arith
has-byte (b ∷ bs) fed = omega arith

between-nothing : (lines : List (List ℕ)) (q : ℕ) → lines_between lines q (q + 0) ≡ []
between-nothing lines q =
    let here : q + 0 ≡ q = omega arith in
    ap (lines_between lines q) here ∙ sym (append-nil (lines_between lines q q)) ∙ none-between lines q []

pub gathers-none : (lines : List (List ℕ)) (q : ℕ) → Gathers lines q 0 []
gathers-none lines q = record {
  is = none-joined _ (between-nothing lines q);
  shut = none-open _ (between-nothing lines q);
  end = λ some. absurd (omega (arith, some));
}

between-one-more : (lines : List (List ℕ)) (q n : ℕ) → 1 ≤ q → q + n ≤ length lines → lines_between lines q (q + (n + 1)) ≡ lines_between lines q (q + n) ++ (line_at lines (q + n) ∷ [])
between-one-more lines q n low high =
    let next : q + (n + 1) ≡ (q + n) + 1 = omega arith in
    ap (lines_between lines q) next ∙ sym (append-nil (lines_between lines q ((q + n) + 1))) ∙ sym (more-between lines q (q + n) [] low (omega arith) high)

pub gathers-more : (lines : List (List ℕ)) (q n : ℕ) (a line b : List ℕ) → 1 ≤ q → q + n ≤ length lines → line ≡ line_at lines (q + n) → lacks_feed line ≡ false → b ≡ a ++ line → Gathers lines q n a → Gathers lines q (n + 1) b
gathers-more lines q n a line b low high here fed added h =
    let grown : lines_between lines q (q + (n + 1)) ≡ lines_between lines q (q + n) ++ (line ∷ []) = between-one-more lines q n low high ∙ ap (λ l. lines_between lines q (q + n) ++ (l ∷ [])) (sym here) in
    record {
      is = added ∙ ap (λ r. r ++ line) h.is ∙ sym (join-more (lines_between lines q (q + n)) line h.shut) ∙ sym (ap join grown);
      shut = ap ends_open grown ∙ open-more (lines_between lines q (q + n)) line ∙ fed;
      end = λ some. ap lacks_feed added ∙ lacks-append a line (has-byte line fed) ∙ fed;
    }

pub some-between : (lines : List (List ℕ)) (q n : ℕ) → 1 ≤ q → 1 ≤ n → q + n ≤ length lines + 1 → 0 < length (lines_between lines q (q + n))
some-between lines q n low some high =
    let left : length (drop (q - 1) lines) ≡ length lines - (q - 1) = length-drop (q - 1) lines in
    let taken : length (take n (drop (q - 1) lines)) ≡ n = length-take-le n (drop (q - 1) lines) (omega arith) in
    let same : length (lines_between lines q (q + n)) ≡ length (take n (drop (q - 1) lines)) = ap length (between-take lines q n low) in
    omega arith

-- what is said of a value, if there is one
pub at-some : (end : Option ℕ) (P : ℕ → Type 0) (e : ℕ) → end ≡ Some e → IfSome end P → P e
at-some end P e is h = subst (λ q. IfSome q P) is h

pub if-some-each : (end : Option ℕ) (P : ℕ → Type 0) → ((e : ℕ) → end ≡ Some e → P e) → IfSome end P
if-some-each None P f = tt
if-some-each (Some e) P f = f e refl
