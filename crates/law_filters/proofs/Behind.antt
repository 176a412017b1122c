-- The text behind the ranges of a hunk has no line feed.
use Rattle.std.proofs.Common.{◌≡◌, ◌≢◌, ℕ, Bool, true, false, cond, not, eqb, nat_eq, List, [], ◌∷◌, drop, take, refl, arith}
use Rattle.std.specs.Prelude.{replicate}
use Rattle.std.specs.List.{AllByRecursion, starts_with}
use Rattle.std.proofs.lemmas.Bool.{eqb-false}
use Rattle.hunk_core.specs.declared.Form.{Form}
use Rattle.hunk_core.specs.declared.Form.TheVariants.{Unified, Context, Normal, Ed}
use Rattle.patch_header.specs.Values.{first}
use Rattle.format_convert.specs.Behind.{behind_in, behind_old, line_rest, next_lines, past, unless_empty}
use Rattle.law_reading.proofs.Names.{Passing, take-passing}
use Rattle.law_reading.proofs.Shown.{first-is}

abbrev pub NoFeed : List ℕ → Type 0
NoFeed bs = AllByRecursion (λ b. b ≢ 10) bs

not-yes : (v : Bool) → not v ≡ true → v ≡ false
not-yes true e = absurd cc
not-yes false e = refl

passing-quiet : (bs : List ℕ) → Passing (λ b. not (eqb b 10)) bs → NoFeed bs
passing-quiet [] all = tt
passing-quiet (b ∷ bs) all = (eqb-false b 10 (not-yes (eqb b 10) all.0), passing-quiet bs all.1)

rest-quiet : (bs : List ℕ) → NoFeed (line_rest bs)
rest-quiet bs = passing-quiet (take (first (λ b. eqb b 10) bs) bs) (take-passing (λ b. not (eqb b 10)) (first (λ b. eqb b 10) bs) bs (omega (arith, first-is (λ b. eqb b 10) bs)))

unless-quiet : (own other : List ℕ) → NoFeed own → NoFeed other → NoFeed (unless_empty own other)
unless-quiet [] other one two = two
unless-quiet (b ∷ own) other one two = one

stars-quiet : (v : Bool) (piece : List ℕ) → NoFeed (cond v (unless_empty (line_rest (drop 15 piece)) (behind_old (next_lines piece))) (behind_old piece))
stars-quiet true piece = unless-quiet (line_rest (drop 15 piece)) (behind_old (next_lines piece)) (rest-quiet (drop 15 piece)) (rest-quiet (past 42 4 (drop 4 (next_lines piece))))
stars-quiet false piece = rest-quiet (past 42 4 (drop 4 piece))

pub quiet-in : (form : Form) (piece : List ℕ) → NoFeed (behind_in form piece)
quiet-in Unified piece = rest-quiet (past 64 2 (drop 2 piece))
quiet-in Context piece = stars-quiet (starts_with nat_eq piece (replicate 15 42)) piece
quiet-in Normal piece = tt
quiet-in Ed piece = tt
