-- An ed script command by command.
use Rattle.std.proofs.Common.{◌≡◌, ℕ, zero, suc, ◌+◌, ◌-◌, ◌<◌, ◌≤◌, Bool, true, false, not, ◌||◌, cond, eqb, List, [], ◌∷◌, ◌++◌, length, get_or, drop, take, map, refl, sym, ap, subst, ◌∙◌, append_assoc, arith}
use Rattle.std.specs.Prelude.{nat_lt, reverse, sum_by}
use Rattle.std.specs.List.{flat_map, list_any}
use Rattle.std.proofs.lemmas.Bool.Decides.{nat_tests}
use Rattle.std.proofs.lemmas.List.{append-nil, at_drop_more, drop_all, length-append, length-map, length-take-le, reverse-append, take_more}
use Rattle.std.proofs.lemmas.List.Sums.{get_or-le-sum_by}
use Rattle.std.proofs.lemmas.Grind.{flat_map-append}
use Rattle.std.proofs.lemmas.List.Concat.{flat_map-cons}
use Rattle.line_list.specs.declared.Span.{Span}
use Rattle.hunk_core.specs.declared.Side.TheVariants.{Forward, Reversed}
use Rattle.hunk_core.specs.PlainHunk.{bytes_at}
use Rattle.ed_form.specs.declared.script.EdEdit.{EdEdit}
use Rattle.ed_form.specs.PlainEdit.{PlainEdit, IsLawfulEdit, AreLawful, lowest, edit_of, edits_of, lines_of}
use Rattle.format_convert.specs.Backward.{closing, first_text, grown, text_behind}
use Rattle.format_convert.specs.Blocks.{Block, Edit, add_at, behind, blocks_of, command_edits, drop_at, drop_count, drops_from, is_change, script_edits}
use Rattle.format_convert.specs.Commands.{ed_command, ed_line, ed_lines, ed_text, goes_on}
use Rattle.format_convert.specs.Fronts.{begins_at, front, front_block, is_on}
use Rattle.format_convert.specs.Runs.{IsRun, StartsAt, edits_before, grown_at, grown_by, run_adds, text_lines}
use Rattle.format_convert.proofs.EdLemmas.{grown-cons, grown-none, lines-cons, lines-none}
use Rattle.format_convert.proofs.FrontLemmas.{blocks-front, blocks-none, front-more, front-none, front-stop}

-- ---- the edits of a command

pub drops-none : (at : ℕ) → drops_from at 0 ≡ []
unfolding drops_from
drops-none at = refl

pub drops-more : (at n : ℕ) → drops_from at (suc n) ≡ drop_at at [] ∷ drops_from (at + 1) n
unfolding drops_from
drops-more at n = refl

drops-long : (n at : ℕ) → length (drops_from at n) ≡ n
drops-long zero at = ap length (drops-none at)
drops-long (suc n) at = ap length (drops-more at n) ∙ ap suc (drops-long n (at + 1))

abbrev is_more : ℕ → Bool
is_more zero = false
is_more (suc n) = true

more-than : (n : ℕ) → is_more n ≡ not (eqb n 0)
more-than zero = refl
more-than (suc n) = grind (arith, nat_tests)

lines-more : (ls : List (List ℕ)) → goes_on ls ≡ not (eqb (length ls) 0)
lines-more [] = refl
lines-more (l ∷ ls) = grind (arith, nat_tests)

changes-is : (e : PlainEdit) → (is_more (drop_count e) || goes_on e.added) ≡ is_change e
changes-is e = ap (λ b. b || goes_on e.added) (more-than (drop_count e)) ∙ ap (λ b. not (eqb (drop_count e) 0) || b) (lines-more e.added)

eq-same : (n : ℕ) → eqb n n ≡ true
eq-same n = grind (arith, nat_tests)

eq-is : (n m : ℕ) → n ≡ m → eqb n m ≡ true
eq-is n m same = ap (λ k. eqb k m) same ∙ eq-same m

-- ---- the lines of a block that begins with a command

drops-fore : (n at gap : ℕ) (es : List Edit) → at + n ≡ gap → length (front Forward at (drops_from at n ++ es)) ≡ n + length (front Forward gap es)
drops-fore zero at gap es to =
    let same : at ≡ gap = omega (arith, to) in
    omega (arith, ap (λ xs. length (front Forward at (xs ++ es))) (drops-none at), ap (λ q. length (front Forward q es)) same)
drops-fore (suc n) at gap es to =
    omega (arith, ap (λ xs. length (front Forward at (xs ++ es))) (drops-more at n), ap length (front-more at (drop_at at []) (drops_from (at + 1) n ++ es) refl Forward), drops-fore n (at + 1) gap es (omega (arith, to)))

drops-back : (n at gap : ℕ) (es : List Edit) → at + n ≡ gap → front Reversed at (drops_from at n ++ es) ≡ front Reversed gap es
drops-back zero at gap es to =
    let same : at ≡ gap = omega (arith, to) in
    ap (λ xs. front Reversed at (xs ++ es)) (drops-none at) ∙ ap (λ q. front Reversed q es) same
drops-back (suc n) at gap es to =
    ap (λ xs. front Reversed at (xs ++ es)) (drops-more at n)
    ∙ front-more at (drop_at at []) (drops_from (at + 1) n ++ es) refl Reversed
    ∙ drops-back n (at + 1) gap es (omega (arith, to))

adds-fore : (ls : List (List ℕ)) (gap : ℕ) (es : List Edit) → front Forward gap (map (add_at gap) ls ++ es) ≡ front Forward gap es
adds-fore [] gap es = refl
adds-fore (l ∷ ls) gap es = front-more gap (add_at gap l) (map (add_at gap) ls ++ es) refl Forward ∙ adds-fore ls gap es

adds-back : (ls : List (List ℕ)) (gap : ℕ) (es : List Edit) → front Reversed gap (map (add_at gap) ls ++ es) ≡ ls ++ front Reversed gap es
adds-back [] gap es = refl
adds-back (l ∷ ls) gap es = front-more gap (add_at gap l) (map (add_at gap) ls ++ es) refl Reversed ∙ ap (λ xs. l ∷ xs) (adds-back ls gap es)

-- ---- what is written as edits come in front of others

grown-adds : (ls : List (List ℕ)) (gap : ℕ) (left : List Edit) → grown (map (add_at gap) ls) left ≡ cond (goes_on ls) (closing gap left) []
grown-adds [] gap left = grown-none left
grown-adds (l ∷ []) gap left = grown-cons (add_at gap l) [] left ∙ ap (λ t. t ++ closing gap left) (grown-none left)
grown-adds (l ∷ m ∷ ls) gap left =
    grown-cons (add_at gap l) (map (add_at gap) (m ∷ ls)) left
    ∙ ap (λ t. t ++ closing gap (map (add_at gap) (m ∷ ls) ++ left)) (grown-adds (m ∷ ls) gap left)
    ∙ ap (λ b. closing gap left ++ cond b [] (first_text (blocks_of (map (add_at gap) (m ∷ ls) ++ left)))) (eq-same gap)
    ∙ append-nil (closing gap left)

join-drops : (n at gap : ℕ) (ls : List (List ℕ)) (left : List Edit) → at + suc n ≡ gap
    → cond (is_more n || goes_on ls) (closing gap left) [] ++ closing (at + 1) ((drops_from (at + 1) n ++ map (add_at gap) ls) ++ left) ≡ closing gap left
join-drops zero at gap [] left to =
    let same : at + 1 ≡ gap = omega (arith, to) in
    ap (λ xs. closing (at + 1) ((xs ++ []) ++ left)) (drops-none (at + 1)) ∙ ap (λ q. closing q left) same
join-drops zero at gap (l ∷ ls) left to =
    let same : gap ≡ at + 1 = omega (arith, to) in
    ap (λ xs. closing gap left ++ closing (at + 1) ((xs ++ map (add_at gap) (l ∷ ls)) ++ left)) (drops-none (at + 1))
    ∙ ap (λ b. closing gap left ++ cond b [] (first_text (blocks_of (map (add_at gap) (l ∷ ls) ++ left)))) (eq-is gap (at + 1) same)
    ∙ append-nil (closing gap left)
join-drops (suc n) at gap ls left to =
    ap (λ xs. closing gap left ++ closing (at + 1) ((xs ++ map (add_at gap) ls) ++ left)) (drops-more (at + 1) n)
    ∙ ap (λ b. closing gap left ++ cond b [] (first_text (blocks_of ((drop_at (at + 1) [] ∷ drops_from (at + 1 + 1) n ++ map (add_at gap) ls) ++ left)))) (eq-same (at + 1))
    ∙ append-nil (closing gap left)

grown-drops : (n at gap : ℕ) (ls : List (List ℕ)) (left : List Edit) → at + n ≡ gap → grown (drops_from at n ++ map (add_at gap) ls) left ≡ cond (is_more n || goes_on ls) (closing gap left) []
grown-drops zero at gap ls left to = ap (λ xs. grown (xs ++ map (add_at gap) ls) left) (drops-none at) ∙ grown-adds ls gap left
grown-drops (suc n) at gap ls left to =
    ap (λ xs. grown (xs ++ map (add_at gap) ls) left) (drops-more at n)
    ∙ grown-cons (drop_at at []) (drops_from (at + 1) n ++ map (add_at gap) ls) left
    ∙ ap (λ t. t ++ closing (at + 1) ((drops_from (at + 1) n ++ map (add_at gap) ls) ++ left)) (grown-drops n (at + 1) gap ls left (omega (arith, to)))
    ∙ join-drops n at gap ls left to

-- ---- where edits start

starts-drops : (n at gap : ℕ) (ls : List (List ℕ)) (left : List Edit) → at + n ≡ gap → 1 ≤ at → (is_more n || goes_on ls) ≡ true → StartsAt at ((drops_from at n ++ map (add_at gap) ls) ++ left)
starts-drops zero at gap [] left to one some = absurd cc
starts-drops zero at gap (l ∷ ls) left to one some =
    let same : gap ≡ at = omega (arith, to) in
    subst (λ xs. StartsAt at ((xs ++ map (add_at gap) (l ∷ ls)) ++ left)) (sym (drops-none at)) (same, one)
starts-drops (suc n) at gap ls left to one some = subst (λ xs. StartsAt at ((xs ++ map (add_at gap) ls) ++ left)) (sym (drops-more at n)) (refl, one)

none-drops : (n at gap : ℕ) (ls : List (List ℕ)) → (is_more n || goes_on ls) ≡ false → drops_from at n ++ map (add_at gap) ls ≡ []
none-drops zero at gap [] none = ap (λ xs. xs ++ map (add_at gap) []) (drops-none at)
none-drops zero at gap (l ∷ ls) none = absurd cc
none-drops (suc n) at gap ls none = absurd cc

none-added : (b : Bool) (ls : List (List ℕ)) → (b || goes_on ls) ≡ false → ls ≡ []
none-added true ls none = absurd cc
none-added false [] none = refl
none-added false (l ∷ ls) none = absurd cc

-- whether a gap is that where edits start
pub starts-begins : (first gap : ℕ) (left : List Edit) → StartsAt first left → 1 ≤ gap → begins_at gap left ≡ eqb first gap
starts-begins first gap [] at one = grind (arith, nat_tests)
starts-begins first gap (e ∷ es) at one = ap (λ n. eqb n gap) at.0

one-long : (b : Bool) (line : List ℕ) (d a m n : ℕ) → d ≡ length (cond (is_on Forward b) (line ∷ []) []) + m → a ≡ length (cond (is_on Reversed b) (line ∷ []) []) + n → (not (eqb d 0) || not (eqb a 0)) ≡ true
one-long true line d a m n fore back = grind (arith, nat_tests)
one-long false line d a m n fore back = grind (arith, nat_tests)

-- what is written of the first block
pub starts-text : (first : ℕ) (left : List Edit) (d a : ℕ) → StartsAt first left → d ≡ length (front Forward first left) → a ≡ length (front Reversed first left)
    → first_text (blocks_of left) ≡ cond (not (eqb d 0) || not (eqb a 0)) (ed_command (front_block first left)) []
starts-text first [] d a at fore back =
    let none : d ≡ 0 = fore ∙ ap length (front-none Forward first) in
    let empty : a ≡ 0 = back ∙ ap length (front-none Reversed first) in
    ap first_text blocks-none ∙ sym (ap (λ n. cond (not (eqb n 0) || not (eqb a 0)) (ed_command (front_block first [])) []) none ∙ ap (λ n. cond (false || not (eqb n 0)) (ed_command (front_block first [])) []) empty)
starts-text first (e ∷ es) d a at fore back =
    let more : (not (eqb d 0) || not (eqb a 0)) ≡ true = one-long e.adds e.line d a (length (front Forward (behind e) es)) (length (front Reversed (behind e) es))
    (fore ∙ ap length (front-more first e es at.0 Forward) ∙ length-append (cond (is_on Forward e.adds) (e.line ∷ []) []) (front Forward (behind e) es))
    (back ∙ ap length (front-more first e es at.0 Reversed) ∙ length-append (cond (is_on Reversed e.adds) (e.line ∷ []) []) (front Reversed (behind e) es)) in
    ap first_text (blocks-front e es)
    ∙ ap (λ n. ed_command (front_block n (e ∷ es))) at.0
    ∙ sym (ap (λ b. cond b (ed_command (front_block first (e ∷ es))) []) more)

-- ---- one command

module _ (e : PlainEdit) (lawful : e.first ≤ e.last + 1) where
  whole : e.first + drop_count e ≡ e.last + 1
  whole = omega (arith, lawful)

  pub command-fore : (es : List Edit) → length (front Forward e.first (command_edits e ++ es)) ≡ drop_count e + length (front Forward (e.last + 1) es)
  command-fore es =
      ap (λ xs. length (front Forward e.first xs)) (append_assoc (drops_from e.first (drop_count e)) (map (add_at (e.last + 1)) e.added) es)
      ∙ drops-fore (drop_count e) e.first (e.last + 1) (map (add_at (e.last + 1)) e.added ++ es) whole
      ∙ ap (λ xs. drop_count e + length xs) (adds-fore e.added (e.last + 1) es)

  pub command-back : (es : List Edit) → front Reversed e.first (command_edits e ++ es) ≡ e.added ++ front Reversed (e.last + 1) es
  command-back es =
      ap (front Reversed e.first) (append_assoc (drops_from e.first (drop_count e)) (map (add_at (e.last + 1)) e.added) es)
      ∙ drops-back (drop_count e) e.first (e.last + 1) (map (add_at (e.last + 1)) e.added ++ es) whole
      ∙ adds-back e.added (e.last + 1) es

  pub grown-command : (left : List Edit) → grown (command_edits e) left ≡ cond (is_change e) (closing (e.last + 1) left) []
  grown-command left = grown-drops (drop_count e) e.first (e.last + 1) e.added left whole ∙ ap (λ b. cond b (closing (e.last + 1) left) []) (changes-is e)

  pub command-starts : (left : List Edit) → 1 ≤ e.first → is_change e ≡ true → StartsAt e.first (command_edits e ++ left)
  command-starts left one some = starts-drops (drop_count e) e.first (e.last + 1) e.added left whole one (changes-is e ∙ some)

-- a command that changes nothing
pub command-none : (e : PlainEdit) → is_change e ≡ false → command_edits e ≡ []
command-none e none = none-drops (drop_count e) e.first (e.last + 1) e.added (changes-is e ∙ none)

pub added-none : (e : PlainEdit) → is_change e ≡ false → e.added ≡ []
added-none e none = none-added (is_more (drop_count e)) e.added (changes-is e ∙ none)

-- ---- commands so far, from the last one

back-more : {A B : Type 0} (f : A → List B) (xs : List A) (x : A) → flat_map f (reverse (xs ++ x ∷ [])) ≡ f x ++ flat_map f (reverse xs)
back-more f xs x = ap (flat_map f) (reverse-append xs (x ∷ [])) ∙ flat_map-cons f x (reverse xs)

drop-front : {A : Type 0} (n : ℕ) (xs ys : List A) → n ≤ length xs → drop n (xs ++ ys) ≡ drop n xs ++ ys
drop-front zero xs ys le = refl
drop-front (suc n) [] ys le = absurd (omega (arith, le))
drop-front (suc n) (x ∷ xs) ys le = drop-front n xs ys (omega (arith, le))

pub adds-none : (es : List PlainEdit) (i : ℕ) → run_adds es i i ≡ []
adds-none es i = ap (λ (xs : List PlainEdit). flat_map (λ (x : PlainEdit). x.added) (reverse xs)) (drop_all i (take i es) (short i es))
  where
    short : (n : ℕ) (xs : List PlainEdit) → length (take n xs) ≤ n
    short zero xs = omega arith
    short (suc n) [] = omega arith
    short (suc n) (x ∷ xs) = omega (arith, short n xs)

module _ (es : List PlainEdit) (i : ℕ) (e : PlainEdit) (lt : i < length es) (is : e ≡ get_or es i e) where
  so-far : take (i + 1) es ≡ take i es ++ e ∷ []
  so-far = take_more es i e lt ∙ ap (λ x. take i es ++ x ∷ []) (sym is)

  pub edits-more : edits_before es (i + 1) ≡ command_edits e ++ edits_before es i
  edits-more = ap script_edits so-far ∙ back-more command_edits (take i es) e

  pub adds-more : (from : ℕ) → from ≤ i → run_adds es from (i + 1) ≡ e.added ++ run_adds es from i
  adds-more from le =
      let long : from ≤ length (take i es) = omega (arith, le, lt, length-take-le i es (omega (arith, lt))) in
      ap (λ (xs : List PlainEdit). flat_map (λ (x : PlainEdit). x.added) (reverse (drop from xs))) so-far
      ∙ ap (λ (xs : List PlainEdit). flat_map (λ (x : PlainEdit). x.added) (reverse xs)) (drop-front from (take i es) (e ∷ []) long)
      ∙ back-more (λ (x : PlainEdit). x.added) (drop from (take i es)) e

  pub adds-own : run_adds es i (i + 1) ≡ e.added
  adds-own = adds-more i (omega arith) ∙ ap (λ xs. e.added ++ xs) (adds-none es i) ∙ append-nil e.added

  pub grown-here : grown_at es i ≡ grown (command_edits e) (edits_before es i)
  grown-here = at_drop_more (λ xs. grown_by xs (edits_before es i)) es i e lt ∙ ap (λ x. grown (command_edits x) (edits_before es i)) (sym is)

-- ---- whether anything is changed

or-sum : (a b : ℕ) → not (eqb (a + b) 0) ≡ (not (eqb a 0) || not (eqb b 0))
or-sum a b = grind (arith, nat_tests)

or-turn : (a b : Bool) → (a || b) ≡ (b || a)
or-turn true true = refl
or-turn true false = refl
or-turn false true = refl
or-turn false false = refl

command-long : (e : PlainEdit) → not (eqb (length (command_edits e)) 0) ≡ is_change e
command-long e =
    ap (λ n. not (eqb n 0)) (length-append (drops_from e.first (drop_count e)) (map (add_at (e.last + 1)) e.added))
    ∙ or-sum (length (drops_from e.first (drop_count e))) (length (map (add_at (e.last + 1)) e.added))
    ∙ ap (λ n. not (eqb n 0) || not (eqb (length (map (add_at (e.last + 1)) e.added)) 0)) (drops-long (drop_count e) e.first)
    ∙ ap (λ n. not (eqb (drop_count e) 0) || not (eqb n 0)) (length-map e.added (add_at (e.last + 1)))

some-edit : (es : List PlainEdit) → list_any is_change es ≡ not (eqb (length (script_edits es)) 0)
some-edit [] = refl
some-edit (e ∷ es) = sym (
    ap (λ xs. not (eqb (length (flat_map command_edits xs)) 0)) (reverse-append (e ∷ []) es)
    ∙ ap (λ xs. not (eqb (length xs) 0)) (flat_map-append command_edits (reverse es) (e ∷ []) ∙ ap (λ xs. script_edits es ++ xs) (flat_map-cons command_edits e [] ∙ append-nil (command_edits e)))
    ∙ ap (λ n. not (eqb n 0)) (length-append (script_edits es) (command_edits e))
    ∙ or-sum (length (script_edits es)) (length (command_edits e))
    ∙ ap (λ b. not (eqb (length (script_edits es)) 0) || b) (command-long e)
    ∙ ap (λ b. b || is_change e) (sym (some-edit es))
    ∙ or-turn (list_any is_change es) (is_change e))

some-long : (bs : List Block) → not (eqb (suc (length bs)) 0) ≡ true
some-long bs = grind (arith, nat_tests)

some-block : (es : List Edit) → not (eqb (length es) 0) ≡ not (eqb (length (blocks_of es)) 0)
some-block [] = ap (λ bs. not (eqb (length bs) 0)) (sym blocks-none)
some-block (e ∷ es) = grind (arith, nat_tests, ap length (blocks-front e es))

pub some-change : (es : List PlainEdit) → list_any is_change es ≡ not (eqb (length (blocks_of (script_edits es))) 0)
some-change es = some-edit es ∙ some-block (script_edits es)

-- ---- the lines of a command

text-none : (left : ℕ) → text_lines left [] ≡ []
unfolding text_lines
text-none left = refl

text-cons : (left : ℕ) (line : List ℕ) (more : List (List ℕ)) → text_lines left (line ∷ more) ≡ ed_line line (goes_on more || not (eqb left 0)) ++ text_lines left more
unfolding text_lines
text-cons left line more = refl

goes-both : (ls more : List (List ℕ)) → goes_on (ls ++ more) ≡ (goes_on ls || not (eqb (length more) 0))
goes-both [] more = lines-more more
goes-both (l ∷ ls) more = refl

-- lines, and those behind them
pub lines-both : (ls more : List (List ℕ)) → ed_lines (ls ++ more) ≡ text_lines (length more) ls ++ ed_lines more
lines-both [] more = ap (λ t. t ++ ed_lines more) (sym (text-none (length more)))
lines-both (l ∷ ls) more =
    lines-cons l (ls ++ more)
    ∙ ap (λ b. ed_line l b ++ ed_lines (ls ++ more)) (goes-both ls more)
    ∙ ap (λ t. ed_line l (goes_on ls || not (eqb (length more) 0)) ++ t) (lines-both ls more)
    ∙ sym (append_assoc (ed_line l (goes_on ls || not (eqb (length more) 0))) (text_lines (length more) ls) (ed_lines more))
    ∙ ap (λ t. t ++ ed_lines more) (sym (text-cons (length more) l ls))

more-at : (text : List ℕ) (spans : List Span) (i : ℕ) → goes_on (lines_of text (drop i spans)) ≡ nat_lt i (length spans)
more-at text [] zero = refl
more-at text [] (suc i) = grind (arith, nat_tests)
more-at text (s ∷ spans) zero = grind (arith, nat_tests)
more-at text (s ∷ spans) (suc i) = more-at text spans i ∙ grind (arith, nat_tests)

-- the next line of a text
pub line-next : (text : List ℕ) (left : ℕ) (spans : List Span) (i : ℕ) (s : Span) → i < length spans → s ≡ get_or spans i s
    → text_lines left (lines_of text (drop i spans)) ≡ ed_line (bytes_at text s) (nat_lt (i + 1) (length spans) || not (eqb left 0)) ++ text_lines left (lines_of text (drop (i + 1) spans))
line-next text left spans i s lt is =
    at_drop_more (λ xs. text_lines left (lines_of text xs)) spans i s lt
    ∙ ap (λ x. text_lines left (lines_of text (x ∷ drop (i + 1) spans))) (sym is)
    ∙ text-cons left (bytes_at text s) (lines_of text (drop (i + 1) spans))
    ∙ ap (λ b. ed_line (bytes_at text s) (b || not (eqb left 0)) ++ text_lines left (lines_of text (drop (i + 1) spans))) (more-at text spans (i + 1))

pub line-last : (text : List ℕ) (left : ℕ) (spans : List Span) (i : ℕ) → length spans ≤ i → text_lines left (lines_of text (drop i spans)) ≡ []
line-last text left spans i le = ap (λ xs. text_lines left (lines_of text xs)) (drop_all i spans le) ∙ text-none left

-- ---- lawful commands

lawful-from : (below : ℕ) (es : List PlainEdit) (i : ℕ) (e : PlainEdit) → AreLawful below es → i < length es → e ≡ get_or es i e → IsLawfulEdit e
lawful-from below [] i e are lt is = absurd (omega (arith, lt))
lawful-from below (x ∷ es) zero e are lt is = subst IsLawfulEdit (sym is) are.0
lawful-from below (x ∷ es) (suc i) e are lt is = lawful-from (lowest x) es i e are.2 (omega (arith, lt)) is

pub lawful-at : (below : ℕ) (es : List PlainEdit) (i : ℕ) (e : PlainEdit) → AreLawful below es → i < length es → e ≡ get_or es i e → IsLawfulEdit e
lawful-at below es i e are lt is = lawful-from below es i e are lt is

-- an edit of a script, as it is in the text
pub edit-at : (text : List ℕ) (es : List EdEdit) (i : ℕ) (e : EdEdit) → i < length es → e ≡ get_or es i e → edit_of text e ≡ get_or (edits_of text es) i (edit_of text e)
edit-at text [] i e lt is = absurd (omega (arith, lt))
edit-at text (x ∷ es) zero e lt is = ap (edit_of text) is
edit-at text (x ∷ es) (suc i) e lt is = edit-at text es i e (omega (arith, lt)) is

-- no edit adds more lines than all of them
pub each-few : (es : List EdEdit) (i : ℕ) (e : EdEdit) → i < length es → e ≡ get_or es i e → length e.added.items ≤ sum_by (λ (x : EdEdit). length x.added.items) es
each-few es i e lt is = omega (arith, get_or-le-sum_by (λ (x : EdEdit). length x.added.items) es i e lt, ap (λ (y : EdEdit). length y.added.items) is)

-- there is a command at each place
pub edit-there : (es : List EdEdit) (i : ℕ) → i < length es → (e : EdEdit) × (e ≡ get_or es i e)
edit-there [] i lt = absurd (omega (arith, lt))
edit-there (e ∷ es) zero lt = (e, refl)
edit-there (e ∷ es) (suc i) lt = edit-there es i (omega (arith, lt))
