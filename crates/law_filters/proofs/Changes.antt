-- What is read again makes the same changes.
use Rattle.std.proofs.Common.{◌≡◌, ℕ, suc, ◌+◌, ◌-◌, ◌<◌, ◌≤◌, ◌^◌, Bool, true, false, cond, not, eqb, ◌||◌, ◌&&◌, List, [], ◌∷◌, ◌++◌, length, map, reverse, append_assoc, refl, sym, ap, subst, ◌∙◌, arith}
use Rattle.std.specs.List.{AllByRecursion, flat_map}
use Rattle.std.proofs.lemmas.Bool.Decides.{nat_tests}
use Rattle.std.proofs.lemmas.List.{append-nil, length-map, reverse-reverse}
use Rattle.std.proofs.lemmas.Bool.{or_parts}
use Rattle.hunk_core.specs.declared.Form.{Form}
use Rattle.hunk_core.specs.declared.Form.TheVariants.{Unified, Context, Normal, Ed}
use Rattle.hunk_core.specs.declared.Mark.{Mark}
use Rattle.hunk_core.specs.declared.Mark.TheVariants.{Keep, Drop, Add}
use Rattle.hunk_core.specs.declared.Side.TheVariants.{Forward, Reversed}
use Rattle.hunk_core.specs.PlainHunk.{Marked, PlainHunk}
use Rattle.hunk_core.specs.Turned.{base}
use Rattle.context_form.specs.Canonical.{drops_before, in_order}
use Rattle.normal_form.specs.Grammar.{on_side}
use Rattle.normal_form.proofs.Unbroken.{old-lines-are}
use Rattle.ed_form.specs.PlainEdit.{AreLawful, PlainEdit}
use Rattle.read_file_patch.specs.PlainPatch.{hunks, script}
use Rattle.format_convert.specs.Blocks.{Block, Edit, add_at, behind, block_of, blocks_in, blocks_of, body_edits, change_of_block, changes, command_edits, drop_at, drop_count, drops_from, hunk_edits, in_front, marked_edits, script_edits}
use Rattle.format_convert.specs.Commands.{range_start}
use Rattle.format_convert.specs.Fitting.{falls_back, has_large_command, has_open_line, is_unfit}
use Rattle.format_convert.proofs.FrontLemmas.{blocks-cons}
use Rattle.format_convert.proofs.ScriptLemmas.{drops-more, drops-none}
use Rattle.format_convert.proofs.Steps.{edits-mark, edits-none}
use Rattle.format_convert.specs.Refusals.{change_lacks, shows_context}
use Rattle.law_reading.proofs.Hunks.{IsGood}
use Rattle.law_reading.proofs.Stretches.{context-shown}
use Rattle.law_filters.specs.ReadAgain.{block_hunk, block_hunks, change_again}
use Rattle.law_filters.proofs.Blocks.{Apart, IsSome, blocks-apart, blocks-some, edits-climb}
use Rattle.law_filters.proofs.EdBody.{script-apart}
use Rattle.law_filters.proofs.NormalBody.{hunks-cons, hunks-none}

-- ---- an edit in front of blocks

abbrev block_at : ℕ → List (List ℕ) → List (List ℕ) → Block
block_at first dropped added = record { first = first; dropped = dropped; added = added }

fresh : (e : Edit) (bs : List Block) → Apart (behind e) bs → in_front e bs ≡ block_of e [] [] ∷ bs
fresh e [] apart = refl
fresh e (b ∷ bs) apart =
    let less : behind e < b.first = apart.0 in
    let other : eqb (behind e) b.first ≡ false = grind (arith, nat_tests) in
    ap (λ v. cond v (block_of e b.dropped b.added ∷ bs) (block_of e [] [] ∷ b ∷ bs)) other

joins : (e : Edit) (b : Block) (bs : List Block) → behind e ≡ b.first → in_front e (b ∷ bs) ≡ block_of e b.dropped b.added ∷ bs
joins e b bs is =
    let same : eqb (behind e) b.first ≡ true = grind (arith, nat_tests) in
    ap (λ v. cond v (block_of e b.dropped b.added ∷ bs) (block_of e [] [] ∷ b ∷ bs)) same

front-same : (xs ys zs : List Edit) → blocks_of ys ≡ blocks_of zs → blocks_of (xs ++ ys) ≡ blocks_of (xs ++ zs)
front-same [] ys zs e = e
front-same (x ∷ xs) ys zs e = blocks-cons x (xs ++ ys) ∙ ap (in_front x) (front-same xs ys zs e) ∙ sym (blocks-cons x (xs ++ zs))

-- ---- the edits of a block, the dropped lines first

abbrev drops : ℕ → List (List ℕ) → List Edit
drops at [] = []
drops at (l ∷ ls) = drop_at at l ∷ drops (at + 1) ls

abbrev adds : ℕ → List (List ℕ) → List Edit
adds at ls = map (add_at at) ls

abbrev block_edits : Block → List Edit
block_edits b = drops b.first b.dropped ++ adds (b.first + length b.dropped) b.added

adds-block : (q : ℕ) (x : List ℕ) (ls : List (List ℕ)) (rest : List Edit) (bs : List Block) → blocks_of rest ≡ bs → Apart q bs → blocks_of (adds q (x ∷ ls) ++ rest) ≡ block_at q [] (x ∷ ls) ∷ bs
adds-block q x [] rest bs e apart = blocks-cons (add_at q x) rest ∙ ap (in_front (add_at q x)) e ∙ fresh (add_at q x) bs apart
adds-block q x (y ∷ ls) rest bs e apart = blocks-cons (add_at q x) (adds q (y ∷ ls) ++ rest) ∙ ap (in_front (add_at q x)) (adds-block q y ls rest bs e apart) ∙ joins (add_at q x) (block_at q [] (y ∷ ls)) bs refl

one-block : (at q : ℕ) (ds ls : List (List ℕ)) (rest : List Edit) (bs : List Block) → q ≡ at + length ds → 1 ≤ length ds + length ls → blocks_of rest ≡ bs → Apart q bs → blocks_of ((drops at ds ++ adds q ls) ++ rest) ≡ block_at at ds ls ∷ bs
one-block at q [] [] rest bs is some e apart = absurd (omega (arith, some))
one-block at q [] (x ∷ ls) rest bs is some e apart = let same : q ≡ at = omega (arith, is) in adds-block q x ls rest bs e apart ∙ ap (λ n. block_at n [] (x ∷ ls) ∷ bs) same
one-block at q (l ∷ []) [] rest bs is some e apart =
    blocks-cons (drop_at at l) rest ∙ ap (in_front (drop_at at l)) e ∙ fresh (drop_at at l) bs (subst (λ n. Apart n bs) is apart)
one-block at q (l ∷ []) (x ∷ ls) rest bs is some e apart =
    blocks-cons (drop_at at l) (adds q (x ∷ ls) ++ rest) ∙ ap (in_front (drop_at at l)) (one-block (at + 1) q [] (x ∷ ls) rest bs (omega (arith, is)) (omega arith) e apart) ∙ joins (drop_at at l) (block_at (at + 1) [] (x ∷ ls)) bs refl
one-block at q (l ∷ d ∷ ds) ls rest bs is some e apart =
    blocks-cons (drop_at at l) ((drops (at + 1) (d ∷ ds) ++ adds q ls) ++ rest) ∙ ap (in_front (drop_at at l)) (one-block (at + 1) q (d ∷ ds) ls rest bs (omega (arith, is)) (omega arith) e apart) ∙ joins (drop_at at l) (block_at (at + 1) (d ∷ ds) ls) bs refl

-- blocks that stand apart are those of their edits
rebuilt : (end : ℕ) (bs : List Block) → Apart end bs → AllByRecursion IsSome bs → blocks_of (flat_map block_edits bs) ≡ bs
unfolding blocks_of
rebuilt end [] apart all = refl
rebuilt end (b ∷ bs) apart all = one-block b.first (b.first + length b.dropped) b.dropped b.added (flat_map block_edits bs) bs refl all.0.some (rebuilt (b.first + length b.dropped) bs apart.1 all.1) apart.1

-- ---- the context form: added lines wait for the end of their stretch

one-swap : (at : ℕ) (w l : List ℕ) (es : List Edit) → blocks_of (add_at at w ∷ drop_at at l ∷ es) ≡ blocks_of (drop_at at l ∷ add_at (at + 1) w ∷ es)
one-swap at w l es =
    blocks-cons (add_at at w) (drop_at at l ∷ es) ∙ ap (in_front (add_at at w)) (blocks-cons (drop_at at l) es)
    ∙ by (blocks_of es)
    ∙ sym (blocks-cons (drop_at at l) (add_at (at + 1) w ∷ es) ∙ ap (in_front (drop_at at l)) (blocks-cons (add_at (at + 1) w) es))
  where
    by : (bs : List Block) → in_front (add_at at w) (in_front (drop_at at l) bs) ≡ in_front (drop_at at l) (in_front (add_at (at + 1) w) bs)
    by [] = joins (add_at at w) (block_at at (l ∷ []) []) [] refl ∙ sym (joins (drop_at at l) (block_at (at + 1) [] (w ∷ [])) [] refl)
    by (b ∷ bs) = on (eqb (at + 1) b.first)
      where
        on : (v : Bool) → in_front (add_at at w) (cond v (block_at at (l ∷ b.dropped) b.added ∷ bs) (block_at at (l ∷ []) [] ∷ b ∷ bs)) ≡ in_front (drop_at at l) (cond v (block_at (at + 1) b.dropped (w ∷ b.added) ∷ bs) (block_at (at + 1) [] (w ∷ []) ∷ b ∷ bs))
        on true = joins (add_at at w) (block_at at (l ∷ b.dropped) b.added) bs refl ∙ sym (joins (drop_at at l) (block_at (at + 1) b.dropped (w ∷ b.added)) bs refl)
        on false = joins (add_at at w) (block_at at (l ∷ []) []) (b ∷ bs) refl ∙ sym (joins (drop_at at l) (block_at (at + 1) [] (w ∷ [])) (b ∷ bs) refl)

-- a dropped line comes in front of the added ones
swap : (at : ℕ) (ws : List (List ℕ)) (l : List ℕ) (es : List Edit) → blocks_of (adds at ws ++ drop_at at l ∷ es) ≡ blocks_of (drop_at at l ∷ (adds (at + 1) ws ++ es))
swap at [] l es = refl
swap at (w ∷ ws) l es =
    blocks-cons (add_at at w) (adds at ws ++ drop_at at l ∷ es)
    ∙ ap (in_front (add_at at w)) (swap at ws l es)
    ∙ sym (blocks-cons (add_at at w) (drop_at at l ∷ (adds (at + 1) ws ++ es)))
    ∙ one-swap at w l (adds (at + 1) ws ++ es)

abbrev waiting : List (List ℕ) → List Marked
waiting ws = on_side Reversed ws

body-adds : (at : ℕ) (ws : List (List ℕ)) (ms : List Marked) → body_edits at (waiting ws ++ ms) ≡ adds at ws ++ body_edits at ms
body-adds at [] ms = refl
body-adds at (w ∷ ws) ms = edits-mark at (record { mark = Add; line = w }) (waiting ws ++ ms) ∙ ap (λ es. add_at at w ∷ es) (body-adds at ws ms)

waits-more : (ws : List (List ℕ)) (w : List ℕ) → waiting ws ++ (record { mark = Add; line = w }) ∷ [] ≡ waiting (ws ++ w ∷ [])
waits-more [] w = refl
waits-more (x ∷ ws) w = ap (λ ms. (record { mark = Add; line = x }) ∷ ms) (waits-more ws w)

adds-more : (at : ℕ) (ws : List (List ℕ)) (w : List ℕ) (es : List Edit) → adds at (ws ++ w ∷ []) ++ es ≡ adds at ws ++ add_at at w ∷ es
adds-more at [] w es = refl
adds-more at (x ∷ ws) w es = ap (λ ys. add_at at x ∷ ys) (adds-more at ws w es)

sorted-same : (at : ℕ) (ws : List (List ℕ)) (body : List Marked) (rest : List Edit) → blocks_of (body_edits at (drops_before (waiting ws) body) ++ rest) ≡ blocks_of (adds at ws ++ (body_edits at body ++ rest))
unfolding drops_before
sorted-same at ws [] rest =
    ap (λ ms. blocks_of (body_edits at ms ++ rest)) (sym (append-nil (waiting ws)))
    ∙ ap (λ es. blocks_of (es ++ rest)) (body-adds at ws [])
    ∙ ap blocks_of (append_assoc (adds at ws) (body_edits at []) rest)
sorted-same at ws (m ∷ body) rest =
    by m.mark (λ next vs. sorted-same next vs body rest)
    ∙ ap (λ es. blocks_of (adds at ws ++ (es ++ rest))) (sym (edits-mark at m body))
  where
    by : (k : Mark) → ((next : ℕ) (vs : List (List ℕ)) → blocks_of (body_edits next (drops_before (waiting vs) body) ++ rest) ≡ blocks_of (adds next vs ++ (body_edits next body ++ rest)))
        → blocks_of (body_edits at (drops_before (waiting ws) ((record { mark = k; line = m.line }) ∷ body)) ++ rest) ≡ blocks_of (adds at ws ++ (marked_edits k at m.line (λ next. body_edits next body) ++ rest))
    by Keep again =
        let kept : Marked = record { mark = Keep; line = m.line } in
        ap (λ es. blocks_of (es ++ rest)) (body-adds at ws (kept ∷ drops_before [] body) ∙ ap (λ es. adds at ws ++ es) (edits-mark at kept (drops_before [] body)))
        ∙ ap blocks_of (append_assoc (adds at ws) (body_edits (at + 1) (drops_before [] body)) rest)
        ∙ front-same (adds at ws) (body_edits (at + 1) (drops_before [] body) ++ rest) (body_edits (at + 1) body ++ rest) (again (at + 1) [])
    by Drop again =
        let gone : Marked = record { mark = Drop; line = m.line } in
        ap (λ es. blocks_of (es ++ rest)) (edits-mark at gone (drops_before (waiting ws) body))
        ∙ front-same (drop_at at m.line ∷ []) (body_edits (at + 1) (drops_before (waiting ws) body) ++ rest) (adds (at + 1) ws ++ (body_edits (at + 1) body ++ rest)) (again (at + 1) ws)
        ∙ sym (swap at ws m.line (body_edits (at + 1) body ++ rest))
    by Add again =
        ap (λ ms. blocks_of (body_edits at (drops_before ms body) ++ rest)) (waits-more ws m.line)
        ∙ again at (ws ++ m.line ∷ [])
        ∙ ap blocks_of (adds-more at ws m.line (body_edits at body ++ rest))

ordered-base : (h : PlainHunk) → base (in_order h) ≡ base h
ordered-base h = ap (λ ms. cond (eqb (length (map (λ (m : Marked). m.line) ms)) 0) (h.old_start + 1) h.old_start) (context-shown h).olds

ordered-same : (hs : List PlainHunk) → blocks_of (hunk_edits (map in_order hs)) ≡ blocks_of (hunk_edits hs)
ordered-same [] = refl
ordered-same (h ∷ hs) =
    ap (λ n. blocks_of (body_edits n (drops_before [] h.body) ++ hunk_edits (map in_order hs))) (ordered-base h)
    ∙ sorted-same (base h) [] h.body (hunk_edits (map in_order hs))
    ∙ front-same (body_edits (base h) h.body) (hunk_edits (map in_order hs)) (hunk_edits hs) (ordered-same hs)

-- ---- normal commands

body-block : (at : ℕ) (ds ls : List (List ℕ)) → body_edits at (on_side Forward ds ++ on_side Reversed ls) ≡ drops at ds ++ adds (at + length ds) ls
body-block at [] ls =
    let none : at ≡ at + 0 = omega arith in
    ap (body_edits at) (sym (append-nil (waiting ls))) ∙ body-adds at ls [] ∙ ap (λ es. adds at ls ++ es) (edits-none at) ∙ append-nil (adds at ls) ∙ ap (λ n. adds n ls) none
body-block at (d ∷ ds) ls =
    let next : at + 1 + length ds ≡ at + suc (length ds) = omega arith in
    edits-mark at (record { mark = Drop; line = d }) (on_side Forward ds ++ on_side Reversed ls)
    ∙ ap (λ es. drop_at at d ∷ es) (body-block (at + 1) ds ls ∙ ap (λ n. drops (at + 1) ds ++ adds n ls) next)

block-base : (more less : ℕ) (b : Block) → 1 ≤ b.first → base (block_hunk more less b) ≡ b.first
block-base more less b low =
    ap (λ (ls : List (List ℕ)). cond (eqb (length ls) 0) (range_start b.first (length b.dropped) + 1) (range_start b.first (length b.dropped))) (old-lines-are b.dropped b.added)
    ∙ by (eqb (length b.dropped) 0)
  where
    by : (v : Bool) → cond v (cond v (b.first - 1) b.first + 1) (cond v (b.first - 1) b.first) ≡ b.first
    by true = omega (arith, low)
    by false = refl

commands-same : (more less end : ℕ) (bs : List Block) → Apart end bs → hunk_edits (block_hunks more less bs) ≡ flat_map block_edits bs
commands-same more less end [] apart = ap hunk_edits (hunks-none more less)
commands-same more less end (b ∷ bs) apart =
    let low : 1 ≤ b.first = let behind : end < b.first = apart.0 in omega (arith, behind) in
    ap hunk_edits (hunks-cons more less b bs)
    ∙ ap (λ n. body_edits n (on_side Forward b.dropped ++ on_side Reversed b.added) ++ hunk_edits (block_hunks (more + length b.added) (less + length b.dropped) bs)) (block-base more less b low)
    ∙ ap (λ es. es ++ hunk_edits (block_hunks (more + length b.added) (less + length b.dropped) bs)) (body-block b.first b.dropped b.added)
    ∙ ap (λ es. block_edits b ++ es) (commands-same (more + length b.added) (less + length b.dropped) (b.first + length b.dropped) bs apart.1)

normal-same : (bs : List Block) → Apart 0 bs → AllByRecursion IsSome bs → blocks_in (hunks (block_hunks 0 0 bs)) ≡ bs
normal-same bs apart some = ap blocks_of (commands-same 0 0 0 bs apart) ∙ rebuilt 0 bs apart some

-- ---- a script, which doesn't say what it drops

abbrev blank : List (List ℕ) → List (List ℕ)
blank ls = map (λ (l : List ℕ). []) ls

abbrev blanked : Block → Block
blanked b = record { first = b.first; dropped = blank b.dropped; added = b.added }

blank-drops : (at : ℕ) (ls : List (List ℕ)) → drops_from at (length ls) ≡ drops at (blank ls)
blank-drops at [] = drops-none at
blank-drops at (l ∷ ls) = drops-more at (length ls) ∙ ap (λ es. drop_at at [] ∷ es) (blank-drops (at + 1) ls)

blank-long : (ls : List (List ℕ)) → length (blank ls) ≡ length ls
blank-long ls = length-map ls (λ (l : List ℕ). [])

command-same : (b : Block) → 1 ≤ b.first → command_edits (change_of_block b) ≡ block_edits (blanked b)
command-same b low =
    let count : drop_count (change_of_block b) ≡ length b.dropped = omega (arith, low) in
    let gap : b.first + length b.dropped - 1 + 1 ≡ b.first + length (blank b.dropped) = omega (arith, low, blank-long b.dropped) in
    ap (λ n. drops_from b.first n ++ adds (b.first + length b.dropped - 1 + 1) b.added) count
    ∙ ap (λ es. es ++ adds (b.first + length b.dropped - 1 + 1) b.added) (blank-drops b.first b.dropped)
    ∙ ap (λ n. drops b.first (blank b.dropped) ++ adds n b.added) gap

edits-same : (end : ℕ) (bs : List Block) → Apart end bs → flat_map command_edits (map change_of_block bs) ≡ flat_map block_edits (map blanked bs)
edits-same end [] apart = refl
edits-same end (b ∷ bs) apart =
    let low : 1 ≤ b.first = let behind : end < b.first = apart.0 in omega (arith, behind) in
    ap (λ es. es ++ flat_map command_edits (map change_of_block bs)) (command-same b low)
    ∙ ap (λ es. block_edits (blanked b) ++ es) (edits-same (b.first + length b.dropped) bs apart.1)

blank-apart : (end : ℕ) (bs : List Block) → Apart end bs → Apart end (map blanked bs)
blank-apart end [] apart = tt
blank-apart end (b ∷ bs) apart = (apart.0, subst (λ n. Apart (b.first + n) (map blanked bs)) (sym (blank-long b.dropped)) (blank-apart (b.first + length b.dropped) bs apart.1))

blank-some : (bs : List Block) → AllByRecursion IsSome bs → AllByRecursion IsSome (map blanked bs)
blank-some [] all = tt
blank-some (b ∷ bs) all = (record { some = omega (arith, all.0.some, blank-long b.dropped) }, blank-some bs all.1)

blank-changes : (bs : List Block) → map change_of_block (map blanked bs) ≡ map change_of_block bs
blank-changes [] = refl
blank-changes (b ∷ bs) =
    ap (λ n. (let e : PlainEdit = record { first = b.first; last = b.first + n - 1; added = b.added } in e) ∷ map change_of_block (map blanked bs)) (blank-long b.dropped)
    ∙ ap (λ es. change_of_block b ∷ es) (blank-changes bs)

ed-same : (bs : List Block) → Apart 0 bs → AllByRecursion IsSome bs → changes (script (reverse (map change_of_block bs))) ≡ map change_of_block bs
ed-same bs apart some =
    ap (λ es. map change_of_block (blocks_of (flat_map command_edits es))) (reverse-reverse (map change_of_block bs))
    ∙ ap (λ es. map change_of_block (blocks_of es)) (edits-same 0 bs apart)
    ∙ ap (map change_of_block) (rebuilt 0 (map blanked bs) (blank-apart 0 bs apart) (blank-some bs some))
    ∙ blank-changes bs

-- ---- a change in a form

hunks-apart : (form : Form) (hs : List PlainHunk) → AllByRecursion IsGood hs → is_unfit form (hunks hs) ≡ false → Apart 0 (blocks_in (hunks hs))
hunks-apart form hs good fits = let falls = or_parts (falls_back hs) (has_open_line form hs || has_large_command form (blocks_in (hunks hs))) fits in blocks-apart (hunk_edits hs) (edits-climb hs good falls.0)

pub hunks-changes : (form : Form) (hs : List PlainHunk) → AllByRecursion IsGood hs → (not (shows_context form) && is_unfit form (hunks hs)) ≡ false → changes (change_again form (hunks hs)) ≡ changes (hunks hs)
hunks-changes Unified hs good fits = refl
hunks-changes Context hs good fits = ap (map change_of_block) (ordered-same hs)
hunks-changes Normal hs good fits = ap (map change_of_block) (normal-same (blocks_in (hunks hs)) (hunks-apart Normal hs good fits) (blocks-some (hunk_edits hs)))
hunks-changes Ed hs good fits = ed-same (blocks_in (hunks hs)) (hunks-apart Ed hs good fits) (blocks-some (hunk_edits hs))

pub script-changes : (form from : Form) (es : List PlainEdit) → AreLawful (2 ^ 32) es → change_lacks form from (script es) ≡ false → changes (change_again form (script es)) ≡ changes (script es)
script-changes Unified from es l lacks = refl
script-changes Context from es l lacks = refl
script-changes Normal from es l lacks = absurd cc
script-changes Ed from es l lacks = ed-same (blocks_in (script es)) (script-apart es l) (blocks-some (script_edits es))
