-- Blocks that are written as an ed script are read again.
use Rattle.std.proofs.Common.{◌≡◌, ℕ, zero, suc, ◌+◌, ◌-◌, ◌<◌, ◌≤◌, ◌^◌, Bool, true, false, not, eqb, ◌||◌, ◌&&◌, List, [], ◌∷◌, ◌++◌, length, map, reverse, take, append_assoc, refl, sym, ap, subst, ◌∙◌, arith}
use Rattle.std.specs.Prelude.{All, min, nat_lt}
use Rattle.std.specs.List.{AllByRecursion, flat_map, list_any}
use Rattle.std.proofs.lemmas.Bool.Decides.{nat_tests}
use Rattle.std.proofs.lemmas.Grind.{flat_map-append}
use Rattle.std.proofs.lemmas.List.{append-nil, length-reverse, reverse-append}
use Rattle.std.proofs.lemmas.Bool.{or_parts}
use Rattle.line_list.specs.Lines.{IsLine}
use Rattle.line_list.proofs.Pieces.{joined}
use Rattle.line_list.proofs.WholeLines.{lines-both, NoFeed}
use Rattle.hunk_core.specs.declared.Form.{Form}
use Rattle.hunk_core.specs.declared.Form.TheVariants.{Unified, Context, Normal, Ed}
use Rattle.hunk_core.specs.declared.Side.TheVariants.{Forward, Reversed}
use Rattle.hunk_core.specs.LineTests.{ends_line}
use Rattle.hunk_core.specs.PlainHunk.{PlainHunk}
use Rattle.hunk_core.specs.Rules.{lacks_inner_end}
use Rattle.normal_form.specs.Canonical.{action_for}
use Rattle.ed_form.specs.Grammar.{SpellsCommand, SpellsEdit, SpellsEdits, begins_append}
use Rattle.ed_form.specs.PlainEdit.{AreLawful, IsLawfulEdit, PlainEdit, lowest}
use Rattle.ed_form.proofs.CommandGrammar.{heading_is, opening-again, opening-is}
use Rattle.patch_header.specs.declared.read_options.ReadOptions.{ReadOptions}
use Rattle.read_file_patch.specs.PlainPatch.{PlainChange, hunks, script}
use Rattle.law_reading.proofs.HeaderLines.{all-reverse}
use Rattle.law_reading.proofs.Scripts.{script-begins}
use Rattle.format_convert.specs.Blocks.{Block, Edit, add_at, blocks_in, blocks_of, change_of_block, command_edits, drop_count, drops_from, hunk_edits, script_edits}
use Rattle.format_convert.specs.Commands.{command_text, ed_command, ed_head}
use Rattle.format_convert.specs.Fitting.{changed_lines, falls_back, has_open, is_large_ed, is_unfit}
use Rattle.format_convert.specs.Fronts.{line_on}
use Rattle.format_convert.proofs.ScriptLemmas.{drops-more, drops-none}
use Rattle.format_convert.specs.Refusals.{change_lacks, shows_context}
use Rattle.format_convert.specs.Converted.{change_text, is_written}
use Rattle.law_reading.proofs.Feeds.{NoInner}
use Rattle.law_reading.proofs.Hunks.{IsGood}
use Rattle.hunk_core.proofs.TurnedLemmas.{reverse-map}
use Rattle.law_filters.proofs.Blocks.{Apart, Climbs, IsSome, blocks-apart, blocks-lines, blocks-some, climbs-less, edits-climb, holds-each, lines_by}
use Rattle.law_filters.proofs.EdText.{added-spelled, command-appends, head-line, head-spelled, text-joined, text-whole, text_rows}
use Rattle.law_filters.proofs.NormalBody.{block-lines, changed-clean}
use Rattle.law_filters.proofs.Shown.{Body}

-- ---- the lines of commands

abbrev head_row : Block → List ℕ
head_row b = ed_head b.first (length b.dropped) (length b.added)

abbrev command_rows : Block → List (List ℕ)
command_rows b = head_row b ∷ text_rows b.added

-- a block that is a lawful command
record IsCommand (b : Block) : Type 0 where
  some : IsSome b
  first : 1 ≤ b.first
  small : is_large_ed b ≡ false
  whole : AllByRecursion IsLine b.added

commands-joined : (bs : List Block) → flat_map ed_command bs ≡ joined (flat_map command_rows bs)
commands-joined [] = refl
commands-joined (b ∷ bs) =
    ap (λ x. (head_row b ++ x) ++ flat_map ed_command bs) (text-joined b.added)
    ∙ ap (λ x. joined (command_rows b) ++ x) (commands-joined bs)
    ∙ sym (flat_map-append (λ (l : List ℕ). l) (command_rows b) (flat_map command_rows bs))

commands-whole : (bs : List Block) → AllByRecursion IsCommand bs → AllByRecursion IsLine (flat_map command_rows bs)
commands-whole [] all = tt
commands-whole (b ∷ bs) all = lines-both (command_rows b) (flat_map command_rows bs) (head-line b.first (length b.dropped) (length b.added), text-whole b.added all.0.whole) (commands-whole bs all.1)

-- ---- where they stand, from the last one

abbrev Falls : ℕ → List Block → ℕ → Type 0
Falls above [] end = end < above
Falls above (b ∷ bs) end = (b.first + length b.dropped < above) × Falls b.first bs end

falls-push : (above : ℕ) (bs : List Block) (b : Block) (end : ℕ) → Falls above bs (b.first + length b.dropped) → end < b.first → Falls above (bs ++ b ∷ []) end
falls-push above [] b end f low = (f, low)
falls-push above (a ∷ bs) b end f low = (f.0, falls-push a.first bs b end f.1 low)

end_of : ℕ → List Block → ℕ
end_of end [] = end
end_of end (b ∷ bs) = end_of (b.first + length b.dropped) bs

reversed-falls : (end : ℕ) (bs : List Block) → Apart end bs → Falls (suc (end_of end bs)) (reverse bs) end
unfolding end_of
reversed-falls end [] apart = omega arith
reversed-falls end (b ∷ bs) apart =
    let above : ℕ = suc (end_of (b.first + length b.dropped) bs) in
    subst (λ cs. Falls above cs end) (sym (reverse-append (b ∷ []) bs)) (falls-push above (reverse bs) b end (reversed-falls (b.first + length b.dropped) bs apart.1) apart.0)

-- ---- they are spelled

small-first : (b : Block) → is_large_ed b ≡ false → (b.first < 2 ^ 32) × (b.first + length b.dropped - 1 < 2 ^ 32)
small-first b small =
    let both = or_parts (nat_lt 4294967295 b.first) (nat_lt 4294967295 (b.first + length b.dropped - 1)) small in
    (below b.first both.0, below (b.first + length b.dropped - 1) both.1)
  where
    below : (n : ℕ) → nat_lt 4294967295 n ≡ false → n < 2 ^ 32
    below n e = let le : n ≤ 4294967295 = grind (arith, nat_tests) in omega (arith, le)

command-spelled : (b : Block) → IsCommand b → SpellsCommand (head_row b) (action_for (length b.dropped) (length b.added)) b.first (b.first + length b.dropped - 1)
command-spelled b c = let s = small-first b c.small in head-spelled b.first (length b.dropped) (length b.added) c.first c.some.some s.0 s.1

block-spelled : (below : ℕ) (b : Block) (others : List (List ℕ)) → IsCommand b → b.first + length b.dropped - 1 < below → begins_append others ≡ false → SpellsEdit below (command_rows b) (change_of_block b) others
block-spelled below b others c low quiet = (action_for (length b.dropped) (length b.added), command-spelled b c, low, added-spelled (length b.dropped) b.added others c.some.some c.whole quiet)

quiet-commands : (bs : List Block) → AllByRecursion IsCommand bs → begins_append (flat_map command_rows bs ++ []) ≡ false
quiet-commands [] all = refl
quiet-commands (b ∷ bs) all =
    let s = small-first b all.0.small in
    let action = action_for (length b.dropped) (length b.added) in
    command-appends (head_row b) (opening-is (2 ^ 32) (head_row b) (heading_is action b.first (b.first + length b.dropped - 1)) (opening-again (2 ^ 32) (head_row b) action b.first (b.first + length b.dropped - 1) (command-spelled b all.0) s.1))

-- the last address of the first one is below this number
abbrev LiesBelow : ℕ → List Block → Type 0
LiesBelow below [] = Unit {0}
LiesBelow below (b ∷ bs) = b.first + length b.dropped - 1 < below

lowest-high : (b : Block) → b.first - 1 ≤ lowest (change_of_block b)
lowest-high b = by (length b.dropped)
  where
    by : (d : ℕ) → b.first - 1 ≤ min b.first (b.first + d - 1)
    by d = omega arith

next-below : (b : Block) (bs : List Block) (end : ℕ) → AllByRecursion IsCommand bs → Falls b.first bs end → LiesBelow (lowest (change_of_block b)) bs
next-below b [] end all f = tt
next-below b (c ∷ bs) end all f = let less : c.first + length c.dropped < b.first = f.0 in let low : 1 ≤ c.first = all.0.first in omega (arith, lowest-high b, less, low)

commands-spelled : (below above end : ℕ) (bs : List Block) → AllByRecursion IsCommand bs → LiesBelow below bs → Falls above bs end → SpellsEdits below (flat_map command_rows bs) (map change_of_block bs) []
commands-spelled below above end [] all low f = refl
commands-spelled below above end (b ∷ bs) all low f = (
  command_rows b,
  flat_map command_rows bs,
  refl,
  block-spelled below b (flat_map command_rows bs ++ []) all.0 low (quiet-commands bs all.1),
  commands-spelled (lowest (change_of_block b)) b.first end bs all.1 (next-below b bs end all.1 f.1) f.1,
)

first-below : (bs : List Block) → AllByRecursion IsCommand bs → LiesBelow (2 ^ 32) bs
first-below [] all = tt
first-below (b ∷ bs) all = (small-first b all.0.small).1

-- ---- a script of all blocks

last-first : (bs : List Block) → not (eqb (length bs) 0) ≡ true → (b : Block) × ((cs : List Block) × (reverse bs ≡ b ∷ cs))
last-first bs some = by (reverse bs) refl
  where
    by : (cs : List Block) → reverse bs ≡ cs → (b : Block) × ((ds : List Block) × (reverse bs ≡ b ∷ ds))
    by [] e = absurd (let none : length bs ≡ 0 = sym (length-reverse bs) ∙ ap length e in let bad : not (eqb 0 0) ≡ true = subst (λ n. not (eqb n 0) ≡ true) none some in cc)
    by (b ∷ cs) e = (b, (cs, e))

blocks-body : (ways : ReadOptions) (c : PlainChange) → AllByRecursion IsCommand (blocks_in c) → Apart 0 (blocks_in c) → not (eqb (length (blocks_in c)) 0) ≡ true → Body ways Ed c (command_text Ed c)
blocks-body ways c all apart some =
    let bs : List Block = blocks_in c in
    let own : List (List ℕ) = flat_map command_rows (reverse bs) in
    let back = all-reverse IsCommand bs all in
    let spelled = commands-spelled (2 ^ 32) (suc (end_of 0 bs)) 0 (reverse bs) back (first-below (reverse bs) back) (reversed-falls 0 bs apart) in
    let last = last-first bs some in
    let first : SpellsEdits (2 ^ 32) own (change_of_block last.0 ∷ map change_of_block last.1.0) [] = subst (λ (cs : List Block). SpellsEdits (2 ^ 32) own (map change_of_block cs) []) last.1.1 spelled in
    record {
      body = own;
      whole = commands-whole (reverse bs) back;
      is = commands-joined (reverse bs);
      opens = script-begins ways.only (2 ^ 32) own [] [] (change_of_block last.0) (map change_of_block last.1.0) first;
      spelled = record { own = own; parts = refl; spelled = subst (λ es. SpellsEdits (2 ^ 32) own es []) (sym (reverse-map change_of_block bs)) spelled; ends = (refl, refl); counted = omega arith };
    }

-- ---- the blocks of hunks

any-none : (test : Block → Bool) (bs : List Block) → list_any test bs ≡ false → AllByRecursion (λ b. test b ≡ false) bs
any-none test [] e = tt
any-none test (b ∷ bs) e = let both = or_parts (test b) (list_any test bs) e in (both.0, any-none test bs both.1)

apart-first : (end : ℕ) (bs : List Block) → Apart end bs → AllByRecursion (λ b. 1 ≤ b.first) bs
apart-first end [] apart = tt
apart-first end (b ∷ bs) apart = (omega (arith, apart.0), apart-first (b.first + length b.dropped) bs apart.1)

all-commands : (bs : List Block) → AllByRecursion IsSome bs → AllByRecursion (λ b. 1 ≤ b.first) bs → AllByRecursion (λ b. is_large_ed b ≡ false) bs → AllByRecursion (λ b. AllByRecursion IsLine (lines_by Reversed b)) bs → AllByRecursion IsCommand bs
all-commands [] a b c d = tt
all-commands (x ∷ bs) a b c d = (record { some = a.0; first = b.0; small = c.0; whole = d.0 }, all-commands bs a.1 b.1 c.1 d.1)

whole-line : (line : List ℕ) → NoInner line → ends_line line ≡ true → IsLine line
whole-line [] clean e = absurd (cc)
whole-line (b ∷ []) clean e = grind (arith, nat_tests)
whole-line (b ∷ c ∷ cs) clean e =
    let n : length (b ∷ c ∷ cs) - 1 ≡ suc (length (c ∷ cs) - 1) = omega arith in
    let both = subst (λ k. NoFeed (take k (b ∷ c ∷ cs))) n clean in
    (both.0, whole-line (c ∷ cs) both.1 e)

closed-lines : (ls : List (List ℕ)) → AllByRecursion NoInner ls → has_open ls ≡ false → AllByRecursion IsLine ls
closed-lines [] clean e = tt
closed-lines (l ∷ ls) clean e = let both = or_parts (not (ends_line l)) (has_open ls) e in (whole-line l clean.0 (not-no (ends_line l) both.0), closed-lines ls clean.1 both.1)
  where
    not-no : (v : Bool) → not v ≡ false → v ≡ true
    not-no true e = refl
    not-no false e = absurd cc

pub ed-body : (ways : ReadOptions) (hs : List PlainHunk) → AllByRecursion IsGood hs → is_unfit Ed (hunks hs) ≡ false → not (eqb (length (blocks_in (hunks hs))) 0) ≡ true → Body ways Ed (hunks hs) (command_text Ed (hunks hs))
ed-body ways hs good fits some =
    let bs : List Block = blocks_in (hunks hs) in
    let inner : Bool = lacks_inner_end (changed_lines Forward hs) || lacks_inner_end (changed_lines Reversed hs) in
    let falls = or_parts (falls_back hs) ((has_open (changed_lines Reversed hs) || inner) || list_any is_large_ed bs) fits in
    let opens = or_parts (has_open (changed_lines Reversed hs) || inner) (list_any is_large_ed bs) falls.1 in
    let closed = or_parts (has_open (changed_lines Reversed hs)) inner opens.0 in
    let apart = blocks-apart (hunk_edits hs) (edits-climb hs good falls.0) in
    let lines = closed-lines (changed_lines Reversed hs) (changed-clean Reversed hs good) closed.0 in
    blocks-body ways (hunks hs)
    (all-commands bs (blocks-some (hunk_edits hs)) (apart-first 0 bs apart) (any-none is_large_ed bs opens.1) (holds-each IsLine Reversed bs (subst (AllByRecursion IsLine) (sym (block-lines Reversed hs)) lines)))
    apart some

-- ---- the blocks of a script

drops-climb : (at n : ℕ) (later : List Edit) → Climbs (at + n) later → Climbs at (drops_from at n ++ later)
drops-climb at zero later c = subst (λ es. Climbs at (es ++ later)) (sym (drops-none at)) (climbs-less at (at + 0) later (omega arith) c)
drops-climb at (suc n) later c = subst (λ es. Climbs at (es ++ later)) (sym (drops-more at n)) (omega arith, drops-climb (at + 1) n later (climbs-less (at + 1 + n) (at + suc n) later (omega arith) c))

adds-climb : (at : ℕ) (ls : List (List ℕ)) (later : List Edit) → Climbs at later → Climbs at (map (add_at at) ls ++ later)
adds-climb at [] later c = c
adds-climb at (l ∷ ls) later c = (omega arith, adds-climb at ls later c)

command-climbs : (e : PlainEdit) (later : List Edit) → IsLawfulEdit e → Climbs (e.last + 1) later → Climbs e.first (command_edits e ++ later)
command-climbs e later l c =
    let n : e.first + drop_count e ≡ e.last + 1 = let order : e.first ≤ e.last + 1 = l.order in omega (arith, order) in
    subst (Climbs e.first) (sym (append_assoc (drops_from e.first (drop_count e)) (map (add_at (e.last + 1)) e.added) later))
    (drops-climb e.first (drop_count e) (map (add_at (e.last + 1)) e.added ++ later) (subst (λ q. Climbs q (map (add_at (e.last + 1)) e.added ++ later)) (sym n) (adds-climb (e.last + 1) e.added later c)))

script-more : (e : PlainEdit) (es : List PlainEdit) → script_edits (e ∷ es) ≡ script_edits es ++ command_edits e
script-more e es =
    ap (flat_map command_edits) (reverse-append (e ∷ []) es)
    ∙ flat_map-append command_edits (reverse es) (e ∷ [])
    ∙ ap (λ x. script_edits es ++ x) (append-nil (command_edits e))

lowest-low : (e : PlainEdit) → lowest e ≤ e.first
lowest-low e = omega arith

script-climbs : (below from : ℕ) (es : List PlainEdit) (later : List Edit) → AreLawful below es → below ≤ from → 1 ≤ from → Climbs from later → Climbs 1 (script_edits es ++ later)
script-climbs below from [] later l low some c = climbs-less 1 from later some c
script-climbs below from (e ∷ es) later l low some c =
    let less : e.last < below = l.1 in
    let own = command-climbs e later l.0 (climbs-less (e.last + 1) from later (omega (arith, less, low)) c) in
    subst (Climbs 1) (sym (ap (λ x. x ++ later) (script-more e es) ∙ append_assoc (script_edits es) (command_edits e) later))
    (script-climbs (lowest e) e.first es (command_edits e ++ later) l.2 (lowest-low e) l.0.start own)

pub all-by : {A : Type 0} (P : A → Type 0) (xs : List A) → All P xs → AllByRecursion P xs
all-by P [] all = tt
all-by P (x ∷ xs) all = (all 0 x (omega arith), all-by P xs (λ k d lt. all (suc k) d (omega (arith, lt))))

no-adds : (at n : ℕ) → flat_map (line_on Reversed) (drops_from at n) ≡ []
no-adds at zero = ap (flat_map (line_on Reversed)) (drops-none at)
no-adds at (suc n) = ap (flat_map (line_on Reversed)) (drops-more at n) ∙ no-adds (at + 1) n

adds-are : (at : ℕ) (ls : List (List ℕ)) → flat_map (line_on Reversed) (map (add_at at) ls) ≡ ls
adds-are at [] = refl
adds-are at (l ∷ ls) = ap (λ x. l ∷ x) (adds-are at ls)

command-adds : (e : PlainEdit) → flat_map (line_on Reversed) (command_edits e) ≡ e.added
command-adds e =
    flat_map-append (line_on Reversed) (drops_from e.first (drop_count e)) (map (add_at (e.last + 1)) e.added)
    ∙ ap (λ x. x ++ flat_map (line_on Reversed) (map (add_at (e.last + 1)) e.added)) (no-adds e.first (drop_count e))
    ∙ adds-are (e.last + 1) e.added

script-whole : (below : ℕ) (es : List PlainEdit) → AreLawful below es → AllByRecursion IsLine (flat_map (line_on Reversed) (script_edits es))
script-whole below [] l = tt
script-whole below (e ∷ es) l =
    subst (AllByRecursion IsLine)
    (sym (ap (flat_map (line_on Reversed)) (script-more e es) ∙ flat_map-append (line_on Reversed) (script_edits es) (command_edits e) ∙ ap (λ x. flat_map (line_on Reversed) (script_edits es) ++ x) (command-adds e)))
    (lines-both (flat_map (line_on Reversed) (script_edits es)) e.added (script-whole (lowest e) es l.2) (all-by IsLine e.added l.0.added))

pub script-apart : (es : List PlainEdit) → AreLawful (2 ^ 32) es → Apart 0 (blocks_of (script_edits es))
script-apart es l = blocks-apart (script_edits es) (subst (Climbs 1) (append-nil (script_edits es)) (script-climbs (2 ^ 32) (2 ^ 32) es [] l (omega arith) (omega arith) tt))

pub script-body : (ways : ReadOptions) (form from : Form) (are : List Bool) (pieces : List (List ℕ)) (es : List PlainEdit) → AreLawful (2 ^ 32) es → change_lacks form from (script es) ≡ false → (not (shows_context form) && is_unfit form (script es)) ≡ false → is_written form (script es) ≡ true → Body ways form (script es) (change_text form from are pieces (script es))
script-body ways Unified from are pieces es l lacks fits written = absurd cc
script-body ways Context from are pieces es l lacks fits written = absurd cc
script-body ways Normal from are pieces es l lacks fits written = absurd cc
script-body ways Ed from are pieces es l lacks fits written =
    let bs : List Block = blocks_in (script es) in
    let apart = script-apart es l in
    blocks-body ways (script es)
    (all-commands bs (blocks-some (script_edits es)) (apart-first 0 bs apart) (any-none is_large_ed bs fits) (holds-each IsLine Reversed bs (subst (AllByRecursion IsLine) (sym (blocks-lines Reversed (script_edits es))) (script-whole (2 ^ 32) es l))))
    apart written
