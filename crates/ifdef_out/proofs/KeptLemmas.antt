-- The written lines by whose they are.
use Rattle.std.proofs.Common.{◌≡◌, ℕ, suc, ◌+◌, ◌-◌, ◌^◌, List, [], ◌∷◌, ◌++◌, length, map, filter, flat_map, Bool, true, false, cond, refl, sym, ap, ◌∙◌, arith, append_assoc}
use Rattle.std.specs.Prelude.{pos}
use Rattle.std.specs.List.{range_with_len}
use Rattle.std.proofs.lemmas.List.{append-nil, map-append, get_or_at, length-append}
use Rattle.std.proofs.lemmas.List.Elements.{filter-append}
use Rattle.std.proofs.lemmas.List.Concat.{flat_map-cons}
use Rattle.line_store.specs.Store.{line_at}
use Rattle.line_list.specs.Join.{join}
use Rattle.hunk_core.specs.declared.Mark.{Mark}
use Rattle.hunk_core.specs.declared.Mark.TheVariants.{Keep, Drop, Add}
use Rattle.hunk_core.specs.declared.Side.{Side}
use Rattle.hunk_core.specs.declared.Side.TheVariants.{Forward, Reversed}
use Rattle.hunk_core.specs.PlainHunk.{Marked, PlainHunk, lines_on, old_lines, new_lines}
use Rattle.hunk_core.specs.Sides.{is_on_side}
use Rattle.hunk_core.specs.Turned.{turned}
use Rattle.hunk_place.specs.Order.{from_to}
use Rattle.hunk_place.specs.Verdicts.{at_start}
use Rattle.read_file_patch.specs.PlainPatch.{hunks, script}
use Rattle.ed_form.specs.PlainEdit.{PlainEdit, AreLawful}
use Rattle.hunk_core.specs.declared.Verdict.TheVariants.{Nowhere, At}
use Rattle.hunk_apply.specs.Applied.{applied}
use Rattle.hunk_apply.specs.Script.{scripted, reaches_behind, first_address, script_lines, script_verdict}
use Rattle.hunk_apply.proofs.ScriptLemmas.{ends-within}
use Rattle.ifdef_out.proofs.ScriptMade.{script-made, unchanged}
use Rattle.hunk_apply.specs.Change.{change_output, change_verdicts}
use Rattle.hunk_apply.specs.Splice.{Edit, gap, is_dropped, row, spliced}
use Rattle.ifdef_out.specs.Whole.{added, file_line, file_mark, whole_row, whole_from, whole}
use Rattle.ifdef_out.specs.Tagged.{Both, Old, New, Marking, Tagged, as_tag, block, closed, else_mark, endif_line, opening, tagged, tagged_behind, texts, is_old, is_new, old_of, new_of}
use Rattle.ifdef_out.specs.Placed.{carried_edits, change_edits, script_edits}
use Rattle.ifdef_out.proofs.PlacedLemmas.{placed-are}
use Rattle.ifdef_out.proofs.TaggedLemmas.{tagged-none, tagged-kept, tagged-dropped, tagged-added, texts-append}

old-append : (ts us : List Tagged) → old_of (ts ++ us) ≡ old_of ts ++ old_of us
old-append ts us = ap texts (filter-append (λ t. is_old t.tag) ts us) ∙ texts-append (filter (λ t. is_old t.tag) ts) (filter (λ t. is_old t.tag) us)

new-append : (ts us : List Tagged) → new_of (ts ++ us) ≡ new_of ts ++ new_of us
new-append ts us = ap texts (filter-append (λ t. is_new t.tag) ts us) ∙ texts-append (filter (λ t. is_new t.tag) ts) (filter (λ t. is_new t.tag) us)

old-old : (ls : List (List ℕ)) → old_of (map (as_tag Old) ls) ≡ ls
old-old [] = refl
old-old (l ∷ ls) = ap (λ r. l ∷ r) (old-old ls)

old-new : (ls : List (List ℕ)) → old_of (map (as_tag New) ls) ≡ []
old-new [] = refl
old-new (l ∷ ls) = old-new ls

new-old : (ls : List (List ℕ)) → new_of (map (as_tag Old) ls) ≡ []
new-old [] = refl
new-old (l ∷ ls) = new-old ls

new-new : (ls : List (List ℕ)) → new_of (map (as_tag New) ls) ≡ ls
new-new [] = refl
new-new (l ∷ ls) = ap (λ r. l ∷ r) (new-new ls)

-- the added lines of a block, and its end
old-rest : (ns : List (List ℕ)) → old_of (map (as_tag New) ns ++ as_tag Marking endif_line ∷ []) ≡ []
old-rest ns = old-append (map (as_tag New) ns) (as_tag Marking endif_line ∷ []) ∙ append-nil (old_of (map (as_tag New) ns)) ∙ old-new ns

new-rest : (ns : List (List ℕ)) → new_of (map (as_tag New) ns ++ as_tag Marking endif_line ∷ []) ≡ ns
new-rest ns = new-append (map (as_tag New) ns) (as_tag Marking endif_line ∷ []) ∙ append-nil (new_of (map (as_tag New) ns)) ∙ new-new ns

else-old : (ns : List (List ℕ)) → old_of (else_mark ns) ≡ []
else-old [] = refl
else-old (n ∷ ns) = refl

else-new : (ns : List (List ℕ)) → new_of (else_mark ns) ≡ []
else-new [] = refl
else-new (n ∷ ns) = refl

opening-old : (name : List ℕ) (ds ns : List (List ℕ)) → old_of (opening name ds ns) ≡ ds
opening-old name [] ns = refl
opening-old name (d ∷ ds) ns = old-append (map (as_tag Old) (d ∷ ds)) (else_mark ns) ∙ ap (λ r. old_of (map (as_tag Old) (d ∷ ds)) ++ r) (else-old ns) ∙ append-nil (old_of (map (as_tag Old) (d ∷ ds))) ∙ old-old (d ∷ ds)

opening-new : (name : List ℕ) (ds ns : List (List ℕ)) → new_of (opening name ds ns) ≡ []
opening-new name [] ns = refl
opening-new name (d ∷ ds) ns = new-append (map (as_tag Old) (d ∷ ds)) (else_mark ns) ∙ ap (λ r. new_of (map (as_tag Old) (d ∷ ds)) ++ r) (else-new ns) ∙ append-nil (new_of (map (as_tag Old) (d ∷ ds))) ∙ new-old (d ∷ ds)

closed-old : (name : List ℕ) (ds ns : List (List ℕ)) → old_of (closed name ds ns) ≡ ds
closed-old name ds ns = old-append (opening name ds ns) (map (as_tag New) ns ++ as_tag Marking endif_line ∷ []) ∙ ap (λ r. old_of (opening name ds ns) ++ r) (old-rest ns) ∙ append-nil (old_of (opening name ds ns)) ∙ opening-old name ds ns

closed-new : (name : List ℕ) (ds ns : List (List ℕ)) → new_of (closed name ds ns) ≡ ns
closed-new name ds ns = new-append (opening name ds ns) (map (as_tag New) ns ++ as_tag Marking endif_line ∷ []) ∙ ap (λ r. r ++ new_of (map (as_tag New) ns ++ as_tag Marking endif_line ∷ [])) (opening-new name ds ns) ∙ new-rest ns

block-old : (name : List ℕ) (ds ns : List (List ℕ)) → old_of (block name ds ns) ≡ ds
block-old name [] [] = refl
block-old name [] (n ∷ ns) = closed-old name [] (n ∷ ns)
block-old name (d ∷ ds) ns = closed-old name (d ∷ ds) ns

block-new : (name : List ℕ) (ds ns : List (List ℕ)) → new_of (block name ds ns) ≡ ns
block-new name [] [] = refl
block-new name [] (n ∷ ns) = closed-new name [] (n ∷ ns)
block-new name (d ∷ ds) ns = closed-new name (d ∷ ds) ns

-- the old lines of a body
behind-old : (name : List ℕ) (ds ns : List (List ℕ)) (ms : List Marked) → old_of (tagged_behind name ds ns ms) ≡ ds ++ old_lines ms
behind-old name ds ns [] = ap old_of (tagged-none name ds ns) ∙ block-old name ds ns ∙ sym (append-nil ds)
behind-old name ds ns (m ∷ ms) = by m.mark (behind-old name [] [] ms) (behind-old name (ds ++ m.line ∷ []) ns ms) (behind-old name ds (ns ++ m.line ∷ []) ms)
  where
    by : (k : Mark) → old_of (tagged_behind name [] [] ms) ≡ old_lines ms → old_of (tagged_behind name (ds ++ m.line ∷ []) ns ms) ≡ (ds ++ m.line ∷ []) ++ old_lines ms → old_of (tagged_behind name ds (ns ++ m.line ∷ []) ms) ≡ ds ++ old_lines ms
        → let y : Marked = record { mark = k; line = m.line } in old_of (tagged_behind name ds ns (y ∷ ms)) ≡ ds ++ old_lines (y ∷ ms)
    by Keep here dropped added =
        ap old_of (tagged-kept name ds ns m.line ms) ∙ old-append (block name ds ns) (as_tag Both m.line ∷ tagged_behind name [] [] ms)
        ∙ ap (λ r. r ++ (m.line ∷ old_of (tagged_behind name [] [] ms))) (block-old name ds ns) ∙ ap (λ r. ds ++ (m.line ∷ r)) here
    by Drop here dropped added = ap old_of (tagged-dropped name ds ns m.line ms) ∙ dropped ∙ append_assoc ds (m.line ∷ []) (old_lines ms)
    by Add here dropped added = ap old_of (tagged-added name ds ns m.line ms) ∙ added

-- the new lines of a body
behind-new : (name : List ℕ) (ds ns : List (List ℕ)) (ms : List Marked) → new_of (tagged_behind name ds ns ms) ≡ ns ++ new_lines ms
behind-new name ds ns [] = ap new_of (tagged-none name ds ns) ∙ block-new name ds ns ∙ sym (append-nil ns)
behind-new name ds ns (m ∷ ms) = by m.mark (behind-new name [] [] ms) (behind-new name (ds ++ m.line ∷ []) ns ms) (behind-new name ds (ns ++ m.line ∷ []) ms)
  where
    by : (k : Mark) → new_of (tagged_behind name [] [] ms) ≡ new_lines ms → new_of (tagged_behind name (ds ++ m.line ∷ []) ns ms) ≡ ns ++ new_lines ms → new_of (tagged_behind name ds (ns ++ m.line ∷ []) ms) ≡ (ns ++ m.line ∷ []) ++ new_lines ms
        → let y : Marked = record { mark = k; line = m.line } in new_of (tagged_behind name ds ns (y ∷ ms)) ≡ ns ++ new_lines (y ∷ ms)
    by Keep here dropped added =
        ap new_of (tagged-kept name ds ns m.line ms) ∙ new-append (block name ds ns) (as_tag Both m.line ∷ tagged_behind name [] [] ms)
        ∙ ap (λ r. r ++ (m.line ∷ new_of (tagged_behind name [] [] ms))) (block-new name ds ns) ∙ ap (λ r. ns ++ (m.line ∷ r)) here
    by Drop here dropped added = ap new_of (tagged-dropped name ds ns m.line ms) ∙ dropped
    by Add here dropped added = ap new_of (tagged-added name ds ns m.line ms) ∙ added ∙ append_assoc ns (m.line ∷ []) (new_lines ms)

on-append : (side : Side) (xs ys : List Marked) → lines_on side (xs ++ ys) ≡ lines_on side xs ++ lines_on side ys
on-append side xs ys = ap (map (λ m. m.line)) (filter-append (λ m. is_on_side side m.mark) xs ys) ∙ map-append (λ m. m.line) (filter (λ m. is_on_side side m.mark) xs) (filter (λ m. is_on_side side m.mark) ys)

on-rows : (side : Side) (f : ℕ → List Marked) (g : ℕ → List (List ℕ)) (ks : List ℕ) → ((k : ℕ) → lines_on side (f k) ≡ g k) → lines_on side (flat_map f ks) ≡ flat_map g ks
on-rows side f g [] h = refl
on-rows side f g (k ∷ ks) h =
    ap (lines_on side) (flat_map-cons f k ks) ∙ on-append side (f k) (flat_map f ks)
    ∙ ap (λ r. r ++ lines_on side (flat_map f ks)) (h k) ∙ ap (λ r. g k ++ r) (on-rows side f g ks h) ∙ sym (flat_map-cons g k ks)

added-old : (ls : List (List ℕ)) → old_lines (map added ls) ≡ []
added-old [] = refl
added-old (l ∷ ls) = added-old ls

added-new : (ls : List (List ℕ)) → new_lines (map added ls) ≡ ls
added-new [] = refl
added-new (l ∷ ls) = ap (λ r. l ∷ r) (added-new ls)

line-old : (d : Bool) (line : List ℕ) → let m : Marked = record { mark = file_mark d; line = line } in old_lines (m ∷ []) ≡ line ∷ []
line-old true line = refl
line-old false line = refl

line-new : (d : Bool) (line : List ℕ) → let m : Marked = record { mark = file_mark d; line = line } in new_lines (m ∷ []) ≡ cond d [] (line ∷ [])
line-new true line = refl
line-new false line = refl

row-old : (lines : List (List ℕ)) (es : List Edit) (q : ℕ) → old_lines (whole_row lines es q) ≡ line_at lines q ∷ []
row-old lines es q = on-append Forward (map added (gap es q)) (file_line lines es q ∷ []) ∙ ap (λ r. r ++ old_lines (file_line lines es q ∷ [])) (added-old (gap es q)) ∙ line-old (is_dropped es q) (line_at lines q)

row-new : (lines : List (List ℕ)) (es : List Edit) (q : ℕ) → new_lines (whole_row lines es q) ≡ row lines es q
row-new lines es q = on-append Reversed (map added (gap es q)) (file_line lines es q ∷ []) ∙ ap (λ r. r ++ new_lines (file_line lines es q ∷ [])) (added-new (gap es q)) ∙ ap (λ r. gap es q ++ r) (line-new (is_dropped es q) (line_at lines q))

-- all lines of a list, one by one
each-line : (front rest : List (List ℕ)) (k : ℕ) → k ≡ length front + 1 → flat_map (λ q. line_at (front ++ rest) q ∷ []) (range_with_len k (length rest)) ≡ rest
each-line front [] k is = refl
each-line front (l ∷ ls) k is =
    let own : line_at (front ++ (l ∷ ls)) k ≡ l = get_or_at front l ls [] (k - 1) (omega arith) in
    let same : (front ++ l ∷ []) ++ ls ≡ front ++ (l ∷ ls) = append_assoc front (l ∷ []) ls in
    flat_map-cons (λ q. line_at (front ++ (l ∷ ls)) q ∷ []) k (range_with_len (k + 1) (length ls))
    ∙ ap (λ r. (r ∷ []) ++ flat_map (λ q. line_at (front ++ (l ∷ ls)) q ∷ []) (range_with_len (k + 1) (length ls))) own
    ∙ ap (λ xs. l ∷ flat_map (λ q. line_at xs q ∷ []) (range_with_len (k + 1) (length ls))) (sym same)
    ∙ ap (λ r. l ∷ r) (each-line (front ++ l ∷ []) ls (k + 1) (omega (arith, length-append front (l ∷ []))))

pub whole-old : (lines : List (List ℕ)) (es : List Edit) → old_lines (whole lines es) ≡ lines
unfolding whole_from
whole-old lines es =
    let last : List Marked = map added (gap es (length lines + 1)) in
    on-append Forward (flat_map (whole_row lines es) (from_to 1 (length lines))) last
    ∙ ap (λ r. old_lines (flat_map (whole_row lines es) (from_to 1 (length lines))) ++ r) (added-old (gap es (length lines + 1)))
    ∙ append-nil (old_lines (flat_map (whole_row lines es) (from_to 1 (length lines))))
    ∙ on-rows Forward (whole_row lines es) (λ q. line_at lines q ∷ []) (from_to 1 (length lines)) (row-old lines es)
    ∙ ap (λ n. flat_map (λ q. line_at lines q ∷ []) (range_with_len 1 n)) (let e : suc (length lines) - 1 ≡ length lines = omega arith in e)
    ∙ each-line [] lines 1 refl

pub whole-new : (lines : List (List ℕ)) (es : List Edit) → new_lines (whole lines es) ≡ spliced lines es
unfolding whole_from spliced
whole-new lines es =
    let last : List Marked = map added (gap es (length lines + 1)) in
    on-append Reversed (flat_map (whole_row lines es) (from_to 1 (length lines))) last
    ∙ ap (λ r. new_lines (flat_map (whole_row lines es) (from_to 1 (length lines))) ++ r) (added-new (gap es (length lines + 1)))
    ∙ ap (λ r. r ++ gap es (length lines + 1)) (on-rows Reversed (whole_row lines es) (row lines es) (from_to 1 (length lines)) (row-new lines es))

pub old-kept : (name : List ℕ) (lines : List (List ℕ)) (es : List Edit) → old_of (tagged name lines es) ≡ lines
old-kept name lines es = behind-old name [] [] (whole lines es) ∙ whole-old lines es

pub new-made : (name : List ℕ) (lines : List (List ℕ)) (es : List Edit) → new_of (tagged name lines es) ≡ spliced lines es
new-made name lines es = behind-new name [] [] (whole lines es) ∙ whole-new lines es

pub hunks-applied : (name : List ℕ) (lines : List (List ℕ)) (fuzz : ℕ) (loose : Bool) (side : Side) (hs : List PlainHunk)
    → join (new_of (tagged name lines (change_edits (change_verdicts lines fuzz loose side (hunks hs)) side (hunks hs)))) ≡ change_output lines fuzz loose side (hunks hs)
unfolding applied
hunks-applied name lines fuzz loose side hs =
    ap join (new-made name lines (change_edits (change_verdicts lines fuzz loose side (hunks hs)) side (hunks hs)))
    ∙ ap (λ es. join (spliced lines es)) (placed-are lines fuzz loose at_start (map (turned side) hs))

carried : (name : List ℕ) (lines : List (List ℕ)) (es : List PlainEdit) → AreLawful (2 ^ 32) es → new_of (tagged name lines (carried_edits (script_verdict (length lines) es) es)) ≡ script_lines lines es
carried name lines es lawful = by (reaches_behind (length lines) es) refl
  where
    by : (b : Bool) → reaches_behind (length lines) es ≡ b → new_of (tagged name lines (carried_edits (cond b Nowhere (At (first_address es) 0 (pos 0))) es)) ≡ cond b lines (scripted lines es)
    by true is = new-made name lines [] ∙ unchanged lines
    by false is = new-made name lines (script_edits es) ∙ script-made lines (2 ^ 32) es lawful (ends-within (length lines) es is)

pub script-carried : (name : List ℕ) (lines : List (List ℕ)) (fuzz : ℕ) (loose : Bool) (side : Side) (es : List PlainEdit) → AreLawful (2 ^ 32) es
    → join (new_of (tagged name lines (change_edits (change_verdicts lines fuzz loose side (script es)) side (script es)))) ≡ change_output lines fuzz loose side (script es)
script-carried name lines fuzz loose side es lawful = ap join (carried name lines es lawful)
