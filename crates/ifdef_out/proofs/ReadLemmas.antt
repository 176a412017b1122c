-- What a reader of the written lines gets.
use Rattle.std.proofs.Common.{◌≡◌, ◌≢◌, inl, ℕ, ◌||◌, ◌&&◌, List, [], ◌∷◌, ◌++◌, map, Bool, true, false, cond, not, eqb, refl, sym, ap, subst, ◌∙◌, append_assoc}
use Rattle.std.specs.Prelude.{bytes_eq, codes, nat_le}
use Rattle.std.specs.List.{AllByRecursion, list_all}
use Rattle.std.proofs.lemmas.List.{append-nil, map-append}
use Rattle.std.proofs.lemmas.Slice.Eq.{bytes_eq-Decides}
use Rattle.line_list.specs.Lines.{IsLine}
use Rattle.line_list.specs.Lines.{lines as text_lines}
use Rattle.line_list.specs.Completed.{completed}
use Rattle.line_list.proofs.WholeLines.{IsPieceLine}
use Rattle.line_list.proofs.Pieces.{longer}
use Rattle.hunk_core.specs.declared.Mark.{Mark}
use Rattle.hunk_core.specs.declared.Mark.TheVariants.{Keep, Drop, Add}
use Rattle.hunk_core.specs.PlainHunk.{Marked, old_lines, new_lines}
use Rattle.hunk_apply.specs.Splice.{Edit, spliced}
use Rattle.ifdef_out.specs.Whole.{added, whole}
use Rattle.patch_options.specs.Forms.{begins_name, goes_on_name, is_macro_name}
use Rattle.ifdef_out.specs.Tagged.{Both, as_tag, block, else_line, else_mark, endif_line, ifdef_line, ifndef_line, ifdef_text, tagged, tagged_behind, texts}
use Rattle.ifdef_out.specs.Reading.{fed, branch_lines, is_marking, IsPlain}
use Rattle.ifdef_out.proofs.FedLemmas.{fed-whole, lines-joined}
use Rattle.ifdef_out.proofs.KeptLemmas.{whole-old, whole-new}
use Rattle.ifdef_out.proofs.TaggedLemmas.{tagged-none, tagged-kept, tagged-dropped, tagged-added, texts-append, closed-split, opening-some}

-- names have no line feed, so the marking lines are lines
macro-byte : (b : ℕ) → goes_on_name b ≡ true → b ≢ 10
macro-byte b t = λ e. let x : goes_on_name 10 ≡ true = subst (λ k. goes_on_name k ≡ true) e t in cc

or-left : (a b : Bool) → a ≡ true → (a || b) ≡ true
or-left true b t = refl
or-left false b t = cc

begins-goes : (b : ℕ) → begins_name b ≡ true → goes_on_name b ≡ true
begins-goes b t = or-left (begins_name b) (nat_le 48 b && nat_le b 57) t

and-left : (a b : Bool) → (a && b) ≡ true → a ≡ true
and-left true b t = refl
and-left false b t = cc

and-right : (a b : Bool) → (a && b) ≡ true → b ≡ true
and-right true b t = t
and-right false b t = cc

rest-line : (bs : List ℕ) → list_all goes_on_name bs ≡ true → IsLine (bs ++ 10 ∷ [])
rest-line [] t = refl
rest-line (b ∷ []) t = (macro-byte b (and-left (goes_on_name b) (list_all goes_on_name []) t), refl)
rest-line (b ∷ c ∷ bs) t = (macro-byte b (and-left (goes_on_name b) (list_all goes_on_name (c ∷ bs)) t), rest-line (c ∷ bs) (and-right (goes_on_name b) (list_all goes_on_name (c ∷ bs)) t))

name-line : (name : List ℕ) → is_macro_name name ≡ true → IsLine (name ++ 10 ∷ [])
name-line [] t = cc
name-line (b ∷ []) t = (macro-byte b (begins-goes b (and-left (begins_name b) (list_all goes_on_name []) t)), refl)
name-line (b ∷ c ∷ bs) t = (macro-byte b (begins-goes b (and-left (begins_name b) (list_all goes_on_name (c ∷ bs)) t)), rest-line (c ∷ bs) (and-right (begins_name b) (list_all goes_on_name (c ∷ bs)) t))

other-byte : (b : ℕ) → not (eqb b 10) ≡ true → b ≢ 10
other-byte b t = λ e. let x : not (eqb 10 10) ≡ true = subst (λ k. not (eqb k 10) ≡ true) e t in cc

fronts-line : (bs line : List ℕ) → list_all (λ b. not (eqb b 10)) bs ≡ true → IsLine line → IsLine (bs ++ line)
fronts-line [] line h k = k
fronts-line (b ∷ bs) line h k = longer b (bs ++ line) (other-byte b (and-left (not (eqb b 10)) (list_all (λ c. not (eqb c 10)) bs) h)) (fronts-line bs line (and-right (not (eqb b 10)) (list_all (λ c. not (eqb c 10)) bs) h) k)

same-line : (line : List ℕ) → bytes_eq line line ≡ true
same-line line = (bytes_eq-Decides line line).1 refl

module _ (name : List ℕ) (defined : Bool) where
  read-none : (taken : Bool) → branch_lines name defined taken [] ≡ []
  unfolding branch_lines
  read-none taken = refl

  -- one line
  read-ifdef : (taken : Bool) (ls : List (List ℕ)) → branch_lines name defined taken (ifdef_line name ∷ ls) ≡ branch_lines name defined defined ls
  unfolding branch_lines
  read-ifdef taken ls = rw (same-line (ifdef_line name)) refl

  read-ifndef : (taken : Bool) (ls : List (List ℕ)) → branch_lines name defined taken (ifndef_line name ∷ ls) ≡ branch_lines name defined (not defined) ls
  unfolding branch_lines
  read-ifndef taken ls = rw (same-line (ifndef_line name)) refl

  read-else : (taken : Bool) (ls : List (List ℕ)) → branch_lines name defined taken (else_line ∷ ls) ≡ branch_lines name defined (not taken) ls
  unfolding branch_lines
  read-else taken ls = refl

  read-endif : (taken : Bool) (ls : List (List ℕ)) → branch_lines name defined taken (endif_line ∷ ls) ≡ branch_lines name defined true ls
  unfolding branch_lines
  read-endif taken ls = refl

  by-tests : (a b c d : Bool) (x y z w v : List (List ℕ)) → (a || (b || (c || d))) ≡ false → cond a x (cond b y (cond c z (cond d w v))) ≡ v
  by-tests true b c d x y z w v t = cc
  by-tests false true c d x y z w v t = cc
  by-tests false false true d x y z w v t = cc
  by-tests false false false true x y z w v t = cc
  by-tests false false false false x y z w v t = refl

  read-plain : (taken : Bool) (l : List ℕ) (ls : List (List ℕ)) → is_marking name l ≡ false → branch_lines name defined taken (l ∷ ls) ≡ cond taken (l ∷ []) [] ++ branch_lines name defined taken ls
  unfolding branch_lines
  read-plain taken l ls plain = by-tests (bytes_eq l (ifdef_line name)) (bytes_eq l (ifndef_line name)) (bytes_eq l else_line) (bytes_eq l endif_line) (branch_lines name defined defined ls) (branch_lines name defined (not defined) ls) (branch_lines name defined (not taken) ls) (branch_lines name defined (not false) ls) (cond taken (l ∷ []) [] ++ branch_lines name defined taken ls) plain

  -- plain lines
  abbrev ArePlain : List (List ℕ) → Type 0
  ArePlain ls = AllByRecursion (IsPlain name) ls

  plain-more : (ls : List (List ℕ)) (line : List ℕ) → ArePlain ls → IsPlain name line → ArePlain (ls ++ line ∷ [])
  plain-more [] line h k = (k, tt)
  plain-more (l ∷ ls) line h k = (h.0, plain-more ls line h.1 k)

  read-all : (taken : Bool) (ls rest : List (List ℕ)) → ArePlain ls → branch_lines name defined taken (map fed ls ++ rest) ≡ cond taken (map fed ls) [] ++ branch_lines name defined taken rest
  read-all true [] rest h = refl
  read-all false [] rest h = refl
  read-all taken (l ∷ ls) rest h =
      read-plain taken (fed l) (map fed ls ++ rest) h.0.1
      ∙ ap (λ r. cond taken (fed l ∷ []) [] ++ r) (read-all taken ls rest h.1)
      ∙ by taken
    where
      by : (taken : Bool) → cond taken (fed l ∷ []) [] ++ (cond taken (map fed ls) [] ++ branch_lines name defined taken rest) ≡ cond taken (map fed (l ∷ ls)) [] ++ branch_lines name defined taken rest
      by true = refl
      by false = refl

  module _ (macro : is_macro_name name ≡ true) where
    fed-ifdef : fed (ifdef_line name) ≡ ifdef_line name
    fed-ifdef = fed-whole (ifdef_line name) (fronts-line (codes "#ifdef ") (name ++ 10 ∷ []) refl (name-line name macro))

    fed-ifndef : fed (ifndef_line name) ≡ ifndef_line name
    fed-ifndef = fed-whole (ifndef_line name) (fronts-line (codes "#ifndef ") (name ++ 10 ∷ []) refl (name-line name macro))

    -- the added lines of a block, its end, and what follows
    read-rest : (taken : Bool) (ns more : List (List ℕ)) → ArePlain ns → branch_lines name defined taken (map fed (ns ++ (endif_line ∷ more))) ≡ cond taken (map fed ns) [] ++ branch_lines name defined true (map fed more)
    read-rest taken ns more h =
        ap (branch_lines name defined taken) (map-append fed ns (endif_line ∷ more))
        ∙ read-all taken ns (endif_line ∷ map fed more) h
        ∙ ap (λ r. cond taken (map fed ns) [] ++ r) (read-endif taken (map fed more))

    -- the same behind dropped lines
    read-else-rest : (taken : Bool) (ns more : List (List ℕ)) → ArePlain ns → branch_lines name defined taken (map fed (texts (else_mark ns) ++ (ns ++ (endif_line ∷ more)))) ≡ cond (not taken) (map fed ns) [] ++ branch_lines name defined true (map fed more)
    read-else-rest taken [] more h = read-endif taken (map fed more) ∙ none (not taken)
      where
        none : (b : Bool) → branch_lines name defined true (map fed more) ≡ cond b [] [] ++ branch_lines name defined true (map fed more)
        none true = refl
        none false = refl
    read-else-rest taken (n ∷ ns) more h = read-else taken (map fed ((n ∷ ns) ++ (endif_line ∷ more))) ∙ read-rest (not taken) (n ∷ ns) more h

    -- a block, of which the reader takes one branch
    read-block : (ds ns more : List (List ℕ)) → ArePlain ds → ArePlain ns → branch_lines name defined true (map fed (texts (block name ds ns) ++ more)) ≡ cond defined (map fed ns) (map fed ds) ++ branch_lines name defined true (map fed more)
    read-block [] [] more hd hn = by defined
      where
        by : (b : Bool) → branch_lines name defined true (map fed more) ≡ cond b [] [] ++ branch_lines name defined true (map fed more)
        by true = refl
        by false = refl
    read-block [] (n ∷ ns) more hd hn =
        ap (λ ls. branch_lines name defined true (map fed ls)) (closed-split name [] (n ∷ ns) more)
        ∙ ap (λ l. branch_lines name defined true (l ∷ map fed ((n ∷ ns) ++ (endif_line ∷ more)))) fed-ifdef
        ∙ read-ifdef true (map fed ((n ∷ ns) ++ (endif_line ∷ more)))
        ∙ read-rest defined (n ∷ ns) more hn
    read-block (d ∷ ds) ns more hd hn =
        let rest : List (List ℕ) = ns ++ (endif_line ∷ more) in
        ap (λ ls. branch_lines name defined true (map fed ls)) (closed-split name (d ∷ ds) ns more ∙ opening-some name (d ∷ ds) ns (ns ++ (endif_line ∷ more)) refl)
        ∙ ap (λ l. branch_lines name defined true (l ∷ map fed ((d ∷ ds) ++ (texts (else_mark ns) ++ rest)))) fed-ifndef
        ∙ read-ifndef true (map fed ((d ∷ ds) ++ (texts (else_mark ns) ++ rest)))
        ∙ ap (branch_lines name defined (not defined)) (map-append fed (d ∷ ds) (texts (else_mark ns) ++ rest))
        ∙ read-all (not defined) (d ∷ ds) (map fed (texts (else_mark ns) ++ rest)) hd
        ∙ ap (λ r. cond (not defined) (map fed (d ∷ ds)) [] ++ r) (read-else-rest (not defined) ns more hn)
        ∙ by defined (map fed (d ∷ ds)) (map fed ns) (branch_lines name defined true (map fed more))
      where
        by : (b : Bool) (x y r : List (List ℕ)) → cond (not b) x [] ++ (cond (not (not b)) y [] ++ r) ≡ cond b y x ++ r
        by true x y r = refl
        by false x y r = refl

    -- a body behind a block that isn't closed
    read-behind : (ds ns : List (List ℕ)) (ms : List Marked) → ArePlain ds → ArePlain ns → ArePlain (old_lines ms) → ArePlain (new_lines ms)
        → branch_lines name defined true (map fed (texts (tagged_behind name ds ns ms))) ≡ cond defined (map fed (ns ++ new_lines ms)) (map fed (ds ++ old_lines ms))
    read-behind ds ns [] hd hn ho hw =
        ap (λ ts. branch_lines name defined true (map fed (texts ts))) (tagged-none name ds ns)
        ∙ ap (λ ls. branch_lines name defined true (map fed ls)) (sym (append-nil (texts (block name ds ns))))
        ∙ read-block ds ns [] hd hn
        ∙ ap (λ r. cond defined (map fed ns) (map fed ds) ++ r) (read-none true)
        ∙ last defined
      where
        last : (b : Bool) → cond b (map fed ns) (map fed ds) ++ [] ≡ cond b (map fed (ns ++ [])) (map fed (ds ++ []))
        last true = append-nil (map fed ns) ∙ ap (map fed) (sym (append-nil ns))
        last false = append-nil (map fed ds) ∙ ap (map fed) (sym (append-nil ds))
    read-behind ds ns (m ∷ ms) hd hn ho hw =
        by m.mark ho hw (read-behind [] [] ms tt tt) (λ plain. read-behind (ds ++ m.line ∷ []) ns ms (plain-more ds m.line hd plain) hn) (λ plain. read-behind ds (ns ++ m.line ∷ []) ms hd (plain-more ns m.line hn plain))
      where
        joined : (b : Bool) → cond b (map fed ns) (map fed ds) ++ (fed m.line ∷ cond b (map fed (new_lines ms)) (map fed (old_lines ms))) ≡ cond b (map fed (ns ++ (m.line ∷ new_lines ms))) (map fed (ds ++ (m.line ∷ old_lines ms)))
        joined true = sym (map-append fed ns (m.line ∷ new_lines ms))
        joined false = sym (map-append fed ds (m.line ∷ old_lines ms))

        by : (k : Mark) → let y : Marked = record { mark = k; line = m.line } in ArePlain (old_lines (y ∷ ms)) → ArePlain (new_lines (y ∷ ms))
            → (ArePlain (old_lines ms) → ArePlain (new_lines ms) → branch_lines name defined true (map fed (texts (tagged_behind name [] [] ms))) ≡ cond defined (map fed (new_lines ms)) (map fed (old_lines ms)))
            → (IsPlain name m.line → ArePlain (old_lines ms) → ArePlain (new_lines ms) → branch_lines name defined true (map fed (texts (tagged_behind name (ds ++ m.line ∷ []) ns ms))) ≡ cond defined (map fed (ns ++ new_lines ms)) (map fed ((ds ++ m.line ∷ []) ++ old_lines ms)))
            → (IsPlain name m.line → ArePlain (old_lines ms) → ArePlain (new_lines ms) → branch_lines name defined true (map fed (texts (tagged_behind name ds (ns ++ m.line ∷ []) ms))) ≡ cond defined (map fed ((ns ++ m.line ∷ []) ++ new_lines ms)) (map fed (ds ++ old_lines ms)))
            → branch_lines name defined true (map fed (texts (tagged_behind name ds ns (y ∷ ms)))) ≡ cond defined (map fed (ns ++ new_lines (y ∷ ms))) (map fed (ds ++ old_lines (y ∷ ms)))
        by Keep ko kw here dropped added =
            let rest : List (List ℕ) = texts (tagged_behind name [] [] ms) in
            ap (λ ts. branch_lines name defined true (map fed (texts ts))) (tagged-kept name ds ns m.line ms)
            ∙ ap (λ ls. branch_lines name defined true (map fed ls)) (texts-append (block name ds ns) (as_tag Both m.line ∷ tagged_behind name [] [] ms))
            ∙ read-block ds ns (m.line ∷ rest) hd hn
            ∙ ap (λ r. cond defined (map fed ns) (map fed ds) ++ r) (read-plain true (fed m.line) (map fed rest) ko.0.1)
            ∙ ap (λ r. cond defined (map fed ns) (map fed ds) ++ (fed m.line ∷ r)) (here ko.1 kw.1)
            ∙ joined defined
        by Drop ko kw here dropped added =
            ap (λ ts. branch_lines name defined true (map fed (texts ts))) (tagged-dropped name ds ns m.line ms)
            ∙ dropped ko.0 ko.1 kw
            ∙ ap (λ ls. cond defined (map fed (ns ++ new_lines ms)) (map fed ls)) (append_assoc ds (m.line ∷ []) (old_lines ms))
        by Add ko kw here dropped added =
            ap (λ ts. branch_lines name defined true (map fed (texts ts))) (tagged-added name ds ns m.line ms)
            ∙ added kw.0 ko kw.1
            ∙ ap (λ ls. cond defined (map fed ls) (map fed (ds ++ old_lines ms))) (append_assoc ns (m.line ∷ []) (new_lines ms))

-- the written lines are lines of a text, where those of the two files are
is-piece : (name : List ℕ) (line : List ℕ) → IsPlain name line → IsPieceLine line
is-piece name line h = h.0

append-pieces : (xs ys : List (List ℕ)) → AllByRecursion IsPieceLine xs → AllByRecursion IsPieceLine ys → AllByRecursion IsPieceLine (xs ++ ys)
append-pieces [] ys h k = k
append-pieces (x ∷ xs) ys h k = (h.0, append-pieces xs ys h.1 k)

plain-pieces : (name : List ℕ) (ls : List (List ℕ)) → AllByRecursion (IsPlain name) ls → AllByRecursion IsPieceLine ls
plain-pieces name [] h = tt
plain-pieces name (l ∷ ls) h = (h.0.0, plain-pieces name ls h.1)

module _ (name : List ℕ) (macro : is_macro_name name ≡ true) where
  else-pieces : (ns : List (List ℕ)) → AllByRecursion IsPieceLine (texts (else_mark ns))
  else-pieces [] = tt
  else-pieces (n ∷ ns) = (inl (fronts-line (codes "#else") (10 ∷ []) refl refl), tt)

  rest-pieces : (ns more : List (List ℕ)) → AllByRecursion IsPieceLine ns → AllByRecursion IsPieceLine more → AllByRecursion IsPieceLine (ns ++ (endif_line ∷ more))
  rest-pieces ns more h k = append-pieces ns (endif_line ∷ more) h (inl (fronts-line (codes "#endif") (10 ∷ []) refl refl), k)

  block-pieces : (ds ns more : List (List ℕ)) → AllByRecursion IsPieceLine ds → AllByRecursion IsPieceLine ns → AllByRecursion IsPieceLine more → AllByRecursion IsPieceLine (texts (block name ds ns) ++ more)
  block-pieces [] [] more hd hn hm = hm
  block-pieces [] (n ∷ ns) more hd hn hm =
      subst (AllByRecursion IsPieceLine) (sym (closed-split name [] (n ∷ ns) more))
      (inl (fronts-line (codes "#ifdef ") (name ++ 10 ∷ []) refl (name-line name macro)), rest-pieces (n ∷ ns) more hn hm)
  block-pieces (d ∷ ds) ns more hd hn hm =
      subst (AllByRecursion IsPieceLine) (sym (closed-split name (d ∷ ds) ns more ∙ opening-some name (d ∷ ds) ns (ns ++ (endif_line ∷ more)) refl)) (
        inl (fronts-line (codes "#ifndef ") (name ++ 10 ∷ []) refl (name-line name macro)),
        append-pieces (d ∷ ds) (texts (else_mark ns) ++ (ns ++ (endif_line ∷ more))) hd (append-pieces (texts (else_mark ns)) (ns ++ (endif_line ∷ more)) (else-pieces ns) (rest-pieces ns more hn hm)),
      )

  behind-pieces : (ds ns : List (List ℕ)) (ms : List Marked) → AllByRecursion IsPieceLine ds → AllByRecursion IsPieceLine ns → AllByRecursion IsPieceLine (old_lines ms) → AllByRecursion IsPieceLine (new_lines ms) → AllByRecursion IsPieceLine (texts (tagged_behind name ds ns ms))
  behind-pieces ds ns [] hd hn ho hw =
      subst (AllByRecursion IsPieceLine) (append-nil (texts (block name ds ns)) ∙ ap texts (sym (tagged-none name ds ns))) (block-pieces ds ns [] hd hn tt)
  behind-pieces ds ns (m ∷ ms) hd hn ho hw =
      by m.mark ho hw (behind-pieces [] [] ms tt tt) (λ p. behind-pieces (ds ++ m.line ∷ []) ns ms (append-pieces ds (m.line ∷ []) hd (p, tt)) hn) (λ p. behind-pieces ds (ns ++ m.line ∷ []) ms hd (append-pieces ns (m.line ∷ []) hn (p, tt)))
    where
      by : (k : Mark) → let y : Marked = record { mark = k; line = m.line } in AllByRecursion IsPieceLine (old_lines (y ∷ ms)) → AllByRecursion IsPieceLine (new_lines (y ∷ ms))
          → (AllByRecursion IsPieceLine (old_lines ms) → AllByRecursion IsPieceLine (new_lines ms) → AllByRecursion IsPieceLine (texts (tagged_behind name [] [] ms)))
          → (IsPieceLine m.line → AllByRecursion IsPieceLine (old_lines ms) → AllByRecursion IsPieceLine (new_lines ms) → AllByRecursion IsPieceLine (texts (tagged_behind name (ds ++ m.line ∷ []) ns ms)))
          → (IsPieceLine m.line → AllByRecursion IsPieceLine (old_lines ms) → AllByRecursion IsPieceLine (new_lines ms) → AllByRecursion IsPieceLine (texts (tagged_behind name ds (ns ++ m.line ∷ []) ms)))
          → AllByRecursion IsPieceLine (texts (tagged_behind name ds ns (y ∷ ms)))
      by Keep ko kw here dropped added =
          subst (AllByRecursion IsPieceLine) (sym (ap texts (tagged-kept name ds ns m.line ms) ∙ texts-append (block name ds ns) (as_tag Both m.line ∷ tagged_behind name [] [] ms)))
          (block-pieces ds ns (m.line ∷ texts (tagged_behind name [] [] ms)) hd hn (ko.0, here ko.1 kw.1))
      by Drop ko kw here dropped added = subst (AllByRecursion IsPieceLine) (sym (ap texts (tagged-dropped name ds ns m.line ms))) (dropped ko.0 ko.1 kw)
      by Add ko kw here dropped added = subst (AllByRecursion IsPieceLine) (sym (ap texts (tagged-added name ds ns m.line ms))) (added kw.0 ko kw.1)

-- the law: each reader gets one of the two files
pub read-text : (name : List ℕ) (defined : Bool) (lines : List (List ℕ)) (es : List Edit) → is_macro_name name ≡ true → AllByRecursion (IsPlain name) lines → AllByRecursion (IsPlain name) (spliced lines es)
    → branch_lines name defined true (text_lines (completed (ifdef_text name lines es))) ≡ map fed (cond defined (spliced lines es) lines)
read-text name defined lines es macro ho hw =
    let ms : List Marked = whole lines es in
    let old : AllByRecursion (IsPlain name) (old_lines (whole lines es)) = subst (AllByRecursion (IsPlain name)) (sym (whole-old lines es)) ho in
    let new : AllByRecursion (IsPlain name) (new_lines (whole lines es)) = subst (AllByRecursion (IsPlain name)) (sym (whole-new lines es)) hw in
    ap (branch_lines name defined true) (lines-joined (texts (tagged name lines es)) (behind-pieces name macro [] [] ms tt tt (plain-pieces name (old_lines ms) old) (plain-pieces name (new_lines ms) new)))
    ∙ read-behind name defined macro [] [] ms tt tt old new
    ∙ ap (λ ls. cond defined (map fed (new_lines (whole lines es))) (map fed ls)) (whole-old lines es)
    ∙ ap (λ ls. cond defined (map fed ls) (map fed lines)) (whole-new lines es)
    ∙ pick defined
  where
    pick : (b : Bool) → cond b (map fed (spliced lines es)) (map fed lines) ≡ map fed (cond b (spliced lines es) lines)
    pick true = refl
    pick false = refl
