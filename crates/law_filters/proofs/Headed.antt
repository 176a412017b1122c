-- What is written in front of the change of a file patch in any form, and how it is read.
use Rattle.std.proofs.Common.{◌≡◌, ◌≢◌, ℕ, Bool, true, false, cond, not, eqb, ◌||◌, ◌&&◌, List, [], ◌∷◌, ◌++◌, length, Option, None, Some, refl, sym, ap, ◌∙◌, arith}
use Rattle.std.specs.Prelude.{is_some, codes}
use Rattle.std.specs.List.{list_any}
use Rattle.std.specs.Option.{IfSome, option_map_or, option_or}
use Rattle.std.proofs.lemmas.Bool.{or_parts}
use Rattle.line_list.proofs.Pieces.{joined}
use Rattle.line_list.proofs.WholeLines.{NoFeed, no-feed-both}
use Rattle.hunk_core.specs.declared.Form.{Form}
use Rattle.hunk_core.specs.declared.Form.TheVariants.{Unified, Context, Normal, Ed}
use Rattle.hunk_core.specs.declared.Side.TheVariants.{Forward}
use Rattle.hunk_core.specs.LineTests.{after}
use Rattle.patch_header.specs.Content.{content}
use Rattle.read_header_record.specs.declared.Header.{Header}
use Rattle.patch_header.specs.declared.openings.Stop.TheVariants.{Opening}
use Rattle.patch_header.specs.declared.read_options.ReadOptions.{ReadOptions}
use Rattle.read_file_patch.specs.PlainPatch.{PlainHeader, bytes_in, header_of}
use Rattle.name_choice.specs.Better.{is_better}
use Rattle.patch_set.specs.PlainName.{better_of, file_name, plain_name}
use Rattle.flip_patch.specs.HeaderText.{header_text, index_line, name_lines, named_line, names_file, needs_index}
use Rattle.flip_patch.specs.Marks.{shows_names}
use Rattle.law_reading.specs.Said.{behind, header_said, index_named, name_said, new_line, old_line, stamp_said}
use Rattle.law_reading.proofs.Headed.{AreClean, HasHead, clean-heads, clean-if, joined-heads, minus-is, not-false, plus-is, stars-is, some-heads}
use Rattle.law_reading.proofs.FlipHeaders.{Head, behind-is, head_lines, heads_if, index-index, index-joined, index-of, index-other, joined-if, last-three, minus-index, minus-minus, minus-plus, minus-stars, or-first, or-second, or-third, plus-index, plus-minus, plus-plus, prereq-none, same-header, shown, shown-no, shown-yes, stars-index, stars-minus, stars-stars, three, neither}
use Rattle.law_reading.proofs.Lines.{Kind, Minus, Plus, Stars, Index, content-closed, line_of, mark}
use Rattle.std.proofs.lemmas.Bool.{eqb-true}
use Rattle.std.proofs.lemmas.Bool.Decides.{nat_tests}
use Rattle.patch_header.specs.Values.{is_blank}
use Rattle.law_reading.proofs.Names.{NoTab, blanks-zero, spaced, tab-clean, tab_if, text_or_none}
use Rattle.law_reading.proofs.Region.{IsShown}
use Rattle.law_reading.proofs.Shown.{CleanIn, opt_line}
use Rattle.law_filters.specs.ReadAgain.{IsGivenBack, begins_with_space, header_again, index_said, name_if, stamp_if}
use Rattle.law_filters.proofs.Names.{Holds, Source, source}

pub record HeadedIn (text : List ℕ) (form : Form) (h : Header) : Type 0 where
  pub heads : List Head
  pub clean : AreClean heads
  pub some : HasHead heads
  pub is : header_text text form Forward h ≡ joined (head_lines heads)
  pub said : (ways : ReadOptions) (body : List (List ℕ)) → header_said ways (head_lines heads) body (Opening form) ≡ Some (header_again form (header_of text h))

-- what a form has lines for, and the kinds of these lines
record Wanted (text : List ℕ) (form : Form) (h : Header) (k l : Kind) (old new : Option (List ℕ)) : Type 0 where
  lines : name_lines text form Forward h ≡ opt_line (mark k) old ++ opt_line (mark l) new
  reads_old : (i : Option (List ℕ)) → old_line form (head_lines (three k l i old new)) ≡ old
  reads_new : (i : Option (List ℕ)) → new_line form (head_lines (three k l i old new)) ≡ new
  old_clean : CleanIn old
  new_clean : CleanIn new
  old_name : name_if form (bytes_in text h.old_name) ≡ name_said old
  new_name : name_if form (bytes_in text h.new_name) ≡ name_said new
  old_stamp : stamp_if form h.old_stamp ≡ stamp_said old
  new_stamp : stamp_if form h.new_stamp ≡ stamp_said new
  k_other : k ≢ Index
  l_other : l ≢ Index
  first : needs_index form (header_of text h) ≡ false → HasHead (heads_if k old ++ heads_if l new)

index-clean-of : (v : Bool) (name : List ℕ) → NoFeed name → CleanIn (index-of v name)
index-clean-of false name c = tt
index-clean-of true name c = no-feed-both name (tab_if name) c (tab-clean name)

-- what stands behind 'Index:' in the line that is written
line-behind : (name : List ℕ) → behind (codes "Index:") (index_line name) ≡ after (codes "Index:") (mark Index ++ (name ++ tab_if name))
line-behind name =
    let whole : index_line name ≡ line_of Index (name ++ tab_if name) = index-joined true name ∙ joined-if Index (Some (name ++ tab_if name)) in
    ap (λ (x : List ℕ). after (codes "Index:") (content x)) whole ∙ ap (after (codes "Index:")) (content-closed (mark Index ++ (name ++ tab_if name)))

index-again : (v : Bool) (name : List ℕ) → index_named (shown (codes "Index:") Index (index-of v name)) ≡ (let none : Option (List ℕ) = None in cond v (index_named (behind (codes "Index:") (index_line name))) none)
index-again false name = refl
index-again true name = ap index_named (sym (line-behind name))

headed : (text : List ℕ) (form : Form) (h : Header) (k l : Kind) (old new : Option (List ℕ)) → Wanted text form h k l old new → NoFeed (plain_name (header_of text h)) → HeadedIn text form h
headed text form h k l old new n clean =
    let v : Bool = needs_index form (header_of text h) in
    let name : List ℕ = plain_name (header_of text h) in
    let i : Option (List ℕ) = index-of v name in
    let hs : List Head = three k l i old new in
    let index_line_is = last-three (codes "Index:") k l i old new ∙ or-third (shown (codes "Index:") l new) (shown (codes "Index:") k old) (shown (codes "Index:") Index i) (shown-no (codes "Index:") l (index-other l n.l_other) new) (shown-no (codes "Index:") k (index-other k n.k_other) old) in
    let prereq_is = last-three (codes "Prereq:") k l i old new ∙ or-third (shown (codes "Prereq:") l new) (shown (codes "Prereq:") k old) (shown (codes "Prereq:") Index i) (shown-no (codes "Prereq:") l (prereq-none l) new) (shown-no (codes "Prereq:") k (prereq-none k) old) ∙ shown-no (codes "Prereq:") Index (prereq-none Index) i in
    record {
      heads = hs;
      clean = clean-heads (heads_if Index i) (heads_if k old ++ heads_if l new) (clean-if Index i (index-clean-of v name clean)) (clean-heads (heads_if k old) (heads_if l new) (clean-if k old n.old_clean) (clean-if l new n.new_clean));
      some = some-heads v name (heads_if k old ++ heads_if l new) n.first;
      is =
          ap (λ x. x ++ name_lines text form Forward h) (index-joined v name)
          ∙ ap (λ x. joined (head_lines (heads_if Index i)) ++ x) (n.lines ∙ ap (λ x. x ++ opt_line (mark l) new) (sym (joined-if k old)) ∙ ap (λ x. joined (head_lines (heads_if k old)) ++ x) (sym (joined-if l new)) ∙ sym (joined-heads (heads_if k old) (heads_if l new)))
          ∙ sym (joined-heads (heads_if Index i) (heads_if k old ++ heads_if l new));
      said = λ ways body.
          ap (λ x. Some x)
          (behind-is ways form hs old new (shown (codes "Index:") Index i) (n.reads_old i) (n.reads_new i) index_line_is prereq_is
          ∙ same-header form _ _ _ _ _ _ _ _ _ _ (sym n.old_name) (sym n.new_name) (index-again v name) (sym n.old_stamp) (sym n.new_stamp));
    }

-- ---- the four forms

-- where a name is a file's, one of its lines is there
has-line : (k l : Kind) (a b x y : Option (List ℕ)) → x ≡ name_said a → y ≡ name_said b → (is_some (file_name x) || is_some (file_name y)) ≡ true → HasHead (heads_if k a ++ heads_if l b)
has-line k l (Some bs) b x y p q e = tt
has-line k l None (Some bs) x y p q e = tt
has-line k l None None x y p q e = let bad : false ≡ true = sym (ap (λ o. is_some (file_name o) || is_some (file_name y)) p ∙ ap (λ o. is_some (file_name None) || is_some (file_name o)) q) ∙ e in absurd (cc)

module _ (text : List ℕ) (h : Header) (s : Source text h) where
  unified-lines : Wanted text Unified h Minus Plus s.old s.new
  unified-lines = record {
    lines = ap (λ t. t ++ named_line text (codes "+++ ") h.new_name) (s.olds.line (mark Minus)) ∙ ap (λ t. opt_line (mark Minus) s.old ++ t) (s.news.line (mark Plus));
    reads_old = λ i. last-three (codes "--- ") Minus Plus i s.old s.new ∙ or-second (shown (codes "--- ") Plus s.new) (shown (codes "--- ") Minus s.old) (shown (codes "--- ") Index i) s.old (shown-no (codes "--- ") Plus minus-plus s.new) (shown-yes (codes "--- ") Minus minus-minus s.old) (shown-no (codes "--- ") Index minus-index i);
    reads_new = λ i. last-three (codes "+++ ") Minus Plus i s.old s.new ∙ or-first (shown (codes "+++ ") Plus s.new) (shown (codes "+++ ") Minus s.old) (shown (codes "+++ ") Index i) s.new (shown-yes (codes "+++ ") Plus plus-plus s.new) (shown-no (codes "+++ ") Minus plus-minus s.old) (shown-no (codes "+++ ") Index plus-index i);
    old_clean = s.olds.clean;
    new_clean = s.news.clean;
    old_name = s.olds.name;
    new_name = s.news.name;
    old_stamp = s.olds.stamp;
    new_stamp = s.news.stamp;
    k_other = minus-is;
    l_other = plus-is;
    first = λ need. has-line Minus Plus s.old s.new (header_of text h).old_name (header_of text h).new_name s.olds.name s.news.name (not-false (names_file (header_of text h)) need);
  }

  context-lines : Wanted text Context h Stars Minus s.old s.new
  context-lines = record {
    lines = ap (λ t. t ++ named_line text (codes "--- ") h.new_name) (s.olds.line (mark Stars)) ∙ ap (λ t. opt_line (mark Stars) s.old ++ t) (s.news.line (mark Minus));
    reads_old = λ i. last-three (codes "*** ") Stars Minus i s.old s.new ∙ or-second (shown (codes "*** ") Minus s.new) (shown (codes "*** ") Stars s.old) (shown (codes "*** ") Index i) s.old (shown-no (codes "*** ") Minus stars-minus s.new) (shown-yes (codes "*** ") Stars stars-stars s.old) (shown-no (codes "*** ") Index stars-index i);
    reads_new = λ i. last-three (codes "--- ") Stars Minus i s.old s.new ∙ or-first (shown (codes "--- ") Minus s.new) (shown (codes "--- ") Stars s.old) (shown (codes "--- ") Index i) s.new (shown-yes (codes "--- ") Minus minus-minus s.new) (shown-no (codes "--- ") Stars minus-stars s.old) (shown-no (codes "--- ") Index minus-index i);
    old_clean = s.olds.clean;
    new_clean = s.news.clean;
    old_name = s.olds.name;
    new_name = s.news.name;
    old_stamp = s.olds.stamp;
    new_stamp = s.news.stamp;
    k_other = stars-is;
    l_other = minus-is;
    first = λ need. has-line Stars Minus s.old s.new (header_of text h).old_name (header_of text h).new_name s.olds.name s.news.name (not-false (names_file (header_of text h)) need);
  }

  normal-lines : Wanted text Normal h Minus Plus None None
  normal-lines = record {
    lines = refl;
    reads_old = λ i. refl;
    reads_new = λ i. refl;
    old_clean = tt;
    new_clean = tt;
    old_name = refl;
    new_name = refl;
    old_stamp = refl;
    new_stamp = refl;
    k_other = minus-is;
    l_other = plus-is;
    first = λ need. absurd (cc);
  }

  ed-lines : Wanted text Ed h Minus Plus None None
  ed-lines = record {
    lines = refl;
    reads_old = λ i. refl;
    reads_new = λ i. refl;
    old_clean = tt;
    new_clean = tt;
    old_name = refl;
    new_name = refl;
    old_stamp = refl;
    new_stamp = refl;
    k_other = minus-is;
    l_other = plus-is;
    first = λ need. absurd (cc);
  }

  headed-by : (form : Form) → HeadedIn text form h
  headed-by Unified = headed text Unified h Minus Plus s.old s.new unified-lines s.clean
  headed-by Context = headed text Context h Stars Minus s.old s.new context-lines s.clean
  headed-by Normal = headed text Normal h Minus Plus None None normal-lines s.clean
  headed-by Ed = headed text Ed h Minus Plus None None ed-lines s.clean

-- what is written in front of the change of a file patch that was read
pub headed-in : (ways : ReadOptions) (text : List ℕ) (h : Header) → IsShown ways text h → (form : Form) → HeadedIn text form h
headed-in ways text h s form = headed-by text h (source ways text h s) form

-- ---- the one name

given-back : (name : List ℕ) → IsGivenBack name → text_or_none (index_named (behind (codes "Index:") (index_line name))) ≡ name
given-back name g = ap (λ o. text_or_none (index_named o)) (line-behind name ∙ index-index (name ++ tab_if name)) ∙ by name g
  where
    no-tabs : (bs : List ℕ) → list_any (λ b. eqb b 9) bs ≡ false → NoTab bs
    no-tabs [] e = tt
    no-tabs (b ∷ bs) e = let both = or_parts (eqb b 9) (list_any (λ c. eqb c 9) bs) e in (ap not both.0, no-tabs bs both.1)

    none : (v w : Bool) → v ≡ false → w ≡ false → (v || w) ≡ false
    none v w e f = rw (e, f) refl

    front : (c : ℕ) (cs : List ℕ) → IsGivenBack (c ∷ cs) → (v : Bool) → eqb c 34 ≡ v → is_blank c ≡ false
    front c cs h true q = ap is_blank (eqb-true c 34 q)
    front c cs h false q = none (eqb c 32) (eqb c 9) h.front (or_parts (eqb c 9) (list_any (λ b. eqb b 9) cs) (h.tab q)).0

    by : (bs : List ℕ) → IsGivenBack bs → text_or_none (index_named (Some (32 ∷ (bs ++ tab_if bs)))) ≡ bs
    by [] h = refl
    by (c ∷ cs) h =
        let some : eqb (length (c ∷ cs)) 0 ≡ false = grind (arith, nat_tests) in
        ap text_or_none (spaced (c ∷ cs) (record { front = blanks-zero c cs (front c cs h (eqb c 34) refl); bare = λ q. no-tabs (c ∷ cs) (h.tab q); quoted = h.quoted }) some)

-- where one of two names is there, the better one is one of them, whatever else is
better-first : (a b c d : Option (List ℕ)) → (is_some a || is_some b) ≡ true → option_map_or (λ (name : List ℕ). name) (option_or (better_of a b) c) [] ≡ option_map_or (λ (name : List ℕ). name) (option_or (better_of a b) d) []
better-first None None c d e = absurd (cc)
better-first None (Some y) c d e = refl
better-first (Some x) None c d e = refl
better-first (Some x) (Some y) c d e = by (is_better y x)
  where
    by : (v : Bool) → option_map_or (λ (name : List ℕ). name) (option_or (cond v (Some y) (Some x)) c) [] ≡ option_map_or (λ (name : List ℕ). name) (option_or (cond v (Some y) (Some x)) d) []
    by true = refl
    by false = refl

abbrev one_of : Option (List ℕ) → Option (List ℕ) → Option (List ℕ) → List ℕ
one_of a b c = option_map_or (λ (name : List ℕ). name) (option_or (better_of (file_name a) (file_name b)) c) []

one-none : (a b c : Option (List ℕ)) → file_name a ≡ None → file_name b ≡ None → one_of a b c ≡ text_or_none c
one-none a b c p q = ap (λ o. option_map_or (λ (name : List ℕ). name) (option_or (better_of o (file_name b)) c) []) p ∙ ap (λ o. option_map_or (λ (name : List ℕ). name) (option_or (better_of None o) c) []) q

if-false : (v : Bool) (o : Option (List ℕ)) → v ≡ false → file_name (let none : Option (List ℕ) = None in cond v o none) ≡ None
if-false true o e = absurd (cc)
if-false false o e = refl

if-true : (v : Bool) (o : Option (List ℕ)) → v ≡ true → (let none : Option (List ℕ) = None in cond v o none) ≡ o
if-true true o e = refl
if-true false o e = absurd (cc)

module _ (form : Form) (hd : PlainHeader) (given : IsGivenBack (plain_name hd)) where
  by-index : needs_index form hd ≡ true → file_name (name_if form hd.old_name) ≡ None → file_name (name_if form hd.new_name) ≡ None → plain_name (header_again form hd) ≡ plain_name hd
  by-index need p q =
      one-none (name_if form hd.old_name) (name_if form hd.new_name) (index_said form hd) p q
      ∙ ap text_or_none (if-true (needs_index form hd) (index_named (behind (codes "Index:") (index_line (plain_name hd)))) need)
      ∙ given-back (plain_name hd) given

  by-names : (v w : Bool) → shows_names form ≡ v → names_file hd ≡ w → plain_name (header_again form hd) ≡ plain_name hd
  by-names true true e f =
      ap (λ o. one_of o (name_if form hd.new_name) (index_said form hd)) (if-true (shows_names form) hd.old_name e)
      ∙ ap (λ o. one_of hd.old_name o (index_said form hd)) (if-true (shows_names form) hd.new_name e)
      ∙ better-first (file_name hd.old_name) (file_name hd.new_name) (index_said form hd) (option_or hd.to hd.index) f
  by-names true false e f =
      let both = neither (file_name hd.old_name) (file_name hd.new_name) f in
      by-index (needs (shows_names form) (names_file hd) f) (ap file_name (if-true (shows_names form) hd.old_name e) ∙ both.0) (ap file_name (if-true (shows_names form) hd.new_name e) ∙ both.1)
    where
      needs : (x y : Bool) → y ≡ false → not (x && y) ≡ true
      needs true y g = ap not g
      needs false y g = refl
  by-names false w e f = by-index (ap (λ x. not (x && names_file hd)) e) (if-false (shows_names form) hd.old_name e) (if-false (shows_names form) hd.new_name e)

  -- an `Index:` line or the lines of both names give it back
  pub name-again : plain_name (header_again form hd) ≡ plain_name hd
  name-again = by-names (shows_names form) (names_file hd) refl refl

if-holds : (P : List ℕ → Type 0) (o : Option (List ℕ)) → IfSome o P → Holds P o
if-holds P None h = tt
if-holds P (Some x) h = h

pub shown-name : (ways : ReadOptions) (text : List ℕ) (h : Header) → IsShown ways text h → (form : Form) → IfSome (bytes_in text h.to) IsGivenBack → plain_name (header_again form (header_of text h)) ≡ plain_name (header_of text h)
shown-name ways text h s form given = name-again form (header_of text h) ((source ways text h s).given (if-holds IsGivenBack (bytes_in text h.to) given))
