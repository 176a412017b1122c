-- What is written in front of the hunks of a file patch, and how it is read.
use Rattle.std.proofs.Common.{◌≡◌, ◌≢◌, ℕ, Bool, true, false, cond, not, ◌||◌, List, [], ◌∷◌, ◌++◌, Option, None, Some, refl, sym, ap, subst, ◌∙◌}
use Rattle.std.specs.Prelude.{is_some, codes}
use Rattle.std.specs.List.{AllByRecursion}
use Rattle.std.proofs.lemmas.Grind.{flat_map-append}
use Rattle.std.proofs.lemmas.List.{map-append}
use Rattle.line_list.specs.Lines.{IsLine}
use Rattle.line_list.proofs.Pieces.{joined}
use Rattle.line_list.proofs.WholeLines.{NoFeed, no-feed-both}
use Rattle.hunk_core.specs.declared.Form.{Form}
use Rattle.hunk_core.specs.declared.Form.TheVariants.{Unified, Context, Normal, Ed}
use Rattle.hunk_core.specs.declared.Side.TheVariants.{Reversed}
use Rattle.unified_form.proofs.Canonical.{closes}
use Rattle.patch_header.specs.GitHeaders.{action_of}
use Rattle.patch_header.specs.GitRows.{led_by, led_directly, lines_of}
use Rattle.patch_header.specs.Region.{Row, rows}
use Rattle.patch_header.specs.Steps.{AreQuiet, header_with, seen_for}
use Rattle.read_header_record.specs.declared.Header.{Header}
use Rattle.patch_header.specs.declared.openings.Stop.TheVariants.{Opening}
use Rattle.patch_header.specs.declared.read_options.ReadOptions.{ReadOptions}
use Rattle.read_file_patch.specs.Actions.{is_moved}
use Rattle.read_file_patch.specs.PlainPatch.{bytes_in, header_of}
use Rattle.patch_set.specs.PlainName.{file_name, plain_name}
use Rattle.flip_patch.specs.HeaderText.{header_text, name_lines, named_line, names_file, needs_index}
use Rattle.law_reading.specs.Said.{header_said, index_named, name_said, new_line, old_line}
use Rattle.law_reading.specs.TurnedPatches.{turned_header}
use Rattle.law_reading.proofs.FlipHeaders.{Head, behind-is, head_lines, heads_if, index-joined, index-of, index-of-clean, index-other, index-read, joined-if, last-three, minus-index, minus-minus, minus-plus, minus-stars, name-is, or-first, or-second, or-third, plus-index, plus-minus, plus-plus, prereq-none, read_header, same-header, shown, shown-no, shown-yes, stars-index, stars-minus, stars-stars, three, to-none}
use Rattle.law_reading.proofs.Hunks.{IsHunkForm}
use Rattle.law_reading.proofs.Names.{text_or_none}
use Rattle.law_reading.proofs.Lines.{Kind, Minus, Plus, Stars, Index, line_of, mark, quiet-line}
use Rattle.law_reading.proofs.Region.{IsShown}
use Rattle.law_reading.proofs.Shown.{AreRows, CleanIn, Shows, index-named-by, minus-shows, none-shows, opt_line, plus-shows, region-rows, stars-shows}

-- ---- lines of heads

abbrev pub AreClean : List Head → Type 0
AreClean hs = AllByRecursion (λ (h : Head). NoFeed h.1) hs

mark-clean : (k : Kind) → NoFeed (mark k)
mark-clean Minus = ((λ e. cc), ((λ e. cc), ((λ e. cc), ((λ e. cc), tt))))
mark-clean Plus = ((λ e. cc), ((λ e. cc), ((λ e. cc), ((λ e. cc), tt))))
mark-clean Stars = ((λ e. cc), ((λ e. cc), ((λ e. cc), ((λ e. cc), tt))))
mark-clean Index = ((λ e. cc), ((λ e. cc), ((λ e. cc), ((λ e. cc), ((λ e. cc), ((λ e. cc), ((λ e. cc), tt)))))))

pub heads-whole : (hs : List Head) → AreClean hs → AllByRecursion IsLine (head_lines hs)
heads-whole [] all = tt
heads-whole (h ∷ hs) all = (closes (mark h.0 ++ h.1) (no-feed-both (mark h.0) h.1 (mark-clean h.0) all.0), heads-whole hs all.1)

pub heads-quiet : (ways : ReadOptions) (hs : List Head) (rest : List (List ℕ)) → AreQuiet ways (head_lines hs) rest
heads-quiet ways [] rest = tt
heads-quiet ways (h ∷ hs) rest = (quiet-line ways h.0 h.1 (head_lines hs ++ rest), heads-quiet ways hs rest)

pub clean-heads : (xs ys : List Head) → AreClean xs → AreClean ys → AreClean (xs ++ ys)
clean-heads [] ys a b = b
clean-heads (x ∷ xs) ys a b = (a.0, clean-heads xs ys a.1 b)

pub clean-if : (k : Kind) (o : Option (List ℕ)) → CleanIn o → AreClean (heads_if k o)
clean-if k None a = tt
clean-if k (Some bs) a = (a, tt)

pub joined-heads : (xs ys : List Head) → joined (head_lines (xs ++ ys)) ≡ joined (head_lines xs) ++ joined (head_lines ys)
joined-heads xs ys = ap joined (map-append (λ (h : Head). line_of h.0 h.1) xs ys) ∙ flat_map-append (λ (l : List ℕ). l) (head_lines xs) (head_lines ys)

-- ---- one file patch

-- there is a first line
abbrev pub HasHead : List Head → Type 0
HasHead [] = ⊥
HasHead (h ∷ hs) = Unit {0}

pub record Headed (ways : ReadOptions) (text : List ℕ) (form : Form) (h : Header) : Type 0 where
  pub heads : List Head
  pub clean : AreClean heads
  pub some : HasHead heads
  pub is : header_text text form Reversed h ≡ joined (head_lines heads)
  pub said : (body : List (List ℕ)) → header_said ways (head_lines heads) body (Opening form) ≡ Some (turned_header (header_of text h))

-- what is known of the names of a header, and of the kinds of its lines
record Named (text : List ℕ) (form : Form) (h : Header) (k l : Kind) (new old index : Option (List ℕ)) : Type 0 where
  form_is : h.form ≡ form
  news : Shows text h.new_name h.new_stamp new
  olds : Shows text h.old_name h.old_stamp old
  index_name : bytes_in text h.index ≡ index_named index
  index_clean : CleanIn index
  no_to : bytes_in text h.to ≡ None
  lines : name_lines text form Reversed h ≡ opt_line (mark k) new ++ opt_line (mark l) old
  reads_old : (i : Option (List ℕ)) → old_line form (head_lines (three k l i new old)) ≡ new
  reads_new : (i : Option (List ℕ)) → new_line form (head_lines (three k l i new old)) ≡ old
  k_other : k ≢ Index
  l_other : l ≢ Index
  files : needs_index form (header_of text h) ≡ true → names_file (header_of text h) ≡ false
  first : needs_index form (header_of text h) ≡ false → HasHead (heads_if k new ++ heads_if l old)

needs-files : (form : Form) (text : List ℕ) (h : Header) (k l : Kind) (new old index : Option (List ℕ)) → Named text form h k l new old index → needs_index form (header_of text h) ≡ true → plain_name (header_of text h) ≡ text_or_none (header_of text h).index
needs-files form text h k l new old index n e = name-is (header_of text h) (n.files e) n.no_to

turned-is : (text : List ℕ) (form : Form) (h : Header) → h.form ≡ form → read_header form (header_of text h).new_name (header_of text h).old_name (cond (needs_index form (header_of text h)) (header_of text h).index None) h.new_stamp h.old_stamp ≡ turned_header (header_of text h)
turned-is text form h e = ap (λ f. read_header f (header_of text h).new_name (header_of text h).old_name (cond (needs_index f (header_of text h)) (header_of text h).index None) h.new_stamp h.old_stamp) (sym e)

pub some-heads : (v : Bool) (name : List ℕ) (more : List Head) → (v ≡ false → HasHead more) → HasHead (heads_if Index (index-of v name) ++ more)
some-heads true name more h = tt
some-heads false name more h = h refl

headed : (ways : ReadOptions) (text : List ℕ) (form : Form) (h : Header) (k l : Kind) (new old index : Option (List ℕ)) → Named text form h k l new old index → Headed ways text form h
headed ways text form h k l new old index n =
    let v : Bool = needs_index form (header_of text h) in
    let name : List ℕ = plain_name (header_of text h) in
    let i : Option (List ℕ) = index-of v name in
    let hs : List Head = three k l i new old in
    let named : v ≡ true → name ≡ text_or_none (header_of text h).index = needs-files form text h k l new old index n in
    let index_line_is = last-three (codes "Index:") k l i new old ∙ or-third (shown (codes "Index:") l old) (shown (codes "Index:") k new) (shown (codes "Index:") Index i) (shown-no (codes "Index:") l (index-other l n.l_other) old) (shown-no (codes "Index:") k (index-other k n.k_other) new) in
    let prereq_is = last-three (codes "Prereq:") k l i new old ∙ or-third (shown (codes "Prereq:") l old) (shown (codes "Prereq:") k new) (shown (codes "Prereq:") Index i) (shown-no (codes "Prereq:") l (prereq-none l) old) (shown-no (codes "Prereq:") k (prereq-none k) new) ∙ shown-no (codes "Prereq:") Index (prereq-none Index) i in
    record {
      heads = hs;
      clean = clean-heads (heads_if Index i) (heads_if k new ++ heads_if l old) (clean-if Index i (index-of-clean v name index (header_of text h).index n.index_name n.index_clean named)) (clean-heads (heads_if k new) (heads_if l old) (clean-if k new n.news.clean) (clean-if l old n.olds.clean));
      some = some-heads v name (heads_if k new ++ heads_if l old) n.first;
      is =
          ap (λ x. x ++ name_lines text form Reversed h) (index-joined v name)
          ∙ ap (λ x. joined (head_lines (heads_if Index i)) ++ x) (n.lines ∙ ap (λ x. x ++ opt_line (mark l) old) (sym (joined-if k new)) ∙ ap (λ x. joined (head_lines (heads_if k new)) ++ x) (sym (joined-if l old)) ∙ sym (joined-heads (heads_if k new) (heads_if l old)))
          ∙ sym (joined-heads (heads_if Index i) (heads_if k new ++ heads_if l old));
      said = λ body.
          ap (λ x. Some x)
          (behind-is ways form hs new old (shown (codes "Index:") Index i) (n.reads_old i) (n.reads_new i) index_line_is prereq_is
          ∙ same-header form _ _ _ _ _ _ _ _ _ _ (sym n.news.name) (sym n.olds.name) (index-read v name index (header_of text h).index n.index_name named) (sym n.news.stamp) (sym n.olds.stamp)
          ∙ turned-is text form h n.form_is);
    }

-- ---- the three forms

pub not-true : (b : Bool) → not b ≡ true → b ≡ false
not-true true e = absurd (cc)
not-true false e = refl

pub not-false : (b : Bool) → not b ≡ false → b ≡ true
not-false true e = refl
not-false false e = absurd (cc)

-- where a name is a file's, one of its lines is there
has-line : (k l : Kind) (a b : Option (List ℕ)) (x y : Option (List ℕ)) → x ≡ name_said b → y ≡ name_said a → (is_some (file_name x) || is_some (file_name y)) ≡ true → HasHead (heads_if k a ++ heads_if l b)
has-line k l (Some bs) b x y p q e = tt
has-line k l None (Some bs) x y p q e = tt
has-line k l None None x y p q e = let bad : false ≡ true = sym (ap (λ o. is_some (file_name o) || is_some (file_name y)) p ∙ ap (λ o. is_some (file_name None) || is_some (file_name o)) q) ∙ e in absurd (cc)

pub minus-is : Minus ≢ Index
minus-is e = cc

pub plus-is : Plus ≢ Index
plus-is e = cc

pub stars-is : Stars ≢ Index
stars-is e = cc

module _ (ways : ReadOptions) (text : List ℕ) (place number : ℕ) (rs : List Row) (all : AreRows text rs) where
  abbrev made : Form → Header
  made form = header_with text form place number (seen_for ways form text rs) (led_by ways form rs)

  none-to : (form : Form) → is_moved (action_of (lines_of (led_by ways form rs))) ≡ false → bytes_in text (made form).to ≡ None
  none-to form e = ap (bytes_in text) (to-none (action_of (lines_of (led_by ways form rs))) (led_by ways form rs) e)

  unified-named : is_moved (action_of (lines_of (led_by ways Unified rs))) ≡ false → Headed ways text Unified (made Unified)
  unified-named e =
      let ns = plus-shows text rs all (led_directly ways Unified rs) in
      let os = minus-shows text rs all (led_directly ways Unified rs) in
      let x = index-named-by text rs all (led_directly ways Unified rs) in
      let n : Named text Unified (made Unified) Minus Plus ns.0 os.0 x.0 = record {
        form_is = refl;
        news = ns.1;
        olds = os.1;
        index_name = x.1.name;
        index_clean = x.1.clean;
        no_to = none-to Unified e;
        lines = ap (λ t. t ++ named_line text (codes "+++ ") (made Unified).old_name) (ns.1.line (mark Minus)) ∙ ap (λ t. opt_line (mark Minus) ns.0 ++ t) (os.1.line (mark Plus));
        reads_old = λ i. last-three (codes "--- ") Minus Plus i ns.0 os.0 ∙ or-second (shown (codes "--- ") Plus os.0) (shown (codes "--- ") Minus ns.0) (shown (codes "--- ") Index i) ns.0 (shown-no (codes "--- ") Plus minus-plus os.0) (shown-yes (codes "--- ") Minus minus-minus ns.0) (shown-no (codes "--- ") Index minus-index i);
        reads_new = λ i. last-three (codes "+++ ") Minus Plus i ns.0 os.0 ∙ or-first (shown (codes "+++ ") Plus os.0) (shown (codes "+++ ") Minus ns.0) (shown (codes "+++ ") Index i) os.0 (shown-yes (codes "+++ ") Plus plus-plus os.0) (shown-no (codes "+++ ") Minus plus-minus ns.0) (shown-no (codes "+++ ") Index plus-index i);
        k_other = minus-is;
        l_other = plus-is;
        files = λ need. not-true (names_file (header_of text (made Unified))) need;
        first = λ need. has-line Minus Plus ns.0 os.0 (header_of text (made Unified)).old_name (header_of text (made Unified)).new_name os.1.name ns.1.name (not-false (names_file (header_of text (made Unified))) need);
      } in
      headed ways text Unified (made Unified) Minus Plus ns.0 os.0 x.0 n

  context-named : is_moved (action_of (lines_of (led_by ways Context rs))) ≡ false → Headed ways text Context (made Context)
  context-named e =
      let ns = minus-shows text rs all (led_directly ways Context rs) in
      let os = stars-shows text rs all (led_directly ways Context rs) in
      let x = index-named-by text rs all (led_directly ways Context rs) in
      let n : Named text Context (made Context) Stars Minus ns.0 os.0 x.0 = record {
        form_is = refl;
        news = ns.1;
        olds = os.1;
        index_name = x.1.name;
        index_clean = x.1.clean;
        no_to = none-to Context e;
        lines = ap (λ t. t ++ named_line text (codes "--- ") (made Context).old_name) (ns.1.line (mark Stars)) ∙ ap (λ t. opt_line (mark Stars) ns.0 ++ t) (os.1.line (mark Minus));
        reads_old = λ i. last-three (codes "*** ") Stars Minus i ns.0 os.0 ∙ or-second (shown (codes "*** ") Minus os.0) (shown (codes "*** ") Stars ns.0) (shown (codes "*** ") Index i) ns.0 (shown-no (codes "*** ") Minus stars-minus os.0) (shown-yes (codes "*** ") Stars stars-stars ns.0) (shown-no (codes "*** ") Index stars-index i);
        reads_new = λ i. last-three (codes "--- ") Stars Minus i ns.0 os.0 ∙ or-first (shown (codes "--- ") Minus os.0) (shown (codes "--- ") Stars ns.0) (shown (codes "--- ") Index i) os.0 (shown-yes (codes "--- ") Minus minus-minus os.0) (shown-no (codes "--- ") Stars minus-stars ns.0) (shown-no (codes "--- ") Index minus-index i);
        k_other = stars-is;
        l_other = minus-is;
        files = λ need. not-true (names_file (header_of text (made Context))) need;
        first = λ need. has-line Stars Minus ns.0 os.0 (header_of text (made Context)).old_name (header_of text (made Context)).new_name os.1.name ns.1.name (not-false (names_file (header_of text (made Context))) need);
      } in
      headed ways text Context (made Context) Stars Minus ns.0 os.0 x.0 n

  normal-named : is_moved (action_of (lines_of (led_by ways Normal rs))) ≡ false → Headed ways text Normal (made Normal)
  normal-named e =
      let x = index-named-by text rs all (led_directly ways Normal rs) in
      let n : Named text Normal (made Normal) Minus Plus None None x.0 = record {
        form_is = refl;
        news = none-shows text;
        olds = none-shows text;
        index_name = x.1.name;
        index_clean = x.1.clean;
        no_to = none-to Normal e;
        lines = refl;
        reads_old = λ i. refl;
        reads_new = λ i. refl;
        k_other = minus-is;
        l_other = plus-is;
        files = λ need. refl;
        first = λ need. absurd (cc);
      } in
      headed ways text Normal (made Normal) Minus Plus None None x.0 n

  any-named : (form : Form) → IsHunkForm form → is_moved (action_of (lines_of (led_by ways form rs))) ≡ false → Headed ways text form (made form)
  any-named Unified is e = unified-named e
  any-named Context is e = context-named e
  any-named Normal is e = normal-named e
  any-named Ed is e = absurd is

-- what is written in front of the hunks of a file patch that was read
pub shown-headed : (ways : ReadOptions) (text : List ℕ) (h : Header) → IsShown ways text h → IsHunkForm h.form → is_moved h.action ≡ false → Headed ways text h.form h
shown-headed ways text h s is e =
    let rs = rows s.line s.at s.region in
    let all = region-rows text s.line s.at s.region s.first s.rest s.ahead in
    subst (Headed ways text h.form) (sym s.is) (any-named ways text s.place s.number rs all h.form is (sym (ap (λ (x : Header). is_moved x.action) s.is) ∙ e))
