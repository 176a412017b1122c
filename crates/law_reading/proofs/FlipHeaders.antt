-- The header lines that are written of a file patch, read again.
use Rattle.std.proofs.Common.{◌≡◌, ◌≢◌, ℕ, ◌+◌, Bool, true, false, cond, ◌&&◌, ◌||◌, List, [], ◌∷◌, ◌++◌, length, map, reverse, append_assoc, Option, None, Some, refl, sym, ap, subst, ◌∙◌}
use Rattle.std.specs.Prelude.{is_some, codes, unwrap_or}
use Rattle.std.specs.List.{AllByRecursion}
use Rattle.std.specs.Option.{option_map_or, option_or}
use Rattle.std.proofs.lemmas.List.{append-nil, map-append, reverse-append}
use Rattle.line_list.proofs.Pieces.{joined}
use Rattle.line_list.proofs.WholeLines.{NoFeed}
use Rattle.hunk_core.specs.declared.Form.{Form}
use Rattle.hunk_core.specs.LineTests.{after}
use Rattle.stamp.specs.declared.Stamp.{Stamp}
use Rattle.patch_header.specs.GitHeaders.{action_of, is_git_line, is_extended, starts}
use Rattle.patch_header.specs.GitRows.{header_back, led_rows, lines_of, new_name_back, old_name_back, is_unified, to_by as git_to_by, with_row}
use Rattle.patch_header.specs.Region.{Row, first_some, rows}
use Rattle.read_header_record.specs.declared.Action.{Action}
use Rattle.read_header_record.specs.declared.Action.TheVariants as actions
use Rattle.patch_header.specs.declared.read_options.ReadOptions.{ReadOptions}
use Rattle.read_file_patch.specs.Actions.{is_moved}
use Rattle.read_file_patch.specs.PlainPatch.{PlainHeader}
use Rattle.patch_set.specs.PlainName.{better_of, file_name, plain_name}
use Rattle.flip_patch.specs.HeaderText.{index_line, names_file}
use Rattle.law_reading.specs.Said.{behind, header_behind, from_by, index_named, is_direct, last_behind, led_lines, name_said, new_line, old_line, stamp_said, to_by, word_said}
use Rattle.law_reading.proofs.HeaderLines.{all-reverse}
use Rattle.patch_header.specs.Written.{holds_space, name_end}
use Rattle.law_reading.proofs.Lines.{Kind, Minus, Plus, Stars, Index, content-closed, git-none, line_of, mark}
use Rattle.law_reading.proofs.Names.{index-clean, said-again, tab_if, text_or_none}
use Rattle.law_reading.proofs.Shown.{CleanIn, opt_line}

abbrev pub Head : Type 0
Head = Kind × List ℕ

abbrev pub head_lines : List Head → List (List ℕ)
head_lines hs = map (λ h. line_of h.0 h.1) hs

abbrev pub heads_if : Kind → Option (List ℕ) → List Head
heads_if k None = []
heads_if k (Some bs) = (k, bs) ∷ []

-- an index line, and lines of two names
abbrev pub three : Kind → Kind → Option (List ℕ) → Option (List ℕ) → Option (List ℕ) → List Head
three k l i a b = heads_if Index i ++ (heads_if k a ++ heads_if l b)

-- ---- the last line of a kind

-- what a line of this kind shows to a reader of lines that begin so
abbrev pub shown : List ℕ → Kind → Option (List ℕ) → Option (List ℕ)
shown m k None = None
shown m k (Some bs) = after m (mark k ++ bs)

some-else : (o : Option (List ℕ)) → cond (is_some o) o None ≡ o
some-else None = refl
some-else (Some x) = refl

last-if : (m : List ℕ) (k : Kind) (o : Option (List ℕ)) → last_behind m (head_lines (heads_if k o)) ≡ shown m k o
last-if m k None = refl
last-if m k (Some bs) = some-else (behind m (line_of k bs)) ∙ ap (after m) (content-closed (mark k ++ bs))

first-both : (f : List ℕ → Option (List ℕ)) (xs ys : List (List ℕ)) → first_some f (xs ++ ys) ≡ option_or (first_some f xs) (first_some f ys)
first-both f [] ys = refl
first-both f (x ∷ xs) ys = by (f x) (first-both f xs ys)
  where
    by : (o : Option (List ℕ)) → first_some f (xs ++ ys) ≡ option_or (first_some f xs) (first_some f ys) → cond (is_some o) o (first_some f (xs ++ ys)) ≡ option_or (cond (is_some o) o (first_some f xs)) (first_some f ys)
    by None again = again
    by (Some v) again = refl

last-both : (m : List ℕ) (xs ys : List Head) → last_behind m (head_lines (xs ++ ys)) ≡ option_or (last_behind m (head_lines ys)) (last_behind m (head_lines xs))
last-both m xs ys =
    ap (λ ls. first_some (behind m) (reverse ls)) (map-append (λ (h : Head). line_of h.0 h.1) xs ys)
    ∙ ap (first_some (behind m)) (reverse-append (head_lines xs) (head_lines ys))
    ∙ first-both (behind m) (reverse (head_lines ys)) (reverse (head_lines xs))

pub last-three : (m : List ℕ) (k l : Kind) (i a b : Option (List ℕ)) → last_behind m (head_lines (three k l i a b)) ≡ option_or (option_or (shown m l b) (shown m k a)) (shown m Index i)
last-three m k l i a b =
    last-both m (heads_if Index i) (heads_if k a ++ heads_if l b)
    ∙ ap (λ o. option_or o (last_behind m (head_lines (heads_if Index i)))) (last-both m (heads_if k a) (heads_if l b) ∙ ap (λ o. option_or o (last_behind m (head_lines (heads_if k a)))) (last-if m l b) ∙ ap (option_or (shown m l b)) (last-if m k a))
    ∙ ap (option_or (option_or (shown m l b) (shown m k a))) (last-if m Index i)

pub shown-no : (m : List ℕ) (k : Kind) → ((bs : List ℕ) → after m (mark k ++ bs) ≡ None) → (o : Option (List ℕ)) → shown m k o ≡ None
shown-no m k h None = refl
shown-no m k h (Some bs) = h bs

pub shown-yes : (m : List ℕ) (k : Kind) → ((bs : List ℕ) → after m (mark k ++ bs) ≡ Some bs) → (o : Option (List ℕ)) → shown m k o ≡ o
shown-yes m k h None = refl
shown-yes m k h (Some bs) = h bs

or-none : (o : Option (List ℕ)) → option_or o None ≡ o
or-none None = refl
or-none (Some x) = refl

pub or-second : (a b c o : Option (List ℕ)) → a ≡ None → b ≡ o → c ≡ None → option_or (option_or a b) c ≡ o
or-second a b c o p q r = rw (p, q, r) (or-none o)

pub or-first : (a b c o : Option (List ℕ)) → a ≡ o → b ≡ None → c ≡ None → option_or (option_or a b) c ≡ o
or-first a b c o p q r = rw (p, q, r) (or-none (option_or o None) ∙ or-none o)

pub or-third : (a b c : Option (List ℕ)) → a ≡ None → b ≡ None → option_or (option_or a b) c ≡ c
or-third a b c p q = rw (p, q) refl

-- ---- the marks

pub minus-minus : (bs : List ℕ) → after (codes "--- ") (mark Minus ++ bs) ≡ Some bs
unfolding after
minus-minus bs = refl

pub minus-plus : (bs : List ℕ) → after (codes "--- ") (mark Plus ++ bs) ≡ None
unfolding after
minus-plus bs = refl

pub minus-stars : (bs : List ℕ) → after (codes "--- ") (mark Stars ++ bs) ≡ None
unfolding after
minus-stars bs = refl

pub minus-index : (bs : List ℕ) → after (codes "--- ") (mark Index ++ bs) ≡ None
unfolding after
minus-index bs = refl

pub plus-minus : (bs : List ℕ) → after (codes "+++ ") (mark Minus ++ bs) ≡ None
unfolding after
plus-minus bs = refl

pub plus-plus : (bs : List ℕ) → after (codes "+++ ") (mark Plus ++ bs) ≡ Some bs
unfolding after
plus-plus bs = refl

pub plus-index : (bs : List ℕ) → after (codes "+++ ") (mark Index ++ bs) ≡ None
unfolding after
plus-index bs = refl

pub stars-stars : (bs : List ℕ) → after (codes "*** ") (mark Stars ++ bs) ≡ Some bs
unfolding after
stars-stars bs = refl

pub stars-minus : (bs : List ℕ) → after (codes "*** ") (mark Minus ++ bs) ≡ None
unfolding after
stars-minus bs = refl

pub stars-index : (bs : List ℕ) → after (codes "*** ") (mark Index ++ bs) ≡ None
unfolding after
stars-index bs = refl

pub index-other : (k : Kind) → k ≢ Index → (bs : List ℕ) → after (codes "Index:") (mark k ++ bs) ≡ None
unfolding after
index-other Minus other bs = refl
index-other Plus other bs = refl
index-other Stars other bs = refl
index-other Index other bs = absurd (other refl)

pub index-index : (bs : List ℕ) → after (codes "Index:") (mark Index ++ bs) ≡ Some (32 ∷ bs)
unfolding after
index-index bs = refl

pub prereq-none : (k : Kind) (bs : List ℕ) → after (codes "Prereq:") (mark k ++ bs) ≡ None
unfolding after
prereq-none Minus bs = refl
prereq-none Plus bs = refl
prereq-none Stars bs = refl
prereq-none Index bs = refl

-- ---- no git header leads

all-rows : (number at : ℕ) (hs : List Head) → AllByRecursion (λ (r : Row). is_git_line r.line ≡ false) (rows number at (head_lines hs))
all-rows number at [] = tt
all-rows number at (h ∷ hs) = (git-none h.0 h.1, all-rows (number + 1) (at + length (line_of h.0 h.1)) hs)

no-header : (rs : List Row) → AllByRecursion (λ (r : Row). is_git_line r.line ≡ false) rs → header_back rs ≡ None
unfolding header_back
no-header [] all = refl
no-header (r ∷ rs) all = let again : header_back rs ≡ None = no-header rs all.1 in rw (all.0, again) (by (is_extended r.line))
  where
    by : (v : Bool) → cond v (with_row None r) None ≡ None
    by true = refl
    by false = refl

no-old : (rs : List Row) → AllByRecursion (λ (r : Row). is_git_line r.line ≡ false) rs → old_name_back rs ≡ None
unfolding old_name_back
no-old [] all = refl
no-old (r ∷ rs) all = rw (no-header rs all.1) (by (starts (codes "--- ") r.line))
  where
    by : (v : Bool) → cond v (let x : Option (List Row) = None in x) None ≡ None
    by true = refl
    by false = refl

no-new : (rs : List Row) → AllByRecursion (λ (r : Row). is_git_line r.line ≡ false) rs → new_name_back rs ≡ None
unfolding new_name_back
no-new [] all = refl
no-new (r ∷ rs) all = rw (no-old rs all.1) (by (starts (codes "+++ ") r.line))
  where
    by : (v : Bool) → cond v (let x : Option (List Row) = None in x) None ≡ None
    by true = refl
    by false = refl

none-leads : (ways : ReadOptions) (form : Form) (hs : List Head) → led_lines ways form (head_lines hs) ≡ []
none-leads ways form hs =
    let back = reverse (rows 0 0 (head_lines hs)) in
    let all = all-reverse (λ (r : Row). is_git_line r.line ≡ false) (rows 0 0 (head_lines hs)) (all-rows 0 0 hs) in
    let none : led_rows (rows 0 0 (head_lines hs)) ≡ [] = ap (λ o. unwrap_or (option_or o (header_back back)) []) (no-new back all) ∙ ap (λ o. unwrap_or o []) (no-header back all) in
    by (ways.git && is_unified form) none
  where
    by : (v : Bool) → led_rows (rows 0 0 (head_lines hs)) ≡ [] → lines_of (cond v (led_rows (rows 0 0 (head_lines hs))) []) ≡ []
    by true e = ap lines_of e
    by false e = refl

none-directly : (ways : ReadOptions) (form : Form) (hs : List Head) → is_direct ways form (head_lines hs) ≡ false
none-directly ways form hs =
    ap (λ o. (ways.git && is_unified form) && is_some o) (no-header (reverse (rows 0 0 (head_lines hs))) (all-reverse (λ (r : Row). is_git_line r.line ≡ false) (rows 0 0 (head_lines hs)) (all-rows 0 0 hs)))
    ∙ by (ways.git && is_unified form)
  where
    by : (v : Bool) → (v && false) ≡ false
    by true = refl
    by false = refl

-- ---- what is read

abbrev pub read_header : Form → Option (List ℕ) → Option (List ℕ) → Option (List ℕ) → Stamp → Stamp → PlainHeader
read_header form old new index a b = record {
  form = form;
  opening = 0;
  names_line = 0;
  old_name = old;
  new_name = new;
  index = index;
  prereq = None;
  old_stamp = a;
  new_stamp = b;
  action = actions.Plain;
  bare = false;
  from = None;
  to = None;
  old_mode = None;
  new_mode = None;
}

abbrev with_action : Form → Option (List ℕ) → Option (List ℕ) → Option (List ℕ) → Option (List ℕ) → Action → PlainHeader
with_action form old new index prereq action = record {
  form = form;
  opening = 0;
  names_line = 0;
  old_name = name_said old;
  new_name = name_said new;
  index = index_named index;
  prereq = word_said prereq;
  old_stamp = stamp_said old;
  new_stamp = stamp_said new;
  action = action;
  bare = false;
  from = from_by action [];
  to = to_by action [];
  old_mode = None;
  new_mode = None;
}

plain-none : action_of [] ≡ actions.Plain
unfolding action_of
plain-none = refl

pub behind-is : (ways : ReadOptions) (form : Form) (hs : List Head) (old new index : Option (List ℕ)) → old_line form (head_lines hs) ≡ old → new_line form (head_lines hs) ≡ new → last_behind (codes "Index:") (head_lines hs) ≡ index → last_behind (codes "Prereq:") (head_lines hs) ≡ None
    → header_behind form (head_lines hs) (is_direct ways form (head_lines hs)) (led_lines ways form (head_lines hs)) ≡ read_header form (name_said old) (name_said new) (index_named index) (stamp_said old) (stamp_said new)
behind-is ways form hs old new index a b c d =
    ap (λ v. header_behind form (head_lines hs) v (led_lines ways form (head_lines hs))) (none-directly ways form hs)
    ∙ ap (header_behind form (head_lines hs) false) (none-leads ways form hs)
    ∙ ap (with_action form (old_line form (head_lines hs)) (new_line form (head_lines hs)) (last_behind (codes "Index:") (head_lines hs)) (last_behind (codes "Prereq:") (head_lines hs))) plain-none
    ∙ ap (λ o. with_action form o (new_line form (head_lines hs)) (last_behind (codes "Index:") (head_lines hs)) (last_behind (codes "Prereq:") (head_lines hs)) actions.Plain) a
    ∙ ap (λ o. with_action form old o (last_behind (codes "Index:") (head_lines hs)) (last_behind (codes "Prereq:") (head_lines hs)) actions.Plain) b
    ∙ ap (λ o. with_action form old new o (last_behind (codes "Prereq:") (head_lines hs)) actions.Plain) c
    ∙ ap (λ o. with_action form old new index o actions.Plain) d

pub same-header : (form : Form) (a b c d e f : Option (List ℕ)) (s t u v : Stamp) → a ≡ d → b ≡ e → c ≡ f → s ≡ u → t ≡ v → read_header form a b c s t ≡ read_header form d e f u v
same-header form a b c d e f s t u v p q r x y =
    ap (λ o. read_header form o b c s t) p ∙ ap (λ o. read_header form d o c s t) q ∙ ap (λ o. read_header form d e o s t) r ∙ ap (λ o. read_header form d e f o t) x ∙ ap (λ o. read_header form d e f u o) y

-- ---- the index line

abbrev pub index-of : Bool → List ℕ → Option (List ℕ)
index-of true name = Some (name ++ tab_if name)
index-of false name = None

end-parts : (name : List ℕ) → name_end name ≡ tab_if name ++ 10 ∷ []
end-parts name = by (holds_space name)
  where
    by : (v : Bool) → let x : List ℕ = cond v (9 ∷ 10 ∷ []) (10 ∷ []) in let y : List ℕ = cond v (9 ∷ []) [] in x ≡ y ++ 10 ∷ []
    by true = refl
    by false = refl

pub joined-if : (k : Kind) (o : Option (List ℕ)) → joined (head_lines (heads_if k o)) ≡ opt_line (mark k) o
joined-if k None = refl
joined-if k (Some bs) = append-nil (line_of k bs)

pub index-joined : (v : Bool) (name : List ℕ) → cond v (index_line name) [] ≡ joined (head_lines (heads_if Index (index-of v name)))
index-joined false name = refl
index-joined true name =
    ap (λ x. codes "Index: " ++ (name ++ x)) (end-parts name)
    ∙ ap (λ x. codes "Index: " ++ x) (sym (append_assoc name (tab_if name) (10 ∷ [])))
    ∙ sym (joined-if Index (Some (name ++ tab_if name)))

pub neither : (a b : Option (List ℕ)) → (is_some a || is_some b) ≡ false → (a ≡ None) × (b ≡ None)
neither None None e = (refl, refl)
neither None (Some y) e = absurd (cc)
neither (Some x) b e = absurd (cc)

-- where no line of a name says which file is meant, the index name does
pub name-is : (hd : PlainHeader) → names_file hd ≡ false → hd.to ≡ None → plain_name hd ≡ text_or_none hd.index
name-is hd none to =
    let both = neither (file_name hd.old_name) (file_name hd.new_name) none in
    ap (λ o. option_map_or (λ name. name) (option_or (better_of o (file_name hd.new_name)) (option_or hd.to hd.index)) []) both.0
    ∙ ap (λ o. option_map_or (λ name. name) (option_or (better_of None o) (option_or hd.to hd.index)) []) both.1
    ∙ ap (λ o. option_map_or (λ name. name) (option_or o hd.index) []) to

pub to-none : (a : Action) (rs : List Row) → is_moved a ≡ false → git_to_by a rs ≡ None
to-none actions.Plain rs e = refl
to-none actions.New rs e = refl
to-none actions.Deleted rs e = refl
to-none actions.Rename rs e = absurd (cc)
to-none actions.Copy rs e = absurd (cc)

pub index-read : (v : Bool) (name : List ℕ) (o index : Option (List ℕ)) → index ≡ index_named o → (v ≡ true → name ≡ text_or_none index) → index_named (shown (codes "Index:") Index (index-of v name)) ≡ cond v index None
index-read false name o index e h = refl
index-read true name o index e h =
    ap index_named (index-index (name ++ tab_if name))
    ∙ ap (λ n. index_named (Some (32 ∷ (n ++ tab_if n)))) (h refl ∙ ap text_or_none e)
    ∙ said-again o ∙ sym e

pub index-of-clean : (v : Bool) (name : List ℕ) (o index : Option (List ℕ)) → index ≡ index_named o → CleanIn o → (v ≡ true → name ≡ text_or_none index) → CleanIn (index-of v name)
index-of-clean false name o index e clean h = tt
index-of-clean true name o index e clean h = subst (λ n. NoFeed (n ++ tab_if n)) (sym (h refl ∙ ap text_or_none e)) (index-clean o clean)
