-- The lines in which the names of a header stand, as they are copied.
use Rattle.std.proofs.Common.{◌≡◌, ℕ, zero, suc, ◌+◌, ◌≤◌, Bool, true, false, cond, not, eqb, List, [], ◌∷◌, ◌++◌, length, take, drop, reverse, append_assoc, Option, None, Some, refl, sym, ap, subst, ◌∙◌, arith}
use Rattle.std.specs.Prelude.{codes, is_some, option_map, nat_lt, unwrap_or}
use Rattle.std.specs.List.{AllByRecursion, position, position_or_len, prefix_len}
use Rattle.std.proofs.Math.Seq.{drop-append_seam, take-append_seam}
use Rattle.std.proofs.lemmas.Bool.Decides.{nat_tests}
use Rattle.std.proofs.lemmas.List.{drop-append-le, drop-drop, length-drop, take-append-drop}
use Rattle.std.proofs.lemmas.List.Sums.{prefix_len-le-length}
use Rattle.std.proofs.lemmas.Bool.{eqb-true, or_parts}
use Rattle.std.proofs.lemmas.Option.{same_Some}
use Rattle.line_list.specs.declared.Span.{Span}
use Rattle.line_list.specs.Lines.{ArePieces, IsLine, lines}
use Rattle.line_list.proofs.Pieces.{line-first, lines-pieces}
use Rattle.line_list.proofs.WholeLines.{NoFeed, no-feed-take}
use Rattle.hunk_core.specs.LineTests.{after}
use Rattle.hunk_core.proofs.TextLemmas.{after-takes}
use Rattle.unified_form.proofs.Canonical.{closes}
use Rattle.stamp.specs.declared.Stamp.{Stamp}
use Rattle.stamp.specs.declared.Stamp.TheVariants.{Unknown}
use Rattle.stamp.specs.Reading.{stamp_of}
use Rattle.stamp.specs.Reading as reading
use Rattle.patch_header.specs.Content.{content}
use Rattle.patch_header.specs.GitRows.{both_names, git_name, seen_by}
use Rattle.patch_header.specs.Region.{Row, first_some, last_tail, rows, seen_in, tail_of}
use Rattle.patch_header.specs.Values.{behind_name, blanks, bytes_of, first, index_in, is_blank, bare_length, name_in, name_length, span_at, stamp_in, unblanked}
use Rattle.patch_header.specs.declared.git_names.Pair.{Pair}
use Rattle.patch_header.specs.declared.region.Tail.{Tail}
use Rattle.read_file_patch.specs.PlainPatch.{bytes_in}
use Rattle.flip_patch.specs.HeaderText.{first_line, named_line, rest_of_line}
use Rattle.law_reading.specs.Said.{bytes_before, git_named, index_named, name_said, part_of, stamp_said}
use Rattle.law_reading.proofs.HeaderLines.{all-reverse, first-short, index-bytes, span-bytes, tail-bytes, name-short}
use Rattle.law_reading.proofs.Headers.{git-part}
use Rattle.law_reading.proofs.Places.{StandsAt, rows-stand}
use Rattle.law_reading.proofs.Lines.{closed, content-closed}

pub clean-drop : (k : ℕ) (bs : List ℕ) → NoFeed bs → NoFeed (drop k bs)
clean-drop zero bs all = all
clean-drop (suc k) [] all = tt
clean-drop (suc k) (b ∷ bs) all = clean-drop k bs all.1

pub clean-behind : (fs bs : List ℕ) → NoFeed (fs ++ bs) → NoFeed bs
clean-behind [] bs all = all
clean-behind (f ∷ fs) bs all = clean-behind fs bs all.1

pub line-clean : (bs : List ℕ) → IsLine (closed bs) → NoFeed bs
line-clean [] l = tt
line-clean (b ∷ []) l = (l.0, tt)
line-clean (b ∷ c ∷ bs) l = (l.0, line-clean (c ∷ bs) l.1)

-- a whole line is its content and a line feed
pub line-parts : (line : List ℕ) → IsLine line → (bs : List ℕ) × (line ≡ closed bs)
line-parts [] l = absurd l
line-parts (b ∷ []) l = ([], ap (λ x. x ∷ []) l)
line-parts (b ∷ c ∷ bs) l = let more = line-parts (c ∷ bs) l.1 in (b ∷ more.0, ap (λ xs. b ∷ xs) more.1)

-- ---- the rows of a region

pub record IsRow (text : List ℕ) (r : Row) : Type 0 where
  pub stands : StandsAt text r
  pub whole : IsLine r.line

abbrev pub AreRows : List ℕ → List Row → Type 0
AreRows text rs = AllByRecursion (IsRow text) rs

pub front-whole : (own : List (List ℕ)) (line : List ℕ) (more : List (List ℕ)) → ArePieces (own ++ line ∷ more) → AllByRecursion IsLine own
front-whole [] line more p = tt
front-whole (l ∷ []) line more p = (p.0, tt)
front-whole (l ∷ k ∷ own) line more p = (p.0, front-whole (k ∷ own) line more p.1)

both-rows : (text : List ℕ) (number at : ℕ) (own : List (List ℕ)) → AllByRecursion (StandsAt text) (rows number at own) → AllByRecursion IsLine own → AreRows text (rows number at own)
both-rows text number at [] a b = tt
both-rows text number at (l ∷ own) a b = (record { stands = a.0; whole = b.0 }, both-rows text (number + 1) (at + length l) own a.1 b.1)

pub region-rows : (text : List ℕ) (number at : ℕ) (own : List (List ℕ)) (line : List ℕ) (more : List (List ℕ)) → lines (drop at text) ≡ own ++ line ∷ more → AreRows text (rows number at own)
region-rows text number at own line more e =
    both-rows text number at own (rows-stand text number at own (line ∷ more) e) (front-whole own line more (subst ArePieces e (lines-pieces (drop at text))))

first-in : (P : Row → Type 0) (m : List ℕ) (rs : List Row) (t : Tail) → AllByRecursion P rs → first_some (tail_of m) rs ≡ Some t → (r : Row) × (P r × (tail_of m r ≡ Some t))
first-in P m [] t all e = absurd (cc)
first-in P m (r ∷ rs) t all e = by (tail_of m r) refl (first-in P m rs t all.1) e
  where
    by : (o : Option Tail) → tail_of m r ≡ o → (first_some (tail_of m) rs ≡ Some t → (q : Row) × (P q × (tail_of m q ≡ Some t))) → first_some (tail_of m) (r ∷ rs) ≡ Some t → (q : Row) × (P q × (tail_of m q ≡ Some t))
    by None is again h = again (sym (rw is refl) ∙ h)
    by (Some u) is again h = (r, (all.0, sym (rw is refl) ∙ h))

-- ---- the bytes of a tail

pub record IsTail (text : List ℕ) (t : Tail) (b : List ℕ) : Type 0 where
  pub bytes : bytes_of text t ≡ b
  pub rest : List ℕ
  pub on : drop t.start text ≡ closed b ++ rest
  pub clean : NoFeed b

tail-start : (m : List ℕ) (r : Row) (t : Tail) (b : List ℕ) → after m (content r.line) ≡ Some b → tail_of m r ≡ Some t → t.start ≡ r.start + length m
tail-start m r t b e is =
    let u : Tail = record { number = r.number; start = r.start + length m; end = r.start + length (content r.line) } in
    let made : tail_of m r ≡ Some u = ap (λ o. cond (is_some o) (Some u) None) e in
    ap (λ (x : Tail). x.start) (sym (same_Some u t (sym made ∙ is)))

tail-some : (m : List ℕ) (r : Row) (t : Tail) → tail_of m r ≡ Some t → (b : List ℕ) × (after m (content r.line) ≡ Some b)
tail-some m r t is = by (after m (content r.line)) refl
  where
    by : (o : Option (List ℕ)) → after m (content r.line) ≡ o → (b : List ℕ) × (after m (content r.line) ≡ Some b)
    by None e = let bad : None ≡ Some t = sym (rw e refl) ∙ is in absurd (cc)
    by (Some b) e = (b, e)

pub row-tail : (text m : List ℕ) (r : Row) (t : Tail) → IsRow text r → tail_of m r ≡ Some t → (b : List ℕ) × IsTail text t b
row-tail text m r t row is =
    let w = tail-some m r t is in
    let b = w.0 in
    let p = line-parts r.line row.whole in
    let same : p.0 ≡ m ++ w.0 = sym (ap content p.1 ∙ content-closed p.0) ∙ after-takes m (content r.line) w.0 w.1 in
    let line : r.line ≡ closed (m ++ w.0) = p.1 ∙ ap closed same in
    let rest : List ℕ = drop (length r.line) (drop r.start text) in
    let whole : drop r.start text ≡ closed (m ++ w.0) ++ rest = sym (take-append-drop (length r.line) (drop r.start text)) ∙ ap (λ x. x ++ rest) (row.stands.bytes ∙ line) in
    let start = tail-start m r t w.0 w.1 is in
    let bytes : Some (bytes_of text t) ≡ Some w.0 = sym (ap (option_map (bytes_of text)) is) ∙ tail-bytes text m r row.stands ∙ w.1 in (
      w.0,
      record {
        bytes = same_Some (bytes_of text t) w.0 bytes;
        rest = rest;
        on = ap (λ n. drop n text) start ∙ sym (drop-drop (length m) r.start text) ∙ ap (drop (length m)) (whole ∙ ap (λ x. x ++ rest) (append_assoc m w.0 (10 ∷ [])) ∙ append_assoc m (closed w.0) rest) ∙ drop-append_seam m (closed w.0 ++ rest);
        clean = clean-behind m w.0 (line-clean (m ++ w.0) (subst IsLine line row.whole));
      },
    )

-- ---- blanks

pub first-is : (test : ℕ → Bool) (bs : List ℕ) → first test bs ≡ position_or_len test bs
first-is test bs = by (nat_lt (position_or_len test bs) (length bs)) refl
  where
    by : (v : Bool) → nat_lt (position_or_len test bs) (length bs) ≡ v → unwrap_or (cond v (Some (position_or_len test bs)) None) (length bs) ≡ position_or_len test bs
    by true e = refl
    by false e = let le : length bs ≤ position_or_len test bs = grind (arith, nat_tests) in omega (arith, le, prefix_len-le-length (λ x. not (test x)) bs)

prefix-again : (p : ℕ → Bool) (bs : List ℕ) → prefix_len p (drop (prefix_len p bs) bs) ≡ 0
prefix-again p [] = refl
prefix-again p (b ∷ bs) = by (p b) refl (prefix-again p bs)
  where
    by : (v : Bool) → p b ≡ v → prefix_len p (drop (prefix_len p bs) bs) ≡ 0 → prefix_len p (drop (prefix_len p (b ∷ bs)) (b ∷ bs)) ≡ 0
    by true e again = let s : prefix_len p (b ∷ bs) ≡ suc (prefix_len p bs) = rw e (omega arith) in ap (λ k. prefix_len p (drop k (b ∷ bs))) s ∙ again
    by false e again = let z : prefix_len p (b ∷ bs) ≡ 0 = rw e refl in ap (λ k. prefix_len p (drop k (b ∷ bs))) z ∙ z

pub blanks-none : (bs : List ℕ) → blanks (unblanked bs) ≡ 0
blanks-none bs =
    first-is (λ b. not (is_blank b)) (unblanked bs)
    ∙ ap (λ k. position_or_len (λ b. not (is_blank b)) (drop k bs)) (first-is (λ b. not (is_blank b)) bs)
    ∙ prefix-again (λ x. not (not (is_blank x))) bs

pub unblanked-twice : (bs : List ℕ) → unblanked (unblanked bs) ≡ unblanked bs
unblanked-twice bs = ap (λ k. drop k (unblanked bs)) (blanks-none bs)

-- ---- a name, and the line that it is copied with

abbrev pub opt_line : List ℕ → Option (List ℕ) → List ℕ
opt_line m None = []
opt_line m (Some bs) = closed (m ++ bs)

abbrev pub CleanIn : Option (List ℕ) → Type 0
CleanIn None = Unit {0}
CleanIn (Some bs) = NoFeed bs

pub record Shows (text : List ℕ) (span : Option Span) (told : Stamp) (o : Option (List ℕ)) : Type 0 where
  pub line : (m : List ℕ) → named_line text m span ≡ opt_line m o
  pub name : bytes_in text span ≡ name_said o
  pub stamp : told ≡ stamp_said o
  pub clean : CleanIn o

rest-is : (text : List ℕ) (t : Tail) (b : List ℕ) (k n : ℕ) → IsTail text t b → k ≤ length b → rest_of_line text (record { start = t.start + k; end = t.start + k + n }) ≡ closed (drop k b)
rest-is text t b k n at le =
    let here : drop (t.start + k) text ≡ closed (drop k b) ++ at.rest =
    sym (drop-drop k t.start text) ∙ ap (drop k) (at.on ∙ append_assoc b (10 ∷ []) at.rest) ∙ drop-append-le k b (10 ∷ at.rest) le ∙ sym (append_assoc (drop k b) (10 ∷ []) at.rest) in
    ap (λ x. first_line (lines x)) here ∙ ap first_line (line-first (closed (drop k b)) at.rest (closes (drop k b) (clean-drop k b at.clean)))

no-stamp : stamp_of (behind_name []) ≡ Unknown
unfolding reading.numeric_of reading.numeric_day reading.four_at reading.two_at reading.digit_at reading.named_of
no-stamp = refl

pos-is : (test : ℕ → Bool) (bs : List ℕ) (k : ℕ) → position test bs ≡ Some k → k ≡ position_or_len test bs
pos-is test bs k e = by (nat_lt (position_or_len test bs) (length bs)) e
  where
    by : (v : Bool) → cond v (Some (position_or_len test bs)) None ≡ Some k → k ≡ position_or_len test bs
    by true h = sym (same_Some (position_or_len test bs) k h)
    by false h = absurd (cc)

pol-some : (test : ℕ → Bool) (c : ℕ) (cs : List ℕ) → test c ≡ false → 1 ≤ position_or_len test (c ∷ cs)
pol-some test c cs e = rw e (omega arith)

pub not-blank : (c : ℕ) (cs : List ℕ) → blanks (c ∷ cs) ≡ 0 → is_blank c ≡ false
not-blank c cs e = by (is_blank c) refl
  where
    by : (v : Bool) → is_blank c ≡ v → is_blank c ≡ false
    by true t = let none : position_or_len (λ b. not (is_blank b)) (c ∷ cs) ≡ 0 = sym (first-is (λ b. not (is_blank b)) (c ∷ cs)) ∙ e in let some : position_or_len (λ b. not (is_blank b)) (c ∷ cs) ≡ suc (prefix_len (λ x. not (not (is_blank x))) cs) = rw t (omega arith) in absurd (omega (arith, none, some))
    by false t = t

-- a name that begins with a quote is in place of a stamp
quote-stamp : (cs : List ℕ) → stamp_of (34 ∷ cs) ≡ Unknown
unfolding reading.numeric_of reading.numeric_day reading.four_at reading.two_at reading.digit_at reading.named_of reading.named_day reading.place_among
quote-stamp cs = by (eqb (length (34 ∷ cs)) 24) refl
  where
    by : (v : Bool) → eqb (length (34 ∷ cs)) 24 ≡ v → stamp_of (34 ∷ cs) ≡ Unknown
    by true e = rw e refl
    by false e = rw e refl

bare-some : (c : ℕ) (cs : List ℕ) → is_blank c ≡ false → 1 ≤ bare_length (c ∷ cs)
bare-some c cs plain = by (position (λ b. eqb b 9) (c ∷ cs)) refl
  where
    no : (eqb c 32 ≡ false) × (eqb c 9 ≡ false)
    no = or_parts (eqb c 32) (eqb c 9) plain

    by : (o : Option ℕ) → position (λ b. eqb b 9) (c ∷ cs) ≡ o → 1 ≤ unwrap_or o (first (λ b. eqb b 32) (c ∷ cs))
    by None is = let some : 1 ≤ position_or_len (λ b. eqb b 32) (c ∷ cs) = pol-some (λ b. eqb b 32) c cs no.0 in omega (arith, some, first-is (λ b. eqb b 32) (c ∷ cs))
    by (Some k) is = let some : 1 ≤ position_or_len (λ b. eqb b 9) (c ∷ cs) = pol-some (λ b. eqb b 9) c cs no.1 in omega (arith, some, pos-is (λ b. eqb b 9) (c ∷ cs) k is)

-- where there is no name there is no stamp
none-stamp : (bs : List ℕ) → blanks bs ≡ 0 → name_length bs ≡ 0 → stamp_of (behind_name bs) ≡ Unknown
none-stamp [] e n = no-stamp
none-stamp (c ∷ cs) e n = by (eqb c 34) refl
  where
    by : (v : Bool) → eqb c 34 ≡ v → stamp_of (behind_name (c ∷ cs)) ≡ Unknown
    by true is =
        let quote : c ≡ 34 = eqb-true c 34 is in
        ap (λ k. stamp_of (unblanked (drop k (c ∷ cs)))) n
        ∙ ap (λ k. stamp_of (drop k (c ∷ cs))) e
        ∙ ap (λ x. stamp_of (x ∷ cs)) quote
        ∙ quote-stamp cs
    by false is =
        let bare : bare_length (c ∷ cs) ≡ 0 = sym (rw is refl) ∙ n in
        let some : 1 ≤ bare_length (c ∷ cs) = bare-some c cs (not-blank c cs e) in
        absurd (omega (arith, bare, some))

tail-shows : (text : List ℕ) (t : Tail) (b : List ℕ) → IsTail text t b → (o : Option (List ℕ)) × Shows text (name_in text (Some t)) (stamp_in text (Some t)) o
tail-shows text t b at = by (eqb (name_length (unblanked b)) 0) refl
  where
    short : take (length b) (drop t.start text) ≡ b
    short = ap (take (length b)) (at.on ∙ append_assoc b (10 ∷ []) at.rest) ∙ take-append_seam b (10 ∷ at.rest)

    low : blanks b ≤ length b
    low = first-short (λ x. not (is_blank x)) b

    spans : name_in text (Some t) ≡ span_at (t.start + blanks b) (name_length (unblanked b))
    spans = ap (λ x. span_at (t.start + blanks x) (name_length (unblanked x))) at.bytes

    stamps : stamp_in text (Some t) ≡ stamp_of (behind_name (unblanked b))
    stamps = ap (λ x. stamp_of (behind_name (unblanked x))) at.bytes

    by : (v : Bool) → eqb (name_length (unblanked b)) 0 ≡ v → (o : Option (List ℕ)) × Shows text (name_in text (Some t)) (stamp_in text (Some t)) o
    by true e =
        let none : name_length (unblanked b) ≡ 0 = grind (arith, nat_tests) in
        let span : name_in text (Some t) ≡ None = spans ∙ rw e refl in
        (None, record { line = λ m. ap (named_line text m) span; name = ap (bytes_in text) span; stamp = stamps ∙ none-stamp (unblanked b) (blanks-none b) none; clean = tt })
    by false e =
        let span : name_in text (Some t) ≡ Some (record { start = t.start + blanks b; end = t.start + blanks b + name_length (unblanked b) }) = spans ∙ rw e refl in
        let room : blanks b + name_length (unblanked b) ≤ length b = omega (arith, name-short (unblanked b), length-drop (blanks b) b, low) in (
          Some (unblanked b),
          record {
            line = λ m. ap (named_line text m) span ∙ ap (λ x. m ++ x) (rest-is text t b (blanks b) (name_length (unblanked b)) at low) ∙ sym (append_assoc m (unblanked b) (10 ∷ []));
            name = ap (bytes_in text) spans ∙ span-bytes text b t.start (length b) (blanks b) (name_length (unblanked b)) short room ∙ ap (λ x. bytes_before (name_length x) x) (sym (unblanked-twice b));
            stamp = stamps ∙ ap (λ x. stamp_of (behind_name x)) (sym (unblanked-twice b));
            clean = clean-drop (blanks b) b at.clean;
          },
        )

-- what the last line of a kind in a region shows
pub name-shows : (text m : List ℕ) (rs : List Row) → AreRows text rs → (o : Option (List ℕ)) × Shows text (name_in text (last_tail m rs)) (stamp_in text (last_tail m rs)) o
name-shows text m rs all = by (last_tail m rs) refl
  where
    by : (t : Option Tail) → last_tail m rs ≡ t → (o : Option (List ℕ)) × Shows text (name_in text (last_tail m rs)) (stamp_in text (last_tail m rs)) o
    by None e = subst (λ t. (o : Option (List ℕ)) × Shows text (name_in text t) (stamp_in text t) o) (sym e) (None, record { line = λ m. refl; name = refl; stamp = refl; clean = tt })
    by (Some t) e =
        let r = first-in (IsRow text) m (reverse rs) t (all-reverse (IsRow text) rs all) e in
        let b = row-tail text m r.0 t r.1.0 r.1.1 in
        subst (λ t. (o : Option (List ℕ)) × Shows text (name_in text t) (stamp_in text t) o) (sym e) (tail-shows text t b.0 b.1)

-- ---- the name of an `Index:` line

pub record Indexes (text : List ℕ) (span : Option Span) (o : Option (List ℕ)) : Type 0 where
  pub name : bytes_in text span ≡ index_named o
  pub clean : CleanIn o

pub index-shows : (text m : List ℕ) (rs : List Row) → AreRows text rs → (o : Option (List ℕ)) × Indexes text (index_in text (last_tail m rs)) o
index-shows text m rs all = by (last_tail m rs) refl
  where
    by : (t : Option Tail) → last_tail m rs ≡ t → (o : Option (List ℕ)) × Indexes text (index_in text (last_tail m rs)) o
    by None e = subst (λ t. (o : Option (List ℕ)) × Indexes text (index_in text t) o) (sym e) (None, record { name = refl; clean = tt })
    by (Some t) e =
        let r = first-in (IsRow text) m (reverse rs) t (all-reverse (IsRow text) rs all) e in
        let b = row-tail text m r.0 t r.1.0 r.1.1 in
        subst (λ t. (o : Option (List ℕ)) × Indexes text (index_in text t) o) (sym e) (Some b.0, record { name = index-bytes text (Some t) ∙ ap (λ x. index_named (Some x)) b.1.bytes; clean = b.1.clean })

-- ---- what counts of the lines in front

pub none-shows : (text : List ℕ) → Shows text None Unknown None
none-shows text = record { line = λ m. refl; name = refl; stamp = refl; clean = tt }

part-clean : (b : List ℕ) (o : Option Pair) → NoFeed b → CleanIn (part_of b o)
part-clean b None all = tt
part-clean b (Some p) all = no-feed-take p.new (drop p.start b) (clean-drop p.start b all)

module _ (text : List ℕ) (rs : List Row) (all : AreRows text rs) where
  pub minus-shows : (direct : Bool) → (o : Option (List ℕ)) × Shows text (name_in text (seen_by text direct (seen_in rs)).minus) (stamp_in text (seen_by text direct (seen_in rs)).minus) o
  minus-shows true = (None, none-shows text)
  minus-shows false = name-shows text (codes "--- ") rs all

  pub plus-shows : (direct : Bool) → (o : Option (List ℕ)) × Shows text (name_in text (seen_by text direct (seen_in rs)).plus) (stamp_in text (seen_by text direct (seen_in rs)).plus) o
  plus-shows true = (None, none-shows text)
  plus-shows false = name-shows text (codes "+++ ") rs all

  pub stars-shows : (direct : Bool) → (o : Option (List ℕ)) × Shows text (name_in text (seen_by text direct (seen_in rs)).stars) (stamp_in text (seen_by text direct (seen_in rs)).stars) o
  stars-shows true = (None, none-shows text)
  stars-shows false = name-shows text (codes "*** ") rs all

  git-shows : (o : Option (List ℕ)) × Indexes text (index_in text (git_name text (last_tail (codes "diff --git ") rs))) o
  git-shows = by (last_tail (codes "diff --git ") rs) refl
    where
      by : (t : Option Tail) → last_tail (codes "diff --git ") rs ≡ t → (o : Option (List ℕ)) × Indexes text (index_in text (git_name text (last_tail (codes "diff --git ") rs))) o
      by None e = subst (λ t. (o : Option (List ℕ)) × Indexes text (index_in text (git_name text t)) o) (sym e) (None, record { name = refl; clean = tt })
      by (Some t) e =
          let r = first-in (IsRow text) (codes "diff --git ") (reverse rs) t (all-reverse (IsRow text) rs all) e in
          let b = row-tail text (codes "diff --git ") r.0 t r.1.0 r.1.1 in
          subst (λ t. (o : Option (List ℕ)) × Indexes text (index_in text (git_name text t)) o) (sym e)
          (part_of b.0 (both_names b.0), record { name = index-bytes text (git_name text (Some t)) ∙ ap index_named (git-part text (Some t) ∙ ap (λ x. git_named (Some x)) b.1.bytes); clean = part-clean b.0 (both_names b.0) b.1.clean })

  pub index-named-by : (direct : Bool) → (o : Option (List ℕ)) × Indexes text (index_in text (seen_by text direct (seen_in rs)).index) o
  index-named-by true = git-shows
  index-named-by false = index-shows text (codes "Index:") rs all
