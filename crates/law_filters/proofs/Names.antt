-- The names of a header that was read, and the one name of its file patch.
use Rattle.std.proofs.Common.{◌≡◌, ℕ, zero, suc, ◌≤◌, Bool, true, false, cond, not, eqb, ◌||◌, List, [], ◌∷◌, length, take, Option, None, Some, refl, sym, ap, subst, ◌∙◌}
use Rattle.std.specs.Prelude.{is_some, codes}
use Rattle.std.specs.List.{AllByRecursion, list_any, position_or_len}
use Rattle.std.specs.Option.{option_or}
use Rattle.std.proofs.lemmas.Bool.{or_parts}
use Rattle.line_list.specs.Lines.{IsLine}
use Rattle.line_list.proofs.WholeLines.{NoFeed}
use Rattle.hunk_core.specs.declared.Form.{Form}
use Rattle.hunk_core.specs.declared.Form.TheVariants.{Unified, Context, Normal, Ed}
use Rattle.hunk_core.specs.LineTests.{after}
use Rattle.hunk_core.proofs.TextLemmas.{after-takes}
use Rattle.patch_header.specs.Content.{content}
use Rattle.patch_header.specs.GitHeaders.{action_of}
use Rattle.patch_header.specs.GitRows.{led_by, led_directly, lines_of}
use Rattle.patch_header.specs.Region.{Row, first_some, new_tail, old_tail, rows}
use Rattle.patch_header.specs.Steps.{header_with, seen_for}
use Rattle.patch_header.specs.Values.{bare_length, first, index_length, name_in, name_length, stamp_in, unblanked}
use Rattle.read_header_record.specs.declared.Action.{Action}
use Rattle.read_header_record.specs.declared.Action.TheVariants as actions
use Rattle.read_header_record.specs.declared.Header.{Header}
use Rattle.patch_header.specs.declared.read_options.ReadOptions.{ReadOptions}
use Rattle.read_file_patch.specs.Absent.{is_null}
use Rattle.read_file_patch.specs.PlainPatch.{PlainHeader, bytes_in, header_of}
use Rattle.name_choice.specs.Better.{is_better}
use Rattle.patch_set.specs.PlainName.{better_of, file_name, plain_name}
use Rattle.law_reading.specs.Said.{behind, bytes_before, index_named, last_behind, name_said, to_by, whole_said}
use Rattle.law_reading.proofs.HeaderLines.{all-reverse, to-said}
use Rattle.law_reading.proofs.LedLines.{led-all}
use Rattle.law_reading.proofs.Places.{StandsAt}
use Rattle.law_reading.proofs.Lines.{content-closed}
use Rattle.law_reading.proofs.Names.{GivesBack, NoTab, bare-before, clean-index, clean-said, front-gives, index-before, text_or_none}
use Rattle.law_reading.proofs.Region.{IsShown}
use Rattle.law_reading.proofs.Shown.{AreRows, CleanIn, IsRow, Shows, blanks-none, clean-behind, index-named-by, line-clean, line-parts, minus-shows, none-shows, not-blank, plus-shows, region-rows, stars-shows}
use Rattle.law_filters.specs.ReadAgain.{IsGivenBack}

-- ---- what holds of all names holds of the one

abbrev pub Holds : (List ℕ → Type 0) → Option (List ℕ) → Type 0
Holds P None = Unit {0}
Holds P (Some name) = P name

holds-file : (P : List ℕ → Type 0) (o : Option (List ℕ)) → Holds P o → Holds P (file_name o)
holds-file P o h = by (is_null o)
  where
    by : (v : Bool) → Holds P (let none : Option (List ℕ) = None in cond v none o)
    by true = tt
    by false = h

holds-better : (P : List ℕ → Type 0) (a b : Option (List ℕ)) → Holds P a → Holds P b → Holds P (better_of a b)
holds-better P None b h k = k
holds-better P (Some x) None h k = h
holds-better P (Some x) (Some y) h k = by (is_better y x)
  where
    by : (v : Bool) → Holds P (cond v (Some y) (Some x))
    by true = k
    by false = h

holds-or : (P : List ℕ → Type 0) (a b : Option (List ℕ)) → Holds P a → Holds P b → Holds P (option_or a b)
holds-or P None b h k = k
holds-or P (Some x) b h k = h

holds-text : (P : List ℕ → Type 0) (o : Option (List ℕ)) → P [] → Holds P o → P (text_or_none o)
holds-text P None none h = none
holds-text P (Some x) none h = h

holds-name : (P : List ℕ → Type 0) (h : PlainHeader) → P [] → Holds P h.old_name → Holds P h.new_name → Holds P h.to → Holds P h.index → P (plain_name h)
holds-name P h none a b c d =
    holds-text P (option_or (better_of (file_name h.old_name) (file_name h.new_name)) (option_or h.to h.index)) none
    (holds-or P (better_of (file_name h.old_name) (file_name h.new_name)) (option_or h.to h.index) (holds-better P (file_name h.old_name) (file_name h.new_name) (holds-file P h.old_name a) (holds-file P h.new_name b)) (holds-or P h.to h.index c d))

-- ---- without line feeds

clean-holds : (o : Option (List ℕ)) → NoFeed (text_or_none o) → Holds NoFeed o
clean-holds None h = tt
clean-holds (Some x) h = h

said-clean : (o : Option (List ℕ)) → CleanIn o → Holds NoFeed (name_said o)
said-clean None c = tt
said-clean (Some bs) c = clean-holds (name_said (Some bs)) (clean-said bs c)

index-clean : (o : Option (List ℕ)) → CleanIn o → Holds NoFeed (index_named o)
index-clean None c = tt
index-clean (Some bs) c = clean-holds (index_named (Some bs)) (clean-index bs c)

behind-clean : (m line : List ℕ) → IsLine line → Holds NoFeed (behind m line)
behind-clean m line is = by (after m (content line)) refl
  where
    clear : NoFeed (content line)
    clear = let p = line-parts line is in subst NoFeed (sym (ap content p.1 ∙ content-closed p.0)) (line-clean p.0 (subst IsLine p.1 is))

    by : (o : Option (List ℕ)) → after m (content line) ≡ o → Holds NoFeed (after m (content line))
    by None e = subst (Holds NoFeed) (sym e) tt
    by (Some rest) e = subst (Holds NoFeed) (sym e) (clean-behind m rest (subst NoFeed (after-takes m (content line) rest e) clear))

first-clean : (m : List ℕ) (ls : List (List ℕ)) → AllByRecursion IsLine ls → Holds NoFeed (first_some (behind m) ls)
first-clean m [] all = tt
first-clean m (line ∷ ls) all = by (behind m line) (behind-clean m line all.0) (first-clean m ls all.1)
  where
    by : (o : Option (List ℕ)) → Holds NoFeed o → Holds NoFeed (first_some (behind m) ls) → Holds NoFeed (cond (is_some o) o (first_some (behind m) ls))
    by None h k = k
    by (Some x) h k = h

whole-clean : (o : Option (List ℕ)) → Holds NoFeed o → Holds NoFeed (whole_said o)
whole-clean None h = tt
whole-clean (Some bs) h = by (eqb (length bs) 0)
  where
    all-of : (n : ℕ) (xs : List ℕ) → NoFeed xs → NoFeed (take n xs)
    all-of zero xs c = tt
    all-of (suc n) [] c = tt
    all-of (suc n) (x ∷ xs) c = (c.0, all-of n xs c.1)

    by : (v : Bool) → Holds NoFeed (let none : Option (List ℕ) = None in cond v none (Some (take (length bs) bs)))
    by true = tt
    by false = all-of (length bs) bs h

to-clean : (a : Action) (ls : List (List ℕ)) → AllByRecursion IsLine ls → Holds NoFeed (to_by a ls)
to-clean actions.Plain ls all = tt
to-clean actions.New ls all = tt
to-clean actions.Deleted ls all = tt
to-clean actions.Rename ls all = whole-clean (last_behind (codes "rename to ") ls) (first-clean (codes "rename to ") _ (all-reverse IsLine ls all))
to-clean actions.Copy ls all = whole-clean (last_behind (codes "copy to ") ls) (first-clean (codes "copy to ") _ (all-reverse IsLine ls all))

-- ---- given back by an `Index:` line

given-of : (name : List ℕ) → GivesBack name → IsGivenBack name
given-of [] g = record { front = refl; tab = λ q. refl; quoted = λ q. absurd cc }
given-of (c ∷ cs) g = record { front = (or_parts (eqb c 32) (eqb c 9) (not-blank c cs g.front)).0; tab = λ q. no-tabs (c ∷ cs) (g.bare q); quoted = g.quoted }
  where
    turn : (v w : Bool) → not v ≡ true → w ≡ false → (v || w) ≡ false
    turn true w e f = absurd cc
    turn false w e f = f

    no-tabs : (bs : List ℕ) → NoTab bs → list_any (λ b. eqb b 9) bs ≡ false
    no-tabs [] all = refl
    no-tabs (b ∷ bs) all = turn (eqb b 9) (list_any (λ x. eqb x 9) bs) all.0 (no-tabs bs all.1)

-- so many bytes behind blanks, which are given back
front-given : (n : ℕ) (bs : List ℕ) → GivesBack (take n (unblanked bs)) → Holds IsGivenBack (bytes_before n (unblanked bs))
front-given n bs g = by (eqb n 0)
  where
    by : (v : Bool) → Holds IsGivenBack (let none : Option (List ℕ) = None in cond v none (Some (take n (unblanked bs))))
    by true = tt
    by false = given-of (take n (unblanked bs)) g

said-given : (o : Option (List ℕ)) → Holds IsGivenBack (name_said o)
said-given None = tt
said-given (Some bs) = front-given (name_length (unblanked bs)) bs (front-gives (bare_length (unblanked bs)) (unblanked bs) (blanks-none bs) (bare-before (unblanked bs)))

index-given : (o : Option (List ℕ)) → Holds IsGivenBack (index_named o)
index-given None = tt
index-given (Some bs) = front-given (index_length (unblanked bs)) bs (front-gives (first (λ b. eqb b 9) (unblanked bs)) (unblanked bs) (blanks-none bs) (index-before (unblanked bs)))

-- ---- what a header that was read says

pub record Source (text : List ℕ) (h : Header) : Type 0 where
  pub old : Option (List ℕ)
  pub new : Option (List ℕ)
  pub olds : Shows text h.old_name h.old_stamp old
  pub news : Shows text h.new_name h.new_stamp new
  pub clean : NoFeed (plain_name (header_of text h))
  pub given : Holds IsGivenBack (bytes_in text h.to) → IsGivenBack (plain_name (header_of text h))

stand-all : (text : List ℕ) (rs : List Row) → AreRows text rs → AllByRecursion (StandsAt text) rs
stand-all text [] all = tt
stand-all text (r ∷ rs) all = (all.0.stands, stand-all text rs all.1)

lines-all : (text : List ℕ) (rs : List Row) → AreRows text rs → AllByRecursion IsLine (lines_of rs)
lines-all text [] all = tt
lines-all text (r ∷ rs) all = (all.0.whole, lines-all text rs all.1)

module _ (ways : ReadOptions) (text : List ℕ) (place number : ℕ) (rs : List Row) (all : AreRows text rs) where
  abbrev made : Form → Header
  made form = header_with text form place number (seen_for ways form text rs) (led_by ways form rs)

  old-shows : (form : Form) → (o : Option (List ℕ)) × Shows text (name_in text (old_tail form (seen_for ways form text rs))) (stamp_in text (old_tail form (seen_for ways form text rs))) o
  old-shows Unified = minus-shows text rs all (led_directly ways Unified rs)
  old-shows Context = stars-shows text rs all (led_directly ways Context rs)
  old-shows Normal = (None, none-shows text)
  old-shows Ed = (None, none-shows text)

  new-shows : (form : Form) → (o : Option (List ℕ)) × Shows text (name_in text (new_tail form (seen_for ways form text rs))) (stamp_in text (new_tail form (seen_for ways form text rs))) o
  new-shows Unified = plus-shows text rs all (led_directly ways Unified rs)
  new-shows Context = minus-shows text rs all (led_directly ways Context rs)
  new-shows Normal = (None, none-shows text)
  new-shows Ed = (None, none-shows text)

  source-of : (form : Form) → Source text (made form)
  source-of form =
      let os = old-shows form in
      let ns = new-shows form in
      let x = index-named-by text rs all (led_directly ways form rs) in
      let gs = led_by ways form rs in
      let led = led-all (IsRow text) ways form rs all in
      let to = to-clean (action_of (lines_of gs)) (lines_of gs) (lines-all text gs led) in
      record {
        old = os.0;
        new = ns.0;
        olds = os.1;
        news = ns.1;
        clean = holds-name NoFeed (header_of text (made form)) tt
            (subst (Holds NoFeed) (sym os.1.name) (said-clean os.0 os.1.clean))
            (subst (Holds NoFeed) (sym ns.1.name) (said-clean ns.0 ns.1.clean))
            (subst (Holds NoFeed) (sym (to-said text gs (stand-all text gs led))) to)
            (subst (Holds NoFeed) (sym x.1.name) (index-clean x.0 x.1.clean));
        given = λ given. holds-name IsGivenBack (header_of text (made form)) (record { front = refl; tab = λ q. refl; quoted = λ q. absurd cc })
            (subst (Holds IsGivenBack) (sym os.1.name) (said-given os.0))
            (subst (Holds IsGivenBack) (sym ns.1.name) (said-given ns.0))
            given
            (subst (Holds IsGivenBack) (sym x.1.name) (index-given x.0));
      }

pub source : (ways : ReadOptions) (text : List ℕ) (h : Header) → IsShown ways text h → Source text h
source ways text h s =
    subst (Source text) (sym s.is) (source-of ways text s.place s.number (rows s.line s.at s.region) (region-rows text s.line s.at s.region s.first s.rest s.ahead) h.form)
