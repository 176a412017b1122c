-- The rows of a git header that leads an opening are those of its lines, and stand at their places.
use Rattle.std.proofs.Common.{◌≡◌, ℕ, Bool, true, false, cond, ◌&&◌, List, [], ◌∷◌, ◌++◌, reverse, Option, None, Some, refl, sym, ap, ◌∙◌}
use Rattle.std.specs.Prelude.{codes, is_some, option_map, unwrap_or}
use Rattle.std.specs.List.{AllByRecursion}
use Rattle.std.specs.Option.{option_or}
use Rattle.hunk_core.specs.declared.Form.{Form}
use Rattle.patch_header.specs.GitHeaders.{starts, is_git_line, is_extended}
use Rattle.patch_header.specs.GitRows.{lines_of, with_row, header_back, old_name_back, new_name_back, led_rows, ends_with_git, is_unified, led_by, led_directly}
use Rattle.patch_header.specs.Region.{Row, rows}
use Rattle.patch_header.specs.declared.read_options.ReadOptions.{ReadOptions}
use Rattle.patch_header.proofs.GitLemmas.{lines-back}
use Rattle.law_reading.specs.Said.{is_direct, led_lines}
use Rattle.law_reading.proofs.HeaderLines.{all-push, all-reverse, lines-push, lines-reverse}

-- ---- the same over lines alone

with_line : Option (List (List ℕ)) → List ℕ → Option (List (List ℕ))
with_line None line = None
with_line (Some ls) line = Some (ls ++ line ∷ [])

header_lines : List (List ℕ) → Option (List (List ℕ))
header_lines [] = None
header_lines (line ∷ back) = cond (is_git_line line) (Some []) (cond (is_extended line) (with_line (header_lines back) line) None)

old_lines : List (List ℕ) → Option (List (List ℕ))
old_lines [] = None
old_lines (line ∷ back) = cond (starts (codes "--- ") line) (header_lines back) None

new_lines : List (List ℕ) → Option (List (List ℕ))
new_lines [] = None
new_lines (line ∷ back) = cond (starts (codes "+++ ") line) (old_lines back) None

with-line : (o : Option (List Row)) (r : Row) → option_map lines_of (with_row o r) ≡ with_line (option_map lines_of o) r.line
unfolding with_line
with-line None r = refl
with-line (Some rs) r = ap Some (lines-push rs r)

header-lines : (back : List Row) → option_map lines_of (header_back back) ≡ header_lines (lines_of back)
unfolding header_back header_lines
header-lines [] = refl
header-lines (r ∷ back) = by (is_git_line r.line) (is_extended r.line) (header-lines back)
  where
    by : (v w : Bool) → option_map lines_of (header_back back) ≡ header_lines (lines_of back) → option_map lines_of (cond v (Some []) (cond w (with_row (header_back back) r) None)) ≡ cond v (Some []) (cond w (with_line (header_lines (lines_of back)) r.line) None)
    by true w more = refl
    by false true more = with-line (header_back back) r ∙ ap (λ o. with_line o r.line) more
    by false false more = refl

old-lines : (back : List Row) → option_map lines_of (old_name_back back) ≡ old_lines (lines_of back)
unfolding old_name_back old_lines
old-lines [] = refl
old-lines (r ∷ back) = by (starts (codes "--- ") r.line)
  where
    by : (v : Bool) → option_map lines_of (cond v (header_back back) None) ≡ cond v (header_lines (lines_of back)) None
    by true = header-lines back
    by false = refl

new-lines : (back : List Row) → option_map lines_of (new_name_back back) ≡ new_lines (lines_of back)
unfolding new_name_back new_lines
new-lines [] = refl
new-lines (r ∷ back) = by (starts (codes "+++ ") r.line)
  where
    by : (v : Bool) → option_map lines_of (cond v (old_name_back back) None) ≡ cond v (old_lines (lines_of back)) None
    by true = old-lines back
    by false = refl

or-none : (o : Option (List Row)) → lines_of (unwrap_or o []) ≡ unwrap_or (option_map lines_of o) []
or-none None = refl
or-none (Some rs) = refl

either : (o p : Option (List Row)) → option_map lines_of (option_or o p) ≡ option_or (option_map lines_of o) (option_map lines_of p)
either None p = refl
either (Some rs) p = refl

led_back : List (List ℕ) → List (List ℕ)
led_back back = unwrap_or (option_or (new_lines back) (header_lines back)) []

led-rows : (rs : List Row) → lines_of (led_rows rs) ≡ led_back (reverse (lines_of rs))
unfolding led_back
led-rows rs =
    or-none (option_or (new_name_back (reverse rs)) (header_back (reverse rs)))
    ∙ ap (λ o. unwrap_or o []) (either (new_name_back (reverse rs)) (header_back (reverse rs)))
    ∙ ap (λ o. unwrap_or (option_or o (option_map lines_of (header_back (reverse rs)))) []) (new-lines (reverse rs))
    ∙ ap (λ o. unwrap_or (option_or (new_lines (lines_of (reverse rs))) o) []) (header-lines (reverse rs))
    ∙ ap led_back (lines-reverse rs)

led-same : (rs qs : List Row) → lines_of rs ≡ lines_of qs → lines_of (led_rows rs) ≡ lines_of (led_rows qs)
led-same rs qs e = led-rows rs ∙ ap (λ ls. led_back (reverse ls)) e ∙ sym (led-rows qs)

there-map : (o : Option (List Row)) → is_some o ≡ is_some (option_map lines_of o)
there-map None = refl
there-map (Some rs) = refl

ends-lines : (rs : List Row) → ends_with_git rs ≡ is_some (header_lines (reverse (lines_of rs)))
ends-lines rs = there-map (header_back (reverse rs)) ∙ ap is_some (header-lines (reverse rs)) ∙ ap (λ ls. is_some (header_lines ls)) (lines-reverse rs)

pub directly-is : (ways : ReadOptions) (form : Form) (number at : ℕ) (ls : List (List ℕ)) → led_directly ways form (rows number at ls) ≡ is_direct ways form ls
directly-is ways form number at ls =
    let same : lines_of (rows number at ls) ≡ lines_of (rows 0 0 ls) = lines-back number at ls ∙ sym (lines-back 0 0 ls) in
    ap (λ v. (ways.git && is_unified form) && v) (ends-lines (rows number at ls) ∙ ap (λ l. is_some (header_lines (reverse l))) same ∙ sym (ends-lines (rows 0 0 ls)))

-- wherever the lines stand
pub led-is : (ways : ReadOptions) (form : Form) (number at : ℕ) (ls : List (List ℕ)) → lines_of (led_by ways form (rows number at ls)) ≡ led_lines ways form ls
led-is ways form number at ls = by (ways.git && is_unified form)
  where
    by : (v : Bool) → lines_of (cond v (led_rows (rows number at ls)) []) ≡ lines_of (cond v (led_rows (rows 0 0 ls)) [])
    by true = led-same (rows number at ls) (rows 0 0 ls) (lines-back number at ls ∙ sym (lines-back 0 0 ls))
    by false = refl

-- ---- what holds of all rows holds of those that lead

abbrev AllOf : (Row → Type 0) → Option (List Row) → Type 0
AllOf P None = Unit {0}
AllOf P (Some rs) = AllByRecursion P rs

all-with : (P : Row → Type 0) (o : Option (List Row)) (r : Row) → AllOf P o → P r → AllOf P (with_row o r)
all-with P None r h p = tt
all-with P (Some rs) r h p = all-push P rs r h p

header-all : (P : Row → Type 0) (back : List Row) → AllByRecursion P back → AllOf P (header_back back)
unfolding header_back
header-all P [] h = tt
header-all P (r ∷ back) h = by (is_git_line r.line) (is_extended r.line) (header-all P back h.1)
  where
    by : (v w : Bool) → AllOf P (header_back back) → AllOf P (cond v (Some []) (cond w (with_row (header_back back) r) None))
    by true w more = tt
    by false true more = all-with P (header_back back) r more h.0
    by false false more = tt

old-all : (P : Row → Type 0) (back : List Row) → AllByRecursion P back → AllOf P (old_name_back back)
unfolding old_name_back
old-all P [] h = tt
old-all P (r ∷ back) h = by (starts (codes "--- ") r.line)
  where
    by : (v : Bool) → AllOf P (cond v (header_back back) None)
    by true = header-all P back h.1
    by false = tt

new-all : (P : Row → Type 0) (back : List Row) → AllByRecursion P back → AllOf P (new_name_back back)
unfolding new_name_back
new-all P [] h = tt
new-all P (r ∷ back) h = by (starts (codes "+++ ") r.line)
  where
    by : (v : Bool) → AllOf P (cond v (old_name_back back) None)
    by true = old-all P back h.1
    by false = tt

all-either : (P : Row → Type 0) (o p : Option (List Row)) → AllOf P o → AllOf P p → AllOf P (option_or o p)
all-either P None p h k = k
all-either P (Some rs) p h k = h

all-or : (P : Row → Type 0) (o : Option (List Row)) → AllOf P o → AllByRecursion P (unwrap_or o [])
all-or P None h = tt
all-or P (Some rs) h = h

pub led-all : (P : Row → Type 0) (ways : ReadOptions) (form : Form) (rs : List Row) → AllByRecursion P rs → AllByRecursion P (led_by ways form rs)
led-all P ways form rs h = by (ways.git && is_unified form)
  where
    by : (v : Bool) → AllByRecursion P (cond v (led_rows rs) [])
    by true =
        let back = all-reverse P rs h in
        all-or P (option_or (new_name_back (reverse rs)) (header_back (reverse rs))) (all-either P (new_name_back (reverse rs)) (header_back (reverse rs)) (new-all P (reverse rs) back) (header-all P (reverse rs) back))
    by false = tt
