-- The line of the old name stands in front of the opening.
use Rattle.std.proofs.Common.{◌≡◌, ℕ, ◌+◌, ◌<◌, ◌≤◌, Bool, true, false, cond, List, [], ◌∷◌, ◌++◌, length, reverse, drop, Option, None, Some, sym, ap, subst, arith}
use Rattle.std.specs.Prelude.{is_some, unwrap_or}
use Rattle.std.specs.List.{AllByRecursion}
use Rattle.std.proofs.lemmas.List.{reverse-append}
use Rattle.line_list.specs.declared.Span.{Span}
use Rattle.line_list.specs.Lines.{lines}
use Rattle.hunk_core.specs.declared.Form.{Form}
use Rattle.hunk_core.specs.declared.Form.TheVariants.{Unified, Context, Normal, Ed}
use Rattle.hunk_core.specs.LineTests.{after}
use Rattle.patch_header.specs.Content.{content}
use Rattle.patch_header.specs.Region.{Row, rows, tail_of, first_some, last_tail, seen_in, old_tail}
use Rattle.patch_header.specs.Values.{name_in}
use Rattle.patch_header.specs.declared.read_options.ReadOptions.{ReadOptions}
use Rattle.patch_header.specs.Steps.{names_line, seen_for, header_with, bare_with, header_at, IsFirstOpening, LiesBehind}
use Rattle.patch_header.specs.GitRows.{led_by, led_directly, seen_by}
use Rattle.patch_header.specs.declared.openings.Stop.{Stop}
use Rattle.patch_header.specs.declared.openings.Stop.TheVariants.{Opening, Binary, Bare}
use Rattle.patch_header.specs.declared.region.Tail.{Tail}
use Rattle.patch_header.specs.declared.region.LastHeaderLines.{LastHeaderLines}
use Rattle.read_header_record.specs.declared.Header.{Header}
use Rattle.read_patch_text.specs.Reading.{IsHeaderFrom}
use Rattle.read_patch_text.proofs.ChangeLemmas.{opens-change}

abbrev IsBefore : ℕ → Row → Type 0
IsBefore n r = r.number < n

abbrev EndsBefore : ℕ → Option Tail → Type 0
EndsBefore n None = Unit {0}
EndsBefore n (Some t) = t.number < n

all-both : (n : ℕ) (xs ys : List Row) → AllByRecursion (IsBefore n) xs → AllByRecursion (IsBefore n) ys → AllByRecursion (IsBefore n) (xs ++ ys)
all-both n [] ys h k = k
all-both n (x ∷ xs) ys h k = (h.0, all-both n xs ys h.1 k)

all-turned : (n : ℕ) (xs : List Row) → AllByRecursion (IsBefore n) xs → AllByRecursion (IsBefore n) (reverse xs)
all-turned n [] h = tt
all-turned n (x ∷ xs) h = subst (AllByRecursion (IsBefore n)) (sym (reverse-append (x ∷ []) xs)) (all-both n (reverse xs) (x ∷ []) (all-turned n xs h.1) (h.0, tt))

rows-before : (n line start : ℕ) (ls : List (List ℕ)) → line + length ls ≤ n → AllByRecursion (IsBefore n) (rows line start ls)
rows-before n line start [] le = tt
rows-before n line start (l ∷ ls) le = (omega (arith, le), rows-before n (line + 1) (start + length l) ls (omega (arith, le)))

tail-before : (n : ℕ) (mark : List ℕ) (r : Row) → r.number < n → EndsBefore n (tail_of mark r)
tail-before n mark r lt = by (is_some (after mark (content r.line)))
  where
    by : (v : Bool) → EndsBefore n (cond v (Some (record { number = r.number; start = r.start + length mark; end = r.start + length (content r.line) })) None)
    by true = lt
    by false = tt

first-before : (n : ℕ) (mark : List ℕ) (xs : List Row) → AllByRecursion (IsBefore n) xs → EndsBefore n (first_some (tail_of mark) xs)
first-before n mark [] h = tt
first-before n mark (x ∷ xs) h = by (is_some (tail_of mark x)) (tail-before n mark x h.0) (first-before n mark xs h.1)
  where
    by : (v : Bool) → EndsBefore n (tail_of mark x) → EndsBefore n (first_some (tail_of mark) xs) → EndsBefore n (cond v (tail_of mark x) (first_some (tail_of mark) xs))
    by true a b = a
    by false a b = b

last-before : (n line start : ℕ) (mark : List ℕ) (ls : List (List ℕ)) → line + length ls ≤ n → EndsBefore n (last_tail mark (rows line start ls))
last-before n line start mark ls le = first-before n mark (reverse (rows line start ls)) (all-turned n (rows line start ls) (rows-before n line start ls le))

old-before : (n line start : ℕ) (form : Form) (ls : List (List ℕ)) → line + length ls ≤ n → EndsBefore n (old_tail form (seen_in (rows line start ls)))
old-before n line start Unified ls le = last-before n line start (45 ∷ 45 ∷ 45 ∷ 32 ∷ []) ls le
old-before n line start Context ls le = last-before n line start (42 ∷ 42 ∷ 42 ∷ 32 ∷ []) ls le
old-before n line start Normal ls le = tt
old-before n line start Ed ls le = tt

counted-before : (n : ℕ) (text : List ℕ) (direct : Bool) (s : LastHeaderLines) (form : Form) → EndsBefore n (old_tail form s) → EndsBefore n (old_tail form (seen_by text direct s))
counted-before n text false s form h = h
counted-before n text true s Unified h = tt
counted-before n text true s Context h = tt
counted-before n text true s Normal h = tt
counted-before n text true s Ed h = tt

line-before : (n : ℕ) (t : Option Tail) (name : Option Span) → EndsBefore n t → names_line t name n ≤ n
line-before n None name h = omega arith
line-before n (Some t) None h = omega arith
line-before n (Some t) (Some s) h = omega (arith, h)

header-before : (ways : ReadOptions) (text : List ℕ) (place line start : ℕ) (region : List (List ℕ)) (h : Header) (stop : Stop) → header_at ways text place (line + length region) (rows line start region) stop ≡ Some h → h.names_line ≤ h.opening
header-before ways text place line start region h (Opening form) e =
    let n = line + length region in
    let rs = rows line start region in
    let t = old_tail form (seen_for ways form text rs) in
    let same : h ≡ header_with text form place n (seen_for ways form text rs) (led_by ways form rs) = sym (ap (λ o. unwrap_or o h) e) in
    rw same (line-before n t (name_in text t) (counted-before n text (led_directly ways form rs) (seen_in rs) form (old-before n line start form region (omega arith))))
header-before ways text place line start region h Bare e =
    let same : h ≡ bare_with text place (line + length region) (rows line start region) = sym (ap (λ o. unwrap_or o h) e) in
    rw same (omega arith)
header-before ways text place line start region h Binary e = absurd cc

pub names-before : (ways : ReadOptions) (text : List ℕ) (at line : ℕ) (h : Header) → IsFirstOpening ways text at line h → h.names_line ≤ h.opening
names-before ways text at line h x = header-before ways text x.place line at x.region h x.stop x.says

pub header-from : (ways : ReadOptions) (text : List ℕ) (at line : ℕ) (h : Header) → IsFirstOpening ways text at line h → LiesBehind ways text at line h → IsHeaderFrom text at line h
header-from ways text at line h first lies =
    record {
      low = lies.low;
      high = lies.high;
      numbers = lies.numbers;
      names_line = names-before ways text at line h first;
      begins = λ e. opens-change ways.only h.form (lines (drop h.at text)) (lies.opening e).begins;
      pieces = lies.pieces;
    }
