-- The header that a text has is the one that its lines say.
use Rattle.std.proofs.Common.{◌≡◌, ◌+◌, ◌-◌, ◌≤◌, ℕ, Bool, true, false, cond, not, List, [], ◌∷◌, ◌++◌, length, take, drop, Option, None, Some, refl, sym, ap, subst, ◌∙◌, arith}
use Rattle.std.specs.Prelude.{codes, option_map}
use Rattle.std.specs.List.{AllByRecursion}
use Rattle.std.proofs.lemmas.List.{length-drop, length-take}
use Rattle.std.proofs.lemmas.Option.{same_Some}
use Rattle.line_list.specs.Lines.{lines}
use Rattle.hunk_core.specs.declared.Form.{Form}
use Rattle.hunk_core.specs.declared.Form.TheVariants.{Unified, Context, Normal, Ed}
use Rattle.stamp.specs.declared.Stamp.{Stamp}
use Rattle.patch_header.specs.GitHeaders.{extended_run, behind_run, git_header, action_of}
use Rattle.patch_header.specs.GitRows as git
use Rattle.patch_header.specs.Openings.{stop_at}
use Rattle.patch_header.specs.Region.{Row, row, rows, tail_of, last_tail, seen_in, old_tail, new_tail}
use Rattle.patch_header.specs.Values.{blanks, is_blank, is_white, word_length, span_at, bytes_of, name_in, index_in, word_in, stamp_in}
use Rattle.patch_header.specs.Steps.{header_with, bare_with, header_at, seen_for}
use Rattle.read_header_record.specs.declared.Action.{Action}
use Rattle.read_header_record.specs.declared.Header.{Header}
use Rattle.patch_header.specs.declared.git_names.Pair.{Pair}
use Rattle.patch_header.specs.declared.openings.Stop.{Stop}
use Rattle.patch_header.specs.declared.openings.Stop.TheVariants.{Opening, Binary, Bare}
use Rattle.patch_header.specs.declared.region.Tail.{Tail}
use Rattle.patch_header.specs.declared.region.LastHeaderLines.{LastHeaderLines}
use Rattle.patch_header.specs.declared.read_options.ReadOptions.{ReadOptions}
use Rattle.patch_header.proofs.GitLemmas.{lines-back}
use Rattle.patch_header.proofs.Stands.{stop-end}
use Rattle.patch_header.proofs.BareLemmas.{odd-half}
use Rattle.patch_header.proofs.ScanLemmas.{run-split}
use Rattle.read_file_patch.specs.PlainPatch.{PlainHeader, bytes_in, header_of}
use Rattle.law_reading.specs.Unnumbered.{unnumbered_header}
use Rattle.law_reading.specs.Said as said
use Rattle.law_reading.specs.Said.{behind, last_behind, name_said, word_said, stamp_said, old_line, new_line, from_by, to_by, index_named, led_lines, old_of, new_of, header_behind, bare_header, header_said, is_direct, naming_lines, part_of, git_named, index_behind, old_mode_said, new_mode_said}
use Rattle.law_reading.proofs.Places.{StandsAt, first-bytes, rows-stand, skip-line, take-inside}
use Rattle.law_reading.proofs.HeaderLines.{last-alike, index-bytes, first-short, quoted-short, span-bytes, tail-bytes, index-said, word-said, old-name, new-name, old-stamp, new-stamp, from-said, to-said, old-mode-said, new-mode-said}
use Rattle.law_reading.proofs.LedLines.{led-is, directly-is, led-all}
use Rattle.law_reading.proofs.Joining.{no-header, run-tail}

abbrev plain : Form → Bool → Option (List ℕ) → Option (List ℕ) → Option (List ℕ) → Option (List ℕ) → Stamp → Stamp → Action → Option (List ℕ) → Option (List ℕ) → Option (List ℕ) → Option (List ℕ) → PlainHeader
plain form bare old new index prereq old_stamp new_stamp action from to old_mode new_mode = record {
  form = form;
  opening = 0;
  names_line = 0;
  old_name = old;
  new_name = new;
  index = index;
  prereq = prereq;
  old_stamp = old_stamp;
  new_stamp = new_stamp;
  action = action;
  bare = bare;
  from = from;
  to = to;
  old_mode = old_mode;
  new_mode = new_mode;
}

same-parts : (form : Form) (bare : Bool) (a a' b b' c c' d d' : Option (List ℕ)) (s s' t t' : Stamp) (x x' : Action) (f f' g g' m m' n n' : Option (List ℕ)) → a ≡ a' → b ≡ b' → c ≡ c' → d ≡ d' → s ≡ s' → t ≡ t' → x ≡ x' → f ≡ f' → g ≡ g' → m ≡ m' → n ≡ n'
    → plain form bare a b c d s t x f g m n ≡ plain form bare a' b' c' d' s' t' x' f' g' m' n'
same-parts form bare a a' b b' c c' d d' s s' t t' x x' f f' g g' m m' n n' ea eb ec ed es et ex ef eg em en = cc

-- ---- the names of a git line

word-short : (bytes : List ℕ) → git.quoted_or_word bytes ≤ length bytes
word-short bytes = quoted-short (word_length bytes) bytes (first-short is_white bytes)

second-short : (bytes : List ℕ) → git.second bytes + git.quoted_or_word (drop (git.second bytes) bytes) ≤ length bytes
second-short bytes =
    let n = git.quoted_or_word bytes in
    let word : n ≤ length bytes = word-short bytes in
    let blank : blanks (drop (git.quoted_or_word bytes) bytes) ≤ length (drop (git.quoted_or_word bytes) bytes) = first-short (λ b. not (is_blank b)) (drop (git.quoted_or_word bytes) bytes) in
    let other : git.quoted_or_word (drop (git.second bytes) bytes) ≤ length (drop (git.second bytes) bytes) = word-short (drop (git.second bytes) bytes) in
    omega (arith, word, blank, other, length-drop (git.quoted_or_word bytes) bytes, length-drop (git.second bytes) bytes)

names-fit : (bytes : List ℕ) (p : Pair) → git.both_names bytes ≡ Some p → git.FitsIn bytes p
names-fit bytes p h = by (git.has_quotes bytes) refl h
  where
    same : (x y : Pair) → Some x ≡ Some y → x ≡ y
    same x y e = cc

    half-so : (v : Bool) → git.has_halves bytes ≡ v → cond v (Some (record { old = git.half bytes; start = git.half bytes + 1; new = git.half bytes })) None ≡ Some p → git.FitsIn bytes p
    half-so true e k =
        let odd : git.half bytes + git.half bytes + 1 ≡ length bytes = odd-half bytes e in
        subst (git.FitsIn bytes) (same _ p k) (record { old = omega (arith, odd); new = omega (arith, odd) })
    half-so false e k = absurd cc

    words-so : (v : Bool) → git.are_two bytes (git.second bytes) ≡ v → cond v (Some (record { old = git.quoted_or_word bytes; start = git.second bytes; new = git.quoted_or_word (drop (git.second bytes) bytes) })) None ≡ Some p → git.FitsIn bytes p
    words-so true e k = subst (git.FitsIn bytes) (same _ p k) (record { old = word-short bytes; new = second-short bytes })
    words-so false e k = absurd cc

    by : (v : Bool) → git.has_quotes bytes ≡ v → cond v (git.two_words bytes (git.second bytes)) (git.halves bytes) ≡ Some p → git.FitsIn bytes p
    by true e k = words-so (git.are_two bytes (git.second bytes)) refl k
    by false e k = half-so (git.has_halves bytes) refl k

tail-width : (text : List ℕ) (t : Tail) → length (bytes_of text t) ≤ t.end - t.start
tail-width text t = omega (arith, length-take (t.end - t.start) (drop t.start text))

old-side : (text : List ℕ) (t : Tail) (o : Option Pair) → git.both_names (bytes_of text t) ≡ o → bytes_in text (git.old_of t o) ≡ old_of (bytes_of text t) o
old-side text t None e = refl
old-side text t (Some p) e =
    let start : t.start + 0 ≡ t.start = omega arith in
    ap (λ k. bytes_in text (span_at k p.old)) (sym start)
    ∙ span-bytes text (bytes_of text t) t.start (t.end - t.start) 0 p.old refl (omega (arith, (names-fit (bytes_of text t) p e).old, tail-width text t))

new-side : (text : List ℕ) (t : Tail) (o : Option Pair) → git.both_names (bytes_of text t) ≡ o → bytes_in text (git.new_of t o) ≡ new_of (bytes_of text t) o
new-side text t None e = refl
new-side text t (Some p) e = span-bytes text (bytes_of text t) t.start (t.end - t.start) p.start p.new refl (omega (arith, (names-fit (bytes_of text t) p e).new, tail-width text t))

old-half : (text : List ℕ) (o : Option Tail) → bytes_in text (git.old_half text o) ≡ said.old_half (option_map (bytes_of text) o)
old-half text None = refl
old-half text (Some t) = old-side text t (git.both_names (bytes_of text t)) refl

new-half : (text : List ℕ) (o : Option Tail) → bytes_in text (git.new_half text o) ≡ said.new_half (option_map (bytes_of text) o)
new-half text None = refl
new-half text (Some t) = new-side text t (git.both_names (bytes_of text t)) refl

-- ---- what counts of the lines in front

-- the new name of a git line
new-part : (text : List ℕ) (t : Tail) (o : Option Pair) → git.both_names (bytes_of text t) ≡ o → option_map (bytes_of text) (git.name_tail t o) ≡ part_of (bytes_of text t) o
new-part text t None e = refl
new-part text t (Some p) e =
    let width : (t.start + p.start + p.new) - (t.start + p.start) ≡ p.new = omega arith in
    ap Some (ap (λ m. take m (drop (t.start + p.start) text)) width ∙ take-inside text (bytes_of text t) t.start (t.end - t.start) p.start p.new refl (omega (arith, (names-fit (bytes_of text t) p e).new, tail-width text t)))

pub git-part : (text : List ℕ) (o : Option Tail) → option_map (bytes_of text) (git.git_name text o) ≡ git_named (option_map (bytes_of text) o)
git-part text None = refl
git-part text (Some t) = new-part text t (git.both_names (bytes_of text t)) refl

prereq-counted : (text : List ℕ) (direct : Bool) (s : LastHeaderLines) → (git.seen_by text direct s).prereq ≡ s.prereq
prereq-counted text true s = refl
prereq-counted text false s = refl

module _ (text : List ℕ) (rs : List Row) (all : AllByRecursion (StandsAt text) rs) where
  old-counted : (form : Form) (direct : Bool) → bytes_in text (name_in text (old_tail form (git.seen_by text direct (seen_in rs)))) ≡ name_said (old_line form (naming_lines direct (git.lines_of rs)))
  old-counted form false = old-name text rs all form
  old-counted Unified true = refl
  old-counted Context true = refl
  old-counted Normal true = refl
  old-counted Ed true = refl

  new-counted : (form : Form) (direct : Bool) → bytes_in text (name_in text (new_tail form (git.seen_by text direct (seen_in rs)))) ≡ name_said (new_line form (naming_lines direct (git.lines_of rs)))
  new-counted form false = new-name text rs all form
  new-counted Unified true = refl
  new-counted Context true = refl
  new-counted Normal true = refl
  new-counted Ed true = refl

  old-at : (form : Form) (direct : Bool) → stamp_in text (old_tail form (git.seen_by text direct (seen_in rs))) ≡ stamp_said (old_line form (naming_lines direct (git.lines_of rs)))
  old-at form false = old-stamp text rs all form
  old-at Unified true = refl
  old-at Context true = refl
  old-at Normal true = refl
  old-at Ed true = refl

  new-at : (form : Form) (direct : Bool) → stamp_in text (new_tail form (git.seen_by text direct (seen_in rs))) ≡ stamp_said (new_line form (naming_lines direct (git.lines_of rs)))
  new-at form false = new-stamp text rs all form
  new-at Unified true = refl
  new-at Context true = refl
  new-at Normal true = refl
  new-at Ed true = refl

  index-counted : (direct : Bool) → bytes_in text (index_in text (git.seen_by text direct (seen_in rs)).index) ≡ index_named (index_behind direct (git.lines_of rs))
  index-counted false = index-said text rs all
  index-counted true =
      last-alike text (codes "diff --git ") (λ o. bytes_in text (index_in text (git.git_name text o))) (λ o. index_named (git_named o)) refl
      (λ r s. index-bytes text (git.git_name text (tail_of (codes "diff --git ") r)) ∙ ap index_named (git-part text (tail_of (codes "diff --git ") r)) ∙ ap (λ o. index_named (git_named o)) (tail-bytes text (codes "diff --git ") r s)) rs all

-- ---- an opening

opening-said : (text : List ℕ) (ways : ReadOptions) (form : Form) (place opening line at : ℕ) (region : List (List ℕ)) → AllByRecursion (StandsAt text) (rows line at region)
    → unnumbered_header (header_of text (header_with text form place opening (seen_for ways form text (rows line at region)) (git.led_by ways form (rows line at region)))) ≡ header_behind form region (is_direct ways form region) (led_lines ways form region)
opening-said text ways form place opening line at region all =
    let rs = rows line at region in
    let d' = git.led_directly ways form rs in
    let d = is_direct ways form region in
    let same : d' ≡ d = directly-is ways form line at region in
    let seen = seen_for ways form text rs in
    let gs = git.led_by ways form rs in
    let ls : git.lines_of rs ≡ region = lines-back line at region in
    let led : git.lines_of gs ≡ led_lines ways form region = led-is ways form line at region in
    let those : AllByRecursion (StandsAt text) gs = led-all (StandsAt text) ways form rs all in
    let old : bytes_in text (name_in text (old_tail form seen)) ≡ name_said (old_line form (naming_lines d region)) = old-counted text rs all form d' ∙ ap (λ l. name_said (old_line form (naming_lines d' l))) ls ∙ ap (λ v. name_said (old_line form (naming_lines v region))) same in
    let new : bytes_in text (name_in text (new_tail form seen)) ≡ name_said (new_line form (naming_lines d region)) = new-counted text rs all form d' ∙ ap (λ l. name_said (new_line form (naming_lines d' l))) ls ∙ ap (λ v. name_said (new_line form (naming_lines v region))) same in
    let index : bytes_in text (index_in text seen.index) ≡ index_named (index_behind d region) = index-counted text rs all d' ∙ ap (λ l. index_named (index_behind d' l)) ls ∙ ap (λ v. index_named (index_behind v region)) same in
    let prereq : bytes_in text (word_in text seen.prereq) ≡ word_said (last_behind (codes "Prereq:") region) = ap (λ t. bytes_in text (word_in text t)) (prereq-counted text d' (seen_in rs)) ∙ word-said text rs all (codes "Prereq:") ∙ ap (λ l. word_said (last_behind (codes "Prereq:") l)) ls in
    let old_at : stamp_in text (old_tail form seen) ≡ stamp_said (old_line form (naming_lines d region)) = old-at text rs all form d' ∙ ap (λ l. stamp_said (old_line form (naming_lines d' l))) ls ∙ ap (λ v. stamp_said (old_line form (naming_lines v region))) same in
    let new_at : stamp_in text (new_tail form seen) ≡ stamp_said (new_line form (naming_lines d region)) = new-at text rs all form d' ∙ ap (λ l. stamp_said (new_line form (naming_lines d' l))) ls ∙ ap (λ v. stamp_said (new_line form (naming_lines v region))) same in
    let from : bytes_in text (git.from_in gs) ≡ from_by (action_of (led_lines ways form region)) (led_lines ways form region) = from-said text gs those ∙ ap (λ l. from_by (action_of l) l) led in
    let to : bytes_in text (git.to_in gs) ≡ to_by (action_of (led_lines ways form region)) (led_lines ways form region) = to-said text gs those ∙ ap (λ l. to_by (action_of l) l) led in
    let old_mode : bytes_in text (git.whole_in (git.old_mode_in gs)) ≡ old_mode_said (led_lines ways form region) = old-mode-said text gs those ∙ ap old_mode_said led in
    let new_mode : bytes_in text (git.whole_in (git.new_mode_in gs)) ≡ new_mode_said (led_lines ways form region) = new-mode-said text gs those ∙ ap new_mode_said led in
    same-parts form false _ _ _ _ _ _ _ _ _ _ _ _ _ _ _ _ _ _ _ _ _ _ old new index prereq old_at new_at (ap action_of led) from to old_mode new_mode

-- ---- a bare git header

-- the rest of a git line
git-bytes : (text : List ℕ) (number place : ℕ) (line : List ℕ) (more : List (List ℕ)) → lines (drop place text) ≡ line ∷ more → option_map (bytes_of text) (git.git_rest number place (line ∷ more)) ≡ behind (codes "diff --git ") line
git-bytes text number place line more e = tail-bytes text (codes "diff --git ") (row number place line) (record { bytes = first-bytes text place line more e })

bare-said : (text : List ℕ) (place number line at : ℕ) (region : List (List ℕ)) (git_line : List ℕ) (more : List (List ℕ)) → AllByRecursion (StandsAt text) (rows line at region) → lines (drop place text) ≡ git_line ∷ more
    → unnumbered_header (header_of text (bare_with text place number (rows line at region))) ≡ bare_header region git_line (extended_run more)
bare-said text place number line at region git_line more all e =
    let rs = rows line at region in
    let ls : git.lines_of rs ≡ region = lines-back line at region in
    let es = rows (number + 1) (place + length git_line) (extended_run more) in
    let ahead : lines (drop (place + length git_line) text) ≡ extended_run more ++ behind_run more = skip-line text place git_line more e ∙ run-split more in
    let those : AllByRecursion (StandsAt text) es = rows-stand text (number + 1) (place + length git_line) (extended_run more) (behind_run more) ahead in
    let lines_are : git.lines_of es ≡ extended_run more = lines-back (number + 1) (place + length git_line) (extended_run more) in
    let rest : git.git_rest number place (lines (drop place text)) ≡ git.git_rest number place (git_line ∷ more) = ap (git.git_rest number place) e in
    let extended : git.extended_rows number place (lines (drop place text)) ≡ es = ap (git.extended_rows number place) e in
    let old : bytes_in text (git.old_half text (git.git_rest number place (lines (drop place text)))) ≡ said.old_half (behind (codes "diff --git ") git_line) =
    ap (λ o. bytes_in text (git.old_half text o)) rest ∙ old-half text (git.git_rest number place (git_line ∷ more)) ∙ ap said.old_half (git-bytes text number place git_line more e) in
    let new : bytes_in text (git.new_half text (git.git_rest number place (lines (drop place text)))) ≡ said.new_half (behind (codes "diff --git ") git_line) =
    ap (λ o. bytes_in text (git.new_half text o)) rest ∙ new-half text (git.git_rest number place (git_line ∷ more)) ∙ ap said.new_half (git-bytes text number place git_line more e) in
    let index : bytes_in text (index_in text (last_tail (codes "Index:") rs)) ≡ index_named (last_behind (codes "Index:") region) = index-said text rs all ∙ ap (λ l. index_named (last_behind (codes "Index:") l)) ls in
    let prereq : bytes_in text (word_in text (last_tail (codes "Prereq:") rs)) ≡ word_said (last_behind (codes "Prereq:") region) = word-said text rs all (codes "Prereq:") ∙ ap (λ l. word_said (last_behind (codes "Prereq:") l)) ls in
    let action : action_of (git.lines_of (git.extended_rows number place (lines (drop place text)))) ≡ action_of (extended_run more) = ap (λ r. action_of (git.lines_of r)) extended ∙ ap action_of lines_are in
    let from : bytes_in text (git.from_in (git.extended_rows number place (lines (drop place text)))) ≡ from_by (action_of (extended_run more)) (extended_run more) =
    ap (λ r. bytes_in text (git.from_in r)) extended ∙ from-said text es those ∙ ap (λ l. from_by (action_of l) l) lines_are in
    let to : bytes_in text (git.to_in (git.extended_rows number place (lines (drop place text)))) ≡ to_by (action_of (extended_run more)) (extended_run more) =
    ap (λ r. bytes_in text (git.to_in r)) extended ∙ to-said text es those ∙ ap (λ l. to_by (action_of l) l) lines_are in
    let old_mode : bytes_in text (git.whole_in (git.old_mode_in (git.extended_rows number place (lines (drop place text))))) ≡ old_mode_said (extended_run more) =
    ap (λ r. bytes_in text (git.whole_in (git.old_mode_in r))) extended ∙ old-mode-said text es those ∙ ap old_mode_said lines_are in
    let new_mode : bytes_in text (git.whole_in (git.new_mode_in (git.extended_rows number place (lines (drop place text))))) ≡ new_mode_said (extended_run more) =
    ap (λ r. bytes_in text (git.whole_in (git.new_mode_in r))) extended ∙ new-mode-said text es those ∙ ap new_mode_said lines_are in
    same-parts Unified true _ _ _ _ _ _ _ _ _ _ _ _ _ _ _ _ _ _ _ _ _ _ old new index prereq refl refl action from to old_mode new_mode

-- ---- both

-- what stands behind a region says the same of lines alone
pub said-alone : (ways : ReadOptions) (text : List ℕ) (at line place number : ℕ) (region body rest others : List (List ℕ)) (stop : Stop) (h : Header) → lines (drop at text) ≡ region ++ rest → lines (drop place text) ≡ body ++ others
    → (stop ≡ Bare → body ≡ git_header (body ++ others)) → stop_at ways (body ++ others) ≡ Some stop → header_at ways text place number (rows line at region) stop ≡ Some h → header_said ways region body stop ≡ Some (unnumbered_header (header_of text h))
said-alone ways text at line place number region body rest others (Opening form) h e b bare stands says =
    let all : AllByRecursion (StandsAt text) (rows line at region) = rows-stand text line at region rest e in
    let is : header_with text form place number (seen_for ways form text (rows line at region)) (git.led_by ways form (rows line at region)) ≡ h = same_Some _ h says in
    ap Some (sym (opening-said text ways form place number line at region all) ∙ ap (λ x. unnumbered_header (header_of text x)) is)
said-alone ways text at line place number region [] rest others Bare h e b bare stands says = absurd (let none : stop_at ways others ≡ None = ap (stop_at ways) (no-header others (bare refl)) ∙ stop-end ways in cc)
said-alone ways text at line place number region (git_line ∷ extended) rest others Bare h e b bare stands says =
    let all : AllByRecursion (StandsAt text) (rows line at region) = rows-stand text line at region rest e in
    let is : bare_with text place number (rows line at region) ≡ h = same_Some _ h says in
    let run : extended ≡ extended_run (extended ++ others) = run-tail git_line extended (extended_run (extended ++ others)) (bare refl) in
    ap Some (ap (bare_header region git_line) run ∙ sym (bare-said text place number line at region git_line (extended ++ others) all b) ∙ ap (λ x. unnumbered_header (header_of text x)) is)
said-alone ways text at line place number region body rest others Binary h e b bare stands says = absurd cc
