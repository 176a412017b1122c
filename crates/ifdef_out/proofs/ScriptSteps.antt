-- A walk over the edits of a script.
use Rattle.std.proofs.Common.{◌≡◌, ℕ, ◌+◌, ◌-◌, ◌<◌, ◌≤◌, List, [], ◌∷◌, ◌++◌, length, reverse, get_or, drop, map, flat_map, sym, ap, subst, ◌∙◌, arith}
use Rattle.std.specs.List.{All}
use Rattle.std.proofs.lemmas.List.{at_drop_more, drop_all, get_or-reverse, length-reverse}
use Rattle.std.proofs.lemmas.List.Concat.{flat_map-cons}
use Rattle.line_list.specs.declared.Span.{Span}
use Rattle.hunk_core.specs.PlainHunk.{bytes_at}
use Rattle.hunk_core.specs.Turned.{LiesIn}
use Rattle.hunk_place.specs.Order.{from_to}
use Rattle.ed_form.specs.declared.script.EdEdit.{EdEdit}
use Rattle.ed_form.specs.PlainEdit.{edit_of, edits_of, lines_of}
use Rattle.hunk_apply.specs.Splice.{Edit, add, drop_line}
use Rattle.hunk_apply.proofs.SpliceLemmas.{from-next, from-none}
use Rattle.ifdef_out.specs.Placed.{command_edits}
use Rattle.ifdef_out.specs.Places.{script_left, script_at}

module _ (text : List ℕ) (es : List EdEdit) (row : ℕ) where
  -- the edits of the commands behind this one
  abbrev pub later : List Edit
  later = flat_map command_edits (edits_of text (drop (row + 1) (reverse es)))

  -- behind all commands nothing is left
  pub none-ahead : (line next : ℕ) → length es ≤ row → script_at text es row line next ≡ []
  none-ahead line next le = ap (script_left text line next) (drop_all row (reverse es) (omega (arith, length-reverse es)))

  pub none-placed : length es ≤ row → flat_map command_edits (edits_of text (drop row (reverse es))) ≡ []
  none-placed le = ap (λ xs. flat_map command_edits (edits_of text xs)) (drop_all row (reverse es) (omega (arith, length-reverse es)))

  module _ (e : EdEdit) (lt : row < length es) (is : e ≡ get_or es ((length es - 1) - row) e) where
    there : get_or (reverse es) row e ≡ e
    there = get_or-reverse es row e lt ∙ sym is

    command-ahead : (line next : ℕ) → script_at text es row line next ≡ (map drop_line (from_to next e.last) ++ map (add (e.last + 1)) (lines_of text (drop line e.added.items))) ++ later
    command-ahead line next =
        at_drop_more (script_left text line next) (reverse es) row e (omega (arith, length-reverse es))
        ∙ ap (λ x. script_left text line next (x ∷ drop (row + 1) (reverse es))) there

    -- the place in front of a command
    pub starts : script_at text es row 0 e.first ≡ flat_map command_edits (edits_of text (drop row (reverse es)))
    starts =
        command-ahead 0 e.first
        ∙ sym (at_drop_more (λ xs. flat_map command_edits (edits_of text xs)) (reverse es) row e (omega (arith, length-reverse es))
        ∙ ap (λ x. flat_map command_edits (edits_of text (x ∷ drop (row + 1) (reverse es)))) there
        ∙ flat_map-cons command_edits (edit_of text e) (edits_of text (drop (row + 1) (reverse es))))

    -- a line that is dropped
    pub drop-ahead : (line next : ℕ) → next ≤ e.last → script_at text es row line next ≡ drop_line next ∷ script_at text es row line (next + 1)
    drop-ahead line next le =
        command-ahead line next
        ∙ ap (λ ks. (map drop_line ks ++ map (add (e.last + 1)) (lines_of text (drop line e.added.items))) ++ later) (from-next next e.last le)
        ∙ ap (λ r. drop_line next ∷ r) (sym (command-ahead line (next + 1)))

    -- behind the lines that are dropped
    added-ahead : (line next : ℕ) → e.last < next → script_at text es row line next ≡ map (add (e.last + 1)) (lines_of text (drop line e.added.items)) ++ later
    added-ahead line next lt =
        command-ahead line next
        ∙ ap (λ ks. (map drop_line ks ++ map (add (e.last + 1)) (lines_of text (drop line e.added.items))) ++ later) (from-none next e.last lt)

    -- a line that is added
    pub add-ahead : (line next : ℕ) (span : Span) → e.last < next → line < length e.added.items → span ≡ get_or e.added.items line span
        → script_at text es row line next ≡ add (e.last + 1) (bytes_at text span) ∷ script_at text es row (line + 1) next
    add-ahead line next span lt within at =
        added-ahead line next lt
        ∙ at_drop_more (λ ss. map (add (e.last + 1)) (lines_of text ss) ++ later) e.added.items line span within
        ∙ ap (λ x. map (add (e.last + 1)) (lines_of text (x ∷ drop (line + 1) e.added.items)) ++ later) (sym at)
        ∙ ap (λ r. add (e.last + 1) (bytes_at text span) ∷ r) (sym (added-ahead (line + 1) next lt))

    -- behind a command
    pub command-over : (line next : ℕ) → e.last < next → length e.added.items ≤ line → script_at text es row line next ≡ later
    command-over line next lt le =
        added-ahead line next lt
        ∙ ap (λ ss. map (add (e.last + 1)) (lines_of text ss) ++ later) (drop_all line e.added.items le)

-- the same edits, told by other words
pub moved : (text : List ℕ) (es : List EdEdit) (edit : Edit) (shown : List Edit) (row line next row2 line2 next2 : ℕ) → edit ∷ [] ≡ shown → row ≡ row2 → line ≡ line2 → next ≡ next2
    → edit ∷ script_at text es row line next ≡ shown ++ script_at text es row2 line2 next2
moved text es edit shown row line next row2 line2 next2 e r l n =
    ap (λ xs. xs ++ script_at text es row line next) e
    ∙ ap (λ k. shown ++ script_at text es k line next) r
    ∙ ap (λ k. shown ++ script_at text es row2 k next) l
    ∙ ap (λ k. shown ++ script_at text es row2 line2 k) n

-- the span of a line that a lawful script adds
pub span-lies : (text : List ℕ) (es : List EdEdit) (k line : ℕ) (e : EdEdit) (span : Span) → All (λ e. All (LiesIn text) e.added.items) es → k < length es → e ≡ get_or es k e → line < length e.added.items → span ≡ get_or e.added.items line span → LiesIn text span
span-lies text es k line e span lawful lt is within at =
    let own : All (LiesIn text) e.added.items = subst (λ (x : EdEdit). All (LiesIn text) x.added.items) (sym is) (lawful k e lt) in
    subst (LiesIn text) (sym at) (own line span within)
