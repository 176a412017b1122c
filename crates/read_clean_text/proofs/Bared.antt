-- A text without its carriage returns, one line after another.
use Rattle.std.proofs.Common.{◌≡◌, ℕ, ◌+◌, ◌≤◌, Bool, List, [], ◌∷◌, ◌++◌, length, map, drop, slice_range, refl, sym, ap, ◌∙◌, arith, length-append, append_assoc}
use Rattle.std.specs.List.{flat_map}
use Rattle.std.proofs.lemmas.List.{append-nil}
use Rattle.std.proofs.lemmas.List.Concat.{flat_map-cons}
use Rattle.line_list.specs.Lines.{lines, IsLineAt}
use Rattle.patch_header.proofs.Rows.{line_length}
use Rattle.read_clean_text.specs.Bare.{bare_line, bare_text, has_return, returns_of}
use Rattle.read_clean_text.proofs.Lines.{bare-less}

-- the lines up to a place were put down
pub record HasBared (text out : List ℕ) (returns : List Bool) (at : ℕ) : Type 0 where
  pub within : at ≤ length text
  pub few : length out ≤ at
  pub bare : out ++ flat_map bare_line (lines (drop at text)) ≡ flat_map bare_line (lines text)
  pub marked : returns ++ map has_return (lines (drop at text)) ≡ map has_return (lines text)

pub bared-none : (text : List ℕ) → HasBared text [] [] 0
bared-none text = record { within = omega arith; few = omega arith; bare = refl; marked = refl }

pub bared-more : (text out more : List ℕ) (returns marks : List Bool) (at end : ℕ) (mark : Bool) → HasBared text out returns at → IsLineAt text at end
    → more ≡ out ++ bare_line (slice_range text at end) → mark ≡ has_return (slice_range text at end) → marks ≡ returns ++ mark ∷ [] → HasBared text more marks end
bared-more text out more returns marks at end mark so line puts has adds =
    let one = slice_range text at end in
    let rest = lines (drop end text) in
    let far : at + length one ≡ end = line_length text at end line in
    record {
      within = line.high;
      few = omega (arith, ap length puts, length-append out (bare_line one), bare-less one, far, so.few);
      bare =
          ap (λ l. l ++ flat_map bare_line rest) puts
          ∙ append_assoc out (bare_line one) (flat_map bare_line rest)
          ∙ ap (λ l. out ++ l) (sym (flat_map-cons bare_line one rest))
          ∙ ap (λ ls. out ++ flat_map bare_line ls) (sym line.first)
          ∙ so.bare;
      marked =
          ap (λ l. l ++ map has_return rest) (adds ∙ ap (λ b. returns ++ b ∷ []) has)
          ∙ append_assoc returns (has_return one ∷ []) (map has_return rest)
          ∙ ap (λ ls. returns ++ map has_return ls) (sym line.first)
          ∙ so.marked;
    }

module _ (text out : List ℕ) (returns : List Bool) (at : ℕ) (so : HasBared text out returns at) (none : lines (drop at text) ≡ []) where
  pub bared-text : out ≡ bare_text text
  unfolding bare_text
  bared-text = sym (append-nil out) ∙ ap (λ ls. out ++ flat_map bare_line ls) (sym none) ∙ so.bare

  pub bared-returns : returns ≡ returns_of text
  bared-returns = sym (append-nil returns) ∙ ap (λ ls. returns ++ map has_return ls) (sym none) ∙ so.marked

  pub bared-length : length out ≤ length text
  bared-length = omega (arith, so.few, so.within)
