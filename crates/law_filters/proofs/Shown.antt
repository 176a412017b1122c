-- Hunks that are written in the unified or the context form, with a text behind their ranges, are read again.
use Rattle.std.proofs.Common.{◌≡◌, ◌≢◌, ℕ, ◌≤◌, true, false, Bool, cond, eqb, List, [], ◌∷◌, ◌++◌, length, map, refl, sym, ap, subst, ◌∙◌, arith}
use Rattle.std.specs.List.{AllByRecursion, flat_map, zip}
use Rattle.std.proofs.lemmas.Grind.{flat_map-append}
use Rattle.std.proofs.lemmas.List.{append-nil}
use Rattle.std.proofs.lemmas.List.Concat.{flat_map-cons}
use Rattle.line_list.specs.Lines.{IsLine, lines}
use Rattle.line_list.proofs.Pieces.{joined}
use Rattle.line_list.proofs.WholeLines.{lines-both}
use Rattle.hunk_core.specs.declared.Form.{Form}
use Rattle.hunk_core.specs.declared.Form.TheVariants.{Unified, Context, Normal, Ed}
use Rattle.hunk_core.specs.PlainHunk.{PlainHunk}
use Rattle.unified_form.proofs.ShownAgain as unified_again
use Rattle.context_form.specs.Canonical as context
use Rattle.context_form.proofs.ShownAgain as context_again
use Rattle.patch_header.specs.Openings.{begins}
use Rattle.patch_header.specs.declared.read_options.ReadOptions.{ReadOptions}
use Rattle.read_patch_text.specs.Texts.{IsPiece}
use Rattle.read_file_patch.specs.PlainPatch.{PlainChange, hunks}
use Rattle.format_convert.specs.Behind.{behind_in, shown_text}
use Rattle.format_convert.specs.Taken.{kept_hunks}
use Rattle.format_convert.specs.Converted.{kept_pieces, told}
use Rattle.law_reading.specs.TurnedPatches.{as_shown}
use Rattle.law_reading.proofs.Spelling.{hunk-told, not-there}
use Rattle.law_reading.proofs.Hunks.{AreOwn, ChainAs, IsGood, IsQuietAs, Rising, SpellsAs, chain-piece, chain-same, context-least, open-silent, open-stops, open_text, own-of, quiet-first, quiet-none, unified-least}
use Rattle.law_reading.proofs.FlipReading.{HasHunk, opens-body}
use Rattle.law_filters.specs.ReadAgain.{change_again}
use Rattle.law_filters.proofs.Behind.{NoFeed, quiet-in}

-- the lines that are written of a change in a form
pub record Body (ways : ReadOptions) (form : Form) (c : PlainChange) (bytes : List ℕ) : Type 0 where
  pub body : List (List ℕ)
  pub whole : AllByRecursion IsLine body
  pub is : bytes ≡ joined body
  pub opens : begins ways.only form (body ++ []) ≡ true
  pub spelled : IsPiece form 0 (body ++ []) (change_again form c) (length body) []

-- ---- one hunk

abbrev IsShownForm : Form → Type 0
IsShownForm Unified = Unit {0}
IsShownForm Context = Unit {0}
IsShownForm Normal = ⊥
IsShownForm Ed = ⊥

-- the lines of a written hunk
record IsTold (form : Form) (h : PlainHunk) (bytes : List ℕ) (own : List (List ℕ)) : Type 0 where
  are : AreOwn bytes own
  spell : (least : ℕ) (behind : List (List ℕ)) → least ≤ h.old_start → IsQuietAs form behind → SpellsAs form least own behind (as_shown form h)

told-hunk : (form : Form) (after : List ℕ) (h : PlainHunk) → IsShownForm form → NoFeed after → IsGood h → (own : List (List ℕ)) × IsTold form h (shown_text form after h) own
told-hunk Unified after h is quiet g =
    let s = unified_again.shown-first after h open_text quiet g.unbroken g.clean open-silent in
    (s.own, record { are = own-of (shown_text Unified after h) s.own s.parts; spell = λ least behind le still. unified-least least s.own h le s.spelled })
told-hunk Context after h is quiet g =
    let s = context_again.shown-first after h open_text quiet g.unbroken g.clean open-stops open-silent in (
      s.own,
      record {
        are = own-of (shown_text Context after h) s.own s.parts;
        spell = λ least behind le still. context-least least s.own behind (as_shown Context h) le (hunk-told 0 s.own (lines open_text) behind (as_shown Context h) (λ t olds none. not-there t olds behind still) s.spelled);
      },
    )
told-hunk Normal after h is quiet g = absurd is
told-hunk Ed after h is quiet g = absurd is

-- ---- all of them

-- these bytes are what is written of these hunks
abbrev pub AreTold : Form → List PlainHunk → List ℕ → Type 0
AreTold form [] bytes = bytes ≡ []
AreTold form (h ∷ hs) bytes = (after : List ℕ) × (rest : List ℕ) × NoFeed after × (bytes ≡ shown_text form after h ++ rest) × AreTold form hs rest

record IsToldBody (form : Form) (least : ℕ) (hs : List PlainHunk) (bytes : List ℕ) (body : List (List ℕ)) : Type 0 where
  whole : AllByRecursion IsLine body
  is : bytes ≡ joined body
  chain : ChainAs form least body [] (map (as_shown form) hs)
  quiet : IsQuietAs form body

told-body : (form : Form) (least : ℕ) (hs : List PlainHunk) (bytes : List ℕ) → IsShownForm form → AreTold form hs bytes → AllByRecursion IsGood hs → Rising least (map (λ h. h.old_start) hs) → (body : List (List ℕ)) × IsToldBody form least hs bytes body
told-body form least [] bytes is told good rises = ([], record { whole = tt; is = told; chain = refl; quiet = quiet-none form })
told-body form least (h ∷ hs) bytes is (after, rest, quiet, parts, more) good rises =
    let later = told-body form h.old_start hs rest is more good.1 rises.1 in
    let w = told-hunk form after h is quiet good.0 in
    let still : IsQuietAs form (later.0 ++ []) = subst (IsQuietAs form) (sym (append-nil later.0)) later.1.quiet in
    let spelled = w.1.spell least (later.0 ++ []) rises.0 still in (
      w.0 ++ later.0,
      record {
        whole = lines-both w.0 later.0 w.1.are.whole later.1.whole;
        is = parts ∙ ap (λ (x : List ℕ). x ++ rest) w.1.are.is ∙ ap (λ (x : List ℕ). joined w.0 ++ x) later.1.is ∙ sym (flat_map-append (λ (l : List ℕ). l) w.0 later.0);
        chain = (w.0, later.0, refl, spelled, chain-same form h hs later.0 later.1.chain);
        quiet = quiet-first form least w.0 (later.0 ++ []) later.0 (as_shown form h) spelled;
      },
    )

-- what is written of the kept ones of hunks with their lines
pub told-kept : (form from : Form) (are : List Bool) (pieces : List (List ℕ)) (hs : List PlainHunk) → length pieces ≡ length hs → AreTold form (kept_hunks are hs) (flat_map (told form from) (kept_pieces are (zip pieces hs)))
told-kept form from [] pieces hs same = refl
told-kept form from (b ∷ are) [] [] same = refl
told-kept form from (b ∷ are) [] (h ∷ hs) same = absurd (omega (arith, same))
told-kept form from (b ∷ are) (p ∷ pieces) [] same = absurd (omega (arith, same))
told-kept form from (b ∷ are) (p ∷ pieces) (h ∷ hs) same = by b (told-kept form from are pieces hs (omega (arith, same)))
  where
    by : (v : Bool) → AreTold form (kept_hunks are hs) (flat_map (told form from) (kept_pieces are (zip pieces hs)))
        → AreTold form (cond v (h ∷ []) [] ++ kept_hunks are hs) (flat_map (told form from) (cond v ((p, h) ∷ []) [] ++ kept_pieces are (zip pieces hs)))
    by true more = (behind_in from p, flat_map (told form from) (kept_pieces are (zip pieces hs)), quiet-in from p, flat_map-cons (told form from) (p, h) (kept_pieces are (zip pieces hs)), more)
    by false more = more

map-same : (hs : List PlainHunk) → map (as_shown Unified) hs ≡ hs
map-same [] = refl
map-same (h ∷ hs) = ap (λ xs. h ∷ xs) (map-same hs)

pub unified-body : (ways : ReadOptions) (hs : List PlainHunk) (bytes : List ℕ) → AreTold Unified hs bytes → AllByRecursion IsGood hs → Rising 0 (map (λ h. h.old_start) hs) → HasHunk hs → Body ways Unified (hunks hs) bytes
unified-body ways hs bytes told good rises some =
    let b = told-body Unified 0 hs bytes tt told good rises in
    record {
      body = b.0;
      whole = b.1.whole;
      is = b.1.is;
      opens = opens-body ways Unified 0 b.0 hs some b.1.chain;
      spelled = chain-piece Unified b.0 hs tt (subst (ChainAs Unified 0 b.0 []) (map-same hs) b.1.chain);
    }

pub context-body : (ways : ReadOptions) (hs : List PlainHunk) (bytes : List ℕ) → AreTold Context hs bytes → AllByRecursion IsGood hs → Rising 0 (map (λ h. h.old_start) hs) → HasHunk hs → Body ways Context (hunks hs) bytes
context-body ways hs bytes told good rises some =
    let b = told-body Context 0 hs bytes tt told good rises in
    record {
      body = b.0;
      whole = b.1.whole;
      is = b.1.is;
      opens = opens-body ways Context 0 b.0 hs some b.1.chain;
      spelled = chain-piece Context b.0 (map context.in_order hs) tt b.1.chain;
    }
