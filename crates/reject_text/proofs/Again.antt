-- What was written is read again, hunk by hunk.
use Rattle.std.proofs.Common.{◌≡◌, ℕ, Bool, true, false, cond, List, [], ◌∷◌, None, refl, ap, ◌∙◌}
use Rattle.std.specs.List.{flat_map}
use Rattle.std.proofs.lemmas.List.Concat.{flat_map-cons}
use Rattle.line_list.specs.Lines.{lines, with_first}
use Rattle.hunk_core.specs.declared.Form.{Form}
use Rattle.hunk_core.specs.declared.Form.TheVariants.{Unified, Context, Normal, Ed}
use Rattle.hunk_core.specs.PlainHunk.{PlainHunk}
use Rattle.hunk_core.specs.LineTests.{after, after_backslash}
use Rattle.unified_form.proofs.Again as unified
use Rattle.context_form.proofs.Again as context
use Rattle.context_form.specs.Presence.{may_begin, begins_part}
use Rattle.patch_header.specs.Written.{hunk_text}
use Rattle.patch_header.proofs.Rows.{no-lines}
use Rattle.reject_text.specs.Headers.{IsRejectForm}
use Rattle.reject_text.specs.Again.{AreUnbroken, AreClean, AreReadAgain}

-- ---- the text of a hunk doesn't begin as a line of the one before it

at-quiet : (ls : List (List ℕ)) → after_backslash (with_first 64 ls) ≡ None
unfolding after
at-quiet [] = refl
at-quiet (line ∷ more) = refl

star-quiet : (ls : List (List ℕ)) → after_backslash (with_first 42 ls) ≡ None
unfolding after
star-quiet [] = refl
star-quiet (line ∷ more) = refl

no-mark : (b : Bool) → may_begin true (cond b None None) ≡ false
no-mark true = refl
no-mark false = refl

star-begins : (ls : List (List ℕ)) → begins_part true (with_first 42 ls) ≡ false
star-begins [] = refl
star-begins ([] ∷ more) = refl
star-begins ((c ∷ bytes) ∷ more) = no-mark _

at-line : (bs : List ℕ) → lines (64 ∷ bs) ≡ with_first 64 (lines bs)
unfolding lines
at-line bs = refl

star-line : (bs : List ℕ) → lines (42 ∷ bs) ≡ with_first 42 (lines bs)
unfolding lines
star-line bs = refl

star-starts : (bs : List ℕ) → begins_part true (lines (42 ∷ bs)) ≡ false
star-starts bs = ap (begins_part true) (star-line bs) ∙ star-begins (lines bs)

unified-quiet : (hs : List PlainHunk) → after_backslash (lines (flat_map (hunk_text Unified) hs)) ≡ None
unified-quiet [] = ap after_backslash no-lines
unified-quiet (h ∷ hs) = ap (λ bs. after_backslash (lines bs)) (flat_map-cons (hunk_text Unified) h hs) ∙ ap after_backslash (at-line _) ∙ at-quiet _

context-quiet : (hs : List PlainHunk) → after_backslash (lines (flat_map (hunk_text Context) hs)) ≡ None
context-quiet [] = ap after_backslash no-lines
context-quiet (h ∷ hs) = ap (λ bs. after_backslash (lines bs)) (flat_map-cons (hunk_text Context) h hs) ∙ ap after_backslash (star-line _) ∙ star-quiet _

context-begins : (hs : List PlainHunk) → begins_part true (lines (flat_map (hunk_text Context) hs)) ≡ false
context-begins [] = ap (begins_part true) no-lines
context-begins (h ∷ hs) = ap (λ bs. begins_part true (lines bs)) (flat_map-cons (hunk_text Context) h hs) ∙ star-starts _

pub read-again : (form : Form) (hs : List PlainHunk) → IsRejectForm form → AreUnbroken hs → AreClean hs → AreReadAgain form hs
read-again form [] fits unbroken clean = tt
read-again Unified (h ∷ hs) fits unbroken clean =
    (unified.spells-first h (flat_map (hunk_text Unified) hs) unbroken.0 clean.0 (unified-quiet hs), read-again Unified hs fits unbroken.1 clean.1)
read-again Context (h ∷ hs) fits unbroken clean =
    (context.spells-first h (flat_map (hunk_text Context) hs) unbroken.0 clean.0 (context-begins hs) (context-quiet hs), read-again Context hs fits unbroken.1 clean.1)
read-again Normal (h ∷ hs) fits unbroken clean = absurd fits
read-again Ed (h ∷ hs) fits unbroken clean = absurd fits
