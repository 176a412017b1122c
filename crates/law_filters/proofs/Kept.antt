-- What holds of the hunks of a file patch holds of those that are kept.
use Rattle.std.proofs.Common.{◌≡◌, ℕ, ◌≤◌, Bool, true, false, cond, ◌||◌, List, [], ◌∷◌, ◌++◌, length, map, arith}
use Rattle.std.specs.List.{AllByRecursion, list_any}
use Rattle.line_list.specs.declared.Span.{Span}
use Rattle.hunk_core.specs.declared.Form.{Form}
use Rattle.hunk_core.specs.declared.Form.TheVariants.{Unified, Context, Normal, Ed}
use Rattle.hunk_core.specs.Pieces.{SpellInTurn}
use Rattle.hunk_core.specs.PlainHunk.{PlainHunk}
use Rattle.read_patch_text.specs.Changes.{Spells}
use Rattle.format_convert.specs.Taken.{kept_hunks}
use Rattle.law_reading.proofs.Hunks.{IsHunkForm, Rising}
use Rattle.law_reading.proofs.FlipReading.{HasHunk}

pub kept-all : (P : PlainHunk → Type 0) (are : List Bool) (hs : List PlainHunk) → AllByRecursion P hs → AllByRecursion P (kept_hunks are hs)
kept-all P [] hs all = tt
kept-all P (b ∷ bs) [] all = tt
kept-all P (b ∷ bs) (h ∷ hs) all = by b (kept-all P bs hs all.1)
  where
    by : (v : Bool) → AllByRecursion P (kept_hunks bs hs) → AllByRecursion P (cond v (h ∷ []) [] ++ kept_hunks bs hs)
    by true more = (all.0, more)
    by false more = more

rising-less : (s t : ℕ) (ts : List ℕ) → s ≤ t → Rising t ts → Rising s ts
rising-less s t [] le r = tt
rising-less s t (u ∷ us) le r = (omega (arith, le, r.0), r.1)

pub kept-rising : (s : ℕ) (are : List Bool) (hs : List PlainHunk) → Rising s (map (λ h. h.old_start) hs) → Rising s (map (λ h. h.old_start) (kept_hunks are hs))
kept-rising s [] hs r = tt
kept-rising s (b ∷ bs) [] r = tt
kept-rising s (b ∷ bs) (h ∷ hs) r = by b (λ t q. kept-rising t bs hs q)
  where
    by : (v : Bool) → ((t : ℕ) → Rising t (map (λ (x : PlainHunk). x.old_start) hs) → Rising t (map (λ (x : PlainHunk). x.old_start) (kept_hunks bs hs))) → Rising s (map (λ (x : PlainHunk). x.old_start) (cond v (h ∷ []) [] ++ kept_hunks bs hs))
    by true again = (r.0, again h.old_start r.1)
    by false again = again s (rising-less s h.old_start (map (λ (x : PlainHunk). x.old_start) hs) r.0 r.1)

pub kept-some : (are : List Bool) (hs : List PlainHunk) → list_any (λ is. is) are ≡ true → length are ≡ length hs → HasHunk (kept_hunks are hs)
kept-some [] hs some long = absurd (cc)
kept-some (b ∷ bs) [] some long = absurd (omega (arith, long))
kept-some (b ∷ bs) (h ∷ hs) some long = by b some (λ e. kept-some bs hs e (omega (arith, long)))
  where
    by : (v : Bool) → (v || list_any (λ is. is) bs) ≡ true → (list_any (λ is. is) bs ≡ true → HasHunk (kept_hunks bs hs)) → HasHunk (cond v (h ∷ []) [] ++ kept_hunks bs hs)
    by true e again = tt
    by false e again = again e

-- ---- the starts of hunks that were read rise

order-of : (form : Form) (least : ℕ) (own : List (List ℕ)) (h : PlainHunk) → IsHunkForm form → Spells form least own h → least ≤ h.old_start
order-of Unified least [] h is s = absurd s
order-of Unified least (line ∷ rest) h is s = s.1.order
order-of Context least own h is s = s.order
order-of Normal least [] h is s = absurd s
order-of Normal least (line ∷ rest) h is s = s.5.order
order-of Ed least own h is s = absurd is

pub read-rising : (text : List ℕ) (form : Form) (least : ℕ) (spans : List Span) (hs : List PlainHunk) → IsHunkForm form → SpellInTurn (Spells form) text least spans hs → Rising least (map (λ h. h.old_start) hs)
read-rising text form least [] [] is s = tt
read-rising text form least [] (h ∷ hs) is s = absurd s
read-rising text form least (a ∷ spans) [] is s = tt
read-rising text form least (a ∷ spans) (h ∷ hs) is s = (order-of form least _ h is s.0, read-rising text form h.old_start spans hs is s.1)
