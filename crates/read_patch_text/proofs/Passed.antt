-- What the readers of file patches say of a fault that is passed on, of numbers that fit, and of what comes next.
use Rattle.std.proofs.Common.{◌≡◌, ℕ, ◌+◌, ◌-◌, ◌<◌, ◌≤◌, ◌^◌, true, false, List, [], ◌∷◌, ◌++◌, length, drop, Option, None, Some, Result, Ok, Err, inl, refl, sym, ap, subst, ◌∙◌, arith, length-append}
use Rattle.std.specs.Prelude.{All}
use Rattle.std.specs.Result.{IfOk, IsErrAnd}
use Rattle.std.proofs.lemmas.Bool.{false≢true}
use Rattle.line_list.specs.Lines.{lines}
use Rattle.hunk_core.specs.declared.BadKind.{BadKind}
use Rattle.hunk_core.specs.declared.BadKind.TheVariants as kinds
use Rattle.hunk_core.specs.declared.fault.FormFault.{FormFault}
use Rattle.hunk_core.specs.declared.fault.FormFault.TheVariants as errors
use Rattle.hunk_core.specs.declared.Form.TheVariants.{Unified}
use Rattle.hunk_core.specs.declared.Side.{Side}
use Rattle.hunk_core.specs.declared.Side.TheVariants.{Forward, Reversed}
use Rattle.hunk_core.specs.Reading.{◌>>=◌, Ahead, Fails, Fault, Gives}
use Rattle.read_header_record.specs.declared.Header.{Header}
use Rattle.patch_header.specs.declared.search.HeaderStep.TheVariants.{Found, Binary, End}
use Rattle.patch_header.specs.declared.read_options.ReadOptions.{ReadOptions}
use Rattle.patch_header.specs.Steps.{IsFirstBinary, next_step}
use Rattle.read_file_patch.specs.declared.FilePatch.{FilePatch}
use Rattle.read_file_patch.specs.Absent.{IsLawfulPatch, is_absent, told_absent}
use Rattle.read_file_patch.specs.PlainPatch.{IsLawfulChange, PlainChange, PlainPatch, patch_of}
use Rattle.read_patch_text.specs.Digests.{digested_change, digested_patch}
use Rattle.read_patch_text.specs.Outlines.{behind_outlined, change_outlined, outlined_change, outlined_patch}
use Rattle.read_patch_text.specs.Patches.{bare_change, change_at, change_behind, next_patch, patch_at, patch_by, patch_with}
use Rattle.read_patch_text.specs.Reading.{IsProgress}
use Rattle.read_patch_text.specs.Regions.{Region}
use Rattle.read_patch_text.specs.Texts.{ComesFault}
use Rattle.unified_form.specs.declared.hunk_scan.OldRange.{OldRange}

-- ---- a fault that is passed on

-- what is said of a value says nothing
pub nothing-said : {T : Type 0} (P : T → Type 0) (Q : FormFault → Type 0) (r : Result T FormFault) → IsErrAnd r Q → IfOk r P
nothing-said P Q (Ok x) is = absurd is
nothing-said P Q (Err e) is = tt

-- it is the one that reading gives
pub fault-given : {X Y : Type 0} (view : X → Y) (e : FormFault) (r : Result X FormFault) (read : Result Y Fault) → IsErrAnd r (λ d. d ≡ e) → Fails e read → Gives view r read
fault-given view e (Ok x) read is h = absurd is
fault-given view e (Err d) read is h = subst (λ f. Fails f read) (sym is) h

pub value-isnt : {T : Type 0} (r : Result T FormFault) (x : T) (f : FormFault) → r ≡ Ok x → r ≡ Err f → ⊥
value-isnt r x f a b = cc

pub some-isnt : {T : Type 0} (o : Option T) (x : T) → o ≡ Some x → o ≡ None → ⊥
some-isnt o x a b = cc

-- what follows a step that failed isn't reached
pub fails-on : {A B : Type 0} (e : FormFault) (r : Result A Fault) (f : A → Result B Fault) → Fails e r → Fails e (r >>= f)
fails-on errors.Memory r f h = tt
fails-on (errors.Malformed line kind) r f h = ap (λ x. x >>= f) h

-- ---- numbers

pub start-fits : (at place n : ℕ) → at ≤ place → place < n → n < 2 ^ 32 → at < 2 ^ 32
start-fits at place n low high short = omega (arith, low, high, short)

pub end-fits : (end n : ℕ) → end ≤ n → n < 2 ^ 32 → end < 2 ^ 32
end-fits end n high short = omega (arith, high, short)

pub end-widens : (end n : ℕ) → end ≤ n → n < 2 ^ 32 → end < 2 ^ 64
end-widens end n high short = omega (arith, high, short)

pub count-fits : (count at n : ℕ) → count ≤ at → at ≤ n → n < 2 ^ 32 → count < 2 ^ 32
count-fits count at n few high short = omega (arith, few, high, short)

pub rows-fit : (rows count at n : ℕ) → rows ≡ count → count ≤ at → at ≤ n → n < 2 ^ 32 → rows < 2 ^ 32
rows-fit rows count at n same few high short = omega (arith, same, few, high, short)

pub behind-fits : (rows place end n : ℕ) → place + rows ≤ end → end ≤ n → n < 2 ^ 32 → rows < 2 ^ 32
behind-fits rows place end n within high short = omega (arith, within, high, short)

pub number-fits : (number at n : ℕ) → number ≤ at + 1 → at ≤ n → (at ≡ n → ⊥) → n < 2 ^ 32 → number < 2 ^ 32
number-fits number at n numbers high more short = omega (arith, numbers, high, more, short)

pub opening-fits : (opening at line place n : ℕ) → opening + at ≤ line + place → line ≤ at + 1 → place < n → n < 2 ^ 32 → opening < 2 ^ 32
opening-fits opening at line place n numbers low high short = omega (arith, numbers, low, high, short)

pub number-on : (next place opening end at line : ℕ) → next + place ≤ opening + end → opening + at ≤ line + place → line ≤ at + 1 → next ≤ end + 1
number-on next place opening end at line behind before low = omega (arith, behind, before, low)

pub opening-low : (opening at line place : ℕ) → opening + at ≤ line + place → line ≤ at + 1 → opening ≤ place + 1
opening-low opening at line place numbers low = omega (arith, numbers, low)

pub goes-far : (at place end : ℕ) → at ≤ place → place < end → at < end
goes-far at place end low some = omega (arith, low, some)

pub comes-near : (n at end : ℕ) → at < end → end ≤ n → n - end < n - at
comes-near n at end some high = omega (arith, some, high)

pub below : (a n : ℕ) → a < n → a ≤ n
below a n lt = omega (arith, lt)

pub not-below : (n : ℕ) → 0 ≤ n
not-below n = omega arith

pub one-more : {X : Type 0} (xs : List X) (x : X) (at end : ℕ) → length xs ≤ at → at < end → length (xs ++ x ∷ []) ≤ end
one-more xs x at end few some = omega (arith, length-append xs (x ∷ []), few, some)

pub none-yet : {X : Type 0} (xs : List X) (n : ℕ) → xs ≡ [] → length xs ≤ n
none-yet xs n e = omega (arith, ap length e)

pub all-of-none : {X : Type 0} (P : X → Type 0) (xs : List X) → xs ≡ [] → All P xs
all-of-none P xs e = λ k d lt. absurd (omega (arith, lt, ap length e))

pub progress-begins : (text : List ℕ) → IsProgress text (record { at = 0; number = 1; dotless = false; hunks = 0 })
progress-begins text = record { within = omega arith; numbers = omega arith; few = omega arith; known = λ e. absurd (false≢true e) }

-- ---- a file patch

pub lawful-patch : (text : List ℕ) (p : FilePatch) → IsLawfulChange text p.change → p.old_absent ≡ is_absent Forward (patch_of text p) → p.new_absent ≡ is_absent Reversed (patch_of text p) → IsLawfulPatch text p
lawful-patch text p lawful old new = record { change = lawful; absent = λ side. told side }
  where
    told : (side : Side) → told_absent side p ≡ is_absent side (patch_of text p)
    told Forward = old
    told Reversed = new

abbrev pub with_header : List ℕ → Header → PlainChange × Ahead → Result (PlainPatch × Ahead) Fault
with_header text h x = Ok (patch_with text h x.0, x.1)

abbrev pub with_ranges : List ℕ → Header → PlainChange × List OldRange × Ahead → Result (PlainPatch × List OldRange × Ahead) Fault
with_ranges text h x = Ok (patch_with text h x.0, x.1, x.2)

pub outlines-with : (text : List ℕ) (h : Header) (r : Result (PlainChange × Ahead) Fault) → ((r >>= with_header text h) >>= outlined_patch) ≡ ((r >>= outlined_change) >>= with_header text h)
outlines-with text h (Ok x) = refl
outlines-with text h (Err e) = refl

pub digests-with : (text : List ℕ) (h : Header) (r : Result (PlainChange × Ahead) Fault) → ((r >>= with_header text h) >>= digested_patch) ≡ ((r >>= digested_change) >>= with_ranges text h)
digests-with text h (Ok x) = refl
digests-with text h (Err e) = refl

pub unified-behind : (text : List ℕ) (h : Header) → h.bare ≡ false → h.form ≡ Unified → change_outlined Unified h.opening (lines (drop h.at text)) ≡ behind_outlined text h
unified-behind text h some form = rw (some, form) refl

pub behind-is : (text : List ℕ) (h : Header) → h.bare ≡ false → change_at h.form h.opening (lines (drop h.at text)) ≡ change_behind text h
behind-is text h some = rw some refl

pub bare-is : (text : List ℕ) (h : Header) (x : PlainChange × Ahead) → h.bare ≡ true → x ≡ bare_change text h.at h.opening → change_behind text h ≡ Ok x
bare-is text h x bare is = rw (bare, is) refl

-- where it lies, up to its ends
abbrev pub lies : ℕ → Header → ℕ → List ℕ → Region
lies start h end ends = record { start = start; header = h; ends = ends; end = end }

-- ---- what comes next

abbrev pub some_value : {T : Type 0} → T → Result (Option T) Fault
some_value x = Ok (Some x)

pub end-comes : (ways : ReadOptions) (text : List ℕ) (at number : ℕ) → End ≡ next_step ways text at number → next_patch ways text at number ≡ Ok None
end-comes ways text at number step = ap (patch_by text) (sym step)

pub binary-comes : (e : FormFault) (ways : ReadOptions) (text : List ℕ) (at number line : ℕ) → Binary line ≡ next_step ways text at number → e ≡ errors.Malformed line kinds.Binary → Fails e (next_patch ways text at number)
binary-comes e ways text at number line step is = subst (λ d. Fails d (next_patch ways text at number)) (sym is) (ap (patch_by text) (sym step))

pub binary-fault : {T : Type 0} (ways : ReadOptions) (text : List ℕ) (at number line : ℕ) (e : FormFault) (r : Result T FormFault) (n : ℕ) (kind : BadKind) → IsFirstBinary ways text at number line → e ≡ errors.Malformed line kinds.Binary → r ≡ Err e → r ≡ Err (errors.Malformed n kind) → ComesFault ways text at number n kind
binary-fault ways text at number line e r n kind first is read same =
    let line_is : line ≡ n = cc in
    let kind_is : kind ≡ kinds.Binary = cc in
    inl (subst (IsFirstBinary ways text at number) line_is first, kind_is)

pub patch-comes : (ways : ReadOptions) (text : List ℕ) (at number : ℕ) (h : Header) (v : PlainPatch × Ahead) → Found h ≡ next_step ways text at number → patch_at text h ≡ Ok v → next_patch ways text at number ≡ Ok (Some v)
patch-comes ways text at number h v step read = ap (patch_by text) (sym step) ∙ ap (λ r. r >>= some_value) read

pub patch-fails : (e : FormFault) (ways : ReadOptions) (text : List ℕ) (at number : ℕ) (h : Header) → Found h ≡ next_step ways text at number → Fails e (patch_at text h) → Fails e (next_patch ways text at number)
patch-fails errors.Memory ways text at number h step read = tt
patch-fails (errors.Malformed line kind) ways text at number h step read = ap (patch_by text) (sym step) ∙ ap (λ r. r >>= some_value) read
