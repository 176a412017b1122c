-- What file patches tell of themselves is what they stand for.
use Rattle.std.proofs.Common.{◌≡◌, ℕ, zero, suc, ◌+◌, ◌<◌, ◌≤◌, Bool, true, false, cond, ◌||◌, List, [], ◌∷◌, length, get_or, map, drop, refl, sym, ap, ◌∙◌, arith, Option, None, Some}
use Rattle.std.specs.Prelude.{find, nat_lt, option_map}
use Rattle.std.specs.Option.{option_or}
use Rattle.std.proofs.lemmas.List.{drop_more, drop_all}
use Rattle.std.proofs.lemmas.Bool.Decides.{nat_tests}
use Rattle.hunk_core.specs.declared.Hunk.{Hunk}
use Rattle.hunk_core.specs.PlainHunk.{hunks_of}
use Rattle.read_file_patch.specs.declared.Change.{Change}
use Rattle.read_file_patch.specs.declared.Change.TheVariants.{Hunks, Script}
use Rattle.read_file_patch.specs.declared.FilePatch.{FilePatch}
use Rattle.read_file_patch.specs.Actions.{is_moved}
use Rattle.read_file_patch.specs.PlainPatch.{PlainPatch, change_of, patch_of, is_script, first_opening}
use Rattle.flip_patch.specs.declared.fault.FlipFault.TheVariants.{EdReverse, Unfit}
use Rattle.flip_patch.specs.Refusals.{is_unfit, new_starts, refused, starts_fall, told_starts, told_unfit}
use Rattle.patch_set.specs.Looks.{is_script_change}

script-told : (text : List ℕ) (c : Change) → is_script (change_of text c) ≡ is_script_change c
script-told text (Hunks hs) = refl
script-told text (Script s) = refl

starts-of : (text : List ℕ) (hs : List Hunk) → map (λ h. h.new_start) (hunks_of text hs) ≡ map (λ h. h.new_start) hs
starts-of text [] = refl
starts-of text (h ∷ hs) = ap (λ ss. h.new_start ∷ ss) (starts-of text hs)

starts-told : (text : List ℕ) (c : Change) → new_starts (change_of text c) ≡ told_starts c
starts-told text (Hunks hs) = starts-of text hs.items
starts-told text (Script s) = refl

unfit-told : (text : List ℕ) (p : FilePatch) → is_unfit (patch_of text p) ≡ told_unfit p
unfit-told text p = ap (λ ss. p.header.bare || (is_moved p.header.action || starts_fall ss)) (starts-told text p.change)

first-told : (test : PlainPatch → Bool) (told : FilePatch → Bool) (text : List ℕ) → ((p : FilePatch) → test (patch_of text p) ≡ told p) → (ps : List FilePatch) → first_opening test (map (patch_of text) ps) ≡ option_map (λ p. p.header.opening) (find told ps)
first-told test told text same [] = refl
first-told test told text same (p ∷ ps) =
    ap (λ b. option_map (λ q. q.header.opening) (cond b (Some (patch_of text p)) (find test (map (patch_of text) ps)))) (same p)
    ∙ by (told p) (first-told test told text same ps)
  where
    by : (b : Bool) → option_map (λ q. q.header.opening) (find test (map (patch_of text) ps)) ≡ option_map (λ q. q.header.opening) (find told ps)
        → option_map (λ q. q.header.opening) (cond b (Some (patch_of text p)) (find test (map (patch_of text) ps))) ≡ option_map (λ q. q.header.opening) (cond b (Some p) (find told ps))
    by true again = refl
    by false again = again

-- ---- the first file patch that is found

-- the opening of the first file patch that the test takes
abbrev pub first_line : (FilePatch → Bool) → List FilePatch → Option ℕ
first_line test ps = option_map (λ p. p.header.opening) (find test ps)

first-next : (test : FilePatch → Bool) (ps : List FilePatch) (i : ℕ) (p : FilePatch) (b : Bool) → i < length ps → p ≡ get_or ps i p → b ≡ test p → first_line test (drop i ps) ≡ option_map (λ q. q.header.opening) (cond b (Some p) (find test (drop (i + 1) ps)))
first-next test ps i p b lt is same =
    ap (first_line test) (drop_more ps i p lt ∙ ap (λ q. q ∷ drop (i + 1) ps) (sym is))
    ∙ ap (λ t. option_map (λ q. q.header.opening) (cond t (Some p) (find test (drop (i + 1) ps)))) (sym same)

pub first-here : (test : FilePatch → Bool) (ps : List FilePatch) (i : ℕ) (p : FilePatch) (b : Bool) → i < length ps → p ≡ get_or ps i p → b ≡ test p → b ≡ true → first_line test (drop i ps) ≡ Some p.header.opening
first-here test ps i p b lt is same here =
    first-next test ps i p b lt is same ∙ ap (λ t. option_map (λ q. q.header.opening) (cond t (Some p) (find test (drop (i + 1) ps)))) here

pub first-on : (test : FilePatch → Bool) (ps : List FilePatch) (i : ℕ) (p : FilePatch) (b : Bool) → i < length ps → p ≡ get_or ps i p → b ≡ test p → b ≡ false → first_line test (drop i ps) ≡ first_line test (drop (i + 1) ps)
first-on test ps i p b lt is same on =
    first-next test ps i p b lt is same ∙ ap (λ t. option_map (λ q. q.header.opening) (cond t (Some p) (find test (drop (i + 1) ps)))) on

pub first-end : (test : FilePatch → Bool) (ps : List FilePatch) (i : ℕ) → length ps ≤ i → first_line test (drop i ps) ≡ None
first-end test ps i all = ap (first_line test) (drop_all i ps all)

-- the refusal, by the first ed script and the first file patch that doesn't fit
refused-is : (text : List ℕ) (ps : List FilePatch) → refused (map (patch_of text) ps) ≡ option_or (option_map EdReverse (option_map (λ p. p.header.opening) (find (λ p. is_script_change p.change) ps))) (option_map Unfit (option_map (λ p. p.header.opening) (find told_unfit ps)))
refused-is text ps =
    ap (λ o. option_or (option_map EdReverse o) (option_map Unfit (first_opening is_unfit (map (patch_of text) ps)))) (first-told (λ p. is_script p.change) (λ p. is_script_change p.change) text (λ p. script-told text p.change) ps)
    ∙ ap (λ o. option_or (option_map EdReverse (option_map (λ p. p.header.opening) (find (λ p. is_script_change p.change) ps))) (option_map Unfit o)) (first-told is_unfit told_unfit text (unfit-told text) ps)

abbrev script_line : List FilePatch → Option ℕ
script_line ps = option_map (λ p. p.header.opening) (find (λ p. is_script_change p.change) ps)

abbrev unfit_line : List FilePatch → Option ℕ
unfit_line ps = option_map (λ p. p.header.opening) (find told_unfit ps)

refused-by : (text : List ℕ) (ps : List FilePatch) (a b : Option ℕ) → script_line ps ≡ a → unfit_line ps ≡ b → refused (map (patch_of text) ps) ≡ option_or (option_map EdReverse a) (option_map Unfit b)
refused-by text ps a b is fits = refused-is text ps ∙ ap (λ o. option_or (option_map EdReverse o) (option_map Unfit (unfit_line ps))) is ∙ ap (λ o. option_or (option_map EdReverse a) (option_map Unfit o)) fits

pub refused-script : (text : List ℕ) (ps : List FilePatch) (line : ℕ) → script_line ps ≡ Some line → refused (map (patch_of text) ps) ≡ Some (EdReverse line)
refused-script text ps line is = refused-by text ps (Some line) (unfit_line ps) is refl

pub refused-unfit : (text : List ℕ) (ps : List FilePatch) (b : Option ℕ) → script_line ps ≡ None → unfit_line ps ≡ b → refused (map (patch_of text) ps) ≡ option_map Unfit b
refused-unfit text ps b none is = refused-by text ps None b none is

-- ---- starts that fall

-- one of these starts stands in front of the one before it, the first one behind this start
abbrev pub falls_behind : ℕ → List ℕ → Bool
falls_behind last [] = false
falls_behind last (s ∷ ss) = nat_lt s last || falls_behind s ss

falls-first : (s : ℕ) (ss : List ℕ) → starts_fall (s ∷ ss) ≡ falls_behind s ss
falls-first s [] = refl
falls-first s (t ∷ ss) = ap (λ b. nat_lt t s || b) (falls-first t ss)

pub falls-all : (ss : List ℕ) → starts_fall ss ≡ falls_behind 0 ss
falls-all [] = refl
falls-all (s ∷ ss) = let t : nat_lt s 0 ≡ false = grind (arith, nat_tests) in falls-first s ss ∙ sym (ap (λ b. b || falls_behind s ss) t)

abbrev pub starts_in : List Hunk → List ℕ
starts_in hs = map (λ h. h.new_start) hs

map-drop : (i : ℕ) (hs : List Hunk) → drop i (starts_in hs) ≡ starts_in (drop i hs)
map-drop zero hs = refl
map-drop (suc i) [] = refl
map-drop (suc i) (h ∷ hs) = map-drop i hs

falls-step : (hs : List Hunk) (i last : ℕ) (d : Hunk) → i < length hs → falls_behind last (drop i (starts_in hs)) ≡ (nat_lt (get_or hs i d).new_start last || falls_behind (get_or hs i d).new_start (drop (i + 1) (starts_in hs)))
falls-step hs i last d lt =
    ap (falls_behind last) (map-drop i hs ∙ ap starts_in (drop_more hs i d lt))
    ∙ ap (λ ss. nat_lt (get_or hs i d).new_start last || falls_behind (get_or hs i d).new_start ss) (sym (map-drop (i + 1) hs))

pub falls-on : (hs : List Hunk) (i last : ℕ) (d : Hunk) → i < length hs → last ≤ (get_or hs i d).new_start → falls_behind last (drop i (starts_in hs)) ≡ falls_behind (get_or hs i d).new_start (drop (i + 1) (starts_in hs))
falls-on hs i last d lt le =
    let t : nat_lt (get_or hs i d).new_start last ≡ false = grind (arith, nat_tests) in
    falls-step hs i last d lt ∙ ap (λ b. b || falls_behind (get_or hs i d).new_start (drop (i + 1) (starts_in hs))) t

pub falls-here : (hs : List Hunk) (i last : ℕ) (d : Hunk) → i < length hs → (get_or hs i d).new_start < last → falls_behind last (drop i (starts_in hs)) ≡ true
falls-here hs i last d lt less =
    let t : nat_lt (get_or hs i d).new_start last ≡ true = grind (arith, nat_tests) in
    falls-step hs i last d lt ∙ ap (λ b. b || falls_behind (get_or hs i d).new_start (drop (i + 1) (starts_in hs))) t

pub falls-end : (hs : List Hunk) (i last : ℕ) → length hs ≤ i → falls_behind last (drop i (starts_in hs)) ≡ false
falls-end hs i last all = ap (falls_behind last) (map-drop i hs ∙ ap starts_in (drop_all i hs all))
