-- The patch over a made tree isn't refused.
use Rattle.std.proofs.Common.{◌≡◌, ℕ, zero, suc, ◌+◌, ◌-◌, ◌*◌, ◌/◌, ◌<◌, ◌≤◌, ◌^◌, true, false, cond, not, eqb, ◌&&◌, List, length, map, None, Some, Result, Ok, Err, is_some, refl, sym, ap, ◌∙◌, arith, length-append}
use Rattle.std.specs.Prelude.{nat_lt, option_map}
use Rattle.std.specs.List.{flat_map, range_with_len}
use Rattle.std.proofs.lemmas.Bool.Decides.{nat_tests}
use Rattle.std.proofs.lemmas.List.{length-map}
use Rattle.std.proofs.lemmas.List.FromFn.{length-map-range_with_len}
use Rattle.std.proofs.Math.Nat.{mul-le-mul_left}
use Rattle.line_list.specs.Completed.{completed}
use Rattle.line_list.proofs.JoinLemmas.{completed-stays}
use Rattle.num_text.proofs.Decimal.{length-decimal}
use Rattle.hunk_core.specs.Reading.{Fault}
use Rattle.read_file_patch.specs.PlainPatch.{PlainPatch}
use Rattle.patch_options.specs.PlainJob.{PlainOptions}
use Rattle.patch_gen.specs.Patches.{header_lines, hunk_text}
use Rattle.patch_gen.specs.Texts.{file_line}
use Rattle.patch_gen.specs.Tree.{file_state, made, made_patch}
use Rattle.patch_gen.proofs.RoomLemmas.{header-length, hunk-length}
use Rattle.patch_header.specs.Openings.{admits}
use Rattle.hunk_core.specs.declared.Form.TheVariants.{Unified}
use Rattle.read_patch_text.specs.Patches.{patches_of}
use Rattle.patch_set.specs.Asked.{ways_of}
use Rattle.patch_set.specs.Named.{known_names}
use Rattle.patch_set.specs.Refusals.{ed_reverse, garbage, is_too_long, out_many, refusal, refusal_of, reserved}
use Rattle.patch_set.specs.declared.fault.SetFault.TheVariants as faults
use Rattle.law_reading.specs.Joins.{read_unnumbered}
use Rattle.law_reading.specs.Unnumbered.{unnumbered}
use Rattle.law_reading.specs.MadePatches.{made_file_patch, made_patches}
use Rattle.law_reading.specs.Plain.{TakesNames}
use Rattle.law_reading.proofs.MadeReading.{made-complete, made-reads, patch-is}
use Rattle.law_reading.proofs.Targets.{none-reserved}

-- ---- it isn't too long

-- pieces of a length at most
bound : (f : ℕ → List ℕ) (w a n : ℕ) → ((j : ℕ) → a ≤ j → j < a + n → length (f j) ≤ w) → length (flat_map f (range_with_len a n)) ≤ w * n
bound f w a zero h = omega arith
bound f w a (suc n) h =
    let on : w + w * n ≡ w * suc n = grind arith in
    omega (arith, length-append (f a) (flat_map f (range_with_len (a + 1) n)), h a (omega arith) (omega arith), bound f w (a + 1) n (λ j low high. h j (omega (arith, low)) (omega (arith, high))), on)

hunk-short : (x h : ℕ) → h ≤ 500000 → length (hunk_text (file_line x) h) ≤ 134
hunk-short x h few = omega (arith, hunk-length (file_line x) h (λ j. refl), length-decimal 8 (20 * h - 13) (omega arith) (omega (arith, few)))

file-short : (seed count i : ℕ) → i ≤ 1000 → count ≤ 9999999 → length (made_patch seed count i) ≤ 36 + 134 * (count / 20)
file-short seed count i few short =
    let x = file_state seed count i in
    let hunks = flat_map (hunk_text (file_line x)) (range_with_len 1 (count / 20)) in
    omega (arith, length-append (header_lines i) hunks, header-length i, length-decimal 8 i (omega arith) (omega (arith, few)), bound (hunk_text (file_line x)) 134 1 (count / 20) (λ j low high. hunk-short x j (omega (arith, high, short))))

patch-short : (seed files count : ℕ) → files ≤ 1000 → count ≤ 9999999 → files * count ≤ 10000000 → length (made seed files count).patch ≤ 268435456
patch-short seed files count few short all =
    let q = count / 20 in
    let whole : length (made seed files count).patch ≡ length (flat_map (made_patch seed count) (range_with_len 1 files)) = ap (λ (l : List ℕ). length l) (patch-is seed files count) in
    let each : files * (20 * q) ≤ files * count = mul-le-mul_left files (omega arith) in
    let inner : files * (20 * q) ≡ 20 * (files * q) = grind arith in
    let outer : (36 + 134 * q) * files ≡ 36 * files + 134 * (files * q) = grind arith in
    omega (arith, whole, each, inner, outer, all, few, bound (made_patch seed count) (36 + 134 * q) 1 files (λ j low high. file-short seed count j (omega (arith, high, few)) short))

-- ---- its file patches

-- what a text is read as, line numbers aside, comes from file patches
record Read (o : PlainOptions) (text : List ℕ) (qs : List PlainPatch) : Type 0 where
  patches : List PlainPatch
  read : patches_of (ways_of o) text ≡ Ok patches
  are : map unnumbered patches ≡ qs

ok-is : (xs ys : List PlainPatch) → ◌≡◌ {A = Result (List PlainPatch) Fault} (Ok xs) (Ok ys) → xs ≡ ys
ok-is xs ys e = cc

read-from : (o : PlainOptions) (text : List ℕ) (qs : List PlainPatch) → read_unnumbered (ways_of o) text ≡ Ok qs → Read o text qs
read-from o text qs e = by (patches_of (ways_of o) text) refl e
  where
    by : (x : Result (List PlainPatch) Fault) → patches_of (ways_of o) text ≡ x → read_unnumbered (ways_of o) text ≡ Ok qs → Read o text qs
    by (Ok ps) is h = record { patches = ps; read = is; are = ok-is (map unnumbered ps) qs (sym (rw is refl) ∙ h) }
    by (Err f) is h = absurd (let bad : Err f ≡ Ok qs = sym (rw is refl) ∙ h in cc)

admitted : (o : PlainOptions) → TakesNames o → admits (ways_of o).only Unified ≡ true
admitted o takes = ap (λ only. admits only Unified) takes.only

no-garbage : (text : List ℕ) (ps : List PlainPatch) → 1 ≤ length ps → garbage text ps ≡ None
no-garbage text ps some =
    let there : eqb (length ps) 0 ≡ false = grind (arith, nat_tests) in
    ap (λ b. cond (b && not (eqb (length text) 0)) (Some faults.Garbage) None) there

pub made-free : (o : PlainOptions) (seed files count : ℕ) → TakesNames o → 1 ≤ files → files ≤ 1000 → 20 ≤ count → count ≤ 9999999 → files * count ≤ 10000000 → refusal o (made seed files count).patch ≡ None
made-free o seed files count takes one few some short all =
    let text : List ℕ = (made seed files count).patch in
    let r = read-from o text (made_patches seed files count) (made-reads (ways_of o) seed files count (admitted o takes) some short) in
    let ps : List PlainPatch = r.patches in
    let long : is_too_long text ≡ false = let most : length text ≤ 268435456 = patch-short seed files count few short all in grind (arith, nat_tests) in
    let number : length ps ≡ files = sym (length-map ps unnumbered) ∙ ap (λ l. length l) r.are ∙ length-map-range_with_len (made_file_patch seed count) 1 files in
    let filled : garbage text ps ≡ None = no-garbage text ps (omega (arith, number, one)) in
    let output : out_many o ps ≡ None = ap (λ x. cond (is_some x && nat_lt 1 (length ps)) (Some (faults.OutMany (length ps))) None) takes.output in
    let turned : ed_reverse o ps ≡ None = ap (λ b. cond b (ed_reverse (record o { reverse = true }) ps) None) takes.reverse in
    let lasting : reserved o ps ≡ None = ap (option_map (λ (p : PlainPatch). faults.Reserved p.header.opening)) (none-reserved o takes seed count (known_names o ps) ps 1 files (omega (arith, few)) r.are) in
    ap (λ b. cond b (Some faults.TooLong) (refusal_of o text (patches_of (ways_of o) (completed text)))) long
    ∙ ap (λ (t : List ℕ). refusal_of o text (patches_of (ways_of o) t)) (completed-stays text (made-complete (ways_of o) seed files count (admitted o takes) some short))
    ∙ ap (λ (x : Result (List PlainPatch) Fault). refusal_of o text x) r.read
    ∙ rw (filled, output, turned, lasting) refl
