-- What is found among file patches, and among what they stand for.
use Rattle.std.proofs.Common.{◌≡◌, ℕ, Bool, true, false, ◌||◌, cond, List, [], ◌∷◌, map, length, ◌<◌, All, Option, None, Some, option_map, refl, sym, ap, ◌∙◌, arith}
use Rattle.std.specs.List.{AllByRecursion, find, list_any}
use Rattle.std.specs.Option.{option_map_or}
use Rattle.std.proofs.lemmas.List.Elements.{recursion_from_All, All-from_recursion}
use Rattle.std.specs.Option.{ForSome}
use Rattle.read_file_patch.specs.declared.Change.{Change}
use Rattle.read_file_patch.specs.declared.Change.TheVariants.{Hunks, Script}
use Rattle.read_file_patch.specs.declared.FilePatch.{FilePatch}
use Rattle.read_file_patch.specs.PlainPatch.{PlainPatch, change_of, header_of, patch_of, is_script}
use Rattle.patch_options.specs.PlainJob.{PlainOptions}
use Rattle.read_file_patch.specs.declared.derived.Target.{Target}
use Rattle.read_file_patch.specs.Targets.{HasTemps, IsLasting, is_reserved}
use Rattle.outside.specs.Files.{is_temp}
use Rattle.patch_set.specs.declared.fault.SetFault.{SetFault}
use Rattle.patch_set.specs.declared.fault.SetFault.TheVariants as faults
use Rattle.patch_set.specs.Looks.{has_script, is_reserving, is_script_change}
use Rattle.patch_set.specs.Named.{known_names, output_of, targets_of}
use Rattle.patch_set.specs.Naming.{IsNamed, AreNamed}
use Rattle.patch_set.specs.SetView.{IsFit}
use Rattle.patch_set.specs.Refusals.{first_of, ed_reverse, has_reserved, reserved, reserves_output}

-- a fault at the opening of the file patch that is found, and of what it stands for
module _ (make : ℕ → SetFault) (text : List ℕ) where
  here-or : (v : Bool) (p q : FilePatch) (r : Option FilePatch) (s : Option PlainPatch) → q.header.opening ≡ p.header.opening
      → option_map make (option_map (λ x. x.header.opening) r) ≡ option_map (λ x. make x.header.opening) s
      → option_map make (option_map (λ x. x.header.opening) (cond v (Some q) r)) ≡ option_map (λ x. make x.header.opening) (cond v (Some (patch_of text p)) s)
  here-or true p q r s same rest = ap (λ n. Some (make n)) same
  here-or false p q r s same rest = rest

same-script : (text : List ℕ) (c : Change) → is_script_change c ≡ is_script (change_of text c)
same-script text (Hunks hs) = refl
same-script text (Script s) = refl

scripts : (text : List ℕ) (ps : List FilePatch)
    → option_map faults.EdReverse (option_map (λ x. x.header.opening) (find has_script ps))
    ≡ option_map (λ x. faults.EdReverse x.header.opening) (find (λ x. is_script x.change) (map (patch_of text) ps))
scripts text [] = refl
scripts text (p ∷ ps) =
    let rest = find (λ x. is_script x.change) (map (patch_of text) ps) in
    here-or faults.EdReverse text (is_script_change p.change) p p (find has_script ps) rest refl (scripts text ps)
    ∙ ap (λ v. option_map (λ x. faults.EdReverse x.header.opening) (cond v (Some (patch_of text p)) rest)) (same-script text p.change)

pub ed-reversed : (o : PlainOptions) (text : List ℕ) (ps : List FilePatch) (line : Option ℕ) → o.reverse ≡ true
    → line ≡ option_map (λ x. x.header.opening) (find has_script ps)
    → option_map faults.EdReverse line ≡ ed_reverse o (map (patch_of text) ps)
ed-reversed o text ps line on is = rw on (ap (option_map faults.EdReverse) is ∙ scripts text ps)

-- the names of temporaries

same-test : (o : PlainOptions) (text : List ℕ) (known : List (List ℕ)) (output : Option Target) (p q : FilePatch)
    → IsNamed o text known p q → output ≡ output_of o known
    → is_reserving output q ≡ (has_reserved o known (patch_of text p) || reserves_output o known)
same-test o text known output p q is out =
    ap (λ ts. list_any is_reserved ts || option_map_or is_reserved output false) is.targets
    ∙ ap (λ t. list_any is_reserved (targets_of o known (header_of text p.header)) || option_map_or is_reserved t false) out

reserving : (o : PlainOptions) (text : List ℕ) (known : List (List ℕ)) (output : Option Target) (ps qs : List FilePatch)
    → AreNamed o text known ps qs → output ≡ output_of o known
    → option_map faults.Reserved (option_map (λ x. x.header.opening) (find (is_reserving output) qs))
    ≡ option_map (λ x. faults.Reserved x.header.opening) (find (λ x. has_reserved o known x || reserves_output o known) (map (patch_of text) ps))
reserving o text known output [] [] are out = refl
reserving o text known output [] (q ∷ qs) are out = absurd are
reserving o text known output (p ∷ ps) [] are out = absurd are
reserving o text known output (p ∷ ps) (q ∷ qs) are out =
    let rest = find (λ x. has_reserved o known x || reserves_output o known) (map (patch_of text) ps) in
    here-or faults.Reserved text (is_reserving output q) p q (find (is_reserving output) qs) rest (ap (λ h. h.opening) are.0.header)
    (reserving o text known output ps qs are.1 out)
    ∙ ap (λ v. option_map (λ x. faults.Reserved x.header.opening) (cond v (Some (patch_of text p)) rest)) (same-test o text known output p q are.0 out)

pub reserved-named : (o : PlainOptions) (text : List ℕ) (output : Option Target) (ps qs : List FilePatch) (line : Option ℕ)
    → AreNamed o text (known_names o (map (patch_of text) ps)) ps qs → output ≡ output_of o (known_names o (map (patch_of text) ps))
    → line ≡ option_map (λ x. x.header.opening) (find (is_reserving output) qs)
    → option_map faults.Reserved line ≡ reserved o (map (patch_of text) ps)
reserved-named o text output ps qs line are out is =
    ap (option_map faults.Reserved) is ∙ reserving o text (known_names o (map (patch_of text) ps)) output ps qs are out

-- the refusals in their order

pub early-refusal : (g m e r : Option SetFault) (f : SetFault) → Some f ≡ first_of (g ∷ m ∷ e ∷ []) → first_of (g ∷ m ∷ e ∷ r ∷ []) ≡ Some f
early-refusal (Some a) m e r f is = sym is
early-refusal None (Some a) e r f is = sym is
early-refusal None None (Some a) r f is = sym is
early-refusal None None None r f is = absurd cc

one-of : (r : Option SetFault) → first_of (r ∷ []) ≡ r
one-of None = refl
one-of (Some f) = refl

pub late-refusal : (g m e r : Option SetFault) → None ≡ first_of (g ∷ m ∷ e ∷ []) → first_of (g ∷ m ∷ e ∷ r ∷ []) ≡ r
late-refusal (Some a) m e r is = absurd cc
late-refusal None (Some a) e r is = absurd cc
late-refusal None None (Some a) r is = absurd cc
late-refusal None None None r is = one-of r

-- which names are fit

neither : (a b : Bool) → (a || b) ≡ false → (a ≡ false) × (b ≡ false)
neither true b h = absurd cc
neither false b h = (refl, h)

lasting : (t : Target) → is_reserved t ≡ false → IsLasting t
lasting t h =
    let one = neither (is_temp t.name) (is_temp t.backup || is_temp t.reject) h in
    let two = neither (is_temp t.backup) (is_temp t.reject) one.1 in
    record { own = one.0; backup = two.0; reject = two.1 }

none-reserved : (ts : List Target) → list_any is_reserved ts ≡ false → AllByRecursion (λ t. IsLasting t) ts
none-reserved [] h = tt
none-reserved (t ∷ ts) h = by (is_reserved t) refl (none-reserved ts)
  where
    by : (v : Bool) → is_reserved t ≡ v → (list_any is_reserved ts ≡ false → AllByRecursion (λ u. IsLasting u) ts) → AllByRecursion (λ u. IsLasting u) (t ∷ ts)
    by true e more = absurd (let other : list_any is_reserved (t ∷ ts) ≡ true = rw e refl in cc)
    by false e more = let rest : list_any is_reserved (t ∷ ts) ≡ list_any is_reserved ts = rw e refl in (lasting t e, more (sym rest ∙ h))

fit-all : (ts : List Target) → AllByRecursion HasTemps ts → AllByRecursion (λ t. IsLasting t) ts → AllByRecursion IsFit ts
fit-all [] temps last = tt
fit-all (t ∷ ts) temps last = (record { temps = temps.0; lasting = last.0 }, fit-all ts temps.1 last.1)

fit-targets : (output : Option Target) (q : FilePatch) → All HasTemps q.targets.items → is_reserving output q ≡ false → All IsFit q.targets.items
fit-targets output q temps h =
    let none = neither (list_any is_reserved q.targets.items) (option_map_or is_reserved output false) h in
    All-from_recursion IsFit q.targets.items (fit-all q.targets.items (recursion_from_All HasTemps q.targets.items temps) (none-reserved q.targets.items none.0))

fit-each : (o : PlainOptions) (text : List ℕ) (known : List (List ℕ)) (output : Option Target) (ps qs : List FilePatch)
    → AreNamed o text known ps qs → find (is_reserving output) qs ≡ None → AllByRecursion (λ q. All IsFit q.targets.items) qs
fit-each o text known output [] [] are none = tt
fit-each o text known output [] (q ∷ qs) are none = absurd are
fit-each o text known output (p ∷ ps) [] are none = absurd are
fit-each o text known output (p ∷ ps) (q ∷ qs) are none = by (is_reserving output q) refl (fit-each o text known output ps qs are.1)
  where
    by : (v : Bool) → is_reserving output q ≡ v → (find (is_reserving output) qs ≡ None → AllByRecursion (λ u. All IsFit u.targets.items) qs) → AllByRecursion (λ u. All IsFit u.targets.items) (q ∷ qs)
    by true e more = absurd (let other : find (is_reserving output) (q ∷ qs) ≡ Some q = rw e refl in cc)
    by false e more =
        let rest : find (is_reserving output) (q ∷ qs) ≡ find (is_reserving output) qs = rw e refl in
        (fit-targets output q are.0.temps e, more (sym rest ∙ none))

pub named-fit : (o : PlainOptions) (text : List ℕ) (known : List (List ℕ)) (output : Option Target) (ps qs : List FilePatch)
    → AreNamed o text known ps qs → find (is_reserving output) qs ≡ None → All (λ q. All IsFit q.targets.items) qs
named-fit o text known output ps qs are none = All-from_recursion (λ q. All IsFit q.targets.items) qs (fit-each o text known output ps qs are none)

-- the output of one file patch or more
pub output-fit : (output : Option Target) (qs : List FilePatch) → 0 < length qs → ForSome output HasTemps → find (is_reserving output) qs ≡ None → ForSome output IsFit
output-fit output [] some temps none = absurd (omega arith)
output-fit output (q ∷ qs) some temps none = λ t is. by t is (is_reserving output q) refl
  where
    by : (t : Target) → output ≡ Some t → (v : Bool) → is_reserving output q ≡ v → IsFit t
    by t is true e = absurd (let other : find (is_reserving output) (q ∷ qs) ≡ Some q = rw e refl in cc)
    by t is false e =
        let none = (neither (list_any is_reserved q.targets.items) (option_map_or is_reserved output false) e).1 in
        let one : is_reserved t ≡ false = sym (ap (λ x. option_map_or is_reserved x false) is) ∙ none in
        record { temps = temps t is; lasting = lasting t one }
