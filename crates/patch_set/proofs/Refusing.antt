-- Names of temporaries among targets that aren't kept.
use Rattle.std.proofs.Common.{◌≡◌, ℕ, ◌+◌, ◌<◌, ◌≤◌, Bool, true, false, ◌||◌, cond, List, [], ◌∷◌, map, length, drop, get_or, Option, None, Some, Result, Ok, Err, IfOk, option_map, refl, sym, ap, ◌∙◌}
use Rattle.std.specs.List.{list_any}
use Rattle.std.specs.Option.{option_map_or}
use Rattle.std.proofs.lemmas.List.{at_drop_more, drop_all}
use Rattle.std.proofs.Math.Bool.{or-true, or-false}
use Rattle.read_file_patch.specs.declared.FilePatch.{FilePatch}
use Rattle.read_file_patch.specs.PlainPatch.{PlainHeader, PlainPatch, header_of, patch_of}
use Rattle.read_file_patch.specs.Targets.{is_reserved}
use Rattle.patch_options.specs.PlainJob.{PlainOptions}
use Rattle.patch_set.specs.declared.fault.SetFault.TheVariants as faults
use Rattle.patch_set.specs.Named.{names_of, target_in, targets_of}
use Rattle.patch_set.specs.Refusals.{reserved_patch, reserves_output}

-- the target of one of these names has a name of a temporary
abbrev pub any_among : PlainOptions → List (List ℕ) → List (List ℕ) → Bool
any_among o known names = list_any is_reserved (map (target_in o known) names)

-- the line of the first file patch for which one would be written
abbrev pub line_among : PlainOptions → List (List ℕ) → List ℕ → List FilePatch → Option ℕ
line_among o known text ps = option_map (λ p. p.header.opening) (reserved_patch o known (map (patch_of text) ps))

pub next-name : (o : PlainOptions) (known names : List (List ℕ)) (i : ℕ) (name : List ℕ) → i < length names → name ≡ get_or names i name
    → any_among o known (drop i names) ≡ (is_reserved (target_in o known name) || any_among o known (drop (i + 1) names))
next-name o known names i name lt is =
    at_drop_more (any_among o known) names i name lt
    ∙ ap (λ (n : List ℕ). is_reserved (target_in o known n) || any_among o known (drop (i + 1) names)) (sym is)

pub no-name : (o : PlainOptions) (known names : List (List ℕ)) (i : ℕ) → length names ≤ i → any_among o known (drop i names) ≡ false
no-name o known names i le = ap (any_among o known) (drop_all i names le)

found-line : (v : Bool) (p : PlainPatch) (rest : Option PlainPatch) → option_map (λ (x : PlainPatch). x.header.opening) (cond v (Some p) rest) ≡ cond v (Some p.header.opening) (option_map (λ (x : PlainPatch). x.header.opening) rest)
found-line true p rest = refl
found-line false p rest = refl

pub next-line : (o : PlainOptions) (known : List (List ℕ)) (text : List ℕ) (ps : List FilePatch) (i : ℕ) (p : FilePatch) (output : Bool) → i < length ps → p ≡ get_or ps i p → output ≡ reserves_output o known
    → line_among o known text (drop i ps) ≡ cond (list_any is_reserved (targets_of o known (header_of text p.header)) || output) (Some p.header.opening) (line_among o known text (drop (i + 1) ps))
next-line o known text ps i p output lt is out =
    let has : Bool = list_any is_reserved (targets_of o known (header_of text p.header)) in
    let rest = drop (i + 1) ps in
    at_drop_more (line_among o known text) ps i p lt
    ∙ ap (λ (x : FilePatch). line_among o known text (x ∷ rest)) (sym is)
    ∙ found-line (has || reserves_output o known) (patch_of text p) (reserved_patch o known (map (patch_of text) rest))
    ∙ ap (λ (v : Bool). cond (has || v) (Some p.header.opening) (line_among o known text rest)) (sym out)

pub no-line : (o : PlainOptions) (known : List (List ℕ)) (text : List ℕ) (ps : List FilePatch) (i : ℕ) → length ps ≤ i → line_among o known text (drop i ps) ≡ None
no-line o known text ps i le = ap (line_among o known text) (drop_all i ps le)

-- the output alone

pub output-named : {E : Type 0} (o : PlainOptions) (name : List ℕ) (r : Result Bool E) → o.output ≡ Some name
    → IfOk r (λ is. (known : List (List ℕ)) → is ≡ is_reserved (target_in o known name))
    → IfOk r (λ has. (known : List (List ℕ)) → has ≡ reserves_output o known)
output-named o name (Ok is) e one = λ known. one known ∙ ap (λ x. option_map_or is_reserved (option_map (target_in o known) x) false) (sym e)
output-named o name (Err f) e one = tt

pub output-has : (has output : Bool) → output ≡ true → true ≡ (has || output)
output-has has output on = sym (ap (λ (v : Bool). has || v) on ∙ or-true has)

pub names-have : {E : Type 0} (o : PlainOptions) (h : PlainHeader) (output : Bool) (names : List (List ℕ)) (r : Result Bool E) → output ≡ false → names ≡ names_of o h
    → IfOk r (λ has. (known : List (List ℕ)) → has ≡ any_among o known names)
    → IfOk r (λ has. (known : List (List ℕ)) → has ≡ (list_any is_reserved (targets_of o known h) || output))
names-have o h output names (Ok has) off same any = λ known.
    any known ∙ ap (any_among o known) same
    ∙ sym (ap (λ (v : Bool). list_any is_reserved (targets_of o known h) || v) off ∙ or-false (list_any is_reserved (targets_of o known h)))
names-have o h output names (Err f) off same any = tt

-- the refusal of the line that is found, or none
pub line-refusal : (found : Option PlainPatch) (line : Option ℕ) → line ≡ option_map (λ (p : PlainPatch). p.header.opening) found
    → option_map (λ (p : PlainPatch). faults.Reserved p.header.opening) found ≡ option_map faults.Reserved line
line-refusal None line is = ap (option_map faults.Reserved) (sym is)
line-refusal (Some p) line is = ap (option_map faults.Reserved) (sym is)
