-- The splice of a script's edits is what its commands make one after another.
use Rattle.std.proofs.Common.{◌≡◌, ℕ, zero, suc, ◌+◌, ◌-◌, ◌≤◌, List, [], ◌∷◌, ◌++◌, length, reverse, map, flat_map, drop, refl, sym, ap, subst, ◌∙◌, arith, append_assoc}
use Rattle.std.specs.List.{range_with_len}
use Rattle.std.proofs.lemmas.List.{reverse-append, reverse-reverse}
use Rattle.std.proofs.lemmas.List.Concat.{flat_map-cons}
use Rattle.hunk_place.specs.Order.{from_to}
use Rattle.ed_form.specs.PlainEdit.{PlainEdit, AreLawful}
use Rattle.hunk_apply.specs.Script.{scripted}
use Rattle.hunk_apply.specs.Splice.{Edit, add, drop_line, spliced, spliced_from, AreFrom}
use Rattle.hunk_apply.specs.Written.{lines_between}
use Rattle.hunk_apply.proofs.CopyLemmas.{kept}
use Rattle.hunk_apply.proofs.ScriptLemmas.{BeginFrom, EndWithin, edit-ahead, begin-first, last-lawful, last-begins, last-within, others-begin, others-lawful, others-within, lines-left, scripted-none}
use Rattle.hunk_apply.proofs.SpliceLemmas.{sooner, from-append, line-dropped, line-added, nothing-left, spliced-whole}
use Rattle.ifdef_out.specs.Placed.{command_edits, script_edits}

drops-from : (r q k : ℕ) → r ≤ q → AreFrom r (map drop_line (range_with_len q k))
drops-from r q zero le = tt
drops-from r q (suc k) le = (le, drops-from r (q + 1) k (omega arith))

adds-from : (r q : ℕ) (ls : List (List ℕ)) → r ≤ q → AreFrom r (map (add q) ls)
adds-from r q [] le = tt
adds-from r q (l ∷ ls) le = (le, adds-from r q ls le)

command-from : (r : ℕ) (e : PlainEdit) → r ≤ e.first → e.first ≤ e.last + 1 → AreFrom r (command_edits e)
command-from r e le order = from-append r (map drop_line (from_to e.first e.last)) (map (add (e.last + 1)) e.added) (drops-from r e.first (suc e.last - e.first) le) (adds-from r (e.last + 1) e.added (omega arith))

others-from : (q : ℕ) (es : List PlainEdit) (e : PlainEdit) → BeginFrom q (es ++ e ∷ []) → BeginFrom q es
others-from q [] e h = tt
others-from q (d ∷ es) e h = (h.0, others-from q es e h.1)

-- a list that ends with this edit, from its end
turned-cons : (e : PlainEdit) (rs : List PlainEdit) → reverse (e ∷ rs) ≡ reverse rs ++ e ∷ []
turned-cons e rs = reverse-append (e ∷ []) rs

commands-from : (b q : ℕ) (rs : List PlainEdit) → AreLawful b (reverse rs) → BeginFrom q (reverse rs) → AreFrom q (flat_map command_edits rs)
commands-from b q [] h k = tt
commands-from b q (e ∷ rs) h k =
    let own : AreLawful b (reverse rs ++ e ∷ []) = subst (AreLawful b) (turned-cons e rs) h in
    let begin : BeginFrom q (reverse rs ++ e ∷ []) = subst (BeginFrom q) (turned-cons e rs) k in
    subst (AreFrom q) (sym (flat_map-cons command_edits e rs))
    (from-append q (command_edits e) (flat_map command_edits rs)
    (command-from q e (last-begins q (reverse rs) e begin) (last-lawful b (reverse rs) e own).order)
    (commands-from b q rs (others-lawful b (reverse rs) e own) (others-from q (reverse rs) e begin)))

-- lines that are dropped, and then others
drops-made : (lines : List (List ℕ)) (q k : ℕ) (es : List Edit) → q + k ≤ length lines + 1 → AreFrom (q + k) es → spliced_from lines (map drop_line (range_with_len q k) ++ es) q ≡ spliced_from lines es (q + k)
drops-made lines q zero es le h = let z : q ≡ q + 0 = omega arith in ap (spliced_from lines es) z
drops-made lines q (suc k) es le h =
    let next : (q + 1) + k ≡ q + suc k = omega arith in
    let from : AreFrom ((q + 1) + k) es = subst (λ n. AreFrom n es) (sym next) h in
    line-dropped lines (map drop_line (range_with_len (q + 1) k) ++ es) q (omega arith) (from-append (q + 1) (map drop_line (range_with_len (q + 1) k)) es (drops-from (q + 1) (q + 1) k (omega arith)) (sooner (q + 1) ((q + 1) + k) es (omega arith) from))
    ∙ drops-made lines (q + 1) k es (omega arith) from
    ∙ ap (spliced_from lines es) next

-- lines that are added, and then others
adds-made : (lines : List (List ℕ)) (q : ℕ) (ls : List (List ℕ)) (es : List Edit) → q ≤ length lines + 1 → spliced_from lines (map (add q) ls ++ es) q ≡ ls ++ spliced_from lines es q
adds-made lines q [] es le = refl
adds-made lines q (l ∷ ls) es le = line-added lines (map (add q) ls ++ es) q l le ∙ ap (λ r. l ∷ r) (adds-made lines q ls es le)

command-made : (lines : List (List ℕ)) (e : PlainEdit) (es : List Edit) → e.first ≤ e.last + 1 → e.last ≤ length lines → AreFrom (e.last + 1) es → spliced_from lines (command_edits e ++ es) e.first ≡ e.added ++ spliced_from lines es (e.last + 1)
command-made lines e es order within h =
    let to : e.first + (suc e.last - e.first) ≡ e.last + 1 = omega arith in
    let more : List Edit = map (add (e.last + 1)) e.added ++ es in
    let from : AreFrom (e.last + 1) (map (add (e.last + 1)) e.added ++ es) = from-append (e.last + 1) (map (add (e.last + 1)) e.added) es (adds-from (e.last + 1) (e.last + 1) e.added (omega arith)) h in
    ap (λ xs. spliced_from lines xs e.first) (append_assoc (map drop_line (from_to e.first e.last)) (map (add (e.last + 1)) e.added) es)
    ∙ drops-made lines e.first (suc e.last - e.first) more (omega arith) (subst (λ n. AreFrom n more) (sym to) from)
    ∙ ap (spliced_from lines more) to
    ∙ adds-made lines (e.last + 1) e.added es (omega arith)

-- from line q on, the commands taken from the last one
from-last : (lines : List (List ℕ)) (b : ℕ) (rs : List PlainEdit) (q : ℕ) → AreLawful b (reverse rs) → EndWithin (length lines) (reverse rs) → BeginFrom q (reverse rs) → 1 ≤ q → q ≤ length lines + 1
    → spliced_from lines (flat_map command_edits rs) q ≡ drop (q - 1) (scripted lines (reverse rs))
from-last lines b [] q h w k low high =
    sym (kept lines [] q (length lines + 1) low high (omega arith) tt)
    ∙ ap (λ r. lines_between lines q (length lines + 1) ++ r) (nothing-left lines)
    ∙ lines-left [] lines [] 0 q (length lines) (omega arith) high refl
from-last lines b (e ∷ rs) q h w k low high =
    let own : AreLawful b (reverse rs ++ e ∷ []) = subst (AreLawful b) (turned-cons e rs) h in
    let within : EndWithin (length lines) (reverse rs ++ e ∷ []) = subst (EndWithin (length lines)) (turned-cons e rs) w in
    let begin : BeginFrom q (reverse rs ++ e ∷ []) = subst (BeginFrom q) (turned-cons e rs) k in
    let order : e.first ≤ e.last + 1 = (last-lawful b (reverse rs) e own).order in
    let last : e.last ≤ length lines = last-within (length lines) (reverse rs) e within in
    let first : q ≤ e.first = last-begins q (reverse rs) e begin in
    let es : List Edit = flat_map command_edits rs in
    let later : BeginFrom (e.last + 1) (reverse rs) = others-begin b (reverse rs) e own in
    let from : AreFrom (e.last + 1) (flat_map command_edits rs) = commands-from b (e.last + 1) rs (others-lawful b (reverse rs) e own) later in
    let all : AreFrom e.first (command_edits e ++ flat_map command_edits rs) = from-append e.first (command_edits e) es (command-from e.first e (omega arith) order) (sooner e.first (e.last + 1) es order from) in
    let back : (e.last + 1) - 1 ≡ e.last = omega arith in
    ap (λ xs. spliced_from lines xs q) (flat_map-cons command_edits e rs)
    ∙ sym (kept lines (command_edits e ++ es) q e.first low first (omega arith) all)
    ∙ ap (λ r. lines_between lines q e.first ++ r) (command-made lines e es order last from)
    ∙ ap (λ r. lines_between lines q e.first ++ (e.added ++ r))
    (from-last lines b rs (e.last + 1) (others-lawful b (reverse rs) e own) (others-within (length lines) (reverse rs) e within) later (omega arith) (omega arith)
    ∙ ap (λ n. drop n (scripted lines (reverse rs))) back)
    ∙ sym (edit-ahead b q lines (reverse rs) e own within low first)
    ∙ ap (λ xs. drop (q - 1) (scripted lines xs)) (sym (turned-cons e rs))

pub script-made : (lines : List (List ℕ)) (b : ℕ) (es : List PlainEdit) → AreLawful b es → EndWithin (length lines) es → spliced lines (script_edits es) ≡ scripted lines es
script-made lines b es h w =
    let there : es ≡ reverse (reverse es) = sym (reverse-reverse es) in
    spliced-whole lines (script_edits es)
    ∙ from-last lines b (reverse es) 1 (subst (AreLawful b) there h) (subst (EndWithin (length lines)) there w) (subst (BeginFrom 1) there (begin-first b es h)) (omega arith) (omega arith)
    ∙ ap (scripted lines) (reverse-reverse es)

-- without edits
pub unchanged : (lines : List (List ℕ)) → spliced lines [] ≡ lines
unchanged lines = script-made lines 0 [] tt tt ∙ scripted-none lines
