-- A script that is read is lawful, and its span is its piece of the text.
use Rattle.std.proofs.Common.{◌≡◌, ℕ, zero, suc, ◌+◌, ◌≤◌, ◌<◌, ◌^◌, ◌≢◌, true, false, List, [], ◌∷◌, ◌++◌, length, sum_by, drop, slice_range, Result, Ok, Err, sym, ap, subst, ◌∙◌, append_assoc, arith, inl, inr}
use Rattle.std.specs.Prelude.{IfOk, All}
use Rattle.std.proofs.lemmas.List.Elements.{All-from_recursion}
use Rattle.std.proofs.lemmas.List.{length-map}
use Rattle.line_list.specs.Lines.{lines, ArePieces, IsLine}
use Rattle.line_list.proofs.Pieces.{lines-pieces}
use Rattle.hunk_core.specs.declared.fault.FormFault.{FormFault}
use Rattle.hunk_core.specs.PlainHunk.{bytes_at}
use Rattle.hunk_core.specs.Reading.{Gives}
use Rattle.hunk_core.specs.Turned.{LiesIn}
use Rattle.hunk_core.proofs.PieceLemmas.{pieces-last, piece-lines}
use Rattle.hunk_core.specs.declared.command.Action.{Action}
use Rattle.hunk_core.specs.declared.command.Action.TheVariants.{Add, Change, Delete}
use Rattle.line_list.proofs.WholeLines.{AreLines, lines-both}
use Rattle.ed_form.specs.declared.script.EdScript.{EdScript}
use Rattle.ed_form.specs.Commands.{begins_script}
use Rattle.ed_form.specs.PlainEdit.{PlainEdit, edit_of, edits_of, lowest, IsLawfulEdit, AreLawful, IsLawfulScript}
use Rattle.ed_form.specs.Texts.{is_dot}
use Rattle.ed_form.specs.Scripts.{reading, read_of}
use Rattle.ed_form.specs.Grammar.{IsEnded, IsCorrected, SpellsText, SpellsAdded, SpellsAddresses, SpellsEdit, SpellsEdits}
use Rattle.ed_form.proofs.Lasts.{word-takes}
use Rattle.ed_form.proofs.Pieces.{reading_finds}

-- pieces before another one have their line feeds
inner-lines : (ls : List (List ℕ)) (next : List ℕ) (rest : List (List ℕ)) → ArePieces (ls ++ next ∷ rest) → AreLines ls
inner-lines [] next rest h = tt
inner-lines (line ∷ []) next rest h = (h.0, tt)
inner-lines (line ∷ other ∷ ls) next rest h = (h.0, inner-lines (other ∷ ls) next rest h.1)

-- a line '..' without its first byte is a line
lone-line : (lone : List ℕ) → is_dot lone ≡ true → IsLine (46 ∷ lone) → IsLine lone
lone-line [] e h = absurd (let t = word-takes (46 ∷ []) [] e in cc)
lone-line (b ∷ bs) e h = h.1

ended-lines : (own text others : List (List ℕ)) → IsEnded own text → ArePieces (own ++ others) → AreLines text
ended-lines own text others s h = inner-lines text s.dot others (subst ArePieces (ap (λ (o : List (List ℕ)). o ++ others) s.parts ∙ append_assoc text (s.dot ∷ []) others) h)

corrected-lines : (own text others : List (List ℕ)) → IsCorrected own text → ArePieces (own ++ others) → AreLines text
corrected-lines own text others s h =
    let tail : List (List ℕ) = s.dot ∷ s.correction ∷ [] in
    let parts : own ++ others ≡ s.front ++ ((46 ∷ s.lone) ∷ s.dot ∷ s.correction ∷ others) = ap (λ (o : List (List ℕ)). o ++ others) s.parts ∙ append_assoc s.front ((46 ∷ s.lone) ∷ tail) others in
    let pieces : ArePieces (s.front ++ ((46 ∷ s.lone) ∷ s.dot ∷ s.correction ∷ others)) = subst ArePieces parts h in
    let last : ArePieces ((46 ∷ s.lone) ∷ s.dot ∷ s.correction ∷ others) = pieces-last s.front ((46 ∷ s.lone) ∷ s.dot ∷ s.correction ∷ others) pieces in
    subst AreLines (sym s.is) (lines-both s.front (s.lone ∷ []) (inner-lines s.front (46 ∷ s.lone) (s.dot ∷ s.correction ∷ others) pieces) (lone-line s.lone s.is_lone last.0, tt))

text-lines : (turns : ℕ) (own text others : List (List ℕ)) → SpellsText turns own text others → ArePieces (own ++ others) → AreLines text
text-lines zero own text others (inl s) h = ended-lines own text others s h
text-lines zero own text others (inr s) h = corrected-lines own text others s.0 h
text-lines (suc turns) own text others s h =
    let one = s.0 in
    let append = s.1 in
    let rest = s.2 in
    let parts : own ++ others ≡ one ++ (append ∷ (rest ++ others)) = ap (λ (o : List (List ℕ)). o ++ others) s.3 ∙ append_assoc one (append ∷ rest) others in
    let pieces : ArePieces (one ++ (append ∷ (rest ++ others))) = subst ArePieces parts h in
    let last : ArePieces (append ∷ (rest ++ others)) = pieces-last one (append ∷ (rest ++ others)) pieces in
    subst AreLines (sym s.7) (lines-both s.5 s.6 (corrected-lines one s.5 (append ∷ (rest ++ others)) s.8 pieces) (text-lines turns rest s.6 others s.9 (pieces-last (append ∷ []) (rest ++ others) last)))

added-lines : (action : Action) (own added others : List (List ℕ)) → SpellsAdded action own added others → ArePieces (own ++ others) → AreLines added
added-lines Add own added others s h = text-lines s.0 own added others s.1 h
added-lines Change own added others s h = text-lines s.0 own added others s.1 h
added-lines Delete own added others s h = subst AreLines (sym s.1) tt

address-order : (action : Action) (text : List ℕ) (first last : ℕ) → SpellsAddresses action text first last → (1 ≤ first) × (first ≤ last + 1)
address-order Add text first last s = (omega (arith, s.1), omega (arith, s.1))
address-order Change text first last s = (s.2, omega (arith, s.3))
address-order Delete text first last s = (s.2, omega (arith, s.3))

edit-lawful : (below : ℕ) (own : List (List ℕ)) (e : PlainEdit) (others : List (List ℕ)) → SpellsEdit below own e others → ArePieces (own ++ others) → IsLawfulEdit e × (e.last < below)
edit-lawful below [] e others s h = absurd s
edit-lawful below (line ∷ rest) e others s h =
    let order = address-order s.0 s.1.text e.first e.last s.1.addresses in (
      record {
        start = order.0;
        order = order.1;
        small = s.1.small;
        added = All-from_recursion IsLine e.added (added-lines s.0 rest e.added others s.3 (pieces-last (line ∷ []) (rest ++ others) h));
      },
      s.2,
    )

edits-lawful : (es : List PlainEdit) (below : ℕ) (own others : List (List ℕ)) → SpellsEdits below own es others → ArePieces (own ++ others) → AreLawful below es
edits-lawful [] below own others s h = tt
edits-lawful (e ∷ es) below own others s h =
    let pieces : ArePieces (s.0 ++ (s.1 ++ others)) = subst ArePieces (ap (λ (o : List (List ℕ)). o ++ others) s.2 ∙ append_assoc s.0 s.1 others) h in
    let one = edit-lawful below s.0 e (s.1 ++ others) s.3 pieces in
    (one.0, one.1, edits-lawful es (lowest e) s.1 others s.4 (pieces-last s.0 (s.1 ++ others) pieces))

some-edits : (es : List PlainEdit) (below : ℕ) (own others : List (List ℕ)) → SpellsEdits below own es others → begins_script (own ++ others) ≡ true → begins_script others ≡ false → 0 < length es
some-edits [] below own others s opens none = absurd (let same : begins_script others ≡ true = ap (λ (o : List (List ℕ)). begins_script (o ++ others)) (sym s) ∙ opens in cc)
some-edits (e ∷ es) below own others s opens none = omega arith

-- ---- over a text

pub is_within : (text : List ℕ) (at line : ℕ) (r : Result EdScript FormFault) → begins_script (lines (drop at text)) ≡ true → IfOk r (λ s. (at ≤ s.span.end) × (s.span.end ≤ length text)) → Gives (read_of text) r (reading line (lines (drop at text))) → IfOk r (λ s. (at < s.span.end) × (s.span.end ≤ length text))
is_within text at line (Ok s) opens within given =
    let p = reading_finds line (lines (drop at text)) (read_of text s) given in
    let ne : at ≢ s.span.end = λ same. absurd (let both : begins_script (lines (drop at text)) ≡ false = ap (λ n. begins_script (lines (drop n text))) same ∙ p.ends.0 in cc) in
    (omega (arith, within.0, ne), within.1)
is_within text at line (Err e) opens within given = tt

pub is_piece : (text : List ℕ) (at line : ℕ) (r : Result EdScript FormFault) → IfOk r (λ s. s.span.start ≡ at) → IfOk r (λ s. (at ≤ s.span.end) × (s.span.end ≤ length text)) → Gives (read_of text) r (reading line (lines (drop at text)))
    → IfOk r (λ s. SpellsEdits (2 ^ 32) (lines (bytes_at text s.span)) (edits_of text s.edits.items) (lines (drop s.span.end text)))
is_piece text at line (Ok s) start within given =
    let p = reading_finds line (lines (drop at text)) (read_of text s) given in
    let own : lines (bytes_at text s.span) ≡ p.own = ap (λ n. lines (slice_range text n s.span.end)) start ∙ piece-lines text at s.span.end p.own within.0 within.1 p.parts in
    subst (λ ls. SpellsEdits (2 ^ 32) ls (edits_of text s.edits.items) (lines (drop s.span.end text))) (sym own) p.spelled
is_piece text at line (Err e) start within given = tt

pub is_lawful : (text : List ℕ) (at line : ℕ) (r : Result EdScript FormFault) → begins_script (lines (drop at text)) ≡ true → length text < 2 ^ 32 → IfOk r (λ s. length s.edits.items + sum_by (λ e. length e.added.items) s.edits.items ≤ length text) → IfOk r (λ s. All (λ e. All (LiesIn text) e.added.items) s.edits.items) → Gives (read_of text) r (reading line (lines (drop at text))) → IfOk r (IsLawfulScript text)
is_lawful text at line (Ok s) opens short few lies given =
    let p = reading_finds line (lines (drop at text)) (read_of text s) given in
    let some = some-edits (edits_of text s.edits.items) (2 ^ 32) p.own (lines (drop s.span.end text)) p.spelled (ap begins_script (sym p.parts) ∙ opens) p.ends.0 in
    record {
      some = omega (arith, some, length-map s.edits.items (edit_of text));
      few = omega (arith, few, short);
      edits = edits-lawful (edits_of text s.edits.items) (2 ^ 32) p.own (lines (drop s.span.end text)) p.spelled (subst ArePieces p.parts (lines-pieces (drop at text)));
      within = lies;
    }
is_lawful text at line (Err e) opens short few lies given = tt
