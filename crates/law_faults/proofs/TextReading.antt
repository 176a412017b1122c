-- The line that a fault of a patch text names.
use Rattle.std.proofs.Common.{◌≡◌, ◌≢◌, inl, inr, ℕ, ◌+◌, Bool, true, false, not, cond, ◌&&◌, List, [], ◌∷◌, ◌++◌, length, drop, None, Some, Result, Ok, Err, refl, sym, ap, subst, ◌∙◌, append_assoc, arith}
use Rattle.std.proofs.lemmas.List.{length-append}
use Rattle.std.proofs.lemmas.Option.{same_Some}
use Rattle.line_list.specs.Lines.{lines}
use Rattle.hunk_core.specs.declared.BadKind.{BadKind}
use Rattle.hunk_core.specs.declared.BadKind.TheVariants as kinds
use Rattle.hunk_core.specs.declared.Form.{Form}
use Rattle.hunk_core.specs.declared.Form.TheVariants.{Unified, Context, Normal, Ed}
use Rattle.hunk_core.specs.PlainHunk.{PlainHunk}
use Rattle.hunk_core.specs.Reading.{◌>>=◌, Fault, fault, Ahead}
use Rattle.unified_form.specs.Hunks as unified_reading
use Rattle.context_form.specs.Hunks as context_reading
use Rattle.normal_form.specs.Hunks as normal_reading
use Rattle.ed_form.specs.Scripts as ed_reading
use Rattle.ed_form.specs.PlainEdit.{PlainEdit}
use Rattle.unified_form.proofs.FirstFault as unified_faults
use Rattle.context_form.proofs.FirstFault as context_faults
use Rattle.normal_form.proofs.FirstFault as normal_faults
use Rattle.patch_header.specs.Content.{is_binary}
use Rattle.patch_header.specs.Openings.{opens, stops_binary, stops_bare, begins_binary, stop_at}
use Rattle.patch_header.specs.GitHeaders.{git_header}
use Rattle.patch_header.specs.GitRows.{led_by}
use Rattle.patch_header.specs.Region.{Row, rows}
use Rattle.read_header_record.specs.declared.Header.{Header}
use Rattle.patch_header.specs.declared.openings.Stop.{Stop}
use Rattle.patch_header.specs.declared.openings.Stop.TheVariants.{Opening, Binary, Bare}
use Rattle.patch_header.specs.declared.read_options.ReadOptions.{ReadOptions}
use Rattle.patch_header.specs.Steps.{header_with, bare_with, header_at, seen_for, IsFirstOpening}
use Rattle.read_file_patch.specs.PlainPatch.{PlainChange, PlainPatch}
use Rattle.read_patch_text.specs.Patches.{as_hunks, as_script, change_at, bare_change, change_behind}
use Rattle.read_patch_text.specs.Texts.{GoesUpTo, Stand, ComesFault, IsFaulty}
use Rattle.law_reading.proofs.Places.{skip-lines}
use Rattle.law_reading.proofs.Standing.{placed, behind_header, header-split}
use Rattle.hunk_core.proofs.FaultSteps.{bind_err}
use Rattle.law_faults.specs.NamedLines.{NamesLine}
use Rattle.law_faults.specs.TextFaults.{IsAtFaultIn, IsAtFault}
use Rattle.law_faults.proofs.Naming.{named-past}
use Rattle.law_faults.proofs.UnifiedReading as unified_lines
use Rattle.law_faults.proofs.ContextReading as context_lines
use Rattle.law_faults.proofs.NormalReading as normal_lines
use Rattle.law_faults.proofs.EdReading as ed_lines

-- ---- places of a text, and the lines in front of them

-- the line at a place has this number
record IsLineNumber (text : List ℕ) (at number : ℕ) : Type 0 where
  front : List (List ℕ)
  parts : lines text ≡ front ++ lines (drop at text)
  counted : number ≡ length front + 1

further : (text : List ℕ) (at number : ℕ) (own : List (List ℕ)) (place next : ℕ) → IsLineNumber text at number → lines (drop at text) ≡ own ++ lines (drop place text) → next ≡ number + length own → IsLineNumber text place next
further text at number own place next n parts count = record {
  front = n.front ++ own;
  parts = n.parts ∙ ap (λ (ls : List (List ℕ)). n.front ++ ls) parts ∙ sym (append_assoc n.front own (lines (drop place text)));
  counted = omega (arith, n.counted, count, length-append n.front own);
}

header_place : (ways : ReadOptions) (text : List ℕ) (place number : ℕ) (rs : List Row) (stop : Stop) (h : Header) → header_at ways text place number rs stop ≡ Some h → (place ≡ h.at) × (number ≡ h.opening)
header_place ways text place number rs (Opening form) h e =
    let is : header_with text form place number (seen_for ways form text rs) (led_by ways form rs) ≡ h = same_Some _ h e in
    (ap (λ (x : Header). x.at) is, ap (λ (x : Header). x.opening) is)
header_place ways text place number rs Bare h e =
    let is : bare_with text place number rs ≡ h = same_Some _ h e in
    (ap (λ (x : Header). x.at) is, ap (λ (x : Header). x.opening) is)
header_place ways text place number rs Binary h e = absurd cc

-- the opening of a file patch
at_opening : (ways : ReadOptions) (text : List ℕ) (at number : ℕ) (h : Header) → IsLineNumber text at number → IsFirstOpening ways text at number h → IsLineNumber text h.at h.opening
at_opening ways text at number h n o =
    let p = header_place ways text o.place (number + length o.region) (rows number at o.region) o.stop h o.says in
    further text at number o.region h.at h.opening n (subst (λ (k : ℕ). lines (drop at text) ≡ o.region ++ lines (drop k text)) p.0 o.is_region.parts) (sym p.1)

-- what stands behind it
behind_change : (text : List ℕ) (h : Header) (change : PlainChange) (end next : ℕ) → IsLineNumber text h.at h.opening → GoesUpTo text h change end next → IsLineNumber text end next
behind_change text h change end next n g = by h.bare refl
  where
    by : (b : Bool) → h.bare ≡ b → IsLineNumber text end next
    by false is = let p = placed h.form h.opening (lines (drop h.at text)) change next (lines (drop end text)) (g.spelled is) in further text h.at h.opening p.own end next n p.parts p.counted
    by true is =
        let bare = g.bare is in
        let all = lines (drop h.at text) in
        let split : all ≡ git_header all ++ behind_header all = header-split all in
        let rest : lines (drop end text) ≡ behind_header all = ap (λ k. lines (drop k text)) bare.ends ∙ skip-lines text h.at (git_header all) (behind_header all) split in
        further text h.at h.opening (git_header all) end next n (split ∙ ap (λ (ls : List (List ℕ)). git_header all ++ ls) (sym rest)) bare.counted

behind_all : (ways : ReadOptions) (text : List ℕ) (ps : List PlainPatch) (at number end next : ℕ) → IsLineNumber text at number → Stand ways text at number ps end next → IsLineNumber text end next
behind_all ways text [] at number end next n s = subst (λ (k : ℕ). IsLineNumber text k next) s.0 (subst (λ (k : ℕ). IsLineNumber text at k) s.1 n)
behind_all ways text (p ∷ ps) at number end next n s =
    let first = s.2 in
    behind_all ways text ps s.0 s.1 end next (behind_change text first.header p.change s.0 s.1 (at_opening ways text at number first.header n first.opens) first.goes) s.3

-- ---- a binary line

binary_first : (ways : ReadOptions) (rest : List (List ℕ)) → stop_at ways rest ≡ Some Binary → begins_binary rest ≡ true
unfolding stop_at
binary_first ways rest e = by (opens ways.only Unified rest) (opens ways.only Context rest) (opens ways.only Normal rest) (opens ways.only Ed rest) (stops_binary ways rest) (stops_bare ways rest) refl e
  where
    second : (a b : Bool) → (a && b) ≡ true → b ≡ true
    second true b e = e
    second false b e = absurd cc

    by : (a b c d f g : Bool) → stops_binary ways rest ≡ f → cond a (Some (Opening Unified)) (cond b (Some (Opening Context)) (cond c (Some (Opening Normal)) (cond d (Some (Opening Ed)) (cond f (Some Binary) (cond g (Some Bare) None))))) ≡ Some Binary → begins_binary rest ≡ true
    by true b c d f g is e = absurd cc
    by false true c d f g is e = absurd cc
    by false false true d f g is e = absurd cc
    by false false false true f g is e = absurd cc
    by false false false false true g is e = second (not ways.skip_binary) (begins_binary rest) is
    by false false false false false true is e = absurd cc
    by false false false false false false is e = absurd cc

binary_line : (rest : List (List ℕ)) → begins_binary rest ≡ true → (line : List ℕ) × (behind : List (List ℕ)) × (rest ≡ line ∷ behind) × (is_binary line ≡ true)
binary_line [] e = absurd cc
binary_line (line ∷ behind) e = (line, behind, refl, e)

-- ---- hunks, or a script

-- the reading that failed
abbrev Fails : Form → ℕ → List (List ℕ) → Fault → Type 0
Fails Unified number rest e = unified_reading.reading number rest ≡ Err e
Fails Context number rest e = context_reading.reading number rest ≡ Err e
Fails Normal number rest e = normal_reading.reading number rest ≡ Err e
Fails Ed number rest e = ed_reading.reading number rest ≡ Err e

hunks_fail : (r : Result (List PlainHunk × Ahead) Fault) (e : Fault) → (r >>= as_hunks) ≡ Err e → r ≡ Err e
hunks_fail r e h =
    elim (bind_err r as_hunks e h) [
      | inl bad ↦ bad
      | inr good ↦ absurd (let wrong = good.2 in cc)
    ]

script_fails : (r : Result (List PlainEdit × Ahead) Fault) (e : Fault) → (r >>= as_script) ≡ Err e → r ≡ Err e
script_fails r e h =
    elim (bind_err r as_script e h) [
      | inl bad ↦ bad
      | inr good ↦ absurd (let wrong = good.2 in cc)
    ]

change_fails : (form : Form) (number : ℕ) (rest : List (List ℕ)) (e : Fault) → change_at form number rest ≡ Err e → Fails form number rest e
unfolding change_at
change_fails Unified number rest e h = hunks_fail (unified_reading.reading number rest) e h
change_fails Context number rest e h = hunks_fail (context_reading.reading number rest) e h
change_fails Normal number rest e h = hunks_fail (normal_reading.reading number rest) e h
change_fails Ed number rest e h = script_fails (ed_reading.reading number rest) e h

behind_fails : (text : List ℕ) (h : Header) (e : Fault) → change_behind text h ≡ Err e → Fails h.form h.opening (lines (drop h.at text)) e
behind_fails text h e k = by h.bare k
  where
    by : (b : Bool) → cond b (Ok (bare_change text h.at h.opening)) (change_at h.form h.opening (lines (drop h.at text))) ≡ Err e → Fails h.form h.opening (lines (drop h.at text)) e
    by true k = absurd cc
    by false k = change_fails h.form h.opening (lines (drop h.at text)) e k

form_named : (form : Form) (number : ℕ) (rest : List (List ℕ)) (e : Fault) → Fails form number rest e → e.kind ≢ kinds.ShortEnd → NamesLine (IsAtFaultIn form e.kind) number rest e.line
form_named Unified number rest e h long = unified_lines.fault-named number rest e h long
form_named Context number rest e h long = context_lines.fault-named number rest e h long
form_named Normal number rest e h long = normal_lines.fault-named number rest e h long
form_named Ed number rest e h long = ed_lines.fault-named number rest e h

form_short : (form : Form) (number : ℕ) (rest : List (List ℕ)) (line : ℕ) → Fails form number rest (fault line kinds.ShortEnd) → line ≡ number + length rest
form_short Unified number rest line h = unified_faults.fault-short number rest (fault line kinds.ShortEnd) h refl
form_short Context number rest line h = context_faults.fault-short number rest (fault line kinds.ShortEnd) h refl
form_short Normal number rest line h = normal_faults.fault-short number rest (fault line kinds.ShortEnd) h refl
form_short Ed number rest line h = absurd ((ed_lines.fault-named number rest (fault line kinds.ShortEnd) h).holds.2)

-- ---- the text

text_begins : (text : List ℕ) → IsLineNumber text 0 1
text_begins text = record { front = []; parts = refl; counted = refl }

abbrev OfForm : Form → BadKind → List (List ℕ) → List ℕ → List (List ℕ) → Type 0
OfForm form kind front line behind = IsAtFaultIn form kind front line behind

comes_named : (ways : ReadOptions) (text : List ℕ) (at number named : ℕ) (kind : BadKind) → IsLineNumber text at number → ComesFault ways text at number named kind → kind ≢ kinds.ShortEnd → NamesLine (IsAtFault kind) 1 (lines text) named
comes_named ways text at number named kind n (inl binary) long =
    let b = binary.0 in
    let l = binary_line (lines (drop b.place text)) (binary_first ways (lines (drop b.place text)) b.stands) in
    record {
      front = n.front ++ b.region;
      line = l.0;
      behind = l.1;
      parts = n.parts ∙ ap (λ (ls : List (List ℕ)). n.front ++ ls) (b.is_region.parts ∙ ap (λ (ls : List (List ℕ)). b.region ++ ls) l.2) ∙ sym (append_assoc n.front b.region (l.0 ∷ l.1));
      counted = omega (arith, n.counted, b.counted, length-append n.front b.region);
      holds = inl (binary.1, l.3);
    }
comes_named ways text at number named kind n (inr change) long =
    let h = change.0 in
    let o = at_opening ways text at number h n change.1 in
    let f = form_named h.form h.opening (lines (drop h.at text)) (fault named kind) (behind_fails text h (fault named kind) change.2) long in
    named-past (OfForm h.form kind) (IsAtFault kind) o.front 1 h.opening (lines text) (lines (drop h.at text)) named o.parts (omega (arith, o.counted)) (λ front line behind same holds. inr (h.form, o.front, front, refl, holds)) f

comes_short : (ways : ReadOptions) (text : List ℕ) (at number named : ℕ) → IsLineNumber text at number → ComesFault ways text at number named kinds.ShortEnd → named ≡ length (lines text) + 1
comes_short ways text at number named n (inl binary) = absurd (let bad = binary.1 in cc)
comes_short ways text at number named n (inr change) =
    let h = change.0 in
    let o = at_opening ways text at number h n change.1 in
    let s = form_short h.form h.opening (lines (drop h.at text)) named (behind_fails text h (fault named kinds.ShortEnd) change.2) in
    omega (arith, s, o.counted, ap length o.parts, length-append o.front (lines (drop h.at text)))

pub fault-named : (ways : ReadOptions) (text : List ℕ) (named : ℕ) (kind : BadKind) → IsFaulty ways text named kind → kind ≢ kinds.ShortEnd → NamesLine (IsAtFault kind) 1 (lines text) named
fault-named ways text named kind f long = comes_named ways text f.end f.next named kind (behind_all ways text f.front 0 1 f.end f.next (text_begins text) f.stand) f.comes long

pub fault-short : (ways : ReadOptions) (text : List ℕ) (named : ℕ) → IsFaulty ways text named kinds.ShortEnd → named ≡ length (lines text) + 1
fault-short ways text named f = comes_short ways text f.end f.next named (behind_all ways text f.front 0 1 f.end f.next (text_begins text) f.stand) f.comes
