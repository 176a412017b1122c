-- What git headers say, in words.
use Rattle.std.proofs.Common.{◌≡◌, ◌↔◌, ℕ, suc, ◌+◌, ◌%◌, Bool, true, false, cond, not, ◌&&◌, ◌||◌, List, [], ◌∷◌, ◌++◌, length, reverse, take, drop, get_or, Some, refl, sym, ap, ◌∙◌, arith, append_assoc, length-append}
use Rattle.std.proofs.lemmas.Bool.{false≢true}
use Rattle.std.specs.Prelude.{unwrap_or, codes, ◌==◌}
use Rattle.std.specs.List.{list_any, AllByRecursion}
use Rattle.std.specs.Option.{option_or}
use Rattle.std.proofs.Math.Seq.{get_or-append_seam}
use Rattle.std.proofs.lemmas.List.{append-nil, reverse-append, take-append-le, take_all}
use Rattle.hunk_core.specs.LineTests.{after}
use Rattle.patch_header.specs.Content.{content}
use Rattle.patch_header.specs.GitHeaders.{starts, is_git_line, is_extended, extended_run, behind_run, is_index_line, has_line, action_of, is_plain, changes_mode, asks_alone, begins_range, has_new_name, has_names, leads, begins_bare}
use Rattle.patch_header.specs.NamesFit.{tells, gives, is_free, fits, old_fits, new_fits}
use Rattle.unified_form.specs.Hunks.{begins_hunk}
use Rattle.patch_header.specs.GitRows.{half, are_alike, has_halves, header_back, old_name_back, new_name_back, led_rows}
use Rattle.patch_header.specs.Region.{Row}
use Rattle.read_header_record.specs.declared.Action.{Action}
use Rattle.read_header_record.specs.declared.Action.TheVariants.{Plain, New, Deleted, Rename, Copy}
use Rattle.patch_header.proofs.Fronts.{unified-range}
use Rattle.patch_header.proofs.Stands.{and_left, and_right}
use Rattle.patch_header.proofs.Meanings.{begins-words}
use Rattle.patch_header.proofs.ScanLemmas.{run-more, behind-more, run-stops, behind-stops, run-none, behind-none}

pub starts-words : (mark line : List ℕ) → starts mark line ≡ true ↔ ((rest : List ℕ) × (content line ≡ mark ++ rest))
starts-words mark line = begins-words mark (content line)

abbrev AreExtended : List (List ℕ) → Type 0
AreExtended ls = AllByRecursion (λ l. is_extended l ≡ true) ls

pub run-words : (xs : List (List ℕ)) (line : List ℕ) (rest : List (List ℕ)) → AreExtended xs → is_extended line ≡ false → (extended_run (xs ++ line ∷ rest) ≡ xs) × (behind_run (xs ++ line ∷ rest) ≡ line ∷ rest)
run-words [] line rest h e = (run-stops line rest e, behind-stops line rest e)
run-words (x ∷ xs) line rest h e =
    let more = run-words xs line rest h.1 e in
    (run-more x (xs ++ line ∷ rest) h.0 ∙ ap (λ ls. x ∷ ls) more.0, behind-more x (xs ++ line ∷ rest) h.0 ∙ more.1)

pub all-words : (xs : List (List ℕ)) → AreExtended xs → (extended_run xs ≡ xs) × (behind_run xs ≡ [])
all-words [] h = (run-none, behind-none)
all-words (x ∷ xs) h =
    let more = all-words xs h.1 in
    (run-more x xs h.0 ∙ ap (λ ls. x ∷ ls) more.0, behind-more x xs h.0 ∙ more.1)

-- ---- the action

abbrev chosen : Bool → Bool → Bool → Bool → Action
chosen n d r c = cond n New (cond d Deleted (cond r Rename (cond c Copy Plain)))

told-new : (n d r c : Bool) → chosen n d r c ≡ New → n ≡ true
told-new true d r c h = refl
told-new false true r c h = absurd cc
told-new false false true c h = absurd cc
told-new false false false true h = absurd cc
told-new false false false false h = absurd cc

told-deleted : (n d r c : Bool) → chosen n d r c ≡ Deleted → (n ≡ false) × (d ≡ true)
told-deleted true d r c h = absurd cc
told-deleted false true r c h = (refl, refl)
told-deleted false false true c h = absurd cc
told-deleted false false false true h = absurd cc
told-deleted false false false false h = absurd cc

told-rename : (n d r c : Bool) → chosen n d r c ≡ Rename → r ≡ true
told-rename true d r c h = absurd cc
told-rename false true r c h = absurd cc
told-rename false false true c h = refl
told-rename false false false true h = absurd cc
told-rename false false false false h = absurd cc

told-copy : (n d r c : Bool) → chosen n d r c ≡ Copy → c ≡ true
told-copy true d r c h = absurd cc
told-copy false true r c h = absurd cc
told-copy false false true c h = absurd cc
told-copy false false false true h = refl
told-copy false false false false h = absurd cc

abbrev has_new : List (List ℕ) → Bool
has_new ls = has_line (codes "new file mode ") ls

abbrev has_deleted : List (List ℕ) → Bool
has_deleted ls = has_line (codes "deleted file mode ") ls

abbrev has_rename : List (List ℕ) → Bool
has_rename ls = has_line (codes "rename from ") ls && has_line (codes "rename to ") ls

abbrev has_copy : List (List ℕ) → Bool
has_copy ls = has_line (codes "copy from ") ls && has_line (codes "copy to ") ls

action-by : (ls : List (List ℕ)) → action_of ls ≡ chosen (has_new ls) (has_deleted ls) (has_rename ls) (has_copy ls)
unfolding action_of
action-by ls = refl

pub new-words : (ls : List (List ℕ)) → action_of ls ≡ New ↔ has_line (codes "new file mode ") ls ≡ true
new-words ls = (
  λ h. told-new (has_new ls) (has_deleted ls) (has_rename ls) (has_copy ls) (sym (action-by ls) ∙ h),
  λ k. action-by ls ∙ ap (λ n. chosen n (has_deleted ls) (has_rename ls) (has_copy ls)) k,
)

pub deleted-words : (ls : List (List ℕ)) → action_of ls ≡ Deleted ↔ ((has_line (codes "new file mode ") ls ≡ false) × (has_line (codes "deleted file mode ") ls ≡ true))
deleted-words ls = (
  λ h. told-deleted (has_new ls) (has_deleted ls) (has_rename ls) (has_copy ls) (sym (action-by ls) ∙ h),
  λ k. action-by ls ∙ ap (λ n. chosen n (has_deleted ls) (has_rename ls) (has_copy ls)) k.0 ∙ ap (λ d. chosen false d (has_rename ls) (has_copy ls)) k.1,
)

pub rename-words : (ls : List (List ℕ)) → action_of ls ≡ Rename → (has_line (codes "rename from ") ls ≡ true) × (has_line (codes "rename to ") ls ≡ true)
rename-words ls h =
    let both : has_rename ls ≡ true = told-rename (has_new ls) (has_deleted ls) (has_rename ls) (has_copy ls) (sym (action-by ls) ∙ h) in
    (and_left _ _ both, and_right (has_line (codes "rename from ") ls) _ both)

pub copy-words : (ls : List (List ℕ)) → action_of ls ≡ Copy → (has_line (codes "copy from ") ls ≡ true) × (has_line (codes "copy to ") ls ≡ true)
copy-words ls h =
    let both : has_copy ls ≡ true = told-copy (has_new ls) (has_deleted ls) (has_rename ls) (has_copy ls) (sym (action-by ls) ∙ h) in
    (and_left _ _ both, and_right (has_line (codes "copy from ") ls) _ both)

-- ---- modes, and contents alone

pub modes-words : (git : List ℕ) (rest : List (List ℕ)) → is_git_line git ≡ true → leads (extended_run rest) (behind_run rest) ≡ false → has_line (codes "old mode ") (extended_run rest) ≡ true → has_line (codes "new mode ") (extended_run rest) ≡ true
    → begins_bare (git ∷ rest) ≡ true
unfolding begins_bare asks_alone
modes-words git rest is none old new =
    let run = extended_run rest in
    let plain = not (is_plain (action_of run)) in
    ap (λ v. v && (not (leads (extended_run rest) (behind_run rest)) && (plain || changes_mode run))) is
    ∙ ap (λ v. not v && (plain || changes_mode run)) none
    ∙ ap (λ v. plain || (v && has_line (codes "new mode ") run)) old
    ∙ ap (λ v. plain || v) new
    ∙ or-yes plain
  where
    or-yes : (v : Bool) → (v || true) ≡ true
    or-yes true = refl
    or-yes false = refl

-- no line of contents is one that asks for something
record IsOfContents (l : List ℕ) : Type 0 where
  new : starts (codes "new file mode ") l ≡ false
  deleted : starts (codes "deleted file mode ") l ≡ false
  rename : starts (codes "rename from ") l ≡ false
  copy : starts (codes "copy from ") l ≡ false
  mode : starts (codes "old mode ") l ≡ false

similar-line : (l rest : List ℕ) → content l ≡ codes "similarity index " ++ rest → IsOfContents l
unfolding after
similar-line l rest e = record { new = rw e refl; deleted = rw e refl; rename = rw e refl; copy = rw e refl; mode = rw e refl }

dissimilar-line : (l rest : List ℕ) → content l ≡ codes "dissimilarity index " ++ rest → IsOfContents l
unfolding after
dissimilar-line l rest e = record { new = rw e refl; deleted = rw e refl; rename = rw e refl; copy = rw e refl; mode = rw e refl }

index-line : (l rest : List ℕ) → content l ≡ codes "index " ++ rest → IsOfContents l
unfolding after
index-line l rest e = record { new = rw e refl; deleted = rw e refl; rename = rw e refl; copy = rw e refl; mode = rw e refl }

contents-line : (l : List ℕ) → is_index_line l ≡ true → IsOfContents l
contents-line l h = by (starts (codes "similarity index ") l) refl h
  where
    two : (v : Bool) → starts (codes "dissimilarity index ") l ≡ v → (v || starts (codes "index ") l) ≡ true → IsOfContents l
    two true e k = let s = (starts-words (codes "dissimilarity index ") l).0 e in dissimilar-line l s.0 s.1
    two false e k = let s = (starts-words (codes "index ") l).0 k in index-line l s.0 s.1

    by : (v : Bool) → starts (codes "similarity index ") l ≡ v → (v || (starts (codes "dissimilarity index ") l || starts (codes "index ") l)) ≡ true → IsOfContents l
    by true e k = let s = (starts-words (codes "similarity index ") l).0 e in similar-line l s.0 s.1
    by false e k = two (starts (codes "dissimilarity index ") l) refl k

neither : (v w : Bool) → v ≡ false → w ≡ false → (v || w) ≡ false
neither v w e f = rw (e, f) refl

record HasContents (ls : List (List ℕ)) : Type 0 where
  new : has_new ls ≡ false
  deleted : has_deleted ls ≡ false
  rename : has_line (codes "rename from ") ls ≡ false
  copy : has_line (codes "copy from ") ls ≡ false
  mode : has_line (codes "old mode ") ls ≡ false

contents-lines : (ls : List (List ℕ)) → AllByRecursion (λ l. is_index_line l ≡ true) ls → HasContents ls
contents-lines [] h = record { new = refl; deleted = refl; rename = refl; copy = refl; mode = refl }
contents-lines (l ∷ ls) h =
    let one = contents-line l h.0 in
    let more = contents-lines ls h.1 in
    record {
      new = neither (starts (codes "new file mode ") l) (has_new ls) one.new more.new;
      deleted = neither (starts (codes "deleted file mode ") l) (has_deleted ls) one.deleted more.deleted;
      rename = neither (starts (codes "rename from ") l) (has_line (codes "rename from ") ls) one.rename more.rename;
      copy = neither (starts (codes "copy from ") l) (has_line (codes "copy from ") ls) one.copy more.copy;
      mode = neither (starts (codes "old mode ") l) (has_line (codes "old mode ") ls) one.mode more.mode;
    }

plain-chosen : (n d a b c e : Bool) → n ≡ false → d ≡ false → a ≡ false → c ≡ false → chosen n d (a && b) (c && e) ≡ Plain
plain-chosen n d a b c e hn hd ha hc = rw (hn, hd, ha, hc) refl

no-more : (v w : Bool) → (v && (w && false)) ≡ false
no-more true true = refl
no-more true false = refl
no-more false w = refl

pub contents-words : (git : List ℕ) (rest : List (List ℕ)) → AllByRecursion (λ l. is_index_line l ≡ true) (extended_run rest) → begins_bare (git ∷ rest) ≡ false
unfolding begins_bare asks_alone
contents-words git rest h =
    let run = extended_run rest in
    let no = contents-lines run h in
    let plain : action_of run ≡ Plain = action-by run
    ∙ plain-chosen (has_new run) (has_deleted run) (has_line (codes "rename from ") run) (has_line (codes "rename to ") run) (has_line (codes "copy from ") run) (has_line (codes "copy to ") run) no.new no.deleted no.rename no.copy in
    ap (λ a. is_git_line git && (not (leads (extended_run rest) (behind_run rest)) && (not (is_plain a) || changes_mode run))) plain
    ∙ ap (λ v. is_git_line git && (not (leads (extended_run rest) (behind_run rest)) && (v && has_line (codes "new mode ") run))) no.mode
    ∙ no-more (is_git_line git) (not (leads (extended_run rest) (behind_run rest)))

-- ---- names that are apart

and-none : (v : Bool) → (v && false) ≡ false
and-none true = refl
and-none false = refl

pub old-apart-words : (old : List ℕ) (run rest : List (List ℕ)) → begins_range (old ∷ rest) ≡ false → old_fits run old ≡ false → leads run (old ∷ rest) ≡ false
old-apart-words old run rest hunk none =
    ap (λ v. v || has_names run (old ∷ rest)) hunk
    ∙ ap (λ v. starts (codes "--- ") old && (v && has_new_name run rest)) none
    ∙ and-none (starts (codes "--- ") old)

pub new-apart-words : (old new : List ℕ) (run rest : List (List ℕ)) → begins_range (old ∷ new ∷ rest) ≡ false → new_fits run new ≡ false → leads run (old ∷ new ∷ rest) ≡ false
new-apart-words old new run rest hunk none =
    ap (λ v. v || has_names run (old ∷ new ∷ rest)) hunk
    ∙ ap (λ v. starts (codes "--- ") old && (old_fits run old && (starts (codes "+++ ") new && (v && begins_range rest)))) none
    ∙ ap (λ v. starts (codes "--- ") old && (old_fits run old && v)) (and-none (starts (codes "+++ ") new))
    ∙ ap (λ v. starts (codes "--- ") old && v) (and-none (old_fits run old))
    ∙ and-none (starts (codes "--- ") old)

-- ---- before a hunk, damaged or not

pub range-words : (rest : List (List ℕ)) → begins_hunk rest ≡ true → begins_range rest ≡ true
range-words [] h = absurd cc
range-words (line ∷ rest) h = unified-range line h

pub leading-words : (git : List ℕ) (rest : List (List ℕ)) → leads (extended_run rest) (behind_run rest) ≡ true → begins_bare (git ∷ rest) ≡ false
unfolding begins_bare
leading-words git rest h = ap (λ v. is_git_line git && (not v && asks_alone (extended_run rest))) h ∙ and-none (is_git_line git)

not-or : (v w : Bool) → v ≡ false → (not v || w) ≡ true
not-or true w e = absurd (false≢true (sym e))
not-or false w e = refl

-- lines that give no name to a side leave it open
pub unnamed-words : (one two name : List ℕ) (run : List (List ℕ)) → list_any (tells one two) run ≡ false → fits one two run name ≡ true
unnamed-words one two name run none = not-or (list_any (tells one two) run) (is_free name || list_any (gives name one two) run) none

pub no-file-words : (one two : List ℕ) (run : List (List ℕ)) → fits one two run (codes "/dev/null") ≡ true
no-file-words one two run = by (list_any (tells one two) run)
  where
    by : (v : Bool) → (not v || true) ≡ true
    by true = refl
    by false = refl

-- ---- what leads an opening

header-here : (git : Row) (back : List Row) → is_git_line git.line ≡ true → header_back (git ∷ back) ≡ Some []
unfolding header_back
header-here git back e = rw e refl

header-more : (r : Row) (back rs : List Row) → is_git_line r.line ≡ false → is_extended r.line ≡ true → header_back back ≡ Some rs → header_back (r ∷ back) ≡ Some (rs ++ r ∷ [])
unfolding header_back
header-more r back rs e f h = rw (e, f, h) refl

abbrev GoOn : List Row → Type 0
GoOn gs = AllByRecursion (λ r. (is_git_line r.line ≡ false) × (is_extended r.line ≡ true)) gs

header-run : (gs back rs : List Row) → GoOn gs → header_back back ≡ Some rs → header_back (reverse gs ++ back) ≡ Some (rs ++ gs)
header-run [] back rs h e = e ∙ ap Some (sym (append-nil rs))
header-run (g ∷ gs) back rs h e =
    ap (λ l. header_back (l ++ back)) (reverse-append (g ∷ []) gs)
    ∙ ap header_back (append_assoc (reverse gs) (g ∷ []) back)
    ∙ header-run gs (g ∷ back) (rs ++ g ∷ []) h.1 (header-more g back rs h.0.0 h.0.1 e)
    ∙ ap Some (append_assoc rs (g ∷ []) gs)

old-here : (old : Row) (back : List Row) → starts (codes "--- ") old.line ≡ true → old_name_back (old ∷ back) ≡ header_back back
unfolding old_name_back
old-here old back e = rw e refl

new-here : (new : Row) (back : List Row) → starts (codes "+++ ") new.line ≡ true → new_name_back (new ∷ back) ≡ old_name_back back
unfolding new_name_back
new-here new back e = rw e refl

pub led-words : (front gs : List Row) (git old new : Row) → is_git_line git.line ≡ true → AllByRecursion (λ r. (is_git_line r.line ≡ false) × (is_extended r.line ≡ true)) gs
    → starts (codes "--- ") old.line ≡ true → starts (codes "+++ ") new.line ≡ true → led_rows (front ++ git ∷ (gs ++ old ∷ new ∷ [])) ≡ gs
led-words front gs git old new hg hgs ho hn =
    let ends = gs ++ old ∷ new ∷ [] in
    let back = git ∷ reverse front in
    let turned : reverse (front ++ git ∷ ends) ≡ new ∷ old ∷ (reverse gs ++ back)
    = reverse-append front (git ∷ ends)
    ∙ ap (λ l. l ++ reverse front) (reverse-append (git ∷ []) ends)
    ∙ append_assoc (reverse ends) (git ∷ []) (reverse front)
    ∙ ap (λ l. l ++ back) (reverse-append gs (old ∷ new ∷ [])) in
    ap (λ l. unwrap_or (option_or (new_name_back l) (header_back l)) []) turned
    ∙ ap (λ o. unwrap_or (option_or o (header_back (new ∷ old ∷ (reverse gs ++ back)))) []) (new-here new (old ∷ (reverse gs ++ back)) hn ∙ old-here old (reverse gs ++ back) ho ∙ header-run gs back [] hgs (header-here git (reverse front) hg))

-- ---- the halves

odd-test : (n : ℕ) → n % 2 ≡ 1 → (n % 2 == 1) ≡ true
odd-test n e = rw e refl

pub halves-words : (old new : List ℕ) → length old ≡ length new → are_alike old new ≡ true → has_halves (old ++ 32 ∷ new) ≡ true
unfolding has_halves
halves-words old new same alike =
    let bytes = old ++ 32 ∷ new in
    let n = length old in
    let long : length bytes ≡ length old + length (32 ∷ new) = length-append old (32 ∷ new) in
    let odd : length bytes % 2 ≡ 1 = omega (arith, long, same) in
    let middle : half bytes ≡ n = omega (arith, long, same) in
    let space : get_or bytes n 0 ≡ 32 = get_or-append_seam old 32 new 0 in
    let front : take n bytes ≡ old = take-append-le n old (32 ∷ new) (omega arith) ∙ take_all n old (omega arith) in
    let back : drop (n + 1) bytes ≡ new = behind old new in
    rw (odd, middle, space, front, back, alike) refl
  where
    behind : (old new : List ℕ) → drop (length old + 1) (old ++ 32 ∷ new) ≡ new
    behind [] new = refl
    behind (b ∷ old) new =
        let e : length (b ∷ old) + 1 ≡ suc (length old + 1) = omega arith in
        ap (λ m. drop m (b ∷ (old ++ 32 ∷ new))) e ∙ behind old new
