-- What an opening and a git line aren't: a line of both names, an extended line, or a binary line.
use Rattle.std.proofs.Common.{◌≡◌, inl, inr, ◌<◌, ◌≤◌, ℕ, suc, Bool, true, false, ◌&&◌, ◌||◌, leb, List, [], ◌∷◌, ◌++◌, Option, refl, sym, ap, ◌∙◌, arith}
use Rattle.std.specs.Prelude.{codes}
use Rattle.std.proofs.lemmas.Bool.{leb-true, false_from_ne_true}
use Rattle.hunk_core.specs.declared.Form.{Form}
use Rattle.hunk_core.specs.declared.Form.TheVariants.{Unified, Context, Normal, Ed}
use Rattle.hunk_core.specs.LineTests.{after}
use Rattle.num_text.specs.Numbers.{is_digit}
use Rattle.context_form.specs.Openings as context
use Rattle.normal_form.specs.Hunks.{begins_marked}
use Rattle.patch_header.specs.Content.{content, is_binary}
use Rattle.patch_header.specs.GitHeaders.{starts, is_git_line, is_mode_line, is_name_line, is_index_line, is_extended, extended_run, behind_run, is_range_like, begins_range, has_new_name, has_names, leads}
use Rattle.patch_header.specs.NamesFit.{old_fits, new_fits}
use Rattle.patch_header.specs.Openings.{begins, begins_binary}
use Rattle.patch_header.proofs.Fronts.{front, and_left, and_right, after-front, ranged-front, unified-front, context-front, range-front, normal-range, ed-range, content-front, binary-front}
use Rattle.patch_header.proofs.GitWords.{starts-words}
use Rattle.patch_header.proofs.ScanLemmas.{run-stops, behind-stops}
use Rattle.law_reading.proofs.Quiet.{LookAlike}

-- ---- how a line begins

-- the first byte of a line that begins so
starts-front : (b n : ℕ) (mark line : List ℕ) → b ≡ suc n → starts (b ∷ mark) line ≡ true → front line ≡ b
starts-front b n mark line e h = content-front line n (after-front b mark (content line) h ∙ e) ∙ sym e

-- the first bytes of extended lines
abbrev Letter : ℕ → Type 0
Letter b = 99 ≤ b

or-three : {A : Type 0} (u v w : Bool) → (u || (v || w)) ≡ true → (u ≡ true → A) → (v ≡ true → A) → (w ≡ true → A) → A
or-three true v w h a b c = a refl
or-three false true w h a b c = b refl
or-three false false w h a b c = c h

or-four : {A : Type 0} (u v w x : Bool) → (u || (v || (w || x))) ≡ true → (u ≡ true → A) → (v ≡ true → A) → (w ≡ true → A) → (x ≡ true → A) → A
or-four true v w x h a b c d = a refl
or-four false true w x h a b c d = b refl
or-four false false true x h a b c d = c refl
or-four false false false x h a b c d = d h

letter : (b n : ℕ) (mark line : List ℕ) → b ≡ suc n → 99 ≤ b → starts (b ∷ mark) line ≡ true → Letter (front line)
letter b n mark line e le h = let is : front line ≡ b = starts-front b n mark line e h in omega (arith, is, le)

mode-letter : (line : List ℕ) → is_mode_line line ≡ true → Letter (front line)
mode-letter line h = or-four (starts (codes "old mode ") line) (starts (codes "new mode ") line) (starts (codes "new file mode ") line) (starts (codes "deleted file mode ") line) h
    (letter 111 110 (codes "ld mode ") line refl (omega arith))
    (letter 110 109 (codes "ew mode ") line refl (omega arith))
    (letter 110 109 (codes "ew file mode ") line refl (omega arith))
    (letter 100 99 (codes "eleted file mode ") line refl (omega arith))

name-letter : (line : List ℕ) → is_name_line line ≡ true → Letter (front line)
name-letter line h = or-four (starts (codes "rename from ") line) (starts (codes "rename to ") line) (starts (codes "copy from ") line) (starts (codes "copy to ") line) h
    (letter 114 113 (codes "ename from ") line refl (omega arith))
    (letter 114 113 (codes "ename to ") line refl (omega arith))
    (letter 99 98 (codes "opy from ") line refl (omega arith))
    (letter 99 98 (codes "opy to ") line refl (omega arith))

index-letter : (line : List ℕ) → is_index_line line ≡ true → Letter (front line)
index-letter line h = or-three (starts (codes "similarity index ") line) (starts (codes "dissimilarity index ") line) (starts (codes "index ") line) h
    (letter 115 114 (codes "imilarity index ") line refl (omega arith))
    (letter 100 99 (codes "issimilarity index ") line refl (omega arith))
    (letter 105 104 (codes "ndex ") line refl (omega arith))

extended-letter : (line : List ℕ) → is_extended line ≡ true → Letter (front line)
unfolding is_extended
extended-letter line h = or-three (is_mode_line line) (is_name_line line) (is_index_line line) h (mode-letter line) (name-letter line) (index-letter line)

-- ---- openings

-- '@', '*' or a digit
pub record OpensForm (b : ℕ) : Type 0 where
  pub low : b < 99
  pub no_plus : b ≡ 43 → ⊥
  pub no_minus : b ≡ 45 → ⊥
  pub no_old : b ≡ 60 → ⊥
  pub no_new : b ≡ 62 → ⊥
  -- 'G' and 'B'
  pub no_binary : b ≡ 71 → ⊥
  pub no_files : b ≡ 66 → ⊥

at-64 : (b : ℕ) → b ≡ 64 → OpensForm b
at-64 b e = record { low = omega arith; no_plus = λ k. omega (arith, e, k); no_minus = λ k. omega (arith, e, k); no_old = λ k. omega (arith, e, k); no_new = λ k. omega (arith, e, k); no_binary = λ k. omega (arith, e, k); no_files = λ k. omega (arith, e, k) }

at-42 : (b : ℕ) → b ≡ 42 → OpensForm b
at-42 b e = record { low = omega arith; no_plus = λ k. omega (arith, e, k); no_minus = λ k. omega (arith, e, k); no_old = λ k. omega (arith, e, k); no_new = λ k. omega (arith, e, k); no_binary = λ k. omega (arith, e, k); no_files = λ k. omega (arith, e, k) }

pub digit-low : (b : ℕ) → is_digit b ≡ true → (48 ≤ b) × (b ≤ 57)
digit-low b h = (leb-true 48 b (and_left (leb 48 b) (leb b 57) h), leb-true b 57 (and_right (leb 48 b) (leb b 57) h))

at-digit : (b : ℕ) → is_digit b ≡ true → OpensForm b
at-digit b h =
    let low : 48 ≤ b = (digit-low b h).0 in
    let high : b ≤ 57 = (digit-low b h).1 in
    record { low = omega (arith, high); no_plus = λ k. omega (arith, low, k); no_minus = λ k. omega (arith, low, k); no_old = λ k. omega (arith, high, k); no_new = λ k. omega (arith, high, k); no_binary = λ k. omega (arith, high, k); no_files = λ k. omega (arith, high, k) }

pub form-front : (only : Option Form) (f : Form) (line : List ℕ) (more : List (List ℕ)) → begins only f (line ∷ more) ≡ true → OpensForm (front line)
form-front only Unified line more h = at-64 (front line) (unified-front line h)
form-front only Context line more h = at-42 (front line) (context-front line (and_left _ _ h))
form-front only Normal line more h = at-digit (front line) (range-front line (normal-range line (and_left _ _ h)))
form-front only Ed line more h = at-digit (front line) (range-front line (ed-range line (and_left _ _ h)))

-- ---- lines that a git header doesn't go on with, nor lines of names, nor binary lines

not-binary : (line : List ℕ) → OpensForm (front line) → is_binary line ≡ false
not-binary line o = false_from_ne_true (is_binary line) (λ h. elim (binary-front line h) [
  | inl e ↦ o.no_binary e
  | inr e ↦ o.no_files e
])

pub record IsSolid (line : List ℕ) : Type 0 where
  pub extended : is_extended line ≡ false
  pub minus : starts (codes "--- ") line ≡ false
  pub plus : starts (codes "+++ ") line ≡ false
  pub text : is_binary line ≡ false

pub front-solid : (line : List ℕ) → OpensForm (front line) → IsSolid line
front-solid line o = record {
  extended = false_from_ne_true (is_extended line) (λ h. let l : 99 ≤ front line = extended-letter line h in let b : front line < 99 = o.low in omega arith);
  minus = false_from_ne_true (starts (codes "--- ") line) (λ h. o.no_minus (starts-front 45 44 (codes "-- ") line refl h));
  plus = false_from_ne_true (starts (codes "+++ ") line) (λ h. o.no_plus (starts-front 43 42 (codes "++ ") line refl h));
  text = not-binary line o;
}

git-is : (line rest : List ℕ) → content line ≡ codes "diff --git " ++ rest → IsSolid line
unfolding after is_extended
git-is line rest e = record { extended = rw e refl; minus = rw e refl; plus = rw e refl; text = rw e refl }

pub git-solid : (line : List ℕ) → is_git_line line ≡ true → IsSolid line
git-solid line h = let w = (starts-words (codes "diff --git ") line).0 h in git-is line w.0 w.1

-- nor does it begin as the range line of a hunk
pub git-unranged : (line : List ℕ) → is_git_line line ≡ true → is_range_like line ≡ false
git-unranged line h = false_from_ne_true (is_range_like line) (λ k. let a : front line ≡ 100 = starts-front 100 99 (codes "iff --git ") line refl h in let b : front line ≡ 64 = ranged-front line k in omega (arith, a, b))

-- what such a line shows to those in front
pub record ShowsSolid (ls : List (List ℕ)) : Type 0 where
  pub run : extended_run ls ≡ []
  pub behind : behind_run ls ≡ ls
  pub new_name : (run : List (List ℕ)) → has_new_name run ls ≡ false
  pub names : (run : List (List ℕ)) → has_names run ls ≡ false
  pub text : begins_binary ls ≡ false

pub solid-shows : (line : List ℕ) (more : List (List ℕ)) → IsSolid line → ShowsSolid (line ∷ more)
solid-shows line more s = record {
  run = run-stops line more s.extended;
  behind = behind-stops line more s.extended;
  new_name = λ run. ap (λ v. v && (new_fits run line && begins_range more)) s.plus;
  names = λ run. ap (λ v. v && (old_fits run line && has_new_name run more)) s.minus;
  text = s.text;
}

-- lines that begin with the same line, or with another one that is as solid, look alike
pub solid-alike : (rest other : List (List ℕ)) → begins_marked rest ≡ begins_marked other → context.begins_old rest ≡ context.begins_old other → begins_range rest ≡ begins_range other → ShowsSolid rest → ShowsSolid other → LookAlike rest other
solid-alike rest other marked ranged hunk s t = record {
  marked = marked;
  ranged = ranged;
  hunk = hunk;
  new_name = λ run. s.new_name run ∙ sym (t.new_name run);
  names = λ run. s.names run ∙ sym (t.names run);
  run = s.run ∙ sym t.run;
  behind = λ run.
      ap (leads run) s.behind
      ∙ ap (λ v. v || has_names run rest) hunk
      ∙ ap (λ v. begins_range other || v) (s.names run ∙ sym (t.names run))
      ∙ sym (ap (leads run) t.behind);
  text = s.text ∙ sym t.text;
  told = ap begins_binary s.behind ∙ s.text ∙ sym t.text ∙ sym (ap begins_binary t.behind);
}
