-- At a line at which nothing stands, nothing stands before other lines that look alike: those in front see no more of them than how the first begins, what follows their extended lines, and whether one is '.'.
use Rattle.std.proofs.Common.{◌≡◌, Bool, true, false, cond, not, ◌&&◌, ◌||◌, ℕ, List, [], ◌∷◌, ◌++◌, None, refl, sym, ap, ◌∙◌}
use Rattle.std.specs.Prelude.{codes}
use Rattle.std.specs.List.{list_any}
use Rattle.std.proofs.lemmas.List.Folds.{list_any-append}
use Rattle.std.proofs.lemmas.Bool.{or_left, or_right}
use Rattle.hunk_core.specs.declared.Form.{Form}
use Rattle.hunk_core.specs.declared.Form.TheVariants.{Unified, Context, Normal, Ed}
use Rattle.context_form.specs.Openings.{is_stars, begins_old}
use Rattle.normal_form.specs.Commands as normal
use Rattle.normal_form.specs.Hunks.{begins_marked}
use Rattle.ed_form.specs.Commands.{is_command}
use Rattle.patch_header.specs.Content.{is_dot, has_dot}
use Rattle.patch_header.specs.GitHeaders.{starts, is_git_line, is_extended, extended_run, behind_run, asks_alone, begins_range, has_new_name, has_names, leads, begins_bare}
use Rattle.patch_header.specs.NamesFit.{old_fits, new_fits}
use Rattle.patch_header.specs.Openings.{admits, asks_dot, opens, begins_binary, is_passed_over, stops_binary, stops_bare, stop_at}
use Rattle.patch_header.specs.Steps.{AreQuiet}
use Rattle.patch_header.specs.declared.read_options.ReadOptions.{ReadOptions}
use Rattle.patch_header.proofs.Stands.{nothing-words}

-- lines that look alike to those in front of them
pub record LookAlike (rest other : List (List ℕ)) : Type 0 where
  pub marked : begins_marked rest ≡ begins_marked other
  pub ranged : begins_old rest ≡ begins_old other
  pub hunk : begins_range rest ≡ begins_range other
  pub new_name : (run : List (List ℕ)) → has_new_name run rest ≡ has_new_name run other
  pub names : (run : List (List ℕ)) → has_names run rest ≡ has_names run other
  pub run : extended_run rest ≡ extended_run other
  pub behind : (run : List (List ℕ)) → leads run (behind_run rest) ≡ leads run (behind_run other)
  pub text : begins_binary rest ≡ begins_binary other
  pub told : begins_binary (behind_run rest) ≡ begins_binary (behind_run other)

module _ (rest other : List (List ℕ)) (same : LookAlike rest other) where
  more-marked : (more : List (List ℕ)) → begins_marked (more ++ rest) ≡ begins_marked (more ++ other)
  more-marked [] = same.marked
  more-marked (m ∷ more) = refl

  more-ranged : (more : List (List ℕ)) → begins_old (more ++ rest) ≡ begins_old (more ++ other)
  more-ranged [] = same.ranged
  more-ranged (m ∷ more) = refl

  more-hunk : (more : List (List ℕ)) → begins_range (more ++ rest) ≡ begins_range (more ++ other)
  more-hunk [] = same.hunk
  more-hunk (m ∷ more) = refl

  more-new : (run more : List (List ℕ)) → has_new_name run (more ++ rest) ≡ has_new_name run (more ++ other)
  more-new run [] = same.new_name run
  more-new run (m ∷ more) = ap (λ v. starts (codes "+++ ") m && (new_fits run m && v)) (more-hunk more)

  more-names : (run more : List (List ℕ)) → has_names run (more ++ rest) ≡ has_names run (more ++ other)
  more-names run [] = same.names run
  more-names run (m ∷ more) = ap (λ v. starts (codes "--- ") m && (old_fits run m && v)) (more-new run more)

  more-leads : (run more : List (List ℕ)) → leads run (more ++ rest) ≡ leads run (more ++ other)
  more-leads run more = ap (λ v. v || has_names run (more ++ rest)) (more-hunk more) ∙ ap (λ v. begins_range (more ++ other) || v) (more-names run more)

  more-run : (more : List (List ℕ)) → extended_run (more ++ rest) ≡ extended_run (more ++ other)
  unfolding extended_run
  more-run [] = same.run
  more-run (m ∷ more) = ap (λ ls. cond (is_extended m) (m ∷ ls) []) (more-run more)

  more-behind : (run more : List (List ℕ)) → leads run (behind_run (more ++ rest)) ≡ leads run (behind_run (more ++ other))
  unfolding behind_run
  more-behind run [] = same.behind run
  more-behind run (m ∷ more) = by (is_extended m) (more-behind run more)
    where
      by : (v : Bool) → leads run (behind_run (more ++ rest)) ≡ leads run (behind_run (more ++ other)) → leads run (cond v (behind_run (more ++ rest)) (m ∷ (more ++ rest))) ≡ leads run (cond v (behind_run (more ++ other)) (m ∷ (more ++ other)))
      by true e = e
      by false e = more-leads run (m ∷ more)

  more-bare : (line : List ℕ) (more : List (List ℕ)) → begins_bare (line ∷ (more ++ rest)) ≡ begins_bare (line ∷ (more ++ other))
  unfolding begins_bare
  more-bare line more =
      ap (λ v. is_git_line line && (not v && asks_alone (extended_run (more ++ rest)))) (more-behind (extended_run (more ++ rest)) more)
      ∙ ap (λ ls. is_git_line line && (not (leads ls (behind_run (more ++ other))) && asks_alone ls)) (more-run more)

  more-text : (more : List (List ℕ)) → begins_binary (more ++ rest) ≡ begins_binary (more ++ other)
  more-text [] = same.text
  more-text (m ∷ more) = refl

  more-told : (more : List (List ℕ)) → begins_binary (behind_run (more ++ rest)) ≡ begins_binary (behind_run (more ++ other))
  unfolding behind_run
  more-told [] = same.told
  more-told (m ∷ more) = by (is_extended m) (more-told more)
    where
      by : (v : Bool) → begins_binary (behind_run (more ++ rest)) ≡ begins_binary (behind_run (more ++ other)) → begins_binary (cond v (behind_run (more ++ rest)) (m ∷ (more ++ rest))) ≡ begins_binary (cond v (behind_run (more ++ other)) (m ∷ (more ++ other)))
      by true e = e
      by false e = more-text (m ∷ more)

  more-stops : (ways : ReadOptions) (line : List ℕ) (more : List (List ℕ)) → stops_bare ways (line ∷ (more ++ rest)) ≡ stops_bare ways (line ∷ (more ++ other))
  more-stops ways line more =
      ap (λ v. ways.git && (v && not (is_passed_over ways (line ∷ (more ++ rest))))) (more-bare line more)
      ∙ ap (λ v. ways.git && (begins_bare (line ∷ (more ++ other)) && not (ways.skip_binary && v))) (more-told more)

-- ---- a line '.'

ed-shut : (a c q d e : Bool) → (q ≡ true → d ≡ false → e ≡ false) → (a && (c && (not q || d))) ≡ false → (a && (c && (not q || e))) ≡ false
ed-shut false c q d e k h = refl
ed-shut true false q d e k h = refl
ed-shut true true false d e k h = h
ed-shut true true true d e k h = k refl h

pub or-left_no : (a b : Bool) → (a || b) ≡ false → a ≡ false
or-left_no true b e = absurd cc
or-left_no false b e = refl

pub or-right_no : (a b : Bool) → (a || b) ≡ false → b ≡ false
or-right_no true b e = absurd cc
or-right_no false b e = e

-- no line '.' comes in behind these
dots-behind : (more rest other : List (List ℕ)) → (has_dot rest ≡ false → has_dot other ≡ false) → has_dot (more ++ rest) ≡ false → has_dot (more ++ other) ≡ false
dots-behind more rest other k h =
    let was : (has_dot more || has_dot rest) ≡ false = sym (list_any-append is_dot more rest) ∙ h in
    list_any-append is_dot more other
    ∙ ap (λ v. v || has_dot other) (or-left_no (has_dot more) (has_dot rest) was)
    ∙ k (or-right_no (has_dot more) (has_dot rest) was)

-- ---- a line, and a region

quiet-line : (ways : ReadOptions) (line : List ℕ) (more rest other : List (List ℕ)) → LookAlike rest other → (asks_dot ways.only line ≡ true → has_dot rest ≡ false → has_dot other ≡ false)
    → stop_at ways (line ∷ (more ++ rest)) ≡ None → stop_at ways (line ∷ (more ++ other)) ≡ None
quiet-line ways line more rest other same dots h = (nothing-words ways (line ∷ (more ++ other))).1 (form, none.1, sym (more-stops rest other same ways line more) ∙ none.2)
  where
    none : ((f : Form) → opens ways.only f (line ∷ (more ++ rest)) ≡ false) × (stops_binary ways (line ∷ (more ++ rest)) ≡ false) × (stops_bare ways (line ∷ (more ++ rest)) ≡ false)
    none = (nothing-words ways (line ∷ (more ++ rest))).0 h

    form : (f : Form) → opens ways.only f (line ∷ (more ++ other)) ≡ false
    form Unified = none.0 Unified
    form Context = ap (λ v. admits ways.only Context && (is_stars line && v)) (sym (more-ranged rest other same more)) ∙ none.0 Context
    form Normal = ap (λ v. admits ways.only Normal && (normal.is_command line && v)) (sym (more-marked rest other same more)) ∙ none.0 Normal
    form Ed = ed-shut (admits ways.only Ed) (is_command line) (asks_dot ways.only line) (has_dot (more ++ rest)) (has_dot (more ++ other)) (λ q. dots-behind more rest other (dots q)) (none.0 Ed)

-- lines at which nothing stands stay so
pub quiet-alike : (ways : ReadOptions) (region rest other : List (List ℕ)) → LookAlike rest other → (list_any (asks_dot ways.only) region ≡ true → has_dot rest ≡ false → has_dot other ≡ false)
    → AreQuiet ways region rest → AreQuiet ways region other
quiet-alike ways [] rest other same dots h = tt
quiet-alike ways (line ∷ more) rest other same dots h = (
  quiet-line ways line more rest other same (λ q. dots (or_left (asks_dot ways.only line) (list_any (asks_dot ways.only) more) q)) h.0,
  quiet-alike ways more rest other same (λ q. dots (or_right (asks_dot ways.only line) (list_any (asks_dot ways.only) more) q)) h.1,
)
