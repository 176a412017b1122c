-- Lines that are a file patch alone are the same one in front of others that join it cleanly.
use Rattle.std.proofs.Common.{◌≡◌, ◌+◌, ℕ, Bool, true, false, not, ◌&&◌, ◌||◌, List, [], ◌∷◌, ◌++◌, map, length, Option, None, Some, refl, sym, ap, subst, ◌∙◌, arith, append_assoc}
use Rattle.std.specs.Prelude.{codes}
use Rattle.std.specs.List.{list_any}
use Rattle.std.proofs.lemmas.List.{append-nil}
use Rattle.std.proofs.lemmas.List.Concat.{flat_map-cons}
use Rattle.std.proofs.lemmas.List.Folds.{list_any-append}
use Rattle.hunk_core.specs.declared.Form.{Form}
use Rattle.hunk_core.specs.declared.Form.TheVariants.{Unified, Context, Normal, Ed}
use Rattle.unified_form.specs.Hunks as unified_hunks
use Rattle.unified_form.specs.Grammar as unified
use Rattle.context_form.specs.Openings as context_hunks
use Rattle.context_form.specs.Grammar as context
use Rattle.normal_form.specs.Hunks as normal_hunks
use Rattle.normal_form.specs.Commands as normal_commands
use Rattle.normal_form.specs.Grammar as normal
use Rattle.ed_form.specs.Commands as ed_commands
use Rattle.ed_form.specs.Grammar as ed
use Rattle.ed_form.specs.Scripts.{begins_substitution}
use Rattle.patch_header.specs.Content.{is_dot, has_dot}
use Rattle.patch_header.specs.GitHeaders.{is_git_line, is_extended, extended_run, behind_run, git_header, asks_alone, has_names, leads, begins_bare}
use Rattle.patch_header.specs.Openings.{admits, begins, begins_binary, asks_dot, tells_binary, stops_bare, stop_at}
use Rattle.patch_header.specs.Steps.{region_of}
use Rattle.patch_header.specs.declared.openings.Stop.{Stop}
use Rattle.patch_header.specs.declared.openings.Stop.TheVariants.{Opening, Binary, Bare}
use Rattle.patch_header.specs.declared.read_options.ReadOptions.{ReadOptions}
use Rattle.patch_header.proofs.Stands.{and_left, and_right, opening-words, bare-words, stop-end, stops-begins, stops-by}
use Rattle.patch_header.proofs.ScanLemmas.{run-more, behind-more, run-stops, run-none, behind-none}
use Rattle.read_file_patch.specs.PlainPatch.{PlainHeader, PlainChange, PlainPatch, hunks, script}
use Rattle.read_patch_text.specs.Texts.{IsPiece}
use Rattle.patch_header.proofs.StepLemmas.{region-here, region-passed}
use Rattle.law_reading.specs.Said.{header_said, bare_header}
use Rattle.law_reading.specs.Following.{Spell, IsFilePatch, AreFilePatches}
use Rattle.law_reading.specs.Joins.{begin_with, begin_with_git, BeginCleanly, JoinCleanly, Part, all_lines, FitTogether}
use Rattle.law_reading.proofs.Quiet.{LookAlike, quiet-alike}
use Rattle.law_reading.proofs.Solid.{IsSolid, form-front, front-solid, git-solid, git-unranged, solid-shows, solid-alike}
use Rattle.law_reading.proofs.Spelling.{backslash-none, context-hunks, edits-joined}

-- ---- the change

back : (xs ys : List (List ℕ)) → xs ++ [] ≡ ys ++ [] → ys ≡ xs
back xs ys e = sym (append-nil ys) ∙ sym e ∙ append-nil xs

counted : (n : ℕ) → n ≡ 0 + n
counted n = omega arith

no-substitution : (ls : List (List ℕ)) → begin_with (codes "s/") ls ≡ false → begins_substitution ls ≡ false
no-substitution [] h = refl
no-substitution (line ∷ rest) h = h

module _ (body others : List (List ℕ)) (clean : BeginCleanly others) where
  change-joined : (form : Form) (change : PlainChange) → IsPiece form 0 (body ++ []) change (length body) [] → IsPiece form 0 (body ++ others) change (length body) others
  change-joined Unified (hunks hs) p = record { own = body; parts = refl; spelled = subst (λ ls. unified.SpellsHunks 0 ls hs) (back body p.own p.parts) p.spelled; ends = (clean.unified, backslash-none others clean.backslash); counted = counted (length body) }
  change-joined Context (hunks hs) p = record { own = body; parts = refl; spelled = context-hunks [] others clean 0 body hs (subst (λ ls. context.SpellsHunks 0 ls [] hs) (back body p.own p.parts) p.spelled); ends = (clean.context, backslash-none others clean.backslash); counted = counted (length body) }
  change-joined Normal (hunks hs) p = record { own = body; parts = refl; spelled = subst (λ ls. normal.SpellsHunks 0 ls hs) (back body p.own p.parts) p.spelled; ends = (clean.normal, backslash-none others clean.backslash); counted = counted (length body) }
  change-joined Ed (script es) p = record { own = body; parts = refl; spelled = edits-joined [] others clean _ body es (subst (λ ls. ed.SpellsEdits _ ls es []) (back body p.own p.parts) p.spelled); ends = (clean.command, no-substitution others clean.substitution); counted = counted (length body) }
  change-joined Unified (script es) p = absurd p
  change-joined Context (script es) p = absurd p
  change-joined Normal (script es) p = absurd p
  change-joined Ed (hunks hs) p = absurd p

-- ---- what stands at the first line

-- an opening isn't one at which its hunks would end
ends-not : (only : Option Form) (form : Form) (others : List (List ℕ)) (change : PlainChange) (n m : ℕ) (all : List (List ℕ)) → begins only form others ≡ true → IsPiece form n all change m others → ⊥
ends-not only Unified others (hunks hs) n m all h p = let e : unified_hunks.begins_hunk others ≡ false = p.ends.0 in absurd cc
ends-not only Context others (hunks hs) n m all h p = let e : context_hunks.begins_hunk others ≡ false = p.ends.0 in absurd cc
ends-not only Normal others (hunks hs) n m all h p = let e : normal_hunks.begins_hunk others ≡ false = p.ends.0 in absurd cc
ends-not only Ed [] (script es) n m all h p = absurd cc
ends-not only Ed (line ∷ others) (script es) n m all h p = let e : ed_commands.is_command line ≡ false = p.ends.0 in let k : ed_commands.is_command line ≡ true = and_left _ _ h in absurd cc
ends-not only Unified others (script es) n m all h p = p
ends-not only Context others (script es) n m all h p = p
ends-not only Normal others (script es) n m all h p = p
ends-not only Ed others (hunks hs) n m all h p = p

pub no-header : (others : List (List ℕ)) → [] ≡ git_header others → others ≡ []
no-header [] h = refl
no-header (line ∷ others) h = absurd cc

bare-git : (line : List ℕ) (more : List (List ℕ)) → begins_bare (line ∷ more) ≡ true → is_git_line line ≡ true
unfolding begins_bare
bare-git line more h = and_left _ _ h

-- what stands has a line
pub body-some : (ways : ReadOptions) (body others : List (List ℕ)) (stop : Stop) (change : PlainChange) → stop_at ways (body ++ others) ≡ Some stop → Spell stop body others change → (line : List ℕ) × (more : List (List ℕ)) × (body ≡ line ∷ more)
body-some ways [] others (Opening form) change h s = absurd (ends-not ways.only form others change 0 0 others (and_right (admits ways.only form) _ ((opening-words ways form others).0 h)) s)
body-some ways [] others Bare change h s =
    let none : stop_at ways others ≡ None = ap (stop_at ways) (no-header others s.0) ∙ stop-end ways in
    absurd cc
body-some ways [] others Binary change h s = absurd s
body-some ways (line ∷ more) others stop change h s = (line, more, refl)

not-binary : (stop : Stop) (body others : List (List ℕ)) (change : PlainChange) → Spell stop body others change → stop ≡ Binary → ⊥
not-binary (Opening form) body others change s e = absurd cc
not-binary Bare body others change s e = absurd cc
not-binary Binary body others change s e = s

-- its first line is no line of names, nor an extended one
stop-solid : (ways : ReadOptions) (line : List ℕ) (more : List (List ℕ)) (stop : Stop) → stop_at ways (line ∷ more) ≡ Some stop → (stop ≡ Binary → ⊥) → IsSolid line
stop-solid ways line more (Opening form) h other = front-solid line (form-front ways.only form line more (and_right (admits ways.only form) _ ((opening-words ways form (line ∷ more)).0 h)))
stop-solid ways line more Bare h other = git-solid line (bare-git line more (stops-begins ways (line ∷ more) ((bare-words ways (line ∷ more)).0 h)))
stop-solid ways line more Binary h other = absurd (other refl)

-- ---- an opening in front of others

and-then : (a b c : Bool) → (b ≡ true → c ≡ true) → (a && b) ≡ true → (a && c) ≡ true
and-then true b c k h = k h
and-then false b c k h = absurd cc

old-joined : (more others : List (List ℕ)) → context_hunks.begins_old (more ++ []) ≡ true → context_hunks.begins_old (more ++ others) ≡ true
old-joined [] others h = absurd cc
old-joined (line ∷ more) others h = h

marked-joined : (more others : List (List ℕ)) → normal_hunks.begins_marked (more ++ []) ≡ true → normal_hunks.begins_marked (more ++ others) ≡ true
marked-joined [] others h = absurd cc
marked-joined (line ∷ more) others h = h

or-yes : (q d e : Bool) → (d ≡ true → e ≡ true) → (not q || d) ≡ true → (not q || e) ≡ true
or-yes false d e k h = refl
or-yes true d e k h = k h

dot-joined : (more others : List (List ℕ)) → has_dot (more ++ []) ≡ true → has_dot (more ++ others) ≡ true
dot-joined more others h =
    let own : has_dot more ≡ true = ap has_dot (sym (append-nil more)) ∙ h in
    list_any-append is_dot more others ∙ ap (λ v. v || has_dot others) own

opens-joined : (only : Option Form) (form : Form) (body others : List (List ℕ)) → begins only form (body ++ []) ≡ true → begins only form (body ++ others) ≡ true
opens-joined only Unified [] others h = absurd cc
opens-joined only Context [] others h = absurd cc
opens-joined only Normal [] others h = absurd cc
opens-joined only Ed [] others h = absurd cc
opens-joined only Unified (line ∷ more) others h = h
opens-joined only Context (line ∷ more) others h = and-then (context_hunks.is_stars line) _ _ (old-joined more others) h
opens-joined only Normal (line ∷ more) others h = and-then (normal_commands.is_command line) _ _ (marked-joined more others) h
opens-joined only Ed (line ∷ more) others h = and-then (ed_commands.is_command line) _ _ (or-yes (asks_dot only line) _ _ (dot-joined more others)) h

-- ---- a bare git header in front of others

pub run-tail : (x : List ℕ) (a b : List (List ℕ)) → x ∷ a ≡ x ∷ b → a ≡ b
run-tail x a b e = cc

run-joined : (rest others : List (List ℕ)) → rest ≡ extended_run (rest ++ []) → extended_run others ≡ [] → behind_run others ≡ others → (extended_run (rest ++ others) ≡ rest) × (behind_run (rest ++ others) ≡ others)
run-joined [] others e run behind = (run, behind)
run-joined (x ∷ rest) others e run behind = by (is_extended x) refl (λ k. run-joined rest others k run behind)
  where
    by : (v : Bool) → is_extended x ≡ v → (rest ≡ extended_run (rest ++ []) → (extended_run (rest ++ others) ≡ rest) × (behind_run (rest ++ others) ≡ others)) → (extended_run (x ∷ (rest ++ others)) ≡ x ∷ rest) × (behind_run (x ∷ (rest ++ others)) ≡ others)
    by true k again =
        let more = again (run-tail x rest (extended_run (rest ++ [])) (e ∙ run-more x (rest ++ []) k)) in
        (run-more x (rest ++ others) k ∙ ap (λ ls. x ∷ ls) more.0, behind-more x (rest ++ others) k ∙ more.1)
    by false k again = absurd (let none : x ∷ rest ≡ [] = e ∙ run-stops x (rest ++ []) k in cc)

record ShowsGit (others : List (List ℕ)) : Type 0 where
  run : extended_run others ≡ []
  behind : behind_run others ≡ others
  leads_none : (run : List (List ℕ)) → leads run others ≡ false
  text : begins_binary others ≡ false

git-shows : (others : List (List ℕ)) → begin_with_git others ≡ true → ShowsGit others
git-shows [] h = record { run = run-none; behind = behind-none; leads_none = λ run. refl; text = refl }
git-shows (line ∷ more) h =
    let s = solid-shows line more (git-solid line h) in
    record { run = s.run; behind = s.behind; leads_none = λ run. ap (λ v. v || has_names run (line ∷ more)) (git-unranged line h) ∙ s.names run; text = s.text }

bare-by : (line : List ℕ) (rest others : List (List ℕ)) → (extended_run (rest ++ others) ≡ extended_run (rest ++ [])) → leads (extended_run (rest ++ others)) (behind_run (rest ++ others)) ≡ false → begins_bare (line ∷ (rest ++ [])) ≡ true
    → begins_bare (line ∷ (rest ++ others)) ≡ true
unfolding begins_bare
bare-by line rest others run names h =
    let git : is_git_line line ≡ true = and_left _ _ h in
    let asks : asks_alone (extended_run (rest ++ [])) ≡ true = and_right (not (leads (extended_run (rest ++ [])) (behind_run (rest ++ [])))) _ (and_right (is_git_line line) _ h) in
    ap (λ v. v && (not (leads (extended_run (rest ++ others)) (behind_run (rest ++ others))) && asks_alone (extended_run (rest ++ others)))) git
    ∙ ap (λ v. not v && asks_alone (extended_run (rest ++ others))) names
    ∙ ap asks_alone run
    ∙ asks

no-bare : begins_bare [] ≡ true → ⊥
unfolding begins_bare
no-bare k = absurd cc

bare-joined : (body others : List (List ℕ)) → body ≡ git_header (body ++ []) → begin_with_git others ≡ true → begins_bare (body ++ []) ≡ true → (begins_bare (body ++ others) ≡ true) × (body ≡ git_header (body ++ others)) × (tells_binary (body ++ others) ≡ false)
bare-joined [] others e git h = absurd (no-bare h)
bare-joined (line ∷ rest) others e git h =
    let s = git-shows others git in
    let alone : rest ≡ extended_run (rest ++ []) = run-tail line rest (extended_run (rest ++ [])) e in
    let more = run-joined rest others alone s.run s.behind in
    (bare-by line rest others (more.0 ∙ alone) (ap (leads (extended_run (rest ++ others))) more.1 ∙ s.leads_none (extended_run (rest ++ others))) h, ap (λ ls. line ∷ ls) (sym more.0), ap begins_binary more.1 ∙ s.text)

-- ---- both

module _ (ways : ReadOptions) (body others : List (List ℕ)) (change : PlainChange) (clean : BeginCleanly others) where
  stop-joined : (stop : Stop) → Spell stop body [] change → (stop ≡ Bare → begin_with_git others ≡ true) → stop_at ways (body ++ []) ≡ Some stop → stop_at ways (body ++ others) ≡ Some stop
  stop-joined (Opening form) s git h = (opening-words ways form (body ++ others)).1 (and-then (admits ways.only form) _ _ (opens-joined ways.only form body others) ((opening-words ways form (body ++ [])).0 h))
  stop-joined Bare s git h =
      let stops : stops_bare ways (body ++ []) ≡ true = (bare-words ways (body ++ [])).0 h in
      let joined = bare-joined body others s.0 (git refl) (stops-begins ways (body ++ []) stops) in
      (bare-words ways (body ++ others)).1 (stops-by ways (body ++ others) (and_left ways.git _ stops) joined.0 joined.2)
  stop-joined Binary s git h = absurd s

  spell-joined : (stop : Stop) → Spell stop body [] change → (stop ≡ Bare → begin_with_git others ≡ true) → stop_at ways (body ++ []) ≡ Some stop → Spell stop body others change
  spell-joined (Opening form) s git h = change-joined body others clean form change s
  spell-joined Bare s git h = ((bare-joined body others s.0 (git refl) (stops-begins ways (body ++ []) ((bare-words ways (body ++ [])).0 h))).1, s.1)
  spell-joined Binary s git h = absurd s

-- ---- a file patch
-- the lines in front of the opening are those in front of the first that stands
pub region-is : (ways : ReadOptions) (own others : List (List ℕ)) (p : PlainPatch) (x : IsFilePatch ways own others p) → region_of ways (own ++ others) ≡ x.region
region-is ways own others p x =
    ap (λ ls. region_of ways (ls ++ others)) x.parts
    ∙ ap (region_of ways) (append_assoc x.region x.body others)
    ∙ region-passed ways x.region (x.body ++ others) x.quiet
    ∙ ap (λ ls. x.region ++ ls) (region-here ways (x.body ++ others) x.stop x.stands)
    ∙ append-nil x.region

bare-is : (ways : ReadOptions) (region body : List (List ℕ)) (stop : Stop) (h : PlainHeader) → header_said ways region body stop ≡ Some h → stop ≡ Bare → h.bare ≡ true
bare-is ways region body (Opening form) h e b = absurd cc
bare-is ways region [] Bare h e b = absurd cc
bare-is ways region (line ∷ more) Bare h e b = let same : bare_header region line more ≡ h = cc in sym (ap (λ (x : PlainHeader). x.bare) same)
bare-is ways region body Binary h e b = absurd cc

body-alike : (ways : ReadOptions) (body others : List (List ℕ)) (stop : Stop) (change : PlainChange) → stop_at ways (body ++ []) ≡ Some stop → Spell stop body [] change → LookAlike (body ++ []) (body ++ others)
body-alike ways [] others stop change h s = let some = body-some ways [] [] stop change h s in absurd (let e : [] ≡ some.0 ∷ some.1 = some.2 in cc)
body-alike ways (line ∷ more) others stop change h s =
    let solid : IsSolid line = stop-solid ways line (more ++ []) stop h (not-binary stop (line ∷ more) [] change s) in
    solid-alike (line ∷ (more ++ [])) (line ∷ (more ++ others)) refl refl refl (solid-shows line (more ++ []) solid) (solid-shows line (more ++ others) solid)

dots-joined : (body others : List (List ℕ)) → has_dot others ≡ false → has_dot (body ++ []) ≡ false → has_dot (body ++ others) ≡ false
dots-joined body others k h =
    let own : has_dot body ≡ false = ap has_dot (sym (append-nil body)) ∙ h in
    list_any-append is_dot body others ∙ ap (λ v. v || has_dot others) own ∙ k

pub patch-joined : (ways : ReadOptions) (own others : List (List ℕ)) (p : PlainPatch) → IsFilePatch ways own [] p → JoinCleanly ways own others p → IsFilePatch ways own others p
patch-joined ways own others p x j =
    let git : x.stop ≡ Bare → begin_with_git others ≡ true = λ b. j.git (bare-is ways x.region x.body x.stop p.header x.says b) in
    let region : region_of ways own ≡ x.region = ap (region_of ways) (sym (append-nil own)) ∙ region-is ways own [] p x in
    let dots : list_any (asks_dot ways.only) x.region ≡ true → has_dot others ≡ false = λ k. j.dots (ap (list_any (asks_dot ways.only)) region ∙ k) in
    record {
      region = x.region;
      body = x.body;
      stop = x.stop;
      parts = x.parts;
      quiet = quiet-alike ways x.region (x.body ++ []) (x.body ++ others) (body-alike ways x.body others x.stop p.change x.stands x.spelled) (λ k. dots-joined x.body others (dots k)) x.quiet;
      stands = stop-joined ways x.body others p.change j.begins x.stop x.spelled git x.stands;
      says = x.says;
      spelled = spell-joined ways x.body others p.change j.begins x.stop x.spelled git x.stands;
    }

-- ---- all of them

pub parts-fit : (ways : ReadOptions) (parts : List Part) → FitTogether ways parts → AreFilePatches ways (all_lines parts) (map (λ (p : Part). p.patch) parts)
parts-fit ways [] h = tt
parts-fit ways (p ∷ ps) h = (p.own, all_lines ps, flat_map-cons (λ (x : Part). x.own) p ps, patch-joined ways p.own (all_lines ps) p.patch h.0 h.1, parts-fit ways ps h.2)
