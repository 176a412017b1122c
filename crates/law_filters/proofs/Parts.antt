-- A file patch of a set that is left is one alone.
use Rattle.std.proofs.Common.{◌≡◌, inl, inr, ◌+◌, ◌<◌, ◌≤◌, ℕ, Bool, true, false, cond, not, ◌&&◌, ◌||◌, List, [], ◌∷◌, ◌++◌, map, length, drop, slice_range, Option, None, Some, refl, sym, ap, subst, ◌∙◌, arith, append_assoc}
use Rattle.std.specs.Prelude.{is_some, sum_by}
use Rattle.std.specs.List.{AllByRecursion, list_any}
use Rattle.std.proofs.lemmas.List.{append-nil}
use Rattle.std.proofs.lemmas.List.Concat.{flat_map-append}
use Rattle.line_list.specs.Lines.{lines, IsLine}
use Rattle.line_list.proofs.Pieces.{joined, lines-joined}
use Rattle.line_list.proofs.WholeLines.{lines-both}
use Rattle.hunk_core.specs.declared.Form.{Form}
use Rattle.hunk_core.specs.declared.Form.TheVariants.{Ed}
use Rattle.hunk_core.specs.PlainHunk.{bytes_at}
use Rattle.hunk_core.proofs.PieceLemmas.{piece-lines}
use Rattle.ed_form.specs.declared.command.Command.{Command}
use Rattle.ed_form.specs.Commands.{parts_at, is_command}
use Rattle.patch_header.specs.Content.{has_dot}
use Rattle.patch_header.specs.GitHeaders.{is_git_line, is_extended, extended_run, behind_run, git_header, asks_alone, leads, begins_bare}
use Rattle.patch_header.specs.Openings.{admits, takes_text, asks_dot, begins, begins_binary, opens, stop_at}
use Rattle.patch_header.specs.Region.{rows}
use Rattle.patch_header.specs.Steps.{AreQuiet, IsFirstOpening, region_of}
use Rattle.read_header_record.specs.declared.Header.{Header}
use Rattle.patch_header.specs.declared.openings.Stop.TheVariants.{Opening, Bare}
use Rattle.patch_header.specs.declared.read_options.ReadOptions.{ReadOptions}
use Rattle.patch_header.proofs.Stands.{and_left, and_right, opening-words, bare-words, nothing-words, stop-end, stops-begins, stops-by}
use Rattle.patch_header.proofs.GitWords.{all-words}
use Rattle.patch_header.proofs.ScanLemmas.{run-more, run-stops, run-none}
use Rattle.read_file_patch.specs.PlainPatch.{PlainChange, PlainPatch, hunks, header_of}
use Rattle.read_patch_text.specs.Regions.{region_up_to, hunk_ends, piece_ends}
use Rattle.read_patch_text.specs.Spelled.{cut_at}
use Rattle.read_patch_text.specs.Texts.{IsPiece, IsBare, GoesUpTo}
use Rattle.read_patch_text.proofs.ChangeLemmas.{opens-change}
use Rattle.patch_set.proofs.InBytes.{cut-bytes}
use Rattle.cli_tool_words.specs.PlainJobs.{PlainFilterJob}
use Rattle.patch_filters.specs.Filtered.{chosen, asks_no_hunk}
use Rattle.filter_choice.specs.Kept.{kept}
use Rattle.law_reading.specs.Unnumbered.{unnumbered_header, unnumbered}
use Rattle.law_reading.specs.Said.{header_said}
use Rattle.law_reading.specs.Following.{IsFilePatch}
use Rattle.law_reading.proofs.Headers.{said-alone}
use Rattle.law_reading.proofs.Places.{skip-lines}
use Rattle.law_reading.proofs.Quiet.{LookAlike, quiet-alike}
use Rattle.law_reading.proofs.Solid.{git-solid, solid-shows, solid-alike}
use Rattle.law_reading.proofs.Joining.{region-is}
use Rattle.law_reading.proofs.Standing.{behind_header, header-split}
use Rattle.law_filters.specs.LeftPatches.{those, kept_change, spot_left}
use Rattle.law_filters.proofs.Alike.{form-alike}
use Rattle.law_filters.proofs.Cutting.{owns_of, flat, pieces-have, chosen-lines, dots-both, dots-join, all-both}
use Rattle.law_filters.proofs.Pieces.{kept-piece}
use Rattle.law_filters.proofs.Laying.{Laid, laid}
use Rattle.filter_whole_text.specs.Texts.{Spot}
use Rattle.cli_filter.specs.Texts.{spot_written, spot_hunks, spot_bare}
use Rattle.law_reading.proofs.Reading.{stands-so}

-- ---- what a file patch that is left is alone

pub record LeftPart (ways : ReadOptions) (text : List ℕ) (start end : ℕ) (written : List ℕ) (patch : PlainPatch) : Type 0 where
  pub own : List (List ℕ)
  pub are_lines : AllByRecursion IsLine own
  pub bytes : joined own ≡ written
  pub is : IsFilePatch ways own [] (unnumbered patch)
  pub dots : has_dot (lines (drop start text)) ≡ false → has_dot own ≡ false
  pub asks : list_any (asks_dot ways.only) (region_of ways own) ≡ true → has_dot (lines (drop end text)) ≡ false

-- what is known of a file patch, left or not
pub record Known (ways : ReadOptions) (text : List ℕ) (start end : ℕ) (left : Bool) (written : List ℕ) (patch : PlainPatch) : Type 0 where
  pub high : end ≤ length text
  pub are_lines : AllByRecursion IsLine (lines (drop end text))
  pub dots : has_dot (lines (drop start text)) ≡ false → has_dot (lines (drop end text)) ≡ false
  pub part : left ≡ true → LeftPart ways text start end written patch

-- ---- a git header alone

run-all : (ls : List (List ℕ)) → AllByRecursion (λ l. is_extended l ≡ true) (extended_run ls)
run-all [] = subst (AllByRecursion (λ l. is_extended l ≡ true)) (sym run-none) tt
run-all (line ∷ more) = by (is_extended line) refl (run-all more)
  where
    by : (v : Bool) → is_extended line ≡ v → AllByRecursion (λ l. is_extended l ≡ true) (extended_run more) → AllByRecursion (λ l. is_extended l ≡ true) (extended_run (line ∷ more))
    by true e h = subst (AllByRecursion (λ l. is_extended l ≡ true)) (sym (run-more line more e)) (e, h)
    by false e h = subst (AllByRecursion (λ l. is_extended l ≡ true)) (sym (run-stops line more e)) tt

run-again : (ls : List (List ℕ)) → (extended_run (extended_run ls ++ []) ≡ extended_run ls) × (behind_run (extended_run ls ++ []) ≡ [])
run-again ls = by (extended_run ls) (run-all ls)
  where
    by : (xs : List (List ℕ)) → AllByRecursion (λ l. is_extended l ≡ true) xs → (extended_run (xs ++ []) ≡ xs) × (behind_run (xs ++ []) ≡ [])
    by xs h = let two = all-words xs h in (ap extended_run (append-nil xs) ∙ two.0, ap behind_run (append-nil xs) ∙ two.1)

bare-alone : (line : List ℕ) (more : List (List ℕ)) → begins_bare (line ∷ more) ≡ true → (is_git_line line ≡ true) × (begins_bare (line ∷ (extended_run more ++ [])) ≡ true)
unfolding begins_bare
bare-alone line more h =
    let git : is_git_line line ≡ true = and_left _ _ h in
    let asks : asks_alone (extended_run more) ≡ true = and_right (not (leads (extended_run more) (behind_run more))) _ (and_right (is_git_line line) _ h) in
    let run = run-again more in (
      git,
      ap (λ v. v && (not (leads (extended_run (extended_run more ++ [])) (behind_run (extended_run more ++ []))) && asks_alone (extended_run (extended_run more ++ [])))) git
          ∙ ap (λ ls. not (leads (extended_run (extended_run more ++ [])) ls) && asks_alone (extended_run (extended_run more ++ []))) run.1
          ∙ ap asks_alone run.0
          ∙ asks,
    )

bare-again : (ways : ReadOptions) (rest : List (List ℕ)) → stop_at ways rest ≡ Some Bare → LookAlike rest (git_header rest ++ []) × (stop_at ways (git_header rest ++ []) ≡ Some Bare) × (git_header rest ≡ git_header (git_header rest ++ []))
bare-again ways [] h = absurd (let none : stop_at ways [] ≡ None = stop-end ways in cc)
bare-again ways (line ∷ more) h =
    let git = (bare-words ways (line ∷ more)).0 h in
    let two = bare-alone line more (stops-begins ways (line ∷ more) git) in
    let solid = git-solid line two.0 in (
      solid-alike (line ∷ more) (line ∷ (extended_run more ++ [])) refl refl refl (solid-shows line more solid) (solid-shows line (extended_run more ++ []) solid),
      (bare-words ways (line ∷ (extended_run more ++ []))).1 (stops-by ways (line ∷ (extended_run more ++ [])) (and_left ways.git _ git) two.1 (ap begins_binary (run-again more).1)),
      ap (λ ls. line ∷ ls) (sym (run-again more).0),
    )

-- ---- dots

some-text : (o : Option Command) → takes_text o ≡ true → is_some o ≡ true
some-text None h = absurd cc
some-text (Some c) h = refl

shut-dots : (c q d : Bool) → c ≡ true → q ≡ true → (c && (not q || d)) ≡ false → d ≡ false
shut-dots true true d a b h = h
shut-dots true false d a b h = absurd cc
shut-dots false q d a b h = absurd cc

dots-by : (only : Option Form) (line : List ℕ) (d : Bool) → asks_dot only line ≡ true → (admits only Ed && (is_command line && (not (asks_dot only line) || d))) ≡ false → d ≡ false
dots-by None line d e h = shut-dots (is_command line) (takes_text (parts_at line)) d (some-text (parts_at line) e) e h
dots-by (Some only) line d e h = absurd cc

-- a line that would open a script before a line '.' has none behind it
asked-dots : (ways : ReadOptions) (region rest : List (List ℕ)) → AreQuiet ways region rest → list_any (asks_dot ways.only) region ≡ true → has_dot rest ≡ false
asked-dots ways [] rest h k = absurd cc
asked-dots ways (line ∷ more) rest h k = by (asks_dot ways.only line) refl k (asked-dots ways more rest h.1)
  where
    by : (v : Bool) → asks_dot ways.only line ≡ v → (v || list_any (asks_dot ways.only) more) ≡ true → (list_any (asks_dot ways.only) more ≡ true → has_dot rest ≡ false) → has_dot rest ≡ false
    by true e q again =
        let shut : opens ways.only Ed (line ∷ (more ++ rest)) ≡ false = ((nothing-words ways (line ∷ (more ++ rest))).0 h.0).0 Ed in
        (dots-both more rest (dots-by ways.only line (has_dot (more ++ rest)) e shut)).1
    by false e q again = again q

module _ (j : PlainFilterJob) (ways : ReadOptions) (text : List ℕ) (start number : ℕ) (h : Header) (change : PlainChange) (end next : ℕ) (opens_there : IsFirstOpening ways text start number h) (goes : GoesUpTo text h change end next) (some : h.at < end) (top : end ≤ length text) (all : AllByRecursion IsLine (lines (drop start text))) where
  abbrev patch : PlainPatch
  patch = record { header = header_of text h; change = kept_change j change }

  abbrev spot : Spot
  spot = (region_up_to text start h end, record { header = header_of text h; change = change })

  abbrev rest : List (List ℕ)
  rest = lines (drop h.at text)

  abbrev region : List (List ℕ)
  region = opens_there.region

  -- ---- hunks, or a script

  before_it : opens_there.place ≡ h.at → lines (drop start text) ≡ region ++ rest
  before_it place = opens_there.is_region.parts ∙ ap (λ k. region ++ lines (drop k text)) place

  quiet : opens_there.place ≡ h.at → AreQuiet ways region rest
  quiet place = subst (λ k. AreQuiet ways region (lines (drop k text))) place opens_there.is_region.quiet

  low : h.at ≤ length text
  low = omega (arith, some, top)

  both : opens_there.place ≡ h.at → AllByRecursion IsLine region × AllByRecursion IsLine rest
  both place = all-both region rest (subst (AllByRecursion IsLine) (before_it place) all)

  module _ (stop : opens_there.stop ≡ Opening h.form) (place : opens_there.place ≡ h.at) (bare : h.bare ≡ false) where
    stands : stop_at ways rest ≡ Some (Opening h.form)
    stands = ap (λ k. stop_at ways (lines (drop k text))) (sym place) ∙ opens_there.stands ∙ ap (λ s. Some s) stop

    opening : opens ways.only h.form rest ≡ true
    opening = (opening-words ways h.form rest).0 stands

    begins_there : begins ways.only h.form rest ≡ true
    begins_there = and_right (admits ways.only h.form) _ opening

    piece : IsPiece h.form h.opening rest change next (lines (drop end text))
    piece = goes.spelled bare

    lay : Laid text h.form h.at end change
    lay = laid text h.at end some top h.form h.opening change next piece

    body : List (List ℕ)
    body = flat (those (kept j change) (owns_of text lay.ss))

    lines-have : AllByRecursion IsLine body × AllByRecursion IsLine (lines (drop end text))
    unfolding body
    lines-have = pieces-have text (AllByRecursion IsLine) all-both tt lines-both h.at lay.ss end (kept j change) lay.turn lay.whole (both place).1

    dots-have : has_dot rest ≡ false → (has_dot body ≡ false) × (has_dot (lines (drop end text)) ≡ false)
    unfolding body
    dots-have q = pieces-have text (λ ls. has_dot ls ≡ false) dots-both refl dots-join h.at lay.ss end (kept j change) lay.turn lay.whole q

    region_bytes : slice_range text start h.at ≡ joined region
    region_bytes =
        let far : start + sum_by length region ≡ h.at = sym opens_there.is_region.ends ∙ place in
        let inside : lines (slice_range text start h.at) ≡ region = piece-lines text start h.at region (omega (arith, far)) low (before_it place) in
        sym (lines-joined (slice_range text start h.at)) ∙ ap joined inside

    said : header_said ways region body (Opening h.form) ≡ Some (unnumbered_header (header_of text h))
    said =
        let there = lines (drop opens_there.place text) in
        ap (header_said ways region there) (sym stop)
        ∙ said-alone ways text start number opens_there.place (number + length region) region there there [] opens_there.stop h opens_there.is_region.parts (sym (append-nil there)) (λ b. absurd (other (sym stop ∙ b))) (ap (stop_at ways) (append-nil there) ∙ opens_there.stands) opens_there.says
      where
        other : Opening h.form ≡ Bare → ⊥
        other e = cc

    cut-is : cut_at text h.at (hunk_ends text h end) ≡ map (bytes_at text) lay.ss
    cut-is =
        ap (cut_at text h.at) (ap (λ b. cond b [] (piece_ends h.form h.at (lines (slice_range text h.at end)))) bare ∙ sym lay.ends)
        ∙ sym (cut-bytes text h lay.ss end (record { turn = λ b. lay.turn; none = λ b. absurd (not_both h.bare bare b) }))
      where
        not_both : (v : Bool) → v ≡ false → v ≡ true → ⊥
        not_both v a b = cc

    written-is : list_any (λ is. is) (kept j change) ≡ true → joined (region ++ body) ≡ spot_written j text spot
    unfolding body
    written-is any =
        flat_map-append (λ (line : List ℕ). line) region body
        ∙ ap (λ bs. bs ++ joined body) (sym region_bytes)
        ∙ ap (λ bs. slice_range text start h.at ++ bs) (sym (chosen-lines text (kept j change) lay.ss))
        ∙ ap (λ ps. slice_range text start h.at ++ chosen (kept j change) ps) (sym cut-is)
        ∙ sym (ap (λ v. cond v (slice_range text start h.at ++ chosen (kept j change) (cut_at text h.at (hunk_ends text h end))) []) any)
        ∙ sym (ap (λ v. cond v (spot_bare j text spot) (spot_hunks j text spot)) bare)

    hunks-part : list_any (λ is. is) (kept j change) ≡ true → LeftPart ways text start end (spot_written j text spot) patch
    unfolding body
    hunks-part any =
        let k = kept-piece j ways.only text lay.ss h.opening rest next (lines (drop end text)) h.form change (opens-change ways.only h.form rest begins_there) piece lay.pieces any in
        let opened : opens ways.only h.form (body ++ []) ≡ true = ap (λ v. v && begins ways.only h.form (body ++ [])) (and_left (admits ways.only h.form) _ opening) ∙ k.begins_there in
        let quiet_there : AreQuiet ways region (body ++ []) =
        quiet-alike ways region rest (body ++ []) (form-alike ways.only h.form rest (body ++ []) begins_there k.begins_there) (λ q d. ap has_dot (append-nil body) ∙ (dots-have d).0) (quiet place) in
        let alone : IsFilePatch ways (region ++ body) [] (unnumbered patch) = record {
          region = region;
          body = body;
          stop = Opening h.form;
          parts = refl;
          quiet = quiet_there;
          stands = (opening-words ways h.form (body ++ [])).1 opened;
          says = said;
          spelled = k.piece;
        } in
        record {
          own = region ++ body;
          are_lines = lines-both region body (both place).0 lines-have.0;
          bytes = written-is any;
          is = alone;
          dots = λ q. let two = dots-both region rest (ap has_dot (sym (before_it place)) ∙ q) in dots-join region body two.0 (dots-have two.1).0;
          asks = λ q. (dots-have (asked-dots ways region rest (quiet place) (ap (list_any (asks_dot ways.only)) (sym (ap (region_of ways) (sym (append-nil (region ++ body))) ∙ region-is ways (region ++ body) [] (unnumbered patch) alone)) ∙ q))).1;
        }

    hunks-known : Known ways text start end (spot_left j spot) (spot_written j text spot) patch
    hunks-known = record {
      high = top;
      are_lines = lines-have.1;
      dots = λ q. (dots-have (dots-both region rest (ap has_dot (sym (before_it place)) ∙ q)).1).1;
      part = λ k. hunks-part (sym (ap (λ v. cond v (asks_no_hunk j) (list_any (λ is. is) (kept j change))) bare) ∙ k);
    }

  -- ---- a bare git header

  module _ (stop : opens_there.stop ≡ Bare) (place : opens_there.place ≡ h.at) (bare : h.bare ≡ true) where
    git : List (List ℕ)
    git = git_header rest

    others : List (List ℕ)
    others = behind_header rest

    bare-stands : stop_at ways rest ≡ Some Bare
    bare-stands = ap (λ k. stop_at ways (lines (drop k text))) (sym place) ∙ opens_there.stands ∙ ap (λ s. Some s) stop

    bare-is : IsBare text h.at h.opening change end next
    bare-is = goes.bare bare

    bare-split : rest ≡ git ++ others
    unfolding git others
    bare-split = header-split rest

    bare-end : end ≡ h.at + sum_by length git
    unfolding git others
    bare-end = bare-is.ends

    bare-behind : lines (drop end text) ≡ others
    unfolding git others
    bare-behind = ap (λ k. lines (drop k text)) bare-end ∙ skip-lines text h.at git others bare-split

    bare-lines : AllByRecursion IsLine git × AllByRecursion IsLine others
    bare-lines = all-both git others (subst (AllByRecursion IsLine) bare-split (both place).1)

    bare-dots : has_dot rest ≡ false → (has_dot git ≡ false) × (has_dot others ≡ false)
    bare-dots q = dots-both git others (ap has_dot (sym bare-split) ∙ q)

    bare-part : asks_no_hunk j ≡ true → LeftPart ways text start end (spot_written j text spot) patch
    unfolding git others
    bare-part asks =
        let again = bare-again ways rest bare-stands in
        let quiet_there : AreQuiet ways region (git ++ []) = quiet-alike ways region rest (git ++ []) again.0 (λ q d. ap has_dot (append-nil git) ∙ (bare-dots d).0) (quiet place) in
        let none : kept_change j change ≡ hunks [] = ap (kept_change j) bare-is.none in
        let there : lines (drop opens_there.place text) ≡ git ++ others = ap (λ k. lines (drop k text)) place ∙ bare-split in
        let alone : IsFilePatch ways (region ++ git) [] (unnumbered patch) = record {
          region = region;
          body = git;
          stop = Bare;
          parts = refl;
          quiet = quiet_there;
          stands = again.1;
          says = ap (header_said ways region git) (sym stop)
              ∙ said-alone ways text start number opens_there.place (number + length region) region git (lines (drop opens_there.place text)) others opens_there.stop h opens_there.is_region.parts there (λ b. ap git_header bare-split) (ap (stop_at ways) (sym there) ∙ opens_there.stands) opens_there.says;
          spelled = (again.2, none);
        } in
        let far : start + sum_by length region ≡ h.at = sym opens_there.is_region.ends ∙ place in
        let inside : lines (slice_range text start end) ≡ region ++ git =
        piece-lines text start end (region ++ git) (omega (arith, far, some)) top (before_it place ∙ ap (λ ls. region ++ ls) (bare-split ∙ ap (λ ls. git ++ ls) (sym bare-behind)) ∙ sym (append_assoc region git (lines (drop end text)))) in
        record {
          own = region ++ git;
          are_lines = lines-both region git (both place).0 bare-lines.0;
          bytes = ap joined (sym inside) ∙ lines-joined (slice_range text start end)
              ∙ sym (ap (λ v. cond v (slice_range text start end) []) asks) ∙ sym (ap (λ v. cond v (spot_bare j text spot) (spot_hunks j text spot)) bare);
          is = alone;
          dots = λ q. let two = dots-both region rest (ap has_dot (sym (before_it place)) ∙ q) in dots-join region git two.0 (bare-dots two.1).0;
          asks = λ q. ap has_dot bare-behind ∙ (bare-dots (asked-dots ways region rest (quiet place) (ap (list_any (asks_dot ways.only)) (sym (ap (region_of ways) (sym (append-nil (region ++ git))) ∙ region-is ways (region ++ git) [] (unnumbered patch) alone)) ∙ q))).1;
        }

    bare-known : Known ways text start end (spot_left j spot) (spot_written j text spot) patch
    bare-known = record {
      high = top;
      are_lines = subst (AllByRecursion IsLine) (sym bare-behind) bare-lines.1;
      dots = λ q. ap has_dot bare-behind ∙ (bare-dots (dots-both region rest (ap has_dot (sym (before_it place)) ∙ q)).1).1;
      part = λ k. bare-part (sym (ap (λ v. cond v (asks_no_hunk j) (list_any (λ is. is) (kept j change))) bare) ∙ k);
    }

  pub known : Known ways text start end (spot_left j spot) (spot_written j text spot) patch
  known = elim (stands-so ways text opens_there.place (number + length region) (rows number start region) opens_there.stop h opens_there.says) [
    | inl q ↦ hunks-known q.0 q.1 q.2
    | inr q ↦ bare-known q.0 q.1 q.2
  ]
