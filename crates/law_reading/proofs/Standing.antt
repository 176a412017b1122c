-- A text has the file patches that stand in its lines.
use Rattle.std.proofs.Common.{◌≡◌, inl, inr, ◌+◌, ◌<◌, ◌≤◌, ℕ, List, [], ◌∷◌, ◌++◌, map, length, drop, Some, Ok, refl, sym, ap, subst, ◌∙◌, arith, append_assoc}
use Rattle.std.specs.Prelude.{sum_by}
use Rattle.std.proofs.lemmas.List.Sums.{sum_by-cons}
use Rattle.std.proofs.lemmas.Option.{same_Some}
use Rattle.line_list.specs.Lines.{lines, ArePieces}
use Rattle.line_list.proofs.Pieces.{lines-pieces}
use Rattle.hunk_core.specs.declared.Form.{Form}
use Rattle.hunk_core.specs.declared.Form.TheVariants.{Unified, Context, Normal, Ed}
use Rattle.hunk_core.specs.Reading.{◌>>=◌}
use Rattle.patch_header.specs.GitHeaders.{behind_run, git_header}
use Rattle.patch_header.specs.GitRows.{led_by}
use Rattle.patch_header.specs.Openings.{stop_at}
use Rattle.patch_header.specs.Region.{Row, rows}
use Rattle.patch_header.specs.Steps.{AreQuiet, IsRegion, IsEnd, header_with, bare_with, header_at, seen_for}
use Rattle.read_header_record.specs.declared.Header.{Header}
use Rattle.patch_header.specs.declared.openings.Stop.{Stop}
use Rattle.patch_header.specs.declared.openings.Stop.TheVariants.{Opening, Binary, Bare}
use Rattle.patch_header.specs.declared.read_options.ReadOptions.{ReadOptions}
use Rattle.patch_header.proofs.ScanLemmas.{run-split}
use Rattle.read_file_patch.specs.PlainPatch.{PlainHeader, PlainChange, PlainPatch, hunks, script, header_of}
use Rattle.read_patch_text.specs.Texts.{IsPiece, IsBare, GoesUpTo, StandsFirst, Stand, HasPatches}
use Rattle.read_patch_text.proofs.TextLaws.{text-again}
use Rattle.law_reading.specs.Unnumbered.{unnumbered_header, unnumbered}
use Rattle.law_reading.specs.Following.{Spell, IsFilePatch, AreFilePatches}
use Rattle.law_reading.specs.Joins.{Part, all_lines, FitTogether, read_unnumbered}
use Rattle.law_reading.proofs.Headers.{said-alone}
use Rattle.law_reading.proofs.Joining.{body-some, parts-fit}
use Rattle.law_reading.proofs.Places.{skip-lines, lines-within}

-- ---- a change, whatever its number

pub record Placed (form : Form) (n : ℕ) (all : List (List ℕ)) (change : PlainChange) (next : ℕ) (rest : List (List ℕ)) : Type 0 where
  pub own : List (List ℕ)
  pub parts : all ≡ own ++ rest
  pub counted : next ≡ n + length own
  pub anywhere : (k m : ℕ) → m ≡ k + length own → IsPiece form k (own ++ rest) change m rest

pub placed : (form : Form) (n : ℕ) (all : List (List ℕ)) (change : PlainChange) (next : ℕ) (rest : List (List ℕ)) → IsPiece form n all change next rest → Placed form n all change next rest
placed Unified n all (hunks hs) next rest p = record { own = p.own; parts = p.parts; counted = p.counted; anywhere = λ k m e. record { own = p.own; parts = refl; spelled = p.spelled; ends = p.ends; counted = e } }
placed Context n all (hunks hs) next rest p = record { own = p.own; parts = p.parts; counted = p.counted; anywhere = λ k m e. record { own = p.own; parts = refl; spelled = p.spelled; ends = p.ends; counted = e } }
placed Normal n all (hunks hs) next rest p = record { own = p.own; parts = p.parts; counted = p.counted; anywhere = λ k m e. record { own = p.own; parts = refl; spelled = p.spelled; ends = p.ends; counted = e } }
placed Ed n all (script es) next rest p = record { own = p.own; parts = p.parts; counted = p.counted; anywhere = λ k m e. record { own = p.own; parts = refl; spelled = p.spelled; ends = p.ends; counted = e } }
placed Unified n all (script es) next rest p = absurd p
placed Context n all (script es) next rest p = absurd p
placed Normal n all (script es) next rest p = absurd p
placed Ed n all (hunks hs) next rest p = absurd p

-- ---- from a text to its lines

unfoldable pub behind_header : List (List ℕ) → List (List ℕ)
behind_header [] = []
behind_header (line ∷ rest) = behind_run rest

pub header-split : (ls : List (List ℕ)) → ls ≡ git_header ls ++ behind_header ls
unfolding behind_header
header-split [] = refl
header-split (line ∷ rest) = ap (λ more. line ∷ more) (run-split rest)

record Behind (text : List ℕ) (place end : ℕ) (stop : Stop) (change : PlainChange) : Type 0 where
  body : List (List ℕ)
  ahead : lines (drop place text) ≡ body ++ lines (drop end text)
  spelled : Spell stop body (lines (drop end text)) change

behind-stop : (ways : ReadOptions) (text : List ℕ) (place number : ℕ) (rs : List Row) (stop : Stop) (h : Header) (change : PlainChange) (end next : ℕ) → header_at ways text place number rs stop ≡ Some h → GoesUpTo text h change end next → Behind text place end stop change
behind-stop ways text place number rs (Opening form) h change end next e g =
    let is : header_with text form place number (seen_for ways form text rs) (led_by ways form rs) ≡ h = same_Some _ h e in
    let goes : GoesUpTo text (header_with text form place number (seen_for ways form text rs) (led_by ways form rs)) change end next = subst (λ (x : Header). GoesUpTo text x change end next) (sym is) g in
    let p = placed form number (lines (drop place text)) change next (lines (drop end text)) (goes.spelled refl) in
    record { body = p.own; ahead = p.parts; spelled = p.anywhere 0 (length p.own) (omega arith) }
behind-stop ways text place number rs Bare h change end next e g =
    let is : bare_with text place number rs ≡ h = same_Some _ h e in
    let goes : GoesUpTo text (bare_with text place number rs) change end next = subst (λ (x : Header). GoesUpTo text x change end next) (sym is) g in
    let one : IsBare text place number change end next = goes.bare refl in
    let ls = lines (drop place text) in
    let left : lines (drop end text) ≡ behind_header ls = ap (λ k. lines (drop k text)) one.ends ∙ skip-lines text place (git_header ls) (behind_header ls) (header-split ls) in
    let ahead : ls ≡ git_header ls ++ lines (drop end text) = header-split ls ∙ ap (λ more. git_header ls ++ more) (sym left) in
    record { body = git_header ls; ahead = ahead; spelled = (ap git_header ahead, one.none) }
behind-stop ways text place number rs Binary h change end next e g = absurd cc

bare-spelled : (stop : Stop) (body others : List (List ℕ)) (change : PlainChange) → Spell stop body others change → stop ≡ Bare → body ≡ git_header (body ++ others)
bare-spelled (Opening form) body others change s e = absurd cc
bare-spelled Bare body others change s e = s.0
bare-spelled Binary body others change s e = absurd s

record Alone (ways : ReadOptions) (text : List ℕ) (at end : ℕ) (p : PlainPatch) : Type 0 where
  own : List (List ℕ)
  parts : lines (drop at text) ≡ own ++ lines (drop end text)
  is : IsFilePatch ways own (lines (drop end text)) p

first-alone : (ways : ReadOptions) (text : List ℕ) (at number : ℕ) (p : PlainPatch) (end next : ℕ) → StandsFirst ways text at number p end next → Alone ways text at end (unnumbered p)
first-alone ways text at number p end next s =
    let x = s.opens in
    let b = behind-stop ways text x.place (number + length x.region) (rows number at x.region) x.stop s.header p.change end next x.says s.goes in
    let stands : stop_at ways (b.body ++ lines (drop end text)) ≡ Some x.stop = ap (stop_at ways) (sym b.ahead) ∙ x.stands in
    record {
      own = x.region ++ b.body;
      parts = x.is_region.parts ∙ ap (λ ls. x.region ++ ls) b.ahead ∙ sym (append_assoc x.region b.body (lines (drop end text)));
      is = record {
        region = x.region;
        body = b.body;
        stop = x.stop;
        parts = refl;
        quiet = subst (AreQuiet ways x.region) b.ahead x.is_region.quiet;
        stands = stands;
        says = said-alone ways text at number x.place (number + length x.region) x.region b.body (lines (drop x.place text)) (lines (drop end text)) x.stop s.header x.is_region.parts b.ahead (bare-spelled x.stop b.body (lines (drop end text)) p.change b.spelled) stands x.says
            ∙ ap (λ h. Some (unnumbered_header h)) (sym s.says);
        spelled = b.spelled;
      };
    }

pub all-alone : (ways : ReadOptions) (text : List ℕ) (ps : List PlainPatch) (at number end next : ℕ) → Stand ways text at number ps end next → IsEnd ways text end → AreFilePatches ways (lines (drop at text)) (map unnumbered ps)
all-alone ways text [] at number end next h ends = subst (IsEnd ways text) (sym h.0) ends
all-alone ways text (p ∷ ps) at number end next h ends =
    let one = first-alone ways text at number p h.0 h.1 h.2 in
    (one.own, lines (drop h.0 text), one.parts, one.is, all-alone ways text ps h.0 h.1 end next h.3 ends)

-- ---- from lines to the text

line-some : (line : List ℕ) (rest : List (List ℕ)) → ArePieces (line ∷ rest) → 0 < length line
line-some [] [] (inl h) = absurd h
line-some (b ∷ line) [] (inl h) = omega arith
line-some line [] (inr h) = h.0
line-some [] (next ∷ rest) h = absurd h.0
line-some (b ∷ line) (next ∷ rest) h = omega arith

pub some-bytes : (body others all : List (List ℕ)) → ArePieces all → all ≡ body ++ others → (line : List ℕ) × (more : List (List ℕ)) × (body ≡ line ∷ more) → 0 < sum_by length body
some-bytes [] others all h e s = absurd (let k : [] ≡ s.0 ∷ s.1 = s.2 in cc)
some-bytes (line ∷ more) others all h e s = let low : 0 < length line = line-some line (more ++ others) (subst ArePieces e h) in omega (arith, low, sum_by-cons length line more)

-- what stands at a place opens a file patch there
record Opened (ways : ReadOptions) (text : List ℕ) (place number end next : ℕ) (rs : List Row) (stop : Stop) (change : PlainChange) : Type 0 where
  header : Header
  says : header_at ways text place number rs stop ≡ Some header
  goes : GoesUpTo text header change end next

opened : (ways : ReadOptions) (text : List ℕ) (place number end next : ℕ) (rs : List Row) (stop : Stop) (body others : List (List ℕ)) (change : PlainChange) → lines (drop place text) ≡ body ++ others → lines (drop end text) ≡ others
    → end ≡ place + sum_by length body → next ≡ number + length body → Spell stop body others change → Opened ways text place number end next rs stop change
opened ways text place number end next rs (Opening form) body others change ahead left ends counted s =
    let p = placed form 0 (body ++ others) change (length body) others s in
    let size : length body ≡ length p.own = omega (arith, p.counted) in
    let here : IsPiece form number (p.own ++ others) change next others = p.anywhere number next (counted ∙ ap (λ n. number + n) size) in
    let there : IsPiece form number (lines (drop place text)) change next (lines (drop end text)) =
    subst (λ (ls : List (List ℕ)). IsPiece form number ls change next (lines (drop end text))) (sym (ahead ∙ p.parts)) (subst (λ (ls : List (List ℕ)). IsPiece form number (p.own ++ others) change next ls) (sym left) here) in
    record {
      header = header_with text form place number (seen_for ways form text rs) (led_by ways form rs);
      says = refl;
      goes = record { spelled = λ e. there; bare = λ e. absurd cc };
    }
opened ways text place number end next rs Bare body others change ahead left ends counted s =
    let own : body ≡ git_header (lines (drop place text)) = s.0 ∙ ap git_header (sym ahead) in
    record {
      header = bare_with text place number rs;
      says = refl;
      goes = record { spelled = λ e. absurd cc; bare = λ e. record { none = s.1; ends = ends ∙ ap (λ ls. place + sum_by length ls) own; counted = counted ∙ ap (λ ls. number + length ls) own } };
    }
opened ways text place number end next rs Binary body others change ahead left ends counted s = absurd s

record Stood (ways : ReadOptions) (text : List ℕ) (at number : ℕ) (others : List (List ℕ)) (q : PlainPatch) : Type 0 where
  patch : PlainPatch
  end : ℕ
  next : ℕ
  first : StandsFirst ways text at number patch end next
  same : unnumbered patch ≡ q
  left : lines (drop end text) ≡ others
  within : end ≤ length text

abbrev with_header : PlainHeader → PlainChange → PlainPatch
with_header h c = record { header = h; change = c }

patch-stands : (ways : ReadOptions) (text : List ℕ) (at number : ℕ) (own others : List (List ℕ)) (q : PlainPatch) → at ≤ length text → lines (drop at text) ≡ own ++ others → IsFilePatch ways own others q → Stood ways text at number others q
patch-stands ways text at number own others q le e x =
    let place = at + sum_by length x.region in
    let end = place + sum_by length x.body in
    let line = number + length x.region in
    let next = line + length x.body in
    let rs = rows number at x.region in
    let parts : lines (drop at text) ≡ x.region ++ (x.body ++ others) = e ∙ ap (λ ls. ls ++ others) x.parts ∙ append_assoc x.region x.body others in
    let ahead : lines (drop place text) ≡ x.body ++ others = skip-lines text at x.region (x.body ++ others) parts in
    let left : lines (drop end text) ≡ others = skip-lines text place x.body others ahead in
    let low : place ≤ length text = lines-within text at x.region (x.body ++ others) le parts in
    let high : end ≤ length text = lines-within text place x.body others low ahead in
    let some : 0 < sum_by length x.body = some-bytes x.body others (lines (drop place text)) (lines-pieces (drop place text)) ahead (body-some ways x.body others x.stop q.change x.stands x.spelled) in
    let o = opened ways text place line end next rs x.stop x.body others q.change ahead left refl refl x.spelled in
    let stands : stop_at ways (lines (drop place text)) ≡ Some x.stop = ap (stop_at ways) ahead ∙ x.stands in
    let says = said-alone ways text at number place line x.region x.body (x.body ++ others) others x.stop o.header parts ahead (bare-spelled x.stop x.body others q.change x.spelled) x.stands o.says in
    let header : unnumbered_header (header_of text o.header) ≡ q.header = same_Some (unnumbered_header (header_of text o.header)) q.header (sym says ∙ x.says) in
    let region : IsRegion ways text at x.region place = record { parts = parts ∙ ap (λ ls. x.region ++ ls) (sym ahead); ends = refl; quiet = subst (AreQuiet ways x.region) (sym ahead) x.quiet } in
    record {
      patch = record { header = header_of text o.header; change = q.change };
      end = end;
      next = next;
      first = record {
        header = o.header;
        opens = record { region = x.region; place = place; stop = x.stop; is_region = region; stands = stands; says = o.says };
        says = refl;
        goes = o.goes;
        some = omega (arith, some);
        high = high;
      };
      same = ap (λ (h : PlainHeader). with_header h q.change) header;
      left = left;
      within = high;
    }

pub record AllStood (ways : ReadOptions) (text : List ℕ) (at number : ℕ) (qs : List PlainPatch) : Type 0 where
  pub patches : List PlainPatch
  pub end : ℕ
  pub next : ℕ
  pub stand : Stand ways text at number patches end next
  pub ends : IsEnd ways text end
  pub same : map unnumbered patches ≡ qs

pub all-stand : (ways : ReadOptions) (text : List ℕ) (qs : List PlainPatch) (at number : ℕ) → at ≤ length text → AreFilePatches ways (lines (drop at text)) qs → AllStood ways text at number qs
all-stand ways text [] at number le h = record { patches = []; end = at; next = number; stand = (refl, refl); ends = h; same = refl }
all-stand ways text (q ∷ qs) at number le h =
    let one = patch-stands ways text at number h.0 h.1 q le h.2 h.3 in
    let more = all-stand ways text qs one.end one.next one.within (subst (λ (ls : List (List ℕ)). AreFilePatches ways ls qs) (sym one.left) h.4) in
    record {
      patches = one.patch ∷ more.patches;
      end = more.end;
      next = more.next;
      stand = (one.end, one.next, one.first, more.stand);
      ends = more.ends;
      same = ap (λ p. p ∷ map unnumbered more.patches) one.same ∙ ap (λ ps. q ∷ ps) more.same;
    }

-- ---- whole texts

pub text-alone : (ways : ReadOptions) (text : List ℕ) (ps : List PlainPatch) → HasPatches ways text ps → AreFilePatches ways (lines text) (map unnumbered ps)
text-alone ways text ps h = all-alone ways text ps 0 1 h.end h.next h.stand h.ends

pub text-stands : (ways : ReadOptions) (text : List ℕ) (qs : List PlainPatch) → AreFilePatches ways (lines text) qs → (ps : List PlainPatch) × HasPatches ways text ps × (map unnumbered ps ≡ qs)
text-stands ways text qs h =
    let all = all-stand ways text qs 0 1 (omega arith) h in
    (all.patches, record { end = all.end; next = all.next; stand = all.stand; ends = all.ends }, all.same)

pub text-reads : (ways : ReadOptions) (text : List ℕ) (qs : List PlainPatch) → AreFilePatches ways (lines text) qs → read_unnumbered ways text ≡ Ok qs
text-reads ways text qs h =
    let all = text-stands ways text qs h in
    ap (λ r. r >>= λ ps. Ok (map unnumbered ps)) (text-again ways text all.0 all.1) ∙ ap Ok all.2

-- parts that fit together are read as their file patches
pub parts-read : (ways : ReadOptions) (text : List ℕ) (parts : List Part) → lines text ≡ all_lines parts → FitTogether ways parts → read_unnumbered ways text ≡ Ok (map (λ (p : Part). p.patch) parts)
parts-read ways text parts e h =
    let patches : List PlainPatch = map (λ (p : Part). p.patch) parts in
    text-reads ways text patches (subst (λ (ls : List (List ℕ)). AreFilePatches ways ls patches) (sym e) (parts-fit ways parts h))
