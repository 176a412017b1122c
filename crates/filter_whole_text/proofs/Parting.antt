-- How the parts of a text are put one behind the other.
use Rattle.std.proofs.Common.{◌≡◌, ◌≢◌, ◌⊎◌, inl, inr, ⊎_elim, ℕ, zero, suc, true, false, ◌+◌, ◌≤◌, List, [], ◌∷◌, ◌++◌, All, length, take, drop, None, Some, Result, Ok, Err, refl, sym, ◌∙◌, ap, subst, arith, append_assoc, length-append}
use Rattle.std.specs.Result.{IsErrAnd}
use Rattle.std.specs.Prelude.{slice_get}
use Rattle.std.specs.FinMap.{get}
use Rattle.std.proofs.lemmas.List.{append-nil, map-append, take_more, take_all, take-append-drop}
use Rattle.std.proofs.Math.Seq.{take-append_seam}
use Rattle.std.proofs.lemmas.Grind.{flat_map-append}
use Rattle.std.proofs.lemmas.Option.{same_Some, slice_get_within, get_or_from_slice_get}
use Rattle.line_list.specs.declared.Span.{Span}
use Rattle.hunk_core.specs.PlainHunk.{bytes_at}
use Rattle.hunk_core.specs.Pieces.{AreInTurn}
use Rattle.outside.specs.Files.{Files, SameLasting, is_temp}
use Rattle.outside.specs.TreeView.{TreeView, passes_none, passes_both, told_on}
use Rattle.outside.specs.Calls.{Becomes}
use Rattle.outside.specs.SinkView.{SinkView, sink_passes_none, sink_passes_both, Receives, ReceivesPart}
use Rattle.outside.specs.Quiet.{Effect, IsQuiet, HasMade, LeavesPrefix, after, after_all}
use Rattle.outside.specs.Quiet.Effect.{Put}
use Rattle.outside.proofs.Names.{lasting-same}
use Rattle.outside.proofs.Views.{rises_then}
use Rattle.outside.proofs.Effects.{after_all-push, made_none, made_since, since_longer}
use Rattle.outside.proofs.Writing.{received_none, received_part, received_both, part_after}
use Rattle.apply_task.specs.Making.{IsTidy}
use Rattle.apply_task.proofs.Tidy.{tidy_none, tidy_both, untouched_tidy, put_if_tidy}
use Rattle.filter_choice.proofs.Placed.{turn-end}
use Rattle.filter_whole_text.specs.declared.fault.FilterFault.{FilterFault}
use Rattle.filter_whole_text.specs.declared.fault.FilterFault.TheVariants as faults
use Rattle.filter_whole_text.specs.Parting.{Part, part_of, named_parts, part_put, part_puts, part_line, part_lines, AreCutAt, ReceivesFirst, PutsPart, PutsParts}

-- ---- rows

module _ (text : List ℕ) where
  pub parts-at : (names : List (List ℕ)) (spans : List Span) (i : ℕ) (name : List ℕ) (span : Span) → slice_get names i ≡ Some name → slice_get spans i ≡ Some span
      → slice_get (named_parts text names spans) i ≡ Some (part_of text name span)
  unfolding named_parts
  parts-at [] spans i name span n s = absurd cc
  parts-at (m ∷ ms) [] i name span n s = absurd cc
  parts-at (m ∷ ms) (t ∷ ts) zero name span n s = ap (λ (x : List ℕ). Some (part_of text x t)) (same_Some m name n) ∙ ap (λ (x : Span). Some (part_of text name x)) (same_Some t span s)
  parts-at (m ∷ ms) (t ∷ ts) (suc i) name span n s = parts-at ms ts i name span n s

  parts-count : (names : List (List ℕ)) (spans : List Span) → length (named_parts text names spans) ≤ length spans
  unfolding named_parts
  parts-count [] spans = omega arith
  parts-count (m ∷ ms) [] = omega arith
  parts-count (m ∷ ms) (t ∷ ts) = omega (arith, parts-count ms ts)

  pub parts-end : (names : List (List ℕ)) (spans : List Span) (i : ℕ) → length spans ≤ i → take i (named_parts text names spans) ≡ named_parts text names spans
  parts-end names spans i le = take_all i (named_parts text names spans) (omega (arith, le, parts-count names spans))

module _ (parts : List Part) (i : ℕ) (part : Part) (is : slice_get parts i ≡ Some part) where
  pub parts-more : take i parts ++ part ∷ [] ≡ take (i + 1) parts
  parts-more = sym (take_more parts i part (slice_get_within parts i part is)
      ∙ ap (λ (r : Part). take i parts ++ r ∷ []) (get_or_from_slice_get parts i part part is))

  pub parts-all : take i parts ++ part ∷ drop (i + 1) parts ≡ parts
  parts-all = sym (append_assoc (take i parts) (part ∷ []) (drop (i + 1) parts))
      ∙ ap (λ (l : List Part). l ++ drop (i + 1) parts) parts-more ∙ take-append-drop (i + 1) parts

-- each span lies within the text
pub turn-within : (at : ℕ) (ss : List Span) (end i : ℕ) (s : Span) → AreInTurn at ss end → slice_get ss i ≡ Some s → (s.start ≤ s.end) × (s.end ≤ end)
turn-within at [] end i s turn is = absurd cc
turn-within at (x ∷ ss) end zero s turn is = subst (λ (y : Span). (y.start ≤ y.end) × (y.end ≤ end)) (same_Some x s is) (omega (arith, turn.0, turn.1), turn-end x.end ss end turn.2)
turn-within at (x ∷ ss) end (suc i) s turn is = turn-within x.end ss end i s turn.2 is

-- what holds of each element holds of one
pub each-at : {A : Type 0} (P : A → Type 0) (xs : List A) (i : ℕ) (x : A) → All P xs → slice_get xs i ≡ Some x → P x
each-at P xs i x all is = subst P (get_or_from_slice_get xs i x x is) (all i x (slice_get_within xs i x is))

-- a put leaves no temporary behind
put_tidy : (u w : TreeView) (name bytes : List ℕ) → is_temp name ≡ false → Becomes u w (after (Put name bytes)) → IsTidy u w
put_tidy u w name bytes lasting becomes f g told now q is =
    let at : get g q ≡ get (after (Put name bytes) f) q = ap (λ (h : Files). get h q) (same_Some _ _ (sym now ∙ becomes f told)) in
    ⊎_elim (λ none. inl (at ∙ none)) (λ same. inr (at ∙ same)) (put_if_tidy true name bytes lasting f q is)

-- ---- one part after another

pub puts-none : (z : Unit {0}) (t : TreeView) (c : SinkView) → IsQuiet t → PutsParts [] t t c c (Ok z)
puts-none z t c quiet = record {
  tree = passes_none t;
  sink = sink_passes_none c;
  quiet = quiet;
  answers = λ f told. record { files = told; leaves = (made_none t quiet).since; out = received_none c };
  tidy = tidy_none t;
  cause = tt;
}

-- before the first one memory ran out
pub puts-starved : (rows : List Part) (t : TreeView) (c : SinkView) → IsQuiet t → PutsParts rows t t c c (Err faults.Memory)
puts-starved rows t c quiet = record {
  tree = passes_none t;
  sink = sink_passes_none c;
  quiet = tt;
  answers = λ f told. (
    0,
    record {
      few = omega arith;
      files = λ g now. subst (λ (x : Files). SameLasting f x) (same_Some f g (sym told ∙ now)) (lasting-same f);
      exact = λ ne. told;
      leaves = since_longer t t [] (part_puts rows) (part_puts rows) refl (made_none t quiet).since;
      out = received_part c c [] (received_none c);
      said = 0;
      near = omega arith;
      names = λ x was. inr ([], was ∙ ap (λ (l : List ℕ). Some l) (sym (append-nil x)));
    },
  );
  tidy = tidy_none t;
  cause = tt;
}

puts-push : (done : List Part) (row : Part) → part_puts (done ++ row ∷ []) ≡ part_puts done ++ part_put row ∷ []
puts-push done row = map-append (part_put) done (row ∷ [])

lines-push : (done : List Part) (row : Part) → part_lines (done ++ row ∷ []) ≡ part_lines done ++ part_line row
lines-push done row = flat_map-append (part_line) done (row ∷ []) ∙ ap (λ (l : List ℕ). part_lines done ++ l) (append-nil (part_line row))

module _ {z : Unit {0}} {t u : TreeView} {c d : SinkView} {done : List Part} (before : PutsParts done t u c d (Ok z)) where
  puts-made : (f : Files) → t.told ≡ Some f → HasMade t u (part_puts done)
  puts-made f told = record {
    passes = before.tree;
    quiet = before.quiet;
    live = λ g h was now. subst (λ (x : Files). SameLasting x h) (same_Some _ _ (sym now ∙ (before.answers g was).files)) (lasting-same h);
    since = (before.answers f told).leaves;
  }

  module _ (w : TreeView) (b : SinkView) (row : Part) (lasting : is_temp row.name ≡ false) where
    pub puts-more : (y x : Unit {0}) → PutsPart row u w d b (Ok y) → PutsParts (done ++ row ∷ []) t w c b (Ok x)
    puts-more y x part = record {
      tree = passes_both before.tree part.tree;
      sink = sink_passes_both before.sink part.sink;
      quiet = part.ok.made.quiet;
      answers = λ f told.
          let was = before.answers f told in
          record {
            files = part.ok.made.becomes _ was.files ∙ ap (λ (g : Files). Some g) (sym (after_all-push (part_puts done) (part_put row) f)) ∙ ap (λ (es : List Effect). Some (after_all es f)) (sym (puts-push done row));
            leaves = subst (λ (es : List Effect). LeavesPrefix t w es) (sym (puts-push done row)) (made_since t u w (part_puts done) (part_put row) (puts-made f told) part.tree part.since);
            out = subst (λ (l : List ℕ). Receives c b l) (sym (lines-push done row)) (received_both c d b (part_lines done) (part_line row) was.out part.ok.out);
          };
      tidy = tidy_both t u w before.tree before.tidy (put_tidy u w row.name row.bytes lasting part.ok.made.becomes);
      cause = tt;
    }

    module _ (rest : List Part) where
      abbrev all : List Part
      all = done ++ row ∷ rest

      regrouped : all ≡ (done ++ row ∷ []) ++ rest
      regrouped = sym (append_assoc done (row ∷ []) rest)

      one-longer : length (done ++ row ∷ []) ≡ length done + 1
      one-longer = length-append done (row ∷ [])

      long : length done + 1 ≤ length all
      long = omega (arith, length-append done (row ∷ rest))

      take-done : take (length done) all ≡ done
      take-done = take-append_seam done (row ∷ rest)

      take-more : take (length done + 1) all ≡ done ++ row ∷ []
      take-more = ap (λ (l : List Part). take (length done + 1) l) regrouped ∙ ap (λ n. take n ((done ++ row ∷ []) ++ rest)) (sym one-longer) ∙ take-append_seam (done ++ row ∷ []) rest

      leaves-all : {result : Result (Unit {0}) FilterFault} (f : Files) → t.told ≡ Some f → PutsPart row u w d b result → LeavesPrefix t w (part_puts all)
      leaves-all f told part = since_longer t w (part_puts done ++ part_put row ∷ []) (part_puts rest) (part_puts all)
          (ap (part_puts) regrouped ∙ map-append (part_put) (done ++ row ∷ []) rest ∙ ap (λ (es : List Effect). es ++ part_puts rest) (puts-push done row))
          (made_since t u w (part_puts done) (part_put row) (puts-made f told) part.tree part.since)

      -- the names so far are written whole
      names-done : (f : Files) → t.told ≡ Some f → ((x : List ℕ) → d.told ≡ Some x → (b.told ≡ None) ⊎ ((more : List ℕ) × (b.told ≡ Some (x ++ more)))) → ReceivesFirst c b (part_lines (take (length done) all))
      names-done f told next x was = ⊎_elim
          (λ none. inl none)
          (λ (more, now). inr (more, now ∙ ap (λ (l : List ℕ). Some l) (append_assoc x (part_lines done) more ∙ ap (λ (xs : List Part). x ++ (part_lines xs ++ more)) (sym take-done))))
          (next (x ++ part_lines done) ((before.answers f told).out x was))

      -- the first of them are put, and no more is written
      cut-before : (e : FilterFault) (f : Files) → t.told ≡ Some f → LeavesPrefix t w (part_puts all) → b ≡ d
          → ((g : Files) → w.told ≡ Some g → SameLasting (after_all (part_puts done) f) g) → (e ≢ faults.Tree → w.told ≡ Some (after_all (part_puts done) f))
          → AreCutAt all e f t w c b (length done)
      cut-before e f told leaves same files exact = record {
        few = omega (arith, long);
        files = subst (λ (xs : List Part). (g : Files) → w.told ≡ Some g → SameLasting (after_all (part_puts xs) f) g) (sym take-done) files;
        exact = subst (λ (xs : List Part). e ≢ faults.Tree → w.told ≡ Some (after_all (part_puts xs) f)) (sym take-done) exact;
        leaves = leaves;
        out = subst (λ (v : SinkView). ReceivesPart c v (part_lines (take (length done) all))) (sym same)
            (subst (λ (xs : List Part). ReceivesPart c d (part_lines xs)) (sym take-done) (received_part c d (part_lines done) (before.answers f told).out));
        said = length done;
        near = omega arith;
        names = names-done f told (λ x was. inr ([], subst (λ (v : SinkView). v.told ≡ Some (x ++ [])) (sym same) (was ∙ ap (λ (l : List ℕ). Some l) (sym (append-nil x)))));
      }

      -- one more is put, and a part of its line is written, or nothing
      cut-behind : (e : FilterFault) (f : Files) → t.told ≡ Some f → LeavesPrefix t w (part_puts all) → ReceivesPart d b (part_line row)
          → ((g : Files) → w.told ≡ Some g → SameLasting (after (part_put row) (after_all (part_puts done) f)) g)
          → (e ≢ faults.Tree → w.told ≡ Some (after (part_put row) (after_all (part_puts done) f)))
          → AreCutAt all e f t w c b (length done + 1)
      cut-behind e f told leaves line files exact =
          let made : after (part_put row) (after_all (part_puts done) f) ≡ after_all (part_puts (take (length done + 1) all)) f =
          sym (ap (λ (xs : List Part). after_all (part_puts xs) f) take-more ∙ ap (λ (es : List Effect). after_all es f) (puts-push done row) ∙ after_all-push (part_puts done) (part_put row) f) in
          record {
            few = long;
            files = subst (λ (x : Files). (g : Files) → w.told ≡ Some g → SameLasting x g) made files;
            exact = subst (λ (x : Files). e ≢ faults.Tree → w.told ≡ Some x) made exact;
            leaves = leaves;
            out = subst (λ (l : List ℕ). ReceivesPart c b l) (sym (ap (part_lines) take-more ∙ lines-push done row)) (part_after c d b (part_lines done) (part_line row) (before.answers f told).out line);
            said = length done;
            near = omega arith;
            names = names-done f told (λ x was. ⊎_elim (λ none. inl none) (λ (n, now). inr (take n (part_line row), now)) (line x was));
          }

      nothing : b ≡ d → ReceivesPart d b (part_line row)
      nothing same x was = inr (0, subst (λ (v : SinkView). v.told ≡ Some (x ++ [])) (sym same) (was ∙ ap (λ (l : List ℕ). Some l) (sym (append-nil x))))

      told-now : (f x : Files) → w.told ≡ Some x → (g : Files) → w.told ≡ Some g → SameLasting f x → SameLasting f g
      told-now f x is g now same = subst (λ (y : Files). SameLasting f y) (same_Some _ _ (sym is ∙ now)) same

      cut-failed : PutsPart row u w d b (Err faults.Tree) → (f : Files) → t.told ≡ Some f → (k : ℕ) × AreCutAt all faults.Tree f t w c b k
      cut-failed part f told =
          let was = (before.answers f told).files in
          let now = told_on _ part.tree was in
          ⊎_elim
          (λ old. (length done, cut-before faults.Tree f told (leaves-all f told part) part.err.out (λ g is. told-now _ now.0 now.1 g is old) (λ ne. absurd (ne refl))))
          (λ new. (length done + 1, cut-behind faults.Tree f told (leaves-all f told part) (nothing part.err.out) (λ g is. told-now _ now.0 now.1 g is new) (λ ne. absurd (ne refl))))
          (part.err.tells _ now.0 was now.1)

      cut : (e : FilterFault) → PutsPart row u w d b (Err e) → PutsParts all t w c b (Err e)
      cut (faults.Input fault) part = absurd part.err
      cut (faults.Set fault) part = absurd part.err
      cut (faults.Unfit line) part = absurd part.err
      cut faults.Pattern part = absurd part.err
      cut faults.Tree part = record {
        tree = passes_both before.tree part.tree;
        sink = sink_passes_both before.sink part.sink;
        quiet = tt;
        answers = cut-failed part;
        tidy = tt;
        cause = rises_then t u w before.tree part.err.cause;
      }
      cut faults.Write part = record {
        tree = passes_both before.tree part.tree;
        sink = sink_passes_both before.sink part.sink;
        quiet = tt;
        answers = λ f told.
            let now = part.err.made.becomes _ (before.answers f told).files in
            (length done + 1, cut-behind faults.Write f told (leaves-all f told part) part.err.out (λ g is. told-now _ _ now g is (lasting-same _)) (λ ne. now));
        tidy = tidy_both t u w before.tree before.tidy (put_tidy u w row.name row.bytes lasting part.err.made.becomes);
        cause = λ small. omega (arith, part.err.cause (omega (arith, small, before.sink.counts)), before.sink.counts);
      }
      cut faults.Memory part = record {
        tree = passes_both before.tree part.tree;
        sink = sink_passes_both before.sink part.sink;
        quiet = tt;
        answers = λ f told.
            let now = part.err.tree.told ∙ (before.answers f told).files in
            (length done, cut-before faults.Memory f told (leaves-all f told part) part.err.out (λ g is. told-now _ _ now g is (lasting-same _)) (λ ne. now));
        tidy = tidy_both t u w before.tree before.tidy (untouched_tidy part.err.tree);
        cause = tt;
      }

      pub puts-cut : (e : FilterFault) (s : Result (Unit {0}) FilterFault) → IsErrAnd s (λ x. x ≡ e) → PutsPart row u w d b (Err e) → PutsParts all t w c b s
      puts-cut e (Ok x) is part = absurd is
      puts-cut e (Err x) is part = subst (λ (y : FilterFault). PutsParts all t w c b (Err y)) (sym is) (cut e part)

-- ---- the loop

module _ (text : List ℕ) (names : List (List ℕ)) (spans : List Span) (i : ℕ) (name : List ℕ) (span : Span) (bytes : List ℕ)
    (named : slice_get names i ≡ Some name) (is : slice_get spans i ≡ Some span) (cut : bytes ≡ bytes_at text span) (lasting : is_temp name ≡ false)
    {z : Unit {0}} {t u : TreeView} {c d : SinkView} (before : PutsParts (take i (named_parts text names spans)) t u c d (Ok z)) (w : TreeView) (b : SinkView) where
  abbrev all-parts : List Part
  all-parts = named_parts text names spans

  there : slice_get all-parts i ≡ Some (part_of text name span)
  there = parts-at text names spans i name span named is

  part-put : (r : Result (Unit {0}) FilterFault) → PutsPart (record { name = name; bytes = bytes }) u w d b r → PutsPart (part_of text name span) u w d b r
  part-put r put = subst (λ (l : List ℕ). PutsPart (record { name = name; bytes = l }) u w d b r) cut put

  pub goes-on : (y x : Unit {0}) → PutsPart (record { name = name; bytes = bytes }) u w d b (Ok y) → PutsParts (take (i + 1) all-parts) t w c b (Ok x)
  goes-on y x put = subst (λ (l : List Part). PutsParts l t w c b (Ok x)) (parts-more all-parts i (part_of text name span) there) (puts-more before w b (part_of text name span) lasting y x (part-put (Ok y) put))

  pub stops : (e : FilterFault) (s : Result (Unit {0}) FilterFault) → IsErrAnd s (λ x. x ≡ e) → PutsPart (record { name = name; bytes = bytes }) u w d b (Err e) → PutsParts all-parts t w c b s
  stops e s fault put = subst (λ (l : List Part). PutsParts l t w c b s) (parts-all all-parts i (part_of text name span) there) (puts-cut before w b (part_of text name span) lasting (drop (i + 1) all-parts) e s fault (part-put (Err e) put))
