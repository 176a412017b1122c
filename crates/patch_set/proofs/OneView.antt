-- A text that is read twice gives one view.
use Rattle.std.proofs.Common.{◌≡◌, ℕ, ◌+◌, Bool, true, false, List, [], ◌∷◌, length, map, Result, Ok, refl, sym, ap, subst, ◌∙◌}
use Rattle.line_list.specs.declared.Span.{Span}
use Rattle.hunk_core.specs.Pieces.{AreInTurn}
use Rattle.hunk_core.specs.Reading.{Fault}
use Rattle.read_file_patch.specs.declared.FilePatch.{FilePatch}
use Rattle.read_file_patch.specs.PlainPatch.{PlainPatch, header_of, row_count}
use Rattle.read_header_record.specs.declared.Header.{Header}
use Rattle.patch_options.specs.PlainJob.{PlainOptions}
use Rattle.read_file_patch.specs.declared.derived.Target.{Target}
use Rattle.read_patch_text.specs.Patches.{patches_of}
use Rattle.read_patch_text.specs.Regions.{region_of, regions_of}
use Rattle.read_patch_text.specs.Changes.{AreCut}
use Rattle.patch_set.specs.Asked.{ways_of}
use Rattle.patch_set.specs.Named.{known_names, targets_of, output_of}
use Rattle.patch_set.specs.Skipped.{skipped_changes}
use Rattle.patch_set.specs.Spans.{ArePlaced}
use Rattle.patch_set.specs.OneView.{AreOne}
use Rattle.patch_set.specs.SetView.{SetView, IsRead, plain_patches}

same-first : {A : Type 0} (x y : A) (xs ys : List A) → x ∷ xs ≡ y ∷ ys → x ≡ y
same-first x y xs ys e = cc

same-others : {A : Type 0} (x y : A) (xs ys : List A) → x ∷ xs ≡ y ∷ ys → xs ≡ ys
same-others x y xs ys e = cc

-- a span is told by its start and its end
same-span : (s t : Span) → s.start ≡ t.start → s.end ≡ t.end → s ≡ t
same-span s t start end = subst (λ m. s ≡ record { start = m; end = t.end }) start (subst (λ n. s ≡ record { start = s.start; end = n }) end refl)

-- spans that follow each other from one place are told by their ends
same-turn : (at : ℕ) (ss ts : List Span) (end other : ℕ) → AreInTurn at ss end → AreInTurn at ts other → map (λ s. s.end) ss ≡ map (λ s. s.end) ts → ss ≡ ts
same-turn at [] [] end other one two e = refl
same-turn at [] (t ∷ ts) end other one two e = absurd cc
same-turn at (s ∷ ss) [] end other one two e = absurd cc
same-turn at (s ∷ ss) (t ∷ ts) end other one two e =
    let ends : s.end ≡ t.end = same-first s.end t.end (map (λ s. s.end) ss) (map (λ s. s.end) ts) e in
    let more : AreInTurn t.end ss end = subst (λ k. AreInTurn k ss end) ends one.2 in
    ap (λ x. x ∷ ss) (same-span s t (one.0 ∙ sym two.0) ends)
    ∙ ap (λ xs. t ∷ xs) (same-turn t.end ss ts end other more two.2 (same-others s.end t.end (map (λ s. s.end) ss) (map (λ s. s.end) ts) e))

same-cut : (h : Header) (ss ts : List Span) (end other : ℕ) → AreCut h ss end → AreCut h ts other → map (λ s. s.end) ss ≡ map (λ s. s.end) ts → ss ≡ ts
same-cut h ss ts end other one two e = by h.bare refl
  where
    by : (b : Bool) → h.bare ≡ b → ss ≡ ts
    by true is = one.none is ∙ sym (two.none is)
    by false is = same-turn h.at ss ts end other (one.turn is) (two.turn is) e

same-headers : (ps qs : List FilePatch) → map region_of ps ≡ map region_of qs → map (λ p. p.header) ps ≡ map (λ p. p.header) qs
same-headers [] [] e = refl
same-headers [] (q ∷ qs) e = absurd cc
same-headers (p ∷ ps) [] e = absurd cc
same-headers (p ∷ ps) (q ∷ qs) e =
    let first = same-first (region_of p) (region_of q) (map region_of ps) (map region_of qs) e in
    let others = same-others (region_of p) (region_of q) (map region_of ps) (map region_of qs) e in
    ap (λ h. h ∷ map (λ x. x.header) ps) (ap (λ r. r.header) first) ∙ ap (λ hs. q.header ∷ hs) (same-headers ps qs others)

same-spans : (ps qs : List FilePatch) → map region_of ps ≡ map region_of qs → map (λ p. p.span) ps ≡ map (λ p. p.span) qs
same-spans [] [] e = refl
same-spans [] (q ∷ qs) e = absurd cc
same-spans (p ∷ ps) [] e = absurd cc
same-spans (p ∷ ps) (q ∷ qs) e =
    let first = same-first (region_of p) (region_of q) (map region_of ps) (map region_of qs) e in
    let others = same-others (region_of p) (region_of q) (map region_of ps) (map region_of qs) e in
    ap (λ s. s ∷ map (λ x. x.span) ps) (same-span p.span q.span (ap (λ r. r.start) first) (ap (λ r. r.end) first)) ∙ ap (λ ss. q.span ∷ ss) (same-spans ps qs others)

same-pieces : (text other : List ℕ) (start before first last : ℕ) (ps qs : List FilePatch) → ArePlaced text start before ps → ArePlaced other first last qs → map region_of ps ≡ map region_of qs
    → map (λ p. p.hunk_spans.items) ps ≡ map (λ p. p.hunk_spans.items) qs
same-pieces text other start before first last [] [] at on e = refl
same-pieces text other start before first last [] (q ∷ qs) at on e = absurd cc
same-pieces text other start before first last (p ∷ ps) [] at on e = absurd cc
same-pieces text other start before first last (p ∷ ps) (q ∷ qs) at on e =
    let one = same-first (region_of p) (region_of q) (map region_of ps) (map region_of qs) e in
    let others = same-others (region_of p) (region_of q) (map region_of ps) (map region_of qs) e in
    let header : p.header ≡ q.header = ap (λ r. r.header) one in
    let cut : AreCut q.header p.hunk_spans.items p.span.end = subst (λ h. AreCut h p.hunk_spans.items p.span.end) header at.0.cut in
    ap (λ s. s ∷ map (λ x. x.hunk_spans.items) ps) (same-cut q.header p.hunk_spans.items q.hunk_spans.items p.span.end q.span.end cut on.0.cut (ap (λ r. r.ends) one))
    ∙ ap (λ ss. q.hunk_spans.items ∷ ss) (same-pieces text other p.span.end (before + row_count p.change) q.span.end (last + row_count q.change) ps qs at.1 on.1 others)

same-firsts : (text other : List ℕ) (start begin before : ℕ) (ps qs : List FilePatch) → ArePlaced text start before ps → ArePlaced other begin before qs → map (λ p. p.hunk_spans.items) ps ≡ map (λ p. p.hunk_spans.items) qs
    → map (λ p. p.first_verdict) ps ≡ map (λ p. p.first_verdict) qs
same-firsts text other start begin before [] [] at on e = refl
same-firsts text other start begin before [] (q ∷ qs) at on e = absurd cc
same-firsts text other start begin before (p ∷ ps) [] at on e = absurd cc
same-firsts text other start begin before (p ∷ ps) (q ∷ qs) at on e =
    let spans : p.hunk_spans.items ≡ q.hunk_spans.items = same-first p.hunk_spans.items q.hunk_spans.items (map (λ x. x.hunk_spans.items) ps) (map (λ x. x.hunk_spans.items) qs) e in
    let others = same-others p.hunk_spans.items q.hunk_spans.items (map (λ x. x.hunk_spans.items) ps) (map (λ x. x.hunk_spans.items) qs) e in
    let rows : row_count q.change ≡ row_count p.change = sym on.0.each ∙ ap length (sym spans) ∙ at.0.each in
    let more : ArePlaced other q.span.end (before + row_count p.change) qs = subst (λ n. ArePlaced other q.span.end (before + n) qs) rows on.1 in
    ap (λ n. n ∷ map (λ x. x.first_verdict) ps) (at.0.first ∙ sym on.0.first)
    ∙ ap (λ ns. q.first_verdict ∷ ns) (same-firsts text other p.span.end q.span.end (before + row_count p.change) ps qs at.1 more others)

same-by-header : (f : Header → List Target) (ps qs : List FilePatch) → map (λ p. p.header) ps ≡ map (λ p. p.header) qs → map (λ p. f p.header) ps ≡ map (λ p. f p.header) qs
same-by-header f [] [] e = refl
same-by-header f [] (q ∷ qs) e = absurd cc
same-by-header f (p ∷ ps) [] e = absurd cc
same-by-header f (p ∷ ps) (q ∷ qs) e =
    let first : p.header ≡ q.header = same-first p.header q.header (map (λ x. x.header) ps) (map (λ x. x.header) qs) e in
    let others : map (λ x. x.header) ps ≡ map (λ x. x.header) qs = same-others p.header q.header (map (λ x. x.header) ps) (map (λ x. x.header) qs) e in
    ap (λ t. t ∷ map (λ x. f x.header) ps) (ap f first) ∙ ap (λ ts. f q.header ∷ ts) (same-by-header f ps qs others)

same-ok : (ps qs : List PlainPatch) (r : Result (List PlainPatch) Fault) → r ≡ Ok ps → r ≡ Ok qs → ps ≡ qs
same-ok ps qs r one two = cc

pub one-view : (o : PlainOptions) (given : List ℕ) (v w : SetView) → IsRead o given v → IsRead o given w → AreOne v w
one-view o given v w one two =
    let text : v.text ≡ w.text = one.text ∙ sym two.text in
    let regions : map region_of v.patches ≡ map region_of w.patches = one.regions ∙ ap (regions_of (ways_of o)) text ∙ sym two.regions in
    let plain : plain_patches v ≡ plain_patches w = same-ok (plain_patches v) (plain_patches w) (patches_of (ways_of o) w.text) (ap (patches_of (ways_of o)) (sym text) ∙ one.patches) two.patches in
    let headers : map (λ p. p.header) v.patches ≡ map (λ p. p.header) w.patches = same-headers v.patches w.patches regions in
    let known : known_names o (plain_patches v) ≡ known_names o (plain_patches w) = ap (known_names o) plain in
    let pieces = same-pieces v.text w.text 0 0 0 0 v.patches w.patches one.spans two.spans regions in
    record {
      text = text;
      patches = plain;
      headers = headers;
      spans = same-spans v.patches w.patches regions;
      hunk_spans = pieces;
      firsts = same-firsts v.text w.text 0 0 0 v.patches w.patches one.spans two.spans pieces;
      targets = one.names.targets
          ∙ ap (λ t. map (λ p. targets_of o (known_names o (plain_patches v)) (header_of t p.header)) v.patches) text
          ∙ ap (λ k. map (λ p. targets_of o k (header_of w.text p.header)) v.patches) known
          ∙ same-by-header (λ h. targets_of o (known_names o (plain_patches w)) (header_of w.text h)) v.patches w.patches headers
          ∙ sym two.names.targets;
      output = one.names.output ∙ ap (output_of o) known ∙ sym two.names.output;
      skipped = one.skipped ∙ ap (skipped_changes (ways_of o)) text ∙ sym two.skipped;
    }
