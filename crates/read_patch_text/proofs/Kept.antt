-- What is kept of a file patch that was read, behind those before it.
use Rattle.std.proofs.Common.{◌≡◌, ℕ, zero, suc, ◌+◌, ◌<◌, ◌≤◌, List, [], ◌∷◌, ◌++◌, length, drop, map, None, Some, Result, Ok, refl, sym, ap, ◌∙◌, append_assoc, arith}
use Rattle.std.proofs.lemmas.List.{append-nil, map_push}
use Rattle.std.proofs.lemmas.List.Elements.{All-push}
use Rattle.line_list.specs.Lines.{lines}
use Rattle.hunk_core.specs.Reading.{◌>>=◌, Fault, Ahead, ahead}
use Rattle.hunk_core.proofs.ReadSteps.{bind_ok, ok_is}
use Rattle.unified_form.specs.declared.hunk_scan.OldRange.{OldRange}
use Rattle.read_header_record.specs.declared.Header.{Header}
use Rattle.patch_header.specs.declared.read_options.ReadOptions.{ReadOptions}
use Rattle.patch_header.specs.Steps.{IsFirstOpening, IsEnd}
use Rattle.read_file_patch.specs.declared.FilePatch.{FilePatch}
use Rattle.read_file_patch.specs.PlainPatch.{PlainPatch, patch_of, row_count}
use Rattle.read_file_patch.specs.Absent.{IsLawfulPatch}
use Rattle.read_patch_text.specs.Patches.{patch_at, patches_of, place_before}
use Rattle.read_patch_text.specs.Regions.{Region, next_region, region_of, regions_at, regions_of, with_later}
use Rattle.read_patch_text.specs.Spans.{IsPatch}
use Rattle.read_patch_text.specs.Outlines.{outline, outlined_all, outlined_patch, outlined_step, outlines_of, patch_outlined}
use Rattle.read_patch_text.specs.Digests.{AreDigests, IsDigest, digest, digested_all, digested_patch, digested_step, digests_of, patch_digested, ranges_in}
use Rattle.read_patch_text.specs.Walked.{AreRegions, HasDigests, HasOutlines, HasWhole}
use Rattle.read_patch_text.proofs.Passed.{all-of-none, one-more}
use Rattle.read_patch_text.proofs.RegionLaws.{region-none, regions-step, regions-zero}
use Rattle.read_patch_text.proofs.TextLoops.{count-push, place-back, turn-push}

-- ---- with its hunks

pub whole-none : (ways : ReadOptions) (text : List ℕ) (items : List FilePatch) → items ≡ [] → HasWhole ways text [] 0 1 0 items
whole-none ways text items none = rw none (record { are = refl; lawful = all-of-none (IsLawfulPatch text) [] refl; turn = (refl, refl); rows = refl; count = omega arith })

pub whole-push : (ways : ReadOptions) (text : List ℕ) (front : List PlainPatch) (at number hunks end next count : ℕ) (items : List FilePatch) (p : FilePatch) → IsFirstOpening ways text at number p.header → IsPatch text at hunks p next
    → (at < end) × (end ≡ p.span.end) × (count ≡ hunks + row_count p.change) → HasWhole ways text front at number hunks items → HasWhole ways text (front ++ patch_of text p ∷ []) end next count (items ++ p ∷ [])
whole-push ways text front at number hunks end next count items p opens is goes has = record {
  are = ap (λ (ps : List PlainPatch). ps ++ patch_of text p ∷ []) has.are ∙ sym (map_push (patch_of text) items p);
  lawful = All-push (IsLawfulPatch text) items p has.lawful is.lawful;
  turn = rw goes.1 (turn-push ways text 0 1 0 items p at number hunks next has.turn (omega (arith, has.rows)) opens is);
  rows = omega (arith, count-push items p, has.rows, goes.2);
  count = one-more items p at end has.count goes.0;
}

-- ---- without its hunks

pub record OutlineIs (text : List ℕ) (h : Header) (q : PlainPatch) (behind : Ahead) : Type 0 where
  pub patch : PlainPatch
  pub read : patch_at text h ≡ Ok (patch, behind)
  pub is : q ≡ outline patch

abbrev patch_ok : PlainPatch → Ahead → Result (PlainPatch × Ahead) Fault
patch_ok p behind = Ok (p, behind)

pub outline-is : (text : List ℕ) (h : Header) (q : PlainPatch) (behind : Ahead) → patch_outlined text h ≡ patch_ok q behind → OutlineIs text h q behind
outline-is text h q behind read =
    let a = bind_ok (patch_at text h) outlined_patch (q, behind) read in
    let same : outlined_step a.0 ≡ (q, behind) = ok_is _ _ a.2 in
    record { patch = a.0.0; read = a.1 ∙ ap (λ (x : PlainPatch × Ahead). patch_ok a.0.0 x.1) same; is = ap (λ (x : PlainPatch × Ahead). x.0) (sym same) }

pub outlines-none : (text : List ℕ) (items : List FilePatch) → items ≡ [] → HasOutlines text [] 0 items
outlines-none text items none = rw none (record { are = refl; lawful = all-of-none (IsLawfulPatch text) [] refl; count = omega arith })

pub outlines-push : (text : List ℕ) (front : List PlainPatch) (at end : ℕ) (items : List FilePatch) (p : FilePatch) (plain : PlainPatch) → patch_of text p ≡ outline plain → IsLawfulPatch text p → at < end → HasOutlines text front at items → HasOutlines text (front ++ plain ∷ []) end (items ++ p ∷ [])
outlines-push text front at end items p plain is lawful some has = record {
  are = map_push (patch_of text) items p ∙ ap (λ (q : PlainPatch). map (patch_of text) items ++ q ∷ []) is ∙ ap (λ (ps : List PlainPatch). ps ++ outline plain ∷ []) has.are ∙ sym (map_push outline front plain);
  lawful = All-push (IsLawfulPatch text) items p has.lawful lawful;
  count = one-more items p at end has.count some;
}

pub outlines-all : (ways : ReadOptions) (text : List ℕ) (ps qs : List PlainPatch) → patches_of ways text ≡ Ok ps → qs ≡ map outline ps → outlines_of ways text ≡ Ok qs
outlines-all ways text ps qs read are = ap (λ r. r >>= outlined_all) read ∙ ap Ok (sym are)

-- ---- with the piece and the old lines of each hunk

abbrev Step : Type 0
Step = PlainPatch × List OldRange × Ahead

abbrev step_ok : PlainPatch → List OldRange → Ahead → Result Step Fault
step_ok q olds behind = Ok (q, olds, behind)

pub record DigestIs (text : List ℕ) (h : Header) (q : PlainPatch) (olds : List OldRange) (behind : Ahead) : Type 0 where
  pub patch : PlainPatch
  pub read : patch_at text h ≡ Ok (patch, behind)
  pub is : q ≡ digest patch
  pub ranges : olds ≡ ranges_in patch

pub digest-is : (text : List ℕ) (h : Header) (q : PlainPatch) (olds : List OldRange) (behind : Ahead) → patch_digested text h ≡ step_ok q olds behind → DigestIs text h q olds behind
digest-is text h q olds behind read =
    let a = bind_ok (patch_at text h) digested_patch (q, olds, behind) read in
    let same : digested_step a.0 ≡ (q, olds, behind) = ok_is _ _ a.2 in
    record { patch = a.0.0; read = a.1 ∙ ap (λ (x : Step). patch_ok a.0.0 x.2) same; is = ap (λ (x : Step). x.0) (sym same); ranges = ap (λ (x : Step). x.1) (sym same) }

one-less : (k at end : ℕ) (text : List ℕ) → length text ≤ at + k → at < end → end ≤ length text → (m : ℕ) × (k ≡ suc m)
one-less zero at end text enough some high = absurd (omega (arith, enough, some, high))
one-less (suc m) at end text enough some high = (m, refl)

regions-push : (ways : ReadOptions) (text : List ℕ) (items : List FilePatch) (at number end next : ℕ) (p : FilePatch) → at < end → end ≤ length text → next_region ways text at number ≡ Some (region_of p, ahead next (lines (drop end text)))
    → AreRegions ways text items at number → AreRegions ways text (items ++ p ∷ []) end next
regions-push ways text items at number end next p some high comes so_far =
    let m = one-less so_far.most at end text so_far.enough some high in
    let one : regions_at so_far.most ways text at number ≡ region_of p ∷ regions_at m.0 ways text end next
    = ap (λ k. regions_at k ways text at number) m.1 ∙ regions-step m.0 ways text at number ∙ ap (with_later (λ q. regions_at m.0 ways text (place_before text q.rest) q.number)) comes ∙ ap (λ k. region_of p ∷ regions_at m.0 ways text k next) (place-back text end high) in
    record {
      most = m.0;
      enough = omega (arith, so_far.enough, m.1, some);
      same = ap (λ (rs : List Region). rs ++ regions_at m.0 ways text end next) (map_push region_of items p) ∙ append_assoc (map region_of items) (region_of p ∷ []) (regions_at m.0 ways text end next) ∙ ap (λ (rs : List Region). map region_of items ++ rs) (sym one) ∙ so_far.same;
    }

no-more : (most : ℕ) (ways : ReadOptions) (text : List ℕ) (at number : ℕ) → next_region ways text at number ≡ None → regions_at most ways text at number ≡ []
no-more zero ways text at number none = regions-zero ways text at number
no-more (suc most) ways text at number none = regions-step most ways text at number ∙ ap (with_later (λ p. regions_at most ways text (place_before text p.rest) p.number)) none

pub regions-all : (ways : ReadOptions) (text : List ℕ) (items : List FilePatch) (at number : ℕ) → IsEnd ways text at → AreRegions ways text items at number → map region_of items ≡ regions_of ways text
regions-all ways text items at number ends so_far = sym (append-nil (map region_of items)) ∙ ap (λ (rs : List Region). map region_of items ++ rs) (sym (no-more so_far.most ways text at number (region-none ways text at number ends))) ∙ so_far.same

digests-one : (text : List ℕ) (ps : List FilePatch) (os : List (List OldRange)) (p : FilePatch) (own : List OldRange) → AreDigests text ps os → IsDigest text p own → AreDigests text (ps ++ p ∷ []) (os ++ own ∷ [])
digests-one text [] [] p own are is = (is, tt)
digests-one text [] (o ∷ os) p own are is = absurd are
digests-one text (q ∷ ps) [] p own are is = absurd are
digests-one text (q ∷ ps) (o ∷ os) p own are is = (are.0, digests-one text ps os p own are.1 is)

pub digests-none : (ways : ReadOptions) (text : List ℕ) (items : List FilePatch) (olds : List (List OldRange)) → items ≡ [] → olds ≡ [] → HasDigests ways text [] 0 1 items olds
digests-none ways text items olds none no_olds = rw (none, no_olds) (record { are = refl; ranges = refl; digests = tt; regions = record { most = length text; enough = omega arith; same = refl }; count = omega arith })

pub digests-push : (ways : ReadOptions) (text : List ℕ) (front : List PlainPatch) (at number end next : ℕ) (items : List FilePatch) (olds : List (List OldRange)) (p : FilePatch) (own : List OldRange) (h : Header) → (d : DigestIs text h (patch_of text p) own (ahead next (lines (drop end text)))) → IsDigest text p own
    → next_region ways text at number ≡ Some (region_of p, ahead next (lines (drop end text))) → at < end → end ≤ length text → HasDigests ways text front at number items olds → HasDigests ways text (front ++ d.patch ∷ []) end next (items ++ p ∷ []) (olds ++ own ∷ [])
digests-push ways text front at number end next items olds p own h d is region some high has = record {
  are = map_push (patch_of text) items p ∙ ap (λ (q : PlainPatch). map (patch_of text) items ++ q ∷ []) d.is ∙ ap (λ (ps : List PlainPatch). ps ++ digest d.patch ∷ []) has.are ∙ sym (map_push digest front d.patch);
  ranges = ap (λ (os : List (List OldRange)). os ++ own ∷ []) has.ranges ∙ ap (λ (x : List OldRange). map ranges_in front ++ x ∷ []) d.ranges ∙ sym (map_push ranges_in front d.patch);
  digests = digests-one text items olds p own has.digests is;
  regions = regions-push ways text items at number end next p some high region has.regions;
  count = one-more items p at end has.count some;
}

abbrev all_ok : List PlainPatch → List (List OldRange) → Result (List PlainPatch × List (List OldRange)) Fault
all_ok ps os = Ok (ps, os)

pub digests-all : (ways : ReadOptions) (text : List ℕ) (ps qs : List PlainPatch) (olds : List (List OldRange)) → patches_of ways text ≡ Ok ps → qs ≡ map digest ps → olds ≡ map ranges_in ps → digests_of ways text ≡ Ok (qs, olds)
digests-all ways text ps qs olds read are ranges = ap (λ r. r >>= digested_all) read ∙ ap (λ x. all_ok x (map ranges_in ps)) (sym are) ∙ ap (all_ok qs) (sym ranges)
