-- File patches without their hunks are refused as they are with them.
use Rattle.std.proofs.Common.{◌≡◌, ℕ, Bool, true, false, cond, not, ◌&&◌, if◌then◌else◌, List, [], ◌∷◌, ◌++◌, length, map, None, Some, Result, Ok, Err, IfOk, refl, subst, sym, ap, ◌∙◌, option_map}
use Rattle.std.specs.Prelude.{◌==◌, ◌||◌, is_some, nat_lt}
use Rattle.std.specs.List.{find, list_any}
use Rattle.std.specs.Option.{option_to_list}
use Rattle.std.proofs.lemmas.List.{length-map}
use Rattle.line_list.specs.Completed.{completed}
use Rattle.hunk_core.proofs.ReadSteps.{bind_ok, ok_is}
use Rattle.unified_form.specs.declared.hunk_scan.OldRange.{OldRange}
use Rattle.read_file_patch.specs.PlainPatch.{PlainChange, PlainHeader, PlainPatch, hunks, patch_of, script, is_script}
use Rattle.patch_options.specs.PlainJob.{PlainOptions}
use Rattle.read_file_patch.specs.Numbered.{distinct}
use Rattle.read_file_patch.specs.Targets.{is_reserved}
use Rattle.read_patch_text.specs.Patches.{patches_of}
use Rattle.read_patch_text.specs.Digests.{AreDigests, digest, digested_all, digests_of, no_hunks}
use Rattle.read_patch_text.specs.Outlines.{only_hunk, outline, outlined_all, outlines_of}
use Rattle.read_patch_text.specs.Regions.{region_of, regions_of}
use Rattle.patch_set.specs.declared.fault.SetFault.{SetFault}
use Rattle.patch_set.specs.declared.fault.SetFault.TheVariants as faults
use Rattle.patch_set.specs.Asked.{ways_of}
use Rattle.patch_set.specs.Named.{names_of, known_names, patch_names, targets_of}
use Rattle.patch_set.specs.Refusals.{first_of, garbage, out_many, ed_reverse, has_reserved, reserves_output, reserved, is_too_long, refusal, refusal_of}
use Rattle.patch_set.proofs.Completing.{read-refusal}
use Rattle.filter_choice.specs.Digested.{DigestView, IsDigestOf}
use Rattle.filter_choice.specs.Outlined.{OutlineView, IsOutline}

same-script : (c : PlainChange) → is_script (only_hunk c) ≡ is_script c
same-script (hunks []) = refl
same-script (hunks (h ∷ [])) = refl
same-script (hunks (h ∷ i ∷ hs)) = refl
same-script (script es) = refl

bare-script : (c : PlainChange) → is_script (no_hunks c) ≡ is_script c
bare-script (hunks hs) = refl
bare-script (script es) = refl

-- ---- file patches with less of their changes, but as scripts where these are scripts

module _ (lean : PlainPatch → PlainPatch) (headed : (p : PlainPatch) → (lean p).header ≡ p.header) (sorted : (p : PlainPatch) → is_script (lean p).change ≡ is_script p.change) where
  -- what is found first by its header is found so
  found : (test other : PlainPatch → Bool) (f : PlainPatch → SetFault) (ps : List PlainPatch) → ((p : PlainPatch) → other (lean p) ≡ test p) → ((p : PlainPatch) → f (lean p) ≡ f p) → option_map f (find other (map lean ps)) ≡ option_map f (find test ps)
  found test other f [] same is = refl
  found test other f (p ∷ ps) same is = ap (λ b. option_map f (cond b (Some (lean p)) (find other (map lean ps)))) (same p) ∙ by (test p) (found test other f ps same is)
    where
      by : (b : Bool) → option_map f (find other (map lean ps)) ≡ option_map f (find test ps) → option_map f (cond b (Some (lean p)) (find other (map lean ps))) ≡ option_map f (cond b (Some p) (find test ps))
      by true later = ap Some (is p)
      by false later = later

  same-names : (o : PlainOptions) (ps : List PlainPatch) → patch_names o (map lean ps) ≡ patch_names o ps
  same-names o [] = refl
  same-names o (p ∷ ps) = ap (λ h. names_of o h ++ patch_names o (map lean ps)) (headed p) ∙ ap (λ (names : List (List ℕ)). names_of o p.header ++ names) (same-names o ps)

  same-known : (o : PlainOptions) (ps : List PlainPatch) → known_names o (map lean ps) ≡ known_names o ps
  same-known o ps = ap (λ (names : List (List ℕ)). distinct (names ++ option_to_list o.output)) (same-names o ps)

  same-reserved : (o : PlainOptions) (ps : List PlainPatch) → reserved o (map lean ps) ≡ reserved o ps
  same-reserved o ps =
      let known = known_names o ps in
      ap (λ known. option_map (λ p. faults.Reserved p.header.opening) (find (λ p. has_reserved o known p || reserves_output o known) (map lean ps))) (same-known o ps)
      ∙ found (λ p. has_reserved o known p || reserves_output o known) (λ p. has_reserved o known p || reserves_output o known) (λ p. faults.Reserved p.header.opening) ps
      (λ p. ap (λ h. list_any is_reserved (targets_of o known h) || reserves_output o known) (headed p)) (λ p. ap (λ (h : PlainHeader). faults.Reserved h.opening) (headed p))

  same-reverse : (o : PlainOptions) (ps : List PlainPatch) → ed_reverse o (map lean ps) ≡ ed_reverse o ps
  same-reverse o ps = ap (λ found. if o.reverse then found else None) (found (λ p. is_script p.change) (λ p. is_script p.change) (λ p. faults.EdReverse p.header.opening) ps sorted (λ p. ap (λ (h : PlainHeader). faults.EdReverse h.opening) (headed p)))

  same-refusal : (o : PlainOptions) (text : List ℕ) (ps : List PlainPatch) → refusal_of o text (Ok (map lean ps)) ≡ refusal_of o text (Ok ps)
  same-refusal o text ps =
      ap (λ n. first_of ((if n == 0 && not (length text == 0) then Some faults.Garbage else None) ∷ (if is_some o.output && nat_lt 1 n then Some (faults.OutMany n) else None) ∷ ed_reverse o (map lean ps) ∷ reserved o (map lean ps) ∷ [])) (length-map ps lean)
      ∙ ap (λ r. first_of (garbage text ps ∷ out_many o ps ∷ r ∷ reserved o (map lean ps) ∷ [])) (same-reverse o ps)
      ∙ ap (λ r. first_of (garbage text ps ∷ out_many o ps ∷ ed_reverse o ps ∷ r ∷ [])) (same-reserved o ps)

-- ---- those that were read

-- the refusal of the file patches that were read without their hunks is that of the text
pub outline-refusal : (o : PlainOptions) (text whole : List ℕ) (qs : List PlainPatch) → is_too_long text ≡ false → whole ≡ completed text → outlines_of (ways_of o) whole ≡ Ok qs → refusal_of o whole (Ok qs) ≡ refusal o text
outline-refusal o text whole qs short is read =
    let a = bind_ok (patches_of (ways_of o) whole) outlined_all qs read in
    ap (λ (rs : List PlainPatch). refusal_of o whole (Ok rs)) (sym (ok_is _ _ a.2)) ∙ same-refusal outline (λ p. refl) (λ p. same-script p.change) o whole a.0 ∙ read-refusal o text whole a.0 short is a.1

pub digest-refusal : (o : PlainOptions) (text whole : List ℕ) (qs : List PlainPatch) (olds : List (List OldRange)) → is_too_long text ≡ false → whole ≡ completed text → digests_of (ways_of o) whole ≡ Ok (qs, olds) → refusal_of o whole (Ok qs) ≡ refusal o text
digest-refusal o text whole qs olds short is read =
    let a = bind_ok (patches_of (ways_of o) whole) digested_all (qs, olds) read in
    let same : map digest a.0 ≡ qs = ap (λ (x : List PlainPatch × List (List OldRange)). x.0) (ok_is _ _ a.2) in
    ap (λ (rs : List PlainPatch). refusal_of o whole (Ok rs)) (sym same) ∙ same-refusal digest (λ p. refl) (λ p. bare-script p.change) o whole a.0 ∙ read-refusal o text whole a.0 short is a.1

-- what is given is the outline of the text, where its text and its file patches are those that were read
pub is-outline : (o : PlainOptions) (given text : List ℕ) (ps : List PlainPatch) (r : Result OutlineView SetFault) → text ≡ completed given → outlines_of (ways_of o) text ≡ Ok ps
    → IfOk r (λ v. v.text ≡ text) → IfOk r (λ v. map (patch_of text) v.patches ≡ ps) → IfOk r (IsOutline o given)
is-outline o given text ps (Ok v) whole read same plain = record {
  text = same ∙ whole;
  patches = subst (λ t. outlines_of (ways_of o) t ≡ Ok (map (patch_of t) v.patches)) (sym same) (read ∙ ap (λ (qs : List PlainPatch). Ok qs) (sym plain));
}
is-outline o given text ps (Err e) whole read same plain = tt

pub is-digest : (o : PlainOptions) (given text : List ℕ) (ps : List PlainPatch) (olds : List (List OldRange)) (r : Result DigestView SetFault) → text ≡ completed given → digests_of (ways_of o) text ≡ Ok (ps, olds)
    → IfOk r (λ v. v.text ≡ text) → IfOk r (λ v. map (patch_of text) v.patches ≡ ps) → IfOk r (λ v. v.olds ≡ olds) → IfOk r (λ v. map region_of v.patches ≡ regions_of (ways_of o) text)
    → IfOk r (λ v. AreDigests text v.patches v.olds) → IfOk r (IsDigestOf o given)
is-digest o given text ps olds (Ok v) whole read same plain ranges regions are = record {
  text = same ∙ whole;
  patches = subst (λ t. digests_of (ways_of o) t ≡ Ok (map (patch_of t) v.patches, v.olds)) (sym same) (read ∙ (ap (λ (qs : List PlainPatch). Ok (qs, olds)) (sym plain) ∙ ap (λ (os : List (List OldRange)). Ok (map (patch_of text) v.patches, os)) (sym ranges)));
  regions = subst (λ t. map region_of v.patches ≡ regions_of (ways_of o) t) (sym same) regions;
  are = subst (λ t. AreDigests t v.patches v.olds) (sym same) are;
}
is-digest o given text ps olds (Err e) whole read same plain ranges regions are = tt

-- want of memory that is passed on
pub memory-of : {R S P : Type 0} (fault : SetFault) → (◌≡◌ {A = Result R SetFault} (Err fault) (Err faults.Memory) → P) → ◌≡◌ {A = Result S SetFault} (Err fault) (Err faults.Memory) → P
memory-of fault law is = law (let same : fault ≡ faults.Memory = cc in ap (λ (e : SetFault). Err e) same)
