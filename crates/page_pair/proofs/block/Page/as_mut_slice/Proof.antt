-- The open page's bytes leave as a slice; with any others in their place the rest is the page again.
use Rattle.std.proofs.Common.{◌≡◌, ℕ, ◌*◌, ◌<◌, ◌^◌, List, [], ◌∷◌, length, MutBor, refl, sym, ◌∙◌, arith}
use Rattle.std.proofs.raw_atomic.Walks.{proved}
use seplogic.Ra.Ura.{Ura}
use base.Fraction.{full_share}
use base.Logic.{ent, sep, id⊢}
use base.Fml.{Fml, GName, ftrue, fsep, flft}
use mir.Syntax.{named}
use mir.Val.{Val}
use contract.Running.{tables}
use types.Logic.{Logic, sem}
use types.Kit.{‵, raw, ◌⊛◌, some, later, at_ret, ◌$◌, ◌∵◌, !, qed, done, move, keep, use1, split, split3, join, pick, await, fsplit, fsplit3, fjoin, fpack, rewrite, suffices, frame, group}
use types.Part.{whole, sub, look_in, agg}
use types.Run.{enter, of_opd, load, fld, stop, and_then, no_more, first, blocks, exec, returns}
use types.ByLocal.{alloc_all, pass_all, free_all, look_at, get, sets, sets_last, through, env}
use types.SemTy.{cells}
use denote.Array.{Array}
use denote.Builtin.{u8}
use denote.Exit.{no}
use denote.Follow.{follows}
use denote.FollowSlice.{Elements, lends_Elements}
use denote.Laws.{shows}
use denote.Memory.{mem, part_at, part_of, cell_at}
use denote.RawPtr.{Ptr, block_ptr, lies_at, in_a_block}
use denote.RattleType.{RattleType}
use denote.Ref.{MutRef, mut_vals, mut_Tells}
use denote.Signature.{plain}
use denote.Slice.{MutSlice, slice_val}
use denote.Steps.{nothing, opens, peeks}
use denote.Struct.Struct.{Struct}
use denote.Triple.Walked.{Stays, walk_of, says, stay_dropped, Goes-spent_ref, ends_at}
use Rattle.page_pair.specs.PageLending.{with_bytes}
use Rattle.page_pair.specs.contracts.block.Page as page
use Rattle.page_pair.specs.contracts.block.Page.as_mut_slice as f
use Rattle.page_pair.proofs.block.Page.TheLaws.{lowers}
use Rattle.page_pair.proofs.block.Page.as_mut_slice.Statement.{statement}
use Rattle.page_pair.proofs.block.Page.as_mut_slice.Code as code
use Rattle.page_pair.proofs.Bytes.{cells_in, cells_out, refill_whole}
use Rattle.page_pair.proofs.Owners.{words, two}

abbrev R : RattleType
R = page.the_row

abbrev dropped : Stays f.ended.signature.params f.ended.kept
dropped = (stay_dropped _ no, tt)

abbrev Fields : RattleType
Fields = Struct (two page.struct.name)

-- all of the page but its bytes
abbrev Frame : R.Denot → ℕ → ℕ → Fml
Frame p b o = fsep (Fields.own_val (p.at, (p.count, tt)) (words p.at p.count ∷ [])) (cell_at full_share R.mir (words p.at p.count ∷ []) b o)

module _ {M : Type 1} {𝓤 : Ura M} (𝓛 : Logic 𝓤) (p : R.Denot) (b o b' o' : ℕ) (at_block : p.at ≡ block_ptr b' o') where
  back : (ws : List ℕ) → length ws ≡ length p.bytes → ent 𝓤 (sep 𝓤 (sem 𝓛 (cells (mem u8) ws b' o')) (sem 𝓛 (Frame p b o))) (sem 𝓛 ((mem R).own_at (with_bytes p ws) b o))
  unfolding part_of
  back ws e =
      let n = p.count in let q = with_bytes p ws in let long : length ws ≡ n = e ∙ sym p.counted in
      qed 𝓛 (‵ (cells (mem u8) ws b' o') ∷ ‵ (Frame p b o) ∷ []) ∵ use1 𝓛 (‵ (part_at (Array u8 n) full_share ws b' o')) (cells_in 𝓛 n ws b' o' long) $
      rewrite ! 0 (λ (bytes : List ℕ). ‵ (part_at (Array u8 n) full_share bytes b' o')) (sym (refill_whole n p.bytes ws long)) refl $
      rewrite ! 0 (λ (at : Ptr). ‵ (lies_at (Array u8 n) full_share at q.bytes)) (sym at_block) refl $
      move ! (1 ∷ []) $ fsplit ! $ move ! (0 ∷ 2 ∷ []) $ fjoin ! $ move ! (1 ∷ []) $ fjoin ! $
      fpack ! (List Val) (λ us. fsep (cell_at full_share R.mir us b o) (R.own_val q us)) (words p.at n ∷ []) $ done !

pub as_mut_slice_spec : {M : Type 1} → statement M
as_mut_slice_spec 𝓤 𝓛 𝓜 𝓡 wired =
    let clauses = f.clauses 𝓛 𝓜.mem 𝓡.returns in let walk = walk_of 𝓛 f.ended dropped clauses in let 𝓣 = tables 𝓤 𝓛.H 𝓜 𝓡 𝓡.env in
    proved 𝓛 f.ended dropped clauses 𝓜 𝓡 (Goes-spent_ref 𝓛 1 (0 ∷ []) tt (plain (λ _. R)), tt)
    f.Key.name code.function (code.unfolded 𝓤 𝓛.H 𝓜 𝓡 wired)
    (λ κs. (mut_vals, tt)) (λ κs. (mut_Tells (named 0) κs.0 R, tt)) (λ κs qs bounds a _ are.
    let b = a.0.ref_ptr.0 in let o = a.0.ref_ptr.1 in let p = a.0.now in let vs = mut_vals a.0 in
    let entry : walk.Ghost = ((κs, qs, bounds, a, (vs, tt)), tt) in
    let small : p.count < 2 ^ 63 = p.fits in let count_fits : p.count < 2 ^ 64 = omega arith in
    let n = length p.bytes in let counted : p.count ≡ n = p.counted in let low : n < 2 ^ 64 = omega arith in let fits : n * 1 < 2 ^ 63 = omega arith in
    qed 𝓛 (((‵ (flft κs.0 qs.0) ⊛ ‵ ftrue) ⊛ ‵ ((MutRef (named 0) κs.0 R).own_val a.0 vs) ⊛ ‵ ftrue) ∷ ‵ ftrue ∷ []) ∵
    split ! $ split ! $ move ! (2 ∷ []) $ split ! $ keep ! (0 ∷ 2 ∷ []) $
    enter ! _ _ _ _ _ $ alloc_all ! (λ l. pass_all ! refl ((tt, tt), tt) $
    fsplit3 ! $ move ! (1 ∷ 2 ∷ 3 ∷ []) $ opens ! tt R b o (λ us. move ! (1 ∷ []) $ peeks ! R _ (shows 𝓛 R) p us (λ is. fsplit ! $ move ! (1 ∷ []) $
    in_a_block ! p.at (λ x. lies_at (Array u8 p.count) full_share x p.bytes) (id⊢ 𝓤 _) (λ b' o' e.
    let word = lowers.val_is p us is in
    rewrite ! 1 (λ (ws : List Val). ‵ (Fields.own_val (p.at, (p.count, tt)) ws)) word refl $ rewrite ! 2 (λ (ws : List Val). ‵ (cell_at full_share R.mir ws b o)) word refl $
    rewrite ! 2 (λ (x : Ptr). ‵ (cell_at full_share R.mir (words x p.count ∷ []) b o)) e refl $
    -- [the bytes; what says the fields; the fields' cell; the open borrow, in three entries; ..; the locals]
    first ! $ blocks ! $
    sets ! (of_opd ! (load ! (through ! refl (fld ! refl (stop !))) (look_in ! 2 (sub ! 0 refl (whole !))))) refl (tt, tt) $
    sets ! (of_opd ! (load ! (through ! refl (fld ! refl (stop !))) (look_in ! 2 (sub ! 1 refl (whole !))))) refl (tt, record { fits = count_fits }) $
    sets_last ! (agg ! (and_then ! (get ! refl) (and_then ! (get ! refl) (no_more !)))) refl (tt, (tt, (record { fits = count_fits }, tt))) $
    exec ! 𝓣.C 𝓣.Λ (env code.Mir.locals l) code.Mir.t-2 (at_ret _ (walk.post entry)) $
    sets ! (of_opd ! (get ! refl)) refl (tt, (tt, (record { fits = count_fits }, tt))) $
    rewrite ! 2 (λ (x : Ptr). ‵ (cell_at full_share R.mir (words x p.count ∷ []) b o)) (sym e) refl $
    use1 𝓛 (‵ (cells (mem u8) p.bytes b' o')) (cells_out 𝓛 p.count p.bytes b' o') $ move ! (1 ∷ 2 ∷ []) $ fjoin ! $ move ! (2 ∷ 3 ∷ 4 ∷ 1 ∷ 0 ∷ []) $ group ! 5 $
    use1 𝓛 (later (some (λ (γ : GName). raw (Elements 𝓛 R u8 (with_bytes p) (named 0) κs.0 qs.0 b o b' o' a.0.ghost_name p.bytes (low, fits) (sem 𝓛 (Frame p b o)) (back 𝓛 p b o b' o' e) γ))))
    (lends_Elements 𝓛 R u8 (with_bytes p) (named 0) κs.0 qs.0 b o b' o' a.0.ghost_name p.bytes (low, fits) (sem 𝓛 (Frame p b o)) (back 𝓛 p b o b' o' e) (R.coded.code p) (R.coded.code p)) $ await ! tt $ pick ! (λ γ.
    returns ! (look_at ! 0 refl) $ free_all ! refl $ keep ! (0 ∷ []) $
    let lent : MutBor (List ℕ) = record { ref_ptr = (b', o'); ghost_name = γ; now = p.bytes } in
    let Lent : ℕ → Fml = λ k. (MutSlice (named 0) κs.0 u8).own_val lent (slice_val (b', o') k ∷ []) in
    use1 𝓛 (‵ (Lent n) ⊛ ‵ (flft κs.0 qs.0) ⊛ ‵ (follows R (Array u8 0) a.0.ghost_name γ (with_bytes p))) (id⊢ 𝓤 _) $ split3 ! $
    rewrite ! 0 (λ (k : ℕ). ‵ (Lent k)) (sym counted) refl $
    -- [the slice; the token; what the page follows]
    suffices ! _ (ends_at 𝓛 f.ended dropped clauses entry (slice_val (b', o') p.count) lent (tt, tt) (tt, tt)) $
    nothing ! $ nothing ! $ join ! $ nothing ! $ move ! (3 ∷ 0 ∷ []) $ join ! $ move ! (0 ∷ 1 ∷ 2 ∷ 3 ∷ []) $ group ! 3 $ frame ! $ says ! refl $ done !)))))
    )
