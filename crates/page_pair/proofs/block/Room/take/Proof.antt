-- The allocator's block is the room, and the right to free it the title.
use Rattle.std.proofs.Common.{◌≡◌, ℕ, ◌<◌, ◌^◌, List, [], ◌∷◌, ◌++◌, refl, ap, ◌∙◌, lit<, w64, arith}
use Rattle.std.proofs.raw_atomic.Walks.{proved}
use Rattle.std.proofs.alloc.Shapes.{arm_body}
use Rattle.std.proofs.ResultValues.{ok_of, err_of}
use seplogic.Ra.Ura.{Ura}
use base.Logic.{id⊢, emp}
use base.Fml.{Fml, ftrue, froom, flft}
use mir.Syntax.{Ty, named}
use mir.Val.{Val, vint, vptr, vstruct, vcons, vnil, of_list}
use contract.Monad.{fact, fact_i}
use contract.Running.{tables}
use prog.Wp.{Wp, at_return, after_seq}
use types.Logic.{Logic}
use types.Kit.{Goal, Item, Seq, any_q, ‵, raw, ◌⊛◌, some, later, at_ret, ◌$◌, ◌∵◌, !, qed, done, move, drop, use0, use1, use2, split, join, pick, await, fsplit, fjoin, rewrite, suffices}
use types.Part.{whole, agg}
use types.Match.{live, vrt, in_variant}
use types.Run.{enter, of_opd, lit, fld, stop, and_then, no_more, first, switches_on, exec, returns}
use types.ByLocal.{alloc_all, pass_all, free_all, look_at, get, get_in, get_tag, sets, sets_last, lands_as, env}
use denote.Builtin.{usize, RefOf}
use denote.Exit.{yes}
use denote.Laws.{shows}
use denote.Plain.{uint_vals, uint_Tells, uint_Makes}
use denote.RattleType.{RattleType}
use denote.RawPtr.{Ptr, RawPtr, block_ptr, ptr_val, room_for, in_a_block}
use denote.Ref.{ShrRef, shr_vals, shr_Tells}
use denote.Signature.{plain}
use denote.Steps.{nothing, heard, owned, only, peeks}
use denote.Struct.Declared.{shape}
use denote.Struct.Tuple.{Tuple}
use denote.Triple.Call.{calls_at}
use denote.Triple.Clauses.{lasts}
use denote.Triple.Spec.{triple_of}
use denote.Triple.Table.{framed}
use denote.Triple.Walked.{Stays, walk_of, says, stay_dropped, Goes-dropped, ends_at}
use Rattle.std.specs.Allocator.{HasLayout, block_if_ok}
use Rattle.std.specs.declared.result.Result.TheVariants.{Ok, Err}
use Rattle.std.specs.declared.alloc.AllocError.{AllocError}
use Rattle.std.specs.contracts.result.Result as results
use Rattle.std.specs.contracts.alloc.AllocError as refusal
use Rattle.std.specs.contracts.alloc.Global.{the_row as heap}
use Rattle.std.specs.contracts.impls.GlobalAllocator.TheImpl.{ghosts}
use Rattle.std.specs.contracts.impls.GlobalAllocator.allocate as g
use Rattle.std.proofs.impls.GlobalAllocator.allocate.Met.{met}
use Rattle.page_pair.specs.contracts.block.Room.{the_row as room}
use Rattle.page_pair.specs.contracts.block.Title.{the_row as title}
use Rattle.page_pair.specs.contracts.block.Room.take as f
use Rattle.page_pair.proofs.Bytes.{space, laid}
use Rattle.page_pair.proofs.Owners.{words, room_in, title_in, pair_in, fields_in}
use Rattle.page_pair.proofs.block.Room.take.Statement.{statement}
use Rattle.page_pair.proofs.block.Room.take.Code as code

abbrev dropped : Stays f.ended.signature.params f.ended.kept
dropped = (stay_dropped _ yes, (stay_dropped _ yes, tt))

abbrev Answer : RattleType
Answer = results.the_row RawPtr refusal.the_row

-- the machine's words of either answer
abbrev given : ℕ → ℕ → Val
given b o = live 0 (vcons (vptr b o) vnil)

abbrev refused : Val
refused = live 1 (vcons (vstruct vnil) vnil)

only_is : {u v : Val} → u ∷ [] ≡ v ∷ [] → u ≡ v
only_is e = ap only e

module _ {M : Type 1} {𝓤 : Ura M} {𝓛 : Logic 𝓤} {K : Type 0} {Γ : List (Item 𝓤)} {G : Goal 𝓤 𝓛.H} where
  answered : K → (holds : Ty → Ptr → Fml) (τ : Ty) (r : Answer.Denot) (v : Val)
      → ((b o : ℕ) → v ≡ given b o → Seq K 𝓛 (‵ (froom τ b o) ∷ ‵ (holds τ (block_ptr b o)) ∷ Γ) G) → (v ≡ refused → Seq K 𝓛 Γ G)
      → Seq K 𝓛 (‵ (Answer.own_val r (v ∷ [])) ∷ ‵ (block_if_ok holds τ r) ∷ Γ) G
  answered t holds τ (Ok p) v ok none = peeks t Answer _ (shows 𝓛 Answer) (Ok p) (v ∷ []) (λ is.
      let word = only_is (is.1.0 ∙ ap (λ (us : List Val). live 0 (of_list us) ∷ []) (is.1.1.1.0 ∙ ap (λ (us : List Val). us ++ []) is.1.1.1.1.0)) in
      drop t $ fsplit t $ in_a_block t p (λ (x : Ptr). room_for τ x) (id⊢ 𝓤 _) (λ b o e. rewrite t 1 (λ (x : Ptr). ‵ (holds τ x)) e refl $ ok b o (word ∙ ap (λ (x : Ptr). live 0 (vcons (ptr_val x) vnil)) e)))
  answered t holds τ (Err x) v ok none = peeks t Answer _ (shows 𝓛 Answer) (Err x) (v ∷ []) (λ is.
      let word = only_is (is.1.0 ∙ ap (λ (us : List Val). live 1 (of_list us) ∷ []) (is.1.1.1.0 ∙ ap (λ (us : List Val). us ++ []) is.1.1.1.1.0.1.0)) in
      drop t $ drop t $ none word)

pub take_spec : {M : Type 1} → statement M
take_spec 𝓤 𝓛 𝓜 𝓡 wired =
    let clauses = f.clauses 𝓛 𝓜.mem 𝓡.returns in let walk = walk_of 𝓛 f.ended dropped clauses in let 𝓣 = tables 𝓤 𝓛.H 𝓜 𝓡 𝓡.env in
    proved 𝓛 f.ended dropped clauses 𝓜 𝓡 (Goes-dropped 𝓛 1 (RefOf (0 ∷ []) tt (plain (λ _. heap)) (λ _. tt)) yes (λ κs x w. refl), (Goes-dropped 𝓛 1 (plain (λ _. usize)) yes (λ κs x w. refl), tt))
    f.Key.name code.function (code.unfolded 𝓤 𝓛.H 𝓜 𝓡 wired)
    (λ κs. (shr_vals, (uint_vals w64, tt))) (λ κs. (shr_Tells (named 0) κs.0 heap, (uint_Tells w64, tt))) (λ κs qs bounds a _ are.
    let alloc = a.0 in let count = a.1.0 in let κ = κs.0 in let q = qs.0 in let τ = space count in let Tokens = ‵ (flft κ q) ⊛ ‵ ftrue in
    let entry : walk.Ghost = ((κs, qs, bounds, a, (shr_vals alloc, (uint_vals w64 count, tt))), tt) in
    let G = triple_of 𝓛 g.signature (g.spec 𝓛 𝓜.mem 𝓡.returns) in
    let z : G.Ghost = (((κ, tt), (q, tt), tt, (alloc, (count, (1, tt))), (shr_vals alloc, (vint w64 count ∷ [], (vint w64 1 ∷ [], tt)))), τ) in
    qed 𝓛 ((Tokens ⊛ ‵ ((ShrRef (named 0) κ heap).own_val alloc (shr_vals alloc)) ⊛ ‵ (usize.own_val count (uint_vals w64 count)) ⊛ ‵ ftrue) ∷ raw (fact 𝓤 (count < 2 ^ 63)) ∷ []) ∵
    move ! (1 ∷ []) $ heard ! _ (λ small. let fits : count < 2 ^ 64 = omega arith in split ! $ move ! (1 ∷ []) $ split ! $ move ! (1 ∷ []) $ drop ! $
    -- [the handle; the token]
    use0 𝓛 (raw (fact 𝓤 (HasLayout τ count 1))) (fact_i 𝓤 (HasLayout τ count 1) (emp 𝓤) (laid count small)) $
    nothing ! $ owned ! usize _ (uint_Makes 𝓛 w64) 1 _ (refl, lit< tt) $ fjoin ! $ owned ! usize _ (uint_Makes 𝓛 w64) count _ (refl, fits) $ fjoin ! $
    move ! (2 ∷ 0 ∷ []) $ fjoin ! $ move ! (2 ∷ 0 ∷ []) $ join ! $ join ! $ use1 𝓛 (raw (G.pre z)) (id⊢ 𝓤 _) $
    enter ! _ _ _ _ _ $ alloc_all ! (λ l. pass_all ! refl ((tt, tt), ((tt, record { fits = fits }), tt)) $
    let E = env code.Mir.locals l in let Post = walk.post entry in let Rest = any_q (after_seq 𝓤 𝓛.H (Wp 𝓤 𝓛.H 𝓣.C 𝓣.Λ E code.Mir.t-3 (at_return 𝓤 𝓛.H E Post)) (at_return 𝓤 𝓛.H E Post)) in
    calls_at ! (framed 𝓤 𝓛.H 𝓜 𝓣) G (met 𝓤 𝓛 𝓜 𝓡 (code.calls-std_heap::GlobalAllocator::allocate 𝓡.env wired)) z (and_then ! (get ! refl) (and_then ! (get ! refl) (and_then ! (lit ! tt) (no_more !)))) (λ v.
    use1 𝓛 (later (some (λ (r : Answer.Denot). (Tokens ⊛ ‵ (Answer.own_val r (v ∷ []))) ⊛ some (λ (ws : Unit {0} × (Unit {0} × (Unit {0} × Unit {0}))). ‵ (lasts g.ended z.0.0 z.0.3 ws) ⊛ ‵ (block_if_ok (λ σ p. ghosts.dealloc_token alloc.now σ p) τ r))))) (id⊢ 𝓤 _) $
    await ! tt $ pick ! (λ r. split ! $ move ! (1 ∷ []) $ pick ! (λ ws. split ! $ drop ! $ move ! (1 ∷ []) $ split ! $ move ! (1 ∷ 2 ∷ []) $
    answered ! (λ σ p. ghosts.dealloc_token alloc.now σ p) τ r v
    (λ b o e.
    lands_as ! e refl (tt, (record { fits = lit< tt }, (tt, tt))) $ first ! $ switches_on ! (get_tag ! (vrt ! refl (fld ! refl (stop !))) (whole !)) $ exec ! 𝓣.C 𝓣.Λ E (arm_body 0 code.Mir.s-2) Rest $
    sets ! (of_opd ! (get_in ! (vrt ! refl (fld ! refl (stop !))) (in_variant ! 0 0 refl refl (whole !)))) refl (tt, tt) $
    sets ! (agg ! (and_then ! (get ! refl) (and_then ! (get ! refl) (no_more !)))) refl (tt, (tt, (record { fits = fits }, tt))) $
    sets ! (agg ! (no_more !)) refl (tt, tt) $
    sets ! (agg ! (and_then ! (get ! refl) (and_then ! (get ! refl) (no_more !)))) refl (tt, ((tt, (record { fits = fits }, tt)), (tt, tt))) $
    sets_last ! (agg ! (and_then ! (lit ! tt) (and_then ! (get ! refl) (no_more !)))) refl (tt, (record { fits = lit< tt }, (((tt, (record { fits = fits }, tt)), (tt, tt)), tt))) $
    exec ! 𝓣.C 𝓣.Λ E code.Mir.t-3 (at_ret E Post) $
    sets ! (of_opd ! (get ! refl)) refl (tt, (record { fits = lit< tt }, (((tt, (record { fits = fits }, tt)), (tt, tt)), tt))) $
    returns ! (look_at ! 0 refl) $ free_all ! refl $
    -- [the room; the right; the token]
    let r' : room.Denot = record { at = block_ptr b o; count = count } in let t' : title.Denot = record { alloc = alloc.now; at = block_ptr b o; count = count } in
    let both = vstruct (vcons (words (block_ptr b o) count) (vcons (vstruct vnil) vnil)) in
    suffices ! _ (ends_at 𝓛 f.ended dropped clauses entry (live 0 (vcons both vnil)) (Ok (r', t')) (tt, (tt, tt)) (tt, (tt, tt))) $
    says ! (record { counted = refl; titled = record { alloc = refl; count = refl; at = refl } }) $
    use1 𝓛 (‵ (room.own_val r' (words r'.at count ∷ []))) (room_in 𝓛 r' fits) $ move ! (1 ∷ []) $ use1 𝓛 (‵ (title.own_val t' (vstruct vnil ∷ []))) (title_in 𝓛 t') $ move ! (1 ∷ 0 ∷ []) $
    use2 𝓛 (‵ ((Tuple (room ∷ title ∷ [])).own_val (r', t') (both ∷ []))) (pair_in 𝓛 room title r' t' (words r'.at count) (vstruct vnil)) $
    use1 𝓛 (‵ ((results.the_row (Tuple (room ∷ title ∷ [])) refusal.the_row).own_val (Ok (r', t')) (live 0 (vcons both vnil) ∷ []))) (ok_of 𝓛 (Tuple (room ∷ title ∷ [])) refusal.the_row (r', t') both) $
    nothing ! $ nothing ! $ join ! $ nothing ! $ join ! $ move ! (2 ∷ []) $ done !)
    (λ e.
    lands_as ! e refl (tt, (record { fits = lit< tt }, (tt, tt))) $ first ! $ switches_on ! (get_tag ! (vrt ! refl (fld ! refl (stop !))) (whole !)) $ exec ! 𝓣.C 𝓣.Λ E (arm_body 1 code.Mir.s-2) Rest $
    sets ! (of_opd ! (get_in ! (vrt ! refl (fld ! refl (stop !))) (in_variant ! 1 0 refl refl (whole !)))) refl (tt, tt) $
    sets_last ! (agg ! (and_then ! (lit ! tt) (and_then ! (get ! refl) (no_more !)))) refl (tt, (record { fits = lit< tt }, (tt, tt))) $
    exec ! 𝓣.C 𝓣.Λ E code.Mir.t-3 (at_ret E Post) $ sets ! (of_opd ! (get ! refl)) refl (tt, (record { fits = lit< tt }, (tt, tt))) $
    returns ! (look_at ! 0 refl) $ free_all ! refl $
    let none : AllocError = record {} in
    suffices ! _ (ends_at 𝓛 f.ended dropped clauses entry refused (Err none) (tt, (tt, tt)) (tt, (tt, tt))) $ says ! tt $
    nothing ! $ use1 𝓛 (‵ (refusal.the_row.own_val none (vstruct vnil ∷ []))) (fields_in 𝓛 (shape refusal.the_type) tt tt) $
    use1 𝓛 (‵ ((results.the_row (Tuple (room ∷ title ∷ [])) refusal.the_row).own_val (Err none) (refused ∷ []))) (err_of 𝓛 (Tuple (room ∷ title ∷ [])) refusal.the_row none (vstruct vnil)) $
    nothing ! $ nothing ! $ join ! $ nothing ! $ join ! $ move ! (2 ∷ []) $ done !))))))
    )
