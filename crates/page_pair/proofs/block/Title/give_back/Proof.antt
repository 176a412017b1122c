-- The two pages are one room again, and it goes back with the title.
use Rattle.std.proofs.Common.{◌≡◌, ℕ, ◌+◌, ◌<◌, ◌^◌, [], ◌∷◌, refl, sym, ap, ◌∙◌, lit<, w64, arith}
use Rattle.std.proofs.raw_atomic.Walks.{proved}
use Rattle.std.proofs.alloc.Calls.{Goes-blank}
use base.Fraction.{full_share}
use base.Logic.{id⊢, emp}
use base.Fml.{ftrue, froom, flft}
use mir.Syntax.{named}
use mir.Val.{vint, vptr, vunit}
use contract.Monad.{fact, fact_i}
use contract.Running.{tables}
use prog.Wp.{WpFn}
use types.Kit.{‵, raw, ◌⊛◌, some, later, prop, at_ret, ◌$◌, ◌∵◌, !, qed, done, move, drop, use0, use1, use2, split, join, pick, await, fsplit, fjoin, feq_i, feq_l, rewrite, regoal, suffices, group}
use types.Part.{whole, sub}
use types.Run.{enter, of_opd, lit, unit_lit, fld, stop, and_then, no_more, first, blocks, exec, returns}
use types.ByLocal.{alloc_all, pass_all, free_all, look_at, get, get_in, sets, lands_last, env}
use denote.Array.{Array}
use denote.Builtin.{u8, unit, usize, RefOf}
use denote.Exit.{yes}
use denote.Plain.{uint_vals, uint_Tells, uint_Makes}
use denote.RawPtr.{Ptr, RawPtr, block_ptr, lies_at, in_a_block, rawptr_Makes}
use denote.Ref.{ShrRef, shr_vals, shr_Tells}
use denote.Signature.{plain}
use denote.Steps.{nothing, heard, owned, only}
use denote.Triple.Call.{calls_at_last}
use denote.Triple.Clauses.{lasts}
use denote.Triple.Spec.{triple_of}
use denote.Triple.Table.{framed}
use denote.Triple.Walked.{Stays, walk_of, stay_dropped, Goes-dropped, ends_at}
use Rattle.std.specs.Allocator.{HasLayout}
use Rattle.std.specs.contracts.alloc.Global.{the_row as heap}
use Rattle.std.specs.contracts.impls.GlobalAllocator.deallocate as g
use Rattle.std.proofs.impls.GlobalAllocator.deallocate.Met.{met}
use Rattle.page_pair.specs.Block.{ptr_behind, right_to_free}
use Rattle.page_pair.specs.Halves.{Fills, IsTitle}
use Rattle.page_pair.specs.contracts.block.Page.{the_row as page}
use Rattle.page_pair.specs.contracts.block.Title.{the_row as title}
use Rattle.page_pair.specs.contracts.block.Title.give_back as f
use Rattle.page_pair.proofs.Bytes.{space, laid, both_room}
use Rattle.page_pair.proofs.Owners.{words}
use Rattle.page_pair.proofs.Walking.{settled}
use Rattle.page_pair.proofs.block.Page.TheLaws as pages
use Rattle.page_pair.proofs.block.Title.TheLaws as titles
use Rattle.page_pair.proofs.block.Title.give_back.Statement.{statement}
use Rattle.page_pair.proofs.block.Title.give_back.Code as code

abbrev dropped : Stays f.ended.signature.params f.ended.kept
dropped = (stay_dropped _ yes, (stay_dropped _ yes, (stay_dropped _ yes, (stay_dropped _ yes, (stay_dropped _ yes, tt)))))

pub give_back_spec : {M : Type 1} → statement M
give_back_spec 𝓤 𝓛 𝓜 𝓡 wired =
    let clauses = f.clauses 𝓛 𝓜.mem 𝓡.returns in let walk = walk_of 𝓛 f.ended dropped clauses in let 𝓣 = tables 𝓤 𝓛.H 𝓜 𝓡 𝓡.env in
    let page_goes = Goes-blank 𝓛 1 (plain (λ _. page)) yes (λ κs x w. tt) in
    proved 𝓛 f.ended dropped clauses 𝓜 𝓡
    (Goes-blank 𝓛 1 (plain (λ _. title)) yes (λ κs x w. tt), (Goes-dropped 𝓛 1 (RefOf (0 ∷ []) tt (plain (λ _. heap)) (λ _. tt)) yes (λ κs x w. refl), (page_goes, (page_goes, (Goes-dropped 𝓛 1 (plain (λ _. usize)) yes (λ κs x w. refl), tt)))))
    f.Key.name code.function (code.unfolded 𝓤 𝓛.H 𝓜 𝓡 wired)
    (λ κs. ((λ t. titles.lowered t ∷ []), (shr_vals, ((λ p. pages.lowered p ∷ []), ((λ p. pages.lowered p ∷ []), (uint_vals w64, tt))))))
    (λ κs. (titles.lowers.val_is, (shr_Tells (named 0) κs.0 heap, (pages.lowers.val_is, (pages.lowers.val_is, (uint_Tells w64, tt)))))) (λ κs qs bounds a _ are.
    let t = a.0 in let alloc = a.1.0 in let front = a.1.1.0 in let back = a.1.1.1.0 in let count = a.1.1.1.1.0 in let κ = κs.0 in let q = qs.0 in
    let entry : walk.Ghost = ((κs, qs, bounds, a, (titles.lowered t ∷ [], (shr_vals alloc, (pages.lowered front ∷ [], (pages.lowered back ∷ [], (uint_vals w64 count, tt)))))), tt) in
    let ref = vptr alloc.ref_ptr.0 alloc.ref_ptr.1 in let Tokens = ‵ (flft κ q) ⊛ ‵ ftrue in
    qed 𝓛 ((Tokens ⊛ ‵ (title.own_val t (titles.lowered t ∷ [])) ⊛ ‵ ((ShrRef (named 0) κ heap).own_val alloc (shr_vals alloc)) ⊛ ‵ (page.own_val front (pages.lowered front ∷ [])) ⊛ ‵ (page.own_val back (pages.lowered back ∷ []))
    ⊛ ‵ (usize.own_val count (uint_vals w64 count)) ⊛ ‵ ftrue) ∷ raw (fact 𝓤 (Fills front back count × IsTitle t alloc.now count front.at)) ∷ []) ∵
    move ! (1 ∷ []) $ heard ! _ (λ ok. split ! $ move ! (1 ∷ []) $ split ! $ fsplit ! $ drop ! $ move ! (1 ∷ []) $ split ! $ move ! (1 ∷ []) $
    split ! $ fsplit ! $ drop ! $ move ! (1 ∷ []) $ split ! $ fsplit ! $ drop ! $ move ! (1 ∷ []) $ drop ! $ move ! (1 ∷ []) $
    -- [the first page's bytes; the second's; the handle; the title's right; the tokens]
    in_a_block ! front.at (λ p. lies_at (Array u8 front.count) full_share p front.bytes) (id⊢ 𝓤 _) (λ b o e.
    let n = front.count in let τ = space count in
    let small : count < 2 ^ 63 = ok.0.small in let count_fits : count < 2 ^ 64 = omega arith in let parts : count ≡ n + back.count = ok.0.whole in
    let n_fits : n < 2 ^ 64 = omega arith in let back_fits : back.count < 2 ^ 64 = omega arith in
    let second : back.at ≡ block_ptr b (n + o) = ok.0.beside ∙ ap (ptr_behind n) e in
    rewrite ! 1 (λ (p : Ptr). ‵ (lies_at (Array u8 back.count) full_share p back.bytes)) second refl $
    use2 𝓛 (‵ (froom (space (n + back.count)) b o)) (both_room 𝓛 n back.count front.bytes back.bytes b o) $ rewrite ! 0 (λ (k : ℕ). ‵ (froom (space k) b o)) (sym parts) refl $
    rewrite ! 2 (λ (k : ℕ). ‵ (right_to_free t.alloc k t.at)) ok.1.count refl $ rewrite ! 2 (λ (p : Ptr). ‵ (right_to_free t.alloc count p)) (ok.1.at ∙ e) refl $
    -- [the room; the handle; the right; the tokens]
    move ! (0 ∷ 2 ∷ []) $ fjoin ! $ use0 𝓛 (raw (fact 𝓤 (HasLayout τ count 1))) (fact_i 𝓤 (HasLayout τ count 1) (emp 𝓤) (laid count small)) $ join ! $
    nothing ! $ owned ! usize _ (uint_Makes 𝓛 w64) 1 _ (refl, lit< tt) $ fjoin ! $ owned ! usize _ (uint_Makes 𝓛 w64) count _ (refl, count_fits) $ fjoin ! $
    owned ! RawPtr _ (rawptr_Makes 𝓛) (block_ptr b o) _ refl $ fjoin ! $ move ! (2 ∷ 0 ∷ []) $ fjoin ! $ move ! (2 ∷ 0 ∷ []) $ join ! $ join ! $
    let G = triple_of 𝓛 g.signature (g.spec 𝓛 𝓜.mem 𝓡.returns) in
    let z : G.Ghost = (((κ, tt), (q, tt), tt, (alloc, (block_ptr b o, (count, (1, tt)))), (shr_vals alloc, (vptr b o ∷ [], (vint w64 count ∷ [], (vint w64 1 ∷ [], tt))))), τ) in
    use1 𝓛 (raw (G.pre z)) (id⊢ 𝓤 _) $
    regoal ! (λ (p : Ptr). prop (WpFn 𝓤 𝓛.H 𝓣.C 𝓣.Λ code.function (titles.lowered t ∷ ref ∷ words p n ∷ words back.at back.count ∷ vint w64 count ∷ []) (walk.post entry))) e refl $
    regoal ! (λ (p : Ptr). prop (WpFn 𝓤 𝓛.H 𝓣.C 𝓣.Λ code.function (titles.lowered t ∷ ref ∷ words (block_ptr b o) n ∷ words p back.count ∷ vint w64 count ∷ []) (walk.post entry))) second refl $
    enter ! _ _ _ _ _ $ alloc_all ! (λ l. pass_all ! refl ((tt, tt), ((tt, tt), ((tt, (tt, (record { fits = n_fits }, tt))), ((tt, (tt, (record { fits = back_fits }, tt))), ((tt, record { fits = count_fits }), tt))))) $
    let E = env code.Mir.locals l in
    sets ! (of_opd ! (get_in ! (fld ! refl (stop !)) (sub ! 0 refl (whole !)))) refl (tt, tt) $
    first ! $ blocks ! $
    calls_at_last ! (framed 𝓤 𝓛.H 𝓜 𝓣) G (met 𝓤 𝓛 𝓜 𝓡 (code.calls-std_heap::GlobalAllocator::deallocate 𝓡.env wired)) z
    (and_then ! (get ! refl) (and_then ! (get ! refl) (and_then ! (get ! refl) (and_then ! (lit ! tt) (no_more !))))) (λ v.
    use1 𝓛 (later (some (λ (r : Unit {0}). (Tokens ⊛ ‵ (unit.own_val r (v ∷ []))) ⊛ some (λ (ws : Unit {0} × (Unit {0} × (Unit {0} × (Unit {0} × Unit {0})))). ‵ (lasts g.ended z.0.0 z.0.3 ws) ⊛ ‵ ftrue)))) (id⊢ 𝓤 _) $
    await ! tt $ pick ! (λ r. split ! $ split ! $ move ! (1 ∷ []) $ feq_l ! (λ is_unit. move ! (1 ∷ []) $ drop ! $
    settled ! (ap only is_unit) $ lands_last ! refl (tt, tt) $
    exec ! 𝓣.C 𝓣.Λ E code.Mir.t-3 (at_ret _ (walk.post entry)) $ sets ! (of_opd ! (unit_lit !)) refl (tt, tt) $
    returns ! (look_at ! 0 refl) $ free_all ! refl $
    suffices ! _ (ends_at 𝓛 f.ended dropped clauses entry vunit tt (tt, (tt, (tt, (tt, (tt, tt))))) (tt, (tt, (tt, (tt, (tt, tt)))))) $
    nothing ! $ feq_i ! _ (vunit ∷ []) _ refl $ nothing ! $ nothing ! $ join ! $ nothing ! $ join ! $ nothing ! $ join ! $ nothing ! $ join ! $ nothing ! $ join ! $ move ! (3 ∷ []) $ group ! 3 $ done !))))))
    )
