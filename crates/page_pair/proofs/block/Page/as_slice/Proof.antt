-- The fields are read through the `&`, and what it holds of the bytes is the slice.
use Rattle.std.proofs.Common.{◌≡◌, ℕ, ◌*◌, ◌<◌, ◌^◌, List, [], ◌∷◌, length, refl, sym, ap, arith}
use Rattle.std.proofs.raw_atomic.Walks.{proved}
use base.Logic.{id⊢}
use base.Fml.{ftrue, fhide, flft}
use mir.Syntax.{named}
use mir.Val.{Val}
use contract.Running.{tables}
use types.Kit.{‵, ◌⊛◌, at_ret, ◌$◌, ◌∵◌, !, qed, done, move, keep, drop, use1, split, join, fsplit, fjoin, feq_i, flt_i, rewrite, suffices, frame}
use types.Part.{whole, sub, look_in, agg}
use types.Run.{enter, of_opd, load, fld, stop, and_then, no_more, first, blocks, exec, returns}
use types.ByLocal.{alloc_all, pass_all, free_all, look_at, get, sets, sets_last, through, env}
use denote.Array.{Array}
use denote.Builtin.{u8, RefOf}
use denote.Exit.{yes}
use denote.Laws.{shows}
use denote.Memory.{hidden_shr, shared_of, cell_at}
use denote.Opens.{unhide, hide}
use denote.RawPtr.{Ptr, block_ptr, block_of, count_of, in_block, in_a_block}
use denote.Ref.{ShrRef, shr_vals, shr_Tells}
use denote.Signature.{plain}
use denote.Slice.{slice_val}
use denote.Steps.{nothing, peeks, looks, shuts}
use denote.Struct.Lending.{lent_out}
use denote.Triple.Walked.{Stays, walk_of, says, stay_dropped, Goes-dropped, ends_at}
use Rattle.page_pair.specs.contracts.block.Page as page
use Rattle.page_pair.specs.contracts.block.Page.as_slice as f
use Rattle.page_pair.proofs.block.Page.as_slice.Statement.{statement}
use Rattle.page_pair.proofs.block.Page.as_slice.Code as code
use Rattle.page_pair.proofs.Owners.{words, two, words_open, words_are}
use denote.Struct.Struct.{Struct}

abbrev dropped : Stays f.ended.signature.params f.ended.kept
dropped = (stay_dropped _ yes, tt)

pub as_slice_spec : {M : Type 1} → statement M
as_slice_spec 𝓤 𝓛 𝓜 𝓡 wired =
    let clauses = f.clauses 𝓛 𝓜.mem 𝓡.returns in let walk = walk_of 𝓛 f.ended dropped clauses in let 𝓣 = tables 𝓤 𝓛.H 𝓜 𝓡 𝓡.env in
    let R = page.the_row in
    proved 𝓛 f.ended dropped clauses 𝓜 𝓡 (Goes-dropped 𝓛 1 (RefOf (0 ∷ []) tt (plain (λ _. page.the_row)) (λ _. tt)) yes (λ κs x w. refl), tt)
    f.Key.name code.function (code.unfolded 𝓤 𝓛.H 𝓜 𝓡 wired)
    (λ κs. (shr_vals, tt)) (λ κs. (shr_Tells (named 0) κs.0 R, tt)) (λ κs qs bounds a _ are.
    let b = a.0.ref_ptr.0 in let o = a.0.ref_ptr.1 in let p = a.0.now in let κ = κs.0 in let vs = shr_vals a.0 in
    let entry : walk.Ghost = ((κs, qs, bounds, a, (vs, tt)), tt) in
    let Fields = Struct (two page.struct.name) in let fields : Fields.Denot = (p.at, (p.count, tt)) in
    let small : p.count < 2 ^ 63 = p.fits in let count_fits : p.count < 2 ^ 64 = omega arith in
    qed 𝓛 (((‵ (flft κ qs.0) ⊛ ‵ ftrue) ⊛ ‵ ((ShrRef (named 0) κ R).own_val a.0 vs) ⊛ ‵ ftrue) ∷ ‵ ftrue ∷ []) ∵
    split ! $ split ! $ move ! (2 ∷ []) $ split ! $ keep ! (0 ∷ 2 ∷ []) $ fsplit ! $ drop ! $
    use1 𝓛 (‵ (hidden_shr Fields κ fields b o) ⊛ ‵ (fhide (page.the_lent p (block_ptr b o) κ))) (lent_out 𝓛 page.struct page.the_codes page.the_heap page.the_lent κ p b o) $ split ! $
    move ! (1 ∷ []) $ unhide ! $ fsplit ! $ in_a_block ! p.at (λ x. in_block x ftrue) (id⊢ 𝓤 _) (λ b' o' e. drop ! $
    rewrite ! 0 (λ (x : Ptr). ‵ (shared_of (Array u8 p.count) p.bytes (block_of x) (count_of x) κ)) e refl $ fsplit ! $ drop ! $ hide ! $
    enter ! _ _ _ _ _ $ alloc_all ! (λ l. pass_all ! refl ((tt, tt), tt) $
    move ! (1 ∷ 2 ∷ []) $ looks ! tt Fields (words_open 𝓛 page.struct.name) fields b o (λ q' us. move ! (1 ∷ []) $ peeks ! Fields _ (shows 𝓛 Fields) fields us (λ is.
    let word = words_are page.struct.name p.at p.count us is in
    rewrite ! 0 (λ (ws : List Val). ‵ (Fields.own_val fields ws)) word refl $ rewrite ! 1 (λ (ws : List Val). ‵ (cell_at q' Fields.mir ws b o)) word refl $
    rewrite ! 1 (λ (x : Ptr). ‵ (cell_at q' Fields.mir (words x p.count ∷ []) b o)) e refl $
    -- [what says the fields; the fields' cell; the way back; ..; the bytes; the locals]
    first ! $ blocks ! $
    sets ! (of_opd ! (load ! (through ! refl (fld ! refl (stop !))) (look_in ! 1 (sub ! 0 refl (whole !))))) refl (tt, tt) $
    sets ! (of_opd ! (load ! (through ! refl (fld ! refl (stop !))) (look_in ! 1 (sub ! 1 refl (whole !))))) refl (tt, record { fits = count_fits }) $
    sets_last ! (agg ! (and_then ! (get ! refl) (and_then ! (get ! refl) (no_more !)))) refl (tt, (tt, (record { fits = count_fits }, tt))) $
    exec ! 𝓣.C 𝓣.Λ (env code.Mir.locals l) code.Mir.t-2 (at_ret _ (walk.post entry)) $
    sets ! (of_opd ! (get ! refl)) refl (tt, (tt, (record { fits = count_fits }, tt))) $
    rewrite ! 1 (λ (x : Ptr). ‵ (cell_at q' Fields.mir (words x p.count ∷ []) b o)) (sym e) refl $ move ! (1 ∷ 0 ∷ []) $
    shuts ! tt Fields q' fields (words p.at p.count ∷ []) b o $
    returns ! (look_at ! 0 refl) $ free_all ! refl $ keep ! (0 ∷ 2 ∷ []) $
    -- [the token; what a `&` to each byte holds]
    let n = length p.bytes in let counted : p.count ≡ n = p.counted in let low : n < 2 ^ 64 = omega arith in let fits : n * 1 < 2 ^ 63 = omega arith in
    suffices ! _ (ends_at 𝓛 f.ended dropped clauses entry (slice_val (b', o') p.count) (record { ref_ptr = (b', o'); now = p.bytes }) (tt, tt) (tt, tt)) $ says ! refl $
    nothing ! $ move ! (1 ∷ 0 ∷ []) $ join ! $ nothing ! $ nothing ! $ join ! $ move ! (1 ∷ 0 ∷ []) $ frame ! $ frame ! $
    flt_i ! (n * 1) (2 ^ 63) fits $ flt_i ! n (2 ^ 64) low $ fjoin ! $ feq_i ! (List Val) _ (slice_val (b', o') n ∷ []) (ap (λ (k : ℕ). slice_val (b', o') k ∷ []) counted) $ fjoin ! $ fjoin ! $ done !))))
    )
