-- The second pointer is the first one moved on, and the memory is cut where it stands.
use Rattle.std.proofs.Common.{◌≡◌, ℕ, ◌+◌, ◌-◌, ◌≤◌, ◌<◌, ◌^◌, [], ◌∷◌, refl, sym, ap, ◌∙◌, w8, w64, arith}
use Rattle.std.proofs.raw_atomic.Walks.{proved}
use Rattle.std.proofs.alloc.Calls.{Goes-blank}
use base.Logic.{id⊢}
use base.Fml.{ftrue, froom}
use mir.Syntax.{ty_int}
use mir.Val.{vint, vstruct, vcons, vnil}
use contract.Monad.{fact}
use contract.Running.{tables}
use prog.Wp.{WpFn}
use types.Kit.{‵, raw, ◌⊛◌, prop, at_ret, ◌$◌, ◌∵◌, !, qed, done, move, drop, use1, use2, split, join, fsplit, rewrite, regoal, suffices}
use types.Part.{whole, sub, agg}
use types.Run.{enter, of_opd, bin, fld, stop, and_then, no_more, first, blocks, exec, returns}
use types.ByLocal.{alloc_all, pass_all, free_all, look_at, get, get_in, sets, sets_last, env}
use denote.Builtin.{usize}
use denote.Exit.{yes}
use denote.Plain.{uint_vals, uint_Tells}
use denote.RawPtr.{Ptr, block_ptr, in_a_block, room_for}
use denote.RawPtr.Room.{past, past_bytes, room_cut}
use denote.Signature.{plain}
use denote.Steps.{nothing, heard}
use denote.Triple.Walked.{Stays, walk_of, says, stay_dropped, Goes-dropped, ends_at}
use Rattle.page_pair.specs.contracts.block.Room.cut as f
use Rattle.page_pair.specs.contracts.block.Room.{the_row as room}
use Rattle.page_pair.proofs.block.Room.TheLaws.{lowers}
use Rattle.page_pair.proofs.block.Room.cut.Statement.{statement}
use Rattle.page_pair.proofs.block.Room.cut.Code as code
use Rattle.page_pair.proofs.Bytes.{space}
use Rattle.page_pair.proofs.Owners.{words, room_in, pair_in}
use Rattle.page_pair.specs.Block.{ptr_behind}
use denote.Struct.Tuple.{Tuple}

abbrev dropped : Stays f.ended.signature.params f.ended.kept
dropped = (stay_dropped _ yes, (stay_dropped _ yes, tt))

pub cut_spec : {M : Type 1} → statement M
cut_spec 𝓤 𝓛 𝓜 𝓡 wired =
    let clauses = f.clauses 𝓛 𝓜.mem 𝓡.returns in let walk = walk_of 𝓛 f.ended dropped clauses in let 𝓣 = tables 𝓤 𝓛.H 𝓜 𝓡 𝓡.env in
    proved 𝓛 f.ended dropped clauses 𝓜 𝓡 (Goes-blank 𝓛 0 (plain (λ _. room)) yes (λ κs x w. tt), (Goes-dropped 𝓛 0 (plain (λ _. usize)) yes (λ κs x w. refl), tt))
    f.Key.name code.function (code.unfolded 𝓤 𝓛.H 𝓜 𝓡 wired)
    (λ κs. ((λ r. lowers.lowered r ∷ []), (uint_vals w64, tt))) (λ κs. (lowers.val_is, (uint_Tells w64, tt))) (λ κs qs bounds a _ are.
    let r = a.0 in let size = a.1.0 in
    let entry : walk.Ghost = ((κs, qs, bounds, a, (lowers.lowered r ∷ [], (uint_vals w64 size, tt))), tt) in
    let count_fits = are.0.0.1.1.1.0.1 in
    qed 𝓛 ((‵ ftrue ⊛ ‵ (room.own_val r (lowers.lowered r ∷ [])) ⊛ ‵ (usize.own_val size (uint_vals w64 size)) ⊛ ‵ ftrue) ∷ raw (fact 𝓤 (size ≤ r.count)) ∷ []) ∵
    move ! (1 ∷ []) $ heard ! _ (λ below. split ! $ drop ! $ split ! $ fsplit ! $ drop ! $ move ! (1 ∷ []) $ drop ! $
    in_a_block ! r.at (λ p. room_for (space r.count) p) (id⊢ 𝓤 _) (λ b o e.
    let rest = r.count - size in let size_fits : size < 2 ^ 64 = omega arith in let rest_fits : rest < 2 ^ 64 = omega arith in
    let parts : r.count ≡ size + rest = omega arith in let swap : o + size ≡ size + o = omega arith in let behind : past (ty_int w8) size o ≡ size + o = past_bytes size o ∙ swap in
    rewrite ! 0 (λ (k : ℕ). ‵ (froom (space k) b o)) parts refl $
    use1 𝓛 (‵ (froom (space size) b o) ⊛ ‵ (froom (space rest) b (past (ty_int w8) size o))) (room_cut 𝓛 (ty_int w8) size rest b o) $ split ! $
    rewrite ! 1 (λ (k : ℕ). ‵ (froom (space rest) b k)) behind refl $
    regoal ! (λ (p : Ptr). prop (WpFn 𝓤 𝓛.H 𝓣.C 𝓣.Λ code.function (words p r.count ∷ vint w64 size ∷ []) (walk.post entry))) e refl $
    enter ! _ _ _ _ _ $ alloc_all ! (λ l. pass_all ! refl ((tt, (tt, (record { fits = count_fits }, tt))), ((tt, record { fits = size_fits }), tt)) $
    -- let Room { at, count } = self;
    sets ! (of_opd ! (get_in ! (fld ! refl (stop !)) (sub ! 0 refl (whole !)))) refl (tt, tt) $
    sets ! (of_opd ! (get_in ! (fld ! refl (stop !)) (sub ! 1 refl (whole !)))) refl (tt, record { fits = count_fits }) $
    -- let behind = at.add(size);
    first ! $ blocks ! $ sets_last ! (bin ! (get ! refl) (get ! refl) tt) refl (tt, tt) $ exec ! 𝓣.C 𝓣.Λ (env code.Mir.locals l) code.Mir.t-4 (at_ret _ (walk.post entry)) $
    sets ! (of_opd ! (get ! refl)) refl (tt, tt) $
    -- let rest = count - size;
    sets ! (bin ! (get ! refl) (get ! refl) below) refl (tt, record { fits = rest_fits }) $
    sets ! (agg ! (and_then ! (get ! refl) (and_then ! (get ! refl) (no_more !)))) refl (tt, (tt, (record { fits = size_fits }, tt))) $
    sets ! (agg ! (and_then ! (get ! refl) (and_then ! (get ! refl) (no_more !)))) refl (tt, (tt, (record { fits = rest_fits }, tt))) $
    sets ! (agg ! (and_then ! (get ! refl) (and_then ! (get ! refl) (no_more !)))) refl (tt, ((tt, (record { fits = size_fits }, tt)), ((tt, (record { fits = rest_fits }, tt)), tt))) $
    returns ! (look_at ! 0 refl) $ free_all ! refl $
    -- [the first bytes; those behind]
    let front : room.Denot = record { at = block_ptr b o; count = size } in let back : room.Denot = record { at = block_ptr b (size + o); count = rest } in
    let first_words = words front.at size in let back_words = words back.at rest in
    suffices ! _ (ends_at 𝓛 f.ended dropped clauses entry (vstruct (vcons first_words (vcons back_words vnil))) (front, back) (tt, (tt, tt)) (tt, (tt, tt))) $
    says ! (sym e, refl, ap (ptr_behind size) (sym e), refl) $
    use1 𝓛 (‵ (room.own_val front (first_words ∷ []))) (room_in 𝓛 front size_fits) $ move ! (1 ∷ []) $
    use1 𝓛 (‵ (room.own_val back (back_words ∷ []))) (room_in 𝓛 back rest_fits) $ move ! (1 ∷ 0 ∷ []) $
    use2 𝓛 (‵ ((Tuple (room ∷ room ∷ [])).own_val (front, back) (vstruct (vcons first_words (vcons back_words vnil)) ∷ []))) (pair_in 𝓛 room room front back first_words back_words) $
    nothing ! $ nothing ! $ join ! $ nothing ! $ join ! $ nothing ! $ done !)))
    )
