-- Each turn of the loop takes a byte of room to the zeros before it.
use Rattle.std.proofs.Common.{◌≡◌, ℕ, zero, suc, ◌+◌, ◌≤◌, ◌<◌, ◌^◌, List, [], ◌∷◌, length, refl, sym, lit<, nltb→le, w8, w64, arith}
use Rattle.std.proofs.VecSteps.Shapes.{after}
use Rattle.std.proofs.raw_atomic.Walks.{proved}
use Rattle.std.proofs.alloc.Calls.{Goes-blank}
use Rattle.std.proofs.lemmas.List.{length-replicate}
use Rattle.std.specs.Prelude.{replicate}
use mathlib.Core.WellFounded.InvImage
use lib.Dec.{ltb→lt}
use native.Mathlib.Nat.{not-suc-le-zero}
use lib.WfN.{lt-wf_rel}
use seplogic.Ra.Ura.{Ura}
use base.Fraction.{full_share}
use base.Logic.{SProp, ent, id⊢}
use base.Fml.{ftrue, froom}
use mir.Syntax.{ty_int}
use mir.Val.{Val, vint, vptr}
use contract.Monad.{fact}
use contract.Running.{tables, tables_of}
use prog.Wp.{Env, Out, Wp, WpFn, Tables, at_return, after_seq, after_block, after_turn}
use types.Logic.{Logic, sem}
use types.Kit.{Item, Sq, any_q, runs, ‵, raw, ◌⊛◌, prop, at_ret, ◌$◌, ◌∵◌, !, qed, done, move, drop, use1, use2, split, join, fsplit, fjoin, feq_i, rewrite, regoal, suffices, by}
use types.Part.{whole, sub, agg}
use types.Run.{enter, of_opd, bin, lit, fld, stop, and_then, no_more, init, assigns_last, first, blocks, branches, skips, jumps, exec, returns, loops, again, Below}
use types.ByLocal.{alloc_all, pass_all, free_all, look_at, get, get_in, through, sets, sets_last, env, holding, forget_but}
use denote.Array.{Array}
use denote.Builtin.{u8}
use denote.Exit.{yes}
use denote.Memory.{part_at}
use denote.Plain.{uint_in}
use denote.RawPtr.{Ptr, block_ptr, in_a_block, room_for}
use denote.RawPtr.Bytes.{bytes, bytes_whole}
use denote.Signature.{plain}
use denote.Steps.{nothing, heard}
use denote.Triple.Walked.{Stays, walk_of, says, stay_dropped, ends_at}
use Rattle.page_pair.specs.contracts.block.Page.{the_row as page}
use Rattle.page_pair.specs.contracts.block.Room.{the_row as room}
use Rattle.page_pair.specs.contracts.block.Room.zeroed as f
use Rattle.page_pair.proofs.Bytes.{space, zero_in}
use Rattle.page_pair.proofs.Owners.{words, page_in}
use Rattle.page_pair.proofs.block.Room.TheLaws.{lowers}
use Rattle.page_pair.proofs.block.Room.zeroed.Statement.{statement}
use Rattle.page_pair.proofs.block.Room.zeroed.Code as code

abbrev dropped : Stays f.ended.signature.params f.ended.kept
dropped = (stay_dropped _ yes, tt)

-- how many bytes are zero, and how many are left
abbrev Count : ℕ → Type 0
Count n = (i : ℕ) × (m : ℕ) × (i + m ≡ n)

abbrev Less : {n : ℕ} → Count n → Count n → Type 0
Less t u = t.1 < u.1

module _ {M : Type 1} {𝓤 : Ura M} (𝓛 : Logic 𝓤) (𝓣 : Tables 𝓤 𝓛.H) (n b o : ℕ) (fits : n < 2 ^ 63) (small : n < 2 ^ 64) (l : ℕ → ℕ) (Post : Val → SProp 𝓤)
    (ends : ent 𝓤 (sem 𝓛 (bytes full_share (replicate n 0) b o)) (Post (words (block_ptr b o) n))) where
  abbrev E : Env 𝓤 𝓛.H
  E = env code.Mir.locals l

  abbrev Now : Count n → List (Item 𝓤)
  Now t = ‵ (bytes full_share (replicate t.0 0) b o) ∷ ‵ (froom (space t.1) b (t.0 + o)) ∷ holding 𝓛 E ((1, words (block_ptr b o) n) ∷ (2, vptr b o) ∷ (3, vint w64 n) ∷ (4, vint w64 t.0) ∷ [])

  abbrev Turned : Count n → Out → SProp 𝓤
  Turned t = after_turn 𝓤 𝓛.H (Below 𝓛 Less Now t) (after_block 𝓤 𝓛.H (after_seq 𝓤 𝓛.H (Wp 𝓤 𝓛.H 𝓣.C 𝓣.Λ E code.Mir.t-5 (at_return 𝓤 𝓛.H E Post)) (at_return 𝓤 𝓛.H E Post)))

  turn : (i m : ℕ) (e : i + m ≡ n) → Sq 𝓛 (Now (i, m, e)) (runs 𝓣.C 𝓣.Λ E code.Mir.turn-1 (any_q (Turned (i, m, e))))
  unfolding after_turn
  turn i zero e =
      sets ! (bin ! (get ! refl) (get ! refl) tt) refl (tt, tt) $ first ! $ branches ! (get ! refl)
      (λ less. let below : i < n = ltb→lt i n less in let wrong : 1 ≤ 0 = omega arith in absurd (not-suc-le-zero wrong))
      (λ over. let all : i ≡ n = omega arith in
      jumps ! $ exec ! 𝓣.C 𝓣.Λ E code.Mir.t-5 (at_ret E Post) $ rewrite ! 0 (λ (k : ℕ). ‵ (bytes full_share (replicate k 0) b o)) all refl $
      sets ! (agg ! (and_then ! (get ! refl) (and_then ! (get ! refl) (no_more !)))) refl (tt, (tt, (record { fits = small }, tt))) $
      returns ! (look_at ! 0 refl) $ free_all ! refl $ move ! (1 ∷ []) $ drop ! $ by ! ends)
  turn i (suc m) e =
      let more : i + 1 < 2 ^ 64 = omega arith in let next : i + 1 + m ≡ n = omega arith in let step : i + o + 1 ≡ i + 1 + o = omega arith in
      sets ! (bin ! (get ! refl) (get ! refl) tt) refl (tt, tt) $ first ! $ branches ! (get ! refl)
      (λ less. skips ! $ exec ! 𝓣.C 𝓣.Λ E (after 2 code.Mir.turn-1) (any_q (Turned (i, suc m, e))) $
      first ! $ blocks ! $ sets ! (bin ! (get ! refl) (get ! refl) tt) refl (tt, tt) $ move ! (1 ∷ []) $
      use1 𝓛 (‵ (froom (ty_int w8) b (i + o)) ⊛ ‵ (froom (space m) b (i + o + 1))) (𝓛.laws.room_uncons (ty_int w8) m b (i + o)) $ split ! $
      assigns_last ! (of_opd ! (lit ! tt)) (through ! refl (stop !)) (init ! 0 refl (tt, record { fits = lit< tt })) $
      exec ! 𝓣.C 𝓣.Λ E (after 3 code.Mir.turn-1) (any_q (Turned (i, suc m, e))) $ sets_last ! (bin ! (get ! refl) (lit ! tt) (record { fits = more })) refl (tt, record { fits = more }) $
      -- [the new byte; the room behind it; the zeros]
      use1 𝓛 (‵ (part_at u8 full_share 0 b (i + o))) (uint_in 𝓛 full_share w8 0 b (i + o)) $ move ! (2 ∷ 0 ∷ []) $
      use2 𝓛 (‵ (bytes full_share (replicate (i + 1) 0) b o)) (zero_in 𝓛 i b o) $ rewrite ! 1 (λ (k : ℕ). ‵ (froom (space m) b k)) step refl $
      forget_but ! E (1 ∷ 2 ∷ 3 ∷ 4 ∷ []) refl $ again ! Less Now (i, suc m, e) (i + 1, m, next) (omega arith))
      (λ over. let out = nltb→le i n over in let wrong : 1 ≤ 0 = omega arith in absurd (not-suc-le-zero wrong))

pub zeroed_spec : {M : Type 1} → statement M
unfolding tables_of
zeroed_spec 𝓤 𝓛 𝓜 𝓡 wired =
    let clauses = f.clauses 𝓛 𝓜.mem 𝓡.returns in let walk = walk_of 𝓛 f.ended dropped clauses in let 𝓣 = tables_of 𝓤 𝓛.H 𝓜 (tables 𝓤 𝓛.H 𝓜 𝓡 𝓡.env) in
    proved 𝓛 f.ended dropped clauses 𝓜 𝓡 (Goes-blank 𝓛 0 (plain (λ _. room)) yes (λ κs x w. tt), tt)
    f.Key.name code.function (code.unfolded 𝓤 𝓛.H 𝓜 𝓡 wired)
    (λ κs. ((λ r. lowers.lowered r ∷ []), tt)) (λ κs. (lowers.val_is, tt)) (λ κs qs bounds a _ are.
    let r = a.0 in let n = r.count in
    let entry : walk.Ghost = ((κs, qs, bounds, a, (lowers.lowered r ∷ [], tt)), tt) in
    qed 𝓛 ((‵ ftrue ⊛ ‵ (room.own_val r (lowers.lowered r ∷ [])) ⊛ ‵ ftrue) ∷ raw (fact 𝓤 (n < 2 ^ 63)) ∷ []) ∵
    move ! (1 ∷ []) $ heard ! _ (λ fits. split ! $ drop ! $ split ! $ fsplit ! $ drop ! $
    in_a_block ! r.at (λ p. room_for (space n) p) (id⊢ 𝓤 _) (λ b o e.
    let small : n < 2 ^ 64 = omega arith in let zeros = replicate n 0 in let long : length zeros ≡ n = length-replicate n 0 in
    let p : page.Denot = record { at = block_ptr b o; count = n; bytes = zeros; counted = sym long; fits = fits } in
    let ends : ent 𝓤 (sem 𝓛 (bytes full_share zeros b o)) (walk.post entry (words (block_ptr b o) n)) =
    qed 𝓛 (‵ (bytes full_share zeros b o) ∷ []) ∵ feq_i ! ℕ (length zeros) n long $ fjoin ! $ use1 𝓛 (‵ (part_at (Array u8 n) full_share zeros b o)) (bytes_whole 𝓛 full_share n zeros b o) $
    suffices ! _ (ends_at 𝓛 f.ended dropped clauses entry (words (block_ptr b o) n) p (tt, tt) (tt, tt)) $ says ! (sym e, refl, refl) $
    use1 𝓛 (‵ (page.own_val p (words (block_ptr b o) n ∷ []))) (page_in 𝓛 p small) $ nothing ! $ nothing ! $ join ! $ nothing ! $ done ! in
    regoal ! (λ (p : Ptr). prop (WpFn 𝓤 𝓛.H 𝓣.C 𝓣.Λ code.function (words p n ∷ []) (walk.post entry))) e refl $
    enter ! _ _ _ _ _ $ alloc_all ! (λ l. pass_all ! refl ((tt, (tt, (record { fits = small }, tt))), tt) $
    sets ! (of_opd ! (get_in ! (fld ! refl (stop !)) (sub ! 0 refl (whole !)))) refl (tt, tt) $
    sets ! (of_opd ! (get_in ! (fld ! refl (stop !)) (sub ! 1 refl (whole !)))) refl (tt, record { fits = small }) $
    sets ! (of_opd ! (lit ! tt)) refl (tt, record { fits = lit< tt }) $
    let none : o ≡ 0 + o = omega arith in let all : 0 + n ≡ n = omega arith in
    first ! $ blocks ! $ rewrite ! 0 (λ (k : ℕ). ‵ (froom (space n) b k)) none refl $ move ! (1 ∷ []) $
    loops ! 𝓣 Less (InvImage.wf (λ (t : Count n). t.1) lt-wf_rel.wf) (Now 𝓛 𝓣 n b o fits small l (walk.post entry) ends) (λ t. turn 𝓛 𝓣 n b o fits small l (walk.post entry) ends t.0 t.1 t.2) (0, n, all))))
    )
