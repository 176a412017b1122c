-- A temporary that is put at its name.
use Rattle.std.proofs.Common.{◌≡◌, inl, inr, ⊎_elim, ℕ, List, true, false, Some, None, IsSome, unwrap_or, [], Result, Ok, Err, IsErr, OnOk, OnErr, refl, sym, ◌∙◌, ap, subst}
use Rattle.std.proofs.lemmas.Option.{same_Some}
use Rattle.std.proofs.lemmas.Result.{on_ok_weaker}
use Rattle.std.specs.FinMap.{get, insert, remove}
use Rattle.outside.specs.Files.{Files, is_temp, bytes_at, moved, SameLasting, SameButTemp}
use Rattle.outside.specs.TreeView.{TreeView, Passes, IsCall, Rises}
use Rattle.outside.specs.Calls.{Becomes, Spoils, IsThere, SealsStay, LeavesNoMore}
use Rattle.outside.specs.Quiet.{IsQuiet, LeavesEither, IsFixed, TellsEither, Holds, WorksOn, MakesEffect}
use Rattle.outside.specs.Quiet.Effect.{Put}
use Rattle.outside.proofs.Names.{apart, get-gone, get-gone_other, get-put, get-put_other, same_files, equal_or_not, lasting-both}
use Rattle.outside.proofs.Views.{run_on, passes_both, rises_then, told_on, told_back, since_split}
use Rattle.outside.proofs.Effects.{after_put-insert, tells_put, leaves_put}
use Rattle.outside.proofs.Quiet.{seals_temp, works_none, lasting-only, put_since, fix_since, fix_becomes, fix_quiet}
use Rattle.replace_file.specs.Puts.{TellsEitherBut, Puts}

pub on_ok : {T E : Type 0} (r : Result T E) (P : Type 0) → P → OnOk r P
on_ok (Ok x) P p = p
on_ok (Err e) P p = tt

pub on_err : {T E : Type 0} (r : Result T E) (P : Type 0) → P → OnErr r P
on_err (Ok x) P p = tt
on_err (Err e) P p = p

pub on_ok_true : {T E : Type 0} (r : Result T E) (P : Type 0) → IsErr r → OnOk r P
on_ok_true (Ok x) P e = absurd (cc)
on_ok_true (Err e) P is = tt

some_bytes : (f : Files) (n : List ℕ) → IsSome (get f n) → get f n ≡ Some (bytes_at f n)
some_bytes f n is = elim (get f n) as (λ o. IsSome o → o ≡ Some (unwrap_or o [])) [
  | None ↦ λ no. absurd (cc)
  | Some b ↦ λ yes. refl
] is

-- a name that is there holds its bytes
pub holds_bytes : (v : TreeView) (n : List ℕ) → IsThere v n → (f : Files) → v.told ≡ Some f → Holds v n (bytes_at f n)
holds_bytes v n there f told g again = some_bytes g n (there g again) ∙ ap (λ (x : Files). Some (bytes_at x n)) (same_Some _ _ (sym again ∙ told))

-- the temporary aside, a file that was put whole is there
pub put_but : (f g : Files) (temp to bytes : List ℕ) → is_temp temp ≡ true → remove (insert f to bytes) temp ≡ g → SameButTemp temp (insert f to bytes) g
put_but f g temp to bytes is eq = subst (λ (x : Files). SameButTemp temp (insert f to bytes) x) eq (record {
  others = λ q ne. get-gone_other (insert f to bytes) temp q ne;
  lasting = λ q l. get-gone_other (insert f to bytes) temp q (apart q temp l is);
})

quiet_where_told : (u w : TreeView) → Passes u w → ((f : Files) → u.told ≡ Some f → IsQuiet w) → IsQuiet w
quiet_where_told u w passes quiet = record {
  each = λ g c now left. let was = told_back g passes now in (quiet was.0 was.1).each g c now left;
}

-- ---- the swap of a sealed temporary, and the names put on the disk
module _ {R E : Type 0} (r : Result R E) (u v : TreeView) (temp to : List ℕ) (is : is_temp temp ≡ true) (lasting : is_temp to ≡ false) (quiet : IsQuiet u) (there : IsThere u temp)
    (call : IsCall u v r) (crash : LeavesEither u v (λ f. moved f temp to)) (seals : SealsStay u v temp) where
  pub swap_failed : {S D : Type 0} (s : Result S D) → IsErr s → Rises u v → Spoils u v temp → Puts u v s temp to (λ f. bytes_at f temp)
  swap_failed s err rises spoils = record {
    run = record { passes = call.passes; cause = λ e. rises };
    quiet = on_ok_true s _ err;
    ok = on_ok_true s _ err;
    tells = λ f g told now. inl (spoils f g told now);
    since = λ f told c left. put_since u u v temp to (bytes_at f temp) is lasting (works_none u temp quiet) (holds_bytes u temp there f told) r call crash f told c left;
    seals = seals;
  }

  module _ {S : Type 0} (s : Result S E) (x : TreeView) (becomes : Becomes u v (λ f. moved f temp to)) (tight : v.is_sealed to ≡ true)
      (fix : IsCall v x s) (same : x.told ≡ v.told) (sealed : (q : List ℕ) → v.is_sealed q ≡ true → x.is_sealed q ≡ true) (no_more : LeavesNoMore v x) (fixed : OnOk s (IsFixed x)) where
    becomes_put : Becomes u x (λ f. remove (insert f to (bytes_at f temp)) temp)
    becomes_put f told = fix_becomes u u v temp to (bytes_at f temp) is lasting (works_none u temp quiet) (holds_bytes u temp there f told) x same crash no_more becomes f told

    pub swapped : Puts u x s temp to (λ f. bytes_at f temp)
    swapped = record {
      run = run_on call.passes fix;
      quiet = on_ok_weaker s (λ on. quiet_where_told u x (passes_both call.passes fix.passes) (λ f told.
          fix_quiet u u v temp to (bytes_at f temp) is lasting (works_none u temp quiet) (holds_bytes u temp there f told) x same crash no_more becomes r call (sealed to tight) on)) fixed;
      ok = on_ok s _ becomes_put;
      tells = λ f g told now. inr (put_but f g temp to (bytes_at f temp) is (same_Some _ _ (sym (becomes_put f told) ∙ now)));
      since = λ f told c left. fix_since u u v temp to (bytes_at f temp) is lasting (works_none u temp quiet) (holds_bytes u temp there f told) x same crash no_more becomes r s call fix f told c left;
      seals = λ q ntemp was. sealed q (seals q ntemp was);
    }

-- ---- a temporary that is worked on first
but_lasting : {n : List ℕ} {f g : Files} → SameButTemp n f g → SameLasting f g
but_lasting but = record { at = but.lasting }

but_both : {n : List ℕ} {f g h : Files} → SameButTemp n f g → SameButTemp n g h → SameButTemp n f h
but_both a b = record { others = λ q ne. b.others q ne ∙ a.others q ne; lasting = λ q l. b.lasting q l ∙ a.lasting q l }

put_other : (f g : Files) (to b c q : List ℕ) → b ≡ c → get g q ≡ get f q → get (insert g to c) q ≡ get (insert f to b) q
put_other f g to b c q eq same = ⊎_elim
    (λ (at : q ≡ to). subst (λ x. get (insert g to c) x ≡ get (insert f to b) x) (sym at) (get-put g to c ∙ sym (ap (λ (x : List ℕ). Some x) eq) ∙ sym (get-put f to b)))
    (λ ne. get-put_other g to c q ne ∙ same ∙ sym (get-put_other f to b q ne))
    (equal_or_not q to)

but_put : {n : List ℕ} {f g : Files} (to b c : List ℕ) → b ≡ c → SameButTemp n f g → SameButTemp n (insert f to b) (insert g to c)
but_put {f = f} {g = g} to b c eq but = record {
  others = λ q ne. put_other f g to b c q eq (but.others q ne);
  lasting = λ q l. put_other f g to b c q eq (but.lasting q l);
}

gone_same : (f g : Files) (n to b c : List ℕ) → b ≡ c → SameButTemp n f g → remove (insert g to c) n ≡ remove (insert f to b) n
gone_same f g n to b c eq but = same_files (remove (insert g to c) n) (remove (insert f to b) n) (λ q. ⊎_elim
    (λ (at : q ≡ n). subst (λ x. get (remove (insert g to c) n) x ≡ get (remove (insert f to b) n) x) (sym at) (get-gone (insert g to c) n ∙ sym (get-gone (insert f to b) n)))
    (λ ne. get-gone_other (insert g to c) n q ne ∙ put_other f g to b c q eq (but.others q ne) ∙ sym (get-gone_other (insert f to b) n q ne))
    (equal_or_not q n))

module _ (u v : TreeView) (temp : List ℕ) (is : is_temp temp ≡ true) (works : WorksOn u v temp) (stay : SealsStay u v temp) where
  but : (f g : Files) → u.told ≡ Some f → v.told ≡ Some g → SameButTemp temp f g
  but f g told now = record { others = works.others f g told now; lasting = λ q l. works.others f g told now q (apart q temp l is) }

  pub puts_failed : {R E : Type 0} (r : Result R E) (to : List ℕ) (bytes : Files → List ℕ) → IsErr r → Rises u v → Puts u v r temp to bytes
  puts_failed r to bytes err rises = record {
    run = record { passes = works.passes; cause = λ e. rises };
    quiet = on_ok_true r _ err;
    ok = on_ok_true r _ err;
    tells = λ f g told now. inl (but f g told now);
    since = λ f told c left. inl (works.since f told c left);
    seals = stay;
  }

  pub puts_after : {R E : Type 0} (r : Result R E) (w : TreeView) (to : List ℕ) (bytes : Files → List ℕ)
      → ((f g : Files) → u.told ≡ Some f → v.told ≡ Some g → bytes_at g temp ≡ bytes f) → Puts v w r temp to (λ f. bytes_at f temp) → Puts u w r temp to bytes
  puts_after r w to bytes is_filled puts = record {
    run = record { passes = passes_both works.passes puts.run.passes; cause = λ e. rises_then u v w works.passes (puts.run.cause e) };
    quiet = puts.quiet;
    ok = on_ok_weaker r (λ becomes f told.
        let mid = told_on f works.passes told in
        becomes mid.0 mid.1 ∙ ap (λ (x : Files). Some x) (gone_same f mid.0 temp to (bytes f) (bytes_at mid.0 temp) (sym (is_filled f mid.0 told mid.1)) (but f mid.0 told mid.1))) puts.ok;
    tells = λ f g told now.
        let mid = told_on f works.passes told in
        let so_far = but f mid.0 told mid.1 in
        ⊎_elim
        (λ old. inl (but_both so_far old))
        (λ new. inr (but_both (but_put to (bytes f) (bytes_at mid.0 temp) (sym (is_filled f mid.0 told mid.1)) so_far) new))
        (puts.tells mid.0 g mid.1 now);
    since = λ f told c left.
        let mid = told_on f works.passes told in
        let so_far = but f mid.0 told mid.1 in
        ⊎_elim
        (λ before. inl (works.since f told c before))
        (λ later. ⊎_elim
        (λ old. inl (lasting-both (but_lasting so_far) old))
        (λ new. inr (lasting-both (but_lasting (but_put to (bytes f) (bytes_at mid.0 temp) (sym (is_filled f mid.0 told mid.1)) so_far)) new))
        (puts.since mid.0 mid.1 c later))
        (since_split puts.run.passes u.moment c works.passes.later left);
    seals = λ q ntemp was. puts.seals q ntemp (stay q ntemp was);
  }

-- ---- the effect
module _ {R E : Type 0} (u w : TreeView) (r : Result R E) (temp to b : List ℕ) (bytes : Files → List ℕ) (is : is_temp temp ≡ true) (puts : Puts u w r temp to bytes) (gives : (f : Files) → u.told ≡ Some f → bytes f ≡ b) where
  put_as : (f c : Files) → u.told ≡ Some f → SameLasting (insert f to (bytes f)) c → SameLasting (insert f to b) c
  put_as f c told same = subst (λ (x : List ℕ). SameLasting (insert f to x) c) (gives f told) same

  pub puts_live : OnOk r ((f g : Files) → u.told ≡ Some f → w.told ≡ Some g → SameLasting (insert f to b) g)
  puts_live = on_ok_weaker r (λ becomes f g told now. put_as f g told (but_lasting (put_but f g temp to (bytes f) is (same_Some _ _ (sym (becomes f told) ∙ now))))) puts.ok

  pub puts_tells : TellsEither u w (λ f. insert f to b)
  puts_tells f g told now = ⊎_elim (λ old. inl (but_lasting old)) (λ new. inr (put_as f g told (but_lasting new))) (puts.tells f g told now)

  pub puts_makes : MakesEffect u w r (Put to b)
  puts_makes = record {
    run = puts.run;
    quiet = puts.quiet;
    live = on_ok_weaker r (λ live f g told now. lasting-both (after_put-insert to b f) (live f g told now)) puts_live;
    either = tells_put u w to b puts_tells;
    since = leaves_put u w to b (λ f told c left. ⊎_elim (λ old. inl old) (λ new. inr (put_as f c told new)) (puts.since f told c left));
    seals = seals_temp u w temp is puts.seals;
  }

pub bytes_same : (u : TreeView) (k : Files → List ℕ) (f : Files) → u.told ≡ Some f → (g : Files) → u.told ≡ Some g → k g ≡ k f
bytes_same u k f told g again = ap k (same_Some _ _ (sym again ∙ told))
