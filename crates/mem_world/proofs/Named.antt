-- What each call leaves at one name.
use Rattle.std.proofs.Common.{◌≡◌, ◌≢◌, ⊎_elim, inl, inr, ℕ, List, [], ◌∷◌, ◌++◌, Bool, true, false, cond, Option, None, is_some, refl, sym, ◌∙◌, ap, subst}
use Rattle.std.proofs.lemmas.Bool.{false≢true}
use Rattle.std.proofs.lemmas.Option.{same_Some}
use Rattle.std.specs.FinMap.{get, insert, remove}
use Rattle.outside.specs.Files.{Files, is_temp, bytes_at, moved}
use Rattle.outside.specs.Quiet.{IsQuietAt}
use Rattle.outside.proofs.Names.{equal_or_not, get-put, get-put_other, get-gone_other}
use Rattle.mem_world.specs.Disk.{Event, Note, Disk, Stands, IsImage, step, replay, disk, blank, bound, marked, view_of}
use Rattle.mem_world.specs.Disk.Event.{Started, Appended, Sealed, Swapped, Gone, Fixed, Settled, Bound, HalfSwapped, HalfGone}
use Rattle.mem_world.proofs.Disk.{replay-now, now_image, marked_other, marked_same, files_with, get-with, image_with, had_skip, stands_still, still_started, still_appended, still_sealed, still_swapped, still_half_swapped, spoiled-other}

-- ---- a quiet name
pub record QuietName (d : Disk) (q : List ℕ) : Type 0 where
  pub at : (o : Option (List ℕ)) → Stands d q o → o ≡ get d.live q

pub quiet_name : (es : List Note) (faults : ℕ) (q : List ℕ) → IsQuietAt (view_of es faults) q → QuietName (disk es) q
unfolding view_of
quiet_name es faults q quiet =
    let d = disk es in
    record {
      at = λ o stands.
          let image = subst (λ x. IsImage x (files_with d.live q o)) (sym (replay-now es)) (image_with d q o stands) in
          sym (get-with d.live q o) ∙ quiet.each d.live (files_with d.live q o) refl image;
    }

pub name_quiet : (es : List Note) (faults : ℕ) (q : List ℕ) → QuietName (disk es) q → IsQuietAt (view_of es faults) q
unfolding view_of
name_quiet es faults q quiet = record { each = λ f c is left. quiet.at (get c q) ((now_image es faults c left).at q) ∙ ap (λ (x : Files). get x q) (same_Some _ _ is) }

name_still : (d e : Disk) (q : List ℕ) → get e.live q ≡ get d.live q → ((o : Option (List ℕ)) → Stands e q o → Stands d q o) → QuietName d q → QuietName e q
name_still d e q live still quiet = record { at = λ o stands. quiet.at o (still o stands) ∙ sym live }

pub name_started : (n : List ℕ) (d : Disk) (q : List ℕ) → q ≢ n → QuietName d q → QuietName (step (Started n) d) q
name_started n d q ne = name_still d (step (Started n) d) q (get-put_other d.live n [] q ne) (λ o. still_started n d q o ne)

pub name_appended : (n piece : List ℕ) (d : Disk) (q : List ℕ) → q ≢ n → QuietName d q → QuietName (step (Appended n piece) d) q
name_appended n piece d q ne = name_still d (step (Appended n piece) d) q (get-put_other d.live n _ q ne) (λ o. still_appended n piece d q o ne)

pub name_sealed : (n : List ℕ) (d : Disk) (q : List ℕ) → q ≢ n → QuietName d q → QuietName (step (Sealed n) d) q
name_sealed n d q ne = name_still d (step (Sealed n) d) q refl (λ o. still_sealed n d q o ne)

pub name_swapped : (n to : List ℕ) (d : Disk) (q : List ℕ) → q ≢ to → q ≢ n → QuietName d q → QuietName (step (Swapped n to) d) q
name_swapped n to d q net ne = name_still d (step (Swapped n to) d) q (get-put_other (remove d.live n) to _ q net ∙ get-gone_other d.live n q ne) (λ o. still_swapped n to d q o ne net)

pub name_half_swapped : (n to : List ℕ) (d : Disk) (q : List ℕ) → q ≢ to → q ≢ n → QuietName d q → QuietName (step (HalfSwapped n to) d) q
name_half_swapped n to d q net ne = name_still d (step (HalfSwapped n to) d) q (spoiled-other d.live n q ne) (λ o. still_half_swapped n to d q o ne net)

pub name_gone : (n : List ℕ) (d : Disk) (q : List ℕ) → q ≢ n → QuietName d q → QuietName (step (Gone n) d) q
name_gone n d q ne = name_still d (step (Gone n) d) q (get-gone_other d.live n q ne)
    (λ o. stands_still d (step (Gone n) d) q o (get-gone_other d.live n q ne) (marked_other d.loose n false q ne) (had_skip (bound d n) d.older q o ne))

pub name_half_gone : (n : List ℕ) (d : Disk) (q : List ℕ) → q ≢ n → QuietName d q → QuietName (step (HalfGone n) d) q
name_half_gone n d q ne = name_still d (step (HalfGone n) d) q refl
    (λ o. stands_still d (step (HalfGone n) d) q o refl refl
    (λ had. had_skip (bound d n) d.older q o ne (had_skip (record { name = n; was = None; loose = false }) (bound d n ∷ d.older) q o ne had)))

-- ---- a file that may hold any bytes has a name
pub record LooseStands (d : Disk) : Type 0 where
  pub there : (q : List ℕ) → d.loose q ≡ true → is_some (get d.live q) ≡ true

put_there : (d : Disk) (n b : List ℕ) (t : Bool) (q : List ℕ) → LooseStands d → marked d.loose n t q ≡ true → is_some (get (insert d.live n b) q) ≡ true
put_there d n b t q loose is = ⊎_elim
    (λ (eq : q ≡ n). subst (λ x. is_some (get (insert d.live n b) x) ≡ true) (sym eq) (ap is_some (get-put d.live n b)))
    (λ (ne : q ≢ n). ap is_some (get-put_other d.live n b q ne) ∙ loose.there q (sym (marked_other d.loose n t q ne) ∙ is))
    (equal_or_not q n)

off_ne : (loose : List ℕ → Bool) (n q : List ℕ) → marked loose n false q ≡ true → q ≢ n
off_ne loose n q is eq = false≢true (sym (marked_same loose n false) ∙ subst (λ x. marked loose n false x ≡ true) eq is)

gone_there : (d : Disk) (n q : List ℕ) → LooseStands d → marked d.loose n false q ≡ true → is_some (get (remove d.live n) q) ≡ true
gone_there d n q loose is = let ne = off_ne d.loose n q is in ap is_some (get-gone_other d.live n q ne) ∙ loose.there q (sym (marked_other d.loose n false q ne) ∙ is)

loose_step : (e : Event) (d : Disk) → LooseStands d → LooseStands (step e d)
loose_step (Started n) d loose = record { there = λ q is. put_there d n [] true q loose is }
loose_step (Appended n piece) d loose = record { there = λ q is. put_there d n (bytes_at d.live n ++ piece) true q loose is }
loose_step (Sealed n) d loose = record { there = λ q is. loose.there q (sym (marked_other d.loose n false q (off_ne d.loose n q is)) ∙ is) }
loose_step (Swapped n to) d loose = record {
  there = λ q is.
      let ne = off_ne (marked d.loose to (d.loose n)) n q is in
      ⊎_elim
      (λ (eq : q ≡ to). subst (λ x. is_some (get (moved d.live n to) x) ≡ true) (sym eq) (ap is_some (get-put (remove d.live n) to (bytes_at d.live n))))
      (λ (net : q ≢ to). ap is_some (get-put_other (remove d.live n) to (bytes_at d.live n) q net ∙ get-gone_other d.live n q ne)
      ∙ loose.there q (sym (marked_other (marked d.loose to (d.loose n)) n false q ne ∙ marked_other d.loose to (d.loose n) q net) ∙ is))
      (equal_or_not q to);
}
loose_step (Gone n) d loose = record { there = λ q is. gone_there d n q loose is }
loose_step Fixed d loose = record { there = λ q is. loose.there q is }
loose_step Settled d loose = record { there = λ q is. absurd (false≢true is) }
loose_step (Bound n bytes) d loose = record { there = λ q is. put_there d n bytes false q loose is }
loose_step (HalfSwapped n to) d loose = record {
  there = λ q is. elim (is_temp n) as (λ b. cond b (marked d.loose n false q) (d.loose q) ≡ true → is_some (get (cond b (remove d.live n) d.live) q) ≡ true) [
    | true ↦ λ freed. gone_there d n q loose freed
    | false ↦ λ same. loose.there q same
  ] is;
}
loose_step (HalfGone n) d loose = record { there = λ q is. loose.there q is }

loose_replay : (es : List Note) (d : Disk) → LooseStands d → LooseStands (replay es d)
loose_replay [] d loose = loose
loose_replay (e ∷ es) d loose = loose_replay es (step e.event d) (loose_step e.event d loose)

pub loose_now : (es : List Note) → LooseStands (disk es)
loose_now es = loose_replay es blank (record { there = λ q is. absurd (false≢true is) })

-- once the names are on the disk, a crash leaves a file exactly where reads find one
pub fixed_names : (d : Disk) (q : List ℕ) (o : Option (List ℕ)) → LooseStands d → Stands (step Fixed d) q o → is_some o ≡ is_some (get d.live q)
fixed_names d q o loose (inl is) = ap is_some is
fixed_names d q o loose (inr (inl any)) = any.1 ∙ sym (loose.there q any.0)
fixed_names d q o loose (inr (inr none)) = absurd none
