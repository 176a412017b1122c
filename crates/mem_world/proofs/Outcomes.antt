-- How a device call of a tree in memory comes out.
use Rattle.std.proofs.Common.{◌≡◌, ◌⊎◌, inl, inr, ℕ, ◌≤◌, List, [], ◌∷◌, ◌++◌, true, false, Result, Ok, Err, IsOk, IsErr, OnOk, OnErr, Some, refl, sym, ◌∙◌, ap, subst, arith}
use Rattle.std.proofs.lemmas.Bool.{false≢true}
use Rattle.std.specs.List.{Contains}
use Rattle.outside.specs.Faults.{HasRisen}
use Rattle.mem_world.specs.declared.store.Store.{Store}
use Rattle.mem_world.specs.declared.tree.MemTree.{MemTree}
use Rattle.mem_world.specs.Device.{IsDeviceCall, IsReading, IsSetting, is_call, began_at, ended_at}
use Rattle.mem_world.specs.Disk.{Event, Note, Logs, disk, view_of}
use Rattle.mem_world.specs.Disk.Event.{Bound}
use Rattle.std.specs.FinMap.{get, insert}
use Rattle.outside.specs.Files.{Files}
use Rattle.outside.specs.TreeView.{MayLeave}
use Rattle.outside.proofs.Names.{get-put}
use Rattle.outside.specs.Calls.{Becomes, SealsStay}
use Rattle.outside.specs.Quiet.{IsQuiet}
use Rattle.mem_world.proofs.Disk.{quiet_bound, bound_at, marked_same, marked_other}
use Rattle.mem_world.specs.Log.{notes}
use Rattle.mem_world.specs.Store.{Records}
use Rattle.mem_world.specs.Tree.{tells, device, Begins, Ends, IsKept, IsKeptOrHalf}
use Rattle.mem_world.proofs.Calls.{Happens, on_ok, on_err, not_both, becomes_more, quiet_more, sealed_more, seal_stays, image_more}
use Rattle.mem_world.proofs.Counting.{numbers, past_bound}

abbrev log_of : MemTree → List Note
log_of t = notes t.store.log.items

-- ---- a call that is listed
pub happens_fail : {R E : Type 0} (old new : MemTree) (f : E) (done failed : Type 0) → Begins {R = R} old new (Err f) → Happens {R = R} (log_of old) (log_of new) old.count.faults new.count.faults done failed (Err f)
happens_fail old new f done failed begins = record { counts = begins.err.counts; cause = λ _. begins.err.rises; log = inr (inl (refl, begins.log)) }

-- ---- a call that isn't
module _ (old begun new : MemTree) (store : Store) (event : Event) where
  logs_on : {R E : Type 0} (r : Result R E) → Begins old begun r → Logs (notes begun.store.log.items) (notes store.log.items) begun.store.calls event → notes new.store.log.items ≡ notes store.log.items → Logs (log_of old) (log_of new) begun.store.calls event
  logs_on r begins logs same = same ∙ logs ∙ ap (λ (l : List Note). l ++ record { call = begun.store.calls; event = event } ∷ []) begins.log

  pub happens_made : {R E A : Type 0} (w : R) (made : Result R A) (r : Result R E) (failed : Type 0) → Begins {E = E} old begun (Ok w) → Records begun.store store event made → Ends (record begun { store = store }) new made r
      → Happens (log_of old) (log_of new) old.count.faults new.count.faults (Logs (log_of old) (log_of new) begun.store.calls event) failed r
  happens_made w (Ok u) r failed begins records ends =
      let done = ends.ok refl in
      record { counts = omega (arith, begins.ok, done.2); cause = λ err. absurd (not_both r done.0 err); log = inl (done.0, logs_on (Ok w) begins records.kept.ok ends.log) }
  happens_made w (Err a) r failed begins records ends =
      let done = ends.err refl in
      record {
        counts = omega (arith, begins.ok, done.2.counts);
        cause = λ err most. omega (arith, begins.ok, done.2.rises most);
        log = inr (inl (done.0, ends.log ∙ records.kept.err ∙ begins.log));
      }

  -- a call that is listed, and may have taken place on the disk
  pub happens_half : {R E A : Type 0} (f : E) (made : Result R A) (r : Result R E) (done : Type 0) → Begins {R = R} old begun (Err f) → Records begun.store store event made → Ends (record begun { store = store }) new made r
      → Happens {R = R} (log_of old) (log_of new) old.count.faults new.count.faults done (Logs (log_of old) (log_of new) begun.store.calls event) (Err f)
  happens_half f (Ok u) r done begins records ends =
      let ended = ends.ok refl in
      record { counts = omega (arith, begins.err.counts, ended.2); cause = λ err most. omega (arith, begins.err.rises (omega (arith, ended.2)), ended.2); log = inr (inr (refl, logs_on (Err f) begins records.kept.ok ends.log)) }
  happens_half f (Err a) r done begins records ends =
      let ended = ends.err refl in
      record {
        counts = omega (arith, begins.err.counts, ended.2.counts);
        cause = λ err most. omega (arith, begins.err.rises (omega (arith, ended.2.counts)), ended.2.counts);
        log = inr (inl (refl, ends.log ∙ records.kept.err ∙ begins.log));
      }

  changed : {R E A : Type 0} (made : Result R A) (r0 : Result R E) (r : Result R E) → is_call event ≡ true → Begins old begun r0 → Records begun.store store event made → Ends (record begun { store = store }) new made r
      → (log_of new ≡ log_of old) ⊎ ((e : Event) × (is_call e ≡ true) × Logs (log_of old) (log_of new) new.store.calls e)
  changed (Ok u) r0 r call begins records ends = inr (event, call, subst (λ (k : ℕ). Logs (log_of old) (log_of new) k event) (sym (ends.calls ∙ records.calls)) (logs_on r0 begins records.kept.ok ends.log))
  changed (Err a) r0 r call begins records ends = inl (ends.log ∙ records.kept.err ∙ begins.log)

  pub device_made : {R E A : Type 0} (w : R) (made : Result R A) (r : Result R E) → is_call event ≡ true → Begins {E = E} old begun (Ok w) → Records begun.store store event made → Ends (record begun { store = store }) new made r
      → IsDeviceCall (device old) (device new) (tells old).moment (tells new).moment r
  unfolding view_of
  device_made {R = R} {A = A} w made r call begins records ends =
      let calls = ends.calls ∙ records.calls in
      let n = numbers (log_of old) (log_of new) old.store.calls new.store.calls old.store.numbered (changed made (Ok w) r call begins records ends) in
      record {
        failing = ends.failing ∙ begins.failing;
        calls = calls ∙ begins.calls;
        starved = counts made ends;
        fed = on_ok _ r (fed made ends);
        listed = λ is. absurd (false≢true (begins.listed.1 (subst (λ (k : ℕ). Contains old.count.failing.items k) calls is)));
        cause = λ err. inr (rises made ends err);
        began = n.began;
        ended = n.ended;
        past = n.past;
      }
    where
      counts : (m : Result R A) → Ends (record begun { store = store }) new m r → old.count.starved ≤ new.count.starved
      counts (Ok u) e = omega (arith, begins.starved, (e.ok refl).1)
      counts (Err a) e = omega (arith, begins.starved, (e.err refl).1.counts)

      fed : (m : Result R A) → Ends (record begun { store = store }) new m r → IsOk r → new.count.starved ≡ old.count.starved
      fed (Ok u) e ok = (e.ok refl).1 ∙ begins.starved
      fed (Err a) e ok = absurd (not_both r ok (e.err refl).0)

      rises : (m : Result R A) → Ends (record begun { store = store }) new m r → IsErr r → HasRisen old.count.starved new.count.starved
      rises (Ok u) e err = absurd (not_both r (e.ok refl).0 err)
      rises (Err a) e err = λ most. omega (arith, begins.starved, (e.err refl).1.rises most)

  -- a call that is listed, and may have taken place on the disk
  pub device_half : {R E A : Type 0} (f : E) (made : Result R A) (r : Result R E) → is_call event ≡ true → Begins {R = R} old begun (Err f) → Records begun.store store event made → Ends (record begun { store = store }) new made r
      → IsDeviceCall {R = R} {E = E} (device old) (device new) (tells old).moment (tells new).moment (Err f)
  unfolding view_of
  device_half {R = R} {A = A} f made r call begins records ends =
      let calls = ends.calls ∙ records.calls in
      let n = numbers (log_of old) (log_of new) old.store.calls new.store.calls old.store.numbered (changed made (Err f) r call begins records ends) in
      record {
        failing = ends.failing ∙ begins.failing;
        calls = calls ∙ begins.calls;
        starved = counts made ends;
        fed = tt;
        listed = λ is. refl;
        cause = λ err. inl (subst (λ (k : ℕ). Contains old.count.failing.items k) (sym calls) (begins.listed.0 refl));
        began = n.began;
        ended = n.ended;
        past = n.past;
      }
    where
      counts : (m : Result R A) → Ends (record begun { store = store }) new m r → old.count.starved ≤ new.count.starved
      counts (Ok u) e = omega (arith, begins.starved, (e.ok refl).1)
      counts (Err a) e = omega (arith, begins.starved, (e.err refl).1.counts)

  -- ---- what is kept of it
  logs_last : {R E A : Type 0} (made : Result R A) (r : Result R E) (r0 : Result R E) → Ends (record begun { store = store }) new made r → store.calls ≡ begun.store.calls → Begins old begun r0
      → Logs (notes begun.store.log.items) (notes store.log.items) begun.store.calls event → Logs (log_of old) (log_of new) new.store.calls event
  logs_last made r r0 ends calls begins logs = subst (λ (k : ℕ). Logs (log_of old) (log_of new) k event) (sym (ends.calls ∙ calls)) (logs_on r0 begins logs ends.log)

  pub kept_made : {R E A : Type 0} (w : R) (made : Result R A) (r : Result R E) → Begins {E = E} old begun (Ok w) → Records begun.store store event made → Ends (record begun { store = store }) new made r → IsKept old new event r
  kept_made w (Ok u) r begins records ends =
      let done = ends.ok refl in
      record {
        log = record { ok = on_ok _ r (λ _. logs_last (Ok u) r (Ok w) ends records.calls begins records.kept.ok); err = on_err _ r (λ err. absurd (not_both r done.0 err)) };
        faults = on_ok _ r (λ _. done.2 ∙ begins.ok);
      }
  kept_made w (Err a) r begins records ends =
      let done = ends.err refl in
      record {
        log = record { ok = on_ok _ r (λ ok. absurd (not_both r ok done.0)); err = on_err _ r (λ _. ends.log ∙ records.kept.err ∙ begins.log) };
        faults = on_ok _ r (λ ok. absurd (not_both r ok done.0));
      }

  pub kept_whole : {R E A : Type 0} (half : Event) (w : R) (made : Result R A) (r : Result R E) → Begins {E = E} old begun (Ok w) → Records begun.store store event made → Ends (record begun { store = store }) new made r → IsKeptOrHalf old new event half r
  kept_whole half w (Ok u) r begins records ends =
      let done = ends.ok refl in
      record {
        ok = on_ok _ r (λ _. logs_last (Ok u) r (Ok w) ends records.calls begins records.kept.ok);
        err = on_err _ r (λ err. absurd (not_both r done.0 err));
        faults = on_ok _ r (λ _. done.2 ∙ begins.ok);
      }
  kept_whole half w (Err a) r begins records ends =
      let done = ends.err refl in
      record {
        ok = on_ok _ r (λ ok. absurd (not_both r ok done.0));
        err = on_err _ r (λ _. inr (ends.log ∙ records.kept.err ∙ begins.log, λ most. omega (arith, begins.starved, done.1.rises most)));
        faults = on_ok _ r (λ ok. absurd (not_both r ok done.0));
      }

  pub kept_half : {R E A : Type 0} (whole : Event) (f : E) (made : Result R A) (r : Result R E) → Begins {R = R} old begun (Err f) → Records begun.store store event made → Ends (record begun { store = store }) new made r
      → IsKeptOrHalf {R = R} {E = E} old new whole event (Err f)
  kept_half whole f (Ok u) r begins records ends = record { ok = tt; err = inl (logs_last (Ok u) r (Err f) ends records.calls begins records.kept.ok); faults = tt }
  kept_half whole f (Err a) r begins records ends =
      let ended = ends.err refl in
      record { ok = tt; err = inr (ends.log ∙ records.kept.err ∙ begins.log, λ most. omega (arith, begins.starved, ended.1.rises most)); faults = tt }

-- ---- a call that reads
-- a call that is listed, and did nothing
pub happens_none : {R E Q F : Type 0} (old new : MemTree) (e : F) (done : Type 0) (r : Result R E) → IsErr r → Begins {R = Q} old new (Err e) → Happens (log_of old) (log_of new) old.count.faults new.count.faults done ⊥ r
happens_none old new e done r err begins = record { counts = omega (arith, begins.err.counts); cause = λ _ most. omega (arith, begins.err.rises most); log = inr (inl (err, begins.log)) }

pub kept_none : {R E Q F : Type 0} (old new : MemTree) (event : Event) (e : F) (r : Result R E) → IsErr r → Begins {R = Q} old new (Err e) → IsKept old new event r
kept_none old new event e r err begins = record {
  log = record { ok = on_ok _ r (λ ok. absurd (not_both r ok err)); err = on_err _ r (λ _. begins.log) };
  faults = on_ok _ r (λ ok. absurd (not_both r ok err));
}

pub device_read : {R E Q : Type 0} (old new : MemTree) (r0 : Result Q E) (r : Result R E) → Begins old new r0 → (IsErr r → IsErr r0) → (IsErr r0 → IsErr r) → IsReading (device old) (device new) (tells old).moment (tells new).moment r
unfolding view_of
device_read old new r0 r begins to from =
    let n = numbers (log_of old) (log_of new) old.store.calls new.store.calls old.store.numbered (inl begins.log) in
    record {
      call = record {
        failing = begins.failing;
        calls = begins.calls;
        starved = omega (arith, begins.starved);
        fed = on_ok _ r (λ _. begins.starved);
        listed = λ is. from (begins.listed.1 is);
        cause = λ err. inl (begins.listed.0 (to err));
        began = n.began;
        ended = n.ended;
        past = n.past;
      };
      cause = λ err. begins.listed.0 (to err);
      starved = begins.starved;
    }

-- ---- a file that is bound
module _ (t : MemTree) (store : Store) (n bytes : List ℕ) where
  abbrev bound_tree : MemTree
  bound_tree = record { count = t.count; store = store }

  pub adds_ok : {R E : Type 0} (r : Result R E) → Records t.store store (Bound n bytes) r → OnOk r (Becomes (tells t) (tells bound_tree) (λ f. insert f n bytes))
  adds_ok (Ok u) records = becomes_more (log_of t) (notes store.log.items) t.store.calls (Bound n bytes) t.count.faults t.count.faults records.kept.ok (λ (f : Files). insert f n bytes) refl
  adds_ok (Err e) records = tt

  pub adds_err : {R E : Type 0} (r : Result R E) → Records t.store store (Bound n bytes) r → OnErr r ((tells bound_tree).told ≡ (tells t).told)
  unfolding view_of
  adds_err (Ok u) records = tt
  adds_err (Err e) records = ap (λ (l : List Note). Some (disk l).live) records.kept.err

  pub adds_quiet : {R E : Type 0} (r : Result R E) → Records t.store store (Bound n bytes) r → IsQuiet (tells t) → IsQuiet (tells bound_tree)
  adds_quiet (Ok u) records quiet = quiet_more (log_of t) (notes store.log.items) t.store.calls (Bound n bytes) t.count.faults t.count.faults records.kept.ok (quiet_bound n bytes (disk (log_of t))) quiet
  adds_quiet (Err e) records quiet = subst (λ (l : List Note). IsQuiet (view_of l t.count.faults)) (sym records.kept.err) quiet

  pub adds_sealed : {R E : Type 0} (r : Result R E) → Records t.store store (Bound n bytes) r → OnOk r ((tells bound_tree).is_sealed n ≡ true)
  adds_sealed (Ok u) records = sealed_more (log_of t) (notes store.log.items) t.store.calls (Bound n bytes) t.count.faults t.count.faults records.kept.ok n false (marked_same (disk (log_of t)).loose n false)
  adds_sealed (Err e) records = tt

  pub adds_settled : {R E : Type 0} (r : Result R E) → Records t.store store (Bound n bytes) r → OnOk r ((c : Files) → MayLeave (tells bound_tree) c → get c n ≡ Some bytes)
  adds_settled (Ok u) records =
      let d = disk (log_of t) in
      λ c left. bound_at n bytes d (get c n) ((image_more (log_of t) (notes store.log.items) t.store.calls (Bound n bytes) t.count.faults t.count.faults records.kept.ok c left).at n) ∙ get-put d.live n bytes
  adds_settled (Err e) records = tt

  pub adds_seals : {R E : Type 0} (r : Result R E) → Records t.store store (Bound n bytes) r → SealsStay (tells t) (tells bound_tree) n
  adds_seals (Ok u) records =
      let d = disk (log_of t) in
      λ q ne was. seal_stays (log_of t) (notes store.log.items) t.store.calls (Bound n bytes) t.count.faults t.count.faults records.kept.ok q (marked_other d.loose n false q ne) was
  adds_seals (Err e) records = λ q ne was. subst (λ (l : List Note). (view_of l t.count.faults).is_sealed q ≡ true) (sym records.kept.err) was

  pub adds_counted : {R E : Type 0} (r : Result R E) → Records t.store store (Bound n bytes) r → IsSetting (device t) (device bound_tree)
  adds_counted (Ok u) records = record { failing = refl; calls = records.calls; starved = refl; past = past_bound (log_of t) (notes store.log.items) t.store.calls (Bound n bytes) refl records.kept.ok }
  adds_counted (Err e) records = record { failing = refl; calls = records.calls; starved = refl; past = λ i le. (ap (λ l. began_at l i) records.kept.err, ap (λ l. ended_at l i) records.kept.err) }
