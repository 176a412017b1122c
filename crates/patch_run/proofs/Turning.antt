-- A file patch from its start to its end.
use Rattle.std.proofs.Common.{◌≡◌, inl, ℕ, List, [], replicate, true, is_some, Option, Some, Result, Ok, Err, IfOk, IfErr, OnErr, refl, sym, ◌∙◌, ap, subst, arith}
use Rattle.std.proofs.lemmas.Option.{same_Some}
use Rattle.std.specs.Result.{IsErrAnd}
use Rattle.outside.specs.Files.{Files, SameLasting, lasting-same}
use Rattle.outside.specs.TreeView.{TreeView, Passes, passes_both}
use Rattle.outside.specs.Calls.{IsUntouched}
use Rattle.outside.specs.SinkView.{SinkView, sink_passes_both, Receives, ReceivesPart, Writes}
use Rattle.outside.specs.Quiet.{IsQuiet, HasMade}
use Rattle.outside.proofs.Views.{untouched_quiet}
use Rattle.outside.proofs.Effects.{made_none, made_tells_all, since_longer, tells_longer}
use Rattle.outside.proofs.Writing.{received_both, part_longer, part_after}
use Rattle.hunk_core.specs.declared.Side.{Side}
use Rattle.hunk_core.specs.declared.Verdict.{Verdict}
use Rattle.hunk_core.specs.declared.Verdict.TheVariants.{Ignored}
use Rattle.line_store.specs.Store.{Seen, Keeps}
use Rattle.line_store.specs.declared.fault.OpenFault.{OpenFault}
use Rattle.line_store.specs.declared.fault.OpenFault.TheVariants as open_fault
use Rattle.patch_set.specs.declared.set.Row.{Row}
use Rattle.apply_task.specs.declared.fault.RunFault.{RunFault}
use Rattle.apply_task.specs.declared.fault.RunFault.TheVariants.{Tree, Write, Scratch, LongLine, FileTooLong, Disagree, Memory}
use Rattle.apply_start.specs.declared.starting.Decision.{Decision}
use Rattle.apply_start.specs.declared.starting.Decision.TheVariants.{Skip, Try}
use Rattle.patch_run.specs.declared.one_patch.Done.{Done}
use Rattle.patch_run.specs.OnePatch.{PlainContext, Start, skips, refuses, tries, total, ignored_said, bytes_of, lines_in, start, skipped, finished_at, ending_of, ending}
use Rattle.apply_start.specs.Devices.{Told, HasRunCause, scratch_with}
use Rattle.apply_start.specs.Starting.{Starts, IsDecided, IsBrokenOff, said_in, taken_in}
use Rattle.apply_task.specs.Making.{TidyAfter, UnlessFailed}
use Rattle.patch_run.specs.Doing.{Stays, QuietAfter, IsPartOf, IsWholeOf, IsDone, IsEnded, IsStopped, IsBroken, IsDeviceFault, IsOrdered, Does, effects_in, said_of}
use Rattle.apply_task.proofs.EffectLists.{made_both, leaves_after, tells_after}
use Rattle.apply_task.proofs.Tidy.{tidy_both, untouched_tidy, unless_held, unless_then}
use Rattle.patch_run.proofs.Applying.{unmade, ordered_after, ordered_behind}
use Rattle.patch_run.proofs.Going.{Goes, plan_both, cause_then, told_then}

untouched_made : {u v : TreeView} → IsUntouched u v → IsQuiet u → HasMade u v []
untouched_made {u = u} same quiet = record {
  passes = same.passes;
  quiet = untouched_quiet same quiet;
  live = λ f g told now. subst (λ (h : Files). SameLasting f h) (same_Some f g (sym told ∙ sym same.told ∙ now)) (lasting-same f);
  since = λ f told c left. (made_none u quiet).since f told c ((same.since u.moment c (omega arith)).0 left);
}

-- nothing but the start has happened
part_begun : {u v : TreeView} {c d : SinkView} (t : PlainContext) (f : Files) (s : Start) → IsUntouched u v → IsQuiet u → ReceivesPart c d (said_in s) → IsPartOf u v c d (effects_in (ending_of t f s)) (said_of (ending_of t f s))
part_begun {u = u} {v = v} {c = c} {d = d} t f s same quiet said =
    let made = untouched_made same quiet in
    let es = effects_in (ending_of t f s) in
    record {
      tells = tells_longer u v [] es es refl (made_tells_all u v [] made);
      leaves = since_longer u v [] es es refl made.since;
      said = elim s as (λ x. ReceivesPart c d (said_in x) → ReceivesPart c d (said_of (ending_of t f x))) [
        | skips first row taken ↦ λ part. part_longer c d first (ignored_said t) part
        | refuses first fault ↦ λ part. part
        | tries first place side ↦ λ part. part_longer c d first (finished_at t f [] place side).said part
      ] said;
    }

stops : {u v : TreeView} {c d : SinkView} (t : PlainContext) (f : Files) (s : Start) (fault : OpenFault) → IsUntouched u v → IsQuiet u → u.told ≡ Some f → IsWholeOf u v c d [] (said_in s) f → s ≡ refuses (said_in s) fault → IsStopped u v c d f (ending_of t f s) fault
stops t f (skips said row taken) fault same quiet told whole is = absurd (cc)
stops t f (refuses said other) fault same quiet told whole is = (ap (λ (x : Start). ending_of t f x) is, whole)
stops t f (tries said place side) fault same quiet told whole is = absurd (cc)

module _ (t : PlainContext) (u v : TreeView) (a b : Seen) (c d : SinkView) (scratch_after : ℕ → List ℕ → Option (List ℕ) → Option (List ℕ)) (quiet : IsQuiet u) where
  abbrev pub Begins : Result Decision RunFault → Type 0
  Begins r = Starts u v a b c d scratch_after r (bytes_of t) (start t)

  broken_off : (fault : RunFault) → Begins (Err fault) → (f : Files) → Told u a f → IsBrokenOff fault c d (start t f) → IsBroken fault u v c d f (ending_of t f (start t f))
  broken_off Tree begins f told off = part_begun t f (start t f) begins.untouched quiet off
  broken_off Write begins f told off = part_begun t f (start t f) begins.untouched quiet off
  broken_off Scratch begins f told off = part_begun t f (start t f) begins.untouched quiet off
  broken_off (LongLine line count) begins f told off =
      stops t f (start t f) (open_fault.LongLine line count) begins.untouched quiet told.0 (record { made = untouched_made begins.untouched quiet; said = off.0; now = begins.untouched.told ∙ told.0 }) off.1
  broken_off (FileTooLong count) begins f told off =
      stops t f (start t f) (open_fault.FileTooLong count) begins.untouched quiet told.0 (record { made = untouched_made begins.untouched quiet; said = off.0; now = begins.untouched.told ∙ told.0 }) off.1
  broken_off (Disagree want got) begins f told off = part_begun t f (start t f) begins.untouched quiet off
  broken_off Memory begins f told off = part_begun t f (start t f) begins.untouched quiet off

  still_quiet : (R : Type 0) (fault : RunFault) → IsQuiet v → QuietAfter {R = R} (Err fault) v
  still_quiet R Tree is = tt
  still_quiet R Write is = tt
  still_quiet R Scratch is = tt
  still_quiet R (LongLine line count) is = is
  still_quiet R (FileTooLong count) is = is
  still_quiet R (Disagree want got) is = tt
  still_quiet R Memory is = tt

  -- the start failed
  pub start_fails : (fault : RunFault) (r : Result Done RunFault) (vs : List Verdict) → IsErrAnd r (λ e. e ≡ fault) → Begins (Err fault) → Does u v a b c d scratch_after r vs (ending t)
  unfolding ending
  start_fails fault (Ok x) vs is begins = absurd is
  start_fails fault (Err e) vs is begins =
      subst (λ (x : RunFault). Does u v a b c d scratch_after (Err x) vs (λ f. ending_of t f (start t f))) (sym is)
      (record {
        stays = record { tree = begins.untouched.passes; plan = begins.plan; sink = begins.sink; cause = begins.cause };
        quiet = still_quiet Done fault (untouched_quiet begins.untouched quiet);
        tidy = unless_held fault (untouched_tidy begins.untouched);
        whole = tt;
        broken = λ f told. broken_off fault begins f told (begins.broken f told);
        order = λ f told. inl (unmade (untouched_made begins.untouched quiet));
        kept = λ f told. unless_held fault (begins.untouched.told ∙ told.0);
      })

  module _ (decision : Decision) (begins : Begins (Ok decision)) where
    goes : Goes u v a b c d
    goes = record { tree = begins.untouched.passes; plan = begins.plan; sink = begins.sink; quiet = untouched_quiet begins.untouched quiet; tidy = untouched_tidy begins.untouched }

    told_before : (f : Files) → Told v b f → Told u a f
    told_before f told = (sym begins.untouched.told ∙ told.0, sym begins.plan.telling ∙ told.1)

    -- hunks are tried on the lines that the plan stands for
    tries_is : (f : Files) (s : Start) (place : ℕ) (side : Side) → decision ≡ Try place side → IsDecided decision b (bytes_of t f) s → (said : List ℕ) × ((s ≡ tries said place side) × (b.told ≡ Some (lines_in (bytes_of t f place))))
    tries_is f (skips said row taken) place side is decided = absurd (cc)
    tries_is f (refuses said fault) place side is decided = absurd decided
    tries_is f (tries said other from) place side is decided =
        let same : Try other from ≡ Try place side = sym decided.0 ∙ is in
        let there : other ≡ place = cc in
        let way : from ≡ side = cc in
        (said, (ap (λ k. tries said k from) there ∙ ap (λ (x : Side). tries said place x) way, decided.1 ∙ ap (λ k. Some (lines_in (bytes_of t f k))) there))

    pub lines_told : (place : ℕ) (side : Side) → decision ≡ Try place side → (f : Files) → Told v b f → is_some b.told ≡ true
    lines_told place side is f told = ap (λ (x : Option (List (List ℕ))). is_some x) (tries_is f (start t f) place side is (begins.decided f (told_before f told))).1.1

    skips_is : (f : Files) (s : Start) (row : Row) → decision ≡ Skip row → IsDecided decision b (bytes_of t f) s → (said : List ℕ) × ((taken : Option (List ℕ)) × (s ≡ skips said row taken))
    skips_is f (skips said other taken) row is decided =
        let same : Skip other ≡ Skip row = sym decided ∙ is in
        let there : other ≡ row = cc in
        (said, (taken, ap (λ (x : Row). skips said x taken) there))
    skips_is f (refuses said fault) row is decided = absurd decided
    skips_is f (tries said place side) row is decided = absurd (let e : Try place side ≡ Skip row = sym decided.0 ∙ is in cc)

    -- the file patch is skipped
    module _ (row : Row) (is : decision ≡ Skip row) (e : SinkView) (vs : List Verdict) (ignored : vs ≡ replicate (total t) Ignored) where
      skip_done : (done : Done) → done ≡ record { row = row; is_bad = true; effects = 0 } → Receives d e (ignored_said t) → (f : Files) → Told u a f → IsEnded u v b c e (λ taken. scratch_with scratch_after a.size taken a.scratch) done vs f (ending_of t f (start t f))
      skip_done done was line f told =
          let sk = skips_is f (start t f) row is (begins.decided f told) in
          let said = sk.0 in
          let taken = sk.1.0 in
          let first : Receives c d said = subst (λ (s : Start). Receives c d (said_in s)) sk.1.1 (begins.said f told) in
          record {
            story = skipped t said row taken;
            is = ap (λ (s : Start). ending_of t f s) sk.1.1;
            does = record {
              told = record { row = ap (λ (x : Done). x.row) was; bad = ap (λ (x : Done). x.is_bad) was; effects = ap (λ (x : Done). x.effects) was; verdicts = ignored };
              whole = record { made = untouched_made begins.untouched quiet; said = received_both c d e said (ignored_said t) first line; now = begins.untouched.told ∙ told.0 };
            };
            scratch = begins.scratch f told ∙ ap (λ (s : Start). scratch_with scratch_after a.size (taken_in (bytes_of t f) s) a.scratch) sk.1.1;
          }

      skip_part : ReceivesPart d e (ignored_said t) → (f : Files) → Told u a f → IsPartOf u v c e (effects_in (ending_of t f (start t f))) (said_of (ending_of t f (start t f)))
      skip_part line f told =
          let sk = skips_is f (start t f) row is (begins.decided f told) in
          let said = sk.0 in
          let made = untouched_made begins.untouched quiet in
          let first : Receives c d said = subst (λ (s : Start). Receives c d (said_in s)) sk.1.1 (begins.said f told) in
          subst (λ (s : Start). IsPartOf u v c e (effects_in (ending_of t f s)) (said_of (ending_of t f s))) (sym sk.1.1)
          (record { tells = made_tells_all u v [] made; leaves = made.since; said = part_after c d e said (ignored_said t) first line })

      pub skip_does : (r : Result Done RunFault) → Writes d e r (ignored_said t) → IfErr r (λ y. y ≡ Write) → IfOk r (λ done. done ≡ record { row = row; is_bad = true; effects = 0 }) → Does u v a b c e scratch_after r vs (ending t)
      unfolding ending
      skip_does (Ok done) writes fault was = record {
        stays = record { tree = goes.tree; plan = goes.plan; sink = sink_passes_both goes.sink writes.call.passes; cause = tt };
        quiet = goes.quiet;
        tidy = untouched_tidy begins.untouched;
        whole = skip_done done was writes.received;
        broken = tt;
        order = tt;
        kept = tt;
      }
      skip_does (Err y) writes fault was =
          subst (λ (z : RunFault). Does u v a b c e scratch_after (Err z) vs (λ f. ending_of t f (start t f))) (sym fault)
          (record {
            stays = record { tree = goes.tree; plan = goes.plan; sink = sink_passes_both goes.sink writes.call.passes; cause = λ small. omega (arith, writes.call.cause refl small, goes.sink.counts) };
            quiet = tt;
            tidy = tt;
            whole = tt;
            broken = skip_part writes.failed;
            order = λ f told. inl (unmade (untouched_made begins.untouched quiet));
            kept = λ f told. tt;
          })

    -- its hunks are tried
    module _ (place : ℕ) (side : Side) (is : decision ≡ Try place side) (z : TreeView) (b' : Seen) (e : SinkView) (vs : List Verdict) (keeps : Keeps b b') where
      try_done : (done : Done) → ((f : Files) → v.told ≡ Some f → b.told ≡ Some (lines_in (bytes_of t f place)) → IsDone v z d e done vs f (finished_at t f [] place side))
          → (f : Files) → Told u a f → IsEnded u z b' c e (λ taken. scratch_with scratch_after a.size taken a.scratch) done vs f (ending_of t f (start t f))
      try_done done whole f told =
          let tr = tries_is f (start t f) place side is (begins.decided f told) in
          let said = tr.0 in
          let did = whole f (begins.untouched.told ∙ told.0) tr.1.1 in
          let last = finished_at t f [] place side in
          let first : Receives c d said = subst (λ (s : Start). Receives c d (said_in s)) tr.1.0 (begins.said f told) in
          record {
            story = finished_at t f said place side;
            is = ap (λ (s : Start). ending_of t f s) tr.1.0;
            does = record {
              told = record { row = did.told.row; bad = did.told.bad; effects = did.told.effects; verdicts = did.told.verdicts };
              whole = record { made = made_both (untouched_made begins.untouched quiet) did.whole.made; said = received_both c d e said last.said first did.whole.said; now = did.whole.now };
            };
            scratch = keeps.scratch ∙ begins.scratch f told ∙ ap (λ (s : Start). scratch_with scratch_after a.size (taken_in (bytes_of t f) s) a.scratch) tr.1.0;
          }

      try_part : Passes v z → ((f : Files) → v.told ≡ Some f → b.told ≡ Some (lines_in (bytes_of t f place)) → IsPartOf v z d e (finished_at t f [] place side).effects (finished_at t f [] place side).said)
          → (f : Files) → Told u a f → IsPartOf u z c e (effects_in (ending_of t f (start t f))) (said_of (ending_of t f (start t f)))
      try_part passes part f told =
          let tr = tries_is f (start t f) place side is (begins.decided f told) in
          let said = tr.0 in
          let did = part f (begins.untouched.told ∙ told.0) tr.1.1 in
          let last = finished_at t f [] place side in
          let made = untouched_made begins.untouched quiet in
          let first : Receives c d said = subst (λ (s : Start). Receives c d (said_in s)) tr.1.0 (begins.said f told) in
          subst (λ (s : Start). IsPartOf u z c e (effects_in (ending_of t f s)) (said_of (ending_of t f s))) (sym tr.1.0)
          (record { tells = tells_after made passes last.effects did.tells; leaves = leaves_after made passes last.effects did.leaves; said = part_after c d e said last.said first did.said })

      try_ordered : (fault : RunFault) → Passes v z → ((f : Files) → v.told ≡ Some f → b.told ≡ Some (lines_in (bytes_of t f place)) → IsOrdered fault v z d e (finished_at t f [] place side).said)
          → (f : Files) → Told u a f → IsOrdered fault u z c e (said_of (ending_of t f (start t f)))
      try_ordered fault passes ordered f told =
          let tr = tries_is f (start t f) place side is (begins.decided f told) in
          let said = tr.0 in
          let last = finished_at t f [] place side in
          let first : Receives c d said = subst (λ (s : Start). Receives c d (said_in s)) tr.1.0 (begins.said f told) in
          subst (λ (s : Start). IsOrdered fault u z c e (said_of (ending_of t f s))) (sym tr.1.0)
          (ordered_behind c d e fault said last.said first (ordered_after d e fault last.said (untouched_made begins.untouched quiet) passes (ordered f (begins.untouched.told ∙ told.0) tr.1.1)))

      device_broken : (fault : RunFault) → IsDeviceFault fault → (f : Files) → IsPartOf u z c e (effects_in (ending_of t f (start t f))) (said_of (ending_of t f (start t f))) → IsBroken fault u z c e f (ending_of t f (start t f))
      device_broken Tree device f part = part
      device_broken Write device f part = part
      device_broken Scratch device f part = part
      device_broken (LongLine line count) device f part = absurd device
      device_broken (FileTooLong count) device f part = absurd device
      device_broken (Disagree want got) device f part = part
      device_broken Memory device f part = absurd device

      device_kept : (fault : RunFault) → IsDeviceFault fault → HasRunCause fault v z b b' d e → (f : Files) → Told u a f → UnlessFailed fault (z.told ≡ Some f)
      device_kept Tree device cause f told = tt
      device_kept Write device cause f told = tt
      device_kept Scratch device cause f told = tt
      device_kept (LongLine line count) device cause f told = absurd device
      device_kept (FileTooLong count) device cause f told = absurd device
      device_kept (Disagree want got) device cause f told = (let mid = told_then f goes told in absurd (cause.1 mid.0 mid.1))
      device_kept Memory device cause f told = absurd device

      pub try_does : (r : Result Done RunFault) → Stays v z b b' d e r → QuietAfter r z → TidyAfter r v z → IfErr r IsDeviceFault
          → IfOk r (λ done. (f : Files) → v.told ≡ Some f → b.told ≡ Some (lines_in (bytes_of t f place)) → IsDone v z d e done vs f (finished_at t f [] place side))
          → OnErr r ((f : Files) → v.told ≡ Some f → b.told ≡ Some (lines_in (bytes_of t f place)) → IsPartOf v z d e (finished_at t f [] place side).effects (finished_at t f [] place side).said)
          → IfErr r (λ y. (f : Files) → v.told ≡ Some f → b.told ≡ Some (lines_in (bytes_of t f place)) → IsOrdered y v z d e (finished_at t f [] place side).said)
          → Does u z a b' c e scratch_after r vs (ending t)
      unfolding ending
      try_does (Ok done) stays calm tidy device whole part order = record {
        stays = record { tree = passes_both goes.tree stays.tree; plan = plan_both goes.plan stays.plan; sink = sink_passes_both goes.sink stays.sink; cause = tt };
        quiet = calm;
        tidy = tidy_both u v z goes.tree (untouched_tidy begins.untouched) tidy;
        whole = try_done done whole;
        broken = tt;
        order = tt;
        kept = tt;
      }
      try_does (Err fault) stays calm tidy device whole part order = record {
        stays = record { tree = passes_both goes.tree stays.tree; plan = plan_both goes.plan stays.plan; sink = sink_passes_both goes.sink stays.sink; cause = cause_then u v z a b b' c d e fault goes stays.cause };
        quiet = calm;
        tidy = unless_then fault (tidy_both u v z goes.tree (untouched_tidy begins.untouched)) tidy;
        whole = tt;
        broken = λ f told. device_broken fault device f (try_part stays.tree part f told);
        order = try_ordered fault stays.tree order;
        kept = device_kept fault device stays.cause;
      }
