-- The next command over what is left of a command that is stopped: it is refused as it would be before it, or behind it.
use Rattle.std.proofs.Common.{◌≡◌, ◌⊎◌, inl, inr, ⊎_elim, ℕ, zero, suc, ◌≤◌, List, [], ◌∷◌, ◌++◌, map, take, drop, length, Bool, true, false, ◌||◌, cond, bytes_eq, is_some, Option, Some, None, Result, Ok, Err, refl, sym, ◌∙◌, ap, subst, arith, append_assoc}
use Rattle.std.specs.Prelude.{is_none}
use Rattle.std.specs.List.{AllByRecursion}
use Rattle.std.specs.FinMap.{get}
use Rattle.outside.specs.Files.{Files, is_temp, SameLasting}
use Rattle.outside.specs.Quiet.{Effect, after, after_all}
use Rattle.outside.specs.Quiet.Effect.{Put, Remove}
use Rattle.series_stack.specs.declared.fault.StateFile.TheVariants.{Save}
use Rattle.series_stack.specs.Saves.{Entry, is_of_stack, name_of, entries_of, save_text}
use Rattle.series_stack.specs.Found.{entry_with}
use Rattle.series_stack.specs.Restoring.{restoring}
use Rattle.series_stack.specs.Undoing.{entries_at}
use Rattle.series_stack.specs.Taking.{AreSaved, too_long}
use Rattle.series_stack.specs.Stack.{Stack, Refusal, series_name, count_name, save_name, patch_name, stack_of, saved_in, undoing_by, recovering, recover}
use Rattle.series_stack.specs.Stack.Refusal.{Bad}
use Rattle.series_stack.specs.Commands.{Ending, Application, Patch, Reader, IsReader, IsLasting, names_of, changed_by, StackOp, Work, is_bad, has_bad_save, pushing, push_work, popping, pop_work, work_by, work_of}
use Rattle.series_stack.specs.Commands.Ending.{Done, Rejected, CutOff}
use Rattle.series_stack.specs.Commands.StackOp.{Push, Pop, Applied}
use Rattle.series_stack.specs.Commands.Work.{Pushing}
use Rattle.series_stack.specs.Outcomes.{Answer, Outcome, saving, raising, lowering, pop_effects, push_outcome, work_outcome, command}
use Rattle.series_stack.specs.Outcomes.Answer.{TooLong}
use Rattle.series_stack.specs.Laws.{HaveLastingTexts, refusal_in, RefusesAs, Recovers}
use Rattle.series_stack.proofs.Fronts.{bytes_same}
use Rattle.series_stack.proofs.Entries.{entries-sound}
use Rattle.series_stack.proofs.Meaning.{put-at, gone-at}
use Rattle.series_stack.proofs.Taking.{save-read}
use Rattle.series_stack.proofs.Every.{Every, every-take, every-last, every-append, every-map, every-kept}
use Rattle.series_stack.proofs.Names.{not_both, series-lasting, count-lasting, save-lasting, series-own, count-own, save-own, save-no_series, save-no_count, save-no_other}
use Rattle.series_stack.proofs.Touching.{neither, IsWithin, other_name, effect-apart, within-both, restoring-within, own_apart, entries-saved}
use Rattle.series_stack.proofs.States.{stack-same, stack-lasting, with_count}
use Rattle.series_stack.proofs.Recovering.{recovering-ok, IsReady, clean-recovering}
use Rattle.series_stack.proofs.Recovery.{Recovery}
use Rattle.series_stack.proofs.Works.{IsPush, work-ready, work-push}
use Rattle.series_stack.proofs.Pushing.{done_stack}
use Rattle.series_stack.proofs.Popping.{lowered_ready, lowered_effects, pop_end, pop_stack}
use Rattle.series_stack.proofs.Running.{saved_files, run_files, push_list, run_end, ran}
use Rattle.series_stack.proofs.Answering.{command-is, command-work, command-cases, behind_end}
use Rattle.series_stack.proofs.Standing.{stacks_apart, back, pushed, push_saved, push_within, push_left, popped, before_pop, fewer, pop_saved, none_behind, telling_is, stopped_command}

-- ---- the work is the same where the stack's own names stand for the same
module _ (f x : Files) (texts : (name : List ℕ) → is_temp (patch_name name) ≡ false → get x (patch_name name) ≡ get f (patch_name name)) where
  push_same : (read : Reader) (n : ℕ) (names : List (List ℕ)) → HaveLastingTexts names → push_work read x n names ≡ push_work read f n names
  push_same read n [] lasting = refl
  push_same read n (name ∷ names) lasting = ap (λ (held : Option (List ℕ)). pushing name (read held)) (texts name lasting.0)

  pop_same : (patches : List (List ℕ)) (n : ℕ) → get x (save_name n) ≡ get f (save_name n) → pop_work x patches n ≡ pop_work f patches n
  pop_same patches zero last = refl
  pop_same patches (suc n) last = ap (λ (o : Option (List ℕ)). popping n (drop n patches) (is_some (saved_in o))) last

  left_lasting : (n : ℕ) (names : List (List ℕ)) → HaveLastingTexts names → HaveLastingTexts (drop n names)
  left_lasting zero names lasting = lasting
  left_lasting (suc n) [] lasting = lasting
  left_lasting (suc n) (name ∷ names) lasting = left_lasting n names lasting.1

  by_same : (s : Stack) → get x (save_name s.applied) ≡ get f (save_name s.applied) → HaveLastingTexts s.patches → (read : Reader) (op : StackOp) → work_by read op x s ≡ work_by read op f s
  by_same s last lasting read Push = push_same read s.applied (drop s.applied s.patches) (left_lasting s.applied s.patches lasting)
  by_same s last lasting read Pop = pop_same s.patches s.applied last
  by_same s last lasting read Applied = refl

  work_same : (s : Stack) → has_bad_save s.applied x ≡ has_bad_save s.applied f → get x (save_name s.applied) ≡ get f (save_name s.applied) → HaveLastingTexts s.patches → (read : Reader) (op : StackOp) → work_of read op x s ≡ work_of read op f s
  unfolding work_of
  work_same s bad last lasting read op =
      ap (λ (v : Bool). cond v (Err (Bad Save)) (work_by read op x s)) bad
      ∙ ap (λ (r : Result Work Refusal). cond (has_bad_save s.applied f) (Err (Bad Save)) r) (by_same s last lasting read op)

-- the same stack, and the same work for each command
pub record IsAlike (f x : Files) : Type 0 where
  pub stack : stack_of x ≡ stack_of f
  pub work : (s : Stack) → stack_of f ≡ Ok s → HaveLastingTexts s.patches → (read : Reader) (op : StackOp) → work_of read op x s ≡ work_of read op f s

alike_both : {f g x : Files} → IsAlike f g → IsAlike g x → IsAlike f x
alike_both a b = record {
  stack = b.stack ∙ a.stack;
  work = λ s is lasting read op. b.work s (a.stack ∙ is) lasting read op ∙ a.work s is lasting read op;
}

alike_back : {f x : Files} → IsAlike f x → IsAlike x f
alike_back a = record {
  stack = sym a.stack;
  work = λ s is lasting read op. sym (a.work s (sym a.stack ∙ is) lasting read op);
}

alike_self : (f : Files) → IsAlike f f
alike_self f = record { stack = refl; work = λ s is lasting read op. refl }

alike_lasting : (f x : Files) → SameLasting f x → IsAlike f x
alike_lasting f x same = record {
  stack = stack-lasting f x same;
  work = λ s is lasting read op. work_same f x (λ name last. same.at (patch_name name) last) s
      (ap (λ (o : Option (List ℕ)). is_bad o || is_some (get x (save_name (suc (suc s.applied))))) (same.at (save_name (suc s.applied)) (save-lasting (suc s.applied)))
      ∙ ap (λ (o : Option (List ℕ)). is_bad (get f (save_name (suc s.applied))) || is_some o) (same.at (save_name (suc (suc s.applied))) (save-lasting (suc (suc s.applied)))))
      (same.at (save_name s.applied) (save-lasting s.applied)) lasting read op;
}

-- ---- files of which only the save of the first patch that isn't applied may be another one
record IsKept (f : Files) (s : Stack) (x : Files) : Type 0 where
  pub own : (q : List ℕ) → is_of_stack q ≡ true → is_temp q ≡ false → bytes_eq (save_name (suc s.applied)) q ≡ false → get x q ≡ get f q
  pub next : is_bad (get x (save_name (suc s.applied))) ≡ false

text-own : (name : List ℕ) → is_of_stack (patch_name name) ≡ true
text-own name = refl

save-no_text : (k : ℕ) (name : List ℕ) → bytes_eq (save_name k) (patch_name name) ≡ false
unfolding save_name
save-no_text k name = refl

other_save : (f x : Files) (j k : ℕ) → (j ≡ k → ⊥) → ((q : List ℕ) → is_of_stack q ≡ true → is_temp q ≡ false → bytes_eq (save_name j) q ≡ false → get x q ≡ get f q) → get x (save_name k) ≡ get f (save_name k)
other_save f x j k ne own = own (save_name k) (save-own k) (save-lasting k) (save-no_other j k ne)

before_one : (n : ℕ) → suc n ≡ n → ⊥
before_one n is = omega (arith, is)

behind_one : (n : ℕ) → suc n ≡ suc (suc n) → ⊥
behind_one n is = omega (arith, is)

module _ (f : Files) (s : Stack) (ready : IsReady f s) where
  kept_bad : (x : Files) → IsKept f s x → has_bad_save s.applied x ≡ has_bad_save s.applied f
  kept_bad x kept =
      neither (is_bad (get x (save_name (suc s.applied)))) (is_some (get x (save_name (suc (suc s.applied))))) kept.next (ap is_some (other_save f x (suc s.applied) (suc (suc s.applied)) (behind_one s.applied) kept.own ∙ ready.behind))
      ∙ sym (neither (is_bad (get f (save_name (suc s.applied)))) (is_some (get f (save_name (suc (suc s.applied))))) ready.next (ap is_some ready.behind))

  kept_work : (x : Files) → IsKept f s x → HaveLastingTexts s.patches → (read : Reader) (op : StackOp) → work_of read op x s ≡ work_of read op f s
  kept_work x kept lasting read op = work_same f x (λ name last. kept.own (patch_name name) (text-own name) last (save-no_text (suc s.applied) name)) s
      (kept_bad x kept) (other_save f x (suc s.applied) s.applied (before_one s.applied) kept.own) lasting read op

  same_stack : (t : Stack) → stack_of f ≡ Ok t → s ≡ t
  same_stack t is =
      let both : ◌≡◌ {A = Result Stack Refusal} (Ok s) (Ok t) = sym ready.stack ∙ is in
      let same : s ≡ t = cc in
      same

  kept_alike : (x : Files) → IsKept f s x → IsAlike f x
  kept_alike x kept = record {
    stack = stack-same f x (kept.own series_name series-own series-lasting (save-no_series (suc s.applied))) (kept.own count_name count-own count-lasting (save-no_count (suc s.applied)));
    work = λ t is. subst (λ (r : Stack). HaveLastingTexts r.patches → (read : Reader) (op : StackOp) → work_of read op x r ≡ work_of read op f r) (same_stack t is) (kept_work x kept);
  }

-- ---- effects that keep it so
record IsHarmless (name : List ℕ) (e : Effect) : Type 0 where
  pub apart : (q : List ℕ) → is_of_stack q ≡ true → bytes_eq name q ≡ false → bytes_eq (changed_by e) q ≡ false
  pub next : (x : Files) → is_bad (get x name) ≡ false → is_bad (get (after e x) name) ≡ false

abbrev AreHarmless : ℕ → List Effect → Type 0
AreHarmless k es = AllByRecursion (IsHarmless (save_name k)) es

harmless_kept : (f : Files) (s : Stack) (e : Effect) (x : Files) → IsHarmless (save_name (suc s.applied)) e → IsKept f s x → IsKept f s (after e x)
harmless_kept f s e x harmless kept = record {
  own = λ q is lasting other. effect-apart e x q lasting (harmless.apart q is other) ∙ kept.own q is lasting other;
  next = harmless.next x kept.next;
}

all_alike : (f : Files) (s : Stack) → IsReady f s → (es : List Effect) → AreHarmless (suc s.applied) es → Every (IsAlike f) es f
all_alike f s ready es all = every-map (IsKept f s) (IsAlike f) (kept_alike f s ready) es f
    (every-kept (IsKept f s) (IsHarmless (save_name (suc s.applied))) (harmless_kept f s) es f all (record { own = λ q is lasting other. refl; next = ready.next }))

module _ (k : ℕ) where
  within_harmless : (names : List (List ℕ)) → AreSaved names → (e : Effect) → IsWithin names e → IsHarmless (save_name k) e
  within_harmless names saved e within = record {
    apart = λ q is other. other_name names (changed_by e) q within (own_apart names q saved is);
    next = λ x good. ap is_bad (effect-apart e x (save_name k) (save-lasting k) (other_name names (changed_by e) (save_name k) within (own_apart names (save_name k) saved (save-own k)))) ∙ good;
  }

  all_harmless : (names : List (List ℕ)) → AreSaved names → (es : List Effect) → AllByRecursion (IsWithin names) es → AreHarmless k es
  all_harmless names saved [] within = tt
  all_harmless names saved (e ∷ es) within = (within_harmless names saved e within.0, all_harmless names saved es within.1)

  gone_harmless : IsHarmless (save_name k) (Remove (save_name k))
  gone_harmless = record {
    apart = λ q is other. other;
    next = λ x good. ap is_bad (gone-at (save_name k) x (save_name k)) ∙ ap (λ (v : Bool). is_bad (cond v None (get x (save_name k)))) (bytes_same (save_name k));
  }

  put_harmless : (text : List ℕ) → is_bad (Some text) ≡ false → IsHarmless (save_name k) (Put (save_name k) text)
  put_harmless text good = record {
    apart = λ q is other. other;
    next = λ x was. ap is_bad (put-at (save_name k) text x (save_name k) (save-lasting k)) ∙ ap (λ (v : Bool). is_bad (cond v (Some text) (get x (save_name k)))) (bytes_same (save_name k)) ∙ good;
  }

  undone_harmless : (es : List Entry) → AreSaved (map name_of es) → (y : Files) → AreHarmless k (undoing_by (save_name k) (Some es) y)
  undone_harmless es saved y = within-both (IsHarmless (save_name k)) (restoring es y) (Remove (save_name k) ∷ []) (all_harmless (map name_of es) saved (restoring es y) (restoring-within es y)) (gone_harmless, tt)

-- a recovery
module _ (f : Files) (s : Stack) (ready : IsReady f s) where
  by_entries : (text : List ℕ) → get f (save_name (suc s.applied)) ≡ Some text → (o : Option (List Entry)) → entries_of text ≡ o → AreHarmless (suc s.applied) (recovering f)
  by_entries text there None read = absurd (not_both (is_none (entries_of text)) (ap is_none read) (ap is_bad (sym there) ∙ ready.next))
  by_entries text there (Some es) read = subst (λ (l : List Effect). AreHarmless (suc s.applied) l) (sym (recovering-ok f s (Some es) ready.stack (ap saved_in there ∙ read)))
      (undone_harmless (suc s.applied) es (entries-saved es (entries-sound text es read).saved) f)

  by_file : (o : Option (List ℕ)) → get f (save_name (suc s.applied)) ≡ o → AreHarmless (suc s.applied) (recovering f)
  by_file None there = subst (λ (l : List Effect). AreHarmless (suc s.applied) l) (sym (clean-recovering f s ready.stack there)) tt
  by_file (Some text) there = by_entries text there (entries_of text) refl

  recovery_harmless : AreHarmless (suc s.applied) (recovering f)
  recovery_harmless = by_file (get f (save_name (suc s.applied))) refl

-- ---- what is left of effects
record Leaves (f z c : Files) : Type 0 where
  pub early : stack_of c ≡ stack_of f → IsAlike f c
  pub late : stack_of c ≡ stack_of z → IsAlike z c

abbrev Leaving : Files → List Effect → Type 0
Leaving f l = (k : ℕ) (c : Files) → SameLasting (after_all (take k l) f) c → Leaves f (after_all l f) c

abbrev AreBetween : Files → Files → Files → Type 0
AreBetween f z x = IsAlike f x ⊎ IsAlike z x

leaving_alike : (f : Files) (l : List Effect) → Every (IsAlike f) l f → Leaving f l
leaving_alike f l every k c same =
    let there : IsAlike f c = alike_both (every-take (IsAlike f) l f k every) (alike_lasting (after_all (take k l) f) c same) in
    let last : IsAlike f (after_all l f) = every-last (IsAlike f) l f every in
    record {
      early = λ is. there;
      late = λ is. alike_both (alike_back last) there;
    }

left_of_both : (f z c : Files) → (stack_of z ≡ stack_of f → ⊥) → AreBetween f z c → Leaves f z c
left_of_both f z c apart between = ⊎_elim
    (λ (there : IsAlike f c). record {
      early = λ is. there;
      late = λ is. absurd (apart (sym is ∙ there.stack));
    })
    (λ (there : IsAlike z c). record {
      early = λ is. absurd (apart (sym there.stack ∙ is));
      late = λ is. there;
    })
    between

leaving_between : (f z : Files) (l : List Effect) → after_all l f ≡ z → (stack_of z ≡ stack_of f → ⊥) → Every (AreBetween f z) l f → Leaving f l
leaving_between f z l end apart every k c same = subst (λ (y : Files). Leaves f y c) (sym end)
    (left_of_both f z c apart (⊎_elim
    (λ (there : IsAlike f (after_all (take k l) f)). inl (alike_both there (alike_lasting (after_all (take k l) f) c same)))
    (λ (there : IsAlike z (after_all (take k l) f)). inr (alike_both there (alike_lasting (after_all (take k l) f) c same)))
    (every-take (AreBetween f z) l f k every)))

-- ---- pushes
module _ (f : Files) (s : Stack) (ready : IsReady f s) (done : Recovery f s) (p : Patch) (saved : AreSaved (names_of p.targets)) (within : (x : Files) → AllByRecursion (IsWithin (names_of p.targets)) (p.run x).effects) (le : suc s.applied ≤ length s.patches) (name : List ℕ) where
  idle_leaves : Leaving f (recovering f ++ [])
  idle_leaves = leaving_alike f (recovering f ++ []) (all_alike f s ready (recovering f ++ []) (within-both (IsHarmless (save_name (suc s.applied))) (recovering f) [] (recovery_harmless f s ready) tt))

  module _ (short : too_long (entries_at (recover f) (names_of p.targets)) ≡ None) where
    abbrev names : List (List ℕ)
    names = names_of p.targets

    abbrev a : Application
    a = p.run (saved_files (recover f) s.applied (names_of p.targets))

    abbrev es : List Entry
    es = entries_at (recover f) (names_of p.targets)

    is_read : entries_of (save_text es) ≡ Some es
    is_read = save-read (recover f) names saved short

    front_harmless : AreHarmless (suc s.applied) (saving s.applied es ∷ a.effects)
    front_harmless = (put_harmless (suc s.applied) (save_text es) (ap is_none is_read), all_harmless (suc s.applied) names saved a.effects (within (saved_files (recover f) s.applied names)))

    first_harmless : AreHarmless (suc s.applied) (recovering f ++ saving s.applied es ∷ a.effects)
    first_harmless = within-both (IsHarmless (save_name (suc s.applied))) (recovering f) (saving s.applied es ∷ a.effects) (recovery_harmless f s ready) front_harmless

    fails_leave : (y : Files) → Leaving f (recovering f ++ saving s.applied es ∷ (a.effects ++ undoing_by (save_name (suc s.applied)) (Some es) y))
    fails_leave y =
        let l : List Effect = recovering f ++ saving s.applied es ∷ (a.effects ++ undoing_by (save_name (suc s.applied)) (Some es) y) in
        leaving_alike f l (all_alike f s ready l (within-both (IsHarmless (save_name (suc s.applied))) (recovering f) (saving s.applied es ∷ (a.effects ++ undoing_by (save_name (suc s.applied)) (Some es) y)) (recovery_harmless f s ready)
        (within-both (IsHarmless (save_name (suc s.applied))) (saving s.applied es ∷ a.effects) (undoing_by (save_name (suc s.applied)) (Some es) y) front_harmless
        (undone_harmless (suc s.applied) es (entries-saved es (entries-sound (save_text es) es is_read).saved) y))))

    abbrev raised : Files
    raised = after (raising s.applied) (run_files (recover f) s.applied (names_of p.targets) a)

    done_every : Every (AreBetween f raised) (recovering f ++ push_list (recover f) s.applied (names_of p.targets) a Done) f
    done_every =
        let l : List Effect = recovering f ++ saving s.applied es ∷ a.effects in
        let first : Every (IsAlike f) l f = all_alike f s ready l first_harmless in
        subst (λ (m : List Effect). Every (AreBetween f raised) m f) (append_assoc (recovering f) (saving s.applied es ∷ a.effects) (raising s.applied ∷ []))
        (every-append (AreBetween f raised) l (raising s.applied ∷ []) f
        (every-map (IsAlike f) (AreBetween f raised) (λ x there. inl there) l f first)
        (inl (every-last (IsAlike f) l f first), inr (subst (λ (y : Files). IsAlike raised (after (raising s.applied) y)) (sym (behind_end f (saving s.applied es ∷ a.effects))) (alike_self raised))))

    done_leaves : Leaving f (recovering f ++ push_list (recover f) s.applied (names_of p.targets) a Done)
    done_leaves = leaving_between f raised (recovering f ++ push_list (recover f) s.applied (names_of p.targets) a Done)
        (behind_end f (push_list (recover f) s.applied (names_of p.targets) a Done) ∙ run_end (recover f) s done.clean (names_of p.targets) saved short a (within _) Done)
        (stacks_apart f raised s (suc s.applied) ready.stack
        (done_stack (recover f) s done.clean (names_of p.targets) saved short (run_files (recover f) s.applied (names_of p.targets) a) (ran (recover f) s done.clean (names_of p.targets) saved short a (within _)) le)
        (before_back s.applied))
        done_every
      where
        before_back : (n : ℕ) → n ≡ suc n → ⊥
        before_back n is = omega (arith, is)

    run_leaves : (ending : Ending) → Leaving f (recovering f ++ push_list (recover f) s.applied (names_of p.targets) a ending)
    run_leaves Done = done_leaves
    run_leaves Rejected = fails_leave (run_files (recover f) s.applied (names_of p.targets) a)
    run_leaves CutOff = fails_leave (run_files (recover f) s.applied (names_of p.targets) a)

  push_leaves : (o : Option ℕ) → too_long (entries_at (recover f) (names_of p.targets)) ≡ o → Leaving f (recovering f ++ (push_outcome name p s (entries_at (recover f) (names_of p.targets)) o (recover f)).effects)
  push_leaves (Some size) long = idle_leaves
  push_leaves None short = run_leaves short (p.run (saved_files (recover f) s.applied (names_of p.targets))).ending

-- ---- every command
module _ (read : Reader) (lawful : IsReader read) (f : Files) (s : Stack) (w : Work) (stack : stack_of f ≡ Ok s) where
  push_work_leaves : work_of read Push f s ≡ Ok w → Leaving f (recovering f ++ (work_outcome w s (recover f)).effects)
  push_work_leaves work =
      let it : IsPush read f s w = pushed read lawful f s w stack work in
      subst (λ (x : Work). Leaving f (recovering f ++ (work_outcome x s (recover f)).effects)) (sym it.work)
      (push_leaves f s (work-ready read Push f s w stack work) (back read lawful f s w stack work) it.patch (push_saved read lawful f s w stack work) (push_within read lawful f s w stack work) (push_left read lawful f s w stack work) it.name (too_long (entries_at (recover f) (names_of it.patch.targets))) refl)

  pop_work_leaves : work_of read Pop f s ≡ Ok w → Leaving f (recovering f ++ (work_outcome w s (recover f)).effects)
  pop_work_leaves work =
      let it = popped read f s w stack work in
      let n : ℕ = it.before in
      let g : Files = recover f in
      let x : Files = after (lowering n) g in
      let z : Files = recover x in
      let clean = (before_pop read f s w stack work).clean.stack in
      let less = fewer read f s w stack work in
      let there = pop_saved read f s w stack work in
      let none = none_behind read f s w stack work in
      let ready : IsReady f s = work-ready read Pop f s w stack work in
      let first : Every (IsAlike f) (recovering f) f = all_alike f s ready (recovering f) (recovery_harmless f s ready) in
      let low : IsReady x (with_count s n) = lowered_ready g s n clean less there none in
      let second : Every (IsAlike x) (recovering x) x = all_alike x (with_count s n) low (recovering x) (recovery_harmless x (with_count s n) low) in
      let last : IsAlike x z = every-last (IsAlike x) (recovering x) x second in
      subst (λ (v : Work). Leaving f (recovering f ++ (work_outcome v s g).effects)) (sym it.work)
      (leaving_between f z (recovering f ++ pop_effects n g)
      (behind_end f (pop_effects n g) ∙ pop_end g s n clean less there none)
      (stacks_apart f z s n stack (pop_stack g s n clean less there none) (λ same. omega (arith, same, it.applied)))
      (every-append (AreBetween f z) (recovering f) (pop_effects n g) f
      (every-map (IsAlike f) (AreBetween f z) (λ y is. inl is) (recovering f) f first) (
        inl (every-last (IsAlike f) (recovering f) f first),
        subst (λ (l : List Effect). Every (AreBetween f z) l x) (lowered_effects g s n clean less there none)
            (every-map (IsAlike x) (AreBetween f z) (λ y is. inr (alike_both (alike_back last) is)) (recovering x) x second),
      )))

  told_leaves : work_of read Applied f s ≡ Ok w → Leaving f (recovering f ++ (work_outcome w s (recover f)).effects)
  told_leaves work =
      let ready : IsReady f s = work-ready read Applied f s w stack work in
      subst (λ (x : Work). Leaving f (recovering f ++ (work_outcome x s (recover f)).effects)) (sym (telling_is read f s w work))
      (leaving_alike f (recovering f ++ []) (all_alike f s ready (recovering f ++ []) (within-both (IsHarmless (save_name (suc s.applied))) (recovering f) [] (recovery_harmless f s ready) tt)))

  work_leaves : (op : StackOp) → work_of read op f s ≡ Ok w → Leaving f (recovering f ++ (work_outcome w s (recover f)).effects)
  work_leaves Push work = push_work_leaves work
  work_leaves Pop work = pop_work_leaves work
  work_leaves Applied work = told_leaves work

command_leaves : (read : Reader) → IsReader read → (op : StackOp) (f : Files) → Leaving f (command read op f).effects
command_leaves read lawful op f = command-cases (λ o. Leaving f o.effects) read op f
    (λ e. leaving_alike f [] (alike_self f))
    (λ s w stack work. work_leaves read lawful f s w stack op work)

-- ---- answers
entries_same : (names : List (List ℕ)) (f x : Files) → AllByRecursion IsLasting names → SameLasting f x → entries_at x names ≡ entries_at f names
entries_same [] f x lasting same = refl
entries_same (name ∷ names) f x lasting same =
    ap (λ (o : Option (List ℕ)). entry_with name o ∷ entries_at x names) (same.at name lasting.0.lasting)
    ∙ ap (λ (es : List Entry). entry_with name (get f name) ∷ es) (entries_same names f x lasting.1 same)

abbrev long_in : Option ℕ → Option Answer
long_in None = None
long_in (Some size) = Some (TooLong size)

push_refusal : (name : List ℕ) (p : Patch) (s : Stack) (held : List Entry) (o : Option ℕ) (g : Files) → refusal_in (push_outcome name p s held o g).answer ≡ long_in o
push_refusal name p s held None g = refl
push_refusal name p s held (Some size) g = refl

module _ (f x : Files) (s : Stack) (same : SameLasting (recover f) (recover x)) where
  pushing_same : (name : List ℕ) (p : Patch) → AllByRecursion IsLasting (names_of p.targets) → refusal_in (work_outcome (Pushing name p) s (recover x)).answer ≡ refusal_in (work_outcome (Pushing name p) s (recover f)).answer
  pushing_same name p lasting =
      let names : List (List ℕ) = names_of p.targets in
      push_refusal name p s (entries_at (recover x) names) (too_long (entries_at (recover x) names)) (recover x)
      ∙ ap (λ (es : List Entry). long_in (too_long es)) (entries_same names (recover f) (recover x) lasting same)
      ∙ sym (push_refusal name p s (entries_at (recover f) names) (too_long (entries_at (recover f) names)) (recover f))

  work_answers : (read : Reader) → IsReader read → (op : StackOp) (w : Work) → stack_of f ≡ Ok s → work_of read op f s ≡ Ok w → refusal_in (work_outcome w s (recover x)).answer ≡ refusal_in (work_outcome w s (recover f)).answer
  work_answers read lawful Push w stack work =
      let it : IsPush read f s w = work-push read f s w work in
      subst (λ (v : Work). refusal_in (work_outcome v s (recover x)).answer ≡ refusal_in (work_outcome v s (recover f)).answer) (sym it.work)
      (pushing_same it.name it.patch (lawful.patches _ it.patch it.is_read).names)
  work_answers read lawful Pop w stack work =
      subst (λ (v : Work). refusal_in (work_outcome v s (recover x)).answer ≡ refusal_in (work_outcome v s (recover f)).answer) (sym (popped read f s w stack work).work) refl
  work_answers read lawful Applied w stack work =
      subst (λ (v : Work). refusal_in (work_outcome v s (recover x)).answer ≡ refusal_in (work_outcome v s (recover f)).answer) (sym (telling_is read f s w work)) refl

module _ (read : Reader) (lawful : IsReader read) (op : StackOp) (f x : Files) (alike : IsAlike f x) (same : SameLasting (recover f) (recover x)) (lasting : (s : Stack) → stack_of x ≡ Ok s → HaveLastingTexts s.patches) where
  by_work : (s : Stack) → stack_of f ≡ Ok s → (w : Result Work Refusal) → work_of read op f s ≡ w → refusal_in (command read op x).answer ≡ refusal_in (command read op f).answer
  by_work s stack (Err e) work =
      ap (λ (o : Outcome). refusal_in o.answer) (command-work read op x s (Err e) (alike.stack ∙ stack) (alike.work s stack (lasting s (alike.stack ∙ stack)) read op ∙ work))
      ∙ sym (ap (λ (o : Outcome). refusal_in o.answer) (command-work read op f s (Err e) stack work))
  by_work s stack (Ok w) work =
      ap (λ (o : Outcome). refusal_in o.answer) (command-work read op x s (Ok w) (alike.stack ∙ stack) (alike.work s stack (lasting s (alike.stack ∙ stack)) read op ∙ work))
      ∙ work_answers f x s same read lawful op w stack work
      ∙ sym (ap (λ (o : Outcome). refusal_in o.answer) (command-work read op f s (Ok w) stack work))

  by_stack : (r : Result Stack Refusal) → stack_of f ≡ r → refusal_in (command read op x).answer ≡ refusal_in (command read op f).answer
  by_stack (Err e) stack =
      ap (λ (o : Outcome). refusal_in o.answer) (command-is read op x (Err e) (alike.stack ∙ stack))
      ∙ sym (ap (λ (o : Outcome). refusal_in o.answer) (command-is read op f (Err e) stack))
  by_stack (Ok s) stack = by_work s stack (work_of read op f s) refl

  answers_same : refusal_in (command read op x).answer ≡ refusal_in (command read op f).answer
  answers_same = by_stack (stack_of f) refl

pub next_refused : (read : Reader) → IsReader read → (op next : StackOp) (f : Files) (k : ℕ) (c : Files) → SameLasting (after_all (take k (command read op f).effects) f) c
    → ((s : Stack) → stack_of c ≡ Ok s → HaveLastingTexts s.patches) → RefusesAs read next f (after_all (command read op f).effects f) c
next_refused read lawful op next f k c left lasting =
    let z : Files = after_all (command read op f).effects f in
    let leaves : Leaves f z c = command_leaves read lawful op f k c left in
    let recovers : Recovers f z c = stopped_command read lawful op f k c left in
    record {
      early = λ is. answers_same read lawful next f c (leaves.early is) (recovers.early is) lasting;
      late = λ is. answers_same read lawful next z c (leaves.late is) (recovers.late is) lasting;
    }
