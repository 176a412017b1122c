-- Temporary names behind a part of a run.
use Rattle.std.proofs.Common.{◌≡◌, ◌≢◌, ◌⊎◌, inl, inr, ⊎_elim, ℕ, List, [], ◌∷◌, ◌++◌, Bool, true, false, is_some, if◌then◌else◌, Option, None, Some, Result, Ok, Err, IfErr, refl, sym, ◌∙◌, ap, subst}
use Rattle.std.proofs.lemmas.Bool.{false≢true}
use Rattle.std.proofs.lemmas.Option.{same_Some}
use Rattle.std.specs.FinMap.{get, insert}
use Rattle.std.specs.Result.{IsErrAnd}
use Rattle.outside.specs.Files.{Files, is_temp, temp_of, bytes_at}
use Rattle.outside.specs.TreeView.{TreeView, Passes, told_on}
use Rattle.outside.specs.Calls.{IsUntouched}
use Rattle.outside.specs.Quiet.{Effect, Holds, WorksOn, after, after_all}
use Rattle.outside.specs.Quiet.Effect.{Put, Remove}
use Rattle.outside.proofs.Names.{equal_or_not, get-gone, get-gone_other, get-put_other, apart}
use Rattle.read_file_patch.specs.declared.derived.Target.{Target}
use Rattle.read_file_patch.specs.Targets.{IsLasting}
use Rattle.apply_task.specs.declared.fault.RunFault.{RunFault}
use Rattle.apply_task.specs.declared.fault.RunFault.TheVariants.{Tree, Write, Scratch, LongLine, FileTooLong, Disagree, Memory}
use Rattle.apply_task.specs.TargetEffects.{put_if, backup_effects, target_effects, moving_effects, moved_effects}
use Rattle.apply_task.specs.Making.{IsMade, Makes, IsGone, IsTidy, UnlessFailed, TidyAfter}
use Rattle.apply_task.proofs.EffectLists.{after_all-append}

pub tidy_none : (u : TreeView) → IsTidy u u
tidy_none u f g told now q is = inr (ap (λ (h : Files). get h q) (same_Some g f (sym now ∙ told)))

pub tidy_both : (u v w : TreeView) → Passes u v → IsTidy u v → IsTidy v w → IsTidy u w
tidy_both u v w passes a b f g told now q is =
    let mid = told_on f passes told in
    ⊎_elim (λ none. inl none) (λ same. ⊎_elim (λ none. inl (same ∙ none)) (λ kept. inr (same ∙ kept)) (a f mid.0 told mid.1 q is)) (b mid.0 g mid.1 now q is)

pub untouched_tidy : {u w : TreeView} → IsUntouched u w → IsTidy u w
untouched_tidy same f g told now q is = inr (ap (λ (h : Files). get h q) (same_Some g f (sym now ∙ same.told ∙ told)))

-- a temporary that was worked on, and is gone
pub works_tidy : {u w : TreeView} (temp : List ℕ) → WorksOn u w temp → IsGone w temp → IsTidy u w
works_tidy temp works gone f g told now q is = ⊎_elim
    (λ (eq : q ≡ temp). inl (ap (λ (n : List ℕ). get g n) eq ∙ gone g now))
    (λ (ne : q ≢ temp). inr (works.others f g told now q ne))
    (equal_or_not q temp)

-- what is there holds some bytes
some_of : (o : Option (List ℕ)) → is_some o ≡ true → (b : List ℕ) × (o ≡ Some b)
some_of None is = absurd (false≢true is)
some_of (Some b) is = (b, refl)

pub there_holds : (u : TreeView) (n : List ℕ) (f : Files) → u.told ≡ Some f → is_some (get f n) ≡ true → (b : List ℕ) × Holds u n b
there_holds u n f told there =
    let held = some_of (get f n) there in
    (held.0, λ g now. ap (λ (h : Files). get h n) (same_Some g f (sym now ∙ told)) ∙ held.1)

-- ---- effects

-- none of these effects leaves a temporary
abbrev pub AreTidy : List Effect → Type 0
AreTidy es = (f : Files) (q : List ℕ) → is_temp q ≡ true → (get (after_all es f) q ≡ None) ⊎ (get (after_all es f) q ≡ get f q)

put_tidy : (name bytes : List ℕ) → is_temp name ≡ false → AreTidy (Put name bytes ∷ [])
put_tidy name bytes lasting f q is = ⊎_elim
    (λ (eq : q ≡ temp_of name). inl (ap (λ (n : List ℕ). get (after (Put name bytes) f) n) eq ∙ get-gone (insert f name bytes) (temp_of name)))
    (λ (ne : q ≢ temp_of name). inr (get-gone_other (insert f name bytes) (temp_of name) q ne ∙ get-put_other f name bytes q (λ eq. apart name q lasting is (sym eq))))
    (equal_or_not q (temp_of name))

pub put_if_tidy : (due : Bool) (name bytes : List ℕ) → is_temp name ≡ false → AreTidy (put_if due name bytes)
put_if_tidy true name bytes lasting = put_tidy name bytes lasting
put_if_tidy false name bytes lasting = λ f q is. inr refl

target_tidy : (removal : Bool) (f : Files) (w : Target) (output : List ℕ) → is_temp w.name ≡ false → AreTidy (target_effects removal f w output)
target_tidy false h w output lasting = put_tidy w.name output lasting
target_tidy true h w output lasting = elim (is_some (get h w.name)) as (λ b. AreTidy (if b then Remove w.name ∷ [] else [])) [
  | true ↦ λ f q is. inr (get-gone_other f w.name q (λ eq. apart w.name q lasting is (sym eq)))
  | false ↦ λ f q is. inr refl
]

tidy_append : (es ds : List Effect) → AreTidy es → AreTidy ds → AreTidy (es ++ ds)
tidy_append es ds a b f q is =
    let at : get (after_all (es ++ ds) f) q ≡ get (after_all ds (after_all es f)) q = ap (λ (h : Files). get h q) (after_all-append es ds f) in
    ⊎_elim
    (λ none. inl (at ∙ none))
    (λ same. ⊎_elim (λ none. inl (at ∙ same ∙ none)) (λ kept. inr (at ∙ same ∙ kept)) (a f q is))
    (b (after_all es f) q is)

pub placed_tidy : (due removal : Bool) (f : Files) (w : Target) (output : List ℕ) → is_temp w.backup ≡ false → is_temp w.name ≡ false → AreTidy (backup_effects due f w ++ target_effects removal f w output)
placed_tidy due removal f w output backup name =
    tidy_append (backup_effects due f w) (target_effects removal f w output) (put_if_tidy due w.backup (bytes_at f w.name) backup) (target_tidy removal f w output name)

remove_tidy : (name : List ℕ) → is_temp name ≡ false → AreTidy (Remove name ∷ [])
remove_tidy name lasting f q is = inr (get-gone_other f name q (λ eq. apart name q lasting is (sym eq)))

pub moved_tidy : (due source_due : Bool) (f : Files) (source w : Target) (output : List ℕ) → IsLasting source → IsLasting w → AreTidy (moved_effects due source_due f source w output)
moved_tidy due source_due f source w output of_source of_target =
    let last = tidy_append (target_effects false f w output) (Remove source.name ∷ []) (target_tidy false f w output of_target.own) (remove_tidy source.name of_source.own) in
    let moving = tidy_append (backup_effects source_due f source) (target_effects false f w output ++ Remove source.name ∷ []) (put_if_tidy source_due source.backup (bytes_at f source.name) of_source.backup) last in
    tidy_append (backup_effects due f w) (moving_effects source_due f source w output) (put_if_tidy due w.backup (bytes_at f w.name) of_target.backup) moving

made_tidy : {u w : TreeView} (temp : List ℕ) (f : Files) (es : List Effect) → IsMade u w temp es → IsGone w temp → AreTidy es → u.told ≡ Some f → (g : Files) → w.told ≡ Some g → (q : List ℕ) → is_temp q ≡ true → (get g q ≡ None) ⊎ (get g q ≡ get f q)
made_tidy temp f es made gone tidy told g now q is = ⊎_elim
    (λ (eq : q ≡ temp). inl (ap (λ (n : List ℕ). get g n) eq ∙ gone g now))
    (λ (ne : q ≢ temp).
    let at = made.exact f g told now q ne in
    ⊎_elim (λ none. inl (at ∙ none)) (λ same. inr (at ∙ same)) (tidy f q is))
    (equal_or_not q temp)

pub makes_tidy : {R : Type 0} {u w : TreeView} (x : R) (temp : List ℕ) (es : Files → List Effect) → ((f : Files) → u.told ≡ Some f → Makes u w (Ok x) temp es) → IsGone w temp → ((f : Files) → AreTidy (es f)) → IsTidy u w
makes_tidy x temp es makes gone tidy f g told now q is = made_tidy temp f (es f) ((makes f told).ok f told) gone (tidy f) told g now q is

-- ---- faults

pub unless_held : {P : Type 0} (e : RunFault) → P → UnlessFailed e P
unless_held Tree p = tt
unless_held Write p = tt
unless_held Scratch p = tt
unless_held (LongLine line count) p = p
unless_held (FileTooLong count) p = p
unless_held (Disagree want got) p = p
unless_held Memory p = p

pub unless_then : {P Q : Type 0} (e : RunFault) → (P → Q) → UnlessFailed e P → UnlessFailed e Q
unless_then Tree h p = tt
unless_then Write h p = tt
unless_then Scratch h p = tt
unless_then (LongLine line count) h p = h p
unless_then (FileTooLong count) h p = h p
unless_then (Disagree want got) h p = h p
unless_then Memory h p = h p

-- a fault that is passed on
pub passed_tidy : {R : Type 0} (u w : TreeView) (e : RunFault) (r : Result R RunFault) → IsErrAnd r (λ y. y ≡ e) → UnlessFailed e (IsTidy u w) → TidyAfter r u w
passed_tidy u w e (Ok x) is tidy = absurd is
passed_tidy u w e (Err y) is tidy = subst (λ (x : RunFault). UnlessFailed x (IsTidy u w)) (sym is) tidy

-- the temporary is gone
pub gone_tidy : {R : Type 0} {u w : TreeView} (temp : List ℕ) (r : Result R RunFault) → WorksOn u w temp → IfErr r (λ e. UnlessFailed e (IsGone w temp)) → IfErr r (λ e. UnlessFailed e (IsTidy u w))
gone_tidy temp (Ok x) works gone = tt
gone_tidy temp (Err e) works gone = unless_then e (works_tidy temp works) gone

-- no call was made
pub unmade_tidy : {R : Type 0} (u : TreeView) (r : Result R RunFault) → IfErr r (λ e. UnlessFailed e (IsTidy u u))
unmade_tidy u (Ok x) = tt
unmade_tidy u (Err e) = unless_held e (tidy_none u)

-- ---- a file patch whose hunks were tried

pub attempt_tidy : (u v w : TreeView) (dry : Bool) (temp : List ℕ) → (dry ≡ true → IsTidy u w) → (dry ≡ false → IsGone w temp) → WorksOn u v temp → IsTidy v w → IsTidy u w
attempt_tidy u v w true temp same gone works tidy = same refl
attempt_tidy u v w false temp same gone works tidy = λ f g told now q is.
    let mid = told_on f works.passes told in
    ⊎_elim
    (λ (eq : q ≡ temp). inl (ap (λ (n : List ℕ). get g n) eq ∙ gone refl g now))
    (λ (ne : q ≢ temp).
    let kept = works.others f mid.0 told mid.1 q ne in
    ⊎_elim (λ none. inl none) (λ same. inr (same ∙ kept)) (tidy mid.0 g mid.1 now q is))
    (equal_or_not q temp)
