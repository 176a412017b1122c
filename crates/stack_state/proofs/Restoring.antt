-- A save that is restored, as a step.
use Rattle.std.proofs.Common.{◌≡◌, ⊎_elim, ℕ, List, [], ◌∷◌, ◌++◌, Bool, true, false, cond, is_some, IsSome, Option, Some, None, Ok, Err, refl, sym, ◌∙◌, ap, subst}
use Rattle.std.specs.List.{AllByRecursion}
use Rattle.std.specs.FinMap.{get}
use Rattle.outside.specs.Files.{Files, is_temp}
use Rattle.outside.specs.TreeView.{TreeView, Passes, Rises}
use Rattle.outside.specs.SinkView.{SinkView, sink_passes_none}
use Rattle.outside.specs.Calls.{Becomes, IsThere}
use Rattle.outside.specs.Quiet.{IsQuiet, Effect, after, after_all, TellsPrefix, LeavesPrefix}
use Rattle.outside.specs.Quiet.Effect.{Put, Remove}
use Rattle.outside.proofs.Views.{told_back}
use Rattle.outside.proofs.Writing.{received_none, received_part}
use Rattle.series_stack.specs.declared.fault.StackFault.{StackFault}
use Rattle.series_stack.specs.declared.fault.StackFault.TheVariants as stack
use Rattle.series_stack.specs.Causes.{HasFailed}
use Rattle.series_stack.specs.Saves.{Entry, IsSaved, name_of, entries_of, is_of_stack}
use Rattle.series_stack.specs.Saves.Entry.{Missing, Held}
use Rattle.series_stack.specs.Restoring.{effects_of, restoring, restored}
use Rattle.series_stack.proofs.Entries.{entries-sound}
use Rattle.series_stack.proofs.Fronts.{bytes_same}
use Rattle.series_stack.proofs.Meaning.{put-at}
use Rattle.series_stack.proofs.Names.{save-lasting, save-own, saved-lasting}
use Rattle.apply_task.specs.declared.fault.RunFault.{RunFault}
use Rattle.apply_task.specs.declared.fault.RunFault.TheVariants.{Tree, Memory}
use Rattle.stack_state.specs.Steps.{TempsStay, IsWhole, Steps}
use Rattle.stack_state.specs.Undoing.{restored_by, taken_away, undone_by}
use Rattle.stack_state.proofs.Stepping.{temps-both, temps-same, temps-put, temps-gone}
use Rattle.std.proofs.lemmas.Option.{same_Some}
use Rattle.outside.specs.Files.{SameLasting, lasting-same}
use Rattle.series_stack.proofs.Going.{some_of}
use Rattle.series_stack.proofs.Steps.{restoring-nil, restored-cons}
use Rattle.series_stack.specs.Stack.{count_name, save_name, undoing, undoing_by, saved_in}
use Rattle.series_stack.specs.Count.{count_text}
use Rattle.series_stack.proofs.Popping.{count_apart}
use Rattle.series_stack.specs.Outcomes.{recovered_text, said}
use Rattle.series_stack.proofs.Every.{every-last}
use Rattle.series_stack.proofs.Recovering.{undoing-is}
use Rattle.series_stack.proofs.Touching.{beside-same, entries-saved, every-beside, own_apart, restoring-within}
use Rattle.series_stack.specs.Undoing.{SameBeside}
use Rattle.std.specs.Prelude.{map, codes}
use Rattle.num_text.specs.Numbers.{decimal}
use Rattle.stack_state.specs.Steps.{HasStepCause, IsPart}

-- ---- temporary names
temps-entry : (e : Entry) (f : Files) → is_temp (name_of e) ≡ false → TempsStay f (after_all (effects_of e f) f)
temps-entry (Held name bytes) f lasting = temps-put name bytes f lasting
temps-entry (Missing name) f lasting = by (is_some (get f name))
  where
    by : (v : Bool) → TempsStay f (after_all (cond v (Remove name ∷ []) []) f)
    by true = temps-gone name f lasting
    by false = temps-same f

temps-restored : (es : List Entry) (f : Files) → AllByRecursion IsSaved es → TempsStay f (restored es f)
temps-restored [] f all = subst (λ (l : List Effect). TempsStay f (after_all l f)) (sym (restoring-nil f)) (temps-same f)
temps-restored (e ∷ es) f all =
    let now : Files = after_all (effects_of e f) f in
    subst (λ (g : Files). TempsStay f g) (sym (restored-cons e es f))
    (temps-both f now (restored es now) (temps-entry e f (saved-lasting (name_of e) all.0.name).0) (temps-restored es now all.1))

-- ---- a save that is restored
module _ (u w : TreeView) (c : SinkView) (save : List ℕ) (some : IsSome (entries_of save)) (passes : Passes u w)
    (leaves : (es : List Entry) (f : Files) → entries_of save ≡ Some es → u.told ≡ Some f → LeavesPrefix u w (restoring es f)) where
  entries : (es : List Entry) × (entries_of save ≡ Some es)
  entries = some_of (entries_of save) some

  pub restored_whole : {S : Type 0} (y : S) → IsQuiet w → ((es : List Entry) → entries_of save ≡ Some es → Becomes u w (restored es)) → Steps u w c c (Ok y) (restored_by (entries_of save)) (λ f. [])
  restored_whole y quiet becomes = record {
    tree = passes;
    sink = sink_passes_none c;
    quiet = quiet;
    cause = tt;
    ok = λ f told.
        let es = entries.0 in
        let now : w.told ≡ Some (restored es f) = becomes es entries.1 f told in
        subst (λ (o : Option (List Entry)). IsWhole u w c c (restored_by o f) [] f) (sym entries.1) (record {
          made = record {
            passes = passes;
            quiet = quiet;
            live = λ g h was here. subst (λ (x : Files). SameLasting (after_all (restoring es f) g) x) (same_Some _ _ (sym now ∙ here)) (subst (λ (x : Files). SameLasting (after_all (restoring es f) x) (restored es f)) (same_Some _ _ (sym told ∙ was)) (lasting-same (restored es f)));
            since = leaves es f entries.1 told;
          };
          said = received_none c;
          told = now;
          temps = temps-restored es f (entries-sound save es entries.1).saved;
        });
    err = tt;
  }

  pub restored_part : {S : Type 0} (fault : RunFault) → HasStepCause fault u w c c → ((es : List Entry) (f : Files) → entries_of save ≡ Some es → u.told ≡ Some f → TellsPrefix u w (restoring es f))
      → Steps {R = S} u w c c (Err fault) (restored_by (entries_of save)) (λ f. [])
  restored_part fault cause tells = record {
    tree = passes;
    sink = sink_passes_none c;
    quiet = tt;
    cause = cause;
    ok = tt;
    err = λ f told. subst (λ (o : Option (List Entry)). IsPart u w c c (restored_by o f) []) (sym entries.1) (record {
      tells = tells entries.0 f entries.1 told;
      leaves = leaves entries.0 f entries.1 told;
      said = received_part c c [] (received_none c);
    });
  }

pub tree_failed : (u w : TreeView) (e : StackFault) → e ≡ stack.Tree → HasFailed e u w → Rises u w
tree_failed u w e is failed = ⊎_elim
    (λ (memory : e ≡ stack.Memory). absurd (let no : stack.Memory ≡ stack.Tree = sym memory ∙ is in cc))
    (λ (failed-tree : (e ≡ stack.Tree) × Rises u w). failed-tree.1)
    failed

-- ---- a name of the stack stays there
kept-own : (save name : List ℕ) (es : List Entry) (f : Files) → entries_of save ≡ Some es → is_temp name ≡ false → is_of_stack name ≡ true → get (restored es f) name ≡ get f name
kept-own save name es f is lasting own =
    let names : List (List ℕ) = map name_of es in
    let beside : SameBeside names f (restored es f) = every-last (SameBeside names f) (restoring es f) f (every-beside names f (restoring es f) f (restoring-within es f) (beside-same names f)) in
    beside.at name lasting (own_apart names name (entries-saved es (entries-sound save es is).saved) own)

-- ---- the save's own name
pub taken-there : (name : List ℕ) (f : Files) → IsSome (get f name) → taken_away name f ≡ Remove name ∷ []
taken-there name f there = ap (λ (v : Bool). cond v (Remove name ∷ []) []) there

pub taken-absent : (name : List ℕ) (f : Files) → get f name ≡ None → taken_away name f ≡ []
taken-absent name f none = ap (λ (o : Option (List ℕ)). cond (is_some o) (Remove name ∷ []) []) none

-- a save that is there is undone whole
undone_some : (save name : List ℕ) (o : Option (List Entry)) (f : Files) → entries_of save ≡ o → IsSome o → is_temp name ≡ false → is_of_stack name ≡ true → IsSome (get f name) → undone_by name o f ≡ undoing_by name o f
undone_some save name None f is some lasting own there = absurd (let no : false ≡ true = some in cc)
undone_some save name (Some es) f is some lasting own there =
    ap (λ (l : List Effect). restoring es f ++ l) (taken-there name (restored es f) (subst (λ (o : Option (List ℕ)). IsSome o) (sym (kept-own save name es f is lasting own)) there))

pub undone-there : (save : List ℕ) (number : ℕ) (f : Files) → IsSome (entries_of save) → IsSome (get f (save_name number)) → undone_by (save_name number) (entries_of save) f ≡ undoing_by (save_name number) (entries_of save) f
undone-there save number f some there = undone_some save (save_name number) (entries_of save) f refl some (save-lasting number) (save-own number) there

-- ---- what an interrupted command did
recovered_some : (n : ℕ) (es : List Effect) (e : Effect) → recovered_text n (es ++ e ∷ []) ≡ said (codes "Restored to ") (decimal n)
recovered_some n [] e = refl
recovered_some n (x ∷ es) e = refl

pub undone-is : (number : ℕ) (save : List ℕ) (f : Files) → get f (save_name number) ≡ Some save → undoing number f ≡ undoing_by (save_name number) (entries_of save) f
undone-is number save f held = undoing-is number f (entries_of save) (ap saved_in held)

recovered_by : (n : ℕ) (name : List ℕ) (o : Option (List Entry)) (f : Files) → IsSome o → recovered_text n (undoing_by name o f) ≡ said (codes "Restored to ") (decimal n)
recovered_by n name None f some = absurd (let no : false ≡ true = some in cc)
recovered_by n name (Some es) f some = recovered_some n (restoring es f) (Remove name)

pub recovered-is : (n number : ℕ) (save : List ℕ) (f : Files) → IsSome (entries_of save) → get f (save_name number) ≡ Some save → recovered_text n (undoing number f) ≡ said (codes "Restored to ") (decimal n)
recovered-is n number save f some held = ap (λ (l : List Effect). recovered_text n l) (undone-is number save f held) ∙ recovered_by n (save_name number) (entries_of save) f some

-- nothing is undone where there is no save
pub none-undone : (number : ℕ) (f : Files) → get f (save_name number) ≡ None → undoing number f ≡ []
none-undone number f held = undoing-is number f None (ap saved_in held)

pub held_there : (u : TreeView) (name save : List ℕ) → ((f : Files) → u.told ≡ Some f → get f name ≡ Some save) → IsThere u name
held_there u name save held f told = subst (λ (o : Option (List ℕ)). IsSome o) (sym (held f told)) refl

-- a save is still there once the count is put
pub there_put : {R : Type 0} {u w : TreeView} {c d : SinkView} {t : Files → List ℕ} (x : R) (count number : ℕ) → IsThere u (save_name number) → Steps u w c d (Ok x) (λ f. Put count_name (count_text count) ∷ []) t → IsThere w (save_name number)
there_put {u = u} {w = w} x count number there steps g now =
    let was = told_back g steps.tree now in
    let is : after (Put count_name (count_text count)) was.0 ≡ g = same_Some _ _ (sym (steps.ok was.0 was.1).told ∙ now) in
    subst (λ (o : Option (List ℕ)). IsSome o) (sym (count_apart was.0 count number) ∙ ap (λ (y : Files). get y (save_name number)) is) (there was.0 was.1)

-- a save that is held is undone whole
pub held-undone : (number : ℕ) (save : List ℕ) (f : Files) → IsSome (entries_of save) → get f (save_name number) ≡ Some save → undoing number f ≡ undone_by (save_name number) (entries_of save) f
held-undone number save f some held = undone-is number save f held ∙ sym (undone-there save number f some (subst (λ (o : Option (List ℕ)). IsSome o) (sym held) refl))

-- a save that was put is there
pub put_there : {R : Type 0} {u w : TreeView} {c d : SinkView} {t : Files → List ℕ} (x : R) (number : ℕ) (bytes : List ℕ) → Steps u w c d (Ok x) (λ f. Put (save_name number) bytes ∷ []) t → IsThere w (save_name number)
put_there {u = u} {w = w} x number bytes steps g now =
    let was = told_back g steps.tree now in
    let is : after (Put (save_name number) bytes) was.0 ≡ g = same_Some _ _ (sym (steps.ok was.0 was.1).told ∙ now) in
    let held : get g (save_name number) ≡ Some bytes =
    ap (λ (y : Files). get y (save_name number)) (sym is)
    ∙ put-at (save_name number) bytes was.0 (save_name number) (save-lasting number)
    ∙ ap (λ (v : Bool). cond v (Some bytes) (get was.0 (save_name number))) (bytes_same (save_name number)) in
    subst (λ (o : Option (List ℕ)). IsSome o) (sym held) refl
