use Rattle.std.proofs.Common.{◌≡◌, ◌∙◌, ℕ, zero, suc, Bool, List, [], ◌∷◌, get_or, is_some, refl, ap}
use Rattle.std.proofs.lemmas.Result.{IfOk-weaker}
use Rattle.std.specs.FinMap.{get}
use Rattle.outside.specs.Files.{Files}
use Rattle.read_file_patch.specs.declared.derived.Target.{Target}
use Rattle.name_choice.specs.Choice.{IsFound, choice, names_of}
use Rattle.name_choice.specs.declared.Choice.{Choice}
use Rattle.name_choice.specs.declared.Choice.TheVariants.{Existing, Create, Nothing}
use Rattle.name_choice.specs.Making.{told_new}
use Rattle.name_choice.proofs.FirstHunks.{new_told}
use Rattle.patch_options.specs.PlainJob.{plain_options}
use Rattle.patch_set.specs.Asked.{is_posix}
use Rattle.apply_task.specs.Contexts.{target_at, no_target}
use Rattle.apply_start.specs.Starting.{IsPresent}
use Rattle.apply_start.proofs.starting.choose_target.Goals as goal

same_at : {X : Type 0} → (xs : List X) (k : ℕ) (d : X) → get_or xs k d ≡ get_or xs k (get_or xs k d)
same_at [] k d = refl
same_at (x ∷ xs) zero d = refl
same_at (x ∷ xs) (suc k) d = same_at xs k d

found : (targets : List Target) (f : Files) (x : Choice) → IsFound targets f x → IsPresent (λ k. get f (target_at targets k).name) x
found targets f (Existing k) is = is (target_at targets k) (same_at targets k no_target)
found targets f (Create k) is = is (target_at targets k) (same_at targets k no_target)
found targets f Nothing is = tt

pub returns-clause-there : goal.returns-clause-there
returns-clause-there g c = IfOk-weaker c.choose.result _ _ (λ x there f told. found c.args.task.now.patch.now.targets.items f x (there f told)) c.choose.ensures.there

pub returns-clause-chosen : goal.returns-clause-chosen
returns-clause-chosen g c =
    let task = c.args.task.now in
    let o = plain_options task.options.now in
    let made : Bool → Bool → Bool → Files → Choice = λ makes operand posix f. choice task.patch.now.header.action makes (names_of task.patch.now.targets.items) operand o.reverse posix f in
    let told = told_new task.patch.now in
    IfOk-weaker c.choose.result _ _
    (λ x is f given.
    is f given
    ∙ ap (λ operand. made told operand c.is_posix.result f) c.is_some.ensures
    ∙ ap (λ posix. made told (is_some o.file) posix f) c.is_posix.ensures
    ∙ ap (λ makes. made makes (is_some o.file) (is_posix o) f) (new_told task.set.now.text task.patch.now c.requires.task.fit.lawful))
    c.choose.ensures.chosen
