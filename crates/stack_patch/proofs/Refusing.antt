-- A text that is refused, and a file that is missing, give no patch.
use Rattle.std.proofs.Common.{◌≡◌, ◌⊎◌, inl, inr, ℕ, List, length, Bool, true, false, Option, None, Some, refl, sym, ◌∙◌, ap, subst, arith, if◌then◌else◌}
use Rattle.std.specs.Prelude.{Result, Ok, Err, IfOk, IfErr, nat_le, nat_lt}
use Rattle.std.specs.FinMap.{get}
use Rattle.std.proofs.lemmas.Bool.Decides.{nat_tests}
use Rattle.outside.specs.Files.{Files}
use Rattle.outside.specs.TreeView.{TreeView}
use Rattle.line_list.specs.Completed.{completed}
use Rattle.patch_options.specs.PlainJob.{PlainOptions, IsLawful}
use Rattle.read_patch_text.specs.Patches.{patches_of}
use Rattle.read_clean_text.specs.Reading.{clean_of}
use Rattle.patch_set.specs.declared.fault.SetFault.{SetFault}
use Rattle.patch_set.specs.declared.fault.SetFault.TheVariants as faults
use Rattle.patch_set.specs.Asked.{ways_of}
use Rattle.cli_run_answers.specs.declared.fault.InputFault.{InputFault}
use Rattle.cli_run_answers.specs.declared.fault.InputFault.TheVariants as inputs
use Rattle.cli_run_answers.specs.Input.{HasFileCause, answer_of}
use Rattle.patch_set.specs.Refusals.{refusal}
use Rattle.patch_set.specs.SetView.{SetView, IsRead}
use Rattle.stack_patch.specs.Reading.{push_options, patch_of_set, patch_in, unless_refused, read_patch}
use Rattle.read_clean_text.proofs.LongTexts.{long_refused}
use Rattle.stack_patch.proofs.Sets.{set_read}
use Rattle.stack_patch.proofs.Lawful.{options_lawful}
use Rattle.stack_patch.specs.declared.PushFault.{PushFault}
use Rattle.stack_patch.specs.declared.PushFault.TheVariants.{Input, Set}
use Rattle.stack_patch.specs.Causes.{HasCause, IsRefusedSo, IsRefusal, RefusesSome}
use Rattle.stack_patch.specs.Pushes.{IsPush}

pub lawful_as : (o : PlainOptions) → o ≡ push_options → IsLawful o
lawful_as o same = subst (λ (x : PlainOptions). IsLawful x) (sym same) options_lawful

pub read_as : (o : PlainOptions) (text : List ℕ) (v : SetView) → o ≡ push_options → IsRead o (clean_of o text) v → IsRead push_options (clean_of push_options text) v
read_as o text v same is = subst (λ (x : PlainOptions). IsRead x (clean_of x text) v) same is

pub patch_as : (o : PlainOptions) (text : List ℕ) (v : SetView) → o ≡ push_options → IsRead o (clean_of o text) v → refusal o (clean_of o text) ≡ None → read_patch (Some text) ≡ Some (patch_of_set v)
patch_as o text v same is none = set_read text v (read_as o text v same is) (subst (λ (x : PlainOptions). refusal x (clean_of x text) ≡ None) same none)

pub missing_none : read_patch None ≡ None
unfolding read_patch
missing_none = refl

pub refused_none : (text : List ℕ) (fault : SetFault) → refusal push_options (clean_of push_options text) ≡ Some fault → read_patch (Some text) ≡ None
unfolding read_patch
refused_none text fault is = ap (λ (o : Option SetFault). unless_refused o (patch_in (patches_of (ways_of push_options) (completed (clean_of push_options text))))) is

pub text_refused : (o : PlainOptions) (text : List ℕ) (fault : SetFault) → o ≡ push_options → (fault ≡ faults.Memory) ⊎ (refusal o (clean_of o text) ≡ Some fault) → IsRefusedSo (Set fault) text
text_refused o text fault same refused = subst (λ (x : PlainOptions). (fault ≡ faults.Memory) ⊎ (refusal x (clean_of x text) ≡ Some fault)) same refused

so_none : (text : List ℕ) (fault : SetFault) → IsRefusedSo (Set fault) text → IsRefusal (Set fault) → read_patch (Some text) ≡ None
so_none text fault (inl memory) is = absurd (subst (λ (x : SetFault). IsRefusal (Set x)) memory is)
so_none text fault (inr refused) is = refused_none text fault refused

pub text_none : (o : PlainOptions) (text : List ℕ) (fault : SetFault) → o ≡ push_options → (fault ≡ faults.Memory) ⊎ (refusal o (clean_of o text) ≡ Some fault) → IsRefusal (Set fault) → read_patch (Some text) ≡ None
text_none o text fault same refused = so_none text fault (text_refused o text fault same refused)

-- ---- a file that isn't read

too_long : (bytes : List ℕ) → nat_le (length bytes) 268435456 ≡ false → nat_lt 268435456 (length bytes) ≡ true
too_long bytes is = grind (arith, nat_tests)

long_none : (bytes : List ℕ) → nat_le (length bytes) 268435456 ≡ false → read_patch (Some bytes) ≡ None
long_none bytes is =
    refused_none bytes faults.TooLong (long_refused push_options bytes (too_long bytes is))

short_not : (bytes : List ℕ) (short : Bool) (fault : InputFault) → nat_le (length bytes) 268435456 ≡ short → (if short then Ok bytes else Err inputs.TooLong) ≡ Err fault → read_patch (Some bytes) ≡ None
short_not bytes true fault is same = absurd cc
short_not bytes false fault is same = long_none bytes is

held_none : (held : Option (List ℕ)) (fault : InputFault) → answer_of held ≡ Err fault → read_patch held ≡ None
held_none None fault is = missing_none
held_none (Some bytes) fault is = short_not bytes (nat_le (length bytes) 268435456) fault refl is

pub file_none : (fault : InputFault) (u w : TreeView) (name : List ℕ) → HasFileCause fault u w name → IsRefusal (Input fault) → (f : Files) → u.told ≡ Some f → read_patch (get f name) ≡ None
file_none inputs.NoPatchFile u w name cause is = λ f told. held_none (get f name) inputs.NoPatchFile (cause f told)
file_none inputs.TooLong u w name cause is = λ f told. held_none (get f name) inputs.TooLong (cause f told)
file_none inputs.Source u w name cause is = absurd is
file_none inputs.Tree u w name cause is = absurd is
file_none (inputs.Disagree want got) u w name cause is = absurd is
file_none inputs.Memory u w name cause is = absurd is

-- ---- a set that is read from the file
pub pushed : {E : Type 0} (u : TreeView) (name text : List ℕ) (r : Result SetView E) → ((f : Files) → u.told ≡ Some f → get f name ≡ Some text) → IfOk r (IsRead push_options (clean_of push_options text))
    → IfOk r (λ v. read_patch (Some text) ≡ Some (patch_of_set v)) → IfOk r (IsPush u name)
pushed u name text (Ok v) held read patch = record { given = text; is = record { read = read; patch = patch }; held = held }
pushed u name text (Err e) held read patch = tt

pub some_refused : (o : PlainOptions) (text : List ℕ) (fault : SetFault) → o ≡ push_options → (fault ≡ faults.Memory) ⊎ (refusal o (clean_of o text) ≡ Some fault) → RefusesSome (Set fault)
some_refused o text fault same refused = (text, text_refused o text fault same refused)

-- ---- what is refused of the text is refused of the file that holds it

module _ {R : Type 0} (u w : TreeView) (name text : List ℕ) (held : (f : Files) → u.told ≡ Some f → get f name ≡ Some text) where
  pub cause_of : (r : Result R PushFault) → IfErr r (λ e. IsRefusedSo e text) → IfErr r (λ e. HasCause e u w name)
  cause_of (Ok set) is = tt
  cause_of (Err (Input fault)) is = absurd is
  cause_of (Err (Set fault)) (inl memory) = inl memory
  cause_of (Err (Set fault)) (inr refused) = inr (λ f told. (text, (held f told, refused)))

  pub none_of : (r : Result R PushFault) → IfErr r (λ e. IsRefusal e → read_patch (Some text) ≡ None) → IfErr r (λ e. IsRefusal e → (f : Files) → u.told ≡ Some f → read_patch (get f name) ≡ None)
  none_of (Ok set) none = tt
  none_of (Err e) none = λ is f told. ap read_patch (held f told) ∙ none is
