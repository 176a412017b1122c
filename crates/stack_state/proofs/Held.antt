-- A file that is read whole, and what a text that was read says of the files.
use Rattle.std.proofs.Common.{◌≡◌, ◌⊎◌, inl, inr, ℕ, List, [], ◌++◌, codes, length, take, drop, Option, None, Some, Result, Ok, Err, IfOk, is_some, sym, ◌∙◌, ap, subst, append_assoc, refl}
use Rattle.std.specs.Prelude.{option_map}
use Rattle.std.proofs.Math.Seq.{take-append_seam}
use Rattle.std.specs.FinMap.{get}
use Rattle.num_text.specs.Numbers.{decimal}
use Rattle.outside.specs.Files.{Files}
use Rattle.outside.specs.TreeView.{TreeView}
use Rattle.outside.specs.Calls.{IsUntouched}
use Rattle.outside.proofs.Views.{rises_then}
pub use Rattle.series_stack.proofs.Taking.{whole-came, held_there, held_long}
use Rattle.series_stack.specs.declared.fault.StateFile.{StateFile}
use Rattle.series_stack.specs.declared.fault.StateFile.TheVariants.{Save}
use Rattle.series_stack.specs.Stack.{Refusal, save_name, saved_in}
use Rattle.series_stack.specs.Stack.Refusal.{Bad as Broken}
use Rattle.stack_state.specs.declared.fault.StateFault.{StateFault}
use Rattle.stack_state.specs.declared.fault.StateFault.TheVariants.{NoSeries, Bad, Tree, Disagree, Memory}
use Rattle.stack_state.specs.Reading.{last_save, whole_save}
use Rattle.stack_state.specs.Causes.{HasCause, HasReadCause}

-- ---- bytes that came
pub buffer-whole : (buf items bytes : List ℕ) (n : ℕ) → length buf ≡ n → buf ≡ bytes → take n (buf ++ drop (length buf) items) ≡ bytes
buffer-whole buf items bytes n same is = ap (λ k. take k (buf ++ drop (length buf) items)) (sym same) ∙ take-append_seam buf (drop (length buf) items) ∙ is

pub text-made : (n : ℕ) (none digits a b d : List ℕ) → none ≡ [] → a ≡ none ++ codes ".pc/" → digits ≡ decimal n → b ≡ a ++ digits → d ≡ b ++ codes ".save" → d ≡ codes ".pc/" ++ (decimal n ++ codes ".save")
text-made n none digits a b d empty first is second third =
    third
    ∙ ap (λ (l : List ℕ). l ++ codes ".save") (second ∙ ap (λ (l : List ℕ). a ++ l) is)
    ∙ append_assoc a (decimal n) (codes ".save")
    ∙ ap (λ (l : List ℕ). l ++ (decimal n ++ codes ".save")) (first ∙ ap (λ (l : List ℕ). l ++ codes ".pc/") empty)

-- ---- what a name stands for, by the size that a tree tells
pub none_there : (o : Option (List ℕ)) → None ≡ option_map length o → o ≡ None
none_there None e = refl
none_there (Some bytes) e = absurd cc

pub some_sized : (o : Option (List ℕ)) → is_some (option_map length o) ≡ is_some o
some_sized None = refl
some_sized (Some bytes) = refl

-- ---- behind a call that left the tree untouched
pub told_first : {R E : Type 0} (r : Result R E) (u v : TreeView) (P : R → Files → Type 0) → IsUntouched u v → IfOk r (λ x. (f : Files) → v.told ≡ Some f → P x f) → IfOk r (λ x. (f : Files) → u.told ≡ Some f → P x f)
told_first (Ok x) u v P same h = λ f told. h f (same.told ∙ told)
told_first (Err e) u v P same h = tt

pub read_first : (e : StateFault) (u v w : TreeView) → IsUntouched u v → HasReadCause e v w → HasReadCause e u w
read_first NoSeries u v w same is = is
read_first (Bad file) u v w same is = is
read_first Tree u v w same is = rises_then u v w same.passes is
read_first (Disagree want got) u v w same is = (is.0, sym same.told ∙ is.1)
read_first Memory u v w same is = tt

pub cause_first : {X : Type 0} (e : StateFault) (u v w : TreeView) (state : Files → Result X Refusal) → IsUntouched u v → HasCause e v w state → HasCause e u w state
cause_first NoSeries u v w state same is = λ f told. is f (same.told ∙ told)
cause_first (Bad file) u v w state same is = λ f told. is f (same.told ∙ told)
cause_first Tree u v w state same is = rises_then u v w same.passes is
cause_first (Disagree want got) u v w state same is = (is.0, sym same.told ∙ is.1)
cause_first Memory u v w state same is = tt

-- ---- a text of which a file of the stack is refused
pub text_cause : {X P : Type 0} (e : StateFault) (file : StateFile) (u w : TreeView) (state : Files → Result X Refusal) → (P → (f : Files) → u.told ≡ Some f → state f ≡ Err (Broken file)) → (e ≡ Memory) ⊎ ((e ≡ Bad file) × P) → HasCause e u w state
text_cause e file u w state refused (inl memory) = subst (λ x. HasCause x u w state) (sym memory) tt
text_cause e file u w state refused (inr bad) = subst (λ x. HasCause x u w state) (sym bad.0) (refused bad.1)

pub last_cause : (e : StateFault) (u w : TreeView) (n : ℕ) (held : Option (List ℕ)) → ((f : Files) → u.told ≡ Some f → get f (save_name n) ≡ held)
    → (e ≡ Memory) ⊎ ((e ≡ Bad Save) × (whole_save held (saved_in held) ≡ Err (Broken Save))) → HasCause e u w (last_save n)
last_cause e u w n held at is = text_cause e Save u w (last_save n) (λ bad f told. ap (λ o. whole_save o (saved_in o)) (at f told) ∙ bad) is
