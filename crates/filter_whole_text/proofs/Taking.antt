-- How a text and a selection are given.
use Rattle.std.proofs.Common.{◌≡◌, inl, inr, ℕ, true, List, None, Some, Result, Ok, Err, refl, sym, ◌∙◌}
use Rattle.outside.specs.Files.{Files}
use Rattle.outside.specs.TreeView.{TreeView}
use Rattle.outside.specs.Calls.{IsUntouched}
use Rattle.outside.specs.SourceView.{SourceView}
use Rattle.outside.proofs.Views.{rises_then}
use Rattle.patch_options.specs.declared.options.Input.{Input}
use Rattle.patch_options.specs.declared.options.Input.TheVariants.{Standard, File}
use Rattle.cli_tool_words.specs.PlainJobs.{PlainSelect}
use Rattle.cli_run_answers.specs.declared.fault.InputFault.{InputFault}
use Rattle.cli_run_answers.specs.declared.fault.InputFault.TheVariants.{NoPatchFile, TooLong, Source, Tree, Disagree, Memory}
use Rattle.cli_run_answers.specs.Input.{answer_of, input_bytes, IsStandard, IsFile, HasCause, IsAnswer}
use Rattle.cli_run_answers.specs.Input as texts
use Rattle.filter_whole_text.specs.Outcomes.{given, selection}
use Rattle.filter_whole_text.specs.Patterns.{HasSelectionCause}
use Rattle.filter_whole_text.specs.Sifting.{IsTold, NamesFile, NamesPatterns, HasInputCause, is_refusal}
use Rattle.filter_whole_text.specs.declared.fault.FilterFault.TheVariants as faults

-- a file isn't standard input
file-named : (i : Input) (s : PlainSelect) → IsFile i → NamesFile i s
file-named Standard s is = absurd is
file-named (File name) s is = inl (λ other. other)

-- what is told of everything is told of the text
told-text : (i : Input) (s : PlainSelect) (t : TreeView) (a : SourceView) (f : Files) (left : List ℕ) → IsTold i s t a f left → texts.IsTold i t a f left
told-text Standard s t a f left told = told.left tt
told-text (File name) s t a f left told = told.files (inl (λ other. other))

-- ---- the text
pub text-is : (i : Input) (s : PlainSelect) (t : TreeView) (a : SourceView) (r : Result (List ℕ) InputFault) → IsAnswer r i None t a → (f : Files) (left : List ℕ) → IsTold i s t a f left → answer_of (input_bytes i None f left) ≡ r
text-is i s t a r is f left told = is f left (told-text i s t a f left told)

pub text-refused : (e : InputFault) (i : Input) (s : PlainSelect) (t u : TreeView) (a b : SourceView) → HasCause e i None t u a b → is_refusal (faults.Input e) ≡ true
    → (f : Files) (left : List ℕ) → IsTold i s t a f left → answer_of (input_bytes i None f left) ≡ Err e
text-refused NoPatchFile i s t u a b h is = text-is i s t a (Err NoPatchFile) h.1
text-refused TooLong i s t u a b h is = text-is i s t a (Err TooLong) h
text-refused Source i s t u a b h is = absurd (cc)
text-refused Tree i s t u a b h is = absurd (cc)
text-refused (Disagree want got) i s t u a b h is = absurd (cc)
text-refused Memory i s t u a b h is = absurd (cc)

pub text-cause : (e : InputFault) (i : Input) (s : PlainSelect) (t u : TreeView) (a b : SourceView) → HasCause e i None t u a b → HasInputCause e i s t u a b
text-cause NoPatchFile i s t u a b h = file-named i s h.0
text-cause TooLong i s t u a b h = tt
text-cause Source i s t u a b h = h
text-cause Tree i s t u a b h = h.1
text-cause (Disagree want got) i s t u a b h = (file-named i s h.0, h.1, h.2)
text-cause Memory i s t u a b h = tt

-- ---- the selection
selection-refused : (e : InputFault) (s : PlainSelect) (t u : TreeView) → HasSelectionCause e s t u → is_refusal (faults.Input e) ≡ true → (f : Files) → t.told ≡ Some f → selection s f ≡ Err e
selection-refused NoPatchFile s t u h is = h.1
selection-refused TooLong s t u h is = h.1
selection-refused Source s t u h is = absurd (cc)
selection-refused Tree s t u h is = absurd (cc)
selection-refused (Disagree want got) s t u h is = absurd (cc)
selection-refused Memory s t u h is = absurd (cc)

-- it names a file
selection-named : (e : InputFault) (s : PlainSelect) (t u : TreeView) → HasSelectionCause e s t u → is_refusal (faults.Input e) ≡ true → NamesPatterns s
selection-named NoPatchFile s t u h is = h.0
selection-named TooLong s t u h is = h.0
selection-named Source s t u h is = absurd (cc)
selection-named Tree s t u h is = absurd (cc)
selection-named (Disagree want got) s t u h is = absurd (cc)
selection-named Memory s t u h is = absurd (cc)

pub selection-cause : (e : InputFault) (i : Input) (s : PlainSelect) (t u v : TreeView) (a b : SourceView) → IsUntouched t u → HasSelectionCause e s u v → HasInputCause e i s t v a b
selection-cause NoPatchFile i s t u v a b same h = inr h.0
selection-cause TooLong i s t u v a b same h = tt
selection-cause Source i s t u v a b same h = absurd h
selection-cause Tree i s t u v a b same h = rises_then t u v same.passes h
selection-cause (Disagree want got) i s t u v a b same h = (inr h.0, h.1, sym same.told ∙ h.2)
selection-cause Memory i s t u v a b same h = tt

-- ---- both
module _ (i : Input) (s : PlainSelect) (f : Files) (left : List ℕ) where
  both-given : (text : List ℕ) (n : PlainSelect) → answer_of (input_bytes i None f left) ≡ Ok text → selection s f ≡ Ok n → given i s f left ≡ Ok (text, n)
  unfolding given
  both-given text n a b = rw (a, b) refl

  pub none-given : (e : InputFault) → answer_of (input_bytes i None f left) ≡ Err e → given i s f left ≡ Err e
  unfolding given
  none-given e a = rw a refl

  one-given : (e : InputFault) (text : List ℕ) → answer_of (input_bytes i None f left) ≡ Ok text → selection s f ≡ Err e → given i s f left ≡ Err e
  unfolding given
  one-given e text a b = rw (a, b) refl

module _ (i : Input) (s : PlainSelect) (t u : TreeView) (a : SourceView) (same : IsUntouched t u) (text : List ℕ) (is : IsAnswer (Ok text) i None t a) where
  pub given-is : (n : PlainSelect) → ((f : Files) → (NamesPatterns s → u.told ≡ Some f) → selection s f ≡ Ok n) → (f : Files) (left : List ℕ) → IsTold i s t a f left → given i s f left ≡ Ok (text, n)
  given-is n chosen f left told = both-given i s f left text n (text-is i s t a (Ok text) is f left told) (chosen f (λ names. same.told ∙ told.files (inr names)))

  pub given-refused : (e : InputFault) (v : TreeView) → HasSelectionCause e s u v → is_refusal (faults.Input e) ≡ true → (f : Files) (left : List ℕ) → IsTold i s t a f left → given i s f left ≡ Err e
  given-refused e v h refused f left told = one-given i s f left e text (text-is i s t a (Ok text) is f left told) (selection-refused e s u v h refused f (same.told ∙ told.files (inr (selection-named e s u v h refused))))
