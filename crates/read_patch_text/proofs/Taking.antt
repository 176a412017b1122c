-- File patches taken one after the other, as a loop does.
use Rattle.std.proofs.Common.{◌≡◌, ℕ, ◌<◌, Bool, false, List, [], ◌∷◌, ◌++◌, None, Option, Result, Ok, Err, refl, sym, ap, subst, ◌∙◌}
use Rattle.hunk_core.specs.declared.BadKind.{BadKind}
use Rattle.hunk_core.specs.declared.fault.FormFault.{FormFault}
use Rattle.hunk_core.specs.declared.fault.FormFault.TheVariants as errors
use Rattle.hunk_core.specs.Reading.{◌>>=◌, Fault, Fails, fault}
use Rattle.read_header_record.specs.declared.Header.{Header}
use Rattle.patch_header.specs.declared.search.HeaderStep.TheVariants.{Found}
use Rattle.patch_header.specs.declared.read_options.ReadOptions.{ReadOptions}
use Rattle.patch_header.specs.Steps.{IsFirstOpening, IsEnd, next_step}
use Rattle.read_file_patch.specs.PlainPatch.{PlainPatch}
use Rattle.read_patch_text.specs.Patches.{change_behind, next_patch, patch_at, patch_with, patches_of}
use Rattle.read_patch_text.specs.Reading.{IsProgress, ahead_of}
use Rattle.read_patch_text.specs.Texts.{ComesFault}
use Rattle.read_patch_text.specs.Walked.{AreTaken, IsNext, IsStopped, IsTaken, Keeping}
use Rattle.read_patch_text.specs.declared.patches.Progress.{Progress}
use Rattle.read_patch_text.proofs.Passed.{patch-comes}
use Rattle.read_patch_text.proofs.TextLoops.{PatchesSoFar, patches_begin, patches_go_on, patches_fail, patches_done}

abbrev pub failed : {X : Type 0} → FormFault → Result X FormFault
failed e = Err e

-- the same failure in place of another value
pub failed-too : {X Y : Type 0} (e f : FormFault) → failed {X = X} e ≡ failed f → failed {X = Y} e ≡ failed f
failed-too e f is = let same : e ≡ f = cc in ap (λ d. Err d) same

-- what was kept of the file patches up to here
pub record TakenSoFar {S : Type 0} (Has : Keeping S) (ways : ReadOptions) (text : List ℕ) (before now : S) (here : Progress) : Type 0 where
  pub patches : List PlainPatch
  pub so_far : PatchesSoFar ways text patches here.at here.number
  pub has : Has ways text [] 0 1 0 before → Has ways text patches here.at here.number here.hunks now

pub taken_begin : {S : Type 0} (Has : Keeping S) (ways : ReadOptions) (text : List ℕ) (before : S) → TakenSoFar Has ways text before before (record { at = 0; number = 1; dotless = false; hunks = 0 })
taken_begin Has ways text before = record { patches = []; so_far = patches_begin ways text; has = λ h. h }

pub taken_go_on : {S : Type 0} (Has : Keeping S) (ways : ReadOptions) (text : List ℕ) (before now after : S) (here next : Progress) → here.at < next.at → IsProgress text next → IsNext Has ways text here now after next
    → TakenSoFar Has ways text before now here → TakenSoFar Has ways text before after next
taken_go_on Has ways text before now after here next some progress one so_far = record {
  patches = so_far.patches ++ one.patch ∷ [];
  so_far = patches_go_on ways text so_far.patches here.at here.number next.at next.number one.patch some progress.within one.read so_far.so_far;
  has = λ h. one.has so_far.patches (so_far.has h);
}

pub taken_fail : {S : Type 0} (Has : Keeping S) (e : FormFault) (ways : ReadOptions) (text : List ℕ) (before now : S) (here : Progress) → IsProgress text here → Fails e (next_patch ways text here.at here.number) → TakenSoFar Has ways text before now here → Fails e (patches_of ways text)
taken_fail Has e ways text before now here progress h so_far = patches_fail e ways text so_far.patches here.at here.number progress.within h so_far.so_far

pub taken_done : {S : Type 0} (Has : Keeping S) (ways : ReadOptions) (text : List ℕ) (before now after : S) (here : Progress) → IsProgress text here → IsEnd ways text here.at × (after ≡ now) → next_patch ways text here.at here.number ≡ Ok None → TakenSoFar Has ways text before now here
    → AreTaken Has ways text before after here
taken_done Has ways text before now after here progress ends none so_far = record {
  patches = so_far.patches;
  read = patches_done ways text so_far.patches here.at here.number none so_far.so_far;
  has = λ h. subst (λ s. Has ways text so_far.patches here.at here.number here.hunks s) (sym ends.1) (so_far.has h);
  ends = ends.0;
  progress = progress;
}

pub taken_stop : {S : Type 0} (Has : Keeping S) (ways : ReadOptions) (text : List ℕ) (before now : S) (here : Progress) (line : ℕ) (kind : BadKind) → ComesFault ways text here.at here.number line kind → TakenSoFar Has ways text before now here → IsStopped Has ways text before line kind
taken_stop Has ways text before now here line kind comes so_far = record { patches = so_far.patches; here = here; then = now; has = so_far.has; comes = comes }

-- a file patch that was taken behind its header comes next
pub next_taken : {S : Type 0} (Has : Keeping S) (ways : ReadOptions) (text : List ℕ) (here : Progress) (dotless : Bool) (h : Header) (before after : S) (next : Progress) → Found h ≡ next_step ways text here.at here.number → IsFirstOpening ways text here.at here.number h
    → IsTaken Has text h (record { at = here.at; number = here.number; dotless = dotless; hunks = here.hunks }) before after next → IsNext Has ways text here before after next
next_taken Has ways text here dotless h before after next step opens one = record {
  patch = one.patch;
  read = patch-comes ways text here.at here.number h (one.patch, ahead_of text next) step one.read;
  has = λ front. one.has ways front opens;
}

-- ---- a reading that keeps less

-- what failed so, failed
pub fails-before : {A B : Type 0} (e : FormFault) (r : Result A Fault) (f : A → B) → Fails e (r >>= λ x. Ok (f x)) → Fails e r
fails-before errors.Memory r f h = tt
fails-before (errors.Malformed line kind) (Ok x) f h = absurd cc
fails-before (errors.Malformed line kind) (Err d) f h = cc

pub fails-after : {A B : Type 0} (e : FormFault) (r : Result A Fault) (f : A → B) → Fails e r → Fails e (r >>= λ x. Ok (f x))
fails-after errors.Memory r f h = tt
fails-after (errors.Malformed line kind) r f h = rw h refl

-- where a file patch failed, what its header opens did
pub failed-behind : (e : FormFault) (text : List ℕ) (h : Header) (line : ℕ) (kind : BadKind) → failed {X = Option Progress} e ≡ Err (errors.Malformed line kind) → Fails e (patch_at text h) → change_behind text h ≡ Err (fault line kind)
failed-behind errors.Memory text h line kind is fails = absurd cc
failed-behind (errors.Malformed n k) text h line kind is fails =
    let same : fault n k ≡ fault line kind = (let a : n ≡ line = cc in let b : k ≡ kind = cc in rw (a, b) refl) in
    fails-before (errors.Malformed n k) (change_behind text h) (λ x. (patch_with text h x.0, x.1)) fails ∙ ap (λ f. Err f) same
