-- What is known of the stack and the files once a command isn't refused.
use Rattle.std.proofs.Common.{◌≡◌, ℕ, zero, suc, ◌-◌, ◌≤◌, List, [], ◌∷◌, length, drop, Bool, true, false, not, ◌&&◌, ◌||◌, cond, bytes_eq, is_some, Option, Some, None, Ok, Err, refl, sym, ◌∙◌, ap, arith, length-drop}
use Rattle.std.specs.Prelude.{is_none}
use Rattle.std.specs.List.{AllByRecursion}
use Rattle.std.specs.FinMap.{get}
use Rattle.std.proofs.lemmas.Bool.{or_parts}
use Rattle.outside.specs.Files.{Files, is_temp}
use Rattle.outside.specs.Names.{normal_form}
use Rattle.series_stack.specs.declared.fault.StateFile.TheVariants.{Save}
use Rattle.series_stack.specs.Saves.{is_saved, is_of_stack}
use Rattle.series_stack.proofs.Fronts.{bytes_same}
use Rattle.series_stack.specs.Taking.{AreSaved}
use Rattle.series_stack.specs.Stack.{Stack, save_name, patch_name, saved_in, stack_of}
use Rattle.series_stack.specs.Stack.Refusal.{Bad}
use Rattle.series_stack.specs.Commands.{Target, Patch, Reader, names_of, IsLasting, StackOp, Work, is_bad, has_bad_save, own_line, checked, pushing, push_work, popped, popping, pop_work, work_by, work_of}
use Rattle.series_stack.specs.Commands.StackOp.{Push, Pop}
use Rattle.series_stack.specs.Commands.Work.{Pushing, Popping}
use Rattle.series_stack.proofs.Touching.{neither}
use Rattle.series_stack.proofs.Recovering.{IsReady}

-- ---- names
may_be_saved : (name : List ℕ) → IsLasting name → is_of_stack name ≡ false → is_saved name ≡ true
may_be_saved name lasting apart =
    let same : bytes_eq (normal_form name) name ≡ true = ap (λ (n : List ℕ). bytes_eq n name) lasting.lawful.normal ∙ bytes_same name in
    ap (λ o. is_none o && (bytes_eq (normal_form name) name && (not (is_temp name) && not (is_of_stack name)))) lasting.lawful.lawful
    ∙ ap (λ (v : Bool). v && (not (is_temp name) && not (is_of_stack name))) same
    ∙ ap (λ (v : Bool). not v && not (is_of_stack name)) lasting.lasting
    ∙ ap (λ (v : Bool). not v) apart

own_none : (a b : Bool) (line : ℕ) (rest : Option ℕ) → cond (a || b) (Some line) rest ≡ None → (a ≡ false) × (b ≡ false) × (rest ≡ None)
own_none true b line rest is = absurd cc
own_none false true line rest is = absurd cc
own_none false false line rest is = (refl, refl, is)

pub targets-saved : (ts : List Target) → AllByRecursion IsLasting (names_of ts) → own_line ts ≡ None → AreSaved (names_of ts)
unfolding own_line
targets-saved [] lasting own = tt
targets-saved (t ∷ ts) lasting own =
    let x = own_none (is_of_stack t.name) (is_of_stack t.reject) t.line (own_line ts) own in
    (may_be_saved t.name lasting.0 x.0, (may_be_saved t.reject lasting.1.0 x.1, targets-saved ts lasting.1.1 x.2))

-- ---- a command that isn't refused
work_when : (read : Reader) (op : StackOp) (f : Files) (s : Stack) (w : Work) (v : Bool) → cond v (Err (Bad Save)) (work_by read op f s) ≡ Ok w → (v ≡ false) × (work_by read op f s ≡ Ok w)
work_when read op f s w true is = absurd cc
work_when read op f s w false is = (refl, is)

pub work-is : (read : Reader) (op : StackOp) (f : Files) (s : Stack) (w : Work) → work_of read op f s ≡ Ok w → (has_bad_save s.applied f ≡ false) × (work_by read op f s ≡ Ok w)
unfolding work_of
work-is read op f s w is = work_when read op f s w (has_bad_save s.applied f) is

none-there : (o : Option (List ℕ)) → is_some o ≡ false → o ≡ None
none-there None is = refl
none-there (Some text) is = absurd cc

pub work-ready : (read : Reader) (op : StackOp) (f : Files) (s : Stack) (w : Work) → stack_of f ≡ Ok s → work_of read op f s ≡ Ok w → IsReady f s
work-ready read op f s w stack is =
    let x = or_parts (is_bad (get f (save_name (suc s.applied)))) (is_some (get f (save_name (suc (suc s.applied))))) (work-is read op f s w is).0 in
    record { stack = stack; next = x.0; behind = none-there (get f (save_name (suc (suc s.applied)))) x.1 }

-- ---- a push
pub record IsPush (read : Reader) (f : Files) (s : Stack) (w : Work) : Type 0 where
  pub name : List ℕ
  pub more : List (List ℕ)
  pub patch : Patch
  pub left : drop s.applied s.patches ≡ name ∷ more
  pub is_read : read (get f (patch_name name)) ≡ Some patch
  pub names : own_line patch.targets ≡ None
  pub work : w ≡ Pushing name patch

checked_is : (read : Reader) (f : Files) (s : Stack) (w : Work) (name : List ℕ) (more : List (List ℕ)) (p : Patch) → drop s.applied s.patches ≡ name ∷ more → read (get f (patch_name name)) ≡ Some p → (o : Option ℕ) → own_line p.targets ≡ o → checked name p o ≡ Ok w → IsPush read f s w
checked_is read f s w name more p left is_read (Some line) own e = absurd cc
checked_is read f s w name more p left is_read None own e =
    let same : Pushing name p ≡ w = cc in
    record { name = name; more = more; patch = p; left = left; is_read = is_read; names = own; work = sym same }

patched_is : (read : Reader) (f : Files) (s : Stack) (w : Work) (name : List ℕ) (more : List (List ℕ)) → drop s.applied s.patches ≡ name ∷ more → (o : Option Patch) → read (get f (patch_name name)) ≡ o → pushing name o ≡ Ok w → IsPush read f s w
patched_is read f s w name more left None is e = absurd cc
patched_is read f s w name more left (Some p) is e = checked_is read f s w name more p left is (own_line p.targets) refl e

push_is : (read : Reader) (f : Files) (s : Stack) (w : Work) (names : List (List ℕ)) → drop s.applied s.patches ≡ names → push_work read f s.applied names ≡ Ok w → IsPush read f s w
push_is read f s w [] left e = absurd cc
push_is read f s w (name ∷ more) left e = patched_is read f s w name more left (read (get f (patch_name name))) refl e

pub work-push : (read : Reader) (f : Files) (s : Stack) (w : Work) → work_of read Push f s ≡ Ok w → IsPush read f s w
work-push read f s w is = push_is read f s w (drop s.applied s.patches) refl (work-is read Push f s w is).1

pub left-below : (names : List (List ℕ)) (n : ℕ) (name : List ℕ) (more : List (List ℕ)) → drop n names ≡ name ∷ more → suc n ≤ length names
left-below names n name more left =
    let count : length names - n ≡ suc (length more) = sym (length-drop n names) ∙ ap (λ (l : List (List ℕ)). length l) left in
    omega (arith, count)

-- ---- a pop
pub record IsPop (f : Files) (s : Stack) (w : Work) : Type 0 where
  pub name : List ℕ
  pub before : ℕ
  pub applied : s.applied ≡ suc before
  pub saved : is_some (saved_in (get f (save_name (suc before)))) ≡ true
  pub work : w ≡ Popping name before

popped_is : (f : Files) (s : Stack) (w : Work) (n : ℕ) → s.applied ≡ suc n → is_some (saved_in (get f (save_name (suc n)))) ≡ true → (names : List (List ℕ)) → popped n names ≡ Ok w → IsPop f s w
popped_is f s w n applied saved [] e = absurd cc
popped_is f s w n applied saved (name ∷ more) e =
    let same : Popping name n ≡ w = cc in
    record { name = name; before = n; applied = applied; saved = saved; work = sym same }

popping_is : (f : Files) (s : Stack) (w : Work) (n : ℕ) → s.applied ≡ suc n → (v : Bool) → is_some (saved_in (get f (save_name (suc n)))) ≡ v → popping n (drop n s.patches) v ≡ Ok w → IsPop f s w
popping_is f s w n applied true saved e = popped_is f s w n applied saved (drop n s.patches) e
popping_is f s w n applied false saved e = absurd cc

pop_is : (f : Files) (s : Stack) (w : Work) (n : ℕ) → s.applied ≡ n → pop_work f s.patches n ≡ Ok w → IsPop f s w
pop_is f s w zero applied e = absurd cc
pop_is f s w (suc n) applied e = popping_is f s w n applied (is_some (saved_in (get f (save_name (suc n))))) refl e

pub work-pop : (read : Reader) (f : Files) (s : Stack) (w : Work) → work_of read Pop f s ≡ Ok w → IsPop f s w
work-pop read f s w is = pop_is f s w s.applied refl (work-is read Pop f s w is).1

-- a pop behind a push
pub pops : (read : Reader) (f : Files) (s : Stack) (n : ℕ) (name : List ℕ) (more : List (List ℕ)) → s.applied ≡ suc n
    → get f (save_name (suc (suc n))) ≡ None → get f (save_name (suc (suc (suc n)))) ≡ None → is_some (saved_in (get f (save_name (suc n)))) ≡ true → drop n s.patches ≡ name ∷ more
    → work_of read Pop f s ≡ Ok (Popping name n)
unfolding work_of
pops read f s n name more applied next behind saved left =
    ap (λ (m : ℕ). cond (has_bad_save m f) (Err (Bad Save)) (pop_work f s.patches m)) applied
    ∙ ap (λ (v : Bool). cond v (Err (Bad Save)) (pop_work f s.patches (suc n))) (neither (is_bad (get f (save_name (suc (suc n))))) (is_some (get f (save_name (suc (suc (suc n)))))) (ap is_bad next) (ap is_some behind))
    ∙ ap (λ (v : Bool). popping n (drop n s.patches) v) saved
    ∙ ap (λ (l : List (List ℕ)). popped n l) left
