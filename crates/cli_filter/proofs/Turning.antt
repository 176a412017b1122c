-- Calls that run in turn.
use Rattle.std.proofs.Common.{◌≡◌, ◌≢◌, ℕ, ◌+◌, ◌<◌, ◌≤◌, List, [], ◌∷◌, drop, get_or, inl, inr, length, map, refl, sym, subst}
use Rattle.std.proofs.lemmas.List.{at_drop_all, at_drop_more}
use Rattle.outside.specs.FinderView.{FinderView}
use Rattle.outside.specs.SinkView.{SinkView}
use Rattle.outside.specs.SourceView.{SourceView}
use Rattle.outside.specs.TreeView.{TreeView}
use Rattle.cli_run_answers.specs.declared.why.Why.{Why}
use Rattle.cli_run_answers.specs.declared.why.Why.TheVariants.{Done, Memory}
use Rattle.cli_tool_words.proofs.Calling.{AreSome}
use Rattle.cli_filter.specs.InTurn.{CallRuns, Devices, InTurn}
use Rattle.cli_filter.specs.Jobs.{job_of}
use Rattle.cli_filter.proofs.Early.{words_carry}

module _ {D : Type 0} (R : List (List ℕ) → D → D → Why → Type 0) {X : Type 0} (f : X → List (List ℕ)) (xs : List X) (first now : D) (n : ℕ) where
  -- what follows from here completes the run
  abbrev pub Completes : Type 0
  Completes = (e : D) (why : Why) → InTurn R (map f (drop n xs)) now e why → InTurn R (map f xs) first e why

  pub ends_here : length xs ≤ n → Completes → InTurn R (map f xs) first now Done
  ends_here end before = before now Done (subst (λ (l : List X). InTurn R (map f l) now now Done) (sym (at_drop_all (λ l. l) xs n end)) (refl, refl))

  module _ (x : X) (within : n < length xs) where
    here : (e : D) (why : Why) → InTurn R (map f (get_or xs n x ∷ drop (n + 1) xs)) now e why → InTurn R (map f (drop n xs)) now e why
    here e why turn = subst (λ (l : List X). InTurn R (map f l) now e why) (sym (at_drop_more (λ l. l) xs n x within)) turn

    pub goes_on : (m : D) → R (f (get_or xs n x)) now m Done → Completes → (e : D) (why : Why) → InTurn R (map f (drop (n + 1) xs)) m e why → InTurn R (map f xs) first e why
    goes_on m run before e why later = before e why (here e why (inr (m, run, later)))

    pub stops_here : (e : D) (why : Why) → R (f (get_or xs n x)) now e why → why ≢ Done → Completes → InTurn R (map f xs) first e why
    stops_here e why run other before = before e why (here e why (inl (other, run)))

-- the same by other names of its words and its answer
pub run_as : {T F I O : Type 0} (tree : T → TreeView) (finder : F → FinderView) (source : I → SourceView) (out : O → SinkView) (words call : List (List ℕ)) (d e : Devices T F I O) (why y : Why)
    → words ≡ call → why ≡ y → CallRuns tree finder source out words d e why → CallRuns tree finder source out call d e y
run_as tree finder source out words call d e why y same is run =
    subst (λ (x : Why). CallRuns tree finder source out call d e x) is (subst (λ (ws : List (List ℕ)). CallRuns tree finder source out ws d e why) same run)

memory-other : Memory ≡ Done → ⊥
memory-other never = cc

-- memory ran out before the first call
pub none_run : {T F I O : Type 0} (tree : T → TreeView) (finder : F → FinderView) (source : I → SourceView) (out : O → SinkView) (calls : List (List (List ℕ))) (d : Devices T F I O)
    → AreSome calls → InTurn (CallRuns tree finder source out) calls d d Memory
none_run tree finder source out [] d never = absurd never
none_run tree finder source out (call ∷ calls) d some = inl (
  memory-other,
  record {
    carries = words_carry (job_of call) (tree d.tree) (finder d.finder) (source d.source) (out d.out) Memory (inl refl);
    words_first = λ fault is. inr refl;
    still = λ fault is. refl;
    silent = λ fault is. refl;
    unread = λ never. refl;
    unasked = λ f left told none. refl;
    no_pattern = λ never. refl;
  },
)
