-- A line that is written in three pieces.
use Rattle.std.proofs.Common.{◌≡◌, ◌≤◌, ◌<◌, ℕ, List, [], ◌∷◌, ◌++◌, ◌&&◌, Bool, true, false, refl, sym, ap, subst, ◌∙◌, arith, append_assoc}
use Rattle.line_list.specs.Join.{lacks_feed, feed_if}
use Rattle.line_list.proofs.JoinLemmas.{lacks-append}
use Rattle.outside.specs.SinkView.{SinkView, Receives, ReceivesPart}
use Rattle.hunk_apply.specs.declared.put.Tail.{Tail}
use Rattle.hunk_apply.specs.Written.{Wrote, is_nothing, join_behind}
use Rattle.hunk_apply.proofs.WrittenLemmas.{part-front, part-behind, part-line, receives-both, wrote-line}

-- what rose over the last call rose over all
pub still : {a b n : ℕ} → a ≤ b → b < n → a < n
still le lt = omega (arith, le, lt)

-- a word and a name as a line
abbrev pub condition : List ℕ → List ℕ → List ℕ
condition word name = word ++ (name ++ 10 ∷ [])

is-closed : (word name : List ℕ) → lacks_feed (condition word name) ≡ false
is-closed word name =
    ap lacks_feed (sym (append_assoc word name (10 ∷ [])))
    ∙ lacks-append (word ++ name) (10 ∷ []) (omega arith)

some-bytes : (front word name : List ℕ) → is_nothing (front ++ condition word name) ≡ false
some-bytes [] [] [] = refl
some-bytes [] [] (b ∷ bs) = refl
some-bytes [] (b ∷ bs) name = refl
some-bytes (b ∷ bs) word name = refl

and-false : (b : Bool) → false ≡ (b && false)
and-false true = refl
and-false false = refl

module _ (u v : SinkView) (r : Tail) (word name : List ℕ) where
  whole : (feed_if r.is_open ++ word) ++ (name ++ 10 ∷ []) ≡ feed_if r.is_open ++ condition word name
  whole = append_assoc (feed_if r.is_open) word (name ++ 10 ∷ [])

  -- of the word a part was written
  pub part-word : ReceivesPart u v (feed_if r.is_open ++ word) → (more : List (List ℕ)) → ReceivesPart u v (join_behind r.is_open (condition word name ∷ more))
  part-word h more = part-line u v r (condition word name) (condition word name ∷ more) more refl
      (subst (ReceivesPart u v) whole (part-front u v (feed_if r.is_open ++ word) (name ++ 10 ∷ []) h))

  module _ (w : SinkView) (first : Receives u v (feed_if r.is_open ++ word)) where
    -- of the name
    pub part-name : ReceivesPart v w name → (more : List (List ℕ)) → ReceivesPart u w (join_behind r.is_open (condition word name ∷ more))
    part-name h more = part-line u w r (condition word name) (condition word name ∷ more) more refl
        (subst (ReceivesPart u w) whole (part-behind u v w (feed_if r.is_open ++ word) (name ++ 10 ∷ []) first (part-front v w name (10 ∷ []) h)))

    module _ (x : SinkView) (second : Receives v w name) where
      -- of the line feed
      pub part-feed : ReceivesPart w x (10 ∷ []) → (more : List (List ℕ)) → ReceivesPart u x (join_behind r.is_open (condition word name ∷ more))
      part-feed h more = part-line u x r (condition word name) (condition word name ∷ more) more refl
          (subst (ReceivesPart u x) whole (part-behind u v x (feed_if r.is_open ++ word) (name ++ 10 ∷ []) first (part-behind v w x name (10 ∷ []) second h)))

      pub wrote-all : (s : Tail) → s.is_open ≡ false → s.is_empty ≡ false → Receives w x (10 ∷ []) → (more : List (List ℕ)) → Wrote u x r s (condition word name ∷ more) more
      wrote-all s shut some third more = wrote-line u x r s (condition word name) (condition word name ∷ more) more refl
          (subst (Receives u x) whole (receives-both u v x (feed_if r.is_open ++ word) (name ++ 10 ∷ []) first (receives-both v w x name (10 ∷ []) second third)))
          (shut ∙ sym (is-closed word name))
          (some ∙ and-false r.is_empty ∙ ap (λ b. r.is_empty && b) (sym (some-bytes (feed_if r.is_open) word name)))
