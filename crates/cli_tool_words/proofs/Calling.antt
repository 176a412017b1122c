-- The calls that words are.
use Rattle.std.proofs.Common.{◌≡◌, ◌∙◌, ◌||◌, ◌++◌, ◌<◌, ◌≤◌, ◌+◌, ℕ, Bool, true, false, List, [], ◌∷◌, Option, Some, None, ap, arith, cond, drop, get_or, length, map, refl, sym}
use Rattle.std.specs.Option.{option_map_or}
use Rattle.std.specs.List.{flat_map, list_any}
use Rattle.std.proofs.lemmas.List.{at_drop_all, at_drop_more, append_assoc, append-nil}
use Rattle.std.proofs.lemmas.List.Concat.{flat_map-cons}
use Rattle.clap.specs.Words.{Text}
use Rattle.patch_options.specs.Simple.{PlainWord, plain_word, plain_table}
use Rattle.patch_options.specs.Whole.{whole_words}
use Rattle.patch_options.specs.declared.simple.Group.{Group}
use Rattle.patch_options.specs.declared.simple.Word.{Word}
use Rattle.cli_tool_words.specs.Calls.{calls_by, calls_in, calls_of, calls_whole, each, operands_of, others_of, takes_files}
use Rattle.cli_tool_words.specs.Operands.{behind, is_file, is_kept, kept_of, still_leads, word_if}
use Rattle.cli_tool_words.specs.Retooling.{asked_words}
use Rattle.cli_tool_words.specs.Tools.{table_of, tool_named}
use Rattle.cli_tool_words.specs.declared.operands.Next.{Next}
use Rattle.cli_tool_words.specs.declared.tools.Tool.{Tool}

-- ---- lists that grow by an element for each of another one

module _ {X Y : Type 0} (h : List X → List Y) (k : X → Y) where
  pub grown_by : ((y : X) (ys : List X) → h (y ∷ ys) ≡ k y ∷ h ys) → (xs : List X) (n : ℕ) (x : X) (old new whole : List Y) → n < length xs
      → old ++ h (drop n xs) ≡ whole → new ≡ old ++ k (get_or xs n x) ∷ [] → new ++ h (drop (n + 1) xs) ≡ whole
  grown_by one xs n x old new whole within so_far is =
      let y = get_or xs n x in
      ap (λ l. l ++ h (drop (n + 1) xs)) is
      ∙ (append_assoc old (k y ∷ []) (h (drop (n + 1) xs))
      ∙ (ap (λ l. old ++ l) (sym (one y (drop (n + 1) xs)))
      ∙ (sym (at_drop_more (λ l. old ++ h l) xs n x within) ∙ so_far)))

pub all_grown : {X Y : Type 0} (h : List X → List Y) (xs : List X) (n : ℕ) (new whole : List Y) → h [] ≡ [] → length xs ≤ n → new ++ h (drop n xs) ≡ whole → new ≡ whole
all_grown h xs n new whole none end so_far = sym (append-nil new) ∙ (ap (λ l. new ++ l) (sym none) ∙ (sym (at_drop_all (λ l. new ++ h l) xs n end) ∙ so_far))

-- ---- FILEs, or all words but these

module _ {S : Type 0} (text : S → Text) (files : Bool) (table : List PlainWord) where
  pub kept_next : (words : List S) (n : ℕ) (word : S) (old new whole : List Text) (leads still : Bool) (was now : Next) → n < length words
      → old ++ kept_of files table leads was (map text (drop n words)) ≡ whole
      → new ≡ old ++ word_if (is_kept files (is_file leads was (text (get_or words n word)))) (text (get_or words n word))
      → still ≡ still_leads leads was (text (get_or words n word)) → now ≡ behind table was (text (get_or words n word))
      → new ++ kept_of files table still now (map text (drop (n + 1) words)) ≡ whole
  kept_next words n word old new whole leads still was now within so_far is still-is now-is =
      let w = text (get_or words n word) in
      let rest = map text (drop (n + 1) words) in
      let kept = word_if (is_kept files (is_file leads was w)) w in
      ap (λ l. l ++ kept_of files table still now rest) is
      ∙ (append_assoc old kept (kept_of files table still now rest)
      ∙ (ap (λ b. old ++ (kept ++ kept_of files table b now rest)) still-is
      ∙ (ap (λ m. old ++ (kept ++ kept_of files table (still_leads leads was w) m rest)) now-is
      ∙ (sym (at_drop_more (λ l. old ++ kept_of files table leads was (map text l)) words n word within) ∙ so_far))))

-- ---- rows in groups

module _ (p : PlainWord → Bool) where
  any_both : (words others : List Word) → list_any p (map plain_word (words ++ others)) ≡ (list_any (λ w. p (plain_word w)) words || list_any p (map plain_word others))
  any_both [] others = refl
  any_both (w ∷ ws) others = by (p (plain_word w)) (any_both ws others)
    where
      by : (b : Bool) → list_any p (map plain_word (ws ++ others)) ≡ (list_any (λ w. p (plain_word w)) ws || list_any p (map plain_word others))
          → (b || list_any p (map plain_word (ws ++ others))) ≡ ((b || list_any (λ w. p (plain_word w)) ws) || list_any p (map plain_word others))
      by true more = refl
      by false more = more

  pub any_row : (groups : List Group) → list_any (λ g. list_any (λ w. p (plain_word w)) g.words.now) groups ≡ list_any p (plain_table groups)
  any_row [] = refl
  any_row (g ∷ gs) =
      ap (λ b. list_any (λ w. p (plain_word w)) g.words.now || b) (any_row gs)
      ∙ (sym (any_both g.words.now (flat_map (λ h. h.words.now) gs))
      ∙ ap (λ ws. list_any p (map plain_word ws)) (sym (flat_map-cons (λ h. h.words.now) g gs)))

pub any_text : {X Y : Type 0} (p : Y → Bool) (f : X → Y) (xs : List X) → list_any (λ x. p (f x)) xs ≡ list_any p (map f xs)
any_text p f [] = refl
any_text p f (x ∷ xs) = ap (λ b. p (f x) || b) (any_text p f xs)

-- ---- calls

pub few_files : (words others files : List Text) → length files < 2 → words ∷ [] ≡ each words others files
few_files words others [] few = refl
few_files words others (f ∷ []) few = refl
few_files words others (f ∷ (g ∷ more)) few = absurd (omega (arith, few))

pub many_files : (words others files : List Text) → 2 ≤ length files → map (λ f. others ++ f ∷ []) files ≡ each words others files
many_files words others [] many = absurd (omega (arith, many))
many_files words others (f ∷ []) many = absurd (omega (arith, many))
many_files words others (f ∷ (g ∷ more)) many = refl

-- there is a first call
abbrev pub AreSome : List (List Text) → Type 0
AreSome [] = ⊥
AreSome (call ∷ calls) = Unit {0}

each_some : (words others files : List Text) → AreSome (each words others files)
each_some words others [] = tt
each_some words others (f ∷ []) = tt
each_some words others (f ∷ (g ∷ more)) = tt

whole_some : (tool : Tool) (words whole : List Text) → AreSome (calls_whole tool words whole)
whole_some tool words [] = tt
whole_some tool words (name ∷ rest) = each_some words (others_of tool name rest) (operands_of true tool rest)

some_if : (b : Bool) (calls others : List (List Text)) → AreSome calls → AreSome others → AreSome (cond b calls others)
some_if true calls others some more = some
some_if false calls others some more = more

by_some : (tool : Tool) (words : List Text) → AreSome (calls_by tool words)
unfolding calls_by
by_some tool words = some_if (takes_files tool) (calls_whole tool words (whole_words (table_of tool) words)) (words ∷ []) (whole_some tool words (whole_words (table_of tool) words)) tt

named_some : (words : List Text) (o : Option Tool) → AreSome (option_map_or (λ tool. calls_by tool words) o (words ∷ []))
named_some words None = tt
named_some words (Some tool) = by_some tool words

in_some : (words : List Text) → AreSome (calls_in words)
unfolding calls_in
in_some [] = tt
in_some (first ∷ rest) = named_some (first ∷ rest) (tool_named first)

pub calls_some : (words : List Text) → AreSome (calls_of words)
unfolding calls_of
calls_some words = in_some (asked_words words)
