-- Words that make one tool of another one, or give a file, are looked for word by word.
use Rattle.std.proofs.Common.{◌≡◌, ◌∙◌, ◌&&◌, ◌||◌, ◌++◌, ◌<◌, ◌≤◌, ◌+◌, ℕ, Bool, true, false, not, List, ap, cond, drop, get_or, length, map, sym}
use Rattle.std.proofs.lemmas.List.{at_drop_all, at_drop_more, append_assoc}
use Rattle.clap.specs.Words.{Text}
use Rattle.patch_options.specs.Simple.{PlainWord}
use Rattle.cli_tool_words.specs.Operands.{word_if}
use Rattle.cli_tool_words.specs.Retooling.{give_file, gives_file, is_ended, names_tool, others_in, tool_asked, tool_by}
use Rattle.cli_tool_words.specs.declared.tools.Tool.{Tool}

module _ {S : Type 0} (text : S → Text) where
  pub asked_next : (words : List S) (n : ℕ) (word : S) (was now : Bool) (old new whole : Tool) → n < length words
      → tool_asked was old (map text (drop n words)) ≡ whole
      → now ≡ is_ended was (text (get_or words n word)) → new ≡ cond now old (tool_by old (text (get_or words n word)))
      → tool_asked now new (map text (drop (n + 1) words)) ≡ whole
  asked_next words n word was now old new whole within so_far now-is new-is =
      let w = text (get_or words n word) in
      let rest = map text (drop (n + 1) words) in
      ap (λ t. tool_asked now t rest) new-is
      ∙ (ap (λ b. tool_asked b (cond b old (tool_by old w)) rest) now-is
      ∙ (sym (at_drop_more (λ l. tool_asked was old (map text l)) words n word within) ∙ so_far))

  pub all_asked : (words : List S) (n : ℕ) (ended : Bool) (tool whole : Tool) → length words ≤ n → tool_asked ended tool (map text (drop n words)) ≡ whole → tool ≡ whole
  all_asked words n ended tool whole end so_far = sym (at_drop_all (λ l. tool_asked ended tool (map text l)) words n end) ∙ so_far

  pub others_next : (words : List S) (n : ℕ) (word : S) (was now : Bool) (old new whole : List Text) → n < length words
      → old ++ others_in was (map text (drop n words)) ≡ whole
      → now ≡ is_ended was (text (get_or words n word)) → new ≡ old ++ word_if (now || not (names_tool (text (get_or words n word)))) (text (get_or words n word))
      → new ++ others_in now (map text (drop (n + 1) words)) ≡ whole
  others_next words n word was now old new whole within so_far now-is new-is =
      let w = text (get_or words n word) in
      let rest = map text (drop (n + 1) words) in
      ap (λ l. l ++ others_in now rest) new-is
      ∙ (append_assoc old (word_if (now || not (names_tool w)) w) (others_in now rest)
      ∙ (ap (λ b. old ++ (word_if (b || not (names_tool w)) w ++ others_in b rest)) now-is
      ∙ (sym (at_drop_more (λ l. old ++ others_in was (map text l)) words n word within) ∙ so_far)))

module _ {S : Type 0} (text : S → Text) (table : List PlainWord) where
  step : (words : List S) (n : ℕ) (word : S) (was now : Bool) → n < length words → now ≡ is_ended was (text (get_or words n word))
      → give_file table was (map text (drop n words)) ≡ ((not now && gives_file table (text (get_or words n word))) || give_file table now (map text (drop (n + 1) words)))
  step words n word was now within now-is =
      at_drop_more (λ l. give_file table was (map text l)) words n word within
      ∙ sym (ap (λ b. (not b && gives_file table (text (get_or words n word))) || give_file table b (map text (drop (n + 1) words))) now-is)

  pub file_next : (words : List S) (n : ℕ) (word : S) (was now whole : Bool) → n < length words → give_file table was (map text (drop n words)) ≡ whole
      → now ≡ is_ended was (text (get_or words n word)) → (not now && gives_file table (text (get_or words n word))) ≡ false
      → give_file table now (map text (drop (n + 1) words)) ≡ whole
  file_next words n word was now whole within so_far now-is none =
      sym (ap (λ b. b || give_file table now (map text (drop (n + 1) words))) none) ∙ (sym (step words n word was now within now-is) ∙ so_far)

  pub file_found : (words : List S) (n : ℕ) (word : S) (was now whole : Bool) → n < length words → give_file table was (map text (drop n words)) ≡ whole
      → now ≡ is_ended was (text (get_or words n word)) → (not now && gives_file table (text (get_or words n word))) ≡ true
      → whole ≡ true
  file_found words n word was now whole within so_far now-is found =
      sym so_far ∙ (step words n word was now within now-is ∙ ap (λ b. b || give_file table now (map text (drop (n + 1) words))) found)

  pub none_gives : (words : List S) (n : ℕ) (ended whole : Bool) → length words ≤ n → give_file table ended (map text (drop n words)) ≡ whole → false ≡ whole
  none_gives words n ended whole end so_far = sym (at_drop_all (λ l. give_file table ended (map text l)) words n end) ∙ so_far
