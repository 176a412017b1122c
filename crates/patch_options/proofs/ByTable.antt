-- A command with the arguments of a table, and what a parse by it says of the words.
use Rattle.std.proofs.Common.{◌≡◌, ◌≢◌, ◌⊎◌, ◌∙◌, ◌&&◌, ◌+◌, ◌++◌, ◌<◌, ◌≤◌, ℕ, Bool, List, [], ◌∷◌, ap, sym, refl, inl, inr, true, false, flat_map, map, drop, get_or, length}
use Rattle.std.proofs.lemmas.List.{at_drop_all, at_drop_more, map-append}
use Rattle.clap.specs.Words.{App, Rule, Text, HasMatchesOf, Kinds, HasKind, IsAmong, AddsArg, app_of, fault_of, is_simple, is_simple_and_free, kind_of, new_app, rule_of, with_rule}
use Rattle.clap.specs.Simple.{app_of_fields}
use Rattle.clap.specs.declared.builder.arg.Arg.{Arg}
use Rattle.clap.specs.declared.builder.command.Command.{Command}
use Rattle.clap.specs.declared.builder.command.Command.TheViews.{out-Command as fields_of}
use Rattle.clap.specs.declared.error.Error.{Error}
use Rattle.clap.specs.declared.error.kind.ErrorKind.TheVariants.{OutOfMemory}
use Rattle.clap.specs.declared.parser.matches.ArgMatches.{ArgMatches}
use Rattle.patch_options.specs.Simple.{PlainWord, plain_word, plain_table, word_rule, with_rules, without_help, with_last_values, simple_command, is_empty, takes, rows_by, rows_in}
use Rattle.patch_options.specs.declared.options.WordFault.{WordFault}
use Rattle.patch_options.specs.declared.options.WordFault.TheVariants.{Usage, Memory}
use Rattle.patch_options.specs.declared.simple.Group.{Group}
use Rattle.patch_options.specs.declared.simple.Word.{Word}

-- ---- the words of a group

with_rules_both : (app : App) (xs ys : List Rule) → with_rules app (xs ++ ys) ≡ with_rules (with_rules app xs) ys
with_rules_both app [] ys = refl
with_rules_both app (x ∷ xs) ys = with_rules_both (with_rule app x) xs ys

-- the command so far, with the rows that are left
abbrev pub with_words : App → List Word → App
with_words app words = with_rules app (map word_rule (map plain_word words))

pub word_more : (whole : App) (old new : Command) (arg : Arg) (words : List Word) (n : ℕ) (word : Word) → n < length words
    → whole ≡ with_words (app_of old) (drop n words) → rule_of arg ≡ word_rule (plain_word (get_or words n word)) → arg.global ≡ false → AddsArg old arg new
    → whole ≡ with_words (app_of new) (drop (n + 1) words)
word_more whole old new arg words n word within so_far rule local added =
    let app = added.shape local ∙ ap (with_rule (app_of old)) rule in
    so_far ∙ (at_drop_more (with_words (app_of old)) words n word within ∙ ap (λ (a : App). with_words a (drop (n + 1) words)) (sym app))

pub words_ended : (whole : App) (command : Command) (words : List Word) (n : ℕ) → length words ≤ n → whole ≡ with_words (app_of command) (drop n words) → app_of command ≡ whole
words_ended whole command words n end so_far = sym (so_far ∙ at_drop_all (with_words (app_of command)) words n end)

-- ---- the groups of a table

-- the command so far, with the groups that are left
abbrev pub with_groups : App → List Group → App
with_groups app groups = with_rules app (map word_rule (plain_table groups))

first_group : (app : App) (g : Group) (gs : List Group) → with_groups app (g ∷ gs) ≡ with_groups (with_words app g.words.now) gs
first_group app g gs =
    let words = map plain_word g.words.now in
    ap (λ (ws : List PlainWord). with_rules app (map word_rule ws)) (map-append plain_word g.words.now (flat_map (λ h. h.words.now) gs))
    ∙ (ap (λ (rs : List Rule). with_rules app rs) (map-append word_rule words (plain_table gs)) ∙ with_rules_both app (map word_rule words) (map word_rule (plain_table gs)))

pub begun : (old plain new : Command) (name : Text) (groups : List Group) → app_of old ≡ new_app name → fields_of plain ≡ record (fields_of old) { disable_help_flag = true }
    → fields_of new ≡ record (fields_of plain) { args_override_self = true } → simple_command name (plain_table groups) ≡ with_groups (app_of new) groups
unfolding simple_command
begun old plain new name groups is-new without last =
    let is-plain : app_of plain ≡ without_help (new_app name) = ap app_of_fields without ∙ ap without_help is-new in
    ap (λ (a : App). with_groups a groups) (sym (ap app_of_fields last ∙ ap with_last_values is-plain))

pub group_more : (whole : App) (old new : Command) (groups : List Group) (n : ℕ) (group : Group) → n < length groups
    → whole ≡ with_groups (app_of old) (drop n groups) → app_of new ≡ with_words (app_of old) (get_or groups n group).words.now
    → whole ≡ with_groups (app_of new) (drop (n + 1) groups)
group_more whole old new groups n group within so_far added =
    let g = get_or groups n group in
    so_far ∙ (at_drop_more (with_groups (app_of old)) groups n group within
    ∙ (first_group (app_of old) g (drop (n + 1) groups) ∙ ap (λ (a : App). with_groups a (drop (n + 1) groups)) (sym added)))

pub groups_ended : (whole : App) (command : Command) (groups : List Group) (n : ℕ) → length groups ≤ n → whole ≡ with_groups (app_of command) (drop n groups) → app_of command ≡ whole
groups_ended whole command groups n end so_far = sym (so_far ∙ at_drop_all (with_groups (app_of command)) groups n end)

-- ---- its parse

left_of : (a b : Bool) → (a && b) ≡ true → a ≡ true
left_of true b h = refl
left_of false b h = h

module _ (app whole : App) (words : List Text) (is : app ≡ whole) (free : is_simple_and_free whole ≡ true) where
  is_free : is_simple_and_free app ≡ true
  is_free = ap is_simple_and_free is ∙ free

  pub rows_are : (m : ArgMatches) → HasMatchesOf app words m → rows_in m ≡ rows_by whole words
  unfolding rows_by
  rows_are m h = (h (left_of (is_simple app) _ is_free)).0 ∙ ap (λ (a : App). rows_by a words) is

  pub are_taken : (is_simple_and_free app ≡ true → fault_of app words ≡ []) → takes whole words ≡ true
  unfolding takes
  are_taken h = sym (ap (λ (a : App). takes a words) is) ∙ ap is_empty (h is_free)

  among_some : (e : Error) (kinds : Kinds) → IsAmong (kind_of e) kinds → is_empty kinds ≡ false
  among_some e [] h = absurd h
  among_some e (k ∷ ks) h = refl

  pub why_is : (e : Error) (why : WordFault) → (is_simple_and_free app ≡ true → HasKind (fault_of app words) e)
      → (why ≡ Memory) ⊎ ((why ≡ Usage) × (kind_of e ≢ OutOfMemory)) → (why ≡ Memory) ⊎ ((why ≡ Usage) × (takes whole words ≡ false))
  unfolding takes
  why_is e why h (inl memory) = inl memory
  why_is e why h (inr usage) = elim (h is_free) [
    | inl out ↦ absurd (usage.1 out)
    | inr among ↦ inr (usage.0, sym (ap (λ (a : App). takes a words) is) ∙ among_some e (fault_of app words) among)
  ]
