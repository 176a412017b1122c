-- A walk over words comes to a fault at a word that is always one, if it stands in front of `--`: nothing takes it as its value.
use Rattle.std.proofs.Common.{◌≡◌, ◌∙◌, ◌&&◌, ◌||◌, ◌==◌, not, zero, suc, ℕ, Bool, true, false, List, [], ◌∷◌, Option, Some, None, ap, bytes_eq, codes, drop, encode_utf8, find, if◌then◌else◌, is_some, length, refl, sym, subst, slice_get, nat_lt}
use Rattle.std.specs.List.{list_all}
use Rattle.std.specs.Option.{option_map_or}
use Rattle.std.specs.Str.{chars}
use Rattle.std.proofs.lemmas.Bool.{true≢false}
use Rattle.std.proofs.lemmas.Option.{none-some, same_Some}
use Rattle.clap.proofs.WalkLemmas.{both}
use Rattle.clap.proofs.SimpleLemmas.{is_false}
use Rattle.clap.specs.Lexer.{long_of, short_of}
use Rattle.clap.specs.Kinds.{Kinds, or_else}
use Rattle.clap.specs.Faults.{flag_word_fault, other_fault, step_fault, turn_fault, walk_fault, word_fault}
use Rattle.clap.specs.Simple.{Shape}
use Rattle.clap.specs.Walk.{Held, Names, Outcome, Rule, Step, Text, Waiting, Walk, after_flag, after_step, arg_by_id, arg_by_index, arg_by_long, arg_by_short, attached_value, bundle, bundle_met, bundle_step, flag_met, is_multiple, is_pending, long_met, long_or_other, long_word, most_values, option_met, option_word, pending_count, plain_word, positional_held, pushed, reacted, settled, short_met, short_or_plain, short_word, subcommand_met, subcommand_or_other, takes_several, takes_values, to_positional, walked, walked_from, word_met, done, waits, plain, refused, idle, option, positional, next, trailing, subcommand, value}
use Rattle.patch_options.specs.Simple.{is_empty}
use Rattle.cli_program_words.specs.Told.{asks, is_asking}

pub first_stays : (a b : Kinds) → is_empty a ≡ false → is_empty (or_else a b) ≡ false
first_stays [] b some = absurd (true≢false some)
first_stays (k ∷ ks) b some = refl

pub second_stays : (a b : Kinds) → is_empty b ≡ false → is_empty (or_else a b) ≡ false
second_stays [] b some = some
second_stays (k ∷ ks) b some = refl

-- ---- what a word does to what is held: no flag of a bundle is passed over

abbrev Keeps : Held → Held → Type 0
Keeps h k = k.skip ≡ h.skip

value_keeps : (c : List Rule) (a : Rule) (v : Option Text) (h : Held) → Keeps h (option_met c a v h).0
value_keeps c a None h = refl
value_keeps c a (Some v) h = refl

switch_keeps : (c : List Rule) (a : Rule) (v : Option Text) (h : Held) → Keeps h (flag_met c a v h).0
switch_keeps c a None h = refl
switch_keeps c a (Some v) h = refl

long_keeps : (c : List Rule) (found : Option Rule) (v : Option Text) (h : Held) → Keeps h (long_met c found v h).0
long_keeps c None v h = refl
long_keeps c (Some a) v h = go (takes_values a)
  where
    go : (b : Bool) → Keeps h (if b then option_met c a v h else flag_met c a v h).0
    go true = value_keeps c a v h
    go false = switch_keeps c a v h

short_keeps : (c : List Rule) (found : Option Rule) (rest : Text) (h : Held) (goes : Held → Held × Outcome) → ((k : Held) → Keeps k (goes k).0) → Keeps h (short_met c found rest h goes).0
short_keeps c None rest h goes each = refl
short_keeps c (Some a) rest h goes each = go (takes_values a)
  where
    go : (b : Bool) → Keeps h (if b then option_met c a (attached_value rest) h else goes (reacted c a [] h)).0
    go true = value_keeps c a (attached_value rest) h
    go false = each (reacted c a [] h)

step_keeps : (c : List Rule) (x : Option ℕ) (flags : Text) (skip : ℕ) (so_far : Outcome) (h : Held) (goes : Text → ℕ → Outcome → Held → Held × Outcome)
    → ((rest : Text) (n : ℕ) (o : Outcome) (k : Held) → Keeps k (goes rest n o k).0) → Keeps h (bundle_step c x flags skip so_far h goes).0
step_keeps c None flags skip so_far h goes each = refl
step_keeps c (Some x) flags zero so_far h goes each =
    let rest = drop (length (encode_utf8 x)) flags in
    short_keeps c (arg_by_short c x) rest h (goes rest 0 done) (each rest 0 done)
step_keeps c (Some x) flags (suc skip) so_far h goes each = each (drop (length (encode_utf8 x)) flags) skip so_far h

letters_keep : (c : List Rule) (n : ℕ) (flags : Text) (skip : ℕ) (so_far : Outcome) (h : Held) → Keeps h (bundle_met c n flags skip so_far h).0
unfolding bundle_met
letters_keep c zero flags skip so_far h = refl
letters_keep c (suc n) flags skip so_far h = step_keeps c (slice_get (chars flags) 0) flags skip so_far h (bundle_met c n) (letters_keep c n)

operand_keeps : (a : Option Rule) (id word : Text) (h : Held) → Keeps h (option_word a id word h).0
operand_keeps None id word h = refl
operand_keeps (Some a) id word h = refl

-- ---- what a word is

-- neither `--` nor a subcommand, and no flag is passed over behind it
abbrev IsUsual : Step → Type 0
IsUsual (next w) = Unit {0}
IsUsual (trailing n) = ⊥
IsUsual (subcommand name) = ⊥
IsUsual value = Unit {0}

abbrev IsCalm : Held × Step → Type 0
IsCalm p = (p.0.skip ≡ 0) × IsUsual p.1

plain_calm : (c : List Rule) (waiting : Waiting) (word : Text) (h : Held) → h.skip ≡ 0 → IsCalm (plain_word c waiting word h)
plain_calm c idle word h none = (none, tt)
plain_calm c (option id) word h none = (operand_keeps (arg_by_id c id) id word h ∙ none, tt)
plain_calm c positional word h none = (none, tt)

flag_calm : (c : List Rule) (waiting : Waiting) (word : Text) (h : Held) (came : Outcome) → h.skip ≡ 0 → IsCalm (after_flag c waiting word h came)
flag_calm c waiting word h done none = (none, tt)
flag_calm c waiting word h (waits id) none = (none, tt)
flag_calm c waiting word h plain none = plain_calm c waiting word h none
flag_calm c waiting word h refused none = plain_calm c waiting word h none

letters_calm : (c : List Rule) (waiting : Waiting) (word : Text) (flags : Option Text) (h : Held) → h.skip ≡ 0 → IsCalm (short_or_plain c waiting word flags h)
letters_calm c waiting word None h none = plain_calm c waiting word h none
letters_calm c waiting word (Some flags) h none = flag_calm c waiting word (bundle c flags h).0 (bundle c flags h).1 (letters_keep c (length flags) flags h.skip plain (record h { skip = 0 }))

word_calm : (c : List Rule) (waiting : Waiting) (word : Text) (name : Option (Text × Option Text)) (h : Held) → h.skip ≡ 0 → IsCalm (long_or_other c waiting word name h)
word_calm c waiting word None h none = letters_calm c waiting word (short_of word) h none
word_calm c waiting word (Some p) h none = flag_calm c waiting word (long_met c (arg_by_long c p.0) p.1 h).0 (long_met c (arg_by_long c p.0) p.1 h).1 (long_keeps c (arg_by_long c p.0) p.1 h ∙ none)

no_subcommand : (waiting : Waiting) (word : Text) → subcommand_met [] waiting word ≡ None
no_subcommand idle word = refl
no_subcommand (option id) word = refl
no_subcommand positional word = refl

-- ---- the walk

-- it goes on, no word was `--`, and no flag is passed over
pub record IsOpen (w : Walk) : Type 0 where
  pub goes_on : w.stopped ≡ None
  pub within : w.is_trailing ≡ false
  pub none : w.held.skip ≡ 0

pub open_start : (h : Held) → h.skip ≡ 0 → IsOpen (record { held = h; waiting = idle; position = 1; is_trailing = false; stopped = None })
open_start h none = record { goes_on = refl; within = refl; none = none }

found_plain : (p : Rule → Bool) (rules : List Rule) (a : Rule) → list_all (λ a. not a.trailing_var_arg) rules ≡ true → find p rules ≡ Some a → a.trailing_var_arg ≡ false
found_plain p [] a all is = absurd (none-some a is)
found_plain p (r ∷ rs) a all is = go (p r) refl (found_plain p rs a (both _ _ all).1)
  where
    go : (b : Bool) → p r ≡ b → (find p rs ≡ Some a → a.trailing_var_arg ≡ false) → a.trailing_var_arg ≡ false
    go true here more =
        let same : r ≡ a = same_Some r a (sym (ap (λ b. if b then Some r else find p rs) here) ∙ is) in
        is_false a.trailing_var_arg (ap (λ (x : Rule). not x.trailing_var_arg) (sym same) ∙ (both _ _ all).0)
    go false here more = more (sym (ap (λ b. if b then Some r else find p rs) here) ∙ is)

module _ (c : List Rule) (all : list_all (λ a. not a.trailing_var_arg) c ≡ true) where
  operand_open : (found : Option Rule) (word : Text) (w : Walk) (h : Held) → arg_by_index c w.position ≡ found → IsOpen w → h.skip ≡ 0 → IsOpen (to_positional c found word w h)
  operand_open None word w h is opened none = record { goes_on = opened.goes_on; within = opened.within; none = none }
  operand_open (Some a) word w h is opened none =
      record { goes_on = refl; within = ap (λ b. b || a.trailing_var_arg) opened.within ∙ found_plain _ c a all is; none = go (is_pending a h.pending && takes_several a) }
    where
      go : (b : Bool) → (pushed a.id word (if b then h else settled c h)).skip ≡ 0
      go true = none
      go false = none

  step_open : (word : Text) (w : Walk) (h : Held) (step : Step) → IsOpen w → IsCalm (h, step) → IsOpen (after_step c word w h step)
  step_open word w h (next waiting) opened calm = record { goes_on = opened.goes_on; within = opened.within; none = calm.0 }
  step_open word w h (trailing n) opened calm = absurd calm.1
  step_open word w h (subcommand name) opened calm = absurd calm.1
  step_open word w h value opened calm = operand_open (arg_by_index c w.position) word w h refl opened calm.0

  met_calm : (waiting : Waiting) (n : ℕ) (word : Text) (h : Held) → bytes_eq word (codes "--") ≡ false → h.skip ≡ 0 → IsCalm (word_met c [] false waiting n word h)
  met_calm waiting n word h other none =
      subst (λ (name : Option Text). IsCalm (subcommand_or_other c name waiting n word h)) (sym (no_subcommand waiting word))
      (subst (λ (b : Bool). IsCalm (if b then (h, trailing n) else long_or_other c waiting word (long_of word) h)) (sym other) (word_calm c waiting word (long_of word) h none))

  still_open : (w : Walk) (word : Text) → bytes_eq word (codes "--") ≡ false → IsOpen w → IsOpen (walked c [] w word)
  unfolding walked
  still_open w word other opened =
      subst (λ (stopped : Option (Text × List Text)). IsOpen (walked_from c [] stopped w word)) (sym opened.goes_on)
      (step_open word w _ _ opened (subst (λ (b : Bool). IsCalm (word_met c [] b w.waiting w.position word w.held)) (sym opened.within) (met_calm w.waiting w.position word w.held other opened.none)))

-- ---- a word that is a fault wherever it is read

module _ (s : Shape) (tool : Text) (all : list_all (λ a. not a.trailing_var_arg) s.rules ≡ true)
    (apart : (word : Text) → is_asking tool word ≡ true → bytes_eq word (codes "--") ≡ false)
    (refused_at : (word : Text) (h : Held) → is_asking tool word ≡ true → h.skip ≡ 0 → is_empty (flag_word_fault s.rules s.args_override_self (long_of word) word h) ≡ false) where
  asked_fault : (waiting : Waiting) (word : Text) (h : Held) → is_asking tool word ≡ true → h.skip ≡ 0 → is_empty (word_fault s [] false waiting word h) ≡ false
  asked_fault waiting word h is none =
      ap (λ (name : Option Text). is_empty (other_fault s name word h)) (no_subcommand waiting word)
      ∙ (ap (λ (b : Bool). is_empty (if b then [] else flag_word_fault s.rules s.args_override_self (long_of word) word h)) (apart word is) ∙ refused_at word h is none)

  turn_fails : (w : Walk) (word : Text) → is_asking tool word ≡ true → IsOpen w → is_empty (turn_fault s [] w word) ≡ false
  turn_fails w word is opened =
      let met = word_met s.rules [] w.is_trailing w.waiting w.position word w.held in
      ap (λ (o : Option (Text × List Text)). is_empty (if is_some o then [] else or_else (word_fault s [] w.is_trailing w.waiting word w.held) (step_fault s w.position met.0 met.1))) opened.goes_on
      ∙ first_stays _ _ (ap (λ (b : Bool). is_empty (word_fault s [] b w.waiting word w.held)) opened.within ∙ asked_fault w.waiting word w.held is opened.none)

  pub walk_fails : (w : Walk) (words : List Text) → IsOpen w → asks tool words ≡ true → is_empty (walk_fault s [] w words) ≡ false
  unfolding walk_fault
  walk_fails w [] opened asked = absurd (true≢false (sym asked))
  walk_fails w (word ∷ words) opened asked =
      go (is_asking tool word) refl (λ other more. walk_fails (walked s.rules [] w word) words (still_open s.rules all w word other opened) more)
    where
      go : (b : Bool) → is_asking tool word ≡ b → (bytes_eq word (codes "--") ≡ false → asks tool words ≡ true → is_empty (walk_fault s [] (walked s.rules [] w word) words) ≡ false)
          → is_empty (or_else (turn_fault s [] w word) (walk_fault s [] (walked s.rules [] w word) words)) ≡ false
      go true is goes = first_stays _ _ (turn_fails w word is opened)
      go false none goes =
          let more = both (not (bytes_eq word (codes "--"))) (asks tool words) (sym (ap (λ b. b || (not (bytes_eq word (codes "--")) && asks tool words)) none) ∙ asked) in
          second_stays (turn_fault s [] w word) _ (goes (is_false _ more.0) more.1)
