-- Words that ask for what is told are no command: nothing that a run could do is kept back.
use Rattle.std.proofs.Common.{◌≡◌, ◌⊎◌, ◌∙◌, ◌&&◌, ◌||◌, not, Bool, true, false, List, [], ◌∷◌, Option, Some, None, Result, Ok, Err, ap, bytes_eq, codes, drop, if◌then◌else◌, inl, inr, refl, subst, sym, ℕ, chars, encode_utf8, slice_get}
use Rattle.std.specs.List.{list_all}
use Rattle.std.specs.Option.{option_map_or}
use Rattle.std.proofs.lemmas.Bool.{true≢false}
use Rattle.std.proofs.lemmas.Option.{none-some, same_Some}
use Rattle.std.proofs.lemmas.Slice.Eq.{bytes_eq-Decides}
use Rattle.clap.specs.Faults.{bundle_step_fault, flag_word_fault, flags_fault, long_fault, short_fault, walk_fault}
use Rattle.clap.specs.Lexer.{long_of}
use Rattle.clap.specs.Simple.{App, argument_words, built, names_of}
use Rattle.clap.specs.Walk.{Held, Names, Rule, arg_by_long, arg_by_short, nothing_held, walk_from}
use Rattle.clap.specs.Words.{Text}
use Rattle.clap.proofs.OnLiterals.{clap_on_literals}
use Rattle.clap.proofs.WalkLemmas.{both}
use Rattle.clap.proofs.SimpleLemmas.{is_false}
use Rattle.patch_options.specs.Groups.{patch_table}
use Rattle.patch_options.specs.Simple.{is_empty, simple_command, takes, rows_by}
use Rattle.patch_options.specs.Whole.{long_names, whole_in, whole_word, whole_words}
use Rattle.patch_options.specs.Words.{job_of, matched_job, patch_command, patch_job, whole_job}
use Rattle.patch_options.specs.declared.options.WordFault.TheVariants.{Usage}
use Rattle.cli_tool_words.specs.Asked.{asked, is_lawful}
use Rattle.cli_tool_words.specs.Tools.{command_of, name_of, table_of, tool_named}
use Rattle.cli_tool_words.specs.Words.{job_by, tool_job}
use Rattle.cli_tool_words.specs.Words.{whole_job as tool_whole_job}
use Rattle.cli_tool_words.specs.declared.tools.Tool.{Tool}
use Rattle.cli_tool_words.specs.declared.tools.Tool.TheVariants.{Lsdiff, Filterdiff, Grepdiff, Splitdiff, Recountdiff, Patchgen, Reversediff, Patchstack}
use Rattle.cli_program_words.specs.Told.{asks, is_asking, is_told, table_by}
use Rattle.cli_program_words.proofs.Walking.{first_stays, open_start, walk_fails}

-- ---- the words that ask

one_of : (a b : Bool) → (a || b) ≡ true → (a ≡ true) ⊎ (b ≡ true)
one_of true b is = inl refl
one_of false b is = inr is

same_text : (a b : Text) → bytes_eq a b ≡ true → a ≡ b
same_text a b is = (bytes_eq-Decides a b).0 is

pub data Asks (tool word : Text) : Type 0 where
  help : word ≡ codes "--help" → Asks tool word
  version : word ≡ codes "--version" → Asks tool word
  letter : word ≡ codes "-v" → tool ≡ codes "patch" → Asks tool word

which : (tool word : Text) → is_asking tool word ≡ true → Asks tool word
which tool word is = go (one_of (bytes_eq word (codes "--help") || bytes_eq word (codes "--version")) (bytes_eq word (codes "-v") && bytes_eq tool (codes "patch")) is)
  where
    long : (bytes_eq word (codes "--help") ≡ true) ⊎ (bytes_eq word (codes "--version") ≡ true) → Asks tool word
    long (inl same) = help (same_text word (codes "--help") same)
    long (inr same) = version (same_text word (codes "--version") same)

    go : ((bytes_eq word (codes "--help") || bytes_eq word (codes "--version")) ≡ true) ⊎ ((bytes_eq word (codes "-v") && bytes_eq tool (codes "patch")) ≡ true) → Asks tool word
    go (inl some) = long (one_of (bytes_eq word (codes "--help")) (bytes_eq word (codes "--version")) some)
    go (inr some) =
        let parts = both (bytes_eq word (codes "-v")) (bytes_eq tool (codes "patch")) some in
        letter (same_text word (codes "-v") parts.0) (same_text tool (codes "patch") parts.1)

pub apart : (tool word : Text) → is_asking tool word ≡ true → bytes_eq word (codes "--") ≡ false
apart tool word is = go (which tool word is)
  where
    go : Asks tool word → bytes_eq word (codes "--") ≡ false
    go (help same) = ap (λ w. bytes_eq w (codes "--")) same
    go (version same) = ap (λ w. bytes_eq w (codes "--")) same
    go (letter same of) = ap (λ w. bytes_eq w (codes "--")) same

-- ---- a command that knows none of them

pub record IsDeaf (a : App) (tool : Text) : Type 0 where
  pub names : names_of (built a) ≡ []
  pub named : a.top.no_binary_name ≡ false
  pub plain : list_all (λ r. not r.trailing_var_arg) (built a).top.rules ≡ true
  pub help : arg_by_long (built a).top.rules (codes "help") ≡ None
  pub version : arg_by_long (built a).top.rules (codes "version") ≡ None
  pub letter : tool ≡ codes "patch" → arg_by_short (built a).top.rules 118 ≡ None

module _ (a : App) (tool : Text) (deaf : IsDeaf a tool) where
  abbrev rules : List Rule
  rules = (built a).top.rules

  abbrev again : Bool
  again = (built a).top.args_override_self

  letter_refused : (h : Held) → h.skip ≡ 0 → arg_by_short rules 118 ≡ None → is_empty (flag_word_fault rules again (long_of (codes "-v")) (codes "-v") h) ≡ false
  unfolding clap_on_literals
  letter_refused h none unknown =
      ap (λ n. is_empty (bundle_step_fault rules again (Some 118) (codes "v") n (record h { skip = 0 }) (flags_fault rules again 0))) none
      ∙ ap (λ (found : Option Rule). is_empty (short_fault rules again found [] (record h { skip = 0 }) (flags_fault rules again 0 [] 0))) unknown

  refused_at : (word : Text) (h : Held) → is_asking tool word ≡ true → h.skip ≡ 0 → is_empty (flag_word_fault rules again (long_of word) word h) ≡ false
  refused_at word h is none = go (which tool word is)
    where
      go : Asks tool word → is_empty (flag_word_fault rules again (long_of word) word h) ≡ false
      go (help same) = ap (λ w. is_empty (flag_word_fault rules again (long_of w) w h)) same ∙ ap (λ (found : Option Rule). is_empty (long_fault rules again found None h)) deaf.help
      go (version same) = ap (λ w. is_empty (flag_word_fault rules again (long_of w) w h)) same ∙ ap (λ (found : Option Rule). is_empty (long_fault rules again found None h)) deaf.version
      go (letter same of) = ap (λ w. is_empty (flag_word_fault rules again (long_of w) w h)) same ∙ letter_refused h none (deaf.letter of)

  pub not_taken : (first : Text) (rest : List Text) → asks tool rest ≡ true → takes a (first ∷ rest) ≡ false
  unfolding takes
  not_taken first rest asked =
      let fails = walk_fails (built a).top tool deaf.plain (apart tool) refused_at (walk_from nothing_held) rest (open_start nothing_held refl) asked in
      first_stays _ _ (ap (λ (ns : Names). is_empty (walk_fault (built a).top ns (walk_from nothing_held) (argument_words a (first ∷ rest)))) deaf.names
      ∙ (ap (λ (b : Bool). is_empty (walk_fault (built a).top [] (walk_from nothing_held) (if b then first ∷ rest else drop 1 (first ∷ rest)))) deaf.named ∙ fails))

-- behind a name that doesn't ask
behind : (tool : Text) (words : List Text) → is_asking tool tool ≡ false → bytes_eq tool (codes "--") ≡ false → asks tool (tool ∷ words) ≡ true → asks tool words ≡ true
behind tool words none other asked =
    sym (ap (λ b. b || (not (bytes_eq tool (codes "--")) && asks tool words)) none ∙ ap (λ b. not b && asks tool words) other) ∙ asked

-- ---- `patch`

patch_is_deaf : IsDeaf patch_command (codes "patch")
unfolding clap_on_literals patch_command simple_command
patch_is_deaf = record { names = refl; named = refl; plain = refl; help = refl; version = refl; letter = λ is. refl }

patch_in_front : (rest : List Text) → whole_words patch_table (codes "patch" ∷ rest) ≡ codes "patch" ∷ whole_in (long_names patch_table) rest
unfolding whole_words whole_word
patch_in_front rest = refl

patch_refused : (rest : List Text) → asks (codes "patch") (whole_words patch_table (codes "patch" ∷ rest)) ≡ true → patch_job (codes "patch" ∷ rest) ≡ Err Usage
unfolding patch_job whole_job
patch_refused rest asked =
    let words = whole_in (long_names patch_table) rest in
    let more = behind (codes "patch") words refl refl (ap (asks (codes "patch")) (sym (patch_in_front rest)) ∙ asked) in
    ap whole_job (patch_in_front rest)
    ∙ ap (λ b. if b then matched_job (rows_by patch_command (codes "patch" ∷ words)) else Err Usage) (not_taken patch_command (codes "patch") patch_is_deaf (codes "patch") words more)

patch_named : (first : Text) (rest : List Text) → first ≡ codes "patch" → is_told (first ∷ rest) ≡ true → patch_job (first ∷ rest) ≡ Err Usage
unfolding is_told tool_named
patch_named first rest is told =
    let as_patch = ap (λ f. asks f (whole_words (table_by f) (f ∷ rest))) (sym is) ∙ told in
    ap (λ f. patch_job (f ∷ rest)) is ∙ patch_refused rest as_patch

pub no_patch : (words : List Text) → is_told words ≡ true → job_of words ≡ Err Usage
no_patch [] told = refl
no_patch (first ∷ rest) told = go (bytes_eq first (codes "patch")) refl
  where
    go : (b : Bool) → bytes_eq first (codes "patch") ≡ b → (if b then patch_job (first ∷ rest) else Err Usage) ≡ Err Usage
    go true is = patch_named first rest (same_text first (codes "patch") is) told
    go false is = refl

-- ---- the other tools

pick : (b : Bool) (x : Tool) (rest : Option Tool) (t : Tool) (P : Type 0) → (if b then Some x else rest) ≡ Some t → (b ≡ true → x ≡ t → P) → (rest ≡ Some t → P) → P
pick true x rest t P is hit miss = hit refl (same_Some x t is)
pick false x rest t P is hit miss = miss is

by_name : (word : Text) (x t : Tool) → bytes_eq word (name_of x) ≡ true → x ≡ t → word ≡ name_of t
by_name word x t same is = same_text word (name_of x) same ∙ ap name_of is

named_as : (word : Text) (t : Tool) → tool_named word ≡ Some t → word ≡ name_of t
unfolding tool_named
named_as word t is =
    pick (bytes_eq word (codes "lsdiff")) Lsdiff _ t (word ≡ name_of t) is (by_name word Lsdiff t) (λ more.
    pick (bytes_eq word (codes "filterdiff")) Filterdiff _ t (word ≡ name_of t) more (by_name word Filterdiff t) (λ more.
    pick (bytes_eq word (codes "grepdiff")) Grepdiff _ t (word ≡ name_of t) more (by_name word Grepdiff t) (λ more.
    pick (bytes_eq word (codes "splitdiff")) Splitdiff _ t (word ≡ name_of t) more (by_name word Splitdiff t) (λ more.
    pick (bytes_eq word (codes "recountdiff")) Recountdiff _ t (word ≡ name_of t) more (by_name word Recountdiff t) (λ more.
    pick (bytes_eq word (codes "patchgen")) Patchgen _ t (word ≡ name_of t) more (by_name word Patchgen t) (λ more.
    pick (bytes_eq word (codes "reversediff")) Reversediff _ t (word ≡ name_of t) more (by_name word Reversediff t) (λ more.
    pick (bytes_eq word (codes "patchstack")) Patchstack None t (word ≡ name_of t) more (by_name word Patchstack t) (λ none. absurd (none-some t none)))))))))

not_patch : (t : Tool) → bytes_eq (name_of t) (codes "patch") ≡ false
not_patch Lsdiff = refl
not_patch Filterdiff = refl
not_patch Grepdiff = refl
not_patch Splitdiff = refl
not_patch Recountdiff = refl
not_patch Patchgen = refl
not_patch Reversediff = refl
not_patch Patchstack = refl

no_patch_name : (t : Tool) → name_of t ≡ codes "patch" → ⊥
no_patch_name t is = true≢false (sym ((bytes_eq-Decides (name_of t) (codes "patch")).1 is) ∙ not_patch t)

tool_is_deaf : (t : Tool) → IsDeaf (command_of t) (name_of t)
unfolding clap_on_literals command_of simple_command
tool_is_deaf Lsdiff = record { names = refl; named = refl; plain = refl; help = refl; version = refl; letter = λ is. absurd (no_patch_name Lsdiff is) }
tool_is_deaf Filterdiff = record { names = refl; named = refl; plain = refl; help = refl; version = refl; letter = λ is. absurd (no_patch_name Filterdiff is) }
tool_is_deaf Grepdiff = record { names = refl; named = refl; plain = refl; help = refl; version = refl; letter = λ is. absurd (no_patch_name Grepdiff is) }
tool_is_deaf Splitdiff = record { names = refl; named = refl; plain = refl; help = refl; version = refl; letter = λ is. absurd (no_patch_name Splitdiff is) }
tool_is_deaf Recountdiff = record { names = refl; named = refl; plain = refl; help = refl; version = refl; letter = λ is. absurd (no_patch_name Recountdiff is) }
tool_is_deaf Patchgen = record { names = refl; named = refl; plain = refl; help = refl; version = refl; letter = λ is. absurd (no_patch_name Patchgen is) }
tool_is_deaf Reversediff = record { names = refl; named = refl; plain = refl; help = refl; version = refl; letter = λ is. absurd (no_patch_name Reversediff is) }
tool_is_deaf Patchstack = record { names = refl; named = refl; plain = refl; help = refl; version = refl; letter = λ is. absurd (no_patch_name Patchstack is) }

-- its name stays in front, and doesn't ask
record IsInFront (t : Tool) : Type 0 where
  first : (rest : List Text) → whole_words (table_of t) (name_of t ∷ rest) ≡ name_of t ∷ whole_in (long_names (table_of t)) rest
  silent : is_asking (name_of t) (name_of t) ≡ false
  other : bytes_eq (name_of t) (codes "--") ≡ false

in_front : (t : Tool) → IsInFront t
unfolding whole_words whole_word
in_front Lsdiff = record { first = λ rest. refl; silent = refl; other = refl }
in_front Filterdiff = record { first = λ rest. refl; silent = refl; other = refl }
in_front Grepdiff = record { first = λ rest. refl; silent = refl; other = refl }
in_front Splitdiff = record { first = λ rest. refl; silent = refl; other = refl }
in_front Recountdiff = record { first = λ rest. refl; silent = refl; other = refl }
in_front Patchgen = record { first = λ rest. refl; silent = refl; other = refl }
in_front Reversediff = record { first = λ rest. refl; silent = refl; other = refl }
in_front Patchstack = record { first = λ rest. refl; silent = refl; other = refl }

tool_refused : (t : Tool) (rest : List Text) → asks (name_of t) (whole_words (table_of t) (name_of t ∷ rest)) ≡ true → job_by t (name_of t ∷ rest) ≡ Err Usage
unfolding job_by tool_whole_job
tool_refused t rest told =
    let words = whole_in (long_names (table_of t)) rest in
    let front = in_front t in
    let more = behind (name_of t) words front.silent front.other (ap (asks (name_of t)) (sym (front.first rest)) ∙ told) in
    let rows = rows_by (command_of t) (name_of t ∷ words) in
    ap (tool_whole_job t) (front.first rest)
    ∙ ap (λ b. if b && is_lawful t rows then Ok (asked t rows) else Err Usage) (not_taken (command_of t) (name_of t) (tool_is_deaf t) (name_of t) words more)

tool_by_name : (first : Text) (rest : List Text) (t : Tool) → tool_named first ≡ Some t → is_told (first ∷ rest) ≡ true → job_by t (first ∷ rest) ≡ Err Usage
unfolding is_told
tool_by_name first rest t is told =
    let same = named_as first t is in
    let by_table = ap (λ (o : Option Tool). asks first (whole_words (option_map_or table_of o patch_table) (first ∷ rest))) (sym is) ∙ told in
    ap (λ f. job_by t (f ∷ rest)) same ∙ tool_refused t rest (ap (λ f. asks f (whole_words (table_of t) (f ∷ rest))) (sym same) ∙ by_table)

pub no_tool : (words : List Text) → is_told words ≡ true → tool_job words ≡ Err Usage
no_tool [] told = refl
no_tool (first ∷ rest) told = go (tool_named first) refl
  where
    go : (o : Option Tool) → tool_named first ≡ o → option_map_or (λ tool. job_by tool (first ∷ rest)) o (Err Usage) ≡ Err Usage
    go None is = refl
    go (Some t) is = tool_by_name first rest t is told
