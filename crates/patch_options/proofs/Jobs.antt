-- What the words of `patch` ask for, by what was matched in them.
use Rattle.std.proofs.Common.{◌≡◌, ◌⊎◌, ◌∙◌, ◌<◌, ◌≤◌, Bool, true, false, List, [], ◌∷◌, get_or, length, map, Ok, Err, codes, bytes_eq, ap, refl, sym, subst, inl, inr, if◌then◌else◌, arith}
use Rattle.clap.specs.Words.{Row, Text}
use Rattle.patch_options.specs.Groups.{patch_table}
use Rattle.patch_options.specs.Simple.{takes, rows_by}
use Rattle.patch_options.specs.Whole.{whole_words}
use Rattle.patch_options.specs.PlainJob.{PlainOptions, IsLawfulJob}
use Rattle.patch_options.specs.PlainJob.PlainJob.{patch}
use Rattle.patch_options.specs.Table.{is_command, options_of}
use Rattle.patch_options.specs.Words.{patch_command, patch_job, whole_job, matched_job, job_of}
use Rattle.patch_options.specs.declared.options.WordFault.{WordFault}
use Rattle.patch_options.specs.declared.options.WordFault.TheVariants.{Usage, Memory}
use Rattle.patch_options.proofs.Lawful.{lawful_options}

pub if_true : {X : Type 0} (b : Bool) (x y : X) → b ≡ true → (if b then x else y) ≡ x
if_true true x y h = refl
if_true false x y h = cc

pub if_false : {X : Type 0} (b : Bool) (x y : X) → b ≡ false → (if b then x else y) ≡ y
if_false true x y h = cc
if_false false x y h = refl

pub words_refused : (words : List Text) (fault : WordFault) → (fault ≡ Memory) ⊎ ((fault ≡ Usage) × (takes patch_command words ≡ false)) → (fault ≡ Memory) ⊎ (whole_job words ≡ Err fault)
unfolding whole_job
words_refused words fault (inl memory) = inl memory
words_refused words fault (inr usage) = inr (if_false (takes patch_command words) (matched_job (rows_by patch_command words)) (Err Usage) usage.1 ∙ ap (λ (f : WordFault). Err f) (sym usage.0))

matched_is : (words : List Text) (rows : List Row) → takes patch_command words ≡ true → rows ≡ rows_by patch_command words → whole_job words ≡ matched_job rows
unfolding whole_job
matched_is words rows taken are = if_true (takes patch_command words) (matched_job (rows_by patch_command words)) (Err Usage) taken ∙ ap matched_job (sym are)

pub table_refused : (words : List Text) (rows : List Row) (fault : WordFault) → takes patch_command words ≡ true → rows ≡ rows_by patch_command words
    → (fault ≡ Memory) ⊎ ((fault ≡ Usage) × (is_command rows ≡ false)) → (fault ≡ Memory) ⊎ (whole_job words ≡ Err fault)
unfolding matched_job
table_refused words rows fault taken are (inl memory) = inl memory
table_refused words rows fault taken are (inr usage) = inr (matched_is words rows taken are ∙ (if_false (is_command rows) (Ok (patch (options_of rows))) (Err Usage) usage.1 ∙ ap (λ (f : WordFault). Err f) (sym usage.0)))

pub job_is : (words : List Text) (rows : List Row) (o : PlainOptions) → takes patch_command words ≡ true → rows ≡ rows_by patch_command words → is_command rows ≡ true → o ≡ options_of rows
    → whole_job words ≡ Ok (patch o)
unfolding matched_job
job_is words rows o taken are command is = matched_is words rows taken are ∙ (if_true (is_command rows) (Ok (patch (options_of rows))) (Err Usage) command ∙ ap (λ (p : PlainOptions). Ok (patch p)) (sym is))

pub lawful_job : (rows : List Row) (o : PlainOptions) → is_command rows ≡ true → o ≡ options_of rows → IsLawfulJob (patch o)
lawful_job rows o command is = subst (λ (p : PlainOptions). IsLawfulJob (patch p)) (sym is) (lawful_options rows command)

-- ---- by whole words

pub job_whole : (words whole : List Text) → whole ≡ whole_words patch_table words → patch_job words ≡ whole_job whole
unfolding patch_job
job_whole words whole is = ap whole_job (sym is)

pub refused_whole : (words whole : List Text) → whole ≡ whole_words patch_table words → (fault : WordFault) → (fault ≡ Memory) ⊎ (whole_job whole ≡ Err fault) → (fault ≡ Memory) ⊎ (patch_job words ≡ Err fault)
refused_whole words whole is fault (inl memory) = inl memory
refused_whole words whole is fault (inr refused) = inr (job_whole words whole is ∙ refused)

-- ---- by the first word

pub by_patch : {X : Type 0} (f : X → Text) (words : List X) (tool : X) → tool ≡ get_or words 0 tool → bytes_eq (f tool) (codes "patch") ≡ true → 1 ≤ length words → job_of (map f words) ≡ patch_job (map f words)
by_patch f [] tool is same some = let bad : ⊥ = omega arith in absurd bad
by_patch f (w ∷ ws) tool is same some = if_true (bytes_eq (f w) (codes "patch")) (patch_job (f w ∷ map f ws)) (Err Usage) (ap (λ t. bytes_eq (f t) (codes "patch")) (sym is) ∙ same)

pub by_other : {X : Type 0} (f : X → Text) (words : List X) (tool : X) → tool ≡ get_or words 0 tool → bytes_eq (f tool) (codes "patch") ≡ false → 1 ≤ length words → job_of (map f words) ≡ Err Usage
by_other f [] tool is other some = refl
by_other f (w ∷ ws) tool is other some = if_false (bytes_eq (f w) (codes "patch")) (patch_job (f w ∷ map f ws)) (Err Usage) (ap (λ t. bytes_eq (f t) (codes "patch")) (sym is) ∙ other)

pub no_words : {X : Type 0} (f : X → Text) (words : List X) → length words < 1 → job_of (map f words) ≡ Err Usage
no_words f [] none = refl
no_words f (w ∷ ws) none = let bad : ⊥ = omega arith in absurd bad
