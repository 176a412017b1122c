-- What words ask of a tool, by what was matched in them.
use Rattle.std.proofs.Common.{◌≡◌, ◌⊎◌, ◌∙◌, ◌&&◌, ◌<◌, ◌≤◌, Bool, true, false, List, [], ◌∷◌, Option, Result, Ok, Err, IsErrAnd, IfOk, IfErr, ap, arith, refl, subst, sym, inl, inr, get_or, length, map, if◌then◌else◌}
use Rattle.std.specs.Option.{option_map_or}
use Rattle.clap.specs.Words.{App, Row, Text, is_simple_and_free}
use Rattle.clap.proofs.TakesLemmas.{passed_up}
use Rattle.patch_options.specs.Simple.{PlainWord, simple_command, takes, rows_by}
use Rattle.patch_options.specs.Whole.{whole_words}
use Rattle.patch_options.specs.declared.options.WordFault.{WordFault}
use Rattle.patch_options.specs.declared.options.WordFault.TheVariants.{Usage, Memory}
use Rattle.cli_tool_words.specs.Asked.{is_lawful, asked}
use Rattle.cli_tool_words.specs.PlainJobs.{PlainToolJob, IsLawfulToolJob, plain_tool_job}
use Rattle.cli_tool_words.specs.Tools.{command_of, name_of, table_of, tool_named}
use Rattle.cli_tool_words.specs.Words.{job_by, tool_job, whole_job}
use Rattle.cli_tool_words.specs.declared.jobs.ToolJob.{ToolJob}
use Rattle.cli_tool_words.specs.declared.tools.Tool.{Tool}
use Rattle.cli_tool_words.proofs.Free.{command_is_free}
use Rattle.cli_tool_words.proofs.Lawful.{lawful_job}

if_both : {X : Type 0} (a b : Bool) (x y : X) → a ≡ true → b ≡ true → (if a && b then x else y) ≡ x
if_both true true x y h k = refl
if_both true false x y h k = cc
if_both false b x y h k = cc

if_not_first : {X : Type 0} (a b : Bool) (x y : X) → a ≡ false → (if a && b then x else y) ≡ y
if_not_first true b x y h = cc
if_not_first false b x y h = refl

if_not_second : {X : Type 0} (a b : Bool) (x y : X) → b ≡ false → (if a && b then x else y) ≡ y
if_not_second true true x y h = cc
if_not_second true false x y h = refl
if_not_second false b x y h = refl

module _ (tool : Tool) (name : Text) (table : List PlainWord) (words : List Text) (name-is : name ≡ name_of tool) (table-is : table ≡ table_of tool) where
  command-is : simple_command name table ≡ command_of tool
  unfolding command_of
  command-is = ap (λ (n : Text). simple_command n table) name-is ∙ ap (simple_command (name_of tool)) table-is

  pub is_free : is_simple_and_free (simple_command name table) ≡ true
  is_free = ap is_simple_and_free command-is ∙ command_is_free tool

  -- a refusal of the words by the command
  words_refused : (fault : WordFault) → (fault ≡ Memory) ⊎ ((fault ≡ Usage) × (takes (simple_command name table) words ≡ false)) → (fault ≡ Memory) ⊎ (whole_job tool words ≡ Err fault)
  unfolding whole_job
  words_refused fault (inl memory) = inl memory
  words_refused fault (inr usage) =
      let untaken : takes (command_of tool) words ≡ false = ap (λ (a : App). takes a words) (sym command-is) ∙ usage.1 in
      inr (if_not_first (takes (command_of tool) words) (is_lawful tool (rows_by (command_of tool) words)) (Ok (asked tool (rows_by (command_of tool) words))) (Err Usage) untaken ∙ ap (λ (f : WordFault). Err f) (sym usage.0))

  pub words_passed : {T : Type 0} (fault : WordFault) (answer : Result T WordFault) → (fault ≡ Memory) ⊎ ((fault ≡ Usage) × (takes (simple_command name table) words ≡ false))
      → IsErrAnd answer (λ f. f ≡ fault) → IfErr answer (λ f. (f ≡ Memory) ⊎ (whole_job tool words ≡ Err f))
  words_passed fault answer refused passes = passed_up answer fault _ passes (words_refused fault refused)

  module _ (rows : List Row) (rows-are : rows ≡ rows_by (simple_command name table) words) where
    all : rows ≡ rows_by (command_of tool) words
    all = rows-are ∙ ap (λ (a : App). rows_by a words) command-is

    -- a refusal of what was matched
    pub table_refused : (fault : WordFault) → (fault ≡ Memory) ⊎ ((fault ≡ Usage) × (is_lawful tool rows ≡ false)) → (fault ≡ Memory) ⊎ (whole_job tool words ≡ Err fault)
    unfolding whole_job
    table_refused fault (inl memory) = inl memory
    table_refused fault (inr usage) =
        let unlawful : is_lawful tool (rows_by (command_of tool) words) ≡ false = ap (is_lawful tool) (sym all) ∙ usage.1 in
        inr (if_not_second (takes (command_of tool) words) (is_lawful tool (rows_by (command_of tool) words)) (Ok (asked tool (rows_by (command_of tool) words))) (Err Usage) unlawful ∙ ap (λ (f : WordFault). Err f) (sym usage.0))

    job_is : (value : PlainToolJob) → takes (simple_command name table) words ≡ true → is_lawful tool rows ≡ true → value ≡ asked tool rows → whole_job tool words ≡ Ok value
    unfolding whole_job
    job_is value takes_them lawful value-is =
        let taken : takes (command_of tool) words ≡ true = ap (λ (a : App). takes a words) (sym command-is) ∙ takes_them in
        let is_one : is_lawful tool (rows_by (command_of tool) words) ≡ true = ap (is_lawful tool) (sym all) ∙ lawful in
        let same : asked tool (rows_by (command_of tool) words) ≡ value = ap (asked tool) (sym all) ∙ sym value-is in
        if_both (takes (command_of tool) words) (is_lawful tool (rows_by (command_of tool) words)) (Ok (asked tool (rows_by (command_of tool) words))) (Err Usage) taken is_one ∙ ap (λ v. Ok v) same

    pub jobs_are : (r : Result ToolJob WordFault) → takes (simple_command name table) words ≡ true → IfOk r (λ job. plain_tool_job job ≡ asked tool rows) → IfOk r (λ job. is_lawful tool rows ≡ true)
        → IfOk r (λ job. whole_job tool words ≡ Ok (plain_tool_job job))
    jobs_are (Ok job) takes_them is lawful = job_is (plain_tool_job job) takes_them lawful is
    jobs_are (Err fault) takes_them is lawful = tt

pub jobs_lawful : (tool : Tool) (rows : List Row) (r : Result ToolJob WordFault) → IfOk r (λ job. plain_tool_job job ≡ asked tool rows) → IfOk r (λ job. is_lawful tool rows ≡ true)
    → IfOk r (λ job. IsLawfulToolJob (plain_tool_job job))
jobs_lawful tool rows (Ok job) is lawful = subst IsLawfulToolJob (sym is) (lawful_job tool rows lawful)
jobs_lawful tool rows (Err fault) is lawful = tt

-- ---- by whole words

pub job_whole : (tool : Tool) (words whole : List Text) → whole ≡ whole_words (table_of tool) words → job_by tool words ≡ whole_job tool whole
unfolding job_by
job_whole tool words whole is = ap (whole_job tool) (sym is)

pub refused_whole : (tool : Tool) (words whole : List Text) → whole ≡ whole_words (table_of tool) words → (fault : WordFault) → (fault ≡ Memory) ⊎ (whole_job tool whole ≡ Err fault) → (fault ≡ Memory) ⊎ (job_by tool words ≡ Err fault)
refused_whole tool words whole is fault (inl memory) = inl memory
refused_whole tool words whole is fault (inr refused) = inr (job_whole tool words whole is ∙ refused)

-- ---- the tool that the first word names

module _ {S : Type 0} (text : S → Text) where
  pub job_by_name : (words : List S) (first : S) (name : Text) → 1 ≤ length words → first ≡ get_or words 0 first → name ≡ text first
      → (found : Option Tool) → found ≡ tool_named name → tool_job (map text words) ≡ option_map_or (λ tool. job_by tool (map text words)) found (Err Usage)
  job_by_name [] first name some at name-is found is = absurd (omega (arith, some))
  job_by_name (word ∷ words) first name some at name-is found is =
      ap (λ (t : Option Tool). option_map_or (λ tool. job_by tool (map text (word ∷ words))) t (Err Usage)) (ap (λ (w : S). tool_named (text w)) (sym at) ∙ (ap tool_named (sym name-is) ∙ sym is))

  pub no_job : (words : List S) → length words < 1 → tool_job (map text words) ≡ Err Usage
  no_job [] none = refl
  no_job (word ∷ words) none = absurd (omega (arith, none))

pub refused_so : {job other : Result PlainToolJob WordFault} (fault : WordFault) → job ≡ other → (fault ≡ Memory) ⊎ (other ≡ Err fault) → (fault ≡ Memory) ⊎ (job ≡ Err fault)
refused_so fault is (inl memory) = inl memory
refused_so fault is (inr refused) = inr (is ∙ refused)
