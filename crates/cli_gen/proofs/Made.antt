-- The set that is read from the made patch.
use Rattle.std.proofs.Common.{◌≡◌, ℕ, List, length, None, ap, ◌∙◌, subst}
use Rattle.std.proofs.lemmas.List.{length-replicate}
use Rattle.hunk_core.specs.declared.Verdict.TheVariants.{Untried}
use Rattle.patch_options.specs.PlainJob.{PlainOptions, IsLawful}
use Rattle.patch_set.specs.Refusals.{refusal}
use Rattle.patch_set.specs.SetView.{SetView, IsRead, IsFresh, hunks_in}
use Rattle.cli_tool_words.specs.PlainJobs.{PlainGenJob}
use Rattle.cli_gen.specs.Jobs.{options_for}
use Rattle.cli_gen.specs.Command.{patch_text}
use Rattle.cli_gen.specs.Preparing.{IsMadeSet}
use Rattle.patch_run.proofs.Ready.{read_names}

made_so : (j : PlainGenJob) (v : SetView) → IsLawful (options_for j) → IsRead (options_for j) (patch_text j) v → IsFresh v → refusal (options_for j) (patch_text j) ≡ None → IsMadeSet j v
made_so j v lawful read fresh free = record {
  can = record { lawful = lawful; names = read_names (options_for j) (patch_text j) v read; verdicts = ap (λ l. length l) fresh.verdicts ∙ length-replicate (hunks_in v.patches) Untried };
  free = free;
  read = read;
}

pub made_set : (j : PlainGenJob) (o : PlainOptions) (text : List ℕ) (v : SetView) → o ≡ options_for j → text ≡ patch_text j → IsLawful o → IsRead o text v → IsFresh v → refusal o text ≡ None → IsMadeSet j v
made_set j o text v same given lawful read fresh free =
    made_so j v (subst IsLawful same lawful)
    (subst (λ (x : PlainOptions). IsRead x (patch_text j) v) same (subst (λ (l : List ℕ). IsRead o l v) given read))
    fresh
    (subst (λ (x : PlainOptions). refusal x (patch_text j) ≡ None) same (subst (λ (l : List ℕ). refusal o l ≡ None) given free))
