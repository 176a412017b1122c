use Rattle.patch_run.proofs.DoneNone.{skipped_ignored, dry_effects, dry_files}
use Rattle.patch_run.proofs.BackedUp.{backed_once}
use Rattle.patch_run.proofs.Renaming.{renamed}
use Rattle.patch_run.proofs.Keeping.{bare_keeps}
use Rattle.patch_run.proofs.Skipping.{skipped_as, forced_skip, needed_skip}
use Rattle.patch_run.proofs.SaidFirst.{run-first, run-failing}
use Rattle.patch_run.proofs.laws.run_laws.Goals as goal

pub returns : goal.returns
returns c = record {
  skipped = λ t files is. skipped_ignored t files is;
  unsuited = λ t files. skipped_as t files;
  forced = λ t files forced is. forced_skip t files forced is;
  needed = λ t files is. skipped_ignored t files (needed_skip t files is);
  dry = λ o output items files dry. dry_effects o output items files dry;
  once = λ o output front behind i j files w other vs going has. backed_once o output front behind i j files w other vs going has;
  renamed = λ t files s w x named moving is. renamed t files s w x named moving is;
  told = λ o output i items files. run-first o output i items files;
  failing = λ o output i items files fails going. run-failing o output i items files fails going;
  bare = λ t side bytes is. bare_keeps t side bytes is;
  same = λ o output items files dry. dry_files o output items files dry;
}
