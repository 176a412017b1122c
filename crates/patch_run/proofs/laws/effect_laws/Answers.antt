use Rattle.patch_run.proofs.TriedFiles.{others_kept, renamed_splices}
use Rattle.patch_run.proofs.Removing.{takes_source, none_removed}
use Rattle.patch_run.proofs.laws.effect_laws.Goals as goal

pub returns : goal.returns
returns c = record {
  spliced = λ t files k side bytes moves differ held source named own other is. renamed_splices t files k side bytes moves differ held source named own other is;
  kept = λ t files k side name stays aside. others_kept t files k side name stays aside;
  taken = λ t files keeps. takes_source t files keeps;
  none = λ o output items files keeps stay. none_removed o output items files keeps stay;
}
