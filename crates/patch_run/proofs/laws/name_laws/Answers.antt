use Rattle.patch_run.proofs.Unwritten.{unwritten_stays, backed_before}
use Rattle.patch_run.proofs.Rejected.{run_rejects}
use Rattle.patch_run.proofs.laws.name_laws.Goals as goal

pub returns : goal.returns
returns c = record {
  unwritten = λ o output items files name lasting none unwritten. unwritten_stays name lasting o output items files none unwritten;
  backed = λ o output items i files w other vs lasting none. backed_before o output items i files w other vs lasting none;
  rejected = λ o output items files name lasting none any. run_rejects name lasting o output items files none any;
}
