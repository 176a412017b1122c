-- A run that left all as it was at entry.
use Rattle.std.proofs.Common.{◌≡◌, inr, ℕ, zero, List, None, Some, refl, sym, ◌∙◌, ap, subst, arith}
use Rattle.std.proofs.lemmas.List.{append-nil}
use Rattle.std.proofs.lemmas.Option.{same_Some}
use Rattle.outside.specs.Files.{Files, SameLasting, lasting-same}
use Rattle.outside.specs.TreeView.{TreeView}
use Rattle.outside.specs.SinkView.{SinkView}
use Rattle.outside.specs.ScratchView.{ScratchView}
use Rattle.cli_run_answers.specs.declared.why.Why.{Why}
use Rattle.cli_run_answers.specs.Moments.{FirstPart, IsAsAtEntry}
use Rattle.patch_run.specs.Outcome.{Outcome, refused}
use Rattle.patch_run.specs.Answer.{IsAnswer}

module _ {t w : TreeView} {a b : ScratchView} {c d : SinkView} (same : IsAsAtEntry t w a b c d) where
  pub nothing_yet : (f : Files) (o : Outcome) → t.told ≡ Some f → FirstPart t w c d o.effects o.text
  nothing_yet f o told = record {
    tells = λ f g was now. (zero, omega arith, subst (λ (x : Files). SameLasting f x) (same_Some _ _ (sym was ∙ sym same.told ∙ now)) (lasting-same f));
    said = λ before now. inr (zero, ap (λ (x : SinkView). x.told) same.out ∙ now ∙ ap (λ (l : List ℕ). Some l) (sym (append-nil before)));
  }

  -- a refusal leaves the files, and says nothing
  pub refused_so : (why : Why) (f : Files) → t.told ≡ Some f → IsAnswer why None f w c d (refused why f)
  refused_so why f told = record {
    is = refl;
    text = λ before now. ap (λ (x : SinkView). x.told) same.out ∙ now ∙ ap (λ (l : List ℕ). Some l) (sym (append-nil before));
    files = same.told ∙ told;
    made = lasting-same f;
    applied = refl;
  }
