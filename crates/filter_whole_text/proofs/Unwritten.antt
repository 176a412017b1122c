-- Answers that write nothing.
use Rattle.std.proofs.Common.{◌≡◌, inl, Bool, true, false, Err, refl}
use Rattle.outside.specs.SinkView.{SinkView}
use Rattle.filter_whole_text.specs.Outcomes.{Outcome}
use Rattle.filter_whole_text.specs.Sifting.{AnswersFault}
use Rattle.filter_whole_text.specs.declared.fault.FilterFault.{FilterFault}

pub answers-none : (b : Bool) (e : FilterFault) (P : Outcome → Type 0) (c : SinkView) → (b ≡ true → P (Err e)) → AnswersFault b e P c c
answers-none true e P c is = (is refl, refl)
answers-none false e P c is = inl refl
