use Rattle.std.proofs.Common.{inl, inr, sym, ⊎_elim}
use Rattle.std.proofs.lemmas.Option.{none-some}
use Rattle.filter_whole_text.proofs.Gathering.{garbage-told}
use Rattle.patch_set.specs.Refusals.{refusal}
use Rattle.filter_whole_text.specs.Texts.{defaults}
use Rattle.filter_whole_text.proofs.opening.read_patches.Goals as goal

pub returns-in-Ok : goal.returns-in-Ok
returns-in-Ok c = record {
  set = (c.in-Ok.ensures.read, c.in-Ok.ensures.refused);
  whole = c.in-Ok.ensures.whole;
  none = λ none. absurd (none-some _ (sym none));
  refused = tt;
}

pub returns-in-Garbage : goal.returns-in-Garbage
returns-in-Garbage c = record {
  set = tt;
  whole = tt;
  none = λ none. garbage-told (refusal (defaults c.args.skip_binary) c.args.text.items) _ c.in-Garbage.is c.in-Err.ensures.refused;
  refused = tt;
}

pub returns-in_default : goal.returns-in_default
returns-in_default c = record {
  set = tt;
  whole = tt;
  none = tt;
  refused = ⊎_elim
      (λ memory. inl memory)
      (λ is. inr (c.in_default.not-Garbage, is))
      c.in-Err.ensures.refused;
}
