use Rattle.std.proofs.Common.{◌∙◌, [], Option, ap, inl, inr, refl, sym, unwrap_or}
use Rattle.clap.specs.Words.{Text}
use Rattle.clap.proofs.TakesLemmas.{passed_up}
use Rattle.outside.proofs.Exits.{if_ok_none}
use Rattle.patch_options.specs.Table.{has_form}
use Rattle.patch_options.specs.declared.options.WordFault.TheVariants.{Memory}
use Rattle.cli_tool_words.specs.Selecting.{is_number}
use Rattle.cli_tool_words.proofs.showing.read_shown.Goals as goal

pub returns-then-not-is_number : goal.returns-then-not-is_number
returns-then-not-is_number c = record {
  shown = tt;
  lawful = tt;
  refused = inr (refl, ap (has_form is_number) (sym c.value_of.ensures) ∙ (sym c.is_number.ensures ∙ c.if-not-is_number.true));
}

pub returns-in_err-prefix : goal.returns-in_err-prefix
returns-in_err-prefix c = record {
  shown = if_ok_none _ _ c.from_residual.result c.from_residual.ensures.1;
  lawful = if_ok_none _ _ c.from_residual.result c.from_residual.ensures.1;
  refused = passed_up c.from_residual.result Memory _ c.from_residual.ensures.1 (inl refl);
}

pub returns : goal.returns
returns c = record {
  shown = λ i. record {
    numbers = c.is_used.ensures i;
    hunks = c.shows_hunks.ensures i;
    status = c.is_used-2.ensures i;
    empty_absent = c.args.empty_absent;
    strip = c.shown_strip.ensures i;
    prefix = (c.in_ok-prefix.ensures ∙ ap (λ (text : Option Text). unwrap_or text []) c.value_of-2.ensures) i;
    label = c.in-Ok.ensures i;
    hunk_label = c.in-Ok-label_of.ensures i;
  };
  lawful = ap (has_form is_number) (sym c.value_of.ensures) ∙ (sym c.is_number.ensures ∙ c.if-not-is_number.false);
  refused = tt;
}
