use Rattle.std.proofs.Common.{◌∙◌, inl, inr, refl, sym}
use Rattle.cli_tool_words.proofs.styling.read_style.Goals as goal

pub returns-then-not-is_style : goal.returns-then-not-is_style
returns-then-not-is_style c = record {
  style = tt;
  lawful = tt;
  refused = inr (refl, sym c.is_style.ensures ∙ c.if-not-is_style.true);
}

pub returns-in-Err : goal.returns-in-Err
returns-in-Err c = record {
  style = tt;
  lawful = tt;
  refused = inl refl;
}

pub returns-in-Ok : goal.returns-in-Ok
returns-in-Ok c = record {
  style = λ i. record {
    strip = c.number_or_0.ensures i;
    prefix = c.in-Ok.ensures.both i;
    old_prefix = c.in-Ok.ensures.old i;
    new_prefix = c.in-Ok.ensures.new i;
    no_stamps = c.is_used.ensures i;
    clean = c.is_used-in-Ok.ensures i;
  };
  lawful = sym c.is_style.ensures ∙ c.if-not-is_style.false;
  refused = tt;
}
