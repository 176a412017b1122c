use Rattle.std.proofs.Common.{inl, inr, refl, sym, ◌∙◌}
use Rattle.cli_stack.proofs.pushing.with_names.Goals as goal

pub returns-in-Some : goal.returns-in-Some
returns-in-Some c = record {
  set = tt;
  names = tt;
  own = tt;
  refused = inr (c.in-Some.line, refl, sym c.in-Ok.ensures.own ∙ c.in-Some.is);
}

pub returns-in-None : goal.returns-in-None
returns-in-None c = record {
  set = refl;
  names = c.in-Ok.ensures.names;
  own = sym c.in-Ok.ensures.own ∙ c.in-None.is;
  refused = tt;
}

pub returns-in-Err : goal.returns-in-Err
returns-in-Err c = record {
  refused = inl refl;
  set = tt;
  own = tt;
  names = tt;
}
