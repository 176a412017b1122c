use Rattle.std.proofs.Common.{refl, sym, ◌∙◌}
use Rattle.patchkit.proofs.Apart.{patch-filter, patch-gen, patch-stack, filter-gen, filter-stack, gen-stack}
use Rattle.patchkit.proofs.run_tool.run.Goals as goal

pub returns-in-Patch-clause-patch : goal.returns-in-Patch-clause-patch
returns-in-Patch-clause-patch g c = λ is. record {
  carries = c.run.ensures.carries;
  complete = c.run.ensures.complete;
  names = c.run.ensures.names;
  words_first = c.run.ensures.words;
  still = c.run.ensures.still;
  early_out = c.run.ensures.early_out;
  early_scratch = c.run.ensures.early_scratch;
  scratch = c.run.ensures.scratch;
  input = c.run.ensures.input;
  finder = refl;
}

pub returns-in-Patch-clause-filter : goal.returns-in-Patch-clause-filter
returns-in-Patch-clause-filter g c = λ is. absurd (patch-filter (sym c.in-Patch.is ∙ (c.kind_of.ensures ∙ is)))

pub returns-in-Filter-clause-patch : goal.returns-in-Filter-clause-patch
returns-in-Filter-clause-patch g c = λ is. absurd (patch-filter (sym is ∙ (sym c.kind_of.ensures ∙ c.in-Filter.is)))

pub returns-in-Filter-clause-filter : goal.returns-in-Filter-clause-filter
returns-in-Filter-clause-filter g c = λ is. c.run_sifting.ensures.runs

pub returns-in-Patch-clause-making : goal.returns-in-Patch-clause-making
returns-in-Patch-clause-making g c = λ is. absurd (patch-gen (sym c.in-Patch.is ∙ (c.kind_of.ensures ∙ is)))

pub returns-in-Filter-clause-making : goal.returns-in-Filter-clause-making
returns-in-Filter-clause-making g c = λ is. absurd (filter-gen (sym c.in-Filter.is ∙ (c.kind_of.ensures ∙ is)))

pub returns-in-Gen-clause-patch : goal.returns-in-Gen-clause-patch
returns-in-Gen-clause-patch g c = λ is. absurd (patch-gen (sym is ∙ (sym c.kind_of.ensures ∙ c.in-Gen.is)))

pub returns-in-Gen-clause-filter : goal.returns-in-Gen-clause-filter
returns-in-Gen-clause-filter g c = λ is. absurd (filter-gen (sym is ∙ (sym c.kind_of.ensures ∙ c.in-Gen.is)))

pub returns-in-Gen-clause-making : goal.returns-in-Gen-clause-making
returns-in-Gen-clause-making g c = λ is. record {
  carries = c.run_making.ensures.carries;
  words_first = c.run_making.ensures.words;
  still = c.run_making.ensures.still;
  silent = c.run_making.ensures.silent;
  scratch = c.run_making.ensures.scratch;
  input = refl;
  finder = refl;
}

pub returns-in-Patch-clause-stack : goal.returns-in-Patch-clause-stack
returns-in-Patch-clause-stack g c = λ is. absurd (patch-stack (sym c.in-Patch.is ∙ (c.kind_of.ensures ∙ is)))

pub returns-in-Filter-clause-stack : goal.returns-in-Filter-clause-stack
returns-in-Filter-clause-stack g c = λ is. absurd (filter-stack (sym c.in-Filter.is ∙ (c.kind_of.ensures ∙ is)))

pub returns-in-Gen-clause-stack : goal.returns-in-Gen-clause-stack
returns-in-Gen-clause-stack g c = λ is. absurd (gen-stack (sym c.in-Gen.is ∙ (c.kind_of.ensures ∙ is)))

pub returns-in-Stack-clause-patch : goal.returns-in-Stack-clause-patch
returns-in-Stack-clause-patch g c = λ is. absurd (patch-stack (sym is ∙ (sym c.kind_of.ensures ∙ c.in-Stack.is)))

pub returns-in-Stack-clause-filter : goal.returns-in-Stack-clause-filter
returns-in-Stack-clause-filter g c = λ is. absurd (filter-stack (sym is ∙ (sym c.kind_of.ensures ∙ c.in-Stack.is)))

pub returns-in-Stack-clause-making : goal.returns-in-Stack-clause-making
returns-in-Stack-clause-making g c = λ is. absurd (gen-stack (sym is ∙ (sym c.kind_of.ensures ∙ c.in-Stack.is)))

pub returns-in-Stack-clause-stack : goal.returns-in-Stack-clause-stack
returns-in-Stack-clause-stack g c = λ is. record {
  runs = c.run_stacking.ensures.runs;
  input = refl;
  finder = refl;
  no_receipt = c.run_stacking.ensures.no_receipt;
}
