use Rattle.std.proofs.Common.{Ok, refl, ◌∙◌}
use Rattle.cli_tool_words.specs.PlainJobs.{plain_tool_job}
use Rattle.cli_filter.proofs.Behind.{carries_behind}
use Rattle.cli_filter.proofs.Sifters.{file-unless}
use Rattle.cli_filter.proofs.Early.{no_other, settle_carry}
use Rattle.cli_filter.proofs.carrying.run_job.Goals as goal

pub returns-in-List : goal.returns-in-List
returns-in-List g c = record {
  carries = rw c.in-List.is (carries_behind _ _ _ _ _ _ c.settle.ensures.opens _ _ (c.lsdiff.ensures.carries (g.F.Finder.view c.args.finder.now)));
  unread = λ never. c.lsdiff.ensures.unread (file-unless c.in-List.job.input (rw c.in-List.is at never));
  unasked = λ f left told none. refl;
  no_pattern = λ never. refl;
  rest = c.lsdiff.ensures.rest;
}

pub returns-in-Filter : goal.returns-in-Filter
returns-in-Filter g c = record {
  carries = rw c.in-Filter.is (carries_behind _ _ _ _ _ _ c.settle.ensures.opens _ _ (c.filterdiff.ensures.carries (g.F.Finder.view c.args.finder.now)));
  unread = λ never. c.filterdiff.ensures.unread (file-unless c.in-Filter.job.input (rw c.in-Filter.is at never));
  unasked = λ f left told none. refl;
  no_pattern = λ never. refl;
  rest = c.filterdiff.ensures.rest;
}

pub returns-in-Grep : goal.returns-in-Grep
returns-in-Grep g c = record {
  carries = rw c.in-Grep.is (carries_behind _ _ _ _ _ _ c.settle.ensures.opens _ _ c.grepdiff.ensures.carries);
  unread = λ never. c.grepdiff.ensures.unread (file-unless c.in-Grep.job.input (rw c.in-Grep.is at never));
  unasked = λ f left told none. c.grepdiff.ensures.unasked (g.F.Finder.view c.args.finder.now) f left (record { files = λ named. c.settle.ensures.opens.told ∙ (rw c.in-Grep.is at told).files named; source = (rw c.in-Grep.is at told).source }) (rw c.in-Grep.is at none);
  no_pattern = λ never. absurd ((rw c.in-Grep.is at never) tt);
  rest = c.grepdiff.ensures.rest;
}

pub returns-in-Split : goal.returns-in-Split
returns-in-Split g c = record {
  carries = rw c.in-Split.is (carries_behind _ _ _ _ _ _ c.settle.ensures.opens _ _ (c.splitdiff-why.ensures.carries (g.F.Finder.view c.args.finder.now) (g.I.Source.view c.args.source.now)));
  unread = λ never. refl;
  unasked = λ f left told none. refl;
  no_pattern = λ never. refl;
  rest = c.splitdiff-why.ensures.rest;
}

pub returns-in-Recount : goal.returns-in-Recount
returns-in-Recount g c = record {
  carries = rw c.in-Recount.is (carries_behind _ _ _ _ _ _ c.settle.ensures.opens _ _ (c.recountdiff-why.ensures.carries (g.F.Finder.view c.args.finder.now)));
  unread = λ never. c.recountdiff-why.ensures.unread (file-unless c.in-Recount.input (rw c.in-Recount.is at never));
  unasked = λ f left told none. refl;
  no_pattern = λ never. refl;
  rest = c.recountdiff-why.ensures.rest;
}

pub returns-in-Flip : goal.returns-in-Flip
returns-in-Flip g c = record {
  carries = rw c.in-Flip.is (carries_behind _ _ _ _ _ _ c.settle.ensures.opens _ _ (c.reversediff-why.ensures.carries (g.F.Finder.view c.args.finder.now)));
  unread = λ never. c.reversediff-why.ensures.unread (file-unless c.in-Flip.input (rw c.in-Flip.is at never));
  unasked = λ f left told none. refl;
  no_pattern = λ never. refl;
  rest = c.reversediff-why.ensures.rest;
}

pub returns-in_default : goal.returns-in_default
returns-in_default g c = record {
  carries = absurd (no_other c.args.job c.requires.filter c.in_default.not-List c.in_default.not-Filter c.in_default.not-Grep c.in_default.not-Split c.in_default.not-Recount c.in_default.not-Flip);
  unread = λ never. refl;
  unasked = λ f left told none. refl;
  no_pattern = λ never. refl;
  rest = g.met.O.Sink.rest_none c.args.out.now;
}

pub lsdiff-requires : goal.lsdiff-requires
lsdiff-requires g c = record { quiet = c.in-Ok.ensures.quiet }

pub filterdiff-requires : goal.filterdiff-requires
filterdiff-requires g c = record { quiet = c.in-Ok.ensures.quiet }

pub grepdiff-requires : goal.grepdiff-requires
grepdiff-requires g c = record { quiet = c.in-Ok.ensures.quiet }

pub splitdiff-why-requires : goal.splitdiff-why-requires
splitdiff-why-requires g c = record { quiet = c.in-Ok.ensures.quiet }

pub recountdiff-why-requires : goal.recountdiff-why-requires
recountdiff-why-requires g c = record { quiet = c.in-Ok.ensures.quiet }

pub reversediff-why-requires : goal.reversediff-why-requires
reversediff-why-requires g c = record { quiet = c.in-Ok.ensures.quiet }

pub returns-in-Err : goal.returns-in-Err
returns-in-Err g c = record {
  carries = settle_carry (Ok (plain_tool_job c.args.job)) _ _ _ _ _ c.in-Err.why c.settle.ensures.opens c.in-Err.ensures.cause.0 c.in-Err.ensures.cause.1;
  unread = λ never. refl;
  unasked = λ f left told none. refl;
  no_pattern = λ never. refl;
  rest = g.met.O.Sink.rest_none c.args.out.now;
}
