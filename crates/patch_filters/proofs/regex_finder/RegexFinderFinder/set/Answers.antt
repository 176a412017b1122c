use Rattle.std.proofs.Common.{refl, Some, Err, ap, None}
use Rattle.patch_filters.proofs.Refusals.{taken, failed-set, handed-on}
use Rattle.patch_filters.specs.RegexView.{regex_view}
use Rattle.patch_filters.proofs.regex_finder.RegexFinderFinder.set.Goals as goal

pub returns-in-Ok : goal.returns-in-Ok
returns-in-Ok c = record {
  passes = record { takes = refl; hit = refl };
  set = ap (λ p. Some p) c.in-Ok.ensures.source;
  refused = λ is. taken _ _ is;
}

pub returns-in-Err : goal.returns-in-Err
returns-in-Err c = record {
  passes = record { takes = refl; hit = refl };
  set = failed-set (regex_view c.args.self.now) (regex_view (record { kept = None })) c.args.pattern.now (Err c.in-Err.fault) refl refl refl;
  refused = handed-on (Err c.in-Err.fault) c.in-Err.fault refl c.in-Err.ensures.refused;
}
