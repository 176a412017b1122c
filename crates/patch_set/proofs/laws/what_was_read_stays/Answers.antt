use Rattle.patch_set.proofs.laws.what_was_read_stays.Goals as goal

pub returns-clause-rows : goal.returns-clause-rows
returns-clause-rows c = λ o given v patch row is. record {
  text = is.text;
  ways = is.ways;
  patches = is.patches;
  regions = is.regions;
  spans = is.spans;
  skipped = is.skipped;
  names = record {
    targets = is.names.targets;
    output = is.names.output;
    few = is.names.few;
    fit = is.names.fit;
    output_fit = is.names.output_fit;
  };
}

pub returns-clause-verdicts : goal.returns-clause-verdicts
returns-clause-verdicts c = λ o given v verdicts is. record {
  text = is.text;
  ways = is.ways;
  patches = is.patches;
  regions = is.regions;
  spans = is.spans;
  skipped = is.skipped;
  names = record {
    targets = is.names.targets;
    output = is.names.output;
    few = is.names.few;
    fit = is.names.fit;
    output_fit = is.names.output_fit;
  };
}

pub returns-clause-marks : goal.returns-clause-marks
returns-clause-marks c = λ o given v is. record {
  text = is.text;
  ways = is.ways;
  patches = is.patches;
  regions = is.regions;
  spans = is.spans;
  skipped = is.skipped;
  names = record {
    targets = is.names.targets;
    output = is.names.output;
    few = is.names.few;
    fit = is.names.fit;
    output_fit = is.names.output_fit;
  };
}
