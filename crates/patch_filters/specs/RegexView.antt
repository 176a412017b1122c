-- What a finder of regular expressions tells. It promises to take no pattern, since no compiled pattern is promised to be small enough.
use Rattle.std.specs.Prelude.{false, option_map}
use Rattle.outside.specs.FinderView.{FinderView}
use Rattle.patch_filters.specs.RegexFound.{regex_hit}
use Rattle.patch_filters.specs.declared.regex_finder.RegexFinder.{RegexFinder}

abbrev pub regex_view : RegexFinder → FinderView
regex_view f = record { kept = option_map (λ k. k.source.now) f.kept; takes = λ pattern. false; hit = regex_hit }
