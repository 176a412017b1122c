use Rattle.std.proofs.Common.{◌≡◌, ◌+◌, ◌<◌, ◌≤◌, [], ◌∷◌, ◌++◌, ◌∙◌, length, slice_range, sym, ap, arith, length-append}
use Rattle.std.specs.Prelude.{sum_by}
use Rattle.patch_header.specs.Region.{row, rows, seen_in}
use Rattle.patch_header.specs.Said.{trail_said, trail_in}
use Rattle.patch_header.proofs.GitLemmas.{trail-push}
use Rattle.patch_header.proofs.Rows.{rows-push, region-push}
use Rattle.patch_header.proofs.search.advance.Goals as goal

pub returns-clause-passed : goal.returns-clause-passed
returns-clause-passed c = λ ways at line git h none.
    let here = c.args.here in
    let one = slice_range c.args.text.now here.at c.args.end in
    let number : here.number ≡ line + length h.region = h.number in
    let place : here.at ≡ at + sum_by length h.region = h.is_region.ends in
    let this : row here.number here.at one ≡ row (line + length h.region) (at + sum_by length h.region) one = ap (λ n. row n here.at one) number ∙ ap (λ p. row (line + length h.region) p one) place in
    let low : at ≤ here.at = h.low in
    let count : here.number + at ≤ line + here.at = h.count in
    let far : here.at < c.args.end = c.requires.line.low in
    let longer : length (h.region ++ one ∷ []) ≡ length h.region + 1 = length-append h.region (one ∷ []) in
    record {
      region = h.region ++ one ∷ [];
      is_region = region-push ways c.args.text.now at h.region here.at c.args.end h.is_region c.requires.line none;
      number = omega (arith, number, longer);
      seen = c.passed.ensures.is (rows line at h.region) h.seen ∙ ap seen_in (ap (λ r. rows line at h.region ++ r ∷ []) this ∙ sym (rows-push line at h.region one));
      trail = λ e. c.trail_behind.ensures.is (sym git ∙ e)
          ∙ ap (λ t. trail_said t (row here.number here.at one)) (h.trail e)
          ∙ sym (trail-push (rows line at h.region) (row here.number here.at one))
          ∙ ap trail_in (ap (λ r. rows line at h.region ++ r ∷ []) this ∙ sym (rows-push line at h.region one));
      low = omega (arith, low, far);
      count = omega (arith, count, far);
    }

pub returns-clause-lawful : goal.returns-clause-lawful
returns-clause-lawful c = record {
  within = c.requires.line.high;
  small = omega (arith, c.requires.line.low, c.requires.lawful.small);
  lies = c.passed.ensures.lies;
  trails = c.trail_behind.ensures.lies;
}

pub trail_behind-requires-clause-lies : goal.trail_behind-requires-clause-lies
trail_behind-requires-clause-lies c = c.requires.lawful.trails

pub trail_behind-requires-clause-line : goal.trail_behind-requires-clause-line
trail_behind-requires-clause-line c = c.requires.line

pub passed-requires-clause-lies : goal.passed-requires-clause-lies
passed-requires-clause-lies c = c.requires.lawful.lies

pub passed-requires-clause-line : goal.passed-requires-clause-line
passed-requires-clause-line c = c.requires.line
