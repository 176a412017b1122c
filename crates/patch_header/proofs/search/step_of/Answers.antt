use Rattle.std.proofs.Common.{◌≡◌, ◌+◌, ◌<◌, ◌≤◌, ◌∙◌, Some, true, false, length, drop, sym, ap}
use Rattle.std.proofs.lemmas.Bool.{false≢true}
use Rattle.line_list.specs.Lines.{lines}
use Rattle.patch_header.specs.GitRows.{git_lines_in, led_by, led_directly, seen_by}
use Rattle.patch_header.specs.Kept.{opening_said}
use Rattle.patch_header.specs.Openings.{admits, begins, opens, stops_bare, stop_at}
use Rattle.patch_header.specs.Region.{rows}
use Rattle.patch_header.specs.Steps.{header_with, bare_with, seen_for}
use Rattle.patch_header.specs.declared.openings.Stop.TheVariants.{Opening, Bare}
use Rattle.patch_header.proofs.BareLemmas.{opening-is}
use Rattle.patch_header.proofs.GitLemmas.{led-is, no-led, directly-is}
use Rattle.patch_header.proofs.Stands.{and_left, and_right, stop-opens, bare-words, stops-begins}
use Rattle.patch_header.proofs.StepLemmas.{bare-begins}
use Rattle.patch_header.proofs.Rows.{stands-within}
use Rattle.patch_header.specs.Content.{has_dot}
use Rattle.patch_header.proofs.search.step_of.Goals as goal

pub returns-in-Opening-clause-comes : goal.returns-in-Opening-clause-comes
returns-in-Opening-clause-comes c = λ at line h s.
    let text = c.args.text.now in
    let here = c.args.here in
    let form = c.in-Opening.form in
    let rs = rows line at h.region in
    let led = led_by c.args.ways form rs in
    let seen = seen_for c.args.ways form text rs in
    let said : c.led_by-led.result ≡ git_lines_in led = c.led_by-led.ensures.is ∙ led-is c.args.ways form here.trail rs h.trail in
    let direct : c.leads_directly.result ≡ led_directly c.args.ways form rs = c.leads_directly.ensures ∙ directly-is c.args.ways form here.trail rs h.trail in
    let counts : c.seen_by-seen.result ≡ seen = c.seen_by-seen.ensures.is ∙ ap (λ d. seen_by text d here.seen) direct ∙ ap (seen_by text (led_directly c.args.ways form rs)) h.seen in
    let says : c.header_of.result ≡ header_with text form here.at here.number seen led
    = c.header_of.ensures.says ∙ ap (λ s. opening_said text form here.at here.number s c.led_by-led.result) counts ∙ ap (opening_said text form here.at here.number seen) said ∙ opening-is text form here.at here.number seen led in
    record {
      region = h.region;
      place = here.at;
      stop = Opening form;
      is_region = h.is_region;
      stands = s ∙ ap Some c.in-Opening.is;
      says = ap Some (sym (says ∙ ap (λ n. header_with text form here.at n seen led) h.number));
    }

pub returns-in-Opening-clause-lies : goal.returns-in-Opening-clause-lies
returns-in-Opening-clause-lies c = λ at line h s.
    let ways = c.args.ways in
    let text = c.args.text.now in
    let here = c.args.here in
    let place : c.header_of.result.at ≡ here.at = c.header_of.ensures.at in
    let number : c.header_of.result.opening ≡ here.number = c.header_of.ensures.opening in
    let stands : stop_at ways (lines (drop here.at text)) ≡ Some (Opening c.in-Opening.form) = s ∙ ap Some c.in-Opening.is in
    let low : at ≤ here.at = h.low in
    let count : here.number + at ≤ line + here.at = h.count in
    let high : here.at < length text = stands-within ways text here.at (Opening c.in-Opening.form) c.requires.lawful.within stands in
    let shown : opens ways.only c.in-Opening.form (lines (drop here.at text)) ≡ true = stop-opens ways c.in-Opening.form (lines (drop here.at text)) stands in
    let form : c.header_of.result.form ≡ c.in-Opening.form = c.header_of.ensures.form in
    let bare : c.header_of.result.bare ≡ false = c.header_of.ensures.bare in
    record {
      low = rw place low;
      high = rw place high;
      numbers = rw (number, place) count;
      opening = λ e. record {
        admitted = ap (admits ways.only) form ∙ and_left (admits ways.only c.in-Opening.form) _ shown;
        begins = ap (λ f. begins ways.only f (lines (drop c.header_of.result.at text))) form ∙ ap (λ p. begins ways.only c.in-Opening.form (lines (drop p text))) place ∙ and_right (admits ways.only c.in-Opening.form) _ shown;
      };
      git = λ e. absurd (false≢true (sym bare ∙ e));
      plain = λ e. c.header_of.ensures.plain (c.led_by-led.ensures.is ∙ no-led ways c.in-Opening.form here.trail e);
      pieces = c.header_of.ensures.pieces;
    }

pub returns-in-Bare-clause-comes : goal.returns-in-Bare-clause-comes
returns-in-Bare-clause-comes c = λ at line h s.
    let text = c.args.text.now in
    let here = c.args.here in
    let rs = rows line at h.region in
    record {
      region = h.region;
      place = here.at;
      stop = Bare;
      is_region = h.is_region;
      stands = s ∙ ap Some c.in-Bare.is;
      says = ap Some (sym (c.bare_of.ensures.says rs h.seen ∙ ap (λ n. bare_with text here.at n rs) h.number));
    }

pub returns-in-Bare-clause-lies : goal.returns-in-Bare-clause-lies
returns-in-Bare-clause-lies c = λ at line h s.
    let ways = c.args.ways in
    let text = c.args.text.now in
    let here = c.args.here in
    let place : c.bare_of.result.at ≡ here.at = c.bare_of.ensures.at in
    let number : c.bare_of.result.opening ≡ here.number = c.bare_of.ensures.opening in
    let stands : stop_at ways (lines (drop here.at text)) ≡ Some Bare = s ∙ ap Some c.in-Bare.is in
    let low : at ≤ here.at = h.low in
    let count : here.number + at ≤ line + here.at = h.count in
    let high : here.at < length text = stands-within ways text here.at Bare c.requires.lawful.within stands in
    let shown : stops_bare ways (lines (drop here.at text)) ≡ true = (bare-words ways (lines (drop here.at text))).0 stands in
    let git : ways.git ≡ true = and_left ways.git _ shown in
    let bare : c.bare_of.result.bare ≡ true = c.bare_of.ensures.bare in
    record {
      low = rw place low;
      high = rw place high;
      numbers = rw (number, place) count;
      opening = λ e. absurd (false≢true (sym e ∙ bare));
      git = λ e. record { git = git; form = c.bare_of.ensures.form; begins = bare-begins text here.at c.bare_of.result.at place (stops-begins ways (lines (drop here.at text)) shown) };
      plain = λ e. absurd (false≢true (sym e ∙ git));
      pieces = c.bare_of.ensures.pieces;
    }

pub returns-in-Binary-clause-comes : goal.returns-in-Binary-clause-comes
returns-in-Binary-clause-comes c = λ at line h s. record { region = h.region; place = c.args.here.at; is_region = h.is_region; stands = s ∙ ap Some c.in-Binary.is; counted = h.number }

pub header_of-requires-clause-led : goal.header_of-requires-clause-led
header_of-requires-clause-led c = c.led_by-led.ensures.lies c.args.text.now c.requires.lawful.trails

pub returns-in-Opening-clause-dots : goal.returns-in-Opening-clause-dots
returns-in-Opening-clause-dots c = λ e. ap (λ p. has_dot (lines (drop p c.args.text.now))) c.header_of.ensures.at ∙ e

pub returns-in-Bare-clause-dots : goal.returns-in-Bare-clause-dots
returns-in-Bare-clause-dots c = λ e. ap (λ p. has_dot (lines (drop p c.args.text.now))) c.bare_of.ensures.at ∙ e

pub returns-in-Binary-clause-lies : goal.returns-in-Binary-clause-lies
returns-in-Binary-clause-lies c = λ at line h s. tt

pub returns-in-Binary-clause-dots : goal.returns-in-Binary-clause-dots
returns-in-Binary-clause-dots c = λ e. tt

pub header_of-requires-clause-short : goal.header_of-requires-clause-short
header_of-requires-clause-short c = c.requires.short

pub header_of-requires-clause-lies : goal.header_of-requires-clause-lies
header_of-requires-clause-lies c = c.seen_by-seen.ensures.lies

pub seen_by-seen-requires : goal.seen_by-seen-requires
seen_by-seen-requires c = c.requires.lawful.lies

pub bare_of-requires-clause-short : goal.bare_of-requires-clause-short
bare_of-requires-clause-short c = c.requires.short

pub bare_of-requires-clause-lies : goal.bare_of-requires-clause-lies
bare_of-requires-clause-lies c = c.requires.lawful.lies

pub bare_of-requires-clause-small : goal.bare_of-requires-clause-small
bare_of-requires-clause-small c = c.requires.lawful.small

pub bare_of-requires-clause-line : goal.bare_of-requires-clause-line
bare_of-requires-clause-line c = c.requires.line
