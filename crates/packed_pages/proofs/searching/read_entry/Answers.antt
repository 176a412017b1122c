use Rattle.std.proofs.Common.{◌≤◌, length, sym, ap, ◌∙◌, take, drop, ◌*◌}
use Rattle.page_pair.proofs.Windows.{none-unless, came-whole}
use Rattle.packed_pages.proofs.Spans.{entry-states, entry-there}
use Rattle.packed_pages.proofs.searching.read_entry.Goals as goal

pub returns-in-Ok-eq8-clause-entry : goal.returns-in-Ok-eq8-clause-entry
returns-in-Ok-eq8-clause-entry g c b told =
    entry-states c.args.layout b c.args.page c.read_at.new.buf c.requires.there
    (ap (λ n. take n c.read_at.new.buf) (sym c.in-Ok-eq8.field-0-test) ∙ c.in-Ok-eq8.ensures.bytes b told)
    c.read_at.auto.buf
    ∙ sym c.from_le_bytes.ensures

pub returns-in-Ok-clause-cause : goal.returns-in-Ok-clause-cause
returns-in-Ok-clause-cause g c = (
  λ e. c.in-Ok.got-test.1 (sym e),
  none-unless _ (λ b told.
      let there : 8 ≤ length (drop (c.args.page * 8) b) = entry-there c.args.layout b c.args.page (c.requires.packs b told) c.requires.there in
      c.in-Ok.got-test.1 (came-whole c.in-Ok.got 8 c.read_at.new.buf (drop (c.args.page * 8) b) (c.in-Ok.ensures.bytes b told) there c.in-Ok.ensures.count)),
)
