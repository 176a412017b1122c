use Rattle.std.proofs.Common.{subst}
use Rattle.memchr.specs.Find.{is_byte, TakesFirst}
use Rattle.line_list.proofs.FirstFeed.{first-byte}
use Rattle.line_list.proofs.first_feed.Goals as goal

pub returns : goal.returns
returns c = first-byte (is_byte 10) c.args.text.now c.next.result c.next.new.self
    (subst (λ l. TakesFirst l c.next.result c.next.new.self) c.memchr_iter.ensures.value c.next.ensures.steps)
