use Rattle.std.proofs.Common.{◌≡◌, ◌+◌, ◌-◌, ◌≤◌, ◌<◌, length, min, sym, ap, subst, ◌∙◌, arith}
use Rattle.line_list.specs.Lines.{lines}
use Rattle.line_store.specs.Taking.{IsSize}
use Rattle.page_pair.specs.Records.{longest}
use Rattle.page_pair.specs.Room.{no_room, room_from, page_count}
use Rattle.page_pair.proofs.Measures.{measured-all}
use Rattle.page_pair.proofs.Rooms.{room-all}
use Rattle.packed_pages.proofs.taking.measure_layout.Goals as goal

pub returns-in-Ok-clause-lines : goal.returns-in-Ok-clause-lines
returns-in-Ok-clause-lines g c text told =
    let now = c.in-Ok.now in
    let len : length text ≡ c.args.length = c.requires.stated text told in
    let end : c.in-Ok.now.at ≡ c.args.length = c.in-Ok.ensures.end in
    let short : c.in-Ok.now.longest ≤ c.args.pair.now.size - 4 = c.in-Ok.ensures.sound.short in
    let size : c.size-size.result ≡ c.args.pair.now.size = c.size-size.ensures.size in
    let sized : 512 ≤ c.args.pair.now.size = c.size-size.ensures.pair.sized.0 in
    let all = measured-all text c.in-Ok.now.at c.in-Ok.now.count c.in-Ok.now.longest (c.in-Ok.ensures.measured text told) (omega arith) in
    let widest : c.in-Ok.now.longest ≡ longest (lines text) = all.1 in
    record {
      counted = all.0;
      pages = c.page_count.ensures ∙ ap page_count (sym (room-all c.args.pair.now.size text c.in-Ok.now.at c.in-Ok.now.room (c.in-Ok.ensures.room text told) (omega arith))) ∙ ap (λ n. page_count (room_from n no_room (lines text))) (sym size);
      short = omega arith;
    }

pub returns-in-Ok-clause-layout : goal.returns-in-Ok-clause-layout
returns-in-Ok-clause-layout g c =
    let now = c.in-Ok.now in
    let sound = c.in-Ok.ensures.sound in
    let pages : c.page_count.result ≡ c.in-Ok.now.room.pages + min 1 c.in-Ok.now.room.filled = c.page_count.ensures in
    let paged : c.in-Ok.now.room.pages + min 1 c.in-Ok.now.room.filled ≤ c.in-Ok.now.count = sound.paged in
    let counted : c.in-Ok.now.count ≤ c.in-Ok.now.at = sound.counted in
    let end : c.in-Ok.now.at ≡ c.args.length = c.in-Ok.ensures.end in
    let size : c.size-size.result ≡ c.args.pair.now.size = c.size-size.ensures.size in
    record {
      sized = subst IsSize (sym size) c.size-size.ensures.pair.sized;
      few = omega arith;
      pages = omega arith;
      some = λ lt. (let begun : 0 < c.in-Ok.now.room.filled = sound.begun lt in omega arith);
    }

pub measure-requires-clause-stated : goal.measure-requires-clause-stated
measure-requires-clause-stated g c = c.requires.stated
