use Rattle.std.proofs.Common.{◌≡◌, ◌+◌, ◌-◌, length, take, drop, sym, ap, ◌∙◌, arith, length-drop}
use Rattle.std.specs.Int.{w32, to_le_bytes}
use Rattle.std.specs.Prelude.{replicate}
use Rattle.std.proofs.lemmas.List.{length-take-le}
use Rattle.line_store.specs.declared.Half.TheVariants.{First, Second}
use Rattle.outside.specs.ScratchView.{overwritten}
use Rattle.page_pair.specs.Pair.{page_of}
use Rattle.page_pair.proofs.Records.{record-made}
use Rattle.page_pair.proofs.paging.make_record.Goals as goal

pub returns-clause-made : goal.returns-clause-made
returns-clause-made c =
    let p = c.args.pair.now in
    let first : length (page_of c.args.pair.now First) ≡ c.args.pair.now.size = c.size-size.ensures.pair.first in
    let second : length (page_of c.args.pair.now Second) ≡ c.args.pair.now.size = c.size-size.ensures.pair.second in
    let left : length (drop c.args.from (page_of c.args.pair.now First)) ≡ length (page_of c.args.pair.now First) - c.args.from = length-drop c.args.from (page_of c.args.pair.now First) in
    let len : length (take c.args.count (drop c.args.from (page_of c.args.pair.now First))) ≡ c.args.count = length-take-le c.args.count (drop c.args.from (page_of c.args.pair.now First)) (omega arith) in
    record-made (page_of c.args.pair.now Second) (page_of c.put_number.new.pair Second) (page_of c.copy_across.new.self Second) (page_of c.put_zeros.new.pair Second) (take c.args.count (drop c.args.from (page_of c.args.pair.now First))) c.args.at c.args.width
    (omega arith) (omega arith)
    (c.put_number.ensures.second ∙ ap (λ n. overwritten (page_of c.args.pair.now Second) c.args.at (to_le_bytes w32 n)) (sym len))
    (c.copy_across.ensures.copied ∙ ap (λ l. overwritten (page_of c.put_number.new.pair Second) (c.args.at + 4) (take c.args.count (drop c.args.from l))) c.put_number.ensures.first)
    (c.put_zeros.ensures.second ∙ ap (λ n. overwritten (page_of c.copy_across.new.self Second) (c.args.at + 4 + n) (replicate (c.args.at + c.args.width - (c.args.at + 4 + n)) 0)) (sym len))
