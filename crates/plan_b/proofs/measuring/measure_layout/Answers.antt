use Rattle.std.proofs.Common.{◌≡◌, ◌+◌, ◌-◌, ◌≤◌, length, None, sym, ap, subst, ◌∙◌, arith}
use Rattle.line_list.specs.Lines.{lines}
use Rattle.line_store.specs.Taking.{first_long}
use Rattle.page_pair.specs.Records.{longest}
use Rattle.page_pair.proofs.LongLines.{none-long}
use Rattle.page_pair.proofs.Measures.{measured-all}
use Rattle.plan_b.proofs.measuring.measure_layout.Goals as goal

pub returns-in-Ok-clause-lines : goal.returns-in-Ok-clause-lines
returns-in-Ok-clause-lines g c text told =
    let now = c.in-Ok.now in
    let len : length text ≡ c.args.length = c.requires.stated text told in
    let end : now.at ≡ c.args.length = c.in-Ok.ensures.end in
    let short : now.longest ≤ c.args.pair.now.size - 4 = c.in-Ok.ensures.sound.short in
    let page : c.new.result.size ≡ c.args.pair.now.size = c.new.ensures.size ∙ c.size-size.ensures.size in
    let all = measured-all text now.at now.count now.longest (c.in-Ok.ensures.measured text told) (omega arith) in
    let widest : now.longest ≡ longest (lines text) = all.1 in
    record {
      counted = c.new.ensures.count ∙ all.0;
      fits = c.new.ensures.width ∙ ap (λ n. 4 + n) all.1;
      short = subst (λ n. first_long n (lines text) ≡ None) (sym page) (none-long c.args.pair.now.size (lines text) (omega arith));
    }
