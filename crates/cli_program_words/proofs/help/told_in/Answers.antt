use Rattle.std.proofs.Common.{◌∙◌, ap, bytes_eq, codes, string_bytes, sym}
use Rattle.cli_program_words.proofs.Asking.{ended, found, goes_on, none_asks}
use Rattle.cli_program_words.proofs.help.told_in.Goals as goal

pub loop-word-preserved : goal.loop-word-preserved
loop-word-preserved c =
    let is = c.as_str.ensures.value ∙ ap string_bytes c.word-item.is in
    let same = c.as_str-in-loop-word.ensures.value ∙ sym c.as_str.ensures.value in
    goes_on string_bytes c.args.tool.now c.args.words.now c.loop-word.word-index c.loop-word.invariant c.word-item.result c.as_str.result.now c.loop-word-test.true is c.in_default.ensures (c.if-eq.ensures ∙ ap (λ t. bytes_eq t (codes "--")) same)

pub returns-in-Some : goal.returns-in-Some
returns-in-Some c =
    let is = c.as_str.ensures.value ∙ ap string_bytes c.word-item.is in
    found string_bytes c.args.tool.now c.args.words.now c.loop-word.word-index c.loop-word.invariant c.word-item.result c.as_str.result.now c.loop-word-test.true is c.in-Some.ensures

pub returns-then-eq : goal.returns-then-eq
returns-then-eq c =
    let is = c.as_str.ensures.value ∙ ap string_bytes c.word-item.is in
    let same = c.as_str-in-loop-word.ensures.value ∙ sym c.as_str.ensures.value in
    ended string_bytes c.args.tool.now c.args.words.now c.loop-word.word-index c.loop-word.invariant c.word-item.result c.as_str.result.now c.loop-word-test.true is c.in_default.ensures (c.if-eq.ensures ∙ ap (λ t. bytes_eq t (codes "--")) same)

pub returns : goal.returns
returns c = none_asks string_bytes c.args.tool.now c.args.words.now c.loop-word.word-index c.loop-word.invariant c.loop-word-test.false
