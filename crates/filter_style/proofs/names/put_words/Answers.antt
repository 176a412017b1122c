use Rattle.std.proofs.Common.{◌++◌, ◌∷◌, [], arith, length, rules, tests}
use Rattle.std.specs.List.{slice_split}
use Rattle.std.proofs.lemmas.Iterator.Consumers.{YieldsList-turn, YieldsList-end}
use Rattle.std.proofs.lemmas.Iterator.Splits.{YieldsList-from_slice_split}
use Rattle.std.proofs.lemmas.List.{length_push}
use Rattle.cli_tool_words.specs.PlainJobs.{plain_style}
use Rattle.filter_style.specs.Names.{is_blank}
use Rattle.filter_style.proofs.Words.{words-more, words-all}
use Rattle.filter_style.proofs.names.put_words.Goals as goal

pub loop-word-preserved : goal.loop-word-preserved
loop-word-preserved c =
    let text = c.args.text.now in
    let t = YieldsList-turn (YieldsList-from_slice_split _ is_blank text (cc) (cc) (cc) (λ x r q k. search (rules, tests))) c.loop-word.yielded _ c.loop-word.yielded_by _ _ c.in-Some.word c.in-Some.is c.next.ensures.steps in
    words-more (plain_style c.args.style.now) (slice_split is_blank text) (length c.loop-word.yielded) (length (c.loop-word.yielded ++ c.in-Some.word ∷ [])) c.in-Some.word.now c.loop-word.out.items c.put_word.new.out.items _
    c.loop-word.turn c.turn_behind-turn.result t.0 t.1 c.loop-word.invariant c.in_ok-put_word.ensures c.turn_behind-turn.ensures (length_push c.loop-word.yielded c.in-Some.word)

pub returns : goal.returns
returns c =
    let text = c.args.text.now in
    let t = YieldsList-end (YieldsList-from_slice_split _ is_blank text (cc) (cc) (cc) (λ x r q k. search (rules, tests))) c.loop-word.yielded _ c.loop-word.yielded_by _ _ c.in-None.is c.next.ensures.steps in
    words-all (plain_style c.args.style.now) (slice_split is_blank text) (length c.loop-word.yielded) c.loop-word.out.items _ c.loop-word.turn (omega (arith, t.1)) c.loop-word.invariant
