use Rattle.std.proofs.Common.{ℕ, List, [], Bool, cond, get_or, ap, sym, subst, ◌∙◌}
use Rattle.outside.specs.Puts.{Puts}
use Rattle.outside.proofs.SinkSteps.{HasPut, has-none, puts-done}
use Rattle.hunk_core.specs.PlainHunk.{hunk_of}
use Rattle.hunk_core.specs.Turned.{IsLawful}
use Rattle.format_convert.specs.Behind.{shown_text}
use Rattle.format_convert.specs.Converted.{pieces, told}
use Rattle.format_convert.proofs.RowLemmas.{Piece, no-text}
use Rattle.format_convert.proofs.hunks.put_if_kept.Goals as goal

pub returns-then-not-keeps : goal.returns-then-not-keeps
returns-then-not-keeps g c = λ x at. puts-done _ (subst (λ (bs : List ℕ). HasPut g.O.Sink.view g.O.Sink.same_rest c.args.out.now c.args.out.now bs)
    (ap (λ (b : Bool). cond b (told c.args.form x.header.form (get_or (pieces c.args.set.now.text x) c.args.number [], hunk_of c.args.set.now.text c.args.hunk.now)) []) (sym c.if-not-keeps.true ∙ c.keeps.ensures x at))
    (has-none g.met.O.Sink.rest_none c.args.out.now))

pub returns-in-Unified : goal.returns-in-Unified
returns-in-Unified g c = λ x at.
    let h = hunk_of c.args.set.now.text c.args.hunk.now in
    let own : Puts g.O.Sink.view g.O.Sink.same_rest c.args.out.now c.put_shown.new.out c.put_shown.result (shown_text c.args.form c.behind_of-behind.result.now (hunk_of c.text-text.result.now c.args.hunk.now)) = rw c.in-Unified.is c.put_shown.ensures.put in
    subst (λ (bs : List ℕ). Puts g.O.Sink.view g.O.Sink.same_rest c.args.out.now c.put_shown.new.out c.put_shown.result bs)
    (ap (λ (t : List ℕ). shown_text c.args.form c.behind_of-behind.result.now (hunk_of t c.args.hunk.now)) c.text-text.ensures
    ∙ ap (λ (t : List ℕ). shown_text c.args.form t h) (c.behind_of-behind.ensures x at)
    ∙ ap (λ (b : Bool). cond b (told c.args.form x.header.form (get_or (pieces c.args.set.now.text x) c.args.number [], h)) []) (sym c.if-not-keeps.false ∙ c.keeps.ensures x at))
    own

pub returns-in-Context : goal.returns-in-Context
returns-in-Context g c = λ x at.
    let h = hunk_of c.args.set.now.text c.args.hunk.now in
    let own : Puts g.O.Sink.view g.O.Sink.same_rest c.args.out.now c.put_shown-in-Context.new.out c.put_shown-in-Context.result (shown_text c.args.form c.behind_of-behind.result.now (hunk_of c.text-text.result.now c.args.hunk.now)) = rw c.in-Context.is c.put_shown-in-Context.ensures.put in
    subst (λ (bs : List ℕ). Puts g.O.Sink.view g.O.Sink.same_rest c.args.out.now c.put_shown-in-Context.new.out c.put_shown-in-Context.result bs)
    (ap (λ (t : List ℕ). shown_text c.args.form c.behind_of-behind.result.now (hunk_of t c.args.hunk.now)) c.text-text.ensures
    ∙ ap (λ (t : List ℕ). shown_text c.args.form t h) (c.behind_of-behind.ensures x at)
    ∙ ap (λ (b : Bool). cond b (told c.args.form x.header.form (get_or (pieces c.args.set.now.text x) c.args.number [], h)) []) (sym c.if-not-keeps.false ∙ c.keeps.ensures x at))
    own

pub returns-in-Normal : goal.returns-in-Normal
returns-in-Normal g c = λ x at.
    let piece : Piece = (get_or (pieces c.args.set.now.text x) c.args.number [], hunk_of c.args.set.now.text c.args.hunk.now) in
    puts-done _ (subst (λ (bs : List ℕ). HasPut g.O.Sink.view g.O.Sink.same_rest c.args.out.now c.args.out.now bs)
    (sym (no-text c.args.form x.header.form piece c.in-Normal.is)
    ∙ ap (λ (b : Bool). cond b (told c.args.form x.header.form piece) []) (sym c.if-not-keeps.false ∙ c.keeps.ensures x at))
    (has-none g.met.O.Sink.rest_none c.args.out.now))

pub put_shown-requires : goal.put_shown-requires
put_shown-requires g c = subst (λ (t : List ℕ). IsLawful t c.args.hunk.now) (sym c.text-text.ensures) c.requires.lawful

pub put_shown-requires-in-Context : goal.put_shown-requires-in-Context
put_shown-requires-in-Context g c = subst (λ (t : List ℕ). IsLawful t c.args.hunk.now) (sym c.text-text.ensures) c.requires.lawful

pub behind_of-behind-requires-clause-number : goal.behind_of-behind-requires-clause-number
behind_of-behind-requires-clause-number g c = c.requires.number

pub behind_of-behind-requires-clause-within : goal.behind_of-behind-requires-clause-within
behind_of-behind-requires-clause-within g c = c.requires.within

pub keeps-requires-clause-hunk : goal.keeps-requires-clause-hunk
keeps-requires-clause-hunk g c = c.requires.number

pub keeps-requires-clause-patch : goal.keeps-requires-clause-patch
keeps-requires-clause-patch g c = c.requires.within
