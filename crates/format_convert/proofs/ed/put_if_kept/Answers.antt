use Rattle.std.proofs.Common.{◌≡◌, ◌+◌, ◌++◌, ℕ, List, [], false, drop, get_or, sym, ap, subst, ◌∙◌}
use Rattle.std.proofs.lemmas.Result.{IfOk-weaker}
use Rattle.hunk_core.specs.declared.Hunk.{Hunk}
use Rattle.hunk_core.specs.PlainHunk.{body_of, hunk_of}
use Rattle.hunk_core.specs.Turned.{base}
use Rattle.outside.specs.Puts.{Puts}
use Rattle.outside.proofs.SinkSteps.{HasPut, has-none, puts-done}
use Rattle.format_convert.specs.Backward.{StandsBehind, grown}
use Rattle.format_convert.specs.Blocks.{Edit, body_edits}
use Rattle.format_convert.specs.Walk.{edits_of, kept_flags, pair_left, pairs}
use Rattle.format_convert.proofs.EdLemmas.{grown-none}
use Rattle.format_convert.proofs.Steps.{if-kept, if-not, is-there, pair-is, whole-is}
use Rattle.format_convert.proofs.Bounds.{offset-fits}
use Rattle.format_convert.proofs.ed.put_if_kept.Goals as goal

pub returns-then-not-is_kept-clause-put : goal.returns-then-not-is_kept-clause-put
returns-then-not-is_kept-clause-put g c =
    let k = c.args.kept in
    let text = c.args.kept.set.now.text in
    let left = edits_of text (drop (c.args.hunk + 1) (pairs k)) in
    let h = is-there k.hunks.now c.args.hunk c.requires.within in
    let none : pair_left c.args.kept c.args.hunk ≡ [] = pair-is k c.requires.kept c.args.hunk h.0 c.requires.within h.1 ∙ if-not text (get_or (kept_flags k) c.args.hunk false) h.0 (sym c.is_kept.ensures ∙ c.if-not-is_kept.true) in
    puts-done _ (subst (λ (bs : List ℕ). HasPut g.O.Sink.view g.O.Sink.same_rest c.args.out.now c.args.out.now bs) (sym (ap (λ es. grown es left) none ∙ grown-none left)) (has-none g.met.O.Sink.rest_none c.args.out.now))

pub returns-then-not-is_kept-clause-place : goal.returns-then-not-is_kept-clause-place
returns-then-not-is_kept-clause-place g c =
    let k = c.args.kept in
    let text = c.args.kept.set.now.text in
    let left = edits_of text (drop (c.args.hunk + 1) (pairs k)) in
    let h = is-there k.hunks.now c.args.hunk c.requires.within in
    let none : pair_left c.args.kept c.args.hunk ≡ [] = pair-is k c.requires.kept c.args.hunk h.0 c.requires.within h.1 ∙ if-not text (get_or (kept_flags k) c.args.hunk false) h.0 (sym c.is_kept.ensures ∙ c.if-not-is_kept.true) in
    c.requires.front ∙ sym (whole-is k c.requires.kept c.args.hunk h.0 c.requires.within h.1 ∙ ap (λ (es : List Edit). es ++ left) none)

pub returns-clause-put : goal.returns-clause-put
returns-clause-put g c =
    let k = c.args.kept in
    let text = c.args.kept.set.now.text in
    let h = c.index-kept-hunk.result in
    let left = edits_of text (drop (c.args.hunk + 1) (pairs k)) in
    let same : pair_left c.args.kept c.args.hunk ≡ body_edits (base (hunk_of c.args.kept.set.now.text c.index-kept-hunk.result)) (body_of c.args.kept.set.now.text c.index-kept-hunk.result.body.items) =
    pair-is k c.requires.kept c.args.hunk h c.requires.within c.index-kept-hunk.is ∙ if-kept text (get_or (kept_flags k) c.args.hunk false) h (sym c.is_kept.ensures ∙ c.if-not-is_kept.false) in
    subst (λ (es : List Edit). Puts g.O.Sink.view g.O.Sink.same_rest c.args.out.now c.put_body.new.out c.put_body.result (grown es left)) (sym (same ∙ ap (λ (x : Hunk). body_edits (base (hunk_of text x)) (body_of text x.body.items)) c.index-kept-hunk.is)) c.put_body.ensures.put

pub returns-clause-place : goal.returns-clause-place
returns-clause-place g c =
    let k = c.args.kept in
    let text = c.args.kept.set.now.text in
    let h = c.index-kept-hunk.result in
    let left = edits_of text (drop (c.args.hunk + 1) (pairs k)) in
    let same : pair_left c.args.kept c.args.hunk ≡ body_edits (base (hunk_of c.args.kept.set.now.text c.index-kept-hunk.result)) (body_of c.args.kept.set.now.text c.index-kept-hunk.result.body.items) =
    pair-is k c.requires.kept c.args.hunk h c.requires.within c.index-kept-hunk.is ∙ if-kept text (get_or (kept_flags k) c.args.hunk false) h (sym c.is_kept.ensures ∙ c.if-not-is_kept.false) in
    IfOk-weaker c.put_body.result _ (StandsBehind k c.args.hunk)
    (λ p at. at ∙ ap (λ (es : List Edit). es ++ left) (sym (same ∙ ap (λ (x : Hunk). body_edits (base (hunk_of text x)) (body_of text x.body.items)) c.index-kept-hunk.is)) ∙ sym (whole-is k c.requires.kept c.args.hunk h c.requires.within c.index-kept-hunk.is))
    c.put_body.ensures.place

pub put_body-requires-clause-within : goal.put_body-requires-clause-within
put_body-requires-clause-within g c = c.requires.within

pub bounds-kept-hunk : goal.bounds-kept-hunk
bounds-kept-hunk g c = c.requires.within

pub offset_bounds-kept-hunk : goal.offset_bounds-kept-hunk
offset_bounds-kept-hunk g c = offset-fits c.args.hunk _ c.requires.within c.requires.kept.lawful.count

pub is_kept-requires-clause-within : goal.is_kept-requires-clause-within
is_kept-requires-clause-within g c = c.requires.within

pub put_body-requires-clause-front : goal.put_body-requires-clause-front
put_body-requires-clause-front g c = c.requires.front

pub put_body-requires-clause-kept : goal.put_body-requires-clause-kept
put_body-requires-clause-kept g c = c.requires.kept

pub put_body-requires-clause-own : goal.put_body-requires-clause-own
put_body-requires-clause-own g c = ap (λ (h : Hunk). get_or c.args.kept.hunks.now c.args.hunk h) c.index-kept-hunk.is
