use Rattle.std.proofs.Common.{ℕ, List, ◌++◌, [], ◌∷◌, get_or, length, sym, ◌∙◌, ap, subst}
use Rattle.std.proofs.lemmas.Option.{slice_get-get_or}
use Rattle.line_list.specs.declared.Span.{Span}
use Rattle.split_recount.specs.Parts.{rows_of}
use Rattle.filter_whole_text.proofs.NameLoops.{Stands, stands-first, stands-more, stands-all}
use Rattle.filter_whole_text.proofs.naming.stems_of.Goals as goal

pub loop-index-init : goal.loop-index-init
loop-index-init c =
    let v = c.args.set.now in
    subst (λ (l : List (List ℕ)). Stands c.args.strip (rows_of v) c.args.parts.now (length v.text) 0 0 l) (sym c.new-stems.ensures.items) (stands-first c.args.strip (rows_of v) c.args.parts.now (length v.text) c.requires.turn)

pub loop-index-preserved : goal.loop-index-preserved
loop-index-preserved c =
    let v = c.args.set.now in
    let spans = c.args.parts.now in
    let i = c.loop-index.index in
    let span : Span = get_or spans i (record { start = 0; end = 0 }) in
    stands-more c.args.strip (rows_of v) spans (length v.text) i c.loop-index.patch c.first_from-patch.result c.loop-index.stems.items c.push.new.self.items span c.name_at.result.now
    (slice_get-get_or spans i (record { start = 0; end = 0 }) c.loop-index-test.true)
    c.loop-index.invariant c.first_from-patch.ensures.same c.first_from-patch.ensures.there c.name_at.ensures
    (c.in_ok-push.ensures.items ∙ ap (λ (l : List ℕ). c.loop-index.stems.items ++ l ∷ []) c.in_ok-stem.ensures)

pub returns : goal.returns
returns c =
    let v = c.args.set.now in
    stands-all c.args.strip (rows_of v) c.args.parts.now (length v.text) c.loop-index.index c.loop-index.patch c.loop-index.stems.items c.loop-index-test.false c.loop-index.invariant
