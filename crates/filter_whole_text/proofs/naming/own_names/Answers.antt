use Rattle.std.proofs.Common.{ℕ, List, ◌++◌, [], ◌∷◌, length, refl, sym, ◌∙◌, ap, subst}
use Rattle.std.proofs.lemmas.Option.{slice_get_read}
use Rattle.split_recount.proofs.Cutting.{no-names}
use Rattle.cli_tool_words.specs.PlainJobs.{plain_split_job}
use Rattle.filter_whole_text.proofs.NameLoops.{Named, named-first, named-more, named-all}
use Rattle.filter_whole_text.proofs.naming.own_names.Goals as goal

pub loop-index-init : goal.loop-index-init
loop-index-init c =
    let j = plain_split_job c.args.job.now in
    let set = c.new-earlier.result in
    subst (λ (l : List (List ℕ)). Named j c.args.stems.now 0 set l) (sym c.new-all.ensures.items) (named-first j c.args.stems.now set (no-names set c.new-earlier.ensures.empty))

pub loop-index-preserved : goal.loop-index-preserved
loop-index-preserved c =
    let stems = c.args.stems.now in
    let i = c.loop-index.index in
    let stem = c.index-stems-index.result in
    named-more (plain_split_job c.args.job.now) stems i c.loop-index.earlier c.note.new.earlier c.loop-index.all.items c.push.new.self.items stem c.needs_mark-marked.result
    (slice_get_read stems (length stems) i stem refl c.loop-index-test.true c.index-stems-index.is)
    c.loop-index.invariant
    c.needs_mark-marked.ensures
    c.in_ok-note.ensures
    (c.in_ok-push.ensures.items ∙ ap (λ (l : List ℕ). c.loop-index.all.items ++ l ∷ []) c.in_ok-name.ensures)

pub returns : goal.returns
returns c = named-all (plain_split_job c.args.job.now) c.args.stems.now c.loop-index.index c.loop-index.earlier c.loop-index.all.items c.loop-index-test.false c.loop-index.invariant
