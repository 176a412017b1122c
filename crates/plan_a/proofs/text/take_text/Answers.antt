use Rattle.std.proofs.Common.{rules, ◌≡◌, ◌∙◌, None, sym}
use Rattle.outside.proofs.Views.{untouched_both}
use Rattle.plan_a.proofs.Faults.{text-cause-more, if-ok-same, if-ok-all}
use Rattle.outside.specs.TreeView.{passes_both}
use Rattle.line_store.specs.Taking.{refusal}
use Rattle.plan_a.specs.Taken.{IsFile}
use Rattle.plan_a.proofs.text.take_text.Goals as goal

pub returns-in_err-bytes-clause-untouched : goal.returns-in_err-bytes-clause-untouched
returns-in_err-bytes-clause-untouched g c = untouched_both c.in_ok-length.ensures.untouched c.in_err-bytes.ensures.untouched

pub returns-in_err-bytes-clause-cause : goal.returns-in_err-bytes-clause-cause
returns-in_err-bytes-clause-cause g c =
    let cause = text-cause-more _ c.args.size _ _ _ c.args.name.now c.in_ok-length.ensures.untouched c.in_ok-length.ensures.passes (c.in_err-bytes.ensures.cause c.args.size) in
    search rules

pub returns-clause-untouched : goal.returns-clause-untouched
returns-clause-untouched g c = untouched_both c.in_ok-length.ensures.untouched c.in_ok-bytes.ensures.untouched

pub returns-clause-passes : goal.returns-clause-passes
returns-clause-passes g c = passes_both c.in_ok-length.ensures.passes c.in_ok-bytes.ensures.passes

pub returns-in_err-bytes-clause-passes : goal.returns-in_err-bytes-clause-passes
returns-in_err-bytes-clause-passes g c = passes_both c.in_ok-length.ensures.passes c.in_err-bytes.ensures.passes

pub read_bytes-requires-clause-stated : goal.read_bytes-requires-clause-stated
read_bytes-requires-clause-stated g c = λ f told. c.in_ok-length.ensures.size f (sym c.in_ok-length.ensures.untouched.told ∙ told)

pub returns-clause-admitted : goal.returns-clause-admitted
returns-clause-admitted g c = if-ok-same c.cut_text.result (λ text. text.bytes.items) c.in_ok-bytes.bytes.items (λ b. refusal c.args.size b ≡ None) c.cut_text.ensures.bytes c.cut_text.ensures.admitted

pub returns-clause-bytes : goal.returns-clause-bytes
returns-clause-bytes g c = if-ok-same c.cut_text.result (λ text. text.bytes.items) c.in_ok-bytes.bytes.items (IsFile (g.T.Tree.view c.args.tree.now) c.args.name.now) c.cut_text.ensures.bytes
    (if-ok-all c.cut_text.result (λ f told. c.in_ok-bytes.ensures.bytes f (c.in_ok-length.ensures.untouched.told ∙ told)))
