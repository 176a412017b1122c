use Rattle.std.proofs.Common.{ℕ, List, sym, subst}
use Rattle.line_list.specs.Lines.{lines}
use Rattle.hunk_core.specs.Reading.{Gives}
use Rattle.split_recount.specs.Recounted.{recounted_lines}
use Rattle.split_recount.proofs.Bounds.{small-short, longer-short}
use Rattle.split_recount.proofs.WholeText.{complete-already, complete-by}
use Rattle.split_recount.proofs.recounting.recount_text.Goals as goal

pub rewrite-requires : goal.rewrite-requires
rewrite-requires c = small-short _ c.requires

pub with_feed-requires : goal.with_feed-requires
with_feed-requires c = small-short _ c.requires

pub rewrite-requires-2 : goal.rewrite-requires-2
rewrite-requires-2 c = longer-short c.args.text.now c.in_ok-whole.whole.items c.deref.result.now c.deref.ensures.value c.in_ok-whole.ensures c.requires

pub returns-then-not-lacks_last_feed : goal.returns-then-not-lacks_last_feed
returns-then-not-lacks_last_feed c =
    subst (λ (l : List ℕ). Gives (λ v. v.items) c.rewrite.result (recounted_lines (lines l))) (sym (complete-already c.args.text.now c.if-not-lacks_last_feed.ensures)) c.rewrite.ensures

pub returns : goal.returns
returns c =
    subst (λ (l : List ℕ). Gives (λ v. v.items) c.rewrite-2.result (recounted_lines (lines l)))
    (sym (complete-by c.args.text.now c.in_ok-whole.whole.items c.deref.result.now c.if-not-lacks_last_feed.ensures c.deref.ensures.value c.in_ok-whole.ensures)) c.rewrite-2.ensures
