use Rattle.std.proofs.Common.{◌≡◌, map}
use Rattle.std.specs.Prelude.{filter}
use Rattle.line_list.specs.Lines.{lines}
use Rattle.line_list.specs.Completed.{completed, IsComplete}
use Rattle.unified_form.specs.Ranges.{is_opening}
use Rattle.split_recount.specs.TrueCounts.{is_other, AreTrue}
use Rattle.split_recount.proofs.Kept.{recounted-true}
use Rattle.split_recount.proofs.recounting.recount.Goals as goal

pub returns-clause-kept : goal.returns-clause-kept
returns-clause-kept c = recounted-true (λ v. v.items) (λ new. filter is_other (lines new) ≡ filter is_other (lines (completed c.args.text.now))) c.recount_text.result c.args.text.now c.recount_text.ensures (λ new is. is.kept)

pub returns-clause-places : goal.returns-clause-places
returns-clause-places c = recounted-true (λ v. v.items) (λ new. map is_opening (lines new) ≡ map is_opening (lines (completed c.args.text.now))) c.recount_text.result c.args.text.now c.recount_text.ensures (λ new is. is.places)

pub returns-clause-counts : goal.returns-clause-counts
returns-clause-counts c = recounted-true (λ v. v.items) (λ new. AreTrue (lines new)) c.recount_text.result c.args.text.now c.recount_text.ensures (λ new is. is.counts)

pub returns-clause-complete : goal.returns-clause-complete
returns-clause-complete c = recounted-true (λ v. v.items) IsComplete c.recount_text.result c.args.text.now c.recount_text.ensures (λ new is. is.complete)
