use Rattle.std.proofs.Common.{refl, subst, sym, ◌≡◌, ◌≤◌, ◌+◌, ◌-◌, length}
use Rattle.packed_pages.specs.Marks.{AreMarks, marks_of}
use Rattle.packed_pages.proofs.HeldLemmas.{marked-more}
use Rattle.page_pair.specs.Records.{stated}
use Rattle.packed_pages.specs.Layout.{place_in}
use Rattle.packed_pages.specs.Held.{IsRecordFault}
use Rattle.packed_pages.proofs.loading.walk.Goals as goal

pub find_in-requires-clause-marks : goal.find_in-requires-clause-marks
find_in-requires-clause-marks c = subst (λ page. AreMarks page (marks_of c.args.marks.now c.args.half)) (sym c.page.ensures.is) (c.requires.marked c.args.half)

pub returns-in-Err-clause-marked : goal.returns-in-Err-clause-marked
returns-in-Err-clause-marked c = marked-more c.args.pair.now c.args.pair.now c.args.marks.now c.find_in.new.marks c.args.half c.requires.marked (λ h other. refl) c.find_in.ensures.other (subst (λ page. AreMarks page (marks_of c.find_in.new.marks c.args.half)) c.page.ensures.is c.find_in.ensures.marks)

pub returns-in-Ok-clause-marked : goal.returns-in-Ok-clause-marked
returns-in-Ok-clause-marked c = marked-more c.args.pair.now c.args.pair.now c.args.marks.now c.find_in.new.marks c.args.half c.requires.marked (λ h other. refl) c.find_in.ensures.other (subst (λ page. AreMarks page (marks_of c.find_in.new.marks c.args.half)) c.page.ensures.is c.find_in.ensures.marks)

pub returns-in-Ok-clause-within : goal.returns-in-Ok-clause-within
returns-in-Ok-clause-within c = subst (λ page. c.in-Ok.at + 4 + stated page c.in-Ok.at ≤ length page) c.page.ensures.is c.in-Ok.ensures.within

pub returns-in-Ok-clause-place : goal.returns-in-Ok-clause-place
returns-in-Ok-clause-place c = subst (λ page. c.in-Ok.at ≡ place_in (c.args.k - c.args.start.first) page) c.page.ensures.is c.in-Ok.ensures.place

pub returns-in-Err-clause-cause : goal.returns-in-Err-clause-cause
returns-in-Err-clause-cause c = subst (IsRecordFault c.in-Err.fault (c.args.k - c.args.start.first)) c.page.ensures.is c.in-Err.ensures.cause
