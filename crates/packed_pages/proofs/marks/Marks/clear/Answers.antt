use Rattle.std.proofs.Common.{subst, sym}
use Rattle.packed_pages.specs.Marks.{AreMarks, marks_of}
use Rattle.packed_pages.proofs.marks.Marks.clear.Goals as goal

pub returns-in-First-clause-none : goal.returns-in-First-clause-none
returns-in-First-clause-none c page = subst (λ h. AreMarks page (marks_of (record { first = c.clear.new.self; second = c.args.self.now.second }) h)) (sym c.in-First.is) (c.clear.ensures page)

pub returns-in-Second-clause-none : goal.returns-in-Second-clause-none
returns-in-Second-clause-none c page = subst (λ h. AreMarks page (marks_of (record { first = c.args.self.now.first; second = c.clear-in-Second.new.self }) h)) (sym c.in-Second.is) (c.clear-in-Second.ensures page)
