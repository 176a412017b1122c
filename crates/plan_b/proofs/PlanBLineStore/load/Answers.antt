use Rattle.std.proofs.Common.{◌-◌, ap}
use Rattle.std.specs.Option.{option_map}
use Rattle.plan_b.specs.Layout.{page_number}
use Rattle.plan_b.proofs.PlanBLineStore.load.Goals as goal

pub returns-in-Ok-clause-still : goal.returns-in-Ok-clause-still
returns-in-Ok-clause-still g c = c.in-Ok.ensures.still

pub returns-in-Ok-clause-other : goal.returns-in-Ok-clause-other
returns-in-Ok-clause-other g c = c.in-Ok.ensures.other

pub returns-in-Err-clause-still : goal.returns-in-Err-clause-still
returns-in-Err-clause-still g c = c.in-Err.ensures.still

pub returns-in-Err-clause-cause : goal.returns-in-Err-clause-cause
returns-in-Err-clause-cause g c = c.in-Err.ensures.cause

pub returns-in-Err-clause-other : goal.returns-in-Err-clause-other
returns-in-Err-clause-other g c = c.in-Err.ensures.other

pub returns-in-Err-clause-keeps : goal.returns-in-Err-clause-keeps
returns-in-Err-clause-keeps g c = c.in-Err.ensures.keeps

pub returns-in-Err-clause-reads : goal.returns-in-Err-clause-reads
returns-in-Err-clause-reads g c = c.in-Err.ensures.reads

pub returns-in-Err-clause-dropped : goal.returns-in-Err-clause-dropped
returns-in-Err-clause-dropped g c = c.in-Err.ensures.dropped

pub returns-in-Ok-clause-other_page : goal.returns-in-Ok-clause-other_page
returns-in-Ok-clause-other_page g c = λ h ne. ap (option_map (λ k. page_number c.args.self.now.layout (k - 1))) (c.in-Ok.ensures.other h ne)

pub returns-in-Err-clause-other_page : goal.returns-in-Err-clause-other_page
returns-in-Err-clause-other_page g c = λ h ne. ap (option_map (λ k. page_number c.args.self.now.layout (k - 1))) (c.in-Err.ensures.other h ne)

pub returns-in-Ok-clause-page : goal.returns-in-Ok-clause-page
returns-in-Ok-clause-page g c = ap (option_map (λ k. page_number c.args.self.now.layout (k - 1))) c.in-Ok.ensures.loaded

pub returns-in-Ok-clause-bytes : goal.returns-in-Ok-clause-bytes
returns-in-Ok-clause-bytes g c = c.in-Ok.ensures.page

pub returns-in-Ok-clause-other_bytes : goal.returns-in-Ok-clause-other_bytes
returns-in-Ok-clause-other_bytes g c = c.in-Ok.ensures.other_page

pub returns-in-Err-clause-other_bytes : goal.returns-in-Err-clause-other_bytes
returns-in-Err-clause-other_bytes g c = c.in-Err.ensures.other_page
