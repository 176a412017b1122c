use Rattle.std.proofs.Common.{Vec, Global, ap, ◌∙◌}
use Rattle.patch_set.specs.SetView.{SetView, with_verdicts}
use Rattle.hunk_core.specs.declared.Verdict.{Verdict}
use Rattle.patch_set.proofs.set.PatchSet.take_verdicts.Goals as goal

pub returns-clause-left : goal.returns-clause-left
returns-clause-left c =
    ap (λ (s : SetView). with_verdicts s c.replace.new.dest.items) c.self.view_is
    ∙ ap (with_verdicts c.args.self.now) (ap (λ (v : Vec Verdict Global). v.items) c.replace.ensures.after ∙ c.new-empty.ensures.items)
