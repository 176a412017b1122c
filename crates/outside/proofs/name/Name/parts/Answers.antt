use Rattle.std.proofs.Common.{◌≤◌, ◌∙◌, ap, subst, length, string_bytes, List, ℕ, lit<}
use Rattle.std.proofs.lemmas.Iterator.Consumers.{count_from_yields_List}
use Rattle.std.proofs.lemmas.Iterator.Splits.{YieldsList-from_str_split}
use Rattle.outside.specs.Names.{components}
use Rattle.outside.proofs.Components.{joined}
use Rattle.outside.proofs.Below.{below}
use Rattle.outside.proofs.name.Name.parts.Goals as goal

pub returns-clause-count : goal.returns-clause-count
returns-clause-count c =
    count_from_yields_List c.split.result c.count.result c.count.ensures.ran (YieldsList-from_str_split 47 (string_bytes c.self.inside.text) (lit< tt) (c.split.ensures.text ∙ c.deref.ensures) c.split.ensures.has_more c.split.ensures.pattern)
    ∙ ap (λ (l : List ℕ). length (components l)) c.self.view_is

pub returns-clause-joined : goal.returns-clause-joined
returns-clause-joined c = joined

pub returns-clause-below : goal.returns-clause-below
returns-clause-below c = λ file parts within. below c.args.self.now file parts (subst (λ n. parts ≤ n) (returns-clause-count c) within)
