use Rattle.std.proofs.Common.{None, Some, codes}
use Rattle.std.proofs.lemmas.Slice.Eq.{strip_prefix_is, strip_suffix_is}
use Rattle.std.proofs.lemmas.Bool.Decides.{Decides-eqb}
use Rattle.numbered_name.proofs.Endings.{no-front, found}
use Rattle.numbered_name.proofs.digits_of.Goals as goal

pub returns : goal.returns
returns c =
    let entry = c.args.entry.now in
    let front = c.in-Some.front.now in
    let ending = c.in-Some-strip_prefix.ending.now in
    let at = strip_suffix_is Decides-eqb entry (codes "~") (Some c.in-Some.front) c.in-Some.ensures.cases in
    let behind = strip_prefix_is Decides-eqb front c.args.name.now (Some c.in-Some-strip_prefix.ending) c.in-Some-strip_prefix.ensures.cases in
    found c.args.name.now entry front ending at behind c.strip_prefix-2.result (strip_prefix_is Decides-eqb ending (codes ".~") c.strip_prefix-2.result c.strip_prefix-2.ensures.cases)

pub returns-in_default-strip_prefix : goal.returns-in_default-strip_prefix
returns-in_default-strip_prefix c =
    let at = strip_suffix_is Decides-eqb c.args.entry.now (codes "~") (Some c.in-Some.front) c.in-Some.ensures.cases in
    no-front c.args.name.now c.args.entry.now c.in-Some.front.now at (strip_prefix_is Decides-eqb c.in-Some.front.now c.args.name.now None c.in_default-strip_prefix.ensures.cases)
