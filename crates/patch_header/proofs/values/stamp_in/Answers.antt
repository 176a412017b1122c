use Rattle.std.proofs.Common.{ap, drop, slice_range, ◌∙◌}
use Rattle.std.proofs.lemmas.List.{take_rest}
use Rattle.stamp.specs.Reading.{stamp_of}
use Rattle.patch_header.specs.Values.{behind_name}
use Rattle.patch_header.proofs.values.stamp_in.Goals as goal

pub returns-in-Some : goal.returns-in-Some
returns-in-Some c =
    let bytes = slice_range c.args.text.now c.in-Some.tail.start c.in-Some.tail.end in
    rw c.in-Some.is (c.read_stamp.ensures.exact ∙ ap stamp_of (c.behind_name.ensures ∙ ap behind_name (take_rest bytes c.blanks.result ∙ ap (λ n. drop n bytes) c.blanks.ensures.is)))
