use Rattle.std.proofs.Common.{◌++◌, codes, ap, List, ℕ, ◌∙◌, append_assoc}
use Rattle.outside.proofs.Writing.{writes_is}
use Rattle.say_text.specs.Messages.{share}
use Rattle.say_text.proofs.hunks.put_refused_line.Goals as goal

pub returns : goal.returns
returns g c = record {
  writes = let rest = c.args.reject.now ++ codes "\n" in
      let some = share c.args.hunks c.args.hunks in
      writes_is c.put_around.result (some ++ (codes " ignored -- saving rejects to file " ++ rest)) c.put_around.ensures.writes
      (ap (λ (l : List ℕ). l ++ rest) (c.as_slice.ensures.value ∙ c.share_line-line.ensures) ∙ append_assoc some (codes " ignored -- saving rejects to file ") rest);
  rest = c.put_around.ensures.rest;
}
