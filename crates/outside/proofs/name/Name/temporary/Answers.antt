use Rattle.std.proofs.Common.{◌≡◌, true, List, ℕ, ◌++◌, codes, ◌∙◌, ap}
use Rattle.std.proofs.lemmas.Result.{IfOk-weaker}
use Rattle.outside.specs.Files.{is_temp}
use Rattle.outside.proofs.Below.{temp_behind}
use Rattle.outside.proofs.name.Name.temporary.Goals as goal

pub returns : goal.returns
returns c = record {
  text = c.followed_by.ensures.text;
  temp = IfOk-weaker c.followed_by.result (λ name. name ≡ c.args.self.now ++ codes ".ptmp") (λ name. is_temp name ≡ true) (λ name is. ap (λ (l : List ℕ). is_temp l) is ∙ temp_behind c.args.self.now) c.followed_by.ensures.text;
  patch = c.followed_by.ensures.patch;
}
