use Rattle.std.proofs.Common.{◌≡◌, ap, ◌∙◌}
use Rattle.std.proofs.lemmas.Result.{IfOk-weaker}
use Rattle.patch_options.specs.PlainJob.{plain_options}
use Rattle.read_file_patch.specs.Numbered.{with_name}
use Rattle.read_file_patch.specs.Targets.{target_of}
use Rattle.patch_set.specs.Named.{target_in}
use Rattle.patch_set.proofs.names.target.Goals as goal

pub returns : goal.returns
returns c = record {
  known = (
      IfOk-weaker c.new.result (λ t. t ≡ target_of (plain_options c.args.options.now) c.args.name.now c.in_ok-number.number)
      (λ _. c.number.new.self ≡ with_name c.args.numbers.now c.args.name.now) (λ _ _. c.in_ok-number.ensures.names) c.new.ensures.names);
  target = (
      let o = plain_options c.args.options.now in
      let name = c.args.name.now in
      IfOk-weaker c.new.result (λ t. t ≡ target_of o name c.in_ok-number.number) (λ t. t ≡ target_in o c.number.new.self name)
      (λ t is. is ∙ ap (target_of o name) c.in_ok-number.ensures.number) c.new.ensures.names);
  temps = c.new.ensures.temps;
}
