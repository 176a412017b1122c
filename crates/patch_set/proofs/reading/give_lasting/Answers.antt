use Rattle.std.proofs.Common.{None, Some, inr}
use Rattle.patch_options.specs.PlainJob.{plain_options}
use Rattle.patch_set.specs.Naming.{HaveTargets}
use Rattle.patch_set.proofs.Made.{none-found, told-reserved}
use Rattle.outside.proofs.Exits.{if_ok_none}
use Rattle.patch_set.proofs.Completing.{meets-memory}
use Rattle.patch_set.proofs.reading.give_lasting.Goals as goal

pub returns-in-Some : goal.returns-in-Some
returns-in-Some c = record {
  targets = tt;
  lasting = tt;
  refused = (
      let named = c.in_ok-named.named in
      let have : HaveTargets (plain_options c.args.options.now) c.args.text.now c.args.patches.items named.patches.items named.output = record { are = c.in_ok-named.ensures.patches; out = c.in_ok-named.ensures.output; temps = c.in_ok-named.ensures.temps } in
      inr (told-reserved (plain_options c.args.options.now) c.args.text.now c.args.patches.items named.patches.items named.output (Some c.in-Some.line) have c.in-Some.ensures));
}

pub returns-in-None : goal.returns-in-None
returns-in-None c = record {
  targets = record { are = c.in_ok-named.ensures.patches; out = c.in_ok-named.ensures.output; temps = c.in_ok-named.ensures.temps };
  lasting = none-found _ c.in-None.ensures;
  refused = (
      let named = c.in_ok-named.named in
      let have : HaveTargets (plain_options c.args.options.now) c.args.text.now c.args.patches.items named.patches.items named.output = record { are = c.in_ok-named.ensures.patches; out = c.in_ok-named.ensures.output; temps = c.in_ok-named.ensures.temps } in
      told-reserved (plain_options c.args.options.now) c.args.text.now c.args.patches.items named.patches.items named.output None have c.in-None.ensures);
}

pub returns-in_err-named : goal.returns-in_err-named
returns-in_err-named c = record {
  targets = if_ok_none _ _ c.from_residual.result c.from_residual.ensures.1;
  lasting = if_ok_none _ _ c.from_residual.result c.from_residual.ensures.1;
  refused = meets-memory _ c.from_residual.result c.from_residual.ensures.1;
}
