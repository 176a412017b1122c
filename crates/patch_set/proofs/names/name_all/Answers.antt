use Rattle.std.proofs.Common.{◌≡◌, ◌∙◌, map, sym, ap, subst, arith}
use Rattle.std.specs.Option.{option_to_list}
use Rattle.read_file_patch.specs.PlainPatch.{patch_of}
use Rattle.patch_options.specs.PlainJob.{plain_options}
use Rattle.read_file_patch.specs.Numbered.{joined_by}
use Rattle.patch_set.specs.Named.{known_names, output_of, patch_names}
use Rattle.patch_set.specs.Naming.{AreNamed}
use Rattle.patch_set.proofs.Joined.{known-all}
use Rattle.patch_set.proofs.Walked.{all-back}
use Rattle.outside.proofs.Exits.{if_ok_none}
use Rattle.patch_set.proofs.names.name_all.Goals as goal

known-last : (c : goal.After-drop-numbers-inside-2) → joined_by c.name_patches.new.numbers (option_to_list (plain_options c.args.options.now).output) ≡ known_names (plain_options c.args.options.now) (map (patch_of c.args.text.now) c.args.patches.items)
known-last c =
    let o = plain_options c.args.options.now in
    known-all c.new-numbers.result c.name_patches.new.numbers (patch_names o (map (patch_of c.args.text.now) c.args.patches.items))
    (option_to_list o.output) c.new-numbers.ensures
    (subst (λ rs. c.name_patches.new.numbers ≡ joined_by c.new-numbers.result (patch_names o (map (patch_of c.args.text.now) rs))) c.as_mut_slice.ensures.value c.in_ok-name_patches.ensures.known)

pub returns : goal.returns
returns c = record {
  patches = (
      let o = plain_options c.args.options.now in
      let ps = c.args.patches.items in
      let qs = c.name_patches.new.patches in
      let last = option_to_list o.output in
      subst (λ rs. AreNamed o c.args.text.now (known_names o (map (patch_of c.args.text.now) ps)) ps rs) (sym (all-back c.args.patches.len qs ps (omega arith) (omega arith)))
      (subst (λ k. AreNamed o c.args.text.now k ps qs) (known-last c) (subst (λ rs. AreNamed o c.args.text.now (joined_by c.name_patches.new.numbers last) rs qs) c.as_mut_slice.ensures.value (c.in_ok-name_patches.ensures.named last))));
  output = c.in_ok-output.ensures.output ∙ ap (output_of (plain_options c.args.options.now)) (known-last c);
  temps = c.in_ok-output.ensures.temps;
}

pub returns-in_err-name_patches : goal.returns-in_err-name_patches
returns-in_err-name_patches c = record {
  patches = if_ok_none _ _ c.from_residual.result c.from_residual.ensures.1;
  output = if_ok_none _ _ c.from_residual.result c.from_residual.ensures.1;
  temps = if_ok_none _ _ c.from_residual.result c.from_residual.ensures.1;
}

pub returns-in_err-output : goal.returns-in_err-output
returns-in_err-output c = record {
  patches = if_ok_none _ _ c.from_residual-in_err-output.result c.from_residual-in_err-output.ensures.1;
  output = if_ok_none _ _ c.from_residual-in_err-output.result c.from_residual-in_err-output.ensures.1;
  temps = if_ok_none _ _ c.from_residual-in_err-output.result c.from_residual-in_err-output.ensures.1;
}

pub name_output-requires : goal.name_output-requires
name_output-requires c = c.requires
