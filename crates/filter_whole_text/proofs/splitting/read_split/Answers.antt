use Rattle.std.proofs.Common.{◌≡◌, true, Some, Err}
use Rattle.outside.specs.Files.{Files}
use Rattle.outside.proofs.Exits.{if_ok_none}
use Rattle.cli_tool_words.specs.PlainJobs.{plain_split_job}
use Rattle.patch_set.specs.Refusals.{refusal}
use Rattle.filter_whole_text.specs.Texts.{defaults}
use Rattle.filter_whole_text.specs.Sifting.{is_refusal}
use Rattle.filter_whole_text.specs.Splits.{IsSplit, HasEarlyCause}
use Rattle.filter_whole_text.proofs.SplitRun.{passed, input-cause, input-refused, split-into, split-refused, set-refused, set-cause}
use Rattle.filter_whole_text.proofs.splitting.read_split.Goals as goal

pub returns-in_err-text : goal.returns-in_err-text
returns-in_err-text g c = record {
  untouched = c.read_file.ensures.untouched;
  whole = if_ok_none _ _ c.from_residual.result c.from_residual.ensures.1;
  set = if_ok_none _ _ c.from_residual.result c.from_residual.ensures.1;
  refused = let t = g.T.Tree.view c.args.tree.now in
      let j = plain_split_job c.args.job.now in
      passed c.from_residual.result _ (λ e. is_refusal e ≡ true → (f : Files) → t.told ≡ Some f → IsSplit j f (Err e)) c.from_residual.ensures.1
      (input-refused j c.in_err-text.field-0.0 t (g.T.Tree.view c.read_file.new.tree) c.in_err-text.ensures.cause);
  cause = let t = g.T.Tree.view c.args.tree.now in
      let u = g.T.Tree.view c.read_file.new.tree in
      passed c.from_residual.result _ (λ e. HasEarlyCause c.args.job.now.skip_binary e t u) c.from_residual.ensures.1 (input-cause c.in_err-text.field-0.0 t u c.args.job.now.input c.in_err-text.ensures.cause);
}

pub returns-in_err-set : goal.returns-in_err-set
returns-in_err-set g c = record {
  untouched = c.read_file.ensures.untouched;
  whole = if_ok_none _ _ c.from_residual-in_err-set.result c.from_residual-in_err-set.ensures.1;
  set = if_ok_none _ _ c.from_residual-in_err-set.result c.from_residual-in_err-set.ensures.1;
  refused = let t = g.T.Tree.view c.args.tree.now in
      let j = plain_split_job c.args.job.now in
      let e = c.in_err-set.field-0.0 in
      let text = c.in_ok-text.text.items in
      passed c.from_residual-in_err-set.result _ (λ e. is_refusal e ≡ true → (f : Files) → t.told ≡ Some f → IsSplit j f (Err e)) c.from_residual-in_err-set.ensures.1
      (λ yes f told. split-refused j f text c.in_ok-text.ensures.short (c.in_ok-text.ensures.text f told) e (set-refused e (refusal (defaults j.skip_binary) text) c.in_err-set.ensures.refused yes));
  cause = let e = c.in_err-set.field-0.0 in
      let text = c.in_ok-text.text.items in
      passed c.from_residual-in_err-set.result _ (λ e. HasEarlyCause c.args.job.now.skip_binary e (g.T.Tree.view c.args.tree.now) (g.T.Tree.view c.read_file.new.tree)) c.from_residual-in_err-set.ensures.1 (set-cause c.args.job.now.skip_binary e text c.in_err-set.ensures.refused);
}

pub returns : goal.returns
returns g c = record {
  untouched = c.read_file.ensures.untouched;
  whole = c.in_ok-set.ensures.whole;
  set = λ f told. let j = plain_split_job c.args.job.now in
      let text = c.in_ok-text.text.items in
      split-into j f text c.in_ok-text.ensures.short (c.in_ok-text.ensures.text f told) c.in_ok-set.set
      c.in_ok-set.ensures.refused c.in_ok-set.ensures.read;
  refused = tt;
  cause = tt;
}
