use Rattle.std.proofs.Common.{◌∙◌, Option, ℕ, ap, unwrap_or}
use Rattle.patch_options.proofs.table.options_of.Goals as goal

pub returns : goal.returns
returns c =
    let names = c.requires.names in
    λ i. record {
      only = c.only_form.ensures i;
      strip = c.number_in.ensures i;
      fuzz = (c.unwrap_or.ensures ∙ ap (λ (n : Option ℕ). unwrap_or n 2) c.number_in-2.ensures) i;
      reverse = c.is_used.ensures i;
      force = c.is_used-2.ensures i;
      batch = c.is_used-3.ensures i;
      forward = c.is_used-4.ensures i;
      loose = c.is_used-5.ensures i;
      remove_empty = c.is_used-6.ensures i;
      backup = c.is_used-7.ensures i;
      mismatch_backup = c.mismatch_backup.ensures i;
      suffix = c.requires.suffix i;
      prefix = names.outputs.prefix i;
      base_prefix = names.outputs.base_prefix i;
      numbers = c.numbers_in.ensures i;
      dir = names.dir i;
      file = names.file i;
      input = names.input i;
      output = names.outputs.output i;
      reject = names.outputs.reject i;
      no_rejects = names.outputs.no_rejects i;
      reject_form = c.reject_form_in.ensures i;
      define = c.requires.define i;
      posix = c.is_used-8.ensures i;
      keep_returns = c.is_used-9.ensures i;
      skip_binary = c.is_used-10.ensures i;
      dry_run = c.is_used-11.ensures i;
      read_only = c.read_only_in.ensures i;
      times = c.times_in.ensures i;
      follow_links = c.is_used-12.ensures i;
      silent = c.is_silent.ensures i;
      verbose = c.is_used-13.ensures i;
      plan = c.plan_in.ensures i;
      buffer = c.buffer_in.ensures i;
      sync = c.sync_in.ensures i;
    }
