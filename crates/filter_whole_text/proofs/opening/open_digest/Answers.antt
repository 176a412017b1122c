use Rattle.std.proofs.Common.{inl, inr, refl, ⊎_elim, Err}
use Rattle.cli_tool_words.specs.PlainJobs.{plain_select}
use Rattle.patch_set.specs.Refusals.{refusal}
use Rattle.filter_whole_text.specs.Texts.{defaults}
use Rattle.filter_whole_text.specs.Opened.{IsDigestIn}
use Rattle.filter_whole_text.specs.declared.fault.FilterFault.TheVariants as faults
use Rattle.filter_whole_text.proofs.Gathering.{opens-ungiven, opens-unread, opens-some, opens-none, garbage-told}
use Rattle.filter_whole_text.proofs.opening.open_digest.Goals as goal

pub returns-in_err-text : goal.returns-in_err-text
returns-in_err-text g c = record {
  opens = opens-ungiven IsDigestIn c.args.input.now (plain_select c.args.select.now) (plain_select c.read_given.new.select) _ _ _ _ c.read_given.ensures.untouched c.read_given.ensures.source c.read_given.ensures.taken
      c.from_residual.result c.in_err-text.field-0.0 c.from_residual.ensures.1 c.in_err-text.ensures.refused c.in_err-text.ensures.cause;
  unread = c.read_given.ensures.unread;
}

pub returns-in-Ok : goal.returns-in-Ok
returns-in-Ok g c = record {
  opens = opens-some IsDigestIn c.args.input.now (plain_select c.args.select.now) (plain_select c.read_given.new.select) _ _ _ _ c.read_given.ensures.untouched c.read_given.ensures.source c.read_given.ensures.taken
      c.in_ok-text.text.items c.in_ok-text.ensures.given c.in_ok-text.ensures.read c.in-Ok.digest c.in-Ok.ensures.digest c.in-Ok.ensures.refused;
  unread = c.read_given.ensures.unread;
}

pub returns-in-Garbage : goal.returns-in-Garbage
returns-in-Garbage g c = record {
  opens = opens-none IsDigestIn c.args.input.now (plain_select c.args.select.now) (plain_select c.read_given.new.select) _ _ _ _ c.read_given.ensures.untouched c.read_given.ensures.source c.read_given.ensures.taken
      c.in_ok-text.text.items c.in_ok-text.ensures.given c.in_ok-text.ensures.read
      (garbage-told (refusal (defaults c.read_given.new.select.skip_binary) c.in_ok-text.text.items) c.in-Err.fault c.in-Garbage.is c.in-Err.ensures.refused);
  unread = c.read_given.ensures.unread;
}

pub returns-in_default : goal.returns-in_default
returns-in_default g c = record {
  opens = opens-unread IsDigestIn c.args.input.now (plain_select c.args.select.now) (plain_select c.read_given.new.select) _ _ _ _ c.read_given.ensures.untouched c.read_given.ensures.source c.read_given.ensures.taken
      c.in_ok-text.text.items c.in_ok-text.ensures.given c.read_given.ensures.skips (Err (faults.Set c.in-Err.fault)) c.in-Err.fault refl
      (⊎_elim (λ memory. inl memory) (λ is. inr (c.in_default.not-Garbage, is)) c.in-Err.ensures.refused);
  unread = c.read_given.ensures.unread;
}
