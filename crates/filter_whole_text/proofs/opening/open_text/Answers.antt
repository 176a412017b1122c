use Rattle.std.proofs.Common.{◌≡◌, None}
use Rattle.outside.proofs.Exits.{if_ok_none}
use Rattle.cli_tool_words.specs.PlainJobs.{plain_select}
use Rattle.patch_set.specs.Refusals.{refusal}
use Rattle.patch_set.specs.SetView.{IsRead}
use Rattle.filter_whole_text.specs.Texts.{defaults}
use Rattle.filter_whole_text.specs.Opened.{IsSet}
use Rattle.filter_whole_text.proofs.Gathering.{opens-ungiven, opens-unread, opens-read, some-read}
use Rattle.filter_whole_text.proofs.opening.open_text.Goals as goal

pub returns-in_err-text : goal.returns-in_err-text
returns-in_err-text g c = record {
  opens = opens-ungiven IsSet c.args.input.now (plain_select c.args.select.now) (plain_select c.read_given.new.select) _ _ _ _ c.read_given.ensures.untouched c.read_given.ensures.source c.read_given.ensures.taken
      c.from_residual.result c.in_err-text.field-0.0 c.from_residual.ensures.1 c.in_err-text.ensures.refused c.in_err-text.ensures.cause;
  unread = c.read_given.ensures.unread;
  whole = if_ok_none _ _ c.from_residual.result c.from_residual.ensures.1;
  read = if_ok_none _ _ c.from_residual.result c.from_residual.ensures.1;
}

pub returns-in_err-set : goal.returns-in_err-set
returns-in_err-set g c = record {
  opens = opens-unread IsSet c.args.input.now (plain_select c.args.select.now) (plain_select c.read_given.new.select) _ _ _ _ c.read_given.ensures.untouched c.read_given.ensures.source c.read_given.ensures.taken
      c.in_ok-text.text.items c.in_ok-text.ensures.given c.read_given.ensures.skips c.from_residual-in_err-set.result c.in_err-set.field-0.0 c.from_residual-in_err-set.ensures.1 c.in_err-set.ensures.refused;
  unread = c.read_given.ensures.unread;
  whole = if_ok_none _ _ c.from_residual-in_err-set.result c.from_residual-in_err-set.ensures.1;
  read = if_ok_none _ _ c.from_residual-in_err-set.result c.from_residual-in_err-set.ensures.1;
}

pub returns : goal.returns
returns g c = record {
  opens = opens-read IsSet c.args.input.now (plain_select c.args.select.now) (plain_select c.read_given.new.select) _ _ _ _ c.read_given.ensures.untouched c.read_given.ensures.source c.read_given.ensures.taken
      c.in_ok-text.text.items c.in_ok-text.ensures.given c.in_ok-text.ensures.read c.in_ok-set.set c.in_ok-set.ensures.set c.in_ok-set.ensures.none;
  unread = c.read_given.ensures.unread;
  whole = c.in_ok-set.ensures.whole;
  read =
      let skip = c.read_given.new.select.skip_binary in
      some-read (IsRead (defaults skip)) (refusal (defaults skip) c.in_ok-text.text.items ≡ None) c.in_ok-text.text.items c.in_ok-set.set c.in_ok-set.ensures.set;
}
