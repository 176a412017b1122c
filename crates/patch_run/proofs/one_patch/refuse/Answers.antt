use Rattle.std.proofs.Common.{Bool, if◌then◌else◌, ◌∙◌, ap}
use Rattle.patch_set.specs.declared.set.Row.{Row}
use Rattle.patch_run.proofs.Refused.{one_put, none_put, few_put}
use Rattle.patch_run.proofs.one_patch.refuse.Goals as goal

pub returns-in-Ok : goal.returns-in-Ok
returns-in-Ok g c =
    let saved = c.in-Ok.saved in
    let done = c.done_refused in
    record {
      tree = c.refuse_hunks.ensures.tree;
      sink = c.refuse_hunks.ensures.sink;
      cause = tt;
      quiet = c.in-Ok.ensures.quiet;
      tidy = c.in-Ok.ensures.tidy;
      rest = c.refuse_hunks.ensures.rest;
      dry = c.refuse_hunks.ensures.dry;
      nowhere = c.fill.ensures.after (λ y is. is);
      row = done.ensures.row;
      put = λ one. c.in-Ok.ensures.put (one_put saved done.result.effects done.ensures.effects one);
      due = λ f told. done.ensures.effects ∙ ap (λ (b : Bool). if b then 1 else 0) (c.in-Ok.ensures.due f told);
      refused = record {
        bad = done.ensures.bad;
        wrote = ap (λ (r : Row). r.wrote) done.ensures.row;
        few = few_put saved done.result.effects done.ensures.effects;
        may = λ one. c.in-Ok.ensures.may (one_put saved done.result.effects done.ensures.effects one);
      };
      unsaved = λ none. c.in-Ok.ensures.unsaved (none_put saved done.result.effects done.ensures.effects none);
    }

pub returns-in-Err : goal.returns-in-Err
returns-in-Err g c = record {
  tree = c.refuse_hunks.ensures.tree;
  sink = c.refuse_hunks.ensures.sink;
  cause = c.in-Err.ensures.cause;
  quiet = tt;
  tidy = tt;
  rest = c.refuse_hunks.ensures.rest;
  dry = c.refuse_hunks.ensures.dry;
  nowhere = c.fill.ensures.after (λ y is. is);
  row = tt;
  put = tt;
  due = tt;
  refused = tt;
  unsaved = tt;
}

pub refuse_hunks-requires-clause-turn : goal.refuse_hunks-requires-clause-turn
refuse_hunks-requires-clause-turn g c = c.requires.turn

pub refuse_hunks-requires-clause-within : goal.refuse_hunks-requires-clause-within
refuse_hunks-requires-clause-within g c = c.requires.within

pub refuse_hunks-requires-clause-rows : goal.refuse_hunks-requires-clause-rows
refuse_hunks-requires-clause-rows g c = c.fill.ensures.len ∙ c.requires.rows

pub refuse_hunks-requires-clause-quiet : goal.refuse_hunks-requires-clause-quiet
refuse_hunks-requires-clause-quiet g c = c.requires.quiet
