use Rattle.std.proofs.Common.{Option, List, ℕ, map, refl, subst, IfErr}
use Rattle.std.proofs.lemmas.Result.{on_ok_weaker, IfErr-weaker}
use Rattle.outside.proofs.Exits.{on_ok_none}
use Rattle.outside.specs.Calls.{untouched_both}
use Rattle.cli_tool_words.specs.PlainJobs.{plain_select}
use Rattle.filter_whole_text.specs.Patterns.{HasPatternCause, HasSelectionCause}
use Rattle.filter_whole_text.proofs.Choosing.{include-cause, exclude-cause, included, chosen}
use Rattle.filter_whole_text.proofs.Gathering.{fault-is}
use Rattle.filter_whole_text.proofs.patterns.add_patterns.Goals as goal

pub returns-in_err-add_from : goal.returns-in_err-add_from
returns-in_err-add_from g c = record {
  untouched = c.add_from.ensures.untouched;
  selection = on_ok_none _ _ c.from_residual.result c.from_residual.ensures.1;
  cause =
      let t = g.T.Tree.view c.args.tree.now in
      let u = g.T.Tree.view c.add_from.new.tree in
      let e = c.in_err-add_from.field-0.0 in
      rw (fault-is c.from_residual.result e c.from_residual.ensures.1)
      (include-cause e (plain_select c.args.select.now) t u (subst (λ (name : Option (List ℕ)). HasPatternCause e name t u) c.as_ref.ensures.value c.in_err-add_from.ensures.cause));
  skips = refl;
}

pub returns : goal.returns
returns g c =
    let s = plain_select c.args.select.now in
    let t = g.T.Tree.view c.args.tree.now in
    let u = g.T.Tree.view c.add_from.new.tree in
    let v = g.T.Tree.view c.add_from-2.new.tree in
    let ended = c.add_from-2.result in record {
      untouched = untouched_both c.add_from.ensures.untouched c.add_from-2.ensures.untouched;
      selection = on_ok_weaker ended
          (λ adds. chosen s t u c.add_from.ensures.untouched _ _ c.as_ref.ensures.value c.as_ref-2.ensures.value
          (map (λ p. p.items) c.add_from.new.patterns.items) (map (λ p. p.items) c.add_from-2.new.patterns.items) c.in_ok-add_from.ensures.added adds)
          c.add_from-2.ensures.added;
      cause = IfErr-weaker ended (λ e. HasPatternCause e s.exclude_file u v) (λ e. HasSelectionCause e s t v)
          (λ e h. exclude-cause e s t u v c.add_from.ensures.untouched (included s t _ _ _ c.as_ref.ensures.value c.in_ok-add_from.ensures.added) h)
          (subst (λ (name : Option (List ℕ)). IfErr ended (λ e. HasPatternCause e name u v)) c.as_ref-2.ensures.value c.add_from-2.ensures.cause);
      skips = refl;
    }
