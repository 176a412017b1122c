use Rattle.std.proofs.Common.{arith, List, [], ap, is_some, sym, ℕ, ◌++◌, ◌∙◌, ◌∷◌}
use Rattle.series_stack.proofs.Taking.{held_form, entry_joined, on_ok_all}
use Rattle.outside.specs.Files.{bytes_at}
use Rattle.std.proofs.lemmas.Result.{on_ok_weaker}
use Rattle.outside.specs.Calls.{untouched_none}
use Rattle.series_stack.proofs.take.add_file.Goals as goal

pub returns-in-Ok : goal.returns-in-Ok
returns-in-Ok g c = record {
  untouched = c.add_bytes.ensures.untouched;
  entry = (
      let old = c.args.text.now.items in
      let name = c.args.name.now in
      on_ok_weaker c.add_bytes.result
      (λ added f told. added f told ∙ ap (λ (l : List ℕ). l ++ (bytes_at f name ++ 10 ∷ [])) c.in-Ok.ensures ∙ entry_joined old name (bytes_at f name) c.args.size (sym (c.requires.long f told)))
      c.add_bytes.ensures.bytes);
  short = on_ok_all c.add_bytes.result (omega (arith, c.if-size-gt-LONGEST.false));
  form = held_form c.add_bytes.result c.args.text.now.items c.add_head.new.text.items c.add_bytes.new.text.items c.args.name.now c.args.size (omega (arith, c.if-size-gt-LONGEST.false)) c.in-Ok.ensures c.add_bytes.ensures.form;
  cause = c.add_bytes.ensures.cause;
  size = c.add_bytes.ensures.size;
}

pub returns-in-Err-clause-untouched : goal.returns-in-Err-clause-untouched
returns-in-Err-clause-untouched g c = untouched_none (g.T.Tree.view c.args.tree.now)

pub add_bytes-requires-clause-long : goal.add_bytes-requires-clause-long
add_bytes-requires-clause-long g c = c.requires.long

pub returns-then-size-gt-LONGEST-clause-untouched : goal.returns-then-size-gt-LONGEST-clause-untouched
returns-then-size-gt-LONGEST-clause-untouched g c = untouched_none (g.T.Tree.view c.args.tree.now)

pub add_bytes-requires-clause-there : goal.add_bytes-requires-clause-there
add_bytes-requires-clause-there g c = λ f told. ap is_some (c.requires.size f told)
