use Rattle.std.proofs.Common.{◌≡◌, ℕ, List, length, Bool, true, false, ◌&&◌, not, bytes_eq, Option, None, Some, refl, sym, ap, ◌∙◌, is_some}
use Rattle.std.proofs.lemmas.Bool.{false≢true}
use Rattle.std.specs.Option.{option_map}
use Rattle.std.specs.FinMap.{get}
use Rattle.outside.specs.Files.{Files}
use Rattle.outside.specs.Calls.{untouched_none}
use Rattle.apply_task.specs.Asking.{renames}
use Rattle.apply_outcome.specs.ContextView.{plain_context}
use Rattle.apply_outcome.proofs.effects.is_moving.Goals as goal

moves-none : (a b d : Bool) → (a && b) ≡ false → false ≡ (a && b && d)
moves-none true true d is = absurd (false≢true (sym is))
moves-none true false d is = refl
moves-none false b d is = refl

moves-some : (a b d : Bool) → (a && b) ≡ true → d ≡ (a && b && d)
moves-some true true d is = refl
moves-some true false d is = absurd (false≢true is)
moves-some false b d is = absurd (false≢true is)

some-long : (o : Option (List ℕ)) → is_some (option_map length o) ≡ is_some o
some-long None = refl
some-long (Some bytes) = refl

pub returns-then-not-is_renamed : goal.returns-then-not-is_renamed
returns-then-not-is_renamed g c = record {
  untouched = untouched_none (g.T.Tree.view c.args.tree.now);
  moving = λ f told. moves-none (renames (plain_context c.args.turn.now).item.patch) (not (bytes_eq c.args.source.now.name c.args.target.now.name)) (is_some (get f c.args.source.now.name)) (sym c.is_renamed.ensures.renamed ∙ c.if-not-is_renamed.true);
  there = λ is. absurd (false≢true is);
  apart = λ is. absurd (false≢true is);
  renames = λ is. absurd (false≢true is);
  cause = tt;
}

pub returns-in-Ok : goal.returns-in-Ok
returns-in-Ok g c =
    let there : (f : Files) → (g.T.Tree.view c.args.tree.now).told ≡ Some f → c.is_some.result ≡ is_some (get f c.args.source.now.name) = λ f told. c.is_some.ensures ∙ ap is_some (c.in-Ok.ensures.size f told) ∙ some-long (get f c.args.source.now.name) in
    record {
      untouched = c.size.ensures.untouched;
      moving = λ f told. there f told ∙ moves-some (renames (plain_context c.args.turn.now).item.patch) (not (bytes_eq c.args.source.now.name c.args.target.now.name)) (is_some (get f c.args.source.now.name)) (sym c.is_renamed.ensures.renamed ∙ c.if-not-is_renamed.false);
      there = λ is f now. sym (there f (sym c.size.ensures.untouched.told ∙ now)) ∙ is;
      apart = λ is. c.is_renamed.ensures.apart c.if-not-is_renamed.false;
      renames = λ is. c.is_renamed.ensures.renames c.if-not-is_renamed.false;
      cause = tt;
    }

pub returns-in-Err : goal.returns-in-Err
returns-in-Err g c = record {
  untouched = c.size.ensures.untouched;
  cause = c.in-Err.ensures.call.cause refl;
  moving = tt;
  there = tt;
  apart = tt;
  renames = tt;
}
