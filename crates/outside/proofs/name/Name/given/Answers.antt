use Rattle.std.proofs.Common.{◌≡◌, List, ℕ, string_bytes, sym, ◌∙◌, ap, subst}
use Rattle.std.proofs.lemmas.Str.{IsUtf8-string_bytes}
use Rattle.std.specs.Str.{IsUtf8}
use Rattle.outside.specs.Names.{broken_given, given_form, IsName}
use Rattle.outside.proofs.Exits.{if_ok_none}
use Rattle.outside.proofs.Lawful.{not_utf8, refused_rule, refused_none, refused_memory}
use Rattle.outside.proofs.Given.{obeys, given_name, given_utf8}
use Rattle.outside.proofs.name.Name.given.Goals as goal

pub invariant_of-result : goal.invariant_of-result
invariant_of-result c =
    let kept = c.in_ok-text-in-None.text in
    let has : string_bytes kept ≡ given_form c.in-Ok.read.now = c.in_ok-text-in-None.ensures in
    let rules = obeys c.in-Ok.read.now (sym c.in-None.ensures) in
    subst (λ (l : List ℕ). IsName l) (sym has) (given_name c.in-Ok.read.now rules.control rules.empty (subst (λ (l : List ℕ). IsUtf8 l) has (IsUtf8-string_bytes kept)))

pub returns-in_default : goal.returns-in_default
returns-in_default c = record { lawful = tt; text = tt; refused = refused_rule _ _ (given_utf8 c.args.text.now (not_utf8 c.args.text.now _ c.in_default.ensures.cases.1)) }

pub returns-in_ok-text-in-None : goal.returns-in_ok-text-in-None
returns-in_ok-text-in-None c =
    let same = c.in-Ok.ensures.cases.0 in
    let lawful = sym (c.in-None.ensures ∙ ap (λ (l : List ℕ). broken_given l) same) in
    record {
      lawful = lawful;
      text = c.in_ok-text-in-None.ensures ∙ ap (λ (l : List ℕ). given_form l) same;
      refused = refused_none _ _ lawful;
    }

pub returns-in-Some : goal.returns-in-Some
returns-in-Some c = record { lawful = tt; text = tt; refused = refused_rule _ _ (c.in-Some.ensures ∙ ap (λ (l : List ℕ). broken_given l) c.in-Ok.ensures.cases.0) }

pub returns-in_err-text-in-None : goal.returns-in_err-text-in-None
returns-in_err-text-in-None c =
    let fault = c.from_residual.ensures.1 in
    let lawful = sym (c.in-None.ensures ∙ ap (λ (l : List ℕ). broken_given l) c.in-Ok.ensures.cases.0) in
    record {
      lawful = if_ok_none _ _ c.from_residual.result fault;
      text = if_ok_none _ _ c.from_residual.result fault;
      refused = refused_memory c.from_residual.result _ lawful fault;
    }
