use Rattle.std.proofs.Common.{◌≡◌, List, ℕ, string_bytes, sym, ◌∙◌, ap, subst}
use Rattle.std.proofs.lemmas.Str.{IsUtf8-string_bytes}
use Rattle.std.specs.Str.{IsUtf8}
use Rattle.outside.specs.Names.{broken_rule, normal_form, IsPatchName}
use Rattle.outside.proofs.Exits.{if_ok_none}
use Rattle.outside.proofs.Given.{patch_name}
use Rattle.outside.proofs.Lawful.{obeys, patch_normal, not_utf8, rule_utf8, refused_rule, refused_none, refused_memory}
use Rattle.outside.proofs.name.Name.new.Goals as goal

patch : (c : goal.In_ok-normal_form-in-None) → IsPatchName (string_bytes c.in_ok-normal_form-in-None.field-0)
patch c =
    let kept = c.in_ok-normal_form-in-None.field-0 in
    let has : string_bytes kept ≡ normal_form c.in-Ok.read.now = c.in_ok-normal_form-in-None.ensures in
    subst (λ (l : List ℕ). IsPatchName l) (sym has) (patch_normal c.in-Ok.read.now (obeys c.in-Ok.read.now (sym c.in-None.ensures)) (subst (λ (l : List ℕ). IsUtf8 l) has (IsUtf8-string_bytes kept)))

pub invariant_of-result : goal.invariant_of-result
invariant_of-result c = patch_name (string_bytes c.in_ok-normal_form-in-None.field-0) (patch c)

pub returns-in_default : goal.returns-in_default
returns-in_default c = record { lawful = tt; text = tt; patch = tt; refused = refused_rule _ _ (rule_utf8 c.args.text.now (not_utf8 c.args.text.now _ c.in_default.ensures.cases.1)) }

pub returns-in_ok-normal_form-in-None : goal.returns-in_ok-normal_form-in-None
returns-in_ok-normal_form-in-None c =
    let same = c.in-Ok.ensures.cases.0 in
    let lawful = sym (c.in-None.ensures ∙ ap (λ (l : List ℕ). broken_rule l) same) in
    record {
      lawful = lawful;
      text = c.in_ok-normal_form-in-None.ensures ∙ ap (λ (l : List ℕ). normal_form l) same;
      patch = patch c;
      refused = refused_none _ _ lawful;
    }

pub returns-in-Some : goal.returns-in-Some
returns-in-Some c = record { lawful = tt; text = tt; patch = tt; refused = refused_rule _ _ (c.in-Some.ensures ∙ ap (λ (l : List ℕ). broken_rule l) c.in-Ok.ensures.cases.0) }

pub returns-in_err-normal_form-in-None : goal.returns-in_err-normal_form-in-None
returns-in_err-normal_form-in-None c =
    let fault = c.from_residual.ensures.1 in
    let lawful = sym (c.in-None.ensures ∙ ap (λ (l : List ℕ). broken_rule l) c.in-Ok.ensures.cases.0) in
    record {
      lawful = if_ok_none _ _ c.from_residual.result fault;
      text = if_ok_none _ _ c.from_residual.result fault;
      patch = if_ok_none _ _ c.from_residual.result fault;
      refused = refused_memory c.from_residual.result _ lawful fault;
    }
