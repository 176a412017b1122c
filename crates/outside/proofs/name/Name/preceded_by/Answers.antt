use Rattle.std.proofs.Common.{◌≡◌, List, ℕ, ◌++◌, string_bytes, sym, ◌∙◌, ap, subst}
use Rattle.std.proofs.lemmas.Str.{IsUtf8-string_bytes}
use Rattle.std.specs.Str.{IsUtf8}
use Rattle.outside.specs.Names.{given_form, IsName, IsPatchName}
use Rattle.outside.proofs.Exits.{if_ok_none}
use Rattle.outside.proofs.Given.{name_ahead, front_stays, patch_name, patch_relative}
use Rattle.outside.proofs.Lawful.{patch_ahead}
use Rattle.outside.proofs.name.Name.preceded_by.Goals as goal

joined : (c : goal.After-saturating_sub) → c.as_str-2.result.now ≡ c.args.front.now ++ string_bytes c.self.inside.text
joined c =
    c.as_str-2.ensures.value ∙ c.in_ok-push_str.ensures.bytes ∙ ap (λ (l : List ℕ). l ++ c.as_str.result.now) c.in_ok-text.ensures.ok
    ∙ ap (λ (l : List ℕ). c.args.front.now ++ l) c.as_str.ensures.value

has : (c : goal.After-saturating_sub) → string_bytes c.in_ok-kept.kept ≡ given_form (c.args.front.now ++ string_bytes c.self.inside.text)
has c = c.in_ok-kept.ensures ∙ ap (λ (l : List ℕ). given_form l) (joined c)

pub invariant_of-result : goal.invariant_of-result
invariant_of-result c =
    subst (λ (l : List ℕ). IsName l) (sym (has c)) (name_ahead c.args.front.now (string_bytes c.self.inside.text) c.requires c.self.invariant (subst (λ (l : List ℕ). IsUtf8 l) (has c) (IsUtf8-string_bytes c.in_ok-kept.kept)))

own : (c : goal.After-drop-text-2) → string_bytes c.in_ok-kept.kept ≡ given_form (c.args.front.now ++ c.args.self.now)
own c =
    c.in_ok-kept.ensures ∙ ap (λ (l : List ℕ). given_form l) (c.as_str-2.ensures.value ∙ c.in_ok-push_str.ensures.bytes ∙ ap (λ (l : List ℕ). l ++ c.as_str.result.now) c.in_ok-text.ensures.ok
    ∙ ap (λ (l : List ℕ). c.args.front.now ++ l) (c.as_str.ensures.value ∙ c.self.view_is))

pub returns : goal.returns
returns c = record {
  text = own c;
  plain = λ relative. own c ∙ front_stays c.args.front.now c.args.self.now c.requires (subst (λ (l : List ℕ). IsName l) c.self.view_is c.self.invariant) relative;
  patch =
      λ front name.
      let whole = own c ∙ front_stays c.args.front.now c.args.self.now c.requires (patch_name c.args.self.now name) (patch_relative c.args.self.now name) in
      subst (λ (l : List ℕ). IsPatchName l) (sym whole) (patch_ahead c.args.front.now c.args.self.now front name (subst (λ (l : List ℕ). IsUtf8 l) whole (IsUtf8-string_bytes c.in_ok-kept.kept)));
}

pub returns-in_err-text : goal.returns-in_err-text
returns-in_err-text c = record { text = if_ok_none _ _ c.from_residual.result c.from_residual.ensures.1; plain = λ relative. if_ok_none _ _ c.from_residual.result c.from_residual.ensures.1; patch = λ front name. if_ok_none _ _ c.from_residual.result c.from_residual.ensures.1 }

pub returns-in_err-push_str : goal.returns-in_err-push_str
returns-in_err-push_str c = record { text = if_ok_none _ _ c.from_residual-in_err-push_str.result c.from_residual-in_err-push_str.ensures.1; plain = λ relative. if_ok_none _ _ c.from_residual-in_err-push_str.result c.from_residual-in_err-push_str.ensures.1; patch = λ front name. if_ok_none _ _ c.from_residual-in_err-push_str.result c.from_residual-in_err-push_str.ensures.1 }

pub returns-in_err-kept : goal.returns-in_err-kept
returns-in_err-kept c = record { text = if_ok_none _ _ c.from_residual-in_err-kept.result c.from_residual-in_err-kept.ensures.1; plain = λ relative. if_ok_none _ _ c.from_residual-in_err-kept.result c.from_residual-in_err-kept.ensures.1; patch = λ front name. if_ok_none _ _ c.from_residual-in_err-kept.result c.from_residual-in_err-kept.ensures.1 }
