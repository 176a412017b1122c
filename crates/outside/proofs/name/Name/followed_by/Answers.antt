use Rattle.std.proofs.Common.{◌≡◌, List, ℕ, ◌++◌, string_bytes, sym, ◌∙◌, ap, subst}
use Rattle.std.proofs.lemmas.Str.{IsUtf8-string_bytes}
use Rattle.std.specs.Str.{IsUtf8}
use Rattle.outside.specs.Names.{IsName, IsPatchName}
use Rattle.outside.proofs.Exits.{if_ok_none}
use Rattle.outside.proofs.Given.{name_behind}
use Rattle.outside.proofs.Lawful.{patch_behind}
use Rattle.outside.proofs.name.Name.followed_by.Goals as goal

has : (c : goal.In_ok-push_str) → string_bytes c.push_str.new.self ≡ string_bytes c.self.inside.text ++ c.args.end.now
has c = c.in_ok-push_str.ensures.bytes ∙ ap (λ (l : List ℕ). l ++ c.args.end.now) (c.in_ok-text.ensures.ok ∙ c.as_str.ensures.value)

utf8 : (c : goal.In_ok-push_str) → IsUtf8 (string_bytes c.self.inside.text ++ c.args.end.now)
utf8 c = subst (λ (l : List ℕ). IsUtf8 l) (has c) (IsUtf8-string_bytes c.push_str.new.self)

pub invariant_of-result : goal.invariant_of-result
invariant_of-result c = subst (λ (l : List ℕ). IsName l) (sym (has c)) (name_behind (string_bytes c.self.inside.text) c.args.end.now c.self.invariant c.requires (utf8 c))

pub returns : goal.returns
returns c = record {
  text = has c ∙ ap (λ (l : List ℕ). l ++ c.args.end.now) c.self.view_is;
  patch =
      λ own. subst (λ (l : List ℕ). IsPatchName l) (sym (has c))
      (patch_behind (string_bytes c.self.inside.text) c.args.end.now (subst (λ (l : List ℕ). IsPatchName l) (sym c.self.view_is) own) c.requires (utf8 c));
}

pub returns-in_err-text : goal.returns-in_err-text
returns-in_err-text c = record { text = if_ok_none _ _ c.from_residual.result c.from_residual.ensures.1; patch = λ own. if_ok_none _ _ c.from_residual.result c.from_residual.ensures.1 }

pub returns-in_err-push_str : goal.returns-in_err-push_str
returns-in_err-push_str c = record { text = if_ok_none _ _ c.from_residual-in_err-push_str.result c.from_residual-in_err-push_str.ensures.1; patch = λ own. if_ok_none _ _ c.from_residual-in_err-push_str.result c.from_residual-in_err-push_str.ensures.1 }
