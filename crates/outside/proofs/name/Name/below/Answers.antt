use Rattle.std.proofs.Common.{◌≡◌, List, ℕ, [], ◌∷◌, ◌++◌, true, false, cond, string_bytes, sym, ◌∙◌, ap, subst, append_assoc, lit<}
use Rattle.std.proofs.lemmas.Str.{IsUtf8-string_bytes, encode_ascii}
use Rattle.std.proofs.lemmas.Result.{IfOk-weaker}
use Rattle.std.specs.Str.{IsUtf8}
use Rattle.outside.specs.Names.{is_absolute, placed, IsName, IsPatchName}
use Rattle.outside.proofs.Exits.{if_ok_none}
use Rattle.outside.proofs.Given.{name_below}
use Rattle.outside.proofs.Lawful.{patch_below}
use Rattle.outside.proofs.name.Name.below.Goals as goal

has : (c : goal.After-given_below) → string_bytes c.push_str.new.self ≡ string_bytes c.directory.inside.text ++ 47 ∷ string_bytes c.self.inside.text
has c =
    let directory = string_bytes c.directory.inside.text in
    let slash : string_bytes c.push.new.self ≡ directory ++ 47 ∷ [] =
    c.in_ok-push.ensures.bytes ∙ ap (λ (l : List ℕ). string_bytes c.in_ok-text.text ++ l) (encode_ascii 47 (lit< tt))
    ∙ ap (λ (l : List ℕ). l ++ 47 ∷ []) (c.in_ok-text.ensures.ok ∙ c.as_str.ensures.value) in
    c.in_ok-push_str.ensures.bytes ∙ ap (λ (l : List ℕ). l ++ c.as_str-2.result.now) slash ∙ append_assoc directory (47 ∷ []) c.as_str-2.result.now
    ∙ ap (λ (l : List ℕ). directory ++ 47 ∷ l) c.as_str-2.ensures.value

utf8 : (c : goal.After-given_below) → IsUtf8 (string_bytes c.directory.inside.text ++ 47 ∷ string_bytes c.self.inside.text)
utf8 c = subst (λ (l : List ℕ). IsUtf8 l) (has c) (IsUtf8-string_bytes c.push_str.new.self)

relative : (c : goal.After-given_below) → is_absolute c.args.self.now ≡ false
relative c = sym c.is_absolute.ensures ∙ c.if-is_absolute.false

pub invariant_of-result : goal.invariant_of-result
invariant_of-result c = subst (λ (l : List ℕ). IsName l) (sym (has c))
    (name_below (string_bytes c.directory.inside.text) (string_bytes c.self.inside.text) c.directory.invariant c.self.invariant (ap (λ (l : List ℕ). is_absolute l) c.self.view_is ∙ relative c) (utf8 c))

pub returns : goal.returns
returns c = record {
  text =
      has c ∙ ap (λ (l : List ℕ). l ++ 47 ∷ string_bytes c.self.inside.text) c.directory.view_is ∙ ap (λ (l : List ℕ). c.args.directory.now ++ 47 ∷ l) c.self.view_is
      ∙ ap (λ b. cond b c.args.self.now (c.args.directory.now ++ 47 ∷ c.args.self.now)) (sym (relative c));
  patch =
      λ above own. subst (λ (l : List ℕ). IsPatchName l) (sym (has c))
      (patch_below (string_bytes c.directory.inside.text) (string_bytes c.self.inside.text) (subst (λ (l : List ℕ). IsPatchName l) (sym c.directory.view_is) above) (subst (λ (l : List ℕ). IsPatchName l) (sym c.self.view_is) own) (utf8 c));
}

pub returns-then-is_absolute : goal.returns-then-is_absolute
returns-then-is_absolute c =
    let own = c.args.self.now in
    let whole : is_absolute c.args.self.now ≡ true = sym c.is_absolute.ensures ∙ c.if-is_absolute.true in
    record {
      text = IfOk-weaker c.copy.result (λ name. name ≡ own) (λ name. name ≡ placed c.args.directory.now own) (λ name is. is ∙ ap (λ b. cond b own (c.args.directory.now ++ 47 ∷ own)) (sym whole)) c.copy.ensures;
      patch = λ above is. IfOk-weaker c.copy.result (λ name. name ≡ own) IsPatchName (λ name same. subst (λ (l : List ℕ). IsPatchName l) (sym same) is) c.copy.ensures;
    }

pub returns-in_err-push_str : goal.returns-in_err-push_str
returns-in_err-push_str c = record { text = if_ok_none _ _ c.from_residual-in_err-push_str.result c.from_residual-in_err-push_str.ensures.1; patch = λ above own. if_ok_none _ _ c.from_residual-in_err-push_str.result c.from_residual-in_err-push_str.ensures.1 }

pub returns-in_err-text : goal.returns-in_err-text
returns-in_err-text c = record { text = if_ok_none _ _ c.from_residual.result c.from_residual.ensures.1; patch = λ above own. if_ok_none _ _ c.from_residual.result c.from_residual.ensures.1 }

pub returns-in_err-push : goal.returns-in_err-push
returns-in_err-push c = record { text = if_ok_none _ _ c.from_residual-in_err-push.result c.from_residual-in_err-push.ensures.1; patch = λ above own. if_ok_none _ _ c.from_residual-in_err-push.result c.from_residual-in_err-push.ensures.1 }
