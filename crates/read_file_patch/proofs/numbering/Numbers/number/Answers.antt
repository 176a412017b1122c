use Rattle.std.proofs.Common.{◌≡◌, List, ℕ, Some, sym, ap, subst, ◌∙◌, arith, OnErr, Ok, Err, refl}
use Rattle.std.specs.BTreeMap.{get_by_text}
use Rattle.read_file_patch.specs.Numbered.{number_in, with_name, texts}
use Rattle.read_file_patch.proofs.Maps.{found-texts, found-number, same-texts, same-numbered, Adds, adds}
use Rattle.outside.proofs.Exits.{if_ok_none}
use Rattle.read_file_patch.proofs.numbering.Numbers.number.Goals as goal

found : (c : goal.After-row_known-1) → get_by_text c.self.inside.numbers c.args.name.now ≡ Some c.in-Some.number.now
found c = subst (λ (t : List ℕ). get_by_text c.self.inside.numbers t ≡ Some c.in-Some.number.now) c.text.ensures.text (sym c.in-Some.ensures.value)

pub returns-in-Some-clause-names : goal.returns-in-Some-clause-names
returns-in-Some-clause-names c =
    subst (λ (l : List (List ℕ)). l ≡ with_name l c.args.name.now) c.self.view_is
    (found-texts c.self.inside.numbers c.self.invariant c.args.name.now c.in-Some.number.now (found c))

pub returns-in-Some-clause-number : goal.returns-in-Some-clause-number
returns-in-Some-clause-number c =
    found-number c.self.inside.numbers c.self.invariant c.args.name.now c.in-Some.number.now (found c)
    ∙ ap (λ (l : List (List ℕ)). number_in l c.args.name.now) c.self.view_is

pub invariant_of-self : goal.invariant_of-self
invariant_of-self c = same-numbered c.self.inside.numbers c.insert.new.self c.in_err-insert.ensures.err c.self.invariant

pub returns-in_err-insert-clause-err : goal.returns-in_err-insert-clause-err
returns-in_err-insert-clause-err c =
    let same : texts c.insert.new.self ≡ c.args.self.now = same-texts c.self.inside.numbers c.insert.new.self c.in_err-insert.ensures.err ∙ c.self.view_is in
    elim c.from_residual-in_err-insert.result as (λ r. OnErr r (texts c.insert.new.self ≡ c.args.self.now)) [
      | Ok v ↦ tt
      | Err e ↦ same
    ]

added : (c : goal.In_ok-insert) → Adds c.self.inside.numbers c.insert.new.self c.args.name.now c.in-Ok.number
added c = adds c.self.inside.numbers c.insert.new.self c.in_ok-text.text c.args.name.now c.in-Ok.number c.in_ok-insert.field-0
    c.self.invariant
    (ap (λ (t : List ℕ). get_by_text c.self.inside.numbers t) (sym c.text.ensures.text) ∙ sym c.in_default.ensures.value)
    (c.in_ok-text.ensures.ok ∙ c.text-2.ensures.text)
    (omega (arith, c.in-Ok.ensures, c.len.ensures.len))
    c.in_ok-insert.ensures.entries
    c.in_ok-insert.ensures.old
    c.in_ok-insert.ensures.len
    c.in_ok-insert.ensures.updates

pub invariant_of-self-2 : goal.invariant_of-self-2
invariant_of-self-2 c = (added c).numbered

pub returns-clause-names : goal.returns-clause-names
returns-clause-names c = (added c).names ∙ ap (λ (l : List (List ℕ)). with_name l c.args.name.now) c.self.view_is

pub returns-clause-number : goal.returns-clause-number
returns-clause-number c = (added c).number

pub returns-in_err-text-clause-names : goal.returns-in_err-text-clause-names
returns-in_err-text-clause-names c = if_ok_none _ _ c.from_residual.result c.from_residual.ensures.1

pub returns-in_err-text-clause-number : goal.returns-in_err-text-clause-number
returns-in_err-text-clause-number c = if_ok_none _ _ c.from_residual.result c.from_residual.ensures.1

pub returns-in_err-insert-clause-names : goal.returns-in_err-insert-clause-names
returns-in_err-insert-clause-names c = if_ok_none _ _ c.from_residual-in_err-insert.result c.from_residual-in_err-insert.ensures.1

pub returns-in_err-insert-clause-number : goal.returns-in_err-insert-clause-number
returns-in_err-insert-clause-number c = if_ok_none _ _ c.from_residual-in_err-insert.result c.from_residual-in_err-insert.ensures.1

pub returns-in_default-try_from-clause-names : goal.returns-in_default-try_from-clause-names
returns-in_default-try_from-clause-names c = tt

pub returns-in_default-try_from-clause-number : goal.returns-in_default-try_from-clause-number
returns-in_default-try_from-clause-number c = tt

pub returns-clause-err : goal.returns-clause-err
returns-clause-err c = tt

pub returns-in-Some-clause-err : goal.returns-in-Some-clause-err
returns-in-Some-clause-err c = tt

pub returns-in_err-text-clause-err : goal.returns-in_err-text-clause-err
returns-in_err-text-clause-err c = elim c.from_residual.result as (λ r. OnErr r (c.args.self.now ≡ c.args.self.now)) [
  | Ok v ↦ tt
  | Err e ↦ refl
]

pub returns-in_default-try_from-clause-err : goal.returns-in_default-try_from-clause-err
returns-in_default-try_from-clause-err c = refl
