use Rattle.std.proofs.Common.{◌≡◌, ℕ, List, codes, sym, ◌∙◌, ap}
use Rattle.std.proofs.lemmas.Result.{IfOk-weaker}
use Rattle.read_file_patch.specs.Stripped.{shortened}
use Rattle.filter_whole_text.specs.PartNames.{flat, stem}
use Rattle.filter_whole_text.proofs.NameLoops.{stem-some, stem-none}
use Rattle.filter_whole_text.proofs.naming.stem.Goals as goal

pub returns-in-Some : goal.returns-in-Some
returns-in-Some c =
    let text : List ℕ = c.deref.result.now in
    let same : text ≡ flat (shortened c.args.strip c.args.name.now) = c.deref.ensures.value ∙ c.in_ok-text.ensures ∙ ap (λ (l : List ℕ). flat l) c.shortened.ensures in
    stem-some c.args.strip c.args.name.now text c.in-Some.name (sym c.in-Some.is ∙ c.in_ok-name.ensures) same

pub returns-in-None : goal.returns-in-None
returns-in-None c =
    let text : List ℕ = c.deref.result.now in
    let same : text ≡ flat (shortened c.args.strip c.args.name.now) = c.deref.ensures.value ∙ c.in_ok-text.ensures ∙ ap (λ (l : List ℕ). flat l) c.shortened.ensures in
    IfOk-weaker c.unnamed.result (λ made. made ≡ codes "unnamed") (λ made. made ≡ stem c.args.strip c.args.name.now)
    (λ made is. is ∙ stem-none c.args.strip c.args.name.now text (sym c.in-None.is ∙ c.in_ok-name.ensures) same)
    c.unnamed.ensures
