use Rattle.std.proofs.Common.{◌≡◌, ◌+◌, ℕ, List, [], ◌∷◌, ◌++◌, ap, ◌∙◌, append_assoc, arith}
use Rattle.std.proofs.lemmas.List.{append-nil}
use Rattle.std.proofs.lemmas.Result.{IfOk-equal}
use Rattle.patch_gen.specs.Texts.{line_in}
use Rattle.patch_gen.proofs.diff.add_kept.Goals as goal

-- three lines, added one after another
joined : (p p1 p2 a b d : List ℕ) → p1 ≡ p ++ a → p2 ≡ p1 ++ b → p2 ++ d ≡ p ++ (a ++ (b ++ (d ++ [])))
joined p p1 p2 a b d e1 e2 = rw (e2, e1, append-nil d) (simp append_assoc)

pub returns : goal.returns
returns c = let line = line_in c.args.lines.now in let far : c.args.first + 2 ≡ c.args.first + 1 + 1 = omega arith in
    IfOk-equal c.add_marked-3.result c.add_marked-3.new.patch.items _ _ c.add_marked-3.ensures
    (ap (λ (l : List ℕ). c.add_marked-2.new.patch.items ++ 32 ∷ l) (c.line_bytes-3.ensures ∙ ap line far)
    ∙ joined c.args.patch.now.items c.add_marked.new.patch.items c.add_marked-2.new.patch.items (32 ∷ line c.args.first) (32 ∷ line (c.args.first + 1)) (32 ∷ line (c.args.first + 1 + 1))
    (c.in_ok-add_marked.ensures ∙ ap (λ (l : List ℕ). c.args.patch.now.items ++ 32 ∷ l) c.line_bytes.ensures) (c.in_ok-add_marked-2.ensures ∙ ap (λ (l : List ℕ). c.add_marked.new.patch.items ++ 32 ∷ l) c.line_bytes-2.ensures))
