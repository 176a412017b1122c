use Rattle.std.proofs.Common.{◌≡◌, ◌+◌, ℕ, List, ◌∷◌, ◌++◌, ap, ◌∙◌, append_assoc}
use Rattle.std.proofs.lemmas.Result.{IfOk-equal}
use Rattle.patch_gen.specs.Texts.{line_in}
use Rattle.patch_gen.specs.Patches.{range_line, kept_lines}
use Rattle.patch_gen.proofs.diff.add_hunk.Goals as goal

-- five pieces, added one after another
joined : (p p1 p2 p3 p4 a b d e f : List ℕ) → p1 ≡ p ++ a → p2 ≡ p1 ++ b → p3 ≡ p2 ++ d → p4 ≡ p3 ++ e → p4 ++ f ≡ p ++ (a ++ b ++ d ++ e ++ f)
joined p p1 p2 p3 p4 a b d e f e1 e2 e3 e4 = rw (e4, e3, e2, e1) (simp append_assoc)

pub returns : goal.returns
returns c =
    let line = line_in c.args.lines.now in
    let s = c.args.start in
    IfOk-equal c.add_kept-2.result c.add_kept-2.new.patch.items _ _ c.add_kept-2.ensures
    (joined c.args.patch.now.items c.add_range_line.new.patch.items c.add_kept.new.patch.items c.add_marked.new.patch.items c.add_marked-2.new.patch.items
    (range_line s) (kept_lines line s) (45 ∷ line (s + 3)) (43 ∷ c.args.new.now) (kept_lines line (s + 4))
    c.in_ok-add_range_line.ensures c.in_ok-add_kept.ensures (c.in_ok-add_marked.ensures ∙ ap (λ l. c.add_kept.new.patch.items ++ 45 ∷ l) c.line_bytes.ensures) c.in_ok-add_marked-2.ensures)
