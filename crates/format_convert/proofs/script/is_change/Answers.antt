use Rattle.std.proofs.Common.{◌≡◌, ℕ, Bool, not, ◌||◌, eqb, length, sym, ap, ◌∙◌, rules}
use Rattle.std.proofs.lemmas.List.{length-map}
use Rattle.hunk_core.specs.PlainHunk.{bytes_at}
use Rattle.ed_form.specs.PlainEdit.{edit_of}
use Rattle.format_convert.specs.Blocks.{drop_count}
use Rattle.format_convert.proofs.script.is_change.Goals as goal

pub returns : goal.returns
returns c = λ text.
    let e = c.args.edit.now in
    let count : c.len.result ≡ length c.args.edit.now.added.items = search rules in
    c.is_some.ensures
    ∙ ap (λ (n : ℕ). not (eqb n 0) || not (eqb c.len.result 0)) (c.drop_count.ensures text)
    ∙ ap (λ (n : ℕ). not (eqb (drop_count (edit_of text e)) 0) || not (eqb n 0)) (count ∙ sym (length-map e.added.items (bytes_at text)))
