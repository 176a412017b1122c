-- Commands of the normal form.
use Rattle.std.proofs.Common.{◌≡◌, ℕ, ◌+◌, ◌-◌, List, [], ◌∷◌, ◌++◌, length, refl, sym, ap, ◌∙◌, append_assoc}
use Rattle.hunk_core.specs.Letters.{letter}
use Rattle.std.specs.List.{flat_map}
use Rattle.hunk_core.specs.declared.Side.TheVariants.{Forward, Reversed}
use Rattle.normal_form.specs.Canonical.{action_for, command_text, divider_text, line_text}
use Rattle.hunk_core.specs.Spans.{span_text}
use Rattle.format_convert.specs.Blocks.{Block, Edit}
use Rattle.format_convert.specs.Commands.{normal_behind, normal_command, range_start}
use Rattle.format_convert.specs.Fronts.{front, front_block}

pub command-is : (old_start old_count new_start new_count : ℕ) → ((span_text old_start old_count ++ letter (action_for old_count new_count) ∷ []) ++ span_text new_start new_count) ++ 10 ∷ [] ≡ command_text old_start old_count new_start new_count
command-is old_start old_count new_start new_count =
    append_assoc (span_text old_start old_count ++ letter (action_for old_count new_count) ∷ []) (span_text new_start new_count) (10 ∷ [])
    ∙ append_assoc (span_text old_start old_count) (letter (action_for old_count new_count) ∷ []) (span_text new_start new_count ++ 10 ∷ [])

pub behind-cons : (adds drops : ℕ) (b : Block) (bs : List Block) → normal_behind adds drops (b ∷ bs) ≡ normal_command adds drops b ++ normal_behind (adds + length b.added) (drops + length b.dropped) bs
unfolding normal_behind
behind-cons adds drops b bs = refl

pub behind-none : (adds drops : ℕ) → normal_behind adds drops [] ≡ []
unfolding normal_behind
behind-none adds drops = refl

-- a command of a block whose lines were counted
abbrev pub counted : ℕ → ℕ → ℕ → List Edit → ℕ → ℕ → List ℕ
counted adds drops q left old new = command_text (range_start q old) old (range_start (q + adds - drops) new) new ++ (flat_map (line_text Forward) (front Forward q left) ++ (divider_text (action_for old new) ++ flat_map (line_text Reversed) (front Reversed q left)))

pub counted-is : (adds drops q : ℕ) (left : List Edit) (old new : ℕ) → old ≡ length (front Forward q left) → new ≡ length (front Reversed q left) → counted adds drops q left old new ≡ normal_command adds drops (front_block q left)
counted-is adds drops q left old new e f = ap (λ (n : ℕ). counted adds drops q left n new) e ∙ ap (λ (n : ℕ). counted adds drops q left (length (front Forward q left)) n) f
