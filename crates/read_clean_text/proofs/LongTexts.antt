-- Texts that are too long.
use Rattle.std.proofs.Common.{◌≡◌, ℕ, true, not, ◌&&◌, ◌||◌, cond, List, length, Some, ap, ◌∙◌}
use Rattle.std.specs.Prelude.{◌==◌}
use Rattle.std.specs.List.{list_any}
use Rattle.line_list.specs.Lines.{lines}
use Rattle.line_list.specs.Completed.{completed}
use Rattle.patch_options.specs.PlainJob.{PlainOptions}
use Rattle.read_patch_text.specs.Patches.{patches_of}
use Rattle.patch_set.specs.Asked.{ways_of}
use Rattle.patch_set.specs.declared.fault.SetFault.TheVariants as faults
use Rattle.patch_set.specs.Refusals.{is_too_long, refusal, refusal_of}
use Rattle.read_git_order.specs.Ordered.{ordered}
use Rattle.read_git_order.proofs.Same.{refused-stays}
use Rattle.read_clean_text.specs.Bare.{bare_text}
use Rattle.read_clean_text.specs.Cleaned.{cleaned, cleaned_in}
use Rattle.read_clean_text.specs.Indents.{indent_of, is_indented, loses_indent, unindented, without_indent}
use Rattle.read_clean_text.specs.Reading.{clean_of}

long-indented : (o : PlainOptions) (text : List ℕ) → is_too_long text ≡ true → unindented (ways_of o) text ≡ text
unfolding loses_indent unindented
long-indented o text long =
    let indent = indent_of (lines text) in
    ap (λ b. cond (not (b || length indent == 0) && is_indented (ways_of o) indent text (completed (bare_text text)) (completed (bare_text (without_indent indent text)))) (without_indent indent text) text) long

long-stays : (o : PlainOptions) (text : List ℕ) → is_too_long text ≡ true → cleaned (ways_of o) o.keep_returns text ≡ text
unfolding cleaned
long-stays o text long =
    ap (λ b. cond (b || not (list_any (λ x. x == 13) text)) text (cleaned_in (ways_of o) o.keep_returns text (completed (bare_text text)))) long

-- a text that is too long is refused as such
pub long_refused : (o : PlainOptions) (text : List ℕ) → is_too_long text ≡ true → refusal o (clean_of o text) ≡ Some faults.TooLong
long_refused o text long =
    let is : refusal o text ≡ Some faults.TooLong = ap (λ b. cond b (Some faults.TooLong) (refusal_of o text (patches_of (ways_of o) (completed text)))) long in
    let stays : cleaned (ways_of o) o.keep_returns (unindented (ways_of o) text) ≡ text = ap (cleaned (ways_of o) o.keep_returns) (long-indented o text long) ∙ long-stays o text long in
    ap (refusal o) (ap (ordered o) stays ∙ refused-stays o text faults.TooLong is) ∙ is
