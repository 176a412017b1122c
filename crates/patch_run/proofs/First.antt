-- Whether a file patch is the first of its run: that is told by the marks of those before it, by their number, and by its task.
use Rattle.std.proofs.Common.{◌≡◌, ℕ, zero, suc, ◌≤◌, false, List, [], ◌∷◌, length, map, take, refl, sym, ◌∙◌, arith}
use Rattle.std.specs.Prelude.{◌==◌}
use Rattle.std.proofs.Math.Dec.{eqb-suc-zero}
use Rattle.std.specs.List.{zip}
use Rattle.hunk_core.specs.declared.Verdict.{Verdict}
use Rattle.patch_options.specs.PlainJob.{PlainOptions, plain_options}
use Rattle.read_file_patch.specs.declared.FilePatch.{FilePatch}
use Rattle.patch_set.specs.declared.set.Row.{Row}
use Rattle.patch_set.specs.SetView.{SetView}
use Rattle.patch_run.specs.OnePatch.{is_first}
use Rattle.apply_outcome.specs.Ready.{mark_in, marks}
use Rattle.apply_outcome.specs.ContextView.{plain_context, IsContext}
use Rattle.apply_outcome.specs.declared.context.FilePatchContext.{FilePatchContext}

some-mark : (o : PlainOptions) (v : SetView) (vs : List Verdict) (k : ℕ) (ps : List FilePatch) (rs : List Row) → suc k ≤ length ps → length rs ≡ length ps → is_first (map (mark_in o v vs) (zip (take (suc k) ps) rs)) ≡ false
some-mark o v vs k [] rs few long = absurd (omega (arith, few))
some-mark o v vs k (p ∷ ps) [] few long = absurd (omega (arith, long))
some-mark o v vs k (p ∷ ps) (r ∷ rs) few long = refl

first-is : (o : PlainOptions) (v : SetView) (k : ℕ) (vs : List Verdict) → k ≤ length v.patches → length v.rows ≡ length v.patches → (k == 0) ≡ is_first (marks o v k vs)
unfolding marks
first-is o v zero vs few long = refl
first-is o v (suc k) vs few long = eqb-suc-zero k ∙ sym (some-mark o v vs k v.patches v.rows few long)

pub is-first : (t : FilePatchContext) → IsContext t → is_first (plain_context t).past ≡ t.task.is_first
is-first t is = sym (is.first ∙ first-is (plain_options t.task.options.now) t.task.set.now t.count t.verdicts.now is.within is.task.ready.rows)
