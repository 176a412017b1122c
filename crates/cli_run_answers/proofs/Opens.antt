-- Steps that leave the tree as it is told.
use Rattle.std.proofs.Common.{◌≡◌, inr, ⊎_elim, Result, refl, sym, ◌∙◌, ap, subst, arith}
use Rattle.std.proofs.lemmas.Option.{same_Some}
use Rattle.std.specs.FinMap.{get}
use Rattle.outside.specs.Files.{Files}
use Rattle.outside.specs.TreeView.{TreeView, IsCall, MayLeave, LeftSince, passes_none, passes_both}
use Rattle.outside.specs.Calls.{IsUntouched, LeavesNoMore}
use Rattle.outside.proofs.Views.{since_call, since_split}
use Rattle.apply_task.specs.Making.{IsTidy}
use Rattle.cli_run_answers.specs.Moments.{Opens}

at_now : (u : TreeView) (c : Files) → LeftSince u u.moment c → MayLeave u c
at_now u c (k, from, to, left) = let e : k ≡ u.moment = omega (arith, from, to) in subst (λ n. u.left_at n c) e left

pub opens_none : (u : TreeView) → Opens u u
opens_none u = record { passes = passes_none u; told = refl; images = λ c left. at_now u c left }

pub opens_both : {u v w : TreeView} → Opens u v → Opens v w → Opens u w
opens_both {u = u} {v = v} {w = w} a b = record {
  passes = passes_both a.passes b.passes;
  told = b.told ∙ a.told;
  images = λ c left. ⊎_elim
      (λ before. a.images c before)
      (λ later. a.images c (v.moment, a.passes.later, omega arith, b.images c later))
      (since_split b.passes u.moment c a.passes.later left);
}

pub opens_settle : {R E : Type 0} {u v : TreeView} (r : Result R E) → IsCall u v r → v.told ≡ u.told → LeavesNoMore u v → Opens u v
opens_settle {u = u} {v = v} r call same no_more = record {
  passes = call.passes;
  told = same;
  images = λ c left. ⊎_elim (λ before. at_now u c before) (λ now. no_more c now) (since_call call u.moment c left);
}

pub opens_untouched : {u w : TreeView} → IsUntouched u w → Opens u w
opens_untouched {u = u} {w = w} same = record {
  passes = same.passes;
  told = same.told;
  images = λ c left. at_now u c ((same.since u.moment c (omega arith)).0 left);
}

-- a tree that is told the same has no other temporary
pub tidy_same : (u w : TreeView) → w.told ≡ u.told → IsTidy u w
tidy_same u w told f g was now q temp = inr (ap (λ (x : Files). get x q) (same_Some _ _ (sym now ∙ told ∙ was)))

pub tidy_behind : (u v w : TreeView) → v.told ≡ u.told → IsTidy v w → IsTidy u w
tidy_behind u v w told tidy f g was now q temp = tidy f g (told ∙ was) now q temp
