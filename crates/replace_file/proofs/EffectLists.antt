-- How lists of effects go on from one another.
use Rattle.std.proofs.Common.{◌≡◌, ⊎_elim, ◌+◌, ◌≤◌, ℕ, List, [], ◌∷◌, ◌++◌, length, take, refl, sym, ◌∙◌, ap, subst, arith, length-append}
use Rattle.std.proofs.lemmas.List.{take-append-le}
use Rattle.std.proofs.Math.Seq.{take-append-add}
use Rattle.outside.specs.Files.{Files, SameLasting}
use Rattle.outside.specs.TreeView.{TreeView, Passes, passes_both, told_on}
use Rattle.outside.specs.Quiet.{Effect, after, after_all, HasMade, LeavesPrefix, TellsPrefix}
use Rattle.outside.proofs.Names.{lasting-both}
use Rattle.outside.proofs.Views.{since_split}
use Rattle.outside.proofs.Effects.{after-alike}

pub after_all-append : (es ds : List Effect) (f : Files) → after_all (es ++ ds) f ≡ after_all ds (after_all es f)
after_all-append [] ds f = refl
after_all-append (e ∷ es) ds f = after_all-append es ds (after e f)

after_all-alike : (es : List Effect) (f g : Files) → SameLasting f g → SameLasting (after_all es f) (after_all es g)
after_all-alike [] f g is = is
after_all-alike (e ∷ es) f g is = after_all-alike es (after e f) (after e g) (after-alike e f g is)

-- after the first effects a front of the others is a front of all
module _ {u v w : TreeView} {es : List Effect} (made : HasMade u v es) (passes : Passes v w) (ds : List Effect) where
  later : (f g c : Files) → SameLasting (after_all es f) g → (k : ℕ) × (k ≤ length ds) × SameLasting (after_all (take k ds) g) c → (k : ℕ) × (k ≤ length (es ++ ds)) × SameLasting (after_all (take k (es ++ ds)) f) c
  later f g c alike (k, le, is) = (
    length es + k,
    omega (arith, le, length-append es ds),
    subst (λ (x : Files). SameLasting x c)
        (sym (ap (λ (l : List Effect). after_all l f) (take-append-add es ds k) ∙ after_all-append es (take k ds) f))
        (lasting-both (after_all-alike (take k ds) (after_all es f) g alike) is),
  )

  pub leaves_after : LeavesPrefix v w ds → LeavesPrefix u w (es ++ ds)
  leaves_after leaves f told c left =
      let mid = told_on f made.passes told in
      ⊎_elim
      (λ before.
      let x = made.since f told c before in
      (x.0, omega (arith, x.1, length-append es ds), subst (λ (l : List Effect). SameLasting (after_all l f) c) (sym (take-append-le x.0 es ds x.1)) x.2))
      (λ since. later f mid.0 c (made.live f mid.0 told mid.1) (leaves mid.0 mid.1 c since))
      (since_split passes u.moment c made.passes.later left)

  pub tells_after : TellsPrefix v w ds → TellsPrefix u w (es ++ ds)
  tells_after tells f g told now =
      let mid = told_on f made.passes told in
      later f mid.0 g (made.live f mid.0 told mid.1) (tells mid.0 g mid.1 now)

pub made_both : {u v w : TreeView} {es ds : List Effect} → HasMade u v es → HasMade v w ds → HasMade u w (es ++ ds)
made_both {u = u} {v = v} {w = w} {es = es} {ds = ds} a b = record {
  passes = passes_both a.passes b.passes;
  quiet = b.quiet;
  live = λ f g told now.
      let mid = told_on f a.passes told in
      subst (λ (x : Files). SameLasting x g) (sym (after_all-append es ds f)) (lasting-both (after_all-alike ds (after_all es f) mid.0 (a.live f mid.0 told mid.1)) (b.live mid.0 g mid.1 now));
  since = leaves_after a b.passes ds b.since;
}
