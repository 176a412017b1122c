-- Effects that are put one after another.
use Rattle.std.proofs.Common.{◌≡◌, inl, inr, ⊎_elim, ℕ, zero, suc, ◌+◌, ◌-◌, ◌<◌, List, [], ◌∷◌, ◌++◌, map, true, false, Some, Result, Ok, Err, IsErr, OnOk, refl, sym, ◌∙◌, ap, subst, arith, append_assoc}
use Rattle.std.specs.List.{range_with_len}
use Rattle.std.specs.FinMap.{get, insert, remove}
use Rattle.std.proofs.lemmas.Option.{same_Some}
use Rattle.std.proofs.lemmas.List.{map-append}
use Rattle.std.proofs.lemmas.List.FromFn.{map-range_with_len_more}
use Rattle.outside.specs.Files.{Files, SameLasting, is_temp, temp_of}
use Rattle.outside.specs.TreeView.{TreeView, IsRun, passes_none, passes_both}
use Rattle.outside.specs.Calls.{Becomes}
use Rattle.outside.specs.Quiet.{Effect, IsQuiet, HasMade, MakesEffect, after}
use Rattle.outside.specs.Quiet.Effect.{Put}
use Rattle.outside.proofs.Names.{lasting-same}
use Rattle.outside.proofs.Views.{rises_then}
use Rattle.outside.proofs.Effects.{after_all-push, made_none, made_since, made_tells, made_tells_all, since_longer, tells_longer}
use Rattle.apply_task.specs.Making.{IsTidy}
use Rattle.apply_task.proofs.Tidy.{tidy_none, tidy_both, put_if_tidy}
use Rattle.cli_tool_words.specs.PlainJobs.{PlainGenJob}
use Rattle.patch_gen.specs.Patches.{file_name}
use Rattle.patch_gen.specs.Tree.{made_file}
use Rattle.cli_gen.specs.Command.{file_put, file_puts}
use Rattle.cli_gen.specs.Putting.{PutsOne, PutsAll}

-- ---- one put

-- it leaves no temporary behind
put_tidy : (u w : TreeView) (name bytes : List ℕ) → is_temp name ≡ false → Becomes u w (after (Put name bytes)) → IsTidy u w
put_tidy u w name bytes lasting becomes f g told now q is =
    let at : get g q ≡ get (after (Put name bytes) f) q = ap (λ (h : Files). get h q) (same_Some _ _ (sym now ∙ becomes f told)) in
    ⊎_elim (λ none. inl (at ∙ none)) (λ same. inr (at ∙ same)) (put_if_tidy true name bytes lasting f q is)

module _ {R E : Type 0} (name temp bytes : List ℕ) (is : temp ≡ temp_of name) (lasting : is_temp name ≡ false) {t u : TreeView} where
  pub put_one : (r : Result R E) → IsRun t u r → MakesEffect t u r (Put name bytes) → OnOk r (Becomes t u (λ f. remove (insert f name bytes) temp)) → PutsOne (Put name bytes) t u r
  put_one (Ok x) run makes becomes =
      let done : Becomes t u (after (Put name bytes)) = subst (λ (n : List ℕ). Becomes t u (λ f. remove (insert f name bytes) n)) is becomes in
      record { tree = run.passes; cause = run.cause; quiet = makes.quiet; done = done; tidy = put_tidy t u name bytes lasting done; tells = makes.either; leaves = makes.since }
  put_one (Err e) run makes becomes = record { tree = run.passes; cause = run.cause; quiet = tt; done = tt; tidy = tt; tells = makes.either; leaves = makes.since }

-- ---- one after another

pub puts_none : {R E : Type 0} (z : R) (t : TreeView) → IsQuiet t → PutsAll {R = R} {E = E} [] t t (Ok z)
puts_none z t quiet = record {
  tree = passes_none t;
  cause = λ err. absurd (cc);
  quiet = quiet;
  done = λ f told. told;
  tidy = tidy_none t;
  tells = made_tells_all t t [] (made_none t quiet);
  leaves = (made_none t quiet).since;
}

-- what is put is on the disk
pub put_made : {R E : Type 0} {z : R} (es : List Effect) (t u : TreeView) → PutsAll {R = R} {E = E} es t u (Ok z) → HasMade t u es
put_made es t u p = record {
  passes = p.tree;
  quiet = p.quiet;
  live = λ f g told now. subst (λ (x : Files). SameLasting x g) (same_Some _ _ (sym now ∙ p.done f told)) (lasting-same g);
  since = p.leaves;
}

module _ {R E : Type 0} {z : R} (es : List Effect) (t u w : TreeView) (p : PutsAll {R = R} {E = E} es t u (Ok z)) (e : Effect) where
  pub puts_more : {A B : Type 0} (y : A) → PutsOne {R = A} {E = B} e u w (Ok y) → PutsAll {R = R} {E = E} (es ++ e ∷ []) t w (Ok z)
  puts_more y one = record {
    tree = passes_both p.tree one.tree;
    cause = λ err. absurd (cc);
    quiet = one.quiet;
    done = λ f told. one.done _ (p.done f told) ∙ ap (λ (g : Files). Some g) (sym (after_all-push es e f));
    tidy = tidy_both t u w p.tree p.tidy one.tidy;
    tells = made_tells t u w es e (put_made es t u p) one.tree one.tells;
    leaves = made_since t u w es e (put_made es t u p) one.tree one.leaves;
  }

  pub puts_cut : {A B C D : Type 0} (rest all : List Effect) → all ≡ es ++ e ∷ rest → (x : B) → PutsOne {R = A} {E = B} e u w (Err x) → (s : Result C D) → IsErr s → PutsAll all t w s
  puts_cut rest all is x one (Ok v) err = absurd (cc)
  puts_cut rest all is x one (Err v) err =
      let parted : all ≡ (es ++ e ∷ []) ++ rest = is ∙ sym (append_assoc es (e ∷ []) rest) in
      record {
        tree = passes_both p.tree one.tree;
        cause = λ any. rises_then t u w p.tree (one.cause refl);
        quiet = tt;
        done = tt;
        tidy = tt;
        tells = tells_longer t w (es ++ e ∷ []) rest all parted (made_tells t u w es e (put_made es t u p) one.tree one.tells);
        leaves = since_longer t w (es ++ e ∷ []) rest all parted (made_since t u w es e (put_made es t u p) one.tree one.leaves);
      }

-- ---- the files by their numbers

pub same_put : {R E : Type 0} (j : PlainGenJob) (i : ℕ) (name bytes : List ℕ) {t u : TreeView} {r : Result R E} → name ≡ file_name i → bytes ≡ made_file j.seed j.lines i → PutsOne (Put name bytes) t u r → PutsOne (file_put j i) t u r
same_put j i name bytes {t = t} {u = u} {r = r} named made one =
    subst (λ (n : List ℕ). PutsOne (Put n (made_file j.seed j.lines i)) t u r) named (subst (λ (l : List ℕ). PutsOne (Put name l) t u r) made one)

range-split : (a m n : ℕ) → range_with_len a (m + n) ≡ range_with_len a m ++ range_with_len (a + m) n
range-split a zero n = let here : a + 0 ≡ a = omega arith in let all : 0 + n ≡ n = omega arith in ap (range_with_len a) all ∙ ap (λ k. range_with_len k n) (sym here)
range-split a (suc m) n =
    let all : suc m + n ≡ suc (m + n) = omega arith in
    let on : a + 1 + m ≡ a + suc m = omega arith in
    ap (range_with_len a) all ∙ ap (λ l. a ∷ l) (range-split (a + 1) m n ∙ ap (λ k. range_with_len (a + 1) m ++ range_with_len k n) on)

pub files_more : (j : PlainGenJob) (n : ℕ) → map (file_put j) (range_with_len 1 n) ++ file_put j (n + 1) ∷ [] ≡ map (file_put j) (range_with_len 1 (n + 1))
files_more j n = sym (map-range_with_len_more (file_put j) 1 n (n + 1) (omega arith))

-- the files behind the first ones and the next
abbrev pub others : PlainGenJob → ℕ → List Effect
others j n = map (file_put j) (range_with_len (n + 2) (j.files - (n + 1)))

pub files_all : (j : PlainGenJob) (n : ℕ) → n < j.files → file_puts j ≡ map (file_put j) (range_with_len 1 n) ++ file_put j (n + 1) ∷ others j n
files_all j n lt =
    let count : j.files ≡ n + 1 + (j.files - (n + 1)) = omega (arith, lt) in
    let next : 1 + (n + 1) ≡ n + 2 = omega arith in
    ap (λ k. map (file_put j) (range_with_len 1 k)) count
    ∙ ap (map (file_put j)) (range-split 1 (n + 1) (j.files - (n + 1)))
    ∙ map-append (file_put j) (range_with_len 1 (n + 1)) (range_with_len (1 + (n + 1)) (j.files - (n + 1)))
    ∙ ap (λ k. map (file_put j) (range_with_len 1 (n + 1)) ++ map (file_put j) (range_with_len k (j.files - (n + 1)))) next
    ∙ ap (λ (es : List Effect). es ++ others j n) (sym (files_more j n))
    ∙ append_assoc (map (file_put j) (range_with_len 1 n)) (file_put j (n + 1) ∷ []) (others j n)
