-- What is stripped is the front that holds the slashes and ends with the last of them.
use Rattle.std.proofs.Common.{◌≡◌, ◌↔◌, ℕ, zero, suc, ◌<◌, Bool, true, false, List, [], ◌∷◌, ◌++◌, length, Option, None, Some, refl, sym, ap, subst, ◌∙◌, arith}
use Rattle.outside.specs.Names.{is_slash, is_absolute}
use Rattle.read_file_patch.specs.Stripped.{without_slashes, behind_slash, behind_slashes, slash_count, ends_with_slash, IsStripped}
use Rattle.read_file_patch.proofs.Stripping.{slashes-step, slashes-stop, slashes-nil, behind-step, behind-here, behind-nil, count-zero, count-next, count-none}

-- ---- counting

tally-nil : slash_count [] ≡ 0
unfolding slash_count
tally-nil = refl

tally-other : (b : ℕ) (bs : List ℕ) → is_slash b ≡ false → slash_count (b ∷ bs) ≡ slash_count bs
unfolding slash_count
tally-other b bs h = rw h refl

-- one that another follows counts as that
tally-run : (b : ℕ) (bs : List ℕ) → is_slash b ≡ true → is_absolute bs ≡ true → slash_count (b ∷ bs) ≡ slash_count bs
unfolding slash_count
tally-run b bs h k = rw (h, k) refl

tally-last : (b : ℕ) (bs : List ℕ) → is_slash b ≡ true → is_absolute bs ≡ false → slash_count (b ∷ bs) ≡ suc (slash_count bs)
unfolding slash_count
tally-last b bs h k = rw (h, k) refl

ends-nil : ends_with_slash [] ≡ true
unfolding ends_with_slash
ends-nil = refl

ends-one : (b : ℕ) → ends_with_slash (b ∷ []) ≡ is_slash b
unfolding ends_with_slash
ends-one b = refl

ends-more : (b c : ℕ) (bs : List ℕ) → ends_with_slash (b ∷ c ∷ bs) ≡ ends_with_slash (c ∷ bs)
unfolding ends_with_slash
ends-more b c bs = refl

-- what ends with a slash and isn't empty holds one
holds-some : (b : ℕ) (bs : List ℕ) → ends_with_slash (b ∷ bs) ≡ true → (m : ℕ) × (slash_count (b ∷ bs) ≡ suc m)
holds-some b [] e = (0, tally-last b [] (sym (ends-one b) ∙ e) refl ∙ ap (λ n. suc n) tally-nil)
holds-some b (c ∷ bs) e = by (is_slash b) (is_slash c) refl refl (holds-some c bs (sym (ends-more b c bs) ∙ e))
  where
    by : (v w : Bool) → is_slash b ≡ v → is_slash c ≡ w → (m : ℕ) × (slash_count (c ∷ bs) ≡ suc m) → (m : ℕ) × (slash_count (b ∷ c ∷ bs) ≡ suc m)
    by false w hb hc r = (r.0, tally-other b (c ∷ bs) hb ∙ r.1)
    by true true hb hc r = (r.0, tally-run b (c ∷ bs) hb hc ∙ r.1)
    by true false hb hc r = (suc r.0, tally-last b (c ∷ bs) hb hc ∙ ap (λ n. suc n) r.1)

-- ---- a front is stripped

-- a slash that another follows leads as far as that
behind-run : (b c : ℕ) (bs : List ℕ) → is_slash b ≡ true → is_slash c ≡ true → behind_slash (b ∷ c ∷ bs) ≡ behind_slash (c ∷ bs)
behind-run b c bs hb hc = behind-here b (c ∷ bs) hb ∙ ap (λ (l : List ℕ). Some l) (slashes-step c bs hc) ∙ sym (behind-here c bs hc)

whole-slashes : (bs : List ℕ) → is_absolute bs ≡ false → without_slashes bs ≡ bs
whole-slashes [] h = slashes-nil
whole-slashes (b ∷ bs) h = slashes-stop b bs h

behind-last : (b : ℕ) (bs : List ℕ) → is_slash b ≡ true → is_absolute bs ≡ false → behind_slash (b ∷ bs) ≡ Some bs
behind-last b bs hb h = behind-here b bs hb ∙ ap (λ (l : List ℕ). Some l) (whole-slashes bs h)

-- texts behind whose first slash the same stands
same-count : (n m : ℕ) (text other : List ℕ) → n ≡ suc m → behind_slash text ≡ behind_slash other → behind_slashes n text ≡ behind_slashes n other
same-count n m text other is h = by (behind_slash other) refl
  where
    by : (o : Option (List ℕ)) → behind_slash other ≡ o → behind_slashes n text ≡ behind_slashes n other
    by None e = ap (λ k. behind_slashes k text) is ∙ count-none m text (h ∙ e) ∙ sym (count-none m other e) ∙ ap (λ k. behind_slashes k other) (sym is)
    by (Some rest) e = ap (λ k. behind_slashes k text) is ∙ count-next m text rest (h ∙ e) ∙ sym (count-next m other rest e) ∙ ap (λ k. behind_slashes k other) (sym is)

strips-front : (front left : List ℕ) → ends_with_slash front ≡ true → (0 < length front → is_absolute left ≡ false) → behind_slashes (slash_count front) (front ++ left) ≡ Some left
strips-front [] left e whole = ap (λ n. behind_slashes n left) tally-nil ∙ count-zero left
strips-front (b ∷ []) left e whole =
    let hb : is_slash b ≡ true = sym (ends-one b) ∙ e in
    ap (λ n. behind_slashes n (b ∷ left)) (tally-last b [] hb refl ∙ ap (λ n. suc n) tally-nil)
    ∙ count-next 0 (b ∷ left) left (behind-last b left hb (whole (omega arith)))
    ∙ count-zero left
strips-front (b ∷ c ∷ bs) left e whole =
    let ends = sym (ends-more b c bs) ∙ e in
    by (is_slash b) (is_slash c) refl refl (holds-some c bs ends) (strips-front (c ∷ bs) left ends (λ lt. whole (omega arith)))
  where
    by : (v w : Bool) → is_slash b ≡ v → is_slash c ≡ w → (m : ℕ) × (slash_count (c ∷ bs) ≡ suc m) → behind_slashes (slash_count (c ∷ bs)) (c ∷ (bs ++ left)) ≡ Some left
        → behind_slashes (slash_count (b ∷ c ∷ bs)) (b ∷ c ∷ (bs ++ left)) ≡ Some left
    by false w hb hc r more =
        ap (λ n. behind_slashes n (b ∷ c ∷ (bs ++ left))) (tally-other b (c ∷ bs) hb)
        ∙ same-count (slash_count (c ∷ bs)) r.0 (b ∷ c ∷ (bs ++ left)) (c ∷ (bs ++ left)) r.1 (behind-step b (c ∷ (bs ++ left)) hb) ∙ more
    by true true hb hc r more =
        ap (λ n. behind_slashes n (b ∷ c ∷ (bs ++ left))) (tally-run b (c ∷ bs) hb hc)
        ∙ same-count (slash_count (c ∷ bs)) r.0 (b ∷ c ∷ (bs ++ left)) (c ∷ (bs ++ left)) r.1 (behind-run b c (bs ++ left) hb hc) ∙ more
    by true false hb hc r more =
        ap (λ n. behind_slashes n (b ∷ c ∷ (bs ++ left))) (tally-last b (c ∷ bs) hb hc)
        ∙ count-next (slash_count (c ∷ bs)) (b ∷ c ∷ (bs ++ left)) (c ∷ (bs ++ left)) (behind-last b (c ∷ (bs ++ left)) hb hc) ∙ more

stripped-so : (n : ℕ) (text left : List ℕ) → IsStripped n text left → behind_slashes n text ≡ Some left
stripped-so n text left s =
    ap (λ (l : List ℕ). behind_slashes n l) s.parts ∙ ap (λ k. behind_slashes k (s.front ++ left)) (sym s.count) ∙ strips-front s.front left s.last s.whole

-- ---- what is stripped is a front

nothing-stripped : (text left : List ℕ) → behind_slashes 0 text ≡ Some left → IsStripped 0 text left
nothing-stripped text left h =
    let same : ◌≡◌ {A = Option (List ℕ)} (Some text) (Some left) = sym (count-zero text) ∙ h in
    let is : text ≡ left = cc in
    record { front = []; parts = is; count = tally-nil; last = ends-nil; whole = λ lt. absurd (omega (arith, lt)) }

-- a front of one slash or more isn't empty
front-some : (n : ℕ) (text left : List ℕ) → (s : IsStripped (suc n) text left) → (b : ℕ) × (bs : List ℕ) × (s.front ≡ b ∷ bs)
front-some n text left s = by s.front refl
  where
    by : (f : List ℕ) → s.front ≡ f → (b : ℕ) × (bs : List ℕ) × (s.front ≡ b ∷ bs)
    by [] is = absurd (omega (arith, sym s.count ∙ ap (λ (l : List ℕ). slash_count l) is ∙ tally-nil))
    by (b ∷ bs) is = (b, bs, is)

-- a byte more at the front that adds no slash
longer-front : (n b : ℕ) (text left : List ℕ) → (s : IsStripped (suc n) text left) → slash_count (b ∷ s.front) ≡ slash_count s.front → IsStripped (suc n) (b ∷ text) left
longer-front n b text left s same =
    let f = front-some n text left s in
    record {
      front = b ∷ s.front;
      parts = ap (λ (l : List ℕ). b ∷ l) s.parts;
      count = same ∙ s.count;
      last = ap (λ (l : List ℕ). ends_with_slash (b ∷ l)) f.2 ∙ ends-more b f.0 f.1 ∙ ap (λ (l : List ℕ). ends_with_slash l) (sym f.2) ∙ s.last;
      whole = λ lt. s.whole (omega (arith, ap (λ (l : List ℕ). length l) f.2));
    }

-- a slash more, which no other follows
slash-more : (n b : ℕ) (text left : List ℕ) → is_slash b ≡ true → is_absolute text ≡ false → (s : IsStripped n text left) → IsStripped (suc n) (b ∷ text) left
slash-more n b text left hb h s = by s.front refl
  where
    by : (f : List ℕ) → s.front ≡ f → IsStripped (suc n) (b ∷ text) left
    by [] is =
        let same : text ≡ left = s.parts ∙ ap (λ (l : List ℕ). l ++ left) is in
        let none : n ≡ 0 = sym s.count ∙ ap (λ (l : List ℕ). slash_count l) is ∙ tally-nil in
        record {
          front = b ∷ [];
          parts = ap (λ (l : List ℕ). b ∷ l) same;
          count = tally-last b [] hb refl ∙ ap (λ k. suc k) (tally-nil ∙ sym none);
          last = ends-one b ∙ hb;
          whole = λ lt. subst (λ (l : List ℕ). is_absolute l ≡ false) same h;
        }
    by (c ∷ cs) is =
        let split : text ≡ c ∷ (cs ++ left) = s.parts ∙ ap (λ (l : List ℕ). l ++ left) is in
        let hc : is_slash c ≡ false = subst (λ (l : List ℕ). is_absolute l ≡ false) split h in
        record {
          front = b ∷ c ∷ cs;
          parts = ap (λ (l : List ℕ). b ∷ l) split;
          count = tally-last b (c ∷ cs) hb hc ∙ ap (λ k. suc k) (ap (λ (l : List ℕ). slash_count l) (sym is) ∙ s.count);
          last = ends-more b c cs ∙ ap (λ (l : List ℕ). ends_with_slash l) (sym is) ∙ s.last;
          whole = λ lt. s.whole (omega (arith, ap (λ (l : List ℕ). length l) is));
        }

so-stripped : (n : ℕ) (text left : List ℕ) → behind_slashes n text ≡ Some left → IsStripped n text left
so-stripped zero text left h = nothing-stripped text left h
so-stripped (suc n) [] left h = absurd (let e = sym (count-none n [] behind-nil) ∙ h in cc)
so-stripped (suc n) (b ∷ []) left h = by (is_slash b) refl (so-stripped n [] left)
  where
    by : (v : Bool) → is_slash b ≡ v → (behind_slashes n [] ≡ Some left → IsStripped n [] left) → IsStripped (suc n) (b ∷ []) left
    by false hb rest = absurd (let e = sym (count-none n (b ∷ []) (behind-step b [] hb ∙ behind-nil)) ∙ h in cc)
    by true hb rest = slash-more n b [] left hb refl (rest (sym (count-next n (b ∷ []) [] (behind-last b [] hb refl)) ∙ h))
so-stripped (suc n) (b ∷ c ∷ bs) left h = by (is_slash b) (is_slash c) refl refl (so-stripped (suc n) (c ∷ bs) left) (so-stripped n (c ∷ bs) left)
  where
    from_next : behind_slash (b ∷ c ∷ bs) ≡ behind_slash (c ∷ bs) → behind_slashes (suc n) (c ∷ bs) ≡ Some left
    from_next same = sym (same-count (suc n) n (b ∷ c ∷ bs) (c ∷ bs) refl same) ∙ h

    run-tally : is_slash b ≡ true → is_slash c ≡ true → (s : IsStripped (suc n) (c ∷ bs) left) → slash_count (b ∷ s.front) ≡ slash_count s.front
    run-tally hb hc s =
        let f = front-some n (c ∷ bs) left s in
        let split : ◌≡◌ {A = List ℕ} (c ∷ bs) (f.0 ∷ (f.1 ++ left)) = s.parts ∙ ap (λ (l : List ℕ). l ++ left) f.2 in
        let first : c ≡ f.0 = cc in
        let also : is_slash f.0 ≡ true = ap (λ x. is_slash x) (sym first) ∙ hc in
        ap (λ (l : List ℕ). slash_count (b ∷ l)) f.2 ∙ tally-run b (f.0 ∷ f.1) hb also ∙ ap (λ (l : List ℕ). slash_count l) (sym f.2)

    by : (v w : Bool) → is_slash b ≡ v → is_slash c ≡ w → (behind_slashes (suc n) (c ∷ bs) ≡ Some left → IsStripped (suc n) (c ∷ bs) left) → (behind_slashes n (c ∷ bs) ≡ Some left → IsStripped n (c ∷ bs) left) → IsStripped (suc n) (b ∷ c ∷ bs) left
    by false w hb hc next rest = let s = next (from_next (behind-step b (c ∷ bs) hb)) in longer-front n b (c ∷ bs) left s (tally-other b s.front hb)
    by true true hb hc next rest = let s = next (from_next (behind-run b c bs hb hc)) in longer-front n b (c ∷ bs) left s (run-tally hb hc s)
    by true false hb hc next rest = slash-more n b (c ∷ bs) left hb hc (rest (sym (count-next n (b ∷ c ∷ bs) (c ∷ bs) (behind-last b (c ∷ bs) hb hc)) ∙ h))

pub fronts : (n : ℕ) (text left : List ℕ) → (behind_slashes n text ≡ Some left) ↔ IsStripped n text left
fronts n text left = (so-stripped n text left, stripped-so n text left)
