-- Lines filled in, one behind another.
use Rattle.std.proofs.Common.{◌≡◌, ℕ, zero, suc, ◌+◌, ◌-◌, ◌*◌, ◌^◌, ◌<◌, ◌≤◌, List, [], ◌∷◌, ◌++◌, length, take, drop, min, max, Option, None, Some, is_some, refl, sym, ap, subst, ◌∙◌, arith, append_assoc, length-append, length-drop}
use Rattle.std.proofs.lemmas.Bool.{false≢true}
use Rattle.std.proofs.lemmas.List.{append-nil, take_all, drop_all, take-append-le, drop-append-le, length-take}
use Rattle.std.proofs.lemmas.List.Concat.{flat_map-append}
use Rattle.std.specs.List.{flat_map, range_with_len}
use Rattle.page_pair.proofs.Windows.{told-before}
use Rattle.plan_b.specs.declared.layout.Layout.{Layout}
use Rattle.plan_b.specs.declared.filling.Filling.{Filling}
use Rattle.page_pair.specs.Records.{longest, padded, record_of}
use Rattle.plan_b.specs.Pages.{page_with, lines_on, front_pages}
use Rattle.page_pair.specs.Records.{Extends}
use Rattle.plan_b.specs.Filling.{IsReady, IsFilled}
use Rattle.page_pair.proofs.LongLines.{longest-more}
use Rattle.page_pair.proofs.Records.{record-length, padded-length}

pub once-more : (a q : ℕ) → (a + 1) * q ≡ a * q + q
once-more a q = grind arith

on-kept : (q : ℕ) (ls more : List (List ℕ)) (j : ℕ) → j * q + q ≤ length ls → lines_on q (ls ++ more) j ≡ lines_on q ls j
unfolding lines_on
on-kept q ls more j le =
    let left : length (drop (j * q) ls) ≡ length ls - j * q = length-drop (j * q) ls in
    ap (take q) (drop-append-le (j * q) ls more (omega arith)) ∙ take-append-le q (drop (j * q) ls) more (omega arith)

pages-kept : (size width q : ℕ) (ls more : List (List ℕ)) (a n : ℕ) → (a + n) * q ≤ length ls → flat_map (λ j. page_with size width (lines_on q (ls ++ more) j)) (range_with_len a n) ≡ flat_map (λ j. page_with size width (lines_on q ls j)) (range_with_len a n)
pages-kept size width q ls more a zero le = refl
pages-kept size width q ls more a (suc n) le =
    let e : a + suc n ≡ (a + 1) + n = omega arith in
    let f : (a + suc n) * q ≡ a * q + q + n * q = grind arith in
    let here : lines_on q (ls ++ more) a ≡ lines_on q ls a = on-kept q ls more a (omega arith) in
    ap (λ l. page_with size width l ++ flat_map (λ j. page_with size width (lines_on q (ls ++ more) j)) (range_with_len (a + 1) n)) here
    ∙ ap (λ l. page_with size width (lines_on q ls a) ++ l) (pages-kept size width q ls more (a + 1) n (subst (λ k. k * q ≤ length ls) e le))

pub front-kept : (size width q : ℕ) (ls more : List (List ℕ)) (n : ℕ) → n * q ≤ length ls → front_pages size width q (ls ++ more) n ≡ front_pages size width q ls n
unfolding front_pages
front-kept size width q ls more n le = let z : (0 + n) * q ≤ length ls = (let e : 0 + n ≡ n = omega arith in rw e le) in pages-kept size width q ls more 0 n z

range-more : (f : ℕ → List ℕ) (a n : ℕ) → flat_map f (range_with_len a (n + 1)) ≡ flat_map f (range_with_len a n) ++ f (a + n)
range-more f a zero = let e : a + zero ≡ a = omega arith in rw e (append-nil (f a))
range-more f a (suc n) =
    let e : a + 1 + n ≡ a + suc n = omega arith in
    let s : suc n + 1 ≡ suc (n + 1) = omega arith in
    ap (λ k. flat_map f (range_with_len a k)) s
    ∙ ap (λ l. f a ++ l) (range-more f (a + 1) n)
    ∙ ap (λ k. f a ++ (flat_map f (range_with_len (a + 1) n) ++ f k)) e
    ∙ sym (append_assoc (f a) (flat_map f (range_with_len (a + 1) n)) (f (a + suc n)))

pub front-more : (size width q : ℕ) (ls : List (List ℕ)) (n : ℕ) → front_pages size width q ls (n + 1) ≡ front_pages size width q ls n ++ page_with size width (lines_on q ls n)
unfolding front_pages
front-more size width q ls n = let e : 0 + n ≡ n = omega arith in range-more (λ j. page_with size width (lines_on q ls j)) 0 n ∙ ap (λ k. flat_map (λ j. page_with size width (lines_on q ls j)) (range_with_len 0 n) ++ page_with size width (lines_on q ls k)) e

-- one record more on the page
pub filled-more : (l : Layout) (told : Option (List ℕ)) (page next line : List ℕ) (f g : Filling) (ls : List (List ℕ)) → g.pages ≡ f.pages → g.records ≡ f.records + 1 → length line + 4 ≤ l.width → Extends page next (f.records * l.width) (record_of l.width line) → IsFilled l told page f ls → IsFilled l told next g (ls ++ line ∷ [])
filled-more l told page next line f g ls same more fits made was =
    let n : length (ls ++ line ∷ []) ≡ length ls + 1 = length-append ls (line ∷ []) in
    let c : length ls ≡ f.pages * l.per_page + f.records = was.counted in
    let front : f.pages * l.per_page ≤ length ls = omega arith in
    let pages : g.pages * l.per_page ≡ f.pages * l.per_page = ap (λ n. n * l.per_page) same in
    let wide : length (record_of l.width line) ≡ l.width = record-length l.width line (omega arith) in
    let place : g.records * l.width ≡ f.records * l.width + length (record_of l.width line) = ap (λ n. n * l.width) more ∙ once-more f.records l.width ∙ ap (λ n. f.records * l.width + n) (sym wide) in
    record {
      counted = omega arith;
      narrow = (let a : longest (ls ++ line ∷ []) ≡ max (longest ls) (length line) = longest-more ls line in let b : 4 + longest ls ≤ l.width = was.narrow in omega arith);
      last = ap (λ k. take k next) place ∙ made.is ∙ ap (λ r. r ++ record_of l.width line) was.last
          ∙ ap (λ r. flat_map (record_of l.width) (drop (f.pages * l.per_page) ls) ++ r) (sym (append-nil (record_of l.width line)))
          ∙ sym (flat_map-append (record_of l.width) (drop (f.pages * l.per_page) ls) (line ∷ []))
          ∙ ap (flat_map (record_of l.width)) (sym (drop-append-le (f.pages * l.per_page) ls (line ∷ []) front))
          ∙ ap (λ k. flat_map (record_of l.width) (drop k (ls ++ line ∷ []))) (sym pages);
      front = λ b is. was.front b is ∙ sym (front-kept l.size l.width l.per_page ls (line ∷ []) f.pages front) ∙ ap (front_pages l.size l.width l.per_page (ls ++ line ∷ [])) (sym same);
    }

-- the page that holds the last lines
last-page : (l : Layout) (told : Option (List ℕ)) (page : List ℕ) (f : Filling) (ls : List (List ℕ)) → f.records ≤ l.per_page → IsFilled l told page f ls → padded l.size (take (f.records * l.width) page) ≡ page_with l.size l.width (lines_on l.per_page ls f.pages)
unfolding page_with lines_on
last-page l told page f ls le was =
    let left : length (drop (f.pages * l.per_page) ls) ≡ length ls - f.pages * l.per_page = length-drop (f.pages * l.per_page) ls in
    let c : length ls ≡ f.pages * l.per_page + f.records = was.counted in
    ap (padded l.size) (was.last ∙ ap (flat_map (record_of l.width)) (sym (take_all l.per_page (drop (f.pages * l.per_page) ls) (omega arith))))

-- the page is written
pub page-flushed : (l : Layout) (told now : Option (List ℕ)) (page : List ℕ) (f : Filling) (ls : List (List ℕ)) → f.records ≤ l.per_page → is_some now ≡ is_some told → ((b : List ℕ) → told ≡ Some b → now ≡ Some (b ++ padded l.size (take (f.records * l.width) page))) → IsFilled l told page f ls → (b : List ℕ) → now ≡ Some b → b ≡ front_pages l.size l.width l.per_page ls (f.pages + 1)
page-flushed l told now page f ls le telling written was b is =
    let a = told-before told now b telling is in
    let both : Some b ≡ Some (a.0 ++ padded l.size (take (f.records * l.width) page)) = sym is ∙ written a.0 a.1 in
    let same : b ≡ a.0 ++ padded l.size (take (f.records * l.width) page) = cc in
    same ∙ ap (λ x. x ++ padded l.size (take (f.records * l.width) page)) (was.front a.0 a.1)
    ∙ ap (λ x. front_pages l.size l.width l.per_page ls f.pages ++ x) (last-page l told page f ls le was)
    ∙ sym (front-more l.size l.width l.per_page ls f.pages)

-- a full page is written
pub filled-full : (l : Layout) (told now : Option (List ℕ)) (page next : List ℕ) (f g : Filling) (ls : List (List ℕ)) → f.records ≡ l.per_page → g.pages ≡ f.pages + 1 → g.records ≡ 0 → is_some now ≡ is_some told → ((b : List ℕ) → told ≡ Some b → now ≡ Some (b ++ padded l.size (take (f.records * l.width) page))) → IsFilled l told page f ls → IsFilled l now next g ls
filled-full l told now page next f g ls full pages none telling written was =
    let c : length ls ≡ f.pages * l.per_page + f.records = was.counted in
    let m : g.pages * l.per_page ≡ f.pages * l.per_page + l.per_page = ap (λ n. n * l.per_page) pages ∙ once-more f.pages l.per_page in
    let z : g.records * l.width ≡ 0 = (ap (λ n. n * l.width) none ∙ omega arith) in
    record {
      counted = omega arith;
      narrow = was.narrow;
      last = ap (λ k. take k next) z ∙ ap (flat_map (record_of l.width)) (sym (drop_all (g.pages * l.per_page) ls (omega arith)));
      front = λ b is. page-flushed l told now page f ls (omega arith) telling written was b is ∙ ap (front_pages l.size l.width l.per_page ls) (sym pages);
    }

pub ready-full : (l : Layout) (told now : Option (List ℕ)) (page : List ℕ) (filled : ℕ) (f g : Filling) → filled ≤ l.size → 0 < l.per_page → g.pages ≡ f.pages + 1 → g.records ≡ 0 → f.records + 1 ≡ l.per_page → f.pages * l.per_page + f.records < 2 ^ 40 → is_some now ≡ is_some told → ((b : List ℕ) → told ≡ Some b → now ≡ Some (b ++ padded l.size (take filled page))) → IsReady l told f → IsReady l now g
ready-full l told now page filled f g le some pages none full few telling written was =
    let m : g.pages * l.per_page ≡ f.pages * l.per_page + l.per_page = ap (λ n. n * l.per_page) pages ∙ once-more f.pages l.per_page in
    record {
      some = omega arith;
      few = omega arith;
      behind = λ b is.
          let a = told-before told now b telling is in
          let both : Some b ≡ Some (a.0 ++ padded l.size (take filled page)) = sym is ∙ written a.0 a.1 in
          let same : b ≡ a.0 ++ padded l.size (take filled page) = cc in
          let front : length a.0 ≡ f.pages * l.size = was.behind a.0 a.1 in
          let short : length (take filled page) ≡ min filled (length page) = length-take filled page in
          let last : length (padded l.size (take filled page)) ≡ l.size = padded-length l.size (take filled page) (omega arith) in
          ap length same ∙ length-append a.0 (padded l.size (take filled page)) ∙ (ap (λ n. length a.0 + n) last) ∙ ap (λ n. n + l.size) front ∙ sym (once-more f.pages l.size) ∙ ap (λ n. n * l.size) (sym pages);
    }
