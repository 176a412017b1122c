-- File patches that are named one after another.
use Rattle.std.proofs.Common.{◌≡◌, ℕ, ◌+◌, ◌<◌, List, [], ◌∷◌, ◌++◌, map, take, drop, length, get_or, set, sym, ap, ◌∙◌, arith}
use Rattle.std.proofs.lemmas.List.{map-append, flat_map_more, take_more, take_more_set, drop-set-lt, drop-drop, get_or-drop, append-nil, take_all}
use Rattle.std.proofs.Math.Seq.{drop-length}
use Rattle.read_file_patch.specs.declared.FilePatch.{FilePatch}
use Rattle.read_file_patch.specs.PlainPatch.{patch_of, header_of}
use Rattle.patch_options.specs.PlainJob.{PlainOptions}
use Rattle.read_file_patch.specs.Numbered.{joined_by}
use Rattle.patch_set.specs.Named.{patch_names, names_of}
use Rattle.patch_set.specs.Naming.{IsNamed}
use Rattle.patch_set.proofs.Joined.{joined-append}
use Rattle.patch_set.proofs.Named.{HaveNames, names-more}

at-front : (i : ℕ) (ps : List FilePatch) (p : FilePatch) → get_or (drop i ps) 0 p ≡ get_or ps i p
at-front i ps p = let same : i + 0 ≡ i = omega arith in get_or-drop i ps 0 p ∙ ap (λ k. get_or ps k p) same

one-more : (o : PlainOptions) (text : List ℕ) (ps : List FilePatch) (p : FilePatch)
    → patch_names o (map (patch_of text) (ps ++ p ∷ [])) ≡ patch_names o (map (patch_of text) ps) ++ names_of o (header_of text p.header)
one-more o text ps p =
    ap (patch_names o) (map-append (patch_of text) ps (p ∷ []))
    ∙ sym (flat_map_more (λ r. names_of o r.header) [] (map (patch_of text) ps) (patch_of text p))

-- the file patches are named up to a place: what they were first, and what they are
pub record AreWalked (o : PlainOptions) (text : List ℕ) (first known : List (List ℕ)) (i : ℕ) (ps qs : List FilePatch) : Type 0 where
  pub joined : known ≡ joined_by first (patch_names o (map (patch_of text) (take i ps)))
  pub named : HaveNames o text known (take i ps) (take i qs)
  pub rest : drop i qs ≡ drop i ps

-- the same for the next
pub walked-more : (o : PlainOptions) (text : List ℕ) (first known later : List (List ℕ)) (i : ℕ) (ps qs : List FilePatch) (p q : FilePatch)
    → AreWalked o text first known i ps qs → length qs ≡ length ps → i < length ps → p ≡ get_or qs i p
    → later ≡ joined_by known (names_of o (header_of text p.header))
    → ((others : List (List ℕ)) → IsNamed o text (joined_by later others) p q)
    → AreWalked o text first later (i + 1) ps (set qs i q)
walked-more o text first known later i ps qs p q w same lt here is one =
    let names = patch_names o (map (patch_of text) (take i ps)) in
    let there : p ≡ get_or ps i p =
    here ∙ sym (at-front i qs p) ∙ ap (λ l. get_or l 0 p) w.rest ∙ at-front i ps p in
    let more : take (i + 1) ps ≡ take i ps ++ p ∷ [] = take_more ps i p lt ∙ ap (λ r. take i ps ++ r ∷ []) (sym there) in
    let all : later ≡ joined_by first (patch_names o (map (patch_of text) (take i ps ++ p ∷ []))) =
    is ∙ ap (λ k. joined_by k (names_of o (header_of text p.header))) w.joined ∙ sym (joined-append first names (names_of o (header_of text p.header)))
    ∙ ap (joined_by first) (sym (one-more o text (take i ps) p)) in
    record {
      joined = rw more all;
      named = rw (more, take_more_set qs i q (omega arith)) (names-more o text known later (take i ps) (take i qs) p q w.named is one);
      rest = drop-set-lt (i + 1) qs i q (omega arith) ∙ sym (drop-drop 1 i qs) ∙ ap (λ l. drop 1 l) w.rest ∙ drop-drop 1 i ps;
    }

-- what a vector holds once all of it was lent and given back
pub all-back : (n : ℕ) (news olds : List FilePatch) → length news ≡ length olds → n ≡ length olds → take n (news ++ drop (length news) olds) ≡ news
all-back n news olds same count =
    let none : drop (length news) olds ≡ [] = ap (λ k. drop k olds) same ∙ drop-length olds in
    ap (λ l. take n (news ++ l)) none ∙ ap (λ l. take n l) (append-nil news) ∙ take_all n news (omega arith)
