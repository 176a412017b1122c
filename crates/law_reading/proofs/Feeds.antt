-- The lines of a hunk that was read have a line feed at most at their ends.
use Rattle.std.proofs.Common.{◌≡◌, ◌⊎◌, inl, inr, ℕ, suc, ◌-◌, ◌<◌, Bool, true, false, cond, eqb, List, [], ◌∷◌, ◌++◌, length, take, refl, sym, ap, subst, ◌∙◌, arith}
use Rattle.std.specs.List.{AllByRecursion}
use Rattle.std.proofs.Math.Seq.{take-append_seam}
use Rattle.std.proofs.lemmas.List.{length-append}
use Rattle.line_list.specs.Lines.{ArePieces, IsLine}
use Rattle.line_list.proofs.WholeLines.{IsPieceLine, ArePieceLines, pieces-all, front-all, rest-all, no-feed-take, NoFeed}
use Rattle.hunk_core.specs.Rules.{HasNoInnerFeed}
use Rattle.hunk_core.specs.LineTests.{unended}
use Rattle.hunk_core.specs.PlainHunk.{Marked, PlainHunk}
use Rattle.hunk_core.specs.Sides.{is_on_side}
use Rattle.hunk_core.specs.declared.Mark.{Mark}
use Rattle.hunk_core.specs.declared.Mark.TheVariants.{Keep, Drop, Add}
use Rattle.hunk_core.specs.declared.Side.{Side}
use Rattle.hunk_core.specs.declared.Side.TheVariants.{Forward, Reversed}
use Rattle.hunk_core.specs.declared.command.Action.{Action}
use Rattle.hunk_core.specs.declared.command.Action.TheVariants as actions
use Rattle.unified_form.specs.Grammar as unified
use Rattle.normal_form.specs.Grammar as normal
use Rattle.normal_form.specs.Stretches.{marks}
use Rattle.context_form.specs.Grammar as context
use Rattle.context_form.specs.Parts.{behind_blank}
use Rattle.context_form.specs.Merging.{part_of}
use Rattle.law_reading.proofs.Lines.{closed}
use Rattle.law_reading.proofs.Shown.{line-clean, line-parts}

-- a line feed at most as the last byte
abbrev pub NoInner : List ℕ → Type 0
NoInner bs = NoFeed (take (length bs - 1) bs)

closed-inner : (bs : List ℕ) → NoFeed bs → NoInner (closed bs)
closed-inner bs all =
    let long : length (closed bs) - 1 ≡ length bs = omega (arith, length-append bs (10 ∷ [])) in
    subst NoFeed (sym (ap (λ n. take n (closed bs)) long ∙ take-append_seam bs (10 ∷ []))) all

piece-inner : (line : List ℕ) → IsPieceLine line → NoInner line
piece-inner line (inl is) = let p = line-parts line is in subst NoInner (sym p.1) (closed-inner p.0 (line-clean p.0 (subst IsLine p.1 is)))
piece-inner line (inr is) = no-feed-take (length line - 1) line is.1

inner-tail : (b : ℕ) (bs : List ℕ) → NoInner (b ∷ bs) → NoInner bs
inner-tail b [] all = tt
inner-tail b (c ∷ cs) all =
    let e : length (b ∷ c ∷ cs) - 1 ≡ suc (length (c ∷ cs) - 1) = omega arith in
    (subst (λ n. NoFeed (take n (b ∷ c ∷ cs))) e all).1

inner-unended : (bs : List ℕ) → NoInner bs → NoInner (take (length bs - 1) bs)
inner-unended bs all = no-feed-take (length (take (length bs - 1) bs) - 1) (take (length bs - 1) bs) all

-- ---- the unified form

unified-shows : (line : List ℕ) (m : Marked) → unified.Shows line m → NoInner line → HasNoInnerFeed m
unified-shows line m (inl is) all = inner-tail (unified.mark_byte m.mark) m.line (subst NoInner is all)
unified-shows line m (inr is) all = subst NoInner (sym (ap (λ (x : Marked). x.line) is.1)) all

unended-inner : (m full : Marked) → m ≡ unended full → HasNoInnerFeed full → HasNoInnerFeed m
unended-inner m full is all = subst NoInner (sym (ap (λ (x : Marked). x.line) is)) (inner-unended full.line all)

unified-line : (own : List (List ℕ)) (m : Marked) (body : List Marked) → unified.SpellsLine own m body → ArePieceLines own → HasNoInnerFeed m
unified-line [] m body s all = absurd s
unified-line (line ∷ []) m body s all = unified-shows line m s (piece-inner line all.0)
unified-line (line ∷ mark ∷ []) m body s all = unended-inner m s.2 s.4 (unified-shows line s.2 s.3 (piece-inner line all.0))
unified-line (line ∷ mark ∷ other ∷ more) m body s all = absurd s

unified-body : (piece : List (List ℕ)) (body : List Marked) → unified.SpellsBody piece body → ArePieceLines piece → AllByRecursion HasNoInnerFeed body
unified-body piece [] s all = tt
unified-body piece (m ∷ body) s all =
    let own_all = subst ArePieceLines s.2 all in
    (unified-line s.0 m body s.3 (front-all s.0 s.1 own_all), unified-body s.1 body s.4 (rest-all s.0 s.1 own_all))

pub unified-feeds : (least : ℕ) (own : List (List ℕ)) (h : PlainHunk) → unified.SpellsHunk least own h → ArePieces own → AllByRecursion HasNoInnerFeed h.body
unified-feeds least [] h s p = absurd s
unified-feeds least (line ∷ rest) h s p = unified-body rest h.body s.2 (pieces-all (line ∷ rest) p).1

-- ---- the normal form

behind-marks : (side : Side) (bs : List ℕ) → NoInner (marks side ++ bs) → NoInner bs
behind-marks Forward bs all = inner-tail 32 bs (inner-tail 60 (32 ∷ bs) all)
behind-marks Reversed bs all = inner-tail 32 bs (inner-tail 62 (32 ∷ bs) all)

normal-line : (side : Side) (own : List (List ℕ)) (l : List ℕ) (ls : List (List ℕ)) → normal.SpellsLine side own l ls → ArePieceLines own → NoInner l
normal-line side [] l ls s all = absurd s
normal-line side (line ∷ []) l ls s all = behind-marks side l (subst NoInner s (piece-inner line all.0))
normal-line side (line ∷ mark ∷ []) l ls s all = subst NoInner (sym s.4) (inner-unended s.2 (behind-marks side s.2 (subst NoInner s.3 (piece-inner line all.0))))
normal-line side (line ∷ mark ∷ other ∷ more) l ls s all = absurd s

stretch-inner : (side : Side) (piece ls : List (List ℕ)) → normal.SpellsStretch side piece ls → ArePieceLines piece → AllByRecursion NoInner ls
stretch-inner side piece [] s all = tt
stretch-inner side piece (l ∷ ls) s all =
    let own_all = subst ArePieceLines s.2 all in
    (normal-line side s.0 l ls s.3 (front-all s.0 s.1 own_all), stretch-inner side s.1 ls s.4 (rest-all s.0 s.1 own_all))

none-inner : (ls : List (List ℕ)) → ls ≡ [] → AllByRecursion NoInner ls
none-inner ls e = subst (AllByRecursion NoInner) (sym e) tt

normal-sides : (action : Action) (piece olds news : List (List ℕ)) → normal.SpellsBody action piece olds news → ArePieceLines piece → AllByRecursion NoInner olds × AllByRecursion NoInner news
normal-sides actions.Add piece olds news s all = (none-inner olds s.0, stretch-inner Reversed piece news s.1 all)
normal-sides actions.Change piece olds news s all =
    let own_all = subst ArePieceLines s.3 all in
    (stretch-inner Forward s.0 olds s.4 (front-all s.0 (s.1 ∷ s.2) own_all), stretch-inner Reversed s.2 news s.6 (rest-all s.0 (s.1 ∷ s.2) own_all).1)
normal-sides actions.Delete piece olds news s all = (stretch-inner Forward piece olds s.0 all, none-inner news s.1)

pub on-side-inner : (side : Side) (ls : List (List ℕ)) (more : List Marked) → AllByRecursion NoInner ls → AllByRecursion HasNoInnerFeed more → AllByRecursion HasNoInnerFeed (normal.on_side side ls ++ more)
on-side-inner side [] more a b = b
on-side-inner side (l ∷ ls) more a b = (a.0, on-side-inner side ls more a.1 b)

pub side-inner : (side : Side) (ls : List (List ℕ)) → AllByRecursion NoInner ls → AllByRecursion HasNoInnerFeed (normal.on_side side ls)
side-inner side [] a = tt
side-inner side (l ∷ ls) a = (a.0, side-inner side ls a.1)

pub normal-feeds : (least : ℕ) (own : List (List ℕ)) (h : PlainHunk) → normal.SpellsHunk least own h → ArePieces own → AllByRecursion HasNoInnerFeed h.body
normal-feeds least [] h s p = absurd s
normal-feeds least (line ∷ rest) h s p =
    let both = normal-sides s.0 rest s.1 s.2 s.6 (pieces-all (line ∷ rest) p).1 in
    subst (AllByRecursion HasNoInnerFeed) (sym s.3) (on-side-inner Forward s.1 (normal.on_side Reversed s.2) both.0 (side-inner Reversed s.2 both.1))

-- ---- the context form

behind-inner : (bytes : List ℕ) → NoInner bytes → NoInner (behind_blank bytes)
behind-inner [] all = all
behind-inner (c ∷ bytes) all = by (eqb c 32) (eqb c 9)
  where
    by : (v w : Bool) → NoInner (cond v bytes (cond w bytes (c ∷ bytes)))
    by true w = inner-tail c bytes all
    by false true = inner-tail c bytes all
    by false false = all

context-shows : (line : List ℕ) (m : Marked) → context.Shows line m → NoInner line → HasNoInnerFeed m
context-shows line m (inl s) all = subst NoInner (sym s.3) (behind-inner s.1 (inner-tail (context.mark_byte s.0 m.mark) s.1 (subst NoInner s.2 all)))
context-shows line m (inr s) all = subst NoInner (sym (ap (λ (x : Marked). x.line) s.1)) all

context-line : (own : List (List ℕ)) (m : Marked) (others : List Marked) → context.SpellsLine own m others → ArePieceLines own → HasNoInnerFeed m
context-line [] m others s all = absurd s
context-line (line ∷ []) m others s all = context-shows line m s (piece-inner line all.0)
context-line (line ∷ mark ∷ []) m others s all = unended-inner m s.2 s.4 (context-shows line s.2 s.3 (piece-inner line all.0))
context-line (line ∷ mark ∷ other ∷ more) m others s all = absurd s

context-part : (piece : List (List ℕ)) (part : List Marked) → context.SpellsPart piece part → ArePieceLines piece → AllByRecursion HasNoInnerFeed part
context-part piece [] s all = tt
context-part piece (m ∷ part) s all =
    let own_all = subst ArePieceLines s.2 all in
    (context-line s.0 m part s.3 (front-all s.0 s.1 own_all), context-part s.1 part s.4 (rest-all s.0 s.1 own_all))

-- a line of a body is clean where its side shows it, and else where the other one does
abbrev Tidy : Bool → Marked → Type 0
Tidy true m = HasNoInnerFeed m
Tidy false m = m.mark ≡ Keep

abbrev Half : Bool → Side → List Marked → Type 0
Half shown side body = AllByRecursion (Tidy shown) (part_of side body)

half-line : (shown : Bool) (side : Side) (m : Marked) (body : List Marked) → Half shown side (m ∷ body) → (is_on_side side m.mark ≡ true → Tidy shown m) × Half shown side body
half-line shown side m body a = by (is_on_side side m.mark) a
  where
    by : (v : Bool) → AllByRecursion (Tidy shown) (cond v (m ∷ part_of side body) (part_of side body)) → (v ≡ true → Tidy shown m) × Half shown side body
    by true h = (λ on. h.0, h.1)
    by false h = (λ on. absurd (cc), h)

-- one side at least is shown
one-line : (old new : Bool) (m : Marked) → ((old ≡ true) ⊎ (new ≡ true)) → (is_on_side Forward m.mark ≡ true → Tidy old m) → (is_on_side Reversed m.mark ≡ true → Tidy new m) → HasNoInnerFeed m
one-line true true m some a b = by m.mark refl a b
  where
    by : (k : Mark) → m.mark ≡ k → (is_on_side Forward m.mark ≡ true → HasNoInnerFeed m) → (is_on_side Reversed m.mark ≡ true → HasNoInnerFeed m) → HasNoInnerFeed m
    by Keep e a b = a (ap (is_on_side Forward) e)
    by Drop e a b = a (ap (is_on_side Forward) e)
    by Add e a b = b (ap (is_on_side Reversed) e)
one-line true false m some a b = by m.mark refl a b
  where
    by : (k : Mark) → m.mark ≡ k → (is_on_side Forward m.mark ≡ true → HasNoInnerFeed m) → (is_on_side Reversed m.mark ≡ true → m.mark ≡ Keep) → HasNoInnerFeed m
    by Keep e a b = a (ap (is_on_side Forward) e)
    by Drop e a b = a (ap (is_on_side Forward) e)
    by Add e a b = absurd (let bad : Add ≡ Keep = sym e ∙ b (ap (is_on_side Reversed) e) in cc)
one-line false true m some a b = by m.mark refl a b
  where
    by : (k : Mark) → m.mark ≡ k → (is_on_side Forward m.mark ≡ true → m.mark ≡ Keep) → (is_on_side Reversed m.mark ≡ true → HasNoInnerFeed m) → HasNoInnerFeed m
    by Keep e a b = b (ap (is_on_side Reversed) e)
    by Drop e a b = absurd (let bad : Drop ≡ Keep = sym e ∙ a (ap (is_on_side Forward) e) in cc)
    by Add e a b = b (ap (is_on_side Reversed) e)
one-line false false m (inl e) a b = absurd (cc)
one-line false false m (inr e) a b = absurd (cc)

both-halves : (old new : Bool) (body : List Marked) → ((old ≡ true) ⊎ (new ≡ true)) → Half old Forward body → Half new Reversed body → AllByRecursion HasNoInnerFeed body
both-halves old new [] some a b = tt
both-halves old new (m ∷ body) some a b =
    let x = half-line old Forward m body a in
    let y = half-line new Reversed m body b in
    (one-line old new m some x.0 y.0, both-halves old new body some x.1 y.1)

abbrev is_some_line : List (List ℕ) → Bool
is_some_line [] = false
is_some_line (line ∷ piece) = true

context-half : (side : Side) (piece partner : List (List ℕ)) (body : List Marked) → context.SpellsSide side piece partner body → ArePieceLines piece → Half (is_some_line piece) side body
context-half side [] partner body s all = s.0
context-half side (line ∷ piece) partner body s all = context-part (line ∷ piece) (part_of side body) s all

some-half : (old new : List (List ℕ)) → 0 < length (old ++ new) → (is_some_line old ≡ true) ⊎ (is_some_line new ≡ true)
some-half (o ∷ old) new some = inl refl
some-half [] (n ∷ new) some = inr refl
some-half [] [] some = absurd (omega (arith, some))

pub context-feeds : (least : ℕ) (own behind : List (List ℕ)) (h : PlainHunk) → context.SpellsHunk least own behind h → ArePieces own → AllByRecursion HasNoInnerFeed h.body
context-feeds least own behind h s p =
    let all = (subst ArePieceLines s.parts (pieces-all own p)).1.1 in
    both-halves (is_some_line s.old) (is_some_line s.new) h.body (some-half s.old s.new s.some)
    (context-half Forward s.old s.new h.body s.old_part (front-all s.old (s.new_line ∷ s.new) all))
    (context-half Reversed s.new s.old h.body s.new_part (rest-all s.old (s.new_line ∷ s.new) all).1)

-- ---- turned round
