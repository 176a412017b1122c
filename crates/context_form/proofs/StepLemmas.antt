-- What one step of a function says of the definitions, on plain variables.
use Rattle.std.proofs.Common.{◌≡◌, ℕ, suc, zero, ◌+◌, ◌≤◌, ◌<◌, ◌^◌, Bool, true, false, cond, eqb, ltb, not, List, [], ◌∷◌, ◌++◌, length, count_by, drop, get_or, Option, None, Some, Result, Ok, Err, refl, sym, ap, subst, ◌∙◌, append_assoc, arith, Vec, Global, IfOk}
use Rattle.std.specs.Prelude.{All, IfSome, vec_len, is_some}
use Rattle.std.specs.Str.{bytes_eq}
use Rattle.std.proofs.lemmas.Bool.{false≢true, eqb-true, ltb-false}
use Rattle.std.proofs.lemmas.List.Recursion.{is_count_by}
use Rattle.line_list.specs.Reader.{Reads}
use Rattle.hunk_core.specs.declared.BadKind.TheVariants as kinds
use Rattle.hunk_core.specs.declared.Side.{Side}
use Rattle.hunk_core.specs.declared.Side.TheVariants.{Forward, Reversed}
use Rattle.hunk_core.specs.declared.HunkLine.{HunkLine}
use Rattle.hunk_core.specs.declared.fault.FormFault.{FormFault}
use Rattle.hunk_core.specs.declared.fault.FormFault.TheVariants as errors
use Rattle.hunk_core.specs.PlainHunk.{Marked, PlainHunk, marked_of, body_of, bytes_at}
use Rattle.hunk_core.specs.Turned.{LiesIn, is_keep}
use Rattle.hunk_core.specs.LineTests.{after_backslash, unended}
use Rattle.hunk_core.specs.Reading.{Fails, fault, Ahead, ahead}
use Rattle.context_form.specs.declared.part.Body.{Body}
use Rattle.context_form.specs.declared.range.Stated.{Stated}
use Rattle.context_form.specs.Ranges.{before_range, behind_range, most, is_count, FitsBy, Fits}
use Rattle.context_form.specs.Parts.{Shown, marked_at, first_line, PlainBody, plain_of, no_body, body_at}
use Rattle.context_form.specs.Merging.{agrees, merge, alone, joined_by, joined, kept_count, size_by}
use Rattle.context_form.specs.Hunks.{PlainPart, fitting, range_here, old_part, too_few, enough, new_part, sized, whole, parts_at, first_hunk}
use Rattle.context_form.specs.Presence.{is_new, begins_old_part}
use Rattle.context_form.proofs.JoinLemmas.{kept-cons}
use Rattle.context_form.proofs.MergeLemmas.{nothing, view-more}

-- ---- plain tests

pub is-none : (n : ℕ) → true ≡ eqb n 0 → n ≡ 0
is-none n e = eqb-true n 0 (sym e)

pub is-some : (n : ℕ) → false ≡ eqb n 0 → 0 < n
is-some zero e = absurd (false≢true e)
is-some (suc n) e = omega arith

is-more : (n : ℕ) → 0 < n → eqb n 0 ≡ false
is-more n some = by (eqb n 0) refl
  where
    by : (v : Bool) → eqb n 0 ≡ v → v ≡ false
    by false e = refl
    by true e = absurd (omega (arith, some, eqb-true n 0 e))

pub is-above : (a b : ℕ) → a < b → ltb a b ≡ true
is-above a b less = by (ltb a b) refl
  where
    by : (v : Bool) → ltb a b ≡ v → v ≡ true
    by true e = refl
    by false e = absurd (omega (arith, less, ltb-false a b e))

pub if-yes : (b : Bool) (x y : List ℕ) → b ≡ true → x ≡ cond b x y
if-yes true x y e = refl
if-yes false x y e = absurd (false≢true e)

pub if-no : (b : Bool) (x y : List ℕ) → b ≡ false → y ≡ cond b x y
if-no false x y e = refl
if-no true x y e = absurd (false≢true (sym e))

start-below : (start : ℕ) (count : Option ℕ) → FitsBy start count → start < 2 ^ 32
start-below start None h = h
start-below start (Some n) h = omega (arith, h.0)

pub start-fits : (s : Stated) → Fits s → s.start < 2 ^ 32
start-fits s h = start-below s.start s.count h

-- ---- lines of a part

abbrev Lines : Type 0
Lines = Vec HunkLine Global

body-length : (text : List ℕ) (ls : List HunkLine) → length (body_of text ls) ≡ length ls
body-length text [] = refl
body-length text (l ∷ ls) = ap suc (body-length text ls)

kept-of : (text : List ℕ) (ls : List HunkLine) → kept_count (body_of text ls) ≡ count_by (λ (l : HunkLine). is_keep l.mark) ls
kept-of text ls = is_count_by (λ (xs : List HunkLine). kept_count (body_of text xs)) (λ (l : HunkLine). is_keep l.mark) refl (λ x xs. kept-cons (marked_of text x) (body_of text xs)) ls

kept-by : (text : List ℕ) (part partner : List HunkLine) → length part ≡ 0 → count_by (λ (l : HunkLine). is_keep l.mark) partner ≡ size_by (body_of text part) (body_of text partner)
kept-by text [] partner e = sym (kept-of text partner)
kept-by text (l ∷ part) partner e = absurd (omega (arith, e))

own-by : (text : List ℕ) (part : List HunkLine) (partner : List Marked) → 0 < length part → length part ≡ size_by (body_of text part) partner
own-by text [] partner some = absurd (omega (arith, some))
own-by text (l ∷ part) partner some = sym (body-length text (l ∷ part))

pub size-kept : (text : List ℕ) (part : Lines) (partner : List HunkLine) → part.len ≡ 0 → count_by (λ (l : HunkLine). is_keep l.mark) partner ≡ size_by (body_of text part.items) (body_of text partner)
size-kept text part partner e = kept-by text part.items partner (omega (arith, e, part.ok.0))

pub size-own : (text : List ℕ) (part : Lines) (partner : List Marked) → 0 < part.len → part.len ≡ size_by (body_of text part.items) partner
size-own text part partner some = omega (arith, part.ok.0, own-by text part.items partner (omega (arith, some, part.ok.0)))

pub agrees-there : (text : List ℕ) (line : HunkLine) (part : List HunkLine) (place : ℕ) (a b : List ℕ) (r : Bool) → place < length part → a ≡ bytes_at text line.span → b ≡ bytes_at text (get_or part place nothing).span → r ≡ bytes_eq a b → r ≡ agrees (marked_of text line) (body_of text (drop place part))
agrees-there text line part place a b r lt e f is =
    is ∙ ap (λ x. bytes_eq x b) e ∙ ap (λ x. bytes_eq (bytes_at text line.span) x) f ∙ sym (ap (agrees (marked_of text line)) (view-more text part place lt))

-- ---- two parts as one body

none-by : (old new : PlainBody) (xs ys : List Marked) → length xs ≡ 0 → length ys ≡ 0 → joined_by old new xs ys ≡ None
none-by old new [] [] a b = refl
none-by old new [] (y ∷ ys) a b = absurd (omega (arith, b))
none-by old new (x ∷ xs) ys a b = absurd (omega (arith, a))

new-by : (old new : PlainBody) (xs ys : List Marked) → length xs ≡ 0 → 0 < length ys → joined_by old new xs ys ≡ alone new
new-by old new [] [] a b = absurd (omega (arith, b))
new-by old new [] (y ∷ ys) a b = refl
new-by old new (x ∷ xs) ys a b = absurd (omega (arith, a))

old-by : (old new : PlainBody) (xs ys : List Marked) → 0 < length xs → length ys ≡ 0 → joined_by old new xs ys ≡ alone old
old-by old new [] ys a b = absurd (omega (arith, a))
old-by old new (x ∷ xs) [] a b = refl
old-by old new (x ∷ xs) (y ∷ ys) a b = absurd (omega (arith, b))

merge-by : (old new : PlainBody) (xs ys : List Marked) → 0 < length xs → 0 < length ys → joined_by old new xs ys ≡ merge xs ys
merge-by old new [] ys a b = absurd (omega (arith, a))
merge-by old new (x ∷ xs) [] a b = absurd (omega (arith, b))
merge-by old new (x ∷ xs) (y ∷ ys) a b = refl

pub joined-none : (text : List ℕ) (old new : Body) → old.lines.len ≡ 0 → new.lines.len ≡ 0 → joined (plain_of text old) (plain_of text new) ≡ None
joined-none text old new a b = none-by (plain_of text old) (plain_of text new) (body_of text old.lines.items) (body_of text new.lines.items) (omega (arith, a, old.lines.ok.0, body-length text old.lines.items)) (omega (arith, b, new.lines.ok.0, body-length text new.lines.items))

pub joined-new : (text : List ℕ) (old new : Body) → old.lines.len ≡ 0 → 0 < new.lines.len → joined (plain_of text old) (plain_of text new) ≡ alone (plain_of text new)
joined-new text old new a b = new-by (plain_of text old) (plain_of text new) (body_of text old.lines.items) (body_of text new.lines.items) (omega (arith, a, old.lines.ok.0, body-length text old.lines.items)) (omega (arith, b, new.lines.ok.0, body-length text new.lines.items))

pub joined-old : (text : List ℕ) (old new : Body) → 0 < old.lines.len → new.lines.len ≡ 0 → joined (plain_of text old) (plain_of text new) ≡ alone (plain_of text old)
joined-old text old new a b = old-by (plain_of text old) (plain_of text new) (body_of text old.lines.items) (body_of text new.lines.items) (omega (arith, a, old.lines.ok.0, body-length text old.lines.items)) (omega (arith, b, new.lines.ok.0, body-length text new.lines.items))

pub joined-merged : (text : List ℕ) (old new : Body) (olds news : List HunkLine) → olds ≡ old.lines.items → news ≡ new.lines.items → 0 < old.lines.len → 0 < new.lines.len → merge (body_of text olds) (body_of text news) ≡ joined (plain_of text old) (plain_of text new)
joined-merged text old new olds news e f a b =
    ap (λ xs. merge (body_of text xs) (body_of text news)) e
    ∙ ap (λ ys. merge (body_of text old.lines.items) (body_of text ys)) f
    ∙ sym (merge-by (plain_of text old) (plain_of text new) (body_of text old.lines.items) (body_of text new.lines.items) (omega (arith, a, old.lines.ok.0, body-length text old.lines.items)) (omega (arith, b, new.lines.ok.0, body-length text new.lines.items)))

pub lies-same : (text : List ℕ) (ls : List HunkLine) (r : Option Lines) → IfSome r (λ v. v.items ≡ ls) → All (λ l. LiesIn text l.span) ls → IfSome r (λ v. All (λ l. LiesIn text l.span) v.items)
lies-same text ls None e h = tt
lies-same text ls (Some v) e h = subst (λ (xs : List HunkLine). All (λ l. LiesIn text l.span) xs) (sym e) h

pub few-same : (n : ℕ) (ls : List HunkLine) (r : Option Lines) → IfSome r (λ v. v.items ≡ ls) → length ls ≤ n → IfSome r (λ v. vec_len v ≤ n)
few-same n ls None e h = tt
few-same n ls (Some v) e h = omega (arith, h, ap length e, v.ok.0)

pub few-as : {E : Type 0} (n m : ℕ) (r : Result (Option Lines) E) → IfOk r (λ o. IfSome o (λ v. vec_len v ≤ n)) → n ≡ m → IfOk r (λ o. IfSome o (λ v. vec_len v ≤ m))
few-as n m r h e = subst (λ k. IfOk r (λ o. IfSome o (λ v. vec_len v ≤ k))) e h

pub reads-as : {E : Type 0} (text : List ℕ) (r : Result (Option Lines) E) (a b : Option (List Marked)) → IfOk r (λ o. Reads (λ (v : Lines). body_of text v.items) o a) → a ≡ b → IfOk r (λ o. Reads (λ (v : Lines). body_of text v.items) o b)
reads-as text r a b h e = subst (λ m. IfOk r (λ o. Reads (λ (v : Lines). body_of text v.items) o m)) e h

pub reads-at : (text : List ℕ) (r o : Option Lines) (read : Option (List Marked)) → r ≡ o → Reads (λ (v : Lines). body_of text v.items) r read → Reads (λ (v : Lines). body_of text v.items) o read
reads-at text r o read is h = subst (λ x. Reads (λ (v : Lines). body_of text v.items) x read) is h

pub some-at : (P : Lines → Type 0) (r o : Option Lines) → r ≡ o → IfSome r P → IfSome o P
some-at P r o is h = subst (λ x. IfSome x P) is h

-- ---- faults of a step

pub too-few : (text : List ℕ) (s : Stated) (ls : List HunkLine) (n : ℕ) → n ≡ length ls → 0 < n → is_count s n ≡ false → too_few s (body_of text ls) ≡ true
too-few text s [] n e some off = absurd (omega (arith, some, e))
too-few text s (l ∷ ls) n e some off = ap (λ k. not (is_count s k)) (body-length text (l ∷ ls) ∙ sym e) ∙ ap not off

pub size-wrong : (part partner : PlainPart) (n : ℕ) → size_by part.body.lines partner.body.lines ≡ n → is_count part.stated n ≡ false → sized part partner ≡ Err (fault part.number kinds.Count)
size-wrong part partner n e off = rw (e, off) refl

pub size-large : (part partner : PlainPart) (n : ℕ) → size_by part.body.lines partner.body.lines ≡ n → is_count part.stated n ≡ true → 4294967295 < part.stated.start + n → sized part partner ≡ Err (fault part.number kinds.NumberTooLarge)
size-large part partner n e on big = rw (e, on, is-above 4294967295 (part.stated.start + n) big) refl

pub whole-second : (e : FormFault) (old new : PlainPart) → sized old new ≡ Ok tt → Fails e (sized new old) → Fails e (whole old new)
unfolding whole
whole-second errors.Memory old new a h = tt
whole-second (errors.Malformed line kind) old new a h = rw (a, h) refl

pub whole-apart : (old new : PlainPart) → sized old new ≡ Ok tt → sized new old ≡ Ok tt → joined old.body new.body ≡ None → whole old new ≡ Err (fault new.number kinds.SidesDiffer)
unfolding whole
whole-apart old new a b none = rw (a, b, none) refl

pub old-fits-fails : (e : FormFault) (least : ℕ) (p : Ahead) (s : Stated × Ahead) (b : Bool) → range_here Forward least p ≡ Ok s → b ≡ begins_old_part s.1.rest → Fails e (fitting p.number s.0 b) → Fails e (old_part least p)
unfolding old_part
old-fits-fails errors.Memory least p s b a there h = tt
old-fits-fails (errors.Malformed line kind) least p s b a there h = rw (a, sym there, h) refl

pub old-body-fails : (e : FormFault) (least : ℕ) (p : Ahead) (s : Stated × Ahead) (b : Bool) (n : ℕ) → range_here Forward least p ≡ Ok s → b ≡ begins_old_part s.1.rest → fitting p.number s.0 b ≡ Ok tt → n ≡ most s.0 → Fails e (body_at Forward n no_body s.1) → Fails e (old_part least p)
unfolding old_part
old-body-fails errors.Memory least p s b n a there fits is h = tt
old-body-fails (errors.Malformed line kind) least p s b n a there fits is h = rw (a, sym there, fits, sym is, h) refl

pub old-read : (least : ℕ) (p : Ahead) (s : Stated × Ahead) (x : PlainBody × Ahead) (b : Bool) (n : ℕ) → range_here Forward least p ≡ Ok s → b ≡ begins_old_part s.1.rest → fitting p.number s.0 b ≡ Ok tt → n ≡ most s.0 → body_at Forward n no_body s.1 ≡ Ok x → old_part least p ≡ Ok (record { number = p.number; stated = s.0; body = x.0 }, x.1)
unfolding old_part
old-read least p s x b n a there fits is h = rw (a, sym there, fits, sym is, h) refl

pub new-fits-fails : (e : FormFault) (old : PlainPart) (p : Ahead) (s : Stated × Ahead) (b : Bool) → range_here Reversed 0 p ≡ Ok s → b ≡ is_new s.0 old.body s.1.rest → Fails e (fitting p.number s.0 b) → Fails e (new_part old p)
unfolding new_part
new-fits-fails errors.Memory old p s b a there h = tt
new-fits-fails (errors.Malformed line kind) old p s b a there h = rw (a, sym there, h) refl

pub new-few-fails : (e : FormFault) (old : PlainPart) (p : Ahead) (s : Stated × Ahead) (b : Bool) → range_here Reversed 0 p ≡ Ok s → b ≡ is_new s.0 old.body s.1.rest → fitting p.number s.0 b ≡ Ok tt → Fails e (enough p.number old) → Fails e (new_part old p)
unfolding new_part
new-few-fails errors.Memory old p s b a there fits h = tt
new-few-fails (errors.Malformed line kind) old p s b a there fits h = rw (a, sym there, fits, h) refl

pub new-body-fails : (e : FormFault) (old : PlainPart) (p : Ahead) (s : Stated × Ahead) (b : Bool) (n : ℕ) → range_here Reversed 0 p ≡ Ok s → b ≡ is_new s.0 old.body s.1.rest → fitting p.number s.0 b ≡ Ok tt → enough p.number old ≡ Ok tt → n ≡ cond b (most s.0) 0 → Fails e (body_at Reversed n no_body s.1) → Fails e (new_part old p)
unfolding new_part
new-body-fails errors.Memory old p s b n a there fits all is h = tt
new-body-fails (errors.Malformed line kind) old p s b n a there fits all is h = rw (a, sym there, fits, all, sym is, h) refl

pub new-read : (old : PlainPart) (p : Ahead) (s : Stated × Ahead) (x : PlainBody × Ahead) (b : Bool) (n : ℕ) → range_here Reversed 0 p ≡ Ok s → b ≡ is_new s.0 old.body s.1.rest → fitting p.number s.0 b ≡ Ok tt → enough p.number old ≡ Ok tt → n ≡ cond b (most s.0) 0 → body_at Reversed n no_body s.1 ≡ Ok x → new_part old p ≡ Ok (record { number = p.number; stated = s.0; body = x.0 }, x.1)
unfolding new_part
new-read old p s x b n a there fits all is h = rw (a, sym there, fits, all, sym is, h) refl

-- ---- a hunk

pub hunk-fails : (e : FormFault) (least number : ℕ) (rest more : List (List ℕ)) (line : List ℕ) (x : (PlainPart × PlainPart) × Ahead) → rest ≡ line ∷ more → parts_at least (ahead (number + 1) more) ≡ Ok x → Fails e (whole x.0.0 x.0.1) → Fails e (first_hunk least number rest)
unfolding first_hunk
hunk-fails errors.Memory least number rest more line x e a h = tt
hunk-fails (errors.Malformed at kind) least number rest more line x e a h = rw (e, a, h) refl

pub hunk-unquiet : (least number : ℕ) (rest more : List (List ℕ)) (line : List ℕ) (x : (PlainPart × PlainPart) × Ahead) (hunk : PlainHunk) → rest ≡ line ∷ more → parts_at least (ahead (number + 1) more) ≡ Ok x → whole x.0.0 x.0.1 ≡ Ok hunk → is_some (after_backslash x.1.rest) ≡ true → first_hunk least number rest ≡ Err (fault x.1.number kinds.MisplacedBackslash)
unfolding first_hunk
hunk-unquiet least number rest more line x hunk e a b h = rw (e, a, b, h) refl

pub hunk-read : (least number : ℕ) (rest more : List (List ℕ)) (line : List ℕ) (x : (PlainPart × PlainPart) × Ahead) (hunk : PlainHunk) → rest ≡ line ∷ more → parts_at least (ahead (number + 1) more) ≡ Ok x → whole x.0.0 x.0.1 ≡ Ok hunk → is_some (after_backslash x.1.rest) ≡ false → first_hunk least number rest ≡ Ok (hunk, x.1)
unfolding first_hunk
hunk-read least number rest more line x hunk e a b h = rw (e, a, b, h) refl

pub some-as : {X Y : Type 0} (view : X → Y) (r : Option X) (o : Option Y) → Reads view r o → is_some o ≡ is_some r
some-as view None o h = ap is_some h
some-as view (Some x) o h = ap is_some h

-- ---- the pieces of a range line

pub before-length : (side : Side) → length (before_range side) ≡ 4
before-length Forward = refl
before-length Reversed = refl

pub behind-length : (side : Side) → length (32 ∷ behind_range side) ≡ 5
behind-length Forward = refl
behind-length Reversed = refl

pub four-pieces : (z p q r s a b c d : List ℕ) → a ≡ z ++ p → b ≡ a ++ q → c ≡ b ++ r → d ≡ c ++ s → d ≡ z ++ (p ++ (q ++ (r ++ s)))
four-pieces z p q r s a b c d e f g h =
    h
    ∙ ap (λ (l : List ℕ). l ++ s) (g ∙ ap (λ (l : List ℕ). l ++ r) (f ∙ ap (λ (l : List ℕ). l ++ q) e))
    ∙ append_assoc ((z ++ p) ++ q) r s
    ∙ append_assoc (z ++ p) q (r ++ s)
    ∙ append_assoc z p (q ++ (r ++ s))

-- ---- a line of a part

pub line-unwanted : (side : Side) (left number : ℕ) (rest more : List (List ℕ)) (line : List ℕ) (m : Shown) → rest ≡ line ∷ more → marked_at number side line ≡ Ok m → left ≡ 0 → first_line side left number rest ≡ Err (fault number kinds.Count)
unfolding first_line
line-unwanted side left number rest more line m e a none = rw (e, a, none) refl

pub line-cut : (side : Side) (left number : ℕ) (rest more : List (List ℕ)) (line : List ℕ) (m : Shown) (behind : List (List ℕ)) (w : Marked) → rest ≡ line ∷ more → marked_at number side line ≡ Ok m → left ≡ 1 → after_backslash more ≡ Some behind → w ≡ unended m.0 → first_line side left number rest ≡ Ok ((w, m.1), ahead (number + 1 + 1) behind)
unfolding first_line
line-cut side left number rest more line m behind w e a one h is = rw (e, a, one, h, is) refl

pub line-misplaced : (side : Side) (left number : ℕ) (rest more : List (List ℕ)) (line : List ℕ) (m : Shown) (behind : List (List ℕ)) → rest ≡ line ∷ more → marked_at number side line ≡ Ok m → 1 < left → after_backslash more ≡ Some behind → first_line side left number rest ≡ Err (fault (number + 1) kinds.MisplacedBackslash)
unfolding first_line
line-misplaced side left number rest more line m behind e a many h = rw (e, a, is-more left (omega (arith, many)), h, by (eqb left 1) refl) refl
  where
    by : (v : Bool) → eqb left 1 ≡ v → v ≡ false
    by false e = refl
    by true e = absurd (omega (arith, many, eqb-true left 1 e))

pub line-read : (side : Side) (left number : ℕ) (rest more : List (List ℕ)) (line : List ℕ) (m : Shown) → rest ≡ line ∷ more → marked_at number side line ≡ Ok m → 0 < left → after_backslash more ≡ None → first_line side left number rest ≡ Ok (m, ahead (number + 1) more)
unfolding first_line
line-read side left number rest more line m e a some none = rw (e, a, is-more left some, none) refl
