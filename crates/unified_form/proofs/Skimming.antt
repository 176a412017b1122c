-- The lines of a body passed over one after the other, as a loop does, and what reading gives of them.
use Rattle.std.proofs.Common.{◌≡◌, ℕ, zero, suc, ◌-◌, ◌+◌, ◌≤◌, ◌<◌, Bool, true, false, cond, eqb, List, [], ◌∷◌, length, Option, None, Some, Result, Ok, Err, refl, sym, ap, ◌∙◌, arith}
use Rattle.std.specs.Prelude.{is_some}
use Rattle.hunk_core.specs.declared.fault.FormFault.{FormFault}
use Rattle.hunk_core.specs.declared.fault.FormFault.TheVariants as errors
use Rattle.hunk_core.specs.declared.BadKind.TheVariants as kinds
use Rattle.hunk_core.specs.PlainHunk.{Marked, PlainHunk, old_lines}
use Rattle.hunk_core.specs.LineTests.{unended, after_backslash}
use Rattle.hunk_core.specs.Reading.{◌>>=◌, Fault, fault, Fails, Ahead, ahead}
use Rattle.hunk_core.specs.Refusals.{settled}
use Rattle.hunk_core.proofs.ReadSteps.{bind_ok, ok_is}
use Rattle.unified_form.specs.declared.body.Left.{Left}
use Rattle.unified_form.specs.declared.range.Ranges.{Ranges}
use Rattle.unified_form.specs.declared.hunk_scan.OldRange.{OldRange}
use Rattle.unified_form.specs.Ranges.{opening}
use Rattle.unified_form.specs.Bodies.{is_last_line, marked_at, room_at, ended_by, first_line, line_at, body_at}
use Rattle.unified_form.specs.Hunks.{at_line, left_of, change, first_hunk}
use Rattle.unified_form.specs.Skimmed.{past_ended, past_first_line, past_line, past_body, past_settled, past_first, old_range, stated_range}
use Rattle.unified_form.proofs.Bodies.{body_takes}
use Rattle.unified_form.proofs.Counts.{counts-old}

-- ---- a body

-- what is left gives the whole
pub record BodyPast (left : Left) (p : Ahead) (total : Result Ahead Fault) : Type 0 where
  pub most : ℕ
  pub enough : left.old + left.new ≤ most
  pub same : past_body most left p ≡ total

pub body_past_begins : (left : Left) (p : Ahead) → BodyPast left p (past_body (left.old + left.new) left p)
body_past_begins left p = record { most = left.old + left.new; enough = omega arith; same = refl }

body_step : (most : ℕ) (left : Left) (p : Ahead) → 0 < left.old + left.new → past_body (suc most) left p ≡ (past_line left p >>= λ first. past_body most first.0 first.1)
unfolding past_body
body_step most left p some =
    let more : eqb (left.old + left.new) 0 ≡ false = grind arith in
    rw more refl

pub body_past_goes_on : (left : Left) (p : Ahead) (x : Left × Ahead) (total : Result Ahead Fault) → 0 < left.old + left.new → x.0.old + x.0.new < left.old + left.new → past_line left p ≡ Ok x → BodyPast left p total → BodyPast x.0 x.1 total
body_past_goes_on left p x total some less read so_far =
    let most = so_far.most in
    let k : most ≡ suc (most - 1) = omega (arith, so_far.enough) in
    let one : past_body most left p ≡ past_body (most - 1) x.0 x.1 = ap (λ m. past_body m left p) k ∙ rw (body_step (most - 1) left p some, read) refl in
    record { most = most - 1; enough = omega (arith, so_far.enough); same = sym one ∙ so_far.same }

pub body_past_fails : (e : FormFault) (left : Left) (p : Ahead) (total : Result Ahead Fault) → 0 < left.old + left.new → Fails e (past_line left p) → BodyPast left p total → Fails e total
body_past_fails errors.Memory left p total some h so_far = tt
body_past_fails (errors.Malformed line kind) left p total some h so_far =
    let k : so_far.most ≡ suc (so_far.most - 1) = omega (arith, so_far.enough) in
    let one : past_body so_far.most left p ≡ Err (record { line = line; kind = kind }) = ap (λ m. past_body m left p) k ∙ rw (body_step (so_far.most - 1) left p some, h) refl in
    sym so_far.same ∙ one

body_past_empty : (most : ℕ) (left : Left) (p : Ahead) → left.old + left.new ≡ 0 → past_body most left p ≡ Ok p
unfolding past_body
body_past_empty zero left p none = refl
body_past_empty (suc most) left p none = rw none refl

pub body_past_done : (left : Left) (p : Ahead) (total : Result Ahead Fault) → left.old + left.new ≡ 0 → BodyPast left p total → total ≡ Ok p
body_past_done left p total none so_far = sym so_far.same ∙ body_past_empty so_far.most left p none

-- ---- what reading gives

abbrev body_ok : List Marked → Ahead → Result (List Marked × Ahead) Fault
body_ok ms p = Ok (ms, p)

abbrev old_ok : OldRange → Ahead → Result (OldRange × Ahead) Fault
old_ok o p = Ok (o, p)

abbrev hunk_ok : PlainHunk → Ahead → Result (PlainHunk × Ahead) Fault
hunk_ok h p = Ok (h, p)

body_again : (r : Result (List Marked × Ahead) Fault) (m : Marked) → (r >>= λ x. Ok x.1) ≡ ((r >>= λ others. body_ok (m ∷ others.0) others.1) >>= λ x. Ok x.1)
body_again (Ok x) m = refl
body_again (Err e) m = refl

abbrev left_ok : Left → Ahead → Result (Left × Ahead) Fault
left_ok left p = Ok (left, p)

abbrev line_ok : Marked → Left → Ahead → Result (Marked × Left × Ahead) Fault
line_ok m left p = Ok (m, left, p)

last_both : (b : Bool) (number : ℕ) (m : Marked) (left : Left) (more : List (List ℕ))
    → cond b (left_ok left (ahead (number + 2) more)) (Err (fault (number + 1) kinds.MisplacedBackslash)) ≡ (cond b (line_ok (unended m) left (ahead (number + 2) more)) (Err (fault (number + 1) kinds.MisplacedBackslash)) >>= λ x. left_ok x.1 x.2)
last_both true number m left more = refl
last_both false number m left more = refl

ended_both : (number : ℕ) (m : Marked) (left : Left) (rest : List (List ℕ)) (o : Option (List (List ℕ))) → past_ended number m.mark left rest o ≡ (ended_by number m left rest o >>= λ x. left_ok x.1 x.2)
ended_both number m left rest None = refl
ended_both number m left rest (Some more) = last_both (is_last_line m.mark left) number m left more

roomed : (number : ℕ) (m : Marked) (rest : List (List ℕ)) (o : Result Left Fault) → (o >>= λ room. past_ended number m.mark room rest (after_backslash rest)) ≡ ((o >>= λ room. ended_by number m room rest (after_backslash rest)) >>= λ x. left_ok x.1 x.2)
roomed number m rest (Ok room) = ended_both number m room rest (after_backslash rest)
roomed number m rest (Err e) = refl

lined : (number : ℕ) (left : Left) (rest : List (List ℕ)) (o : Result Marked Fault)
    → (o >>= λ m. room_at number m.mark left >>= λ room. past_ended number m.mark room rest (after_backslash rest)) ≡ ((o >>= λ m. room_at number m.mark left >>= λ room. ended_by number m room rest (after_backslash rest)) >>= λ x. left_ok x.1 x.2)
lined number left rest (Ok m) = roomed number m rest (room_at number m.mark left)
lined number left rest (Err e) = refl

line_is : (left : Left) (number : ℕ) (rest : List (List ℕ)) → past_first_line left number rest ≡ (first_line left number rest >>= λ x. left_ok x.1 x.2)
unfolding past_first_line first_line
line_is left number [] = refl
line_is left number (line ∷ rest) = lined number left rest (marked_at number line)

body_both : (b : Bool) (read : Result (Marked × Left × Ahead) Fault) (p : Ahead) (f : Left → Ahead → Result Ahead Fault) (g : Left → Ahead → Result (List Marked × Ahead) Fault) → ((l : Left) (q : Ahead) → f l q ≡ (g l q >>= λ x. Ok x.1))
    → cond b (Ok p) ((read >>= λ x. left_ok x.1 x.2) >>= λ first. f first.0 first.1) ≡ (cond b (body_ok [] p) (read >>= λ first. g first.1 first.2 >>= λ others. body_ok (first.0 ∷ others.0) others.1) >>= λ x. Ok x.1)
body_both true read p f g h = refl
body_both false (Err e) p f g h = refl
body_both false (Ok x) p f g h = h x.1 x.2 ∙ body_again (g x.1 x.2) x.0

body_is : (most : ℕ) (left : Left) (p : Ahead) → past_body most left p ≡ (body_at most left p >>= λ x. Ok x.1)
unfolding past_body body_at
body_is zero left p = refl
body_is (suc most) left p =
    ap (λ o. cond (eqb (left.old + left.new) 0) (Ok p) (o >>= λ first. past_body most first.0 first.1)) (line_is left p.number p.rest)
    ∙ body_both (eqb (left.old + left.new) 0) (line_at left p) p (past_body most) (body_at most) (body_is most)

settled_both : (b : Bool) (r : Ranges) (x : List Marked × Ahead) → r.old_count ≡ length (old_lines x.0)
    → cond b (Err (fault x.1.number kinds.MisplacedBackslash)) (old_ok (stated_range r) x.1) ≡ (cond b (Err (fault x.1.number kinds.MisplacedBackslash)) (hunk_ok (change r x.0) x.1) >>= λ y. old_ok (old_range y.0) y.1)
settled_both true r x counted = refl
settled_both false r x counted = ap (λ n. old_ok (record { start = r.old_start; count = n }) x.1) counted

behind_both : (r : Ranges) (o : Result (List Marked × Ahead) Fault) → ((x : List Marked × Ahead) → o ≡ Ok x → r.old_count ≡ length (old_lines x.0))
    → ((o >>= λ x. Ok x.1) >>= past_settled r) ≡ ((o >>= λ body. settled (change r body.0) body.1) >>= λ y. old_ok (old_range y.0) y.1)
behind_both r (Err e) counted = refl
behind_both r (Ok x) counted = settled_both (is_some (after_backslash x.1.rest)) r x (counted x refl)

-- a body that is read has as many old lines as the range line states
old-counted : (r : Ranges) (p : Ahead) (x : List Marked × Ahead) → body_at (r.old_count + r.new_count) (left_of r) p ≡ Ok x → r.old_count ≡ length (old_lines x.0)
old-counted r p x read = ap (λ (l : Left). l.old) (body_takes (r.old_count + r.new_count) (left_of r) p x (omega arith) read).counts ∙ counts-old x.0

ranged : (number : ℕ) (rest : List (List ℕ)) (o : Result Ranges Fault)
    → (o >>= λ r. past_body (r.old_count + r.new_count) (left_of r) (ahead number rest) >>= past_settled r) ≡ ((o >>= λ r. body_at (r.old_count + r.new_count) (left_of r) (ahead number rest) >>= λ body. settled (change r body.0) body.1) >>= λ y. old_ok (old_range y.0) y.1)
ranged number rest (Err e) = refl
ranged number rest (Ok r) = ap (λ o. o >>= past_settled r) (body_is (r.old_count + r.new_count) (left_of r) (ahead number rest)) ∙ behind_both r (body_at (r.old_count + r.new_count) (left_of r) (ahead number rest)) (old-counted r (ahead number rest))

pub hunk_is : (least number : ℕ) (rest : List (List ℕ)) → past_first least number rest ≡ (first_hunk least number rest >>= λ y. old_ok (old_range y.0) y.1)
unfolding past_first first_hunk
hunk_is least number [] = refl
hunk_is least number (line ∷ rest) = ranged (number + 1) rest (at_line number (opening least line))

-- ---- one row

pub row_fails : (e : FormFault) (least number : ℕ) (rest : List (List ℕ)) → Fails e (past_first least number rest) → Fails e (first_hunk least number rest)
row_fails errors.Memory least number rest h = tt
row_fails (errors.Malformed line kind) least number rest h = not-behind (first_hunk least number rest) (fault line kind) (sym (hunk_is least number rest) ∙ h)
  where
    not-behind : (r : Result (PlainHunk × Ahead) Fault) (f : Fault) → (r >>= λ y. old_ok (old_range y.0) y.1) ≡ Err f → r ≡ Err f
    not-behind (Ok x) f e = absurd cc
    not-behind (Err d) f e = cc

pub row_reads : (least number : ℕ) (rest : List (List ℕ)) (old : OldRange) (p : Ahead) → past_first least number rest ≡ old_ok old p → (h : PlainHunk) × (first_hunk least number rest ≡ hunk_ok h p) × (old_range h ≡ old)
row_reads least number rest old p read =
    let b = bind_ok (first_hunk least number rest) (λ y. old_ok (old_range y.0) y.1) (old, p) (sym (hunk_is least number rest) ∙ read) in
    let same : (old_range b.0.0, b.0.1) ≡ (old, p) = ok_is _ _ b.2 in
    (b.0.0, b.1 ∙ ap (λ (x : OldRange × Ahead). hunk_ok b.0.0 x.1) same, ap (λ (x : OldRange × Ahead). x.0) same)
