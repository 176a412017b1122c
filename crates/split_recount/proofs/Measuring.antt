-- A body measured line by line.
use Rattle.std.proofs.Common.{◌≡◌, ℕ, ◌+◌, ◌-◌, ◌≤◌, Bool, true, false, ◌||◌, List, [], ◌∷◌, ◌++◌, length, take, drop, slice_range, Option, None, Some, refl, sym, ap, ◌∙◌, arith, append_assoc}
use Rattle.std.proofs.lemmas.List.{append-nil}
use Rattle.std.proofs.Math.Seq.{take-add, drop-drop}
use Rattle.std.specs.List.{list_any, cons_option}
use Rattle.std.specs.Prelude.{option_map}
use Rattle.std.proofs.Math.Bool.{or-false}
use Rattle.line_list.specs.Lines.{IsLineAt}
use Rattle.hunk_core.specs.declared.Mark.{Mark}
use Rattle.hunk_core.specs.declared.Mark.TheVariants.{Keep, Drop, Add}
use Rattle.hunk_core.specs.PlainHunk.{Marked}
use Rattle.hunk_core.specs.LineTests.{is_backslash}
use Rattle.unified_form.specs.declared.body.Left.{Left}
use Rattle.unified_form.specs.Bodies.{mark_at}
use Rattle.unified_form.specs.Grammar.{counts_of}
use Rattle.split_recount.specs.declared.body.Sides.{Sides}
use Rattle.split_recount.specs.declared.body.Body.{Body}
use Rattle.split_recount.specs.Bodies.{body_of, marked_lines, mark_in}
use Rattle.split_recount.specs.Recounted.{bytes_of}
use Rattle.split_recount.specs.Measured.{left_of, with_mark, ahead_at, body_at, behind_body, GoesOn, IsFew, IsMeasured}

-- two parts of a body together
abbrev pub plus : Left → Left → Left
plus a b = record { old = a.old + b.old; new = a.new + b.new }

abbrev left : ℕ → ℕ → Left
left old new = record { old = old; new = new }

-- what the lines of a body have on each side
abbrev pub sides_of : List (List ℕ) → Left
sides_of body = counts_of (marked_lines body)

-- a first part of a body was measured, and what is ahead gives the whole
pub record Measures (text : List ℕ) (at : ℕ) (b : Body) : Type 0 where
  pub low : at ≤ b.end
  pub high : b.end ≤ length text
  pub few : IsFew at b
  pub lines : length (body_at text at) ≡ b.lines + length (body_at text b.end)
  pub bytes : bytes_of (body_at text at) ≡ slice_range text at b.end ++ bytes_of (body_at text b.end)
  pub rest : behind_body (ahead_at text at) ≡ behind_body (ahead_at text b.end)
  pub sides : sides_of (body_at text at) ≡ plus (left_of b.sides) (sides_of (body_at text b.end))
  pub backslash : list_any is_backslash (body_at text at) ≡ (b.has_backslash || list_any is_backslash (body_at text b.end))

pub range_split : (text : List ℕ) (at middle end : ℕ) → at ≤ middle → middle ≤ end → slice_range text at end ≡ slice_range text at middle ++ slice_range text middle end
range_split text at middle end p q =
    let width : end - at ≡ (middle - at) + (end - middle) = omega arith in
    let place : at + (middle - at) ≡ middle = omega arith in
    ap (λ n. take n (drop at text)) width ∙ take-add (middle - at) (end - middle) (drop at text) ∙ ap (λ l. slice_range text at middle ++ take (end - middle) l) (drop-drop (middle - at) at text ∙ ap (λ n. drop n text) place)

-- ---- a line more

by-mark : (found : Option Marked) (more : List Marked) → counts_of (cons_option found more) ≡ with_mark (option_map (λ m. m.mark) found) (counts_of more)
by-mark None more = refl
by-mark (Some m) more = refl

pub sides-more : (line : List ℕ) (body : List (List ℕ)) → sides_of (line ∷ body) ≡ with_mark (mark_in line) (sides_of body)
sides-more line body = by-mark (mark_at line) (marked_lines body)

same-left : (a b c d : ℕ) → a ≡ c → b ≡ d → left a b ≡ left c d
same-left a b c d e f = cc

plus-mark : (m : Option Mark) (a b : Left) → plus a (with_mark m b) ≡ plus (with_mark m a) b
plus-mark None a b = refl
plus-mark (Some Keep) a b = same-left _ _ _ _ (omega arith) (omega arith)
plus-mark (Some Drop) a b = same-left _ _ _ _ (omega arith) refl
plus-mark (Some Add) a b = same-left _ _ _ _ refl (omega arith)

or-assoc : (a b d : Bool) → (a || (b || d)) ≡ ((a || b) || d)
or-assoc true b d = refl
or-assoc false b d = refl

mark-few : (m : Option Mark) (a : Left) (n : ℕ) → a.old ≤ n → a.new ≤ n → ((with_mark m a).old ≤ n + 1) × ((with_mark m a).new ≤ n + 1)
mark-few None a n e f = (omega (arith, e), omega (arith, f))
mark-few (Some Keep) a n e f = (omega (arith, e), omega (arith, f))
mark-few (Some Drop) a n e f = (omega (arith, e), omega (arith, f))
mark-few (Some Add) a n e f = (omega (arith, e), omega (arith, f))

behind-more : (ls rest : List (List ℕ)) (line : List ℕ) → ls ≡ line ∷ rest → body_of ls ≡ line ∷ body_of rest → behind_body ls ≡ behind_body rest
behind-more ls rest line e f = rw (f, e) refl

plus-none : (l : Left) → l ≡ plus (left 0 0) l
plus-none l = same-left l.old l.new (0 + l.old) (0 + l.new) (omega arith) (omega arith)

pub measures_begin : (text : List ℕ) (at : ℕ) → at ≤ length text → Measures text at (record { end = at; lines = 0; sides = record { old = 0; new = 0 }; has_backslash = false })
measures_begin text at le =
    let width : at - at ≡ 0 = omega arith in
    record {
      low = omega arith;
      high = le;
      few = record { lines = omega arith; old = omega arith; new = omega arith };
      lines = omega arith;
      bytes = rw width refl;
      rest = refl;
      sides = plus-none (sides_of (body_at text at));
      backslash = refl;
    }

pub measures_more : (text : List ℕ) (at : ℕ) (b : Body) (end : ℕ) (sides : Sides) (slash : Bool) → Measures text at b → GoesOn text b.end (Some end)
    → left_of sides ≡ with_mark (mark_in (slice_range text b.end end)) (left_of b.sides) → slash ≡ (b.has_backslash || is_backslash (slice_range text b.end end))
    → Measures text at (record { end = end; lines = b.lines + 1; sides = sides; has_backslash = slash })
measures_more text at b end sides slash so goes marked slashed =
    let line = slice_range text b.end end in
    let place : IsLineAt text b.end end = goes.0 in
    let more : body_at text b.end ≡ line ∷ body_at text end = goes.1 in
    let few = mark-few (mark_in line) (left_of b.sides) b.lines so.few.old so.few.new in
    record {
      low = omega (arith, so.low, place.low);
      high = place.high;
      few = record {
        lines = omega (arith, so.few.lines, place.low);
        old = omega (arith, few.0, ap (λ (l : Left). l.old) marked);
        new = omega (arith, few.1, ap (λ (l : Left). l.new) marked);
      };
      lines = omega (arith, so.lines, ap length more);
      bytes = so.bytes ∙ ap (λ (ls : List (List ℕ)). slice_range text at b.end ++ bytes_of ls) more ∙ sym (append_assoc (slice_range text at b.end) line (bytes_of (body_at text end)))
          ∙ ap (λ (l : List ℕ). l ++ bytes_of (body_at text end)) (sym (range_split text at b.end end so.low (omega (arith, place.low))));
      rest = so.rest ∙ behind-more (ahead_at text b.end) (ahead_at text end) line place.first more;
      sides = so.sides ∙ ap (λ (ls : List (List ℕ)). plus (left_of b.sides) (sides_of ls)) more ∙ ap (plus (left_of b.sides)) (sides-more line (body_at text end))
          ∙ plus-mark (mark_in line) (left_of b.sides) (sides_of (body_at text end)) ∙ ap (λ (l : Left). plus l (sides_of (body_at text end))) (sym marked);
      backslash = so.backslash ∙ ap (λ (ls : List (List ℕ)). b.has_backslash || list_any is_backslash ls) more ∙ or-assoc b.has_backslash (is_backslash line) (list_any is_backslash (body_at text end))
          ∙ ap (λ (v : Bool). v || list_any is_backslash (body_at text end)) (sym slashed);
    }

pub measures_done : (text : List ℕ) (at : ℕ) (b : Body) → Measures text at b → body_at text b.end ≡ [] → IsMeasured text at b
measures_done text at b so none =
    record {
      high = so.high;
      few = so.few;
      lines = omega (arith, so.lines, ap length none);
      bytes = so.bytes ∙ ap (λ (ls : List (List ℕ)). slice_range text at b.end ++ bytes_of ls) none ∙ append-nil (slice_range text at b.end);
      rest = so.rest ∙ ap (λ (ls : List (List ℕ)). drop (length ls) (ahead_at text b.end)) none;
      sides = so.sides ∙ ap (λ (ls : List (List ℕ)). plus (left_of b.sides) (sides_of ls)) none ∙ same-left _ _ _ _ (omega arith) (omega arith);
      backslash = so.backslash ∙ ap (λ (ls : List (List ℕ)). b.has_backslash || list_any is_backslash ls) none ∙ or-false b.has_backslash;
    }
