-- What a search keeps of git headers is what their lines say.
use Rattle.std.proofs.Common.{◌≡◌, ℕ, ◌+◌, Bool, true, false, cond, ◌&&◌, ◌||◌, not, List, [], ◌∷◌, ◌++◌, length, reverse, Option, None, Some, refl, ap, ◌∙◌}
use Rattle.std.specs.Prelude.{is_some, unwrap_or, codes}
use Rattle.std.specs.Option.{option_or}
use Rattle.std.proofs.lemmas.List.{reverse-append}
use Rattle.hunk_core.specs.declared.Form.{Form}
use Rattle.patch_header.specs.Content.{content}
use Rattle.patch_header.specs.GitHeaders.{starts, is_git_line, is_extended, has_line, action_of, is_plain, asks_alone}
use Rattle.patch_header.specs.GitRows.{lines_of, old_mode_of, new_mode_of, old_mode_in, new_mode_in, git_lines_in, from_by, to_by, from_in, to_in, with_row, header_back, old_name_back, new_name_back, led_rows, ends_with_git, is_unified, led_by, led_directly}
use Rattle.patch_header.specs.Region.{Row, rows, tail_of, first_some, last_tail, later}
use Rattle.patch_header.specs.Said.{said_with, action_said, asks_said, from_by_said, to_by_said, from_said, to_said, push_said, header_said, kept_if, trail_said, said_in, trail_back, trail_in, or_nothing, led_in, led_said, leads_directly}
use Rattle.patch_header.specs.declared.region.Tail.{Tail}
use Rattle.patch_header.specs.declared.read_options.ReadOptions.{ReadOptions}
use Rattle.read_header_record.specs.declared.Action.{Action}
use Rattle.read_header_record.specs.declared.Action.TheVariants.{Plain, New, Deleted, Rename, Copy}
use Rattle.patch_header.specs.declared.git_lines.GitLines.{GitLines}
use Rattle.patch_header.specs.declared.git_trail.GitTrail.{GitTrail}

or_false : (v : Bool) → (v || false) ≡ v
or_false true = refl
or_false false = refl

or-assoc : (u v w : Bool) → (u || (v || w)) ≡ ((u || v) || w)
or-assoc true v w = refl
or-assoc false v w = refl

or-swap : (u v : Bool) → (u || v) ≡ (v || u)
or-swap true true = refl
or-swap true false = refl
or-swap false true = refl
or-swap false false = refl

-- ---- one more line

pub has-push : (mark : List ℕ) (rs : List Row) (r : Row) → has_line mark (lines_of (rs ++ r ∷ [])) ≡ (has_line mark (lines_of rs) || starts mark r.line)
has-push mark [] r = or_false (starts mark r.line)
has-push mark (x ∷ rs) r = ap (λ v. starts mark x.line || v) (has-push mark rs r) ∙ or-assoc (starts mark x.line) (has_line mark (lines_of rs)) (starts mark r.line)

last-push : (f : Row → Option Tail) (rs : List Row) (r : Row) → first_some f (reverse (rs ++ r ∷ [])) ≡ later (first_some f (reverse rs)) (f r)
last-push f rs r = ap (first_some f) (reverse-append rs (r ∷ []))

pub tail-push : (mark : List ℕ) (rs : List Row) (r : Row) → last_tail mark (rs ++ r ∷ []) ≡ later (last_tail mark rs) (tail_of mark r)
tail-push mark rs r = last-push (tail_of mark) rs r

pub said-push : (rs : List Row) (r : Row) → git_lines_in (rs ++ r ∷ []) ≡ said_with (git_lines_in rs) r
said-push rs r = λ i. record {
  is_new = has-push (codes "new file mode ") rs r i;
  is_deleted = has-push (codes "deleted file mode ") rs r i;
  rename_from = tail-push (codes "rename from ") rs r i;
  rename_to = tail-push (codes "rename to ") rs r i;
  copy_from = tail-push (codes "copy from ") rs r i;
  copy_to = tail-push (codes "copy to ") rs r i;
  old_mode = last-push old_mode_of rs r i;
  new_mode = last-push new_mode_of rs r i;
}

-- ---- what the lines say

some-tail : (v : Bool) (t : Tail) (o : Option Tail) → is_some (cond (is_some (cond v (Some t) None)) (cond v (Some t) None) o) ≡ (v || is_some o)
some-tail true t o = refl
some-tail false t o = refl

first-there : (mark : List ℕ) (rs : List Row) → is_some (first_some (tail_of mark) rs) ≡ has_line mark (lines_of rs)
first-there mark [] = refl
first-there mark (r ∷ rs) =
    some-tail (starts mark r.line) (record { number = r.number; start = r.start + length mark; end = r.start + length (content r.line) }) (first_some (tail_of mark) rs)
    ∙ ap (λ v. starts mark r.line || v) (first-there mark rs)

has-turned : (mark : List ℕ) (rs : List Row) → has_line mark (lines_of (reverse rs)) ≡ has_line mark (lines_of rs)
has-turned mark [] = refl
has-turned mark (r ∷ rs) =
    ap (λ l. has_line mark (lines_of l)) (reverse-append (r ∷ []) rs)
    ∙ has-push mark (reverse rs) r
    ∙ ap (λ v. v || starts mark r.line) (has-turned mark rs)
    ∙ or-swap (has_line mark (lines_of rs)) (starts mark r.line)

last-there : (mark : List ℕ) (rs : List Row) → is_some (last_tail mark rs) ≡ has_line mark (lines_of rs)
last-there mark rs = first-there mark (reverse rs) ∙ has-turned mark rs

abbrev chosen : Bool → Bool → Bool → Bool → Bool → Bool → Action
chosen n d a b c e = cond n New (cond d Deleted (cond (a && b) Rename (cond (c && e) Copy Plain)))

pub action-is : (rs : List Row) → action_said (git_lines_in rs) ≡ action_of (lines_of rs)
unfolding action_of
action-is rs =
    let ls = lines_of rs in
    let n = has_line (codes "new file mode ") ls in
    let d = has_line (codes "deleted file mode ") ls in
    ap (λ v. chosen n d v (is_some (last_tail (codes "rename to ") rs)) (is_some (last_tail (codes "copy from ") rs)) (is_some (last_tail (codes "copy to ") rs))) (last-there (codes "rename from ") rs)
    ∙ ap (λ v. chosen n d (has_line (codes "rename from ") ls) v (is_some (last_tail (codes "copy from ") rs)) (is_some (last_tail (codes "copy to ") rs))) (last-there (codes "rename to ") rs)
    ∙ ap (λ v. chosen n d (has_line (codes "rename from ") ls) (has_line (codes "rename to ") ls) v (is_some (last_tail (codes "copy to ") rs))) (last-there (codes "copy from ") rs)
    ∙ ap (λ v. chosen n d (has_line (codes "rename from ") ls) (has_line (codes "rename to ") ls) (has_line (codes "copy from ") ls) v) (last-there (codes "copy to ") rs)

-- ---- a mode that is changed

later-there : (a b : Option Tail) → is_some (later a b) ≡ (is_some a || is_some b)
later-there None None = refl
later-there None (Some t) = refl
later-there (Some s) None = refl
later-there (Some s) (Some t) = refl

first-later : (o p : Option Tail) → is_some (cond (is_some o) o p) ≡ (is_some o || is_some p)
first-later None p = refl
first-later (Some t) p = refl

tail-there : (mark : List ℕ) (r : Row) → is_some (tail_of mark r) ≡ starts mark r.line
tail-there mark r = by (starts mark r.line) (record { number = r.number; start = r.start + length mark; end = r.start + length (content r.line) })
  where
    by : (v : Bool) (t : Tail) → is_some (cond v (Some t) None) ≡ v
    by true t = refl
    by false t = refl

or-four : (a b c d : Bool) → ((a || b) || (c || d)) ≡ ((a || c) || (b || d))
or-four true b c d = refl
or-four false true true d = refl
or-four false true false d = refl
or-four false false c d = refl

-- a line of either kind
two-there : (f : Row → Option Tail) (m n : List ℕ) → ((r : Row) → is_some (f r) ≡ (starts m r.line || starts n r.line)) → (rs : List Row) → is_some (first_some f rs) ≡ (has_line m (lines_of rs) || has_line n (lines_of rs))
two-there f m n each [] = refl
two-there f m n each (r ∷ rs) =
    first-later (f r) (first_some f rs)
    ∙ ap (λ v. v || is_some (first_some f rs)) (each r)
    ∙ ap (λ v. (starts m r.line || starts n r.line) || v) (two-there f m n each rs)
    ∙ or-four (starts m r.line) (starts n r.line) (has_line m (lines_of rs)) (has_line n (lines_of rs))

last-two : (f : Row → Option Tail) (m n : List ℕ) → ((r : Row) → is_some (f r) ≡ (starts m r.line || starts n r.line)) → (rs : List Row) → is_some (first_some f (reverse rs)) ≡ (has_line m (lines_of rs) || has_line n (lines_of rs))
last-two f m n each rs =
    two-there f m n each (reverse rs)
    ∙ ap (λ v. v || has_line n (lines_of (reverse rs))) (has-turned m rs)
    ∙ ap (λ v. has_line m (lines_of rs) || v) (has-turned n rs)

old-there : (rs : List Row) → is_some (old_mode_in rs) ≡ (has_line (codes "old mode ") (lines_of rs) || has_line (codes "deleted file mode ") (lines_of rs))
old-there rs =
    last-two old_mode_of (codes "old mode ") (codes "deleted file mode ")
    (λ r. later-there (tail_of (codes "old mode ") r) (tail_of (codes "deleted file mode ") r) ∙ ap (λ v. v || is_some (tail_of (codes "deleted file mode ") r)) (tail-there (codes "old mode ") r) ∙ ap (λ v. starts (codes "old mode ") r.line || v) (tail-there (codes "deleted file mode ") r)) rs

new-there : (rs : List Row) → is_some (new_mode_in rs) ≡ (has_line (codes "new mode ") (lines_of rs) || has_line (codes "new file mode ") (lines_of rs))
new-there rs =
    last-two new_mode_of (codes "new mode ") (codes "new file mode ")
    (λ r. later-there (tail_of (codes "new mode ") r) (tail_of (codes "new file mode ") r) ∙ ap (λ v. v || is_some (tail_of (codes "new file mode ") r)) (tail-there (codes "new mode ") r) ∙ ap (λ v. starts (codes "new mode ") r.line || v) (tail-there (codes "new file mode ") r)) rs

-- of a file that is neither new nor deleted no such line tells a mode
both-modes : (n d r c o w : Bool) → (not (is_plain (cond n New (cond d Deleted (cond r Rename (cond c Copy Plain))))) || ((o || d) && (w || n))) ≡ (not (is_plain (cond n New (cond d Deleted (cond r Rename (cond c Copy Plain))))) || (o && w))
both-modes true d r c o w = refl
both-modes false true r c o w = refl
both-modes false false true c o w = refl
both-modes false false false true o w = refl
both-modes false false false false true true = refl
both-modes false false false false true false = refl
both-modes false false false false false w = refl

pub asks-is : (rs : List Row) → asks_said (git_lines_in rs) ≡ asks_alone (lines_of rs)
unfolding action_of asks_alone
asks-is rs =
    let ls = lines_of rs in
    let n = has_line (codes "new file mode ") ls in
    let d = has_line (codes "deleted file mode ") ls in
    let o = has_line (codes "old mode ") ls in
    let w = has_line (codes "new mode ") ls in
    ap (λ a. not (is_plain a) || (is_some (old_mode_in rs) && is_some (new_mode_in rs))) (action-is rs)
    ∙ ap (λ v. not (is_plain (action_of ls)) || (v && is_some (new_mode_in rs))) (old-there rs)
    ∙ ap (λ v. not (is_plain (action_of ls)) || ((o || d) && v)) (new-there rs)
    ∙ both-modes n d (has_line (codes "rename from ") ls && has_line (codes "rename to ") ls) (has_line (codes "copy from ") ls && has_line (codes "copy to ") ls) o w

-- ---- names

same-from : (a : Action) (rs : List Row) → from_by_said a (git_lines_in rs) ≡ from_by a rs
same-from Plain rs = refl
same-from New rs = refl
same-from Deleted rs = refl
same-from Rename rs = refl
same-from Copy rs = refl

same-to : (a : Action) (rs : List Row) → to_by_said a (git_lines_in rs) ≡ to_by a rs
same-to Plain rs = refl
same-to New rs = refl
same-to Deleted rs = refl
same-to Rename rs = refl
same-to Copy rs = refl

pub from-is : (rs : List Row) → from_said (git_lines_in rs) ≡ from_in rs
from-is rs = ap (λ a. from_by_said a (git_lines_in rs)) (action-is rs) ∙ same-from (action_of (lines_of rs)) rs

pub to-is : (rs : List Row) → to_said (git_lines_in rs) ≡ to_in rs
to-is rs = ap (λ a. to_by_said a (git_lines_in rs)) (action-is rs) ∙ same-to (action_of (lines_of rs)) rs

pub lines-back : (number start : ℕ) (ls : List (List ℕ)) → lines_of (rows number start ls) ≡ ls
lines-back number start [] = refl
lines-back number start (l ∷ ls) = ap (λ more. l ∷ more) (lines-back (number + 1) (start + length l) ls)

-- ---- the trail

header-by : (g x : Bool) (o : Option (List Row)) (r : Row) → said_in (cond g (Some []) (cond x (with_row o r) None)) ≡ cond g (Some (git_lines_in [])) (cond x (push_said (said_in o) r) None)
header-by true x o r = refl
header-by false true None r = refl
header-by false true (Some rs) r = ap Some (said-push rs r)
header-by false false o r = refl

header-push : (back : List Row) (r : Row) → said_in (header_back (r ∷ back)) ≡ header_said (said_in (header_back back)) r
unfolding header_back
header-push back r = header-by (is_git_line r.line) (is_extended r.line) (header_back back) r

kept-by : (v : Bool) (o : Option (List Row)) → said_in (cond v o None) ≡ kept_if v (said_in o)
kept-by true o = refl
kept-by false o = refl

old-push : (back : List Row) (r : Row) → said_in (old_name_back (r ∷ back)) ≡ kept_if (starts (codes "--- ") r.line) (said_in (header_back back))
unfolding old_name_back
old-push back r = kept-by (starts (codes "--- ") r.line) (header_back back)

new-push : (back : List Row) (r : Row) → said_in (new_name_back (r ∷ back)) ≡ kept_if (starts (codes "+++ ") r.line) (said_in (old_name_back back))
unfolding new_name_back
new-push back r = kept-by (starts (codes "+++ ") r.line) (old_name_back back)

abbrev trail : Option GitLines → Option GitLines → Option GitLines → GitTrail
trail h m p = record { header = h; old_name = m; new_name = p }

back-push : (back : List Row) (r : Row) → trail_back (r ∷ back) ≡ trail_said (trail_back back) r
back-push back r =
    let t = trail_said (trail_back back) r in
    ap (λ h. trail h (said_in (old_name_back (r ∷ back))) (said_in (new_name_back (r ∷ back)))) (header-push back r)
    ∙ ap (λ m. trail t.header m (said_in (new_name_back (r ∷ back)))) (old-push back r)
    ∙ ap (λ p. trail t.header t.old_name p) (new-push back r)

pub trail-push : (rs : List Row) (r : Row) → trail_in (rs ++ r ∷ []) ≡ trail_said (trail_in rs) r
trail-push rs r = ap trail_back (reverse-append rs (r ∷ [])) ∙ back-push (reverse rs) r

-- ---- what leads an opening

nothing-is : (o p : Option (List Row)) → or_nothing (option_or (said_in o) (said_in p)) ≡ git_lines_in (unwrap_or (option_or o p) [])
nothing-is None None = refl
nothing-is None (Some rs) = refl
nothing-is (Some rs) p = refl

pub led-is : (ways : ReadOptions) (form : Form) (t : GitTrail) (rs : List Row) → (ways.git ≡ true → t ≡ trail_in rs) → led_said ways form t ≡ git_lines_in (led_by ways form rs)
led-is ways form t rs e = by ways.git (is_unified form) e
  where
    by : (g u : Bool) → (g ≡ true → t ≡ trail_in rs) → cond (g && u) (led_in t) (git_lines_in []) ≡ git_lines_in (cond (g && u) (led_rows rs) [])
    by false u k = refl
    by true false k = refl
    by true true k = ap led_in (k refl) ∙ nothing-is (new_name_back (reverse rs)) (header_back (reverse rs))

said-there : (o : Option (List Row)) → is_some (said_in o) ≡ is_some o
said-there None = refl
said-there (Some rs) = refl

pub directly-is : (ways : ReadOptions) (form : Form) (t : GitTrail) (rs : List Row) → (ways.git ≡ true → t ≡ trail_in rs) → leads_directly ways form t ≡ led_directly ways form rs
directly-is ways form t rs e = by ways.git (is_unified form) e
  where
    by : (g u : Bool) → (g ≡ true → t ≡ trail_in rs) → ((g && u) && is_some t.header) ≡ ((g && u) && ends_with_git rs)
    by false u k = refl
    by true false k = refl
    by true true k = ap (λ x. is_some x.header) (k refl) ∙ said-there (header_back (reverse rs))

pub no-led : (ways : ReadOptions) (form : Form) (t : GitTrail) → ways.git ≡ false → led_said ways form t ≡ git_lines_in []
no-led ways form t e = rw e refl
