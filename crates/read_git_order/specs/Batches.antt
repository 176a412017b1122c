-- In which order the file patches of a text are carried out: within what one `git diff` wrote, who renames or copies a file comes before whoever changes it.
use Rattle.std.specs.Prelude.{ℕ, zero, suc, ◌-◌, Bool, true, false, not, ◌&&◌, ◌||◌, List, [], ◌∷◌, ◌++◌, length, drop, get_or, slice_get, codes, is_some, Option, None, Some, unwrap_or, if◌then◌else◌, nat_lt, ◌==◌}
use Rattle.std.specs.List.{list_any, position, remove, range_with_len}
use Rattle.std.specs.Option.{option_map_or}
use Rattle.read_git_order.specs.declared.pieces.Piece.{Piece}
use Rattle.read_git_order.specs.Pieces.{begins}
use Rattle.read_git_order.specs.Waiting.{changes_one, changes_source, is_file, of_two, waits}

-- ---- a batch in order

abbrev pub go_on : (ℕ → Option ℕ) → ℕ → Option ℕ → Option ℕ
go_on later k None = Some k
go_on later k (Some m) = later m

-- of those that are left, by their places among these: one of them, or the first that it waits for, or the first that that one waits for, until one waits for nobody; none
-- where so many steps lead to no such one, since the waiting goes round
unfoldable pub leader : ℕ → (ℕ → ℕ → Bool) → List ℕ → ℕ → Option ℕ
leader zero waits left k = None
leader (suc most) waits left k = go_on (leader most waits left) k (position (waits (get_or left k 0)) left)

-- the next of those that are left: the first, or whom it waits for
abbrev pub next_of : (ℕ → ℕ → Bool) → List ℕ → ℕ
next_of waits left = unwrap_or (leader (length left) waits left 0) 0

-- so many of them, one after another
unfoldable pub taken : ℕ → (ℕ → ℕ → Bool) → List ℕ → List ℕ
taken zero waits left = []
taken (suc most) waits left = get_or left (next_of waits left) 0 ∷ taken most waits (remove left (next_of waits left))

-- a line of hunks or of a header's names stands directly behind the last of them, which a git header in front of it would lead
abbrev pub is_led : List ℕ → Bool
is_led bytes = begins (codes "--- ") bytes || begins (codes "@@ ") bytes

abbrev pub end_at : List Piece → ℕ → ℕ
end_at ps k = option_map_or (λ p. p.end) (slice_get ps k) 0

abbrev pub last_of : List ℕ → ℕ
last_of ks = get_or ks (length ks - 1) 0

abbrev pub in_batch : List ℕ → Bool → List Piece → List ℕ → List ℕ
in_batch text reverse ps batch = if is_led (drop (end_at ps (last_of batch)) text) then batch else taken (length batch) (waits text reverse ps batch) batch

-- ---- batches

abbrev pub is_same_file : Option ℕ → Option ℕ → Bool
is_same_file own None = false
is_same_file own (Some file) = is_file own file

abbrev pub makes_same : Piece → Piece → Bool
makes_same p q = is_same_file p.made q.made

abbrev pub has_git : Option Piece → Bool
has_git p = option_map_or (λ x. is_some x.places.git) p false

-- its git line is its first line
abbrev pub begins_with_git : Option Piece → Bool
begins_with_git p = option_map_or (λ x. is_file x.places.git 0) p false

-- a file patch goes on with the batch in front of it: no line stands between, and the batch makes no file that it makes
abbrev pub goes_on : List Piece → List ℕ → ℕ → Bool
goes_on ps batch k = (begins_with_git (slice_get ps k) && has_git (slice_get ps (k - 1))) && not (list_any (λ i. of_two makes_same ps i k) batch)

-- the batch that a file patch stands in, and the one that ends in front of it, in order, if one does
abbrev pub begun : List Piece → List ℕ → ℕ → List ℕ
begun ps batch k = (if goes_on ps batch k then batch else []) ++ k ∷ []

abbrev pub ended : List ℕ → Bool → List Piece → List ℕ → ℕ → List ℕ
ended text reverse ps batch k = if goes_on ps batch k then [] else in_batch text reverse ps batch

-- these file patches in the order of their batches, the first of which was begun
unfoldable pub in_batches : List ℕ → Bool → List Piece → List ℕ → List ℕ → List ℕ
in_batches text reverse ps batch [] = in_batch text reverse ps batch
in_batches text reverse ps batch (k ∷ ks) = ended text reverse ps batch k ++ in_batches text reverse ps (begun ps batch k) ks

-- the order of all file patches of a text, by their places in it
abbrev pub in_order : List ℕ → Bool → List Piece → List ℕ
in_order text reverse ps = in_batches text reverse ps [] (range_with_len 0 (length ps))

-- ---- where any order but the text's is asked for

-- one in front of it changes its source
abbrev pub is_behind : List Piece → Piece → Option ℕ → Bool
is_behind ps q None = false
is_behind ps q (Some file) = list_any (λ p. nat_lt p.start q.start && changes_one p (Some file)) ps

abbrev pub is_late : List Piece → Piece → Bool
is_late ps q = is_behind ps q q.source

abbrev pub has_late : List Piece → Bool
has_late ps = list_any (is_late ps) ps
