-- The counts by which names are compared.
use Rattle.std.specs.Prelude.{ℕ, List, length, Bool, ◌==◌, nat_lt, if◌then◌else◌, Option, None, Some, option_map}
use Rattle.name_choice.specs.declared.rank.Rank.{Rank}
use Rattle.name_choice.specs.declared.rank.Best.{Best}
use Rattle.name_choice.specs.Better.{component_count, last_length}

-- the counts of a name that needs so many new directories
abbrev pub rank_of : ℕ → List ℕ → Rank
rank_of new_directories name = record { new_directories = new_directories; parts = component_count name; last = last_length name; length = length name }

-- the first count in which they differ is smaller
abbrev pub precedes : Rank → Rank → Bool
precedes a b = if a.new_directories == b.new_directories then
    (if a.parts == b.parts then
    (if a.last == b.last then nat_lt a.length b.length else nat_lt a.last b.last)
    else nat_lt a.parts b.parts)
    else nat_lt a.new_directories b.new_directories

-- the better of the best so far and one that comes behind it
abbrev pub better_of : Option Best → Best → Best
better_of None next = next
better_of (Some best) next = if precedes next.rank best.rank then next else best

-- the name at a place, with its counts
abbrev pub best_at : ℕ → ℕ → List ℕ → Best
best_at place new_directories name = record { place = place; rank = rank_of new_directories name }

-- the best once a name was looked at that counts or doesn't
abbrev pub best_with : Option Best → Bool → Best → Option Best
best_with best counts next = if counts then Some (better_of best next) else best

abbrev pub place_of : Option Best → Option ℕ
place_of best = option_map (λ b. b.place) best
