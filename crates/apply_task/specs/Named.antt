-- What is known of the names of a target.
use Rattle.std.specs.Prelude.{◌≡◌, ◌≢◌, ◌⊎◌, ℕ, suc, ◌<◌, List, length, get_or, Bool, true}
use Rattle.outside.specs.Files.{temp_of}
use Rattle.read_file_patch.specs.declared.derived.Target.{Target}
use Rattle.read_file_patch.specs.Targets.{HasTemps, IsLasting}

-- a component of the name begins there
abbrev pub BeginsComponent : List ℕ → ℕ → Type 0
BeginsComponent name from = (from ≡ 0) ⊎ ((k : ℕ) × (from ≡ suc k) × (k < length name) × (get_or name k 0 ≡ 47))

-- the name isn't one that making this backup changes
abbrev pub IsBeside : Bool → Target → List ℕ → Type 0
IsBeside due t name = due ≡ true → (name ≢ t.backup) × (name ≢ t.backup_temp)

-- its names are apart from those of temporaries, which are formed from them, and what messages leave off is a directory
pub record IsNamed (t : Target) : Type 0 where
  pub temps : HasTemps t
  pub lasting : IsLasting t
  pub temp : t.temp ≡ temp_of t.name
  pub backup_temp : t.backup_temp ≡ temp_of t.backup
  pub reject_temp : t.reject_temp ≡ temp_of t.reject
  pub shown : BeginsComponent t.name t.shown_from
  pub shown_reject : BeginsComponent t.reject t.reject_shown_from
