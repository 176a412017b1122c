-- The names of numbered backups (GNU patch manual, "Backup Files").
use Rattle.std.specs.Prelude.{◌≡◌, ◌⊎◌, ℕ, ◌≤◌, ◌<◌, ◌-◌, ◌^◌, List, ◌++◌, codes, IsSome}
use Rattle.std.specs.FinMap.{get}
use Rattle.num_text.specs.Numbers.{decimal}
use Rattle.outside.specs.Files.{Files}

-- `f.~2~`
abbrev pub numbered : List ℕ → ℕ → List ℕ
numbered name n = name ++ codes ".~" ++ decimal n ++ codes "~"

-- a file has this number behind the name, or it is 0 and none has one; no file has a greater one, of those that are below the largest u64
pub record IsLastNumber (files : Files) (name : List ℕ) (n : ℕ) : Type 0 where
  pub known : n < 2 ^ 64 - 1
  pub there : (n ≡ 0) ⊎ IsSome (get files (numbered name n))
  pub last : (m : ℕ) → m < 2 ^ 64 - 1 → IsSome (get files (numbered name m)) → m ≤ n
