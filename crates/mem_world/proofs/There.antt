-- Whether a tree in memory has a file.
use Rattle.std.proofs.Common.{◌≡◌, ℕ, List, Bor, Option, Some, None, is_some, IsSome, refl, sym, subst}
use Rattle.std.specs.Option.{option_copied}
use Rattle.outside.specs.Files.{Files}
use Rattle.outside.specs.Calls.{IsThere}
use Rattle.std.specs.FinMap.{get}
use Rattle.mem_world.specs.Disk.{Note, disk, view_of}

pub has_file : (ns : List Note) (faults : ℕ) (q : List ℕ) (o : Option (List ℕ)) → ((f : Files) → (view_of ns faults).told ≡ Some f → o ≡ get f q) → (IsSome o → IsThere (view_of ns faults) q) × (IsThere (view_of ns faults) q → IsSome o)
unfolding view_of
has_file ns faults q o is = (λ some f told. subst (λ (x : Option (List ℕ)). IsSome x) (is f told) some, λ there. subst (λ (x : Option (List ℕ)). IsSome x) (sym (is (disk ns).live refl)) (there (disk ns).live refl))

pub copied_some : (r : Option (Bor (List ℕ))) → is_some (option_copied r) ≡ is_some r
copied_some None = refl
copied_some (Some b) = refl
