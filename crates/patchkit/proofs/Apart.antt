-- The four kinds of tools are apart. Each pair is shown here, since `cc` in an answer looks through all that is known of a run.
use Rattle.std.proofs.Common.{◌≡◌}
use Rattle.patchkit.specs.declared.kind.ToolKind.TheVariants.{Patch, Filter, Gen, Stack}

pub patch-filter : Patch ≡ Filter → ⊥
patch-filter never = cc

pub patch-gen : Patch ≡ Gen → ⊥
patch-gen never = cc

pub patch-stack : Patch ≡ Stack → ⊥
patch-stack never = cc

pub filter-gen : Filter ≡ Gen → ⊥
filter-gen never = cc

pub filter-stack : Filter ≡ Stack → ⊥
filter-stack never = cc

pub gen-stack : Gen ≡ Stack → ⊥
gen-stack never = cc
