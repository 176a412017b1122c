-- File patches that were given their targets, all else staying.
use Rattle.std.specs.Prelude.{◌≡◌, ℕ, ◌<◌, ◌^◌, List, [], ◌∷◌, length, map, All, Option}
use Rattle.std.specs.Option.{ForSome}
use Rattle.read_file_patch.specs.declared.FilePatch.{FilePatch}
use Rattle.read_file_patch.specs.PlainPatch.{header_of, patch_of}
use Rattle.patch_options.specs.PlainJob.{PlainOptions}
use Rattle.read_file_patch.specs.declared.derived.Target.{Target}
use Rattle.read_file_patch.specs.Targets.{HasTemps}
use Rattle.patch_set.specs.Named.{known_names, output_of, targets_of}

-- a file patch and what it is with its targets
pub record IsNamed (o : PlainOptions) (text : List ℕ) (known : List (List ℕ)) (p q : FilePatch) : Type 0 where
  pub header : q.header ≡ p.header
  pub span : q.span ≡ p.span
  pub hunk_spans : q.hunk_spans ≡ p.hunk_spans
  pub change : q.change ≡ p.change
  pub old_absent : q.old_absent ≡ p.old_absent
  pub new_absent : q.new_absent ≡ p.new_absent
  pub first : q.first_verdict ≡ p.first_verdict
  pub targets : q.targets.items ≡ targets_of o known (header_of text p.header)
  pub few : length q.targets.items < 2 ^ 32
  pub temps : All HasTemps q.targets.items

-- the same, one by one
abbrev pub AreNamed : PlainOptions → List ℕ → List (List ℕ) → List FilePatch → List FilePatch → Type 0
AreNamed o text known [] [] = Unit {0}
AreNamed o text known [] (q ∷ qs) = ⊥
AreNamed o text known (p ∷ ps) [] = ⊥
AreNamed o text known (p ∷ ps) (q ∷ qs) = IsNamed o text known p q × AreNamed o text known ps qs

-- file patches of a text and an output with their targets
pub record HaveTargets (o : PlainOptions) (text : List ℕ) (ps qs : List FilePatch) (output : Option Target) : Type 0 where
  pub are : AreNamed o text (known_names o (map (patch_of text) ps)) ps qs
  pub out : output ≡ output_of o (known_names o (map (patch_of text) ps))
  pub temps : ForSome output HasTemps
