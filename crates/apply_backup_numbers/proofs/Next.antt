-- The backup that a target gets is the one that comes next.
use Rattle.std.proofs.Common.{◌≡◌, ℕ, ◌-◌, ◌^◌, ◌<◌, Option, None, Some, ◌∙◌, ap}
use Rattle.outside.specs.Files.{Files}
use Rattle.outside.specs.Numbered.{IsLastNumber}
use Rattle.read_file_patch.specs.declared.derived.Target.{Target}
use Rattle.patch_options.specs.declared.options.BackupNumbers.{BackupNumbers}
use Rattle.apply_backup_numbers.specs.Numbering.{next_number, with_number}
use Rattle.apply_backup_numbers.specs.Renumbered.{IsNumbered, IsNumberedIf}
use Rattle.apply_backup_numbers.proofs.Last.{last-is}

pub numbered-by : (numbers : BackupNumbers) (told : Option Files) (t u : Target) (last : ℕ) (number : Option ℕ)
    → ((f : Files) → told ≡ Some f → IsLastNumber f t.name last) → (last < 2 ^ 64 - 1 → number ≡ next_number numbers last) → u ≡ with_number number t → IsNumbered numbers told t u
numbered-by numbers told t u last number lasts next same = record {
  number = number;
  same = same;
  next = λ f is.
      let there : IsLastNumber f t.name last = lasts f is in
      same ∙ ap (λ (n : Option ℕ). with_number n t) (next there.known ∙ ap (next_number numbers) (last-is f t.name last there));
}

-- an output that is there was numbered
pub output-some : (numbers : BackupNumbers) (told : Option Files) (old new : Option Target) (t u : Target) → old ≡ Some t → new ≡ Some u → IsNumbered numbers told t u → IsNumberedIf numbers told old new
output-some numbers told old new t u was is one = rw (was, is) one

pub output-none : (numbers : BackupNumbers) (told : Option Files) (old new : Option Target) → old ≡ None → new ≡ None → IsNumberedIf numbers told old new
output-none numbers told old new was is = rw (was, is) tt
