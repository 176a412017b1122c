use Rattle.std.proofs.Common.{◌≡◌, ℕ, List, Option, false, Some, refl, sym, ap, ◌∙◌}
use Rattle.std.specs.Prelude.{option_and_then}
use Rattle.std.specs.List.{AllByRecursion}
use Rattle.read_header_record.specs.Quoted.{IsNameByte, begins_quoted, name_of, quoted}
use Rattle.read_header_record.proofs.Quotes.{read-back}
use Rattle.read_file_patch.specs.Candidates.{header_candidate, left_if_file, left_name}
use Rattle.read_file_patch.proofs.laws.quoted_names_are_the_same.Goals as goal

bare : (name : List ℕ) → begins_quoted name ≡ false → name_of name ≡ Some name
bare name e = rw e refl

pub returns-clause-header : goal.returns-clause-header
returns-clause-header c strip name all e = ap (option_and_then (left_if_file strip)) (read-back name all ∙ sym (bare name e))

pub returns-clause-other : goal.returns-clause-other
returns-clause-other c strip name all = ap (option_and_then (left_name strip)) (read-back name all)
