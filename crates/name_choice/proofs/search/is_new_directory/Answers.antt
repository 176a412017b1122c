use Rattle.outside.specs.Names.{directory_text}
use Rattle.name_choice.proofs.Counted.{below-test}
use Rattle.name_choice.proofs.search.is_new_directory.Goals as goal

pub returns-clause-there : goal.returns-clause-there
returns-clause-there g c = λ files told. below-test files (directory_text c.args.parts c.args.name.now) c.in_ok-has_dir.field-0 (c.in_ok-has_dir.ensures.there files told)
