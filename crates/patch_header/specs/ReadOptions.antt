-- The ways to look through a patch text that have names.
use Rattle.std.specs.Prelude.{Bool, false, Option}
use Rattle.hunk_core.specs.declared.Form.{Form}
use Rattle.patch_header.specs.declared.read_options.ReadOptions.{ReadOptions}

-- with git headers or without them, where binary lines stop the search
abbrev pub with_git : Option Form → Bool → ReadOptions
with_git only git = record { only = only; git = git; skip_binary = false }

-- without git headers, where binary lines stop the search
abbrev pub plainly : Option Form → ReadOptions
plainly only = with_git only false
