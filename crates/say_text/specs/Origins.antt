-- Where a patched file comes from.
use Rattle.std.specs.Prelude.{ℕ, List}
use Rattle.say_text.specs.declared.origin.Origin.{Origin}
use Rattle.say_text.specs.declared.origin.Origin.TheVariants.{Same, Renamed, AlreadyRenamed, Copied}

-- a file is what it was, or it is the file with another name, renamed, now or before, or copied
pub data PlainOrigin : Type 0 where
  Itself : PlainOrigin
  RenamedFrom : List ℕ → PlainOrigin
  RenamedBefore : List ℕ → PlainOrigin
  CopiedFrom : List ℕ → PlainOrigin

abbrev pub plain_origin : Origin → PlainOrigin
plain_origin Same = Itself
plain_origin (Renamed source) = RenamedFrom source.now
plain_origin (AlreadyRenamed source) = RenamedBefore source.now
plain_origin (Copied source) = CopiedFrom source.now
