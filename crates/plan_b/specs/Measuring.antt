-- The lines before a place of a file.
use Rattle.std.specs.Prelude.{◌≡◌, ℕ, List, length, None}
use Rattle.line_store.specs.Taking.{first_long}
use Rattle.plan_b.specs.Pages.{width_of}
use Rattle.plan_b.specs.declared.layout.Layout.{Layout}

-- a layout fits these lines, of which none is too long
pub record IsMeasuredAs (l : Layout) (ls : List (List ℕ)) : Type 0 where
  pub counted : l.count ≡ length ls
  pub fits : l.width ≡ width_of ls
  pub short : first_long l.size ls ≡ None
