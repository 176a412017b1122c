use Rattle.std.proofs.Common.{◌≡◌, ◌++◌, drop, map}
use Rattle.read_patch_text.specs.Regions.{region_of}
use Rattle.cli_tool_words.specs.PlainJobs.{plain_style}
use Rattle.filter_style.specs.Styled.{styled_from}
use Rattle.filter_style.proofs.styling.styled_text.Given as goal

-- the file patches so far, with what is made of those that are left
abbrev pub invariant-loop-patch : goal.invariant-loop-patch
invariant-loop-patch l =
    l.out.items ++ styled_from (plain_style l.style) l.text l.at (map region_of (drop l.patch-index l.patches))
    ≡ styled_from (plain_style l.style) l.text 0 (map region_of l.patches)
