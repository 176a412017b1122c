-- Why a filter ends early, by what a text that can't be turned round says.
use Rattle.flip_patch.specs.declared.fault.FlipFault.{FlipFault}
use Rattle.flip_patch.specs.declared.fault.FlipFault.TheVariants as flip
use Rattle.patch_set.specs.declared.fault.SetFault.TheVariants as set
use Rattle.filter_whole_text.specs.declared.fault.FilterFault.{FilterFault}
use Rattle.filter_whole_text.specs.declared.fault.FilterFault.TheVariants.{Set, Unfit, Write}

abbrev pub of_flip : FlipFault → FilterFault
of_flip (flip.EdReverse line) = Set (set.EdReverse line)
of_flip (flip.Unfit line) = Unfit line
of_flip flip.Write = Write
