-- The line of an answer on standard error.
use Rattle.std.specs.Prelude.{ℕ, List, [], ◌∷◌, ◌++◌, codes, Bool, true, if◌then◌else◌, bytes_eq, Option, None, Some, is_some}
use Rattle.num_text.specs.Numbers.{decimal}
use Rattle.hunk_core.specs.declared.BadKind.{BadKind}
use Rattle.hunk_core.specs.declared.BadKind.TheVariants.{Range, Mark, Count, ShortEnd, NumberTooLarge, SidesDiffer, MisplacedBackslash, EdCommand, EdOrder, EdNoDot, Binary, HunkOrder}
use Rattle.cli_tool_words.specs.Tools.{tool_named}
use Rattle.cli_run_answers.specs.declared.reporting.Reason.{Reason}
use Rattle.cli_run_answers.specs.Answers.{is_ended}
use Rattle.cli_run_answers.specs.declared.why.Why.{Why}
use Rattle.cli_run_answers.specs.declared.why.Why.TheVariants.{Done, Rejected, Usage, Malformed, Garbage, EdReverse, OutMany, Reserved, NoPatchFile, TooLong, LongLine, FileTooLong, BadPattern, NoContext, Unfit, BadState, StackEnd, StackName, ReadFault, WriteFault, TreeFault, ScratchFault, Disagree, Memory}

abbrev pub kind_text : BadKind → List ℕ
kind_text Range = codes "a bad range"
kind_text Mark = codes "a line without a mark"
kind_text Count = codes "counts and lines differ"
kind_text ShortEnd = codes "the text ends inside a hunk"
kind_text NumberTooLarge = codes "a number too large"
kind_text SidesDiffer = codes "the two parts differ"
kind_text MisplacedBackslash = codes "a misplaced backslash line"
kind_text EdCommand = codes "an ed command out of scope"
kind_text EdOrder = codes "ed commands out of order"
kind_text EdNoDot = codes "an ed text without its end"
kind_text Binary = codes "a binary change"
kind_text HunkOrder = codes "hunks out of order"

-- why, in the words of a message
abbrev pub reason_of : Why → List ℕ
reason_of Done = []
reason_of Rejected = []
reason_of Usage = codes "the words are not a command"
reason_of (Malformed line kind) = codes "malformed patch at line " ++ (decimal line ++ (codes ": " ++ kind_text kind))
reason_of Garbage = codes "Only garbage was found in the patch input."
reason_of (EdReverse line) = codes "the ed script at line " ++ (decimal line ++ codes " can't be reversed")
reason_of (OutMany count) = codes "-o takes one file patch, here are " ++ decimal count
reason_of (Reserved line) = codes "a reserved name at line " ++ decimal line
reason_of NoPatchFile = codes "Can't find the patch file"
reason_of TooLong = codes "the patch is too long"
reason_of (LongLine line length) = codes "line " ++ (decimal line ++ (codes " has " ++ (decimal length ++ codes " bytes, more than the buffer holds")))
reason_of (FileTooLong length) = codes "a file of " ++ (decimal length ++ codes " bytes is too long")
reason_of BadPattern = codes "the pattern can't be read"
reason_of (NoContext line) = codes "the patch at line " ++ (decimal line ++ codes " lacks what the form shows")
reason_of (Unfit line) = codes "the patch at line " ++ (decimal line ++ codes " doesn't fit the form")
reason_of (BadState file) = codes "the stack's state can't be read"
reason_of (StackEnd applied) = decimal applied ++ codes " patches are applied, nothing to do"
reason_of (StackName line) = codes "a name of the stack at line " ++ decimal line
reason_of ReadFault = codes "read fault"
reason_of WriteFault = codes "write fault"
reason_of TreeFault = codes "tree fault"
reason_of ScratchFault = codes "scratch fault"
reason_of (Disagree want got) = decimal want ++ (codes " expected, " ++ (decimal got ++ codes " found"))
reason_of Memory = codes "out of memory"

-- a word that is a tool: `patch`, or one of the others
abbrev pub is_tool : List ℕ → Bool
is_tool word = if bytes_eq word (codes "patch") then true else is_some (tool_named word)

-- the tool's name in a message
abbrev pub tool_of : List (List ℕ) → List ℕ
tool_of [] = codes "patchkit"
tool_of (word ∷ words) = if is_tool word then word else codes "patchkit"

-- the line on standard error, if there is one
abbrev pub refusal_line : List (List ℕ) → Why → List ℕ
refusal_line words why = if is_ended why then [] else tool_of words ++ (codes ": **** " ++ (reason_of why ++ 10 ∷ []))

abbrev pub decimal_if : Option ℕ → List ℕ
decimal_if None = []
decimal_if (Some n) = decimal n

-- the words of a reason, from its end
abbrev pub behind_middle : Reason → List ℕ
behind_middle r = decimal_if r.second ++ r.end.now

abbrev pub behind_first : Reason → List ℕ
behind_first r = r.middle.now ++ behind_middle r

abbrev pub behind_front : Reason → List ℕ
behind_front r = decimal_if r.first ++ behind_first r

abbrev pub text_of : Reason → List ℕ
text_of r = r.front.now ++ behind_front r
