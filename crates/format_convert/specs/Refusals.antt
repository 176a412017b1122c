-- Why a set isn't written in another form.
use Rattle.std.specs.Prelude.{ℕ, Bool, true, false, not, ◌&&◌, List, Option, option_map}
use Rattle.std.specs.Option.{option_or}
use Rattle.hunk_core.specs.declared.Form.{Form}
use Rattle.hunk_core.specs.declared.Form.TheVariants.{Unified, Context, Normal, Ed}
use Rattle.read_file_patch.specs.PlainPatch.{PlainChange, PlainPatch, hunks, script, first_opening}
use Rattle.format_convert.specs.Fitting.{is_ed, is_unfit as change_unfit}
use Rattle.format_convert.specs.declared.fault.ConvertFault.{ConvertFault}
use Rattle.format_convert.specs.declared.fault.ConvertFault.TheVariants.{NoContext, Unfit}

-- a form shows lines that aren't changed
abbrev pub shows_context : Form → Bool
shows_context Unified = true
shows_context Context = true
shows_context Normal = false
shows_context Ed = false

abbrev pub is_normal : Form → Bool
is_normal Unified = false
is_normal Context = false
is_normal Normal = true
is_normal Ed = false

-- a normal patch has no context, and an ed script doesn't say which lines it drops
abbrev pub change_lacks : Form → Form → PlainChange → Bool
change_lacks wanted form (hunks hs) = is_normal form && shows_context wanted
change_lacks wanted form (script es) = not (is_ed wanted)

-- a file patch lacks what the wanted form shows
abbrev pub lacks_context : Form → PlainPatch → Bool
lacks_context wanted p = change_lacks wanted p.header.form p.change

-- a file patch doesn't fit the wanted form, which is that of commands
abbrev pub is_unfit : Form → PlainPatch → Bool
is_unfit wanted p = not (shows_context wanted) && change_unfit wanted p.change

-- ---- both refusals

abbrev pub no_context : ℕ → ConvertFault
no_context line = NoContext line

abbrev pub unfit : ℕ → ConvertFault
unfit line = Unfit line

-- the refusal: want of context anywhere comes first
unfoldable pub refusal : Form → List PlainPatch → Option ConvertFault
refusal wanted ps = option_or (option_map no_context (first_opening (lacks_context wanted) ps)) (option_map unfit (first_opening (is_unfit wanted) ps))
