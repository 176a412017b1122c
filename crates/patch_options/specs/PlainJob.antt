-- What a command asks for, with texts as lists, and which options are lawful.
use Rattle.std.specs.Prelude.{◌≡◌, ◌≢◌, ℕ, ◌<◌, ◌≤◌, List, length, Bool, true, false, string_bytes, Option, option_map}
use Rattle.std.specs.Option.{ForSome}
use Rattle.outside.specs.Files.{is_temp}
use Rattle.outside.specs.Names.{IsEnding, IsFront}
use Rattle.hunk_core.specs.declared.Form.{Form}
use Rattle.hunk_core.specs.declared.Form.TheVariants.{Normal, Ed}
use Rattle.patch_options.specs.Forms.{is_macro_name, largest_buffer}
use Rattle.patch_options.specs.declared.options.PlanKind.{PlanKind}
use Rattle.patch_options.specs.declared.options.SyncKind.{SyncKind}
use Rattle.patch_options.specs.declared.options.BackupNumbers.{BackupNumbers}
use Rattle.patch_options.specs.declared.options.FileTimes.{FileTimes}
use Rattle.patch_options.specs.declared.options.ReadOnlyFiles.{ReadOnlyFiles}
use Rattle.patch_options.specs.declared.options.Input.{Input}
use Rattle.patch_options.specs.declared.options.Options.{Options}
use Rattle.patch_options.specs.declared.options.Job.{Job}
use Rattle.patch_options.specs.declared.options.Job.TheVariants.{Patch}

-- a command of `patch`; each field is that of `Options`
pub record PlainOptions : Type 0 where
  pub only : Option Form
  pub strip : Option ℕ
  pub fuzz : ℕ
  pub reverse : Bool
  pub force : Bool
  pub batch : Bool
  pub forward : Bool
  pub loose : Bool
  pub remove_empty : Bool
  pub backup : Bool
  pub mismatch_backup : Bool
  pub suffix : Option (List ℕ)
  pub prefix : Option (List ℕ)
  pub base_prefix : Option (List ℕ)
  pub numbers : BackupNumbers
  pub dir : Option (List ℕ)
  pub file : Option (List ℕ)
  pub input : Input
  pub output : Option (List ℕ)
  pub reject : Option (List ℕ)
  pub no_rejects : Bool
  pub reject_form : Option Form
  pub define : Option (List ℕ)
  pub posix : Bool
  pub keep_returns : Bool
  pub skip_binary : Bool
  pub dry_run : Bool
  pub read_only : ReadOnlyFiles
  pub times : FileTimes
  pub follow_links : Bool
  pub silent : Bool
  pub verbose : Bool
  pub plan : PlanKind
  pub buffer : ℕ
  pub sync : SyncKind

abbrev pub plain_options : Options → PlainOptions
plain_options o = record {
  only = o.only;
  strip = o.strip;
  fuzz = o.fuzz;
  reverse = o.reverse;
  force = o.force;
  batch = o.batch;
  forward = o.forward;
  loose = o.loose;
  remove_empty = o.remove_empty;
  backup = o.backup;
  mismatch_backup = o.mismatch_backup;
  suffix = option_map string_bytes o.suffix;
  prefix = option_map string_bytes o.prefix;
  base_prefix = option_map string_bytes o.base_prefix;
  numbers = o.numbers;
  dir = o.dir;
  file = o.file;
  input = o.input;
  output = o.output;
  reject = o.reject;
  no_rejects = o.no_rejects;
  reject_form = o.reject_form;
  define = option_map string_bytes o.define;
  posix = o.posix;
  keep_returns = o.keep_returns;
  skip_binary = o.skip_binary;
  dry_run = o.dry_run;
  read_only = o.read_only;
  times = o.times;
  follow_links = o.follow_links;
  silent = o.silent;
  verbose = o.verbose;
  plan = o.plan;
  buffer = o.buffer;
  sync = o.sync;
}

pub data PlainJob : Type 0 where
  patch : PlainOptions → PlainJob

abbrev pub plain_job : Job → PlainJob
plain_job (Patch o) = patch (plain_options o)

-- the suffix of a backup: it may stand behind a name, and with it no name is that of a temporary
pub record IsSuffix (text : List ℕ) : Type 0 where
  pub some : 0 < length text
  pub ending : IsEnding text
  pub lasting : is_temp text ≡ false

-- rejects have lines of context
pub record HasContext (form : Form) : Type 0 where
  pub not_normal : form ≢ Normal
  pub not_ed : form ≢ Ed

-- the name that conditions test
abbrev pub IsMacroName : List ℕ → Type 0
IsMacroName text = is_macro_name text ≡ true

-- the options that a command may have
pub record IsLawful (o : PlainOptions) : Type 0 where
  pub suffix : ForSome o.suffix IsSuffix
  pub prefix : ForSome o.prefix IsFront
  pub base_prefix : ForSome o.base_prefix IsFront
  pub reject_form : ForSome o.reject_form HasContext
  pub define : ForSome o.define IsMacroName
  pub least : 512 ≤ o.buffer
  pub most : o.buffer ≤ largest_buffer o.plan

abbrev pub IsLawfulJob : PlainJob → Type 0
IsLawfulJob (patch o) = IsLawful o
