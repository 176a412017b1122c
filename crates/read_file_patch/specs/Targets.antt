-- The names that are formed from a name: below the directory, of backups, of rejects, and of temporaries (GNU patch manual, "Backups", "Reject Names").
use Rattle.std.specs.Prelude.{◌≡◌, ℕ, suc, List, [], ◌++◌, ◌-◌, codes, length, take, Bool, true, false, is_some, is_none, ◌||◌, if◌then◌else◌, Option, None, Some, unwrap_or}
use Rattle.outside.specs.Files.{is_temp, temp_of}
use Rattle.outside.specs.Names.{is_absolute, given_form, placed, broken_given, last_component}
use Rattle.patch_options.specs.PlainJob.{PlainOptions}
use Rattle.read_file_patch.specs.declared.derived.Target.{Target}

-- the name below the directory, where there is one and the name isn't absolute
abbrev pub below : Option (List ℕ) → List ℕ → List ℕ
below None name = name
below (Some directory) name = placed directory name

-- the name with the prefix of backups before it, in normal form
abbrev pub fronted : Option (List ℕ) → List ℕ → List ℕ
fronted None name = name
fronted (Some prefix) name = given_form (prefix ++ name)

-- how many bytes of a name stand before its last component
abbrev pub base_start : List ℕ → ℕ
base_start name = length name - length (last_component name)

-- the name with a front before its last component
abbrev pub with_base : List ℕ → List ℕ → List ℕ
with_base front name = take (base_start name) name ++ front ++ last_component name

-- in the form that an operator gives, where an operator may give it
abbrev pub lawful_or : List ℕ → List ℕ → List ℕ
lawful_or text name = if is_none (broken_given text) then given_form text else name

-- the name with the prefix of a backup's last component before it
abbrev pub based : Option (List ℕ) → List ℕ → List ℕ
based None name = name
based (Some front) name = lawful_or (with_base front name) name

-- what stands behind the name of a backup: by default `.orig`, and nothing where only what stands before it is given
abbrev pub backup_end : Bool → Option (List ℕ) → List ℕ
backup_end fronted (Some suffix) = suffix
backup_end fronted None = if fronted then [] else codes ".orig"

abbrev pub is_fronted : PlainOptions → Bool
is_fronted o = is_some o.prefix || is_some o.base_prefix

-- the name with both prefixes
abbrev pub backup_front : PlainOptions → List ℕ → List ℕ
backup_front o name = fronted o.prefix (based o.base_prefix name)

abbrev pub backup_name : PlainOptions → List ℕ → List ℕ
backup_name o name = backup_front o name ++ backup_end (is_fronted o) o.suffix

-- the reject file of the options, or the name followed by `.rej`
abbrev pub reject_name : PlainOptions → List ℕ → List ℕ
reject_name o name = unwrap_or o.reject (name ++ codes ".rej")

-- how many bytes of a name below the directory messages leave off: the directory and the slash behind it
abbrev pub shown_from : Option (List ℕ) → List ℕ → ℕ
shown_from None name = 0
shown_from (Some directory) name = if is_absolute name then 0 else suc (length directory)

-- each name is formed without the directory, and then put below it. Messages show an absolute name whole, so those of a
-- target and its reject file may be cut at different places. Before an absolute name `-B .pc/x/` gives `.pc/x/usr/f`
abbrev pub target_of : PlainOptions → List ℕ → ℕ → Target
target_of o name number = record {
  number = number;
  shown_from = shown_from o.dir name;
  reject_shown_from = shown_from o.dir (reject_name o name);
  name = below o.dir name;
  temp = temp_of (below o.dir name);
  backup = below o.dir (backup_name o name);
  backup_temp = temp_of (below o.dir (backup_name o name));
  reject = below o.dir (reject_name o name);
  reject_temp = temp_of (below o.dir (reject_name o name));
}

-- temporaries have names of temporaries
pub record HasTemps (t : Target) : Type 0 where
  pub own : is_temp t.temp ≡ true
  pub backup : is_temp t.backup_temp ≡ true
  pub reject : is_temp t.reject_temp ≡ true

-- a name that a run would write is that of a temporary
abbrev pub is_reserved : Target → Bool
is_reserved t = is_temp t.name || (is_temp t.backup || is_temp t.reject)

-- none is
pub record IsLasting (t : Target) : Type 0 where
  pub own : is_temp t.name ≡ false
  pub backup : is_temp t.backup ≡ false
  pub reject : is_temp t.reject ≡ false
