-- The time that a written file gets (GNU patch manual, "Setting the Times").
use Rattle.std.specs.Prelude.{Bool, false, ◌||◌, if◌then◌else◌, Option, None, Some, option_map}
use Rattle.hunk_core.specs.declared.Side.{Side}
use Rattle.hunk_core.specs.Turned.{other_side}
use Rattle.outside.specs.declared.time.Time.{Time}
use Rattle.outside.specs.declared.time.TimeChange.{TimeChange}
use Rattle.stamp.specs.declared.Stamp.{Stamp}
use Rattle.stamp.specs.declared.Stamp.TheVariants.{Known, Unknown}
use Rattle.read_file_patch.specs.Absent.{stamp_on, creates}
use Rattle.read_file_patch.specs.PlainPatch.{PlainPatch}
use Rattle.patch_options.specs.PlainJob.{PlainOptions}
use Rattle.patch_options.specs.declared.options.FileTimes.{FileTimes}
use Rattle.patch_options.specs.declared.options.FileTimes.TheVariants.{Written, Local, Utc}

-- a time by the clock that the options name, none where they ask for none
abbrev pub by_clock : FileTimes → Time → Option Time
by_clock Written time = None
by_clock Local time = Some time
by_clock Utc time = Some (record { seconds = time.seconds; nanoseconds = time.nanoseconds; is_local = false })

-- the time that a stamp says
abbrev pub known_time : FileTimes → Stamp → Option Time
known_time times (Known time) = by_clock times time
known_time times Unknown = None

-- the time that the file must have had: that of its stamp, where there was a file and the options don't force
abbrev pub time_before : PlainOptions → Side → PlainPatch → Option Time
time_before o side p = if o.force || creates side p then None else known_time o.times (stamp_on side p.header)

-- the time that the file gets that a file patch writes, taken from this side: that of its new side's stamp, if it has one
abbrev pub time_asked : PlainOptions → Side → PlainPatch → Bool → Option TimeChange
time_asked o side p is_exact = option_map (λ time. record { time = time; was = time_before o side p; is_exact = o.force || is_exact }) (known_time o.times (stamp_on (other_side side) p.header))
