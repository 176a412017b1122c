-- Readings of a tree, one after another.
use Rattle.std.proofs.Common.{◌≡◌, ℕ, ◌+◌, ◌-◌, ◌^◌, ◌≤◌, ◌<◌, Bool, true, false, List, ◌++◌, length, get_or, take, drop, Some, sym, ap, ◌∙◌, arith, length-drop}
use Rattle.std.specs.Prelude.{nat_le}
use Rattle.std.proofs.lemmas.Bool.Decides.{nat_tests}
use Rattle.std.proofs.lemmas.List.{length-take-le, take-append-drop, drop-drop, get_or-take}
use Rattle.line_list.specs.Lines.{lines}
use Rattle.line_store.specs.Taking.{refusal, long_line}
use Rattle.std.specs.Option.{option_map}
use Rattle.outside.specs.Files.{bytes_at}
use Rattle.outside.specs.TreeView.{TreeView}
use Rattle.outside.specs.ScratchView.{ScratchView, ScratchPasses}
use Rattle.outside.specs.Calls.{IsUntouched}
use Rattle.outside.proofs.Views.{rises_then}
use Rattle.line_store.specs.declared.fault.OpenFault.{OpenFault}
use Rattle.line_store.specs.declared.fault.OpenFault.TheVariants.{Tree, Scratch, LongLine, FileTooLong, Disagree, Memory}
use Rattle.page_pair.specs.Reading.{told_file, IsReadFault, IsMeasureFault, IsPart, HasNoFeed, IsOpen, IsTakeFault}

-- what is told of a file is told on
pub told-later : {t u : TreeView} (name text : List ℕ) → IsUntouched t u → told_file t name ≡ Some text → told_file u name ≡ Some text
told-later name text un told = ap (option_map (λ f. bytes_at f name)) un.told ∙ told

-- a file that was not read was not measured
pub measure-read : (e : OpenFault) (size : ℕ) (t u : TreeView) (name : List ℕ) → IsReadFault e t u → IsMeasureFault e size t u name
measure-read Tree size t u name h = h
measure-read Scratch size t u name h = absurd h
measure-read (LongLine line length) size t u name h = absurd h
measure-read (FileTooLong length) size t u name h = absurd h
measure-read (Disagree want got) size t u name h = h
measure-read Memory size t u name h = absurd h

-- a fault of a later call has its cause since the first
pub read-later : (e : OpenFault) (t u v : TreeView) → IsUntouched t u → IsReadFault e u v → IsReadFault e t v
read-later Tree t u v un h = rises_then t u v un.passes h
read-later Scratch t u v un h = h
read-later (LongLine line length) t u v un h = h
read-later (FileTooLong length) t u v un h = h
read-later (Disagree want got) t u v un h = (h.0, sym un.told ∙ h.1)
read-later Memory t u v un h = h

pub measure-later : (e : OpenFault) (size : ℕ) (t u v : TreeView) (name : List ℕ) → IsUntouched t u → IsMeasureFault e size u v name → IsMeasureFault e size t v name
measure-later Tree size t u v name un h = rises_then t u v un.passes h
measure-later Scratch size t u v name un h = h
measure-later (LongLine line length) size t u v name un h = (h.0, λ text told. h.1 text (told-later name text un told))
measure-later (FileTooLong length) size t u v name un h = h
measure-later (Disagree want got) size t u v name un h = (h.0, sym un.told ∙ h.1)
measure-later Memory size t u v name un h = h

pub told-sooner : {t u : TreeView} (name text : List ℕ) → IsUntouched t u → told_file u name ≡ Some text → told_file t name ≡ Some text
told-sooner name text un told = ap (option_map (λ f. bytes_at f name)) (sym un.told) ∙ told

-- a text that isn't too long is refused for a line
pub refusal-long : (size : ℕ) (text : List ℕ) (e : OpenFault) → length text < 2 ^ 40 → long_line size (lines text) ≡ Some e → refusal size text ≡ Some e
refusal-long size text e lt is = let t : nat_le (2 ^ 40) (length text) ≡ false = grind (arith, nat_tests) in rw t is

-- a piece that was read
pub part-made : (text page : List ℕ) (at n : ℕ) (last : Bool) → take n page ≡ take n (drop at text) → at + n ≤ length text → (last ≡ true → at + n ≡ length text) → IsPart text (take n page) at last
part-made text page at n last e le end =
    let left : length (drop at text) ≡ length text - at = length-drop at text in
    let len : length (take n page) ≡ n = ap length e ∙ length-take-le n (drop at text) (omega arith) in
    record {
      is = sym (take-append-drop n (drop at text)) ∙ ap (λ l. l ++ drop n (drop at text)) (sym e) ∙ ap (λ l. take n page ++ l) (drop-drop n at text ∙ ap (λ k. drop (at + k) text) (sym len));
      within = omega arith;
      last = λ is. ap (λ k. at + k) len ∙ end is;
    }

-- a piece without a line feed
pub open-made : (text page : List ℕ) (at n : ℕ) → take n page ≡ take n (drop at text) → at + n ≤ length text → HasNoFeed (take n page) → IsOpen text at (at + n)
open-made text page at n e le none =
    let left : length (drop at text) ≡ length text - at = length-drop at text in
    let len : length (take n page) ≡ n = ap length e ∙ length-take-le n (drop at text) (omega arith) in
    record { each = λ i lt is. none.each i (omega arith) (ap (λ l. get_or l i 0) e ∙ get_or-take n (drop at text) i 0 (omega arith) ∙ is) }

pub told-same : {t u : TreeView} (name : List ℕ) → IsUntouched t u → told_file u name ≡ told_file t name
told-same name un = ap (option_map (λ f. bytes_at f name)) un.told

pub take-later : (e : OpenFault) (u v w : ScratchView) (s t x : TreeView) → ScratchPasses u v → IsUntouched s t → IsTakeFault e v w t x → IsTakeFault e u w s x
take-later Tree u v w s t x p un h = rises_then s t x un.passes h
take-later Scratch u v w s t x p un h = λ small. omega (arith, h small, p.counts)
take-later (LongLine line length) u v w s t x p un h = h
take-later (FileTooLong length) u v w s t x p un h = h
take-later (Disagree want got) u v w s t x p un h = (h.0, sym un.told ∙ h.1)
take-later Memory u v w s t x p un h = h
