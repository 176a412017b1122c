-- A set that was read can be carried out.
use Rattle.std.proofs.Common.{◌≡◌, inl, inr, ℕ, suc, ◌+◌, ◌<◌, ◌^◌, true, false, cond, List, [], ◌∷◌, ◌++◌, length, map, All, Option, None, Some, refl, sym, ap, subst, arith, length-append}
use Rattle.std.proofs.lemmas.List.{get_or_at}
use Rattle.std.proofs.lemmas.List.Elements.{All-nil, All-cons, All-head, All-tail}
use Rattle.std.proofs.lemmas.List.Sums.{sum_by-cons}
use Rattle.std.proofs.lemmas.Option.{none-some, same_Some}
use Rattle.std.specs.Option.{ForSome, option_map}
use Rattle.outside.specs.Names.{is_absolute}
use Rattle.hunk_core.specs.declared.Verdict.{Verdict}
use Rattle.read_file_patch.specs.declared.FilePatch.{FilePatch}
use Rattle.read_file_patch.specs.PlainPatch.{header_of, row_count}
use Rattle.read_file_patch.specs.Absent.{IsLawfulPatch}
use Rattle.patch_options.specs.PlainJob.{PlainOptions, IsLawful}
use Rattle.read_file_patch.specs.declared.derived.Target.{Target}
use Rattle.read_file_patch.specs.Targets.{below, shown_from, reject_name}
use Rattle.patch_set.specs.Named.{known_names, names_of, target_in, targets_of}
use Rattle.patch_set.specs.SetView.{SetView, IsWhole, IsRead, hunks_in, plain_patches, with_verdicts, without_marks}
use Rattle.patch_set.specs.SetView as of_set
use Rattle.patch_set.specs.Spans.{ArePlaced}
use Rattle.patch_run.specs.Doing.{StaysSet}
use Rattle.apply_task.specs.Named.{BeginsComponent, IsNamed}
use Rattle.apply_outcome.specs.Ready.{IsFit, IsReady, AreNumbered}
use Rattle.patch_run.specs.Finishes.{HasNames}

begins : (dir : Option (List ℕ)) (name : List ℕ) → BeginsComponent (below dir name) (shown_from dir name)
begins None name = inl refl
begins (Some directory) name = elim (is_absolute name) as (λ b. BeginsComponent (cond b name (directory ++ 47 ∷ name)) (cond b 0 (suc (length directory)))) [
  | true ↦ inl refl
  | false ↦ inr (length directory, refl, omega (arith, length-append directory (47 ∷ name)), get_or_at directory 47 name 0 (length directory) refl)
]

named : (o : PlainOptions) (known : List (List ℕ)) (name : List ℕ) → of_set.IsFit (target_in o known name) → IsNamed (target_in o known name)
named o known name fit = record {
  temps = fit.temps;
  lasting = fit.lasting;
  temp = refl;
  backup_temp = refl;
  reject_temp = refl;
  shown = begins o.dir name;
  shown_reject = begins o.dir (reject_name o name);
}

all-named : (o : PlainOptions) (known names : List (List ℕ)) → All of_set.IsFit (map (target_in o known) names) → All IsNamed (map (target_in o known) names)
all-named o known [] fit = All-nil IsNamed
all-named o known (name ∷ names) fit =
    let t = target_in o known in
    All-cons IsNamed (t name) (map t names) (named o known name (All-head of_set.IsFit (t name) (map t names) fit)) (all-named o known names (All-tail of_set.IsFit (t name) (map t names) fit))

output-named : (o : PlainOptions) (known : List (List ℕ)) (output : Option (List ℕ)) → ForSome (option_map (target_in o known) output) of_set.IsFit → ForSome (option_map (target_in o known) output) IsNamed
output-named o known None fit = λ t is. absurd (none-some t is)
output-named o known (Some name) fit = λ t is. subst (λ (x : Target). IsNamed x) (same_Some (target_in o known name) t is) (named o known name (fit (target_in o known name) refl))

abbrev Few : FilePatch → Type 0
Few p = length p.targets.items < 2 ^ 32

abbrev AreFit : FilePatch → Type 0
AreFit p = All of_set.IsFit p.targets.items

abbrev Named : FilePatch → Type 0
Named p = All IsNamed p.targets.items

-- targets that were read have names
each-named : (o : PlainOptions) (known : List (List ℕ)) (text : List ℕ) (ps : List FilePatch) → map (λ p. p.targets.items) ps ≡ map (λ p. targets_of o known (header_of text p.header)) ps → All AreFit ps → All Named ps
each-named o known text [] same fit = All-nil Named
each-named o known text (p ∷ ps) same fit =
    let targets : p.targets.items ≡ targets_of o known (header_of text p.header) = cc in
    let rest : map (λ (q : FilePatch). q.targets.items) ps ≡ map (λ (q : FilePatch). targets_of o known (header_of text q.header)) ps = cc in
    let named = all-named o known (names_of o (header_of text p.header)) (subst (λ (l : List Target). All of_set.IsFit l) targets (All-head AreFit p ps fit)) in
    All-cons Named p ps (subst (λ (l : List Target). All IsNamed l) (sym targets) named) (each-named o known text ps rest (All-tail AreFit p ps fit))

pub read_names : (o : PlainOptions) (given : List ℕ) (v : SetView) → IsRead o given v → HasNames v
read_names o given v read =
    let known = known_names o (plain_patches v) in
    record {
      few = read.names.few;
      targets = each-named o known v.text v.patches read.names.targets read.names.fit;
      output = λ some. subst (λ (x : Option Target). ForSome x IsNamed) (sym read.names.output)
          (output-named o known o.output (subst (λ (x : Option Target). ForSome x of_set.IsFit) read.names.output (read.names.output_fit some)));
    }

all-fit : (text : List ℕ) (ps : List FilePatch) → All (IsLawfulPatch text) ps → All Few ps → All Named ps → hunks_in ps < 2 ^ 32 → All (IsFit text) ps
all-fit text [] lawful few named hunks = All-nil (IsFit text)
all-fit text (p ∷ ps) lawful few named hunks =
    let sum : hunks_in (p ∷ ps) ≡ row_count p.change + hunks_in ps = sum_by-cons (λ (x : FilePatch). row_count x.change) p ps in
    All-cons (IsFit text) p ps
    (record {
      lawful = All-head (IsLawfulPatch text) p ps lawful;
      few = All-head Few p ps few;
      named = All-head Named p ps named;
      hunks = omega (arith, sum, hunks);
    })
    (all-fit text ps (All-tail (IsLawfulPatch text) p ps lawful) (All-tail Few p ps few) (All-tail Named p ps named) (omega (arith, sum, hunks)))

pub ready : (o : PlainOptions) (v : SetView) → IsLawful o → HasNames v → IsWhole v → 0 < length v.patches → IsReady o v
ready o v lawful names whole some = record {
  patches = all-fit v.text v.patches whole.lawful names.few names.targets whole.hunks;
  output = names.output some;
  reject_form = lawful.reject_form;
  define = lawful.define;
  rows = whole.rows;
  count = whole.count;
}

pub numbered : (text : List ℕ) (start before : ℕ) (ps : List FilePatch) → ArePlaced text start before ps → AreNumbered before ps
numbered text start before [] placed = tt
numbered text start before (p ∷ ps) placed = (placed.0.first, numbered text p.span.end (before + row_count p.change) ps placed.1)

-- so can it once rows were noted
pub ready_still : (o : PlainOptions) (old new : SetView) → StaysSet old new → length new.rows ≡ length new.patches → IsReady o old → IsReady o new
ready_still o old new stays rows was = record {
  patches =
      subst (λ (l : List FilePatch). All (IsFit new.text) l) (sym stays.patches)
      (subst (λ (text : List ℕ). All (IsFit text) old.patches) (sym stays.text) was.patches);
  output = subst (λ (x : Option Target). ForSome x IsNamed) (sym stays.output) was.output;
  reject_form = was.reject_form;
  define = was.define;
  rows = rows;
  count = omega (arith, was.count, ap (λ (l : List FilePatch). length l) stays.patches);
}

-- a set has its names whatever its verdicts are
pub names_still : (v : SetView) (vs : List Verdict) → HasNames v → HasNames (without_marks (with_verdicts v vs))
names_still v vs names = record { few = names.few; targets = names.targets; output = names.output }
