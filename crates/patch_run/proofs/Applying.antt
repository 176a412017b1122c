-- Hunks that were tried, and then told of with their effects.
use Rattle.std.proofs.Common.{◌≡◌, ◌≢◌, inl, inr, ⊎_elim, ℕ, List, [], ◌++◌, length, Bool, true, false, ◌||◌, if◌then◌else◌, Option, None, Some, Result, Ok, Err, OnOk, OnErr, IfOk, IfErr, refl, sym, ◌∙◌, ap, subst}
use Rattle.std.proofs.lemmas.Bool.{false≢true}
use Rattle.std.proofs.lemmas.Option.{same_Some}
use Rattle.std.specs.FinMap.{get, remove}
use Rattle.std.specs.Result.{IsErrAnd}
use Rattle.outside.specs.Files.{Files, is_temp}
use Rattle.outside.specs.TreeView.{TreeView, Passes, Rises, told_on}
use Rattle.outside.specs.SinkView.{SinkView, Receives, ReceivesPart}
use Rattle.outside.specs.Quiet.{IsQuiet, Effect, HasMade, WorksOn, Holds, after_all}
use Rattle.outside.proofs.Names.{equal_or_not, get-gone, get-gone_other, apart, same_files}
use Rattle.outside.proofs.Effects.{made_none, made_tells_all, since_longer, tells_longer}
use Rattle.outside.proofs.Writing.{received_none, received_part, received_both, part_longer}
use Rattle.hunk_core.specs.declared.Side.{Side}
use Rattle.hunk_core.specs.declared.Verdict.{Verdict}
use Rattle.hunk_apply.specs.declared.Session.{Session}
use Rattle.replace_file.specs.declared.temp.Temp.{Temp}
use Rattle.apply_task.specs.declared.fault.RunFault.{RunFault}
use Rattle.apply_task.specs.declared.fault.RunFault.TheVariants.{Tree}
use Rattle.apply_task.specs.LineEnds.{first_end}
use Rattle.apply_task.specs.Outputs.{IsSession}
use Rattle.apply_start.specs.Trying.{IsBegun}
use Rattle.read_file_patch.specs.declared.derived.Target.{Target}
use Rattle.patch_set.specs.declared.set.Row.{Row}
use Rattle.patch_run.specs.declared.one_patch.Done.{Done}
use Rattle.apply_task.specs.declared.placed.Made.{Made}
use Rattle.apply_task.specs.TaskView.{with_past}
use Rattle.patch_run.specs.OnePatch.{PastFilePatch, PlainContext, Tried, bytes_of, output_on, tried, some_failed, is_kept, fails_first, finished, effects_of, tried_said, wrote}
use Rattle.patch_run.specs.Run.{cleared}
use Rattle.apply_task.specs.Making.{IsGone, IsPart, Makes}
use Rattle.apply_task.specs.Named.{IsNamed}
use Rattle.patch_run.specs.Doing.{IsPartOf, IsWholeOf, IsDone, IsOutcome, IsMadeWhole, IsOrdered}
use Rattle.apply_outcome.proofs.Moving.{works_made}
use Rattle.apply_task.proofs.EffectLists.{after_all-at, made_both, leaves_after, tells_after}

-- the marks of those before it don't change what is written of the hunks
output_behind : (o : Option (List ℕ)) (past : List PastFilePatch) (t : PlainContext) (side : Side) (ls : List (List ℕ)) → output_on o t side ls ≡ output_on o (with_past past t) side ls
output_behind None past t side ls = refl
output_behind (Some define) past t side ls = refl

pub held_behind : (past : List PastFilePatch) (t : PlainContext) (side : Side) (ls : List (List ℕ)) (u : TreeView) (temp : List ℕ) → Holds u temp (tried t side ls).output → Holds u temp (tried (with_past past t) side ls).output
held_behind past t side ls u temp = subst (λ (b : List ℕ). Holds u temp b) (output_behind t.options.define past t side ls)

effects-same : (t : PlainContext) (f g : Files) (s w : Target) (x : Tried) → get g s.name ≡ get f s.name → get g w.name ≡ get f w.name → effects_of t g s w x ≡ effects_of t f s w x
unfolding effects_of
effects-same t f g s w x source same = rw (source, same) refl

wrote-same : (t : PlainContext) (f g : Files) (w : Target) (x : Tried) → get g w.name ≡ get f w.name → wrote t g w x ≡ wrote t f w x
unfolding wrote
wrote-same t f g w x same = rw same

pub effects-dry : (t : PlainContext) (f : Files) (s w : Target) (x : Tried) → t.options.dry_run ≡ true → effects_of t f s w x ≡ []
unfolding effects_of
effects-dry t f s w x dry = rw dry

abbrev cleared_in : Bool → Target → Option (List ℕ)
cleared_in dry w = if dry then None else Some w.name

module _ (t : PlainContext) (f g : Files) (s w : Target) (x : Tried) (source : IsNamed s) (named : IsNamed w) {u v : TreeView} (works : WorksOn u v w.temp) (told : u.told ≡ Some f) (now : v.told ≡ Some g) where
  name_same : get g w.name ≡ get f w.name
  name_same = works.others f g told now w.name (apart w.name w.temp named.lasting.own named.temps.own)

  source_same : get g s.name ≡ get f s.name
  source_same = works.others f g told now s.name (apart s.name w.temp source.lasting.own named.temps.own)

  part_tried : {z : TreeView} {c d : SinkView} (text : List ℕ) → Passes v z → IsPartOf v z c d (effects_of t g s w x) text → IsPartOf u z c d (effects_of t f s w x) text
  part_tried {z = z} {c = c} {d = d} text passes part =
      let made = works_made w.temp named.temps.own works in
      subst (λ (l : List Effect). IsPartOf u z c d l text) (effects-same t f g s w x source_same name_same)
      (record {
        tells = tells_after made passes (effects_of t g s w x) part.tells;
        leaves = leaves_after made passes (effects_of t g s w x) part.leaves;
        said = part.said;
      })

  files_dry : (z : TreeView) → t.options.dry_run ≡ true → g ≡ f → z.told ≡ Some g → z.told ≡ Some (cleared (cleared_in t.options.dry_run w) (after_all (effects_of t f s w x) f))
  files_dry z dry same told =
      told
      ∙ ap (λ (h : Files). Some h) same
      ∙ ap (λ (l : List Effect). Some (after_all l f)) (sym (effects-dry t f s w x dry))
      ∙ ap (λ b. Some (cleared (cleared_in b w) (after_all (effects_of t f s w x) f))) (sym dry)

  files_wet : {z : TreeView} {c d : SinkView} (done : Made) → t.options.dry_run ≡ false → IsMadeWhole t g s w x done v z c d → z.told ≡ Some (cleared (cleared_in t.options.dry_run w) (after_all (effects_of t f s w x) f))
  files_wet done wet whole =
      let last = told_on g whole.made.passes now in
      let es = effects_of t f s w x in
      let each : (q : List ℕ) → get last.0 q ≡ get (remove (after_all es f) w.temp) q = λ q.
      ⊎_elim
      (λ (eq : q ≡ w.temp). subst (λ (n : List ℕ). get last.0 n ≡ get (remove (after_all es f) w.temp) n) (sym eq) (whole.gone wet last.0 last.1 ∙ sym (get-gone (after_all es f) w.temp)))
      (λ (ne : q ≢ w.temp).
      whole.exact last.0 last.1 q ne
      ∙ ap (λ (l : List Effect). get (after_all l g) q) (effects-same t f g s w x source_same name_same)
      ∙ after_all-at es g f q (works.others f g told now q ne)
      ∙ sym (get-gone_other (after_all es f) w.temp q ne))
      (equal_or_not q w.temp) in
      last.1
      ∙ ap (λ (h : Files). Some h) (same_files last.0 (remove (after_all es f) w.temp) each)
      ∙ ap (λ (n : List ℕ). Some (remove (after_all es f) n)) named.temp
      ∙ ap (λ b. Some (cleared (cleared_in b w) (after_all es f))) (sym wet)

  files_tried : {z : TreeView} {c d : SinkView} (done : Made) (dry : Bool) → t.options.dry_run ≡ dry → (t.options.dry_run ≡ true → g ≡ f) → IsMadeWhole t g s w x done v z c d → z.told ≡ Some (cleared (cleared_in t.options.dry_run w) (after_all (effects_of t f s w x) f))
  files_tried {z = z} done true is same whole = files_dry z is (same is) (whole.same is)
  files_tried done false is same whole = files_wet done is whole

  whole_tried : {z : TreeView} {c d : SinkView} (done : Made) → (t.options.dry_run ≡ true → g ≡ f) → IsMadeWhole t g s w x done v z c d → IsWholeOf u z c d (effects_of t f s w x) (tried_said t w x) (cleared (cleared_in t.options.dry_run w) (after_all (effects_of t f s w x) f))
  whole_tried {z = z} done same whole = record {
    made = subst (λ (l : List Effect). HasMade u z l) (effects-same t f g s w x source_same name_same) (made_both (works_made w.temp named.temps.own works) whole.made);
    said = whole.said;
    now = files_tried done t.options.dry_run refl same whole;
  }

-- ---- the end of a file patch

pub on_err : {R E P : Type 0} (r : Result R E) → P → OnErr r P
on_err (Ok x) p = tt
on_err (Err e) p = p

pub is_wet : (dry : Bool) (name : List ℕ) (begun : Temp) → IsBegun dry (Some begun) name → dry ≡ false
is_wet true name begun is = absurd is
is_wet false name begun is = refl

pub begun_name : (dry : Bool) (name : List ℕ) (begun : Temp) → IsBegun dry (Some begun) name → begun.name.now ≡ name
begun_name true name begun is = absurd is
begun_name false name begun is = is

-- a fault that is passed on, and any fault
pub if_err : {R E : Type 0} (P : E → Type 0) (e : E) (r : Result R E) → IsErrAnd r (λ y. y ≡ e) → P e → IfErr r P
if_err P e (Ok x) is p = tt
if_err P e (Err y) is p = subst P (sym is) p

pub if_any : {R E : Type 0} (P : E → Type 0) (r : Result R E) → ((e : E) → P e) → IfErr r P
if_any P (Ok x) p = tt
if_any P (Err e) p = p e

pub is_dry : (dry : Bool) (name : List ℕ) → IsBegun dry None name → dry ≡ true
is_dry true name is = refl
is_dry false name is = absurd is

wrote-dry : (t : PlainContext) (f : Files) (w : Target) (x : Tried) → t.options.dry_run ≡ true → wrote t f w x ≡ false
unfolding wrote
wrote-dry t f w x dry = rw dry

-- nothing was made
part_unmade : {u : TreeView} {c d : SinkView} (es : List Effect) (text : List ℕ) → IsQuiet u → ReceivesPart c d text → IsPartOf u u c d es text
part_unmade {u = u} es text quiet said = record {
  tells = tells_longer u u [] es es refl (made_tells_all u u [] (made_none u quiet));
  leaves = since_longer u u [] es es refl (made_none u quiet).since;
  said = said;
}

module _ (t : PlainContext) (s w : Target) (session : Session) (side : Side) (vs : List Verdict) (end : Option Bool) (u z : TreeView) (c d : SinkView) where
  -- what was said of an outcome
  abbrev pub Says : (List ℕ → Type 0) → Type 0
  Says P = (x : Tried) → x.side ≡ side → x.verdicts ≡ vs → IsSession session x.verdicts x.text → x.end ≡ end → P (tried_said t w x)

  pub tell_fails : (f : Files) (x : Tried) → IsQuiet u → Says (λ text. ReceivesPart c d text) → IsOutcome t.options.dry_run u session w.temp side vs end x → IsPartOf u u c d (effects_of t f s w x) (tried_said t w x)
  tell_fails f x quiet says is = part_unmade (effects_of t f s w x) (tried_said t w x) quiet (says x is.side is.verdicts is.counts is.end)

  pub tell_dry : (f : Files) (x : Tried) → IsBegun t.options.dry_run None w.temp → IsQuiet u → u.told ≡ Some f → Says (λ text. Receives c d text) → IsOutcome t.options.dry_run u session w.temp side vs end x → IsMadeWhole t f s w x (record { wrote = false; effects = 0 }) u u c d
  tell_dry f x begun quiet told says is =
      let dry = is_dry t.options.dry_run w.temp begun in
      let none = effects-dry t f s w x dry in
      record {
        made = subst (λ (l : List Effect). HasMade u u l) (sym none) (made_none u quiet);
        said = says x is.side is.verdicts is.counts is.end;
        exact = λ g now q ne. ap (λ (h : Files). get h q) (same_Some _ _ (sym now ∙ told)) ∙ ap (λ (l : List Effect). get (after_all l f) q) (sym none);
        gone = λ wet. absurd (false≢true (sym wet ∙ dry));
        same = λ yes. told;
        wrote = sym (wrote-dry t f w x dry);
        effects = ap (λ (l : List Effect). length l) (sym none);
      }

  pub tell_ordered : Says (λ text. Receives c d text) → (r : Result Made RunFault) → IfErr r (λ e. (e ≡ Tree) × Rises u z)
      → IfErr r (λ e. (x : Tried) → IsOutcome t.options.dry_run u session w.temp side vs end x → IsOrdered e u z c d (tried_said t w x))
  tell_ordered says (Ok made) cause = tt
  tell_ordered says (Err e) cause = λ x is. inr (cause.0, says x is.side is.verdicts is.counts is.end)

  module _ (temp : Temp) (begun : IsBegun t.options.dry_run (Some temp) w.temp) (says : Says (λ text. Receives c d text)) where
    -- what holds of each outcome that the session tells of
    abbrev pub Of_each : (Tried → Type 0) → Type 0
    Of_each P = (x : Tried) → x.side ≡ side → x.verdicts ≡ vs → IsSession session x.verdicts x.text → P x

    abbrev pub Made_by : Result Made RunFault → Type 0
    Made_by r = Of_each (λ x. Holds u w.temp x.output → Makes u z r w.temp (λ f. effects_of t f s w x))

    pub tell_made : (r : Result Made RunFault) → Made_by r → OnOk r (IsGone z w.temp)
        → IfOk r (λ made. (f : Files) (x : Tried) → u.told ≡ Some f → x.side ≡ side → x.verdicts ≡ vs → IsSession session x.verdicts x.text → made.wrote ≡ wrote t f w x)
        → IfOk r (λ made. (f : Files) (x : Tried) → u.told ≡ Some f → x.side ≡ side → x.verdicts ≡ vs → IsSession session x.verdicts x.text → made.effects ≡ length (effects_of t f s w x))
        → IfOk r (λ made. (f : Files) (x : Tried) → u.told ≡ Some f → IsOutcome t.options.dry_run u session w.temp side vs end x → IsMadeWhole t f s w x made u z c d)
    tell_made (Err e) makes gone wrote count = tt
    tell_made (Ok made) makes gone wrote count = λ f x told is.
        let wet = is_wet t.options.dry_run w.temp temp begun in
        let did = (makes x is.side is.verdicts is.counts (is.holds wet)).ok f told in
        record {
          made = did.made;
          said = says x is.side is.verdicts is.counts is.end;
          exact = λ g now q ne. did.exact f g told now q ne;
          gone = λ yes. gone;
          same = λ dry. absurd (false≢true (sym wet ∙ dry));
          wrote = wrote f x told is.side is.verdicts is.counts;
          effects = count f x told is.side is.verdicts is.counts;
        }

    pub tell_breaks : (r : Result Made RunFault) → Made_by r → OnErr r ((f : Files) (x : Tried) → u.told ≡ Some f → IsOutcome t.options.dry_run u session w.temp side vs end x → IsPartOf u z c d (effects_of t f s w x) (tried_said t w x))
    tell_breaks (Ok made) makes = tt
    tell_breaks (Err e) makes = λ f x told is.
        let wet = is_wet t.options.dry_run w.temp temp begun in
        let part = (makes x is.side is.verdicts is.counts (is.holds wet)).err f told in
        record { tells = part.tells; leaves = part.leaves; said = received_part c d (tried_said t w x) (says x is.side is.verdicts is.counts is.end) }

-- ---- nothing is done before all is said

pub unmade : {u v : TreeView} → HasMade u v [] → IsPart u v []
unmade {u = u} {v = v} made = record { tells = made_tells_all u v [] made; leaves = made.since }

pub ordered_after : {u v z : TreeView} (c d : SinkView) (e : RunFault) (text : List ℕ) → HasMade u v [] → Passes v z → IsOrdered e v z c d text → IsOrdered e u z c d text
ordered_after c d e text made passes order = ⊎_elim (λ part. inl (record { tells = tells_after made passes [] part.tells; leaves = leaves_after made passes [] part.leaves })) (λ all. inr all) order

pub ordered_behind : {u z : TreeView} (b c d : SinkView) (e : RunFault) (p q : List ℕ) → Receives b c p → IsOrdered e u z c d q → IsOrdered e u z b d (p ++ q)
ordered_behind b c d e p q first order = ⊎_elim (λ part. inl part) (λ all. inr (all.0, received_both b c d p q first all.1)) order

-- ---- hunks that were tried, from the files in front of them

-- only the temporary was worked on
pub part_worked : {u v : TreeView} (temp : List ℕ) (c : SinkView) (es : List Effect) (text : List ℕ) → is_temp temp ≡ true → WorksOn u v temp → IsPartOf u v c c es text
part_worked {u = u} {v = v} temp c es text is works =
    let made = works_made temp is works in
    record {
      tells = tells_longer u v [] es es refl (made_tells_all u v [] made);
      leaves = since_longer u v [] es es refl made.since;
      said = part_longer c c [] text (received_part c c [] (received_none c));
    }

module _ (t : PlainContext) (f : Files) (s w : Target) (side : Side) (ls : List (List ℕ)) (session : Session) (vs : List Verdict) (end : Option Bool) (source : IsNamed s) (named : IsNamed w) {u v : TreeView} (works : WorksOn u v w.temp) (told : u.told ≡ Some f)
    (verdicts : vs ≡ (tried t side ls).verdicts) (counts : IsSession session vs (tried t side ls).text) (ends : end ≡ first_end ls) (holds : t.options.dry_run ≡ false → Holds v w.temp (tried t side ls).output) where
  tried_outcome : IsOutcome t.options.dry_run v session w.temp side vs end (tried t side ls)
  tried_outcome = record { side = refl; verdicts = sym verdicts; counts = subst (λ (l : List Verdict). IsSession session l (tried t side ls).text) verdicts counts; end = sym ends; holds = holds }

  pub tried_breaks : {z : TreeView} {c d : SinkView} → Passes v z
      → ((g : Files) (x : Tried) → v.told ≡ Some g → IsOutcome t.options.dry_run v session w.temp side vs end x → IsPartOf v z c d (effects_of t g s w x) (tried_said t w x))
      → IsPartOf u z c d (effects_of t f s w (tried t side ls)) (tried_said t w (tried t side ls))
  tried_breaks passes broken =
      let x = tried t side ls in
      let mid = told_on f works.passes told in
      part_tried t f mid.0 s w x source named works told mid.1 (tried_said t w x) passes (broken mid.0 x mid.1 tried_outcome)

  pub tried_ordered : {z : TreeView} (c d : SinkView) (e : RunFault) → Passes v z
      → ((x : Tried) → IsOutcome t.options.dry_run v session w.temp side vs end x → IsOrdered e v z c d (tried_said t w x))
      → IsOrdered e u z c d (tried_said t w (tried t side ls))
  tried_ordered c d e passes ordered = ordered_after c d e (tried_said t w (tried t side ls)) (works_made w.temp named.temps.own works) passes (ordered (tried t side ls) tried_outcome)

  pub tried_done : {z : TreeView} {c d : SinkView} (place : ℕ) (made : Made) (done : Done) → ((g : Files) → v.told ≡ Some g → t.options.dry_run ≡ true → g ≡ f)
      → ((g : Files) (x : Tried) → v.told ≡ Some g → IsOutcome t.options.dry_run v session w.temp side vs end x → IsMadeWhole t g s w x made v z c d)
      → done.row ≡ record { side = side; target = Some place; wrote = made.wrote }
      → ((x : Tried) → x.side ≡ side → IsSession session x.verdicts x.text → done.is_bad ≡ ((some_failed x.verdicts || is_kept t x) || fails_first t))
      → done.effects ≡ made.effects
      → IsDone u z c d done vs f (finished t f [] place (bytes_of t f place) s w (tried t side ls))
  tried_done place made done same whole row bad effects =
      let x = tried t side ls in
      let mid = told_on f works.passes told in
      let did = whole mid.0 x mid.1 tried_outcome in
      let name : get mid.0 w.name ≡ get f w.name = works.others f mid.0 told mid.1 w.name (apart w.name w.temp named.lasting.own named.temps.own) in
      let source_kept : get mid.0 s.name ≡ get f s.name = works.others f mid.0 told mid.1 s.name (apart s.name w.temp source.lasting.own named.temps.own) in
      let in_row : Bool → Row = λ b. record { side = side; target = Some place; wrote = b } in
      record {
        told = record {
          row = row ∙ ap in_row (did.wrote ∙ wrote-same t f mid.0 w x name);
          bad = bad x refl tried_outcome.counts;
          effects = effects ∙ did.effects ∙ ap (λ (l : List Effect). length l) (effects-same t f mid.0 s w x source_kept name);
          verdicts = verdicts;
        };
        whole = whole_tried t f mid.0 s w x source named works told mid.1 made (same mid.0 mid.1) did;
      }
