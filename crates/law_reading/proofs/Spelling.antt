-- What spells a change where no line follows spells it in front of lines that begin cleanly.
use Rattle.std.proofs.Common.{◌≡◌, inl, inr, ℕ, zero, suc, Bool, true, false, cond, not, eqb, List, [], ◌∷◌, ◌++◌, length, Option, None, Some, refl, sym, ap, ◌∙◌, arith}
use Rattle.std.specs.Prelude.{is_some, codes}
use Rattle.hunk_core.specs.declared.Mark.{Mark}
use Rattle.hunk_core.specs.declared.Mark.TheVariants.{Keep, Add}
use Rattle.hunk_core.specs.declared.Side.TheVariants.{Forward, Reversed}
use Rattle.hunk_core.specs.PlainHunk.{Marked, PlainHunk}
use Rattle.hunk_core.specs.LineTests.{after, after_backslash}
use Rattle.hunk_core.specs.declared.command.Action.{Action}
use Rattle.hunk_core.specs.declared.command.Action.TheVariants as actions
use Rattle.context_form.specs.declared.range.Stated.{Stated}
use Rattle.context_form.specs.Merging.{part_of}
use Rattle.context_form.specs.Parts.{mark_by, mark_at}
use Rattle.context_form.specs.Presence.{may_begin, begins_part, drops_alone, is_there_by, is_there}
use Rattle.context_form.specs.Grammar as context
use Rattle.ed_form.specs.PlainEdit.{PlainEdit, lowest}
use Rattle.ed_form.specs.Grammar as ed
use Rattle.law_reading.specs.Joins.{begin_with, BeginCleanly}

-- no backslash line comes first
pub backslash-none : (ls : List (List ℕ)) → begin_with (codes "\\ ") ls ≡ false → after_backslash ls ≡ None
backslash-none [] h = refl
backslash-none (line ∷ rest) h = ap (λ v. cond v (Some rest) None) h

-- ---- the context form

-- two bytes in front, or not
after-two : (b c x y : ℕ) (bytes : List ℕ) → b ≡ x → c ≡ y → is_some (after (x ∷ y ∷ []) (b ∷ c ∷ bytes)) ≡ true
unfolding after
after-two b c x y bytes e d =
    let s : eqb b x ≡ true = grind arith in
    let t : eqb c y ≡ true = grind arith in
    rw (s, t) refl

abbrev shown : Mark → Bool → Option (Mark × Bool)
shown m changed = Some (m, changed)

no-mark : (line : List ℕ) → is_some (after (codes "  ") line) ≡ false → is_some (after (codes "+ ") line) ≡ false → is_some (after (codes "! ") line) ≡ false → mark_at Reversed line ≡ None
no-mark [] h k l = refl
no-mark (b ∷ []) h k l = refl
no-mark (b ∷ c ∷ bytes) h k l = by (eqb c 32) refl
  where
    third : (x : Bool) → eqb c 32 ≡ true → eqb b 43 ≡ x → cond x (shown Add false) None ≡ None
    third true e f = absurd (let t : is_some (after (43 ∷ 32 ∷ []) (b ∷ c ∷ bytes)) ≡ true = after-two b c 43 32 bytes (grind arith) (grind arith) in cc)
    third false e f = refl

    second : (x : Bool) → eqb c 32 ≡ true → eqb b 33 ≡ x → cond x (shown Add true) (cond (eqb b 43) (shown Add false) None) ≡ None
    second true e f = absurd (let t : is_some (after (33 ∷ 32 ∷ []) (b ∷ c ∷ bytes)) ≡ true = after-two b c 33 32 bytes (grind arith) (grind arith) in cc)
    second false e f = third (eqb b 43) e refl

    first : (x : Bool) → eqb c 32 ≡ true → eqb b 32 ≡ x → cond x (shown Keep false) (cond (eqb b 33) (shown Add true) (cond (eqb b 43) (shown Add false) None)) ≡ None
    first true e f = absurd (let t : is_some (after (32 ∷ 32 ∷ []) (b ∷ c ∷ bytes)) ≡ true = after-two b c 32 32 bytes (grind arith) (grind arith) in cc)
    first false e f = second (eqb b 33) e refl

    by : (x : Bool) → eqb c 32 ≡ x → cond x (mark_by Reversed b) None ≡ None
    by true e = first (eqb b 32) e refl
    by false e = refl

-- no line of a new part comes first
pub no-part : (k : Bool) (ls : List (List ℕ)) → begin_with (codes "  ") ls ≡ false → begin_with (codes "+ ") ls ≡ false → begin_with (codes "! ") ls ≡ false → begins_part k ls ≡ false
no-part k [] h i j = refl
no-part k (line ∷ rest) h i j = ap (may_begin k) (no-mark line h i j)

pub not-there : (s : Stated) (olds : List Marked) (ls : List (List ℕ)) → ((k : Bool) → begins_part k ls ≡ false) → is_there s olds ls ≡ false
not-there s olds ls h = by s.count
  where
    one : (v : Bool) → cond v false (begins_part (not (drops_alone olds)) ls) ≡ false
    one true = refl
    one false = h (not (drops_alone olds))

    by : (o : Option ℕ) → is_there_by s.start o olds ls ≡ false
    by None = one (eqb s.start 0)
    by (Some n) = h true

same-there : (s : Stated) (olds : List Marked) (line : List ℕ) (rest other : List (List ℕ)) → is_there s olds (line ∷ rest) ≡ is_there s olds (line ∷ other)
same-there s olds line rest other = by s.count
  where
    by : (o : Option ℕ) → is_there_by s.start o olds (line ∷ rest) ≡ is_there_by s.start o olds (line ∷ other)
    by None = refl
    by (Some n) = refl

-- a hunk sees of what follows only whether a new part begins there
pub hunk-told : (least : ℕ) (own behind other : List (List ℕ)) (h : PlainHunk) → ((s : Stated) (olds : List Marked) → is_there s olds behind ≡ false → is_there s olds other ≡ false) → context.SpellsHunk least own behind h → context.SpellsHunk least own other h
hunk-told least own behind other h keeps s = record {
  stars = s.stars;
  old_line = s.old_line;
  old = s.old;
  new_line = s.new_line;
  new = s.new;
  parts = s.parts;
  asterisks = s.asterisks;
  old_single = s.old_single;
  new_single = s.new_single;
  old_range = s.old_range;
  new_range = s.new_range;
  old_part = s.old_part;
  new_part = s.new_part;
  some = s.some;
  drops = s.drops;
  old_fits = s.old_fits;
  new_fits = s.new_fits;
  order = s.order;
  begins = s.begins;
  told = λ none. keeps (context.stated_as s.new_single h.new_start (length (part_of Reversed h.body))) (context.written Forward s.old h.body) (s.told none);
}

-- ---- hunks in front of other lines

module _ (rest others : List (List ℕ)) (clean : BeginCleanly others) where
  there-joined : (more : List (List ℕ)) (s : Stated) (olds : List Marked) → is_there s olds (more ++ rest) ≡ false → is_there s olds (more ++ others) ≡ false
  there-joined [] s olds h = not-there s olds others (λ k. no-part k others clean.kept clean.added clean.changed)
  there-joined (line ∷ more) s olds h = sym (same-there s olds line (more ++ rest) (more ++ others)) ∙ h

  pub context-hunks : (least : ℕ) (piece : List (List ℕ)) (hs : List PlainHunk) → context.SpellsHunks least piece rest hs → context.SpellsHunks least piece others hs
  context-hunks least piece [] h = h
  context-hunks least piece (x ∷ hs) h = (h.0, h.1, h.2, hunk-told least h.0 (h.1 ++ rest) (h.1 ++ others) x (there-joined h.1) h.3, context-hunks x.old_start h.1 hs h.4)

  append-joined : (more : List (List ℕ)) → ed.begins_append (more ++ rest) ≡ false → ed.begins_append (more ++ others) ≡ false
  append-joined [] h = clean.append
  append-joined (line ∷ more) h = h

  text-joined : (turns : ℕ) (own text more : List (List ℕ)) → ed.SpellsText turns own text (more ++ rest) → ed.SpellsText turns own text (more ++ others)
  text-joined zero own text more (inl h) = inl h
  text-joined zero own text more (inr h) = inr (h.0, append-joined more h.1)
  text-joined (suc turns) own text more h = (h.0, h.1, h.2, h.3, h.4, h.5, h.6, h.7, h.8, text-joined turns h.2 h.6 more h.9)

  added-joined : (action : Action) (own added more : List (List ℕ)) → ed.SpellsAdded action own added (more ++ rest) → ed.SpellsAdded action own added (more ++ others)
  added-joined actions.Add own added more h = (h.0, text-joined h.0 own added more h.1)
  added-joined actions.Change own added more h = (h.0, text-joined h.0 own added more h.1)
  added-joined actions.Delete own added more h = h

  edit-joined : (below : ℕ) (own more : List (List ℕ)) (e : PlainEdit) → ed.SpellsEdit below own e (more ++ rest) → ed.SpellsEdit below own e (more ++ others)
  edit-joined below [] more e h = absurd h
  edit-joined below (line ∷ lines) more e h = (h.0, h.1, h.2, added-joined h.0 lines e.added more h.3)

  pub edits-joined : (below : ℕ) (own : List (List ℕ)) (es : List PlainEdit) → ed.SpellsEdits below own es rest → ed.SpellsEdits below own es others
  edits-joined below own [] h = h
  edits-joined below own (e ∷ es) h = (h.0, h.1, h.2, edit-joined below h.0 h.1 e h.3, edits-joined (lowest e) h.1 es h.4)
