-- What a text is split into, or why it isn't, and what follows for the run.
use Rattle.std.proofs.Common.{◌≡◌, ◌⊎◌, inl, inr, ⊎_elim, ℕ, zero, ◌≤◌, List, Bool, true, false, Option, None, Some, Result, Ok, Err, IfErr, length, refl, sym, ◌∙◌, ap, subst, arith}
use Rattle.std.specs.Result.{IsErrAnd}
use Rattle.std.specs.FinMap.{get}
use Rattle.std.proofs.lemmas.Bool.{false≢true, le-leb}
use Rattle.std.specs.Prelude.{if◌then◌else◌}
use Rattle.line_list.specs.declared.Span.{Span}
use Rattle.outside.specs.Files.{Files}
use Rattle.outside.specs.TreeView.{TreeView, Passes, passes_both}
use Rattle.outside.specs.Calls.{IsUntouched}
use Rattle.outside.specs.SinkView.{SinkView, sink_passes_none}
use Rattle.outside.specs.Quiet.{Effect, IsQuiet, LeavesPrefix}
use Rattle.outside.proofs.Views.{rises_then, since_split}
use Rattle.outside.proofs.Quiet.{works_none}
use Rattle.apply_task.specs.Making.{IsTidy}
use Rattle.apply_task.proofs.Tidy.{untouched_tidy}
use Rattle.cli_tool_words.specs.PlainJobs.{PlainSplitJob}
use Rattle.cli_run_answers.specs.declared.fault.InputFault.{InputFault}
use Rattle.cli_run_answers.specs.declared.fault.InputFault.TheVariants as input
use Rattle.cli_run_answers.specs.Input.{answer_of, HasFileCause}
use Rattle.patch_set.specs.declared.fault.SetFault.{SetFault}
use Rattle.patch_set.specs.declared.fault.SetFault.TheVariants as set
use Rattle.patch_set.specs.Refusals.{refusal}
use Rattle.patch_set.specs.SetView.{SetView, IsRead}
use Rattle.split_recount.specs.Parts.{parts, rows_of}
use Rattle.filter_whole_text.specs.Texts.{defaults, parts_in, rows_in}
use Rattle.filter_whole_text.specs.Sifting.{is_refusal, HasSetCause}
use Rattle.filter_whole_text.specs.PartNames.{part_names}
use Rattle.filter_whole_text.specs.Parting.{Part, named_parts, ArePut, AreCutAt, PutsParts}
use Rattle.filter_whole_text.specs.Splits.{IsSplit, SplitsText, SplitsBy, SplitFault, cut_of, cut_unless, split_outcome, HasReadCause, HasEarlyCause, Splits}
use Rattle.filter_whole_text.specs.declared.fault.FilterFault.{FilterFault}
use Rattle.filter_whole_text.specs.declared.fault.FilterFault.TheVariants as faults
use Rattle.filter_whole_text.proofs.ByText.{parts-by, rows-by}

-- what holds of a fault holds of the answer that passes it on
pub passed : {R : Type 0} (s : Result R FilterFault) (e : FilterFault) (P : FilterFault → Type 0) → IsErrAnd s (λ x. x ≡ e) → P e → IfErr s P
passed (Ok x) e P is p = tt
passed (Err x) e P is p = subst P (sym is) p

-- ---- the text

pub input-cause : (e : InputFault) (t u : TreeView) (name : List ℕ) → HasFileCause e t u name → HasReadCause e t u
input-cause input.NoPatchFile t u name h = tt
input-cause input.TooLong t u name h = tt
input-cause input.Source t u name h = h
input-cause input.Tree t u name h = h
input-cause (input.Disagree want got) t u name h = h
input-cause input.Memory t u name h = tt

pub input-refused : (j : PlainSplitJob) (e : InputFault) (t u : TreeView) → HasFileCause e t u j.input → is_refusal (faults.Input e) ≡ true → (f : Files) → t.told ≡ Some f → IsSplit j f (Err (faults.Input e))
input-refused j input.NoPatchFile t u h is f told = subst (λ (r : Result (List ℕ) InputFault). SplitsText j.skip_binary r (Err (faults.Input input.NoPatchFile))) (sym (h f told)) refl
input-refused j input.TooLong t u h is f told = subst (λ (r : Result (List ℕ) InputFault). SplitsText j.skip_binary r (Err (faults.Input input.TooLong))) (sym (h f told)) refl
input-refused j input.Source t u h is f told = absurd h
input-refused j input.Tree t u h is f told = absurd (false≢true is)
input-refused j (input.Disagree want got) t u h is f told = absurd (false≢true is)
input-refused j input.Memory t u h is f told = absurd (false≢true is)

text-is : (text : List ℕ) → length text ≤ 268435456 → answer_of (Some text) ≡ Ok text
text-is text short = ap (λ (b : Bool). if b then Ok text else Err input.TooLong) (le-leb (length text) 268435456 short)

module _ (j : PlainSplitJob) (f : Files) (text : List ℕ) (short : length text ≤ 268435456) (is : get f j.input ≡ Some text) where
  by-text : (o : Result SetView FilterFault) → SplitsBy j.skip_binary (refusal (defaults j.skip_binary) text) text o → IsSplit j f o
  by-text o by = subst (λ (r : Result (List ℕ) InputFault). SplitsText j.skip_binary r o) (sym (ap answer_of is ∙ text-is text short)) by

  pub split-into : (v : SetView) → refusal (defaults j.skip_binary) text ≡ None → IsRead (defaults j.skip_binary) text v → IsSplit j f (Ok v)
  split-into v free read = by-text (Ok v) (subst (λ (r : Option SetFault). SplitsBy j.skip_binary r text (Ok v)) (sym free) (v, read, refl))

  pub split-refused : (e : SetFault) → refusal (defaults j.skip_binary) text ≡ Some e → IsSplit j f (Err (faults.Set e))
  split-refused e refused = by-text (Err (faults.Set e)) (subst (λ (r : Option SetFault). SplitsBy j.skip_binary r text (Err (faults.Set e))) (sym refused) refl)

pub set-refused : (e : SetFault) (r : Option SetFault) → (e ≡ set.Memory) ⊎ (r ≡ Some e) → is_refusal (faults.Set e) ≡ true → r ≡ Some e
set-refused e r (inl memory) is = absurd (false≢true (ap (λ (x : SetFault). is_refusal (faults.Set x)) (sym memory) ∙ is))
set-refused e r (inr refused) is = refused

pub set-cause : (skip : Bool) (e : SetFault) (text : List ℕ) → (e ≡ set.Memory) ⊎ (refusal (defaults skip) text ≡ Some e) → HasSetCause skip e
set-cause skip e text (inl memory) = subst (HasSetCause skip) (sym memory) tt
set-cause skip set.Memory text (inr refused) = tt
set-cause skip (set.Malformed line kind) text (inr refused) = (text, refused)
set-cause skip set.Garbage text (inr refused) = (text, refused)
set-cause skip set.TooLong text (inr refused) = (text, refused)
set-cause skip (set.OutMany count) text (inr refused) = (text, refused)
set-cause skip (set.EdReverse line) text (inr refused) = (text, refused)
set-cause skip (set.Reserved line) text (inr refused) = (text, refused)

-- ---- what is cut is told by the text

-- the parts of a set
abbrev pub parts_of : PlainSplitJob → SetView → List Part
parts_of j v = named_parts v.text (part_names j (rows_of v) (parts j.every v)) (parts j.every v)

abbrev seen : PlainSplitJob → Result SetView FilterFault → Result (List Part) FilterFault
seen j (Ok v) = Ok (parts_of j v)
seen j (Err e) = Err e

abbrev cut_into : PlainSplitJob → List ℕ → List (ℕ × List ℕ) → List Span → Result (List Part) FilterFault
cut_into j text rows spans = Ok (named_parts text (part_names j rows spans) spans)

by-refusal : (j : PlainSplitJob) (r : Option SetFault) (text : List ℕ) (o : Result SetView FilterFault) → SplitsBy j.skip_binary r text o → cut_unless j r text ≡ seen j o
by-refusal j None text o h =
    ap (λ (l : List ℕ). cut_into j l (rows_in j text) (parts_in j text)) (sym h.1.text)
    ∙ ap (λ (rows : List (ℕ × List ℕ)). cut_into j h.0.text rows (parts_in j text)) (sym (rows-by j text h.0 h.1))
    ∙ ap (λ (ss : List Span). cut_into j h.0.text (rows_of h.0) ss) (sym (parts-by j text h.0 h.1))
    ∙ sym (ap (seen j) h.2)
by-refusal j (Some fault) text o h = sym (ap (seen j) h)

by-answer : (j : PlainSplitJob) (x : Result (List ℕ) InputFault) (o : Result SetView FilterFault) → SplitsText j.skip_binary x o → cut_of j x ≡ seen j o
by-answer j (Ok text) o h = by-refusal j (refusal (defaults j.skip_binary) text) text o h
by-answer j (Err fault) o h = sym (ap (seen j) h)

split-is : (j : PlainSplitJob) (f : Files) (o : Result SetView FilterFault) → IsSplit j f o → split_outcome j f ≡ seen j o
unfolding split_outcome
split-is j f o h = by-answer j (answer_of (get f j.input)) o h

-- ---- the run

early : (b : Bool) (e : FilterFault) (j : PlainSplitJob) (f : Files) (t u : TreeView) (c : SinkView) → (b ≡ true → IsSplit j f (Err e)) → IsUntouched t u → SplitFault b e j f t u c c
early true e j f t u c refused same = split-is j f (Err e) (refused refl)
early false e j f t u c refused same = inl (record { tree = same; out = refl })

module _ (j : PlainSplitJob) {t u : TreeView} (c : SinkView) (same : IsUntouched t u) where
  early-cut : (e : FilterFault) → HasEarlyCause j.skip_binary e t u → (is_refusal e ≡ true → (f : Files) → t.told ≡ Some f → IsSplit j f (Err e)) → Splits j t u c c (Err e)
  early-cut (faults.Input x) cause refused = record {
    tree = same.passes;
    sink = sink_passes_none c;
    quiet = tt;
    refused = λ is. record { tree = same; out = refl };
    answers = λ f told. early (is_refusal (faults.Input x)) (faults.Input x) j f t u c (λ is. refused is f told) same;
    tidy = untouched_tidy same;
    cause = cause;
  }
  early-cut (faults.Set x) cause refused = record {
    tree = same.passes;
    sink = sink_passes_none c;
    quiet = tt;
    refused = λ is. record { tree = same; out = refl };
    answers = λ f told. early (is_refusal (faults.Set x)) (faults.Set x) j f t u c (λ is. refused is f told) same;
    tidy = untouched_tidy same;
    cause = cause;
  }
  early-cut (faults.Unfit line) cause refused = absurd cause
  early-cut faults.Pattern cause refused = absurd cause
  early-cut faults.Tree cause refused = absurd cause
  early-cut faults.Write cause refused = absurd cause
  early-cut faults.Memory cause refused = absurd cause

  pub splits-unread : (e : FilterFault) (s : Result (Unit {0}) FilterFault) → IsErrAnd s (λ x. x ≡ e) → HasEarlyCause j.skip_binary e t u → (is_refusal e ≡ true → (f : Files) → t.told ≡ Some f → IsSplit j f (Err e)) → Splits j t u c c s
  splits-unread e (Ok x) is cause refused = absurd is
  splits-unread e (Err x) is cause refused = subst (λ (y : FilterFault). Splits j t u c c (Err y)) (sym is) (early-cut e cause refused)

  -- once the text is read, the parts are put
  module _ (w : TreeView) (d : SinkView) (v : SetView) (quiet : IsQuiet t) (is : (f : Files) → t.told ≡ Some f → IsSplit j f (Ok v)) where
    leaves-behind : (es : List Effect) → Passes u w → LeavesPrefix u w es → LeavesPrefix t w es
    leaves-behind es passes leaves f told x left = ⊎_elim
        (λ before. (zero, omega arith, (works_none t v.text quiet).since f told x ((same.since t.moment x (omega arith)).0 before)))
        (λ later. leaves f (same.told ∙ told) x later)
        (since_split passes t.moment x same.passes.later left)

    tidy-behind : IsTidy u w → IsTidy t w
    tidy-behind tidy f g told now q temp = tidy f g (same.told ∙ told) now q temp

    put-behind : (f : Files) → Passes u w → ArePut (parts_of j v) f u w c d → ArePut (parts_of j v) f t w c d
    put-behind f passes put = record { files = put.files; leaves = leaves-behind _ passes put.leaves; out = put.out }

    cut-behind : (e : FilterFault) (f : Files) (k : ℕ) → Passes u w → AreCutAt (parts_of j v) e f u w c d k → AreCutAt (parts_of j v) e f t w c d k
    cut-behind e f k passes cut = record {
      few = cut.few;
      files = cut.files;
      exact = cut.exact;
      leaves = leaves-behind _ passes cut.leaves;
      out = cut.out;
      said = cut.said;
      near = cut.near;
      names = cut.names;
    }

    pub splits : (r : Result (Unit {0}) FilterFault) → PutsParts (parts_of j v) u w c d r → Splits j t w c d r
    splits (Ok z) puts = record {
      tree = passes_both same.passes puts.tree;
      sink = puts.sink;
      quiet = puts.quiet;
      refused = tt;
      answers = λ f told. (parts_of j v, split-is j f (Ok v) (is f told), put-behind f puts.tree (puts.answers f (same.told ∙ told)));
      tidy = tidy-behind puts.tidy;
      cause = tt;
    }
    splits (Err (faults.Input x)) puts = absurd puts.cause
    splits (Err (faults.Set x)) puts = absurd puts.cause
    splits (Err (faults.Unfit line)) puts = absurd puts.cause
    splits (Err faults.Pattern) puts = absurd puts.cause
    splits (Err faults.Tree) puts = record {
      tree = passes_both same.passes puts.tree;
      sink = puts.sink;
      quiet = tt;
      refused = λ yes. absurd (false≢true yes);
      answers = λ f told. let x = puts.answers f (same.told ∙ told) in inr (parts_of j v, split-is j f (Ok v) (is f told), (x.0, cut-behind faults.Tree f x.0 puts.tree x.1));
      tidy = tt;
      cause = rises_then t u w same.passes puts.cause;
    }
    splits (Err faults.Write) puts = record {
      tree = passes_both same.passes puts.tree;
      sink = puts.sink;
      quiet = tt;
      refused = λ yes. absurd (false≢true yes);
      answers = λ f told. let x = puts.answers f (same.told ∙ told) in inr (parts_of j v, split-is j f (Ok v) (is f told), (x.0, cut-behind faults.Write f x.0 puts.tree x.1));
      tidy = tidy-behind puts.tidy;
      cause = puts.cause;
    }
    splits (Err faults.Memory) puts = record {
      tree = passes_both same.passes puts.tree;
      sink = puts.sink;
      quiet = tt;
      refused = λ yes. absurd (false≢true yes);
      answers = λ f told. let x = puts.answers f (same.told ∙ told) in inr (parts_of j v, split-is j f (Ok v) (is f told), (x.0, cut-behind faults.Memory f x.0 puts.tree x.1));
      tidy = tidy-behind puts.tidy;
      cause = tt;
    }
