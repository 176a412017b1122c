-- The lines in front of a fault can go on to a piece.
use Rattle.std.proofs.Common.{◌≡◌, ℕ, ◌+◌, ◌-◌, ◌≤◌, cond, List, [], ◌∷◌, ◌++◌, length, take, Option, None, Some, Result, Ok, Err, refl, sym, ap, subst, ◌∙◌, arith, inl, inr, ◌↔◌, ◌<◌}
use Rattle.std.specs.Prelude.{is_some}
use Rattle.std.proofs.lemmas.List.{append-nil}
use Rattle.hunk_core.specs.declared.BadKind.TheVariants as kinds
use Rattle.hunk_core.specs.declared.Side.TheVariants.{Forward, Reversed}
use Rattle.hunk_core.specs.PlainHunk.{Marked, PlainHunk}
use Rattle.hunk_core.specs.LineTests.{after_backslash}
use Rattle.hunk_core.specs.Reading.{Fault, fault, Ahead, ahead}
use Rattle.hunk_core.specs.Refusals.{settled}
use Rattle.hunk_core.proofs.FaultSteps.{bind_err, short_or}
use Rattle.hunk_core.proofs.Faults.{FillsHunks, no_hunk}
use Rattle.hunk_core.proofs.Filling.{front_with, first_inside, past_inside, whole_front, none_inside}
use Rattle.normal_form.specs.declared.command.Command.{Command}
use Rattle.normal_form.specs.Commands.{opening}
use Rattle.normal_form.specs.Hunks.{at_line, body_at, change, first_hunk, reading}
use Rattle.normal_form.specs.Grammar.{on_side, SpellsBody, SpellsCommand, AreFair, command_of, SpellsHunk}
use Rattle.normal_form.specs.FirstFault.{CanGoOn}
use Rattle.normal_form.proofs.CommandGrammar.{opening-takes}
use Rattle.normal_form.proofs.Pieces.{SpellsIn, counts-none, TakesBody, body_takes, at_line-ok, is_counted}
use Rattle.normal_form.proofs.FirstFault.{fault-short, fault-not_sooner, steady-body, opening-here, with_body, hunks_fill}
use Rattle.normal_form.proofs.Filling.{fault_at, front_to, some_loud, FillsBody, body_fills}

-- ---- hunks

-- a command, and lines that are its lines
hunk_spelled : (least : ℕ) (line : List ℕ) (lines olds news : List (List ℕ)) (c : Command) (body : List Marked) → SpellsCommand line c × AreFair least c → length olds ≡ c.old_count → length news ≡ c.new_count → body ≡ on_side Forward olds ++ on_side Reversed news → SpellsBody c.action lines olds news
    → SpellsHunk least (line ∷ lines) (change c body)
hunk_spelled least line lines olds news c body s old new is spelled =
    let stated : c ≡ command_of c.action (change c body) olds news = is_counted c.action c.old_start c.old_count c.new_start c.new_count (length olds) (length news) old new in
    (c.action, olds, news, is, subst (SpellsCommand line) stated s.0, subst (AreFair least) stated s.1, spelled)

-- a hunk whose lines are filled up
short_hunk : (least number : ℕ) (line : List ℕ) (rest : List (List ℕ)) (e : Fault) (c : Command) → SpellsCommand line c × AreFair least c → number + 1 ≤ e.line → FillsBody c.action c.old_count c.new_count (ahead (number + 1) rest) e → FillsHunks SpellsIn least (ahead number (line ∷ rest)) e
short_hunk least number line rest e c s le f =
    let lines = take (e.line - (number + 1)) rest ++ f.others in
    let body = on_side Forward f.olds ++ on_side Reversed f.news in
    record {
      others = f.others;
      are_lines = f.are_lines;
      hs = change c body ∷ [];
      spelled = (line ∷ lines, [], front_with e.line number (number + 1) (line ∷ rest) (line ∷ []) rest f.others refl refl le ∙ sym (append-nil (line ∷ lines)), hunk_spelled least line lines f.olds f.news c body s f.old_count f.new_count refl f.spelled, refl);
      inside = past_inside (ahead number (line ∷ rest)) (ahead (number + 1) rest) e (line ∷ []) refl refl f.inside;
    }

-- a hunk that is whole
whole_hunk : (least number : ℕ) (line : List ℕ) (rest : List (List ℕ)) (e : Fault) (c : Command) (body : List Marked × Ahead) → SpellsCommand line c × AreFair least c → TakesBody c.action c.old_count c.new_count (ahead (number + 1) rest) body → (e.line ≡ body.1.number) × (0 < length body.1.rest) → FillsHunks SpellsIn least (ahead number (line ∷ rest)) e
whole_hunk least number line rest e c body s t late = record {
  others = [];
  are_lines = tt;
  hs = change c body.0 ∷ [];
  spelled = (line ∷ t.own, [], front_to e.line number body.1.number (line ∷ rest) (line ∷ t.own) body.1.rest [] (ap (λ (ls : List (List ℕ)). line ∷ ls) t.parts) (omega (arith, t.number)) late.0, hunk_spelled least line t.own t.olds t.news c body.0 s t.old_count t.new_count t.is t.spelled, refl);
  inside = past_inside (ahead number (line ∷ rest)) body.1 e (line ∷ t.own) (ap (λ (ls : List (List ℕ)). line ∷ ls) t.parts) (omega (arith, t.number)) (λ long. omega (arith, late.0, late.1));
}

settled_at : (h : PlainHunk) (p : Ahead) (e : Fault) → settled h p ≡ Err e → (e.line ≡ p.number) × (0 < length p.rest)
settled_at h p e is = by (after_backslash p.rest) refl is
  where
    by : (o : Option (List (List ℕ))) → after_backslash p.rest ≡ o → cond {A = Result (PlainHunk × Ahead) Fault} (is_some o) (Err (fault p.number kinds.MisplacedBackslash)) (Ok (h, p)) ≡ Err e → (e.line ≡ p.number) × (0 < length p.rest)
    by None is h = absurd cc
    by (Some more) is h = (fault_at {A = PlainHunk × Ahead} p.number kinds.MisplacedBackslash e h, some_loud p.rest more is)

hunk_fills : (least number : ℕ) (lines : List (List ℕ)) (e : Fault) → first_hunk least number lines ≡ Err e → FillsHunks SpellsIn least (ahead number lines) e
unfolding first_hunk
hunk_fills least number [] e h = no_hunk SpellsIn least (ahead number []) e (fault_at {A = PlainHunk × Ahead} number kinds.ShortEnd e h) (none_inside {A = PlainHunk × Ahead} number e h)
hunk_fills least number (line ∷ rest) e h =
    elim (bind_err (at_line number (opening least line)) (λ c. with_body c (ahead (number + 1) rest)) e h) [
      | inl bad ↦ (let here = (opening-here least number line e bad).0 in no_hunk SpellsIn least (ahead number (line ∷ rest)) e here (first_inside number line rest e here))
      | inr good ↦ (
          let c = good.0 in
          let p : Ahead = ahead (number + 1) rest in
          let s = opening-takes least line c (at_line-ok number (opening least line) c good.1) in
          let none = counts-none c.action s.0.old s.0.new c.old_start c.old_count c.new_start c.new_count s.0.old_span s.0.new_span in
          elim (bind_err (body_at c p) (λ body. settled (change c body.0) body.1) e good.2) [
            | inl bad ↦ short_hunk least number line rest e c s ((steady-body c).low p e bad).0 (body_fills c p e none bad)
            | inr body ↦ whole_hunk least number line rest e c body.0 s (body_takes c p body.0 none body.1) (settled_at (change c body.0.0) body.0.1 e body.2)
          ])
    ]

-- ---- the first fault

pub fault-goes_on : (number : ℕ) (lines : List (List ℕ)) (e : Fault) → reading number lines ≡ Err e → CanGoOn number (take (e.line - number) lines)
fault-goes_on number lines e h =
    let f = hunks_fill (λ least p e h. hunk_fills least p.number p.rest e h) (length lines) 0 (ahead number lines) e h in
    let own = take (e.line - number) lines ++ f.others in
    record { others = f.others; are_lines = f.are_lines; hs = f.hs; next = number + length own; whole = record { own = own; parts = sym (append-nil own); spelled = f.spelled; ends = (refl, refl); counted = refl } }

pub fault-short_end : (number : ℕ) (lines : List (List ℕ)) (e : Fault) → reading number lines ≡ Err e → e.kind ≡ kinds.ShortEnd ↔ CanGoOn number lines
fault-short_end number lines e h = (
  λ short. subst (CanGoOn number) (whole_front number lines e.line (fault-short number lines e h short)) (fault-goes_on number lines e h),
  λ g. elim (short_or e.kind) [
    | inl short ↦ short
    | inr long ↦ (
        let late = fault-not_sooner number lines [] e g (subst (λ (ls : List (List ℕ)). reading number ls ≡ Err e) (sym (append-nil lines)) h) in
        let inside = (hunks_fill (λ least p e h. hunk_fills least p.number p.rest e h) (length lines) 0 (ahead number lines) e h).inside long in
        absurd (omega (arith, late, inside)))
  ],
)
