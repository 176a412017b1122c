use Rattle.std.proofs.Common.{◌≡◌, ◌≤◌, ◌<◌, ◌^◌, ◌+◌, ◌++◌, ℕ, cond, length, sym, ap, ◌∙◌, subst, arith}
use Rattle.hunk_core.specs.Sides.{is_on_side}
use Rattle.ifdef_out.specs.Places.{hunks_at, step_edit}
use Rattle.ifdef_out.proofs.HunkSteps.{none-ahead, hunk-over, line-ahead, line-lies, body-short}
use Rattle.ifdef_out.proofs.hunks.hunk_step.Goals as goal

pub returns-then-place-hunks : goal.returns-then-place-hunks
returns-then-place-hunks c = none-ahead c.args.text.now c.args.side c.args.verdicts.now c.args.hunks.now c.args.place.row c.args.place.line c.args.place.next c.if-place-hunks.true

pub returns-then-place-len : goal.returns-then-place-len
returns-then-place-len c =
    let over : length c.index-hunks-place.result.body.items ≤ c.args.place.line = subst (λ n. n ≤ c.args.place.line) (c.len.ensures ∙ c.index-hunks-place.result.body.ok.0) c.if-place-len.true in
    record {
      left = hunk-over c.args.text.now c.args.side c.args.verdicts.now c.args.hunks.now c.args.place.row c.args.place.line c.args.place.next c.index-hunks-place.result c.if-place-hunks.false c.index-hunks-place.is over
          ∙ sym (c.hunk_start.ensures.left c.args.text.now c.args.side);
      shorter = omega (arith, c.hunk_start.ensures.row);
      lies = tt;
    }

pub line_step-requires : goal.line_step-requires
line_step-requires c =
    let short : length c.index-hunks-place.result.body.items < 2 ^ 32 = body-short c.args.text.now c.args.hunks.now c.args.place.row c.index-hunks-place.result c.requires.lawful c.if-place-hunks.false c.index-hunks-place.is in
    let within : c.args.place.line < length c.index-hunks-place.result.body.items = subst (λ n. c.args.place.line < n) (c.len.ensures ∙ c.index-hunks-place.result.body.ok.0) c.if-place-len.false in
    omega arith

pub returns : goal.returns
returns c =
    let text = c.args.text.now in
    let side = c.args.side in
    let h = c.index-hunks-place.result in
    let l = c.index.result.now in
    let p = c.args.place in
    let within : c.args.place.line < length c.index-hunks-place.result.body.items = subst (λ n. c.args.place.line < n) (c.len.ensures ∙ c.index-hunks-place.result.body.ok.0) c.if-place-len.false in
    let s = c.line_step.result in
    record {
      left = line-ahead text side c.args.verdicts.now c.args.hunks.now p.row p.line p.next h l c.if-place-hunks.false c.index-hunks-place.is within c.index.ensures
          ∙ c.line_step.ensures.edit text (hunks_at text side c.args.verdicts.now c.args.hunks.now p.row (p.line + 1) (p.next + cond (is_on_side side l.mark) 1 0))
          ∙ ap (λ (k : ℕ). step_edit text s.edit ++ hunks_at text side c.args.verdicts.now c.args.hunks.now k (p.line + 1) (p.next + cond (is_on_side side l.mark) 1 0)) (sym c.line_step.ensures.row)
          ∙ ap (λ (k : ℕ). step_edit text s.edit ++ hunks_at text side c.args.verdicts.now c.args.hunks.now s.behind.row k (p.next + cond (is_on_side side l.mark) 1 0)) (sym c.line_step.ensures.line)
          ∙ ap (λ (k : ℕ). step_edit text s.edit ++ hunks_at text side c.args.verdicts.now c.args.hunks.now s.behind.row s.behind.line k) (sym c.line_step.ensures.next);
      shorter = (let row : c.line_step.result.behind.row ≡ c.args.place.row = c.line_step.ensures.row in let line : c.line_step.result.behind.line ≡ c.args.place.line + 1 = c.line_step.ensures.line in omega arith);
      lies = c.line_step.ensures.lies text (line-lies text c.args.hunks.now p.row p.line h l c.requires.lawful c.if-place-hunks.false c.index-hunks-place.is within c.index.ensures);
    }

pub hunk_start-requires-clause-rows : goal.hunk_start-requires-clause-rows
hunk_start-requires-clause-rows c = c.requires.rows

pub hunk_start-requires-clause-tried : goal.hunk_start-requires-clause-tried
hunk_start-requires-clause-tried c = c.requires.tried

pub index-requires : goal.index-requires
index-requires c = subst (λ n. c.args.place.line < n) c.len.ensures c.if-place-len.false
