use Rattle.std.proofs.Common.{◌≡◌, ◌≤◌, ◌<◌, ◌-◌, ◌+◌, length, get_or, sym, ap, ◌∙◌, subst, arith}
use Rattle.ifdef_out.proofs.ScriptSteps.{none-ahead, drop-ahead, add-ahead, command-over, span-lies, moved}
use Rattle.ifdef_out.proofs.script.script_step.Goals as goal

pub returns-then-place-len : goal.returns-then-place-len
returns-then-place-len c =
    let le : length c.args.script.now.edits.items ≤ c.args.place.row = subst (λ n. n ≤ c.args.place.row) (c.len.ensures ∙ c.args.script.now.edits.ok.0) c.if-place-len.true in
    none-ahead c.args.text.now c.args.script.now.edits.items c.args.place.row c.args.place.line c.args.place.next le

pub returns-then-place-edit : goal.returns-then-place-edit
returns-then-place-edit c =
    let es = c.args.script.now.edits.items in
    let p = c.args.place in
    let lt : c.args.place.row < length c.args.script.now.edits.items = subst (λ n. c.args.place.row < n) (c.len.ensures ∙ c.args.script.now.edits.ok.0) c.if-place-len.false in
    let count : c.len-2.result ≡ length c.args.script.now.edits.items = c.len-2.ensures ∙ c.args.script.now.edits.ok.0 in
    let is : c.index-edit.result.now ≡ get_or c.args.script.now.edits.items ((length c.args.script.now.edits.items - 1) - c.args.place.row) c.index-edit.result.now =
    c.index-edit.ensures ∙ ap (λ n. get_or c.args.script.now.edits.items ((n - 1) - c.args.place.row) c.index-edit.result.now) count in
    let row : c.drop_step.result.behind.row ≡ c.args.place.row = c.drop_step.ensures.row in
    let line : c.drop_step.result.behind.line ≡ c.args.place.line = c.drop_step.ensures.line in
    let next : c.drop_step.result.behind.next ≡ c.args.place.next + 1 = c.drop_step.ensures.next in
    record {
      left = drop-ahead c.args.text.now es p.row c.index-edit.result.now lt is p.line p.next c.if-place-edit.true
          ∙ moved c.args.text.now es _ _ _ _ _ _ _ _ (sym (c.drop_step.ensures.edit c.args.text.now)) (sym row) (sym line) (sym next);
      shorter = omega arith;
      lies = c.drop_step.ensures.lies c.args.text.now;
    }

pub returns-then-place-len-2 : goal.returns-then-place-len-2
returns-then-place-len-2 c =
    let es = c.args.script.now.edits.items in
    let p = c.args.place in
    let lt : c.args.place.row < length c.args.script.now.edits.items = subst (λ n. c.args.place.row < n) (c.len.ensures ∙ c.args.script.now.edits.ok.0) c.if-place-len.false in
    let le : length c.index-edit.result.now.added.items ≤ c.args.place.line = subst (λ n. n ≤ c.args.place.line) (c.len-3.ensures ∙ c.index-edit.result.now.added.ok.0) c.if-place-len-2.true in
    let count : c.len-2.result ≡ length c.args.script.now.edits.items = c.len-2.ensures ∙ c.args.script.now.edits.ok.0 in
    let is : c.index-edit.result.now ≡ get_or c.args.script.now.edits.items ((length c.args.script.now.edits.items - 1) - c.args.place.row) c.index-edit.result.now =
    c.index-edit.ensures ∙ ap (λ n. get_or c.args.script.now.edits.items ((n - 1) - c.args.place.row) c.index-edit.result.now) count in
    record {
      left = command-over c.args.text.now es p.row c.index-edit.result.now lt is p.line p.next c.if-place-edit.false le ∙ sym (c.script_start.ensures.left c.args.text.now);
      shorter = omega (arith, c.script_start.ensures.row);
      lies = tt;
    }

pub returns : goal.returns
returns c =
    let es = c.args.script.now.edits.items in
    let p = c.args.place in
    let lt : c.args.place.row < length c.args.script.now.edits.items = subst (λ n. c.args.place.row < n) (c.len.ensures ∙ c.args.script.now.edits.ok.0) c.if-place-len.false in
    let within : c.args.place.line < length c.index-edit.result.now.added.items = subst (λ n. c.args.place.line < n) (c.len-3.ensures ∙ c.index-edit.result.now.added.ok.0) c.if-place-len-2.false in
    let count : c.len-2.result ≡ length c.args.script.now.edits.items = c.len-2.ensures ∙ c.args.script.now.edits.ok.0 in
    let is : c.index-edit.result.now ≡ get_or c.args.script.now.edits.items ((length c.args.script.now.edits.items - 1) - c.args.place.row) c.index-edit.result.now =
    c.index-edit.ensures ∙ ap (λ n. get_or c.args.script.now.edits.items ((n - 1) - c.args.place.row) c.index-edit.result.now) count in
    let row : c.add_step.result.behind.row ≡ c.args.place.row = c.add_step.ensures.row in
    let line : c.add_step.result.behind.line ≡ c.args.place.line + 1 = c.add_step.ensures.line in
    let next : c.add_step.result.behind.next ≡ c.args.place.next = c.add_step.ensures.next in
    record {
      left = add-ahead c.args.text.now es p.row c.index-edit.result.now lt is p.line p.next c.index.result.now c.if-place-edit.false within c.index.ensures
          ∙ moved c.args.text.now es _ _ _ _ _ _ _ _ (sym (c.add_step.ensures.edit c.args.text.now)) (sym row) (sym line) (sym next);
      shorter = omega arith;
      lies = c.add_step.ensures.lies c.args.text.now (span-lies c.args.text.now es _ p.line c.index-edit.result.now c.index.result.now c.requires.lawful.within (omega arith) is within c.index.ensures);
    }

pub overflow_add-place : goal.overflow_add-place
overflow_add-place c = omega (arith, c.if-place-len.false, c.len.type_inv)

pub add_step-requires : goal.add_step-requires
add_step-requires c = omega (arith, c.if-place-len-2.false, c.len-3.type_inv)

pub index-requires : goal.index-requires
index-requires c = subst (λ n. c.args.place.line < n) c.len-3.ensures c.if-place-len-2.false
