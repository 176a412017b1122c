use Rattle.std.proofs.Common.{◌≡◌, refl, sym, ap, ◌∙◌, arith}
use Rattle.hunk_core.specs.declared.Mark.{Mark}
use Rattle.hunk_core.specs.declared.Mark.TheVariants.{Keep, Drop, Add}
use Rattle.hunk_core.specs.PlainHunk.{bytes_at}
use Rattle.hunk_core.specs.Turned.{taken_mark}
use Rattle.hunk_apply.specs.Splice.{marked_edits}
use Rattle.ifdef_out.proofs.HunkSteps.{counted, on-side, stays, moves}
use Rattle.ifdef_out.proofs.hunks.line_step.Goals as goal

pub returns-in-Add : goal.returns-in-Add
returns-in-Add c =
    let mark : taken_mark c.args.side c.args.line.mark ≡ Add = sym c.turned.ensures ∙ c.in-Add.is in
    record {
      edit = λ text rest. ap (λ (m : Mark). marked_edits m c.args.place.next (bytes_at text c.args.line.span) (λ _. rest)) mark;
      row = refl;
      line = refl;
      next = stays c.args.place.next _ (on-side c.args.side c.args.line.mark ∙ ap counted mark);
      lies = λ text is. record { near = omega (arith, c.args.place.near, c.requires); lies = is };
    }

pub returns-in-Drop : goal.returns-in-Drop
returns-in-Drop c =
    let mark : taken_mark c.args.side c.args.line.mark ≡ Drop = sym c.turned.ensures ∙ c.in-Drop.is in
    record {
      edit = λ text rest. ap (λ (m : Mark). marked_edits m c.args.place.next (bytes_at text c.args.line.span) (λ _. rest)) mark;
      row = refl;
      line = refl;
      next = moves c.args.place.next _ (on-side c.args.side c.args.line.mark ∙ ap counted mark);
      lies = λ text is. record { near = omega (arith, c.args.place.near, c.requires); lies = tt };
    }

pub returns-in-Keep : goal.returns-in-Keep
returns-in-Keep c =
    let mark : taken_mark c.args.side c.args.line.mark ≡ Keep = sym c.turned.ensures ∙ c.in-Keep.is in
    record {
      edit = λ text rest. ap (λ (m : Mark). marked_edits m c.args.place.next (bytes_at text c.args.line.span) (λ _. rest)) mark;
      row = refl;
      line = refl;
      next = moves c.args.place.next _ (on-side c.args.side c.args.line.mark ∙ ap counted mark);
      lies = λ text is. tt;
    }
