use Rattle.std.proofs.Common.{◌∙◌, ◌||◌, ap}
use Rattle.patch_header.specs.Region.{LiesIn, later}
use Rattle.patch_header.proofs.SeenLemmas.{later-lies}
use Rattle.patch_header.proofs.git_lines.with_line.Goals as goal

pub returns-clause-lies : goal.returns-clause-lies
returns-clause-lies c = record {
  rename_from = later-lies (LiesIn c.args.text.now) c.args.lines.rename_from _ _ c.later.ensures c.requires.lies.rename_from c.tail_of.ensures.lies;
  rename_to = later-lies (LiesIn c.args.text.now) c.args.lines.rename_to _ _ c.later-2.ensures c.requires.lies.rename_to c.tail_of-2.ensures.lies;
  copy_from = later-lies (LiesIn c.args.text.now) c.args.lines.copy_from _ _ c.later-3.ensures c.requires.lies.copy_from c.tail_of-3.ensures.lies;
  copy_to = later-lies (LiesIn c.args.text.now) c.args.lines.copy_to _ _ c.later-4.ensures c.requires.lies.copy_to c.tail_of-4.ensures.lies;
  old_mode = later-lies (LiesIn c.args.text.now) c.args.lines.old_mode _ _ c.later-5.ensures c.requires.lies.old_mode c.old_mode_of.ensures.lies;
  new_mode = later-lies (LiesIn c.args.text.now) c.args.lines.new_mode _ _ c.later-6.ensures c.requires.lies.new_mode c.new_mode_of.ensures.lies;
}

pub returns-clause-is : goal.returns-clause-is
returns-clause-is c =
    let lines = c.args.lines in
    λ i. record {
      is_new = (c.either.ensures ∙ ap (λ v. lines.is_new || v) c.starts.ensures) i;
      is_deleted = (c.either-2.ensures ∙ ap (λ v. lines.is_deleted || v) c.starts-2.ensures) i;
      rename_from = (c.later.ensures ∙ ap (later lines.rename_from) c.tail_of.ensures.is) i;
      rename_to = (c.later-2.ensures ∙ ap (later lines.rename_to) c.tail_of-2.ensures.is) i;
      copy_from = (c.later-3.ensures ∙ ap (later lines.copy_from) c.tail_of-3.ensures.is) i;
      copy_to = (c.later-4.ensures ∙ ap (later lines.copy_to) c.tail_of-4.ensures.is) i;
      old_mode = (c.later-5.ensures ∙ ap (later lines.old_mode) c.old_mode_of.ensures.is) i;
      new_mode = (c.later-6.ensures ∙ ap (later lines.new_mode) c.new_mode_of.ensures.is) i;
    }

pub tail_of-requires : goal.tail_of-requires
tail_of-requires c = c.requires.line

pub tail_of-requires-2 : goal.tail_of-requires-2
tail_of-requires-2 c = c.requires.line

pub tail_of-requires-3 : goal.tail_of-requires-3
tail_of-requires-3 c = c.requires.line

pub tail_of-requires-4 : goal.tail_of-requires-4
tail_of-requires-4 c = c.requires.line

pub old_mode_of-requires : goal.old_mode_of-requires
old_mode_of-requires c = c.requires.line

pub new_mode_of-requires : goal.new_mode_of-requires
new_mode_of-requires c = c.requires.line
