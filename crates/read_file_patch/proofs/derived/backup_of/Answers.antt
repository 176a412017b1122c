use Rattle.outside.proofs.Exits.{if_ok_none}
use Rattle.std.proofs.Common.{◌≡◌, ◌++◌, ap, option_map, string_bytes, ◌∙◌}
use Rattle.std.proofs.lemmas.Result.{IfOk-weaker}
use Rattle.std.specs.Option.{option_copied}
use Rattle.outside.specs.Files.{temp_of}
use Rattle.patch_options.specs.PlainJob.{plain_options}
use Rattle.read_file_patch.specs.Targets.{backup_end, backup_front, backup_name, below}
use Rattle.read_file_patch.proofs.derived.backup_of.Goals as goal

pub returns-in_err-fronted-clause-name : goal.returns-in_err-fronted-clause-name
returns-in_err-fronted-clause-name c = if_ok_none _ _ c.from_residual.result c.from_residual.ensures.1

pub returns-in_err-fronted-clause-temp : goal.returns-in_err-fronted-clause-temp
returns-in_err-fronted-clause-temp c = if_ok_none _ _ c.from_residual.result c.from_residual.ensures.1

pub returns-in_err-fronted-clause-temporary : goal.returns-in_err-fronted-clause-temporary
returns-in_err-fronted-clause-temporary c = if_ok_none _ _ c.from_residual.result c.from_residual.ensures.1

pub returns-in_err-followed_by-clause-name : goal.returns-in_err-followed_by-clause-name
returns-in_err-followed_by-clause-name c = if_ok_none _ _ c.from_residual-in_err-followed_by.result c.from_residual-in_err-followed_by.ensures.1

pub returns-in_err-followed_by-clause-temp : goal.returns-in_err-followed_by-clause-temp
returns-in_err-followed_by-clause-temp c = if_ok_none _ _ c.from_residual-in_err-followed_by.result c.from_residual-in_err-followed_by.ensures.1

pub returns-in_err-followed_by-clause-temporary : goal.returns-in_err-followed_by-clause-temporary
returns-in_err-followed_by-clause-temporary c = if_ok_none _ _ c.from_residual-in_err-followed_by.result c.from_residual-in_err-followed_by.ensures.1

same : (c : goal.After-drop-fronted-inside-2) → below (option_copied c.as_ref.result) c.in_ok-followed_by.field-0 ≡ below c.args.options.now.dir (backup_name (plain_options c.args.options.now) c.args.name.now)
same c =
    ap (λ d. below d c.in_ok-followed_by.field-0) c.as_ref.ensures.value
    ∙ ap (below c.args.options.now.dir) (c.in_ok-followed_by.ensures.text ∙ ap (λ f. f ++ c.backup_end-end.result.now) c.in_ok-fronted.ensures
    ∙ ap (λ e. backup_front (plain_options c.args.options.now) c.args.name.now ++ e)
    (c.backup_end-end.ensures.end ∙ ap (λ b. backup_end b (option_map string_bytes c.args.options.now.suffix)) c.is_fronted.ensures))

pub returns-clause-name : goal.returns-clause-name
returns-clause-name c =
    IfOk-weaker c.put_below-2.result (λ p. p.name ≡ below (option_copied c.as_ref.result) c.in_ok-followed_by.field-0)
    (λ p. p.name ≡ below c.args.options.now.dir (backup_name (plain_options c.args.options.now) c.args.name.now)) (λ p is. is ∙ same c) c.put_below-2.ensures.name

pub returns-clause-temp : goal.returns-clause-temp
returns-clause-temp c =
    IfOk-weaker c.put_below-2.result (λ p. p.temp ≡ temp_of (below (option_copied c.as_ref.result) c.in_ok-followed_by.field-0))
    (λ p. p.temp ≡ temp_of (below c.args.options.now.dir (backup_name (plain_options c.args.options.now) c.args.name.now))) (λ p is. is ∙ ap temp_of (same c)) c.put_below-2.ensures.temp

pub returns-clause-temporary : goal.returns-clause-temporary
returns-clause-temporary c = c.put_below-2.ensures.temporary

pub followed_by-requires : goal.followed_by-requires
followed_by-requires c = c.backup_end-end.ensures.ending

pub named-requires : goal.named-requires
named-requires c = c.requires

pub backup_end-end-requires : goal.backup_end-end-requires
backup_end-end-requires c = c.requires.suffix
