use Rattle.outside.proofs.Exits.{if_ok_none}
use Rattle.std.proofs.Common.{◌≡◌, ◌++◌, ap, sym, refl, ◌∙◌}
use Rattle.std.specs.Prelude.{codes, unwrap_or}
use Rattle.std.proofs.lemmas.Result.{IfOk-weaker}
use Rattle.std.specs.Option.{option_copied}
use Rattle.outside.specs.Files.{temp_of}
use Rattle.patch_options.specs.PlainJob.{plain_options}
use Rattle.read_file_patch.specs.Targets.{below, reject_name, shown_from}
use Rattle.read_file_patch.proofs.derived.reject_of.Goals as goal

pub returns-in_err-followed_by-in-None-clause-name : goal.returns-in_err-followed_by-in-None-clause-name
returns-in_err-followed_by-in-None-clause-name c = if_ok_none _ _ c.from_residual.result c.from_residual.ensures.1

pub returns-in_err-followed_by-in-None-clause-temp : goal.returns-in_err-followed_by-in-None-clause-temp
returns-in_err-followed_by-in-None-clause-temp c = if_ok_none _ _ c.from_residual.result c.from_residual.ensures.1

pub returns-in_err-followed_by-in-None-clause-temporary : goal.returns-in_err-followed_by-in-None-clause-temporary
returns-in_err-followed_by-in-None-clause-temporary c = if_ok_none _ _ c.from_residual.result c.from_residual.ensures.1

pub returns-in_err-followed_by-in-None-clause-shown : goal.returns-in_err-followed_by-in-None-clause-shown
returns-in_err-followed_by-in-None-clause-shown c = if_ok_none _ _ c.from_residual.result c.from_residual.ensures.1

pub returns-in-Some-clause-temporary : goal.returns-in-Some-clause-temporary
returns-in-Some-clause-temporary c = c.put_below.ensures.temporary

other : (c : goal.After-drop-branch) → c.in_ok-followed_by-in-None.field-0 ≡ reject_name (plain_options c.args.options.now) c.args.name.now
other c = c.in_ok-followed_by-in-None.ensures.text ∙ ap (λ r. unwrap_or r (c.args.name.now ++ codes ".rej")) (sym c.in-None.is)

given : (c : goal.After-put_below) → c.in-Some.reject ≡ reject_name (plain_options c.args.options.now) c.args.name.now
given c = ap (λ r. unwrap_or r (c.args.name.now ++ codes ".rej")) (sym c.in-Some.is)

pub returns-in_ok-followed_by-in-None-clause-name : goal.returns-in_ok-followed_by-in-None-clause-name
returns-in_ok-followed_by-in-None-clause-name c =
    IfOk-weaker c.put_below-in-None-2.result (λ p. p.name ≡ below (option_copied c.as_ref-in-None.result) c.in_ok-followed_by-in-None.field-0) (λ p. p.name ≡ below c.args.options.now.dir (reject_name (plain_options c.args.options.now) c.args.name.now))
    (λ p is. is ∙ ap (λ d. below d c.in_ok-followed_by-in-None.field-0) c.as_ref-in-None.ensures.value ∙ ap (below c.args.options.now.dir) (other c)) c.put_below-in-None-2.ensures.name

pub returns-in_ok-followed_by-in-None-clause-temp : goal.returns-in_ok-followed_by-in-None-clause-temp
returns-in_ok-followed_by-in-None-clause-temp c =
    IfOk-weaker c.put_below-in-None-2.result (λ p. p.temp ≡ temp_of (below (option_copied c.as_ref-in-None.result) c.in_ok-followed_by-in-None.field-0)) (λ p. p.temp ≡ temp_of (below c.args.options.now.dir (reject_name (plain_options c.args.options.now) c.args.name.now)))
    (λ p is. is ∙ ap (λ d. temp_of (below d c.in_ok-followed_by-in-None.field-0)) c.as_ref-in-None.ensures.value ∙ ap (λ n. temp_of (below c.args.options.now.dir n)) (other c)) c.put_below-in-None-2.ensures.temp

pub returns-in_ok-followed_by-in-None-clause-shown : goal.returns-in_ok-followed_by-in-None-clause-shown
returns-in_ok-followed_by-in-None-clause-shown c =
    IfOk-weaker c.put_below-in-None-2.result (λ p. p.shown_from ≡ shown_from (option_copied c.as_ref-in-None.result) c.in_ok-followed_by-in-None.field-0) (λ p. p.shown_from ≡ shown_from c.args.options.now.dir (reject_name (plain_options c.args.options.now) c.args.name.now))
    (λ p is. is ∙ ap (λ d. shown_from d c.in_ok-followed_by-in-None.field-0) c.as_ref-in-None.ensures.value ∙ ap (shown_from c.args.options.now.dir) (other c)) c.put_below-in-None-2.ensures.shown

pub returns-in-Some-clause-name : goal.returns-in-Some-clause-name
returns-in-Some-clause-name c =
    IfOk-weaker c.put_below.result (λ p. p.name ≡ below (option_copied c.as_ref.result) c.in-Some.reject) (λ p. p.name ≡ below c.args.options.now.dir (reject_name (plain_options c.args.options.now) c.args.name.now))
    (λ p is. is ∙ ap (λ d. below d c.in-Some.reject) c.as_ref.ensures.value ∙ ap (below c.args.options.now.dir) (given c)) c.put_below.ensures.name

pub returns-in-Some-clause-temp : goal.returns-in-Some-clause-temp
returns-in-Some-clause-temp c =
    IfOk-weaker c.put_below.result (λ p. p.temp ≡ temp_of (below (option_copied c.as_ref.result) c.in-Some.reject)) (λ p. p.temp ≡ temp_of (below c.args.options.now.dir (reject_name (plain_options c.args.options.now) c.args.name.now)))
    (λ p is. is ∙ ap (λ d. temp_of (below d c.in-Some.reject)) c.as_ref.ensures.value ∙ ap (λ n. temp_of (below c.args.options.now.dir n)) (given c)) c.put_below.ensures.temp

pub returns-in-Some-clause-shown : goal.returns-in-Some-clause-shown
returns-in-Some-clause-shown c =
    IfOk-weaker c.put_below.result (λ p. p.shown_from ≡ shown_from (option_copied c.as_ref.result) c.in-Some.reject) (λ p. p.shown_from ≡ shown_from c.args.options.now.dir (reject_name (plain_options c.args.options.now) c.args.name.now))
    (λ p is. is ∙ ap (λ d. shown_from d c.in-Some.reject) c.as_ref.ensures.value ∙ ap (shown_from c.args.options.now.dir) (given c)) c.put_below.ensures.shown

pub returns-in_ok-followed_by-in-None-clause-temporary : goal.returns-in_ok-followed_by-in-None-clause-temporary
returns-in_ok-followed_by-in-None-clause-temporary c = c.put_below-in-None-2.ensures.temporary

pub followed_by-requires : goal.followed_by-requires
followed_by-requires c = record { no_slash = refl; no_control = refl }
