use Rattle.outside.proofs.Exits.{if_ok_none}
use Rattle.std.proofs.Common.{◌≡◌, List, ℕ, refl, ap, sym, ◌∙◌}
use Rattle.outside.specs.Files.{temp_of}
use Rattle.patch_options.specs.PlainJob.{PlainOptions, plain_options}
use Rattle.read_file_patch.specs.Targets.{backup_name, below, reject_name, shown_from, target_of}
use Rattle.read_file_patch.proofs.derived.Target.new.Goals as goal

pub returns-in_err-backup-clause-names : goal.returns-in_err-backup-clause-names
returns-in_err-backup-clause-names c = if_ok_none _ _ c.from_residual-in_err-backup.result c.from_residual-in_err-backup.ensures.1

pub returns-in_err-backup-clause-temps : goal.returns-in_err-backup-clause-temps
returns-in_err-backup-clause-temps c = if_ok_none _ _ c.from_residual-in_err-backup.result c.from_residual-in_err-backup.ensures.1

pub returns-in_err-reject-clause-names : goal.returns-in_err-reject-clause-names
returns-in_err-reject-clause-names c = if_ok_none _ _ c.from_residual-in_err-reject.result c.from_residual-in_err-reject.ensures.1

pub returns-in_err-reject-clause-temps : goal.returns-in_err-reject-clause-temps
returns-in_err-reject-clause-temps c = if_ok_none _ _ c.from_residual-in_err-reject.result c.from_residual-in_err-reject.ensures.1

pub returns-clause-temps : goal.returns-clause-temps
returns-clause-temps c = record { own = c.in_ok-own.ensures.temporary; backup = c.in_ok-backup.ensures.temporary; reject = c.in_ok-reject.ensures.temporary }

pub backup_of-requires : goal.backup_of-requires
backup_of-requires c = c.requires

made : (o : PlainOptions) (given : List ℕ) (number front behind : ℕ) (name temp backup backup_temp reject reject_temp : List ℕ)
    → name ≡ below o.dir given → temp ≡ temp_of (below o.dir given) → front ≡ shown_from o.dir given
    → backup ≡ below o.dir (backup_name o given) → backup_temp ≡ temp_of (below o.dir (backup_name o given))
    → reject ≡ below o.dir (reject_name o given) → reject_temp ≡ temp_of (below o.dir (reject_name o given)) → behind ≡ shown_from o.dir (reject_name o given)
    → target_of o given number
    ≡ record {
      number = number;
      shown_from = front;
      reject_shown_from = behind;
      name = name;
      temp = temp;
      backup = backup;
      backup_temp = backup_temp;
      reject = reject;
      reject_temp = reject_temp;
    }
made o given number front behind name temp backup backup_temp reject reject_temp a b d e f g h i = rw (a, b, d, e, f, g, h, i) refl

pub returns-clause-names : goal.returns-clause-names
returns-clause-names c =
    let name = c.args.name.now in
    let own = c.in_ok-own.own in
    let backup = c.in_ok-backup.backup in
    let reject = c.in_ok-reject.reject in
    let dir = c.as_ref.ensures.value in
    sym (made (plain_options c.args.options.now) name c.args.number own.shown_from reject.shown_from own.name own.temp backup.name backup.temp reject.name reject.temp
    (c.in_ok-own.ensures.name ∙ ap (λ d. below d name) dir) (c.in_ok-own.ensures.temp ∙ ap (λ d. temp_of (below d name)) dir) (c.in_ok-own.ensures.shown ∙ ap (λ d. shown_from d name) dir)
    c.in_ok-backup.ensures.name c.in_ok-backup.ensures.temp c.in_ok-reject.ensures.name c.in_ok-reject.ensures.temp c.in_ok-reject.ensures.shown)
