use Rattle.std.proofs.Common.{map, string_bytes}
use Rattle.patch_options.specs.PlainJob.{plain_options}
use Rattle.patch_options.specs.Words.{job_of}
use Rattle.cli_run_answers.proofs.Opens.{opens_both, opens_untouched}
use Rattle.patch_cli.proofs.Asked.{asked_behind, settle_stops, patches_stop}
use Rattle.patch_cli.proofs.opening.open.Goals as goal

pub returns-in-Ok-read_patches-clause-opens : goal.returns-in-Ok-read_patches-clause-opens
returns-in-Ok-read_patches-clause-opens g c = opens_both c.settle.ensures.opens (opens_untouched c.read_patches.ensures.untouched)

pub returns-in-Err-read_patches-clause-opens : goal.returns-in-Err-read_patches-clause-opens
returns-in-Err-read_patches-clause-opens g c = opens_both c.settle.ensures.opens (opens_untouched c.read_patches.ensures.untouched)

pub returns-in-Ok-read_patches-clause-asked : goal.returns-in-Ok-read_patches-clause-asked
returns-in-Ok-read_patches-clause-asked g c a b =
    asked_behind (g.T.Tree.view c.args.tree.now) (g.T.Tree.view c.settle.new.tree) (g.I.Source.view c.args.source.now) c.settle.ensures.opens
    (plain_options c.in_ok-options.options) c.read_patches.new.strips c.in-Ok-read_patches.set a b (c.in-Ok-read_patches.ensures.asked a b)

pub returns-in-Err-clause-refused : goal.returns-in-Err-clause-refused
returns-in-Err-clause-refused g c = settle_stops c.in-Err.why (job_of (map string_bytes c.args.words.now)) (g.T.Tree.view c.args.tree.now) (g.T.Tree.view c.settle.new.tree) (g.I.Source.view c.args.source.now)
    c.in-Err.ensures.cause.0 c.in-Err.ensures.cause.1

pub returns-in-Err-read_patches-clause-refused : goal.returns-in-Err-read_patches-clause-refused
returns-in-Err-read_patches-clause-refused g c =
    patches_stop (g.T.Tree.view c.args.tree.now) (g.T.Tree.view c.settle.new.tree) (g.I.Source.view c.args.source.now) c.settle.ensures.opens c.in-Err-read_patches.why (plain_options c.in_ok-options.options)
    (job_of (map string_bytes c.args.words.now)) c.in_ok-options.ensures.job (g.T.Tree.view c.read_patches.new.tree) (g.I.Source.view c.read_patches.new.source) c.in-Err-read_patches.ensures.refused
