use Rattle.std.proofs.Common.{◌+◌, map, sym, ap, subst, ◌∙◌, arith, Ok, ◌≡◌, ℕ}
use Rattle.std.specs.List.{range_with_len}
use Rattle.outside.specs.Files.{is_temp, temp_of}
use Rattle.outside.specs.declared.Failed.{Failed}
use Rattle.cli_tool_words.specs.PlainJobs.{plain_gen_job}
use Rattle.cli_gen.specs.Command.{file_put, file_puts}
use Rattle.cli_gen.specs.Putting.{PutsAll}
use Rattle.patch_gen.specs.Tree.{made_file}
use Rattle.cli_gen.proofs.FileNames.{count_of, at_number, place_count, name_at, temp_at, lasting_at}
use Rattle.cli_gen.proofs.PutSteps.{puts_none, puts_more, puts_cut, files_more, files_all, same_put, others}
use Rattle.cli_gen.proofs.putting.put_files.Goals as goal

pub loop-done-init : goal.loop-done-init
loop-done-init g c = puts_none tt (g.T.Tree.view c.args.tree.now) c.requires.quiet

pub bounds-places-k : goal.bounds-places-k
bounds-places-k g c = omega (arith, c.loop-done-test.true, place_count c.args.places.now c.args.job.files c.requires.made.named)

pub bounds-files-k : goal.bounds-files-k
bounds-files-k g c = omega (arith, c.loop-done-test.true, count_of (λ v. v.items) (made_file c.args.job.seed c.args.job.lines) c.args.files.now c.args.job.files c.requires.made.bytes)

pub put_file-requires-clause-temp : goal.put_file-requires-clause-temp
put_file-requires-clause-temp g c = ap (λ p. p.temp) c.index-places-k.is ∙ temp_at c.args.places.now c.args.job.files c.loop-done.done c.index-places-k.result c.requires.made.named c.loop-done-test.true ∙ ap (λ p. temp_of p.name) (sym c.index-places-k.is)

pub put_file-requires-clause-lasting : goal.put_file-requires-clause-lasting
put_file-requires-clause-lasting g c = ap (λ p. is_temp p.name) c.index-places-k.is ∙ lasting_at c.args.places.now c.args.job.files c.loop-done.done c.index-places-k.result c.requires.made.named c.loop-done-test.true

pub returns-in_err-put_file : goal.returns-in_err-put_file
returns-in_err-put_file g c =
    let j = plain_gen_job c.args.job in
    let n = c.loop-done.done in
    let name = ap (λ p. p.name) c.index-places-k.is ∙ name_at c.args.places.now c.args.job.files n c.index-places-k.result c.requires.made.named c.loop-done-test.true in
    let held = c.index-files-k.result in
    let bytes = c.as_slice.ensures.value ∙ ap (λ v. v.items) c.index-files-k.is ∙ at_number (λ v. v.items) (made_file c.args.job.seed c.args.job.lines) c.args.files.now c.args.job.files n held c.requires.made.bytes c.loop-done-test.true in
    puts_cut (map (file_put j) (range_with_len 1 n)) (g.T.Tree.view c.args.tree.now) (g.T.Tree.view c.loop-done.tree) (g.T.Tree.view c.put_file.new.tree) c.loop-done.invariant (file_put j (n + 1)) (others j n) (file_puts j)
    (files_all j n c.loop-done-test.true) c.in_err-put_file.field-0.0 (same_put j (n + 1) _ _ name bytes c.in_err-put_file.ensures) c.from_residual.result c.from_residual.ensures.0

pub loop-done-preserved : goal.loop-done-preserved
loop-done-preserved g c =
    let j = plain_gen_job c.args.job in
    let n = c.loop-done.done in
    let name = ap (λ p. p.name) c.index-places-k.is ∙ name_at c.args.places.now c.args.job.files n c.index-places-k.result c.requires.made.named c.loop-done-test.true in
    let held = c.index-files-k.result in
    let bytes = c.as_slice.ensures.value ∙ ap (λ v. v.items) c.index-files-k.is ∙ at_number (λ v. v.items) (made_file c.args.job.seed c.args.job.lines) c.args.files.now c.args.job.files n held c.requires.made.bytes c.loop-done-test.true in
    subst (λ es. PutsAll {R = Unit {0}} {E = Failed} es (g.T.Tree.view c.args.tree.now) (g.T.Tree.view c.put_file.new.tree) (Ok tt)) (files_more j n)
    (puts_more (map (file_put j) (range_with_len 1 n)) (g.T.Tree.view c.args.tree.now) (g.T.Tree.view c.loop-done.tree) (g.T.Tree.view c.put_file.new.tree) c.loop-done.invariant (file_put j (n + 1))
    c.in_ok-put_file.field-0 (same_put j (n + 1) _ _ name bytes c.in_ok-put_file.ensures))

pub returns : goal.returns
returns g c = let all : c.loop-done.done ≡ c.args.job.files = omega (arith, c.loop-done-test.false, c.loop-done.auto.done-end) in subst (λ (n : ℕ). PutsAll {R = Unit {0}} {E = Failed} (map (file_put (plain_gen_job c.args.job)) (range_with_len 1 n)) (g.T.Tree.view c.args.tree.now) (g.T.Tree.view c.loop-done.tree) (Ok tt)) all c.loop-done.invariant

pub put_file-requires-clause-quiet : goal.put_file-requires-clause-quiet
put_file-requires-clause-quiet g c = c.loop-done.invariant.quiet
