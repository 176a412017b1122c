use Rattle.std.proofs.Common.{◌≡◌, ◌∙◌, List, [], length, Some, OnOk, OnErr, refl, sym, ap, subst}
use Rattle.outside.proofs.Exits.{on_ok_none}
use Rattle.outside.specs.FinderView.{finder_passes_none, finder_passes_both}
use Rattle.std.specs.Prelude.{◌==◌, is_some, string_bytes}
use Rattle.outside.specs.SinkView.{Receives, ReceivesPart, sink_passes_none}
use Rattle.outside.proofs.Writing.{received_none}
use Rattle.read_file_patch.specs.declared.FilePatch.{FilePatch}
use Rattle.cli_tool_words.specs.PlainJobs.{plain_grep_job}
use Rattle.patch_filters.specs.Grepped.{grepped, test_of}
use Rattle.patch_filters.proofs.Finding.{find-cause, none-part, pattern-cause, test-is}
use Rattle.patch_filters.proofs.Hits.{grepped-none, has-none-in, is-empty}
use Rattle.patch_filters.proofs.grep.grep_patches.Goals as goal

pub put_grepped-requires : goal.put_grepped-requires
put_grepped-requires g c = record { kept = ap is_some c.in_ok-keep_pattern.ensures.kept }

pub returns-clause-received : goal.returns-clause-received
returns-clause-received g c =
    let old = g.F.Finder.view c.args.finder.now in
    let new = g.F.Finder.view c.keep_pattern.new.finder in
    let hit : test_of new ≡ old.hit (string_bytes c.args.job.now.pattern) = test-is (string_bytes c.args.job.now.pattern) c.in_ok-keep_pattern.ensures.passes (c.in_ok-keep_pattern.ensures.kept ∙ ap (λ p. Some p) c.deref.ensures) in
    subst (λ t. OnOk c.put_grepped.result (Receives (g.O.Sink.view c.args.out.now) (g.O.Sink.view c.put_grepped.new.out) (grepped t (plain_grep_job c.args.job.now) c.args.set.now))) hit c.put_grepped.ensures.received

pub returns-clause-failed : goal.returns-clause-failed
returns-clause-failed g c =
    let old = g.F.Finder.view c.args.finder.now in
    let new = g.F.Finder.view c.keep_pattern.new.finder in
    let hit : test_of new ≡ old.hit (string_bytes c.args.job.now.pattern) = test-is (string_bytes c.args.job.now.pattern) c.in_ok-keep_pattern.ensures.passes (c.in_ok-keep_pattern.ensures.kept ∙ ap (λ p. Some p) c.deref.ensures) in
    subst (λ t. OnErr c.put_grepped.result (ReceivesPart (g.O.Sink.view c.args.out.now) (g.O.Sink.view c.put_grepped.new.out) (grepped t (plain_grep_job c.args.job.now) c.args.set.now))) hit c.put_grepped.ensures.failed

pub returns-clause-cause : goal.returns-clause-cause
returns-clause-cause g c = find-cause g.O.Sink.view (g.F.Finder.view c.args.finder.now) (string_bytes c.args.job.now.pattern) c.put_grepped.result c.args.out.now c.put_grepped.new.out c.put_grepped.ensures.cause

pub returns-clause-unasked : goal.returns-clause-unasked
returns-clause-unasked g c = λ none.
    absurd (has-none-in c.args.set.now.patches (sym (c.is_empty.ensures ∙ ap (λ (l : List FilePatch). length l == 0) c.patches.ensures.patches) ∙ c.if-is_empty.false) none)

pub returns-in_err-keep_pattern-clause-failed : goal.returns-in_err-keep_pattern-clause-failed
returns-in_err-keep_pattern-clause-failed g c =
    none-part c.from_residual.result (g.O.Sink.view c.args.out.now) (grepped ((g.F.Finder.view c.args.finder.now).hit (string_bytes c.args.job.now.pattern)) (plain_grep_job c.args.job.now) c.args.set.now)

pub returns-in_err-keep_pattern-clause-cause : goal.returns-in_err-keep_pattern-clause-cause
returns-in_err-keep_pattern-clause-cause g c =
    pattern-cause g.O.Sink.view (g.F.Finder.view c.args.finder.now) (string_bytes c.args.job.now.pattern) c.from_residual.result c.in_err-keep_pattern.field-0.0 c.args.out.now c.from_residual.ensures.1 (rw (sym c.deref.ensures) c.in_err-keep_pattern.ensures.cause)

pub returns-in_err-keep_pattern-clause-unasked : goal.returns-in_err-keep_pattern-clause-unasked
returns-in_err-keep_pattern-clause-unasked g c = λ none.
    absurd (has-none-in c.args.set.now.patches (sym (c.is_empty.ensures ∙ ap (λ (l : List FilePatch). length l == 0) c.patches.ensures.patches) ∙ c.if-is_empty.false) none)

pub returns-then-is_empty-clause-received : goal.returns-then-is_empty-clause-received
returns-then-is_empty-clause-received g c =
    let v = c.args.set.now in
    let none : v.patches ≡ [] = is-empty v.patches (sym (c.is_empty.ensures ∙ ap (λ (l : List FilePatch). length l == 0) c.patches.ensures.patches) ∙ c.if-is_empty.true) in
    subst (Receives (g.O.Sink.view c.args.out.now) (g.O.Sink.view c.args.out.now)) (grepped-none ((g.F.Finder.view c.args.finder.now).hit (string_bytes c.args.job.now.pattern)) (plain_grep_job c.args.job.now) v none) (received_none (g.O.Sink.view c.args.out.now))

pub returns-in_err-keep_pattern-clause-finder : goal.returns-in_err-keep_pattern-clause-finder
returns-in_err-keep_pattern-clause-finder g c = c.keep_pattern.ensures.passes

pub returns-in_err-keep_pattern-clause-passes : goal.returns-in_err-keep_pattern-clause-passes
returns-in_err-keep_pattern-clause-passes g c = sink_passes_none (g.O.Sink.view c.args.out.now)

pub returns-in_err-keep_pattern-clause-rest : goal.returns-in_err-keep_pattern-clause-rest
returns-in_err-keep_pattern-clause-rest g c = g.met.O.Sink.rest_none c.args.out.now

pub returns-in_err-keep_pattern-clause-received : goal.returns-in_err-keep_pattern-clause-received
returns-in_err-keep_pattern-clause-received g c = on_ok_none _ _ c.from_residual.result c.from_residual.ensures.1

pub returns-then-is_empty-clause-finder : goal.returns-then-is_empty-clause-finder
returns-then-is_empty-clause-finder g c = finder_passes_none (g.F.Finder.view c.args.finder.now)

pub returns-then-is_empty-clause-passes : goal.returns-then-is_empty-clause-passes
returns-then-is_empty-clause-passes g c = sink_passes_none (g.O.Sink.view c.args.out.now)

pub returns-then-is_empty-clause-rest : goal.returns-then-is_empty-clause-rest
returns-then-is_empty-clause-rest g c = g.met.O.Sink.rest_none c.args.out.now

pub returns-then-is_empty-clause-failed : goal.returns-then-is_empty-clause-failed
returns-then-is_empty-clause-failed g c = tt

pub returns-then-is_empty-clause-cause : goal.returns-then-is_empty-clause-cause
returns-then-is_empty-clause-cause g c = tt

pub returns-then-is_empty-clause-unasked : goal.returns-then-is_empty-clause-unasked
returns-then-is_empty-clause-unasked g c = λ none. (refl, refl, refl)

pub returns-clause-passes : goal.returns-clause-passes
returns-clause-passes g c = c.put_grepped.ensures.passes

pub returns-clause-rest : goal.returns-clause-rest
returns-clause-rest g c = c.put_grepped.ensures.rest

pub returns-clause-finder : goal.returns-clause-finder
returns-clause-finder g c = finder_passes_both c.keep_pattern.ensures.passes c.put_grepped.ensures.finder.passes
