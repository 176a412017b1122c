use Rattle.std.proofs.Common.{◌≡◌, suc, false, true, sym, ap, subst, ◌∙◌}
use Rattle.std.proofs.lemmas.Option.{same_Some}
use Rattle.outside.specs.Puts.{Puts}
use Rattle.outside.proofs.SinkSteps.{has-none, puts-done}
use Rattle.read_patch_text.specs.Digests.{IsDigest}
use Rattle.cli_tool_words.specs.PlainJobs.{plain_filter_job}
use Rattle.patch_filters.specs.Filtered.{is_taken_of}
use Rattle.patch_filters.specs.Digested.{digest_written}
use Rattle.patch_filters.proofs.filter.put_if_taken.Goals as goal

pub put_written-requires : goal.put_written-requires
put_written-requires g c = subst (λ t. IsDigest t c.patch_at.result.now c.olds.result.now) (sym c.text.ensures) (c.patch_at.ensures.digest c.olds.result.now c.olds.ensures)

pub returns-then-not-is_taken : goal.returns-then-not-is_taken
returns-then-not-is_taken g c = λ p is own also.
    let left_out : is_taken_of (plain_filter_job c.args.job.now) c.args.digest.now.text (suc c.args.patch, p) ≡ false = sym (c.is_taken.ensures p is) ∙ c.if-not-is_taken.true in
    rw left_out (puts-done _ (has-none g.met.O.Sink.rest_none c.args.out.now))

pub returns : goal.returns
returns g c = λ p is own also.
    let j = plain_filter_job c.args.job.now in
    let v = c.args.digest.now in
    let taken : is_taken_of j v.text (suc c.args.patch, p) ≡ true = sym (c.is_taken.ensures p is) ∙ c.if-not-is_taken.false in
    let same = same_Some _ p (sym c.patch_at.ensures.is ∙ is) in
    let olds = same_Some _ own (sym c.olds.ensures ∙ also) in
    rw taken (subst (Puts g.O.Sink.view g.O.Sink.same_rest c.args.out.now c.put_written.new.out c.put_written.result)
    (ap (λ t. digest_written j t c.patch_at.result.now c.olds.result.now) c.text.ensures ∙ ap (λ q. digest_written j v.text q c.olds.result.now) same ∙ ap (digest_written j v.text p) olds) c.put_written.ensures)

pub is_taken-requires-clause-within : goal.is_taken-requires-clause-within
is_taken-requires-clause-within g c = c.requires.within

pub is_taken-requires-clause-few : goal.is_taken-requires-clause-few
is_taken-requires-clause-few g c = c.requires.few

pub patch_at-requires : goal.patch_at-requires
patch_at-requires g c = c.requires.within

pub olds-requires : goal.olds-requires
olds-requires g c = c.requires.within
