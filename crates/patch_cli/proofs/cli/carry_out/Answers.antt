use Rattle.std.proofs.Common.{map, string_bytes, refl, ap}
use Rattle.patch_cli.proofs.Early.{carries_early}
use Rattle.patch_cli.proofs.Carrying.{carries_cut, carries_end, carries_unsaid, not_early}
use Rattle.patch_cli.proofs.cli.carry_out.Goals as goal

pub returns-in-Err-clause-carries : goal.returns-in-Err-clause-carries
returns-in-Err-clause-carries g c = carries_early c.in-Err.ensures.opens refl refl c.in-Err.ensures.source c.in-Err.ensures.taken (λ never. ap (λ x. g.I.Source.view x) (c.in-Err.ensures.unread never))
    (c.in-Err.ensures.refused (g.C.Scratch.view c.args.scratch) (g.O.Sink.view c.args.out.now))

pub apply-applied-requires-clause-can : goal.apply-applied-requires-clause-can
apply-applied-requires-clause-can g c = (c.in-Ok.ensures.asked (g.C.Scratch.view c.args.scratch) (g.O.Sink.view c.args.out.now)).can

pub returns-in-Ok-applied-clause-carries : goal.returns-in-Ok-applied-clause-carries
returns-in-Ok-applied-clause-carries g c = carries_end (map string_bytes c.args.words.now) _ _ c.in-Ok.ensures.opens c.in-Ok.ensures.job
    (c.in-Ok.ensures.asked (g.C.Scratch.view c.args.scratch) (g.O.Sink.view c.args.out.now)) c.in-Ok.ensures.source c.in-Ok.ensures.taken (λ never. ap (λ x. g.I.Source.view x) (c.in-Ok.ensures.unread never)) c.in-Ok.ensures.read
    (record { first = c.in-Ok-say_stripping.ensures.writes.received; passes = c.in-Ok-say_stripping.ensures.writes.call.passes; still = λ none. ap (λ x. g.O.Sink.view x) (c.in-Ok-say_stripping.ensures.still none) })
    c.apply-applied.result.0 c.in-Ok-applied.applied c.bad_if.result c.has_damaged-is_damaged.result c.has_damaged-is_damaged.ensures c.bad_if.ensures c.in-Ok-applied.is c.apply-applied.ensures.finishes

pub returns-in-Err-applied-clause-carries : goal.returns-in-Err-applied-clause-carries
returns-in-Err-applied-clause-carries g c = carries_cut (map string_bytes c.args.words.now) _ _ c.in-Ok.ensures.opens c.in-Ok.ensures.job
    (c.in-Ok.ensures.asked (g.C.Scratch.view c.args.scratch) (g.O.Sink.view c.args.out.now)) c.in-Ok.ensures.source c.in-Ok.ensures.taken (λ never. ap (λ x. g.I.Source.view x) (c.in-Ok.ensures.unread never)) c.in-Ok.ensures.read
    (record { first = c.in-Ok-say_stripping.ensures.writes.received; passes = c.in-Ok-say_stripping.ensures.writes.call.passes; still = λ none. ap (λ x. g.O.Sink.view x) (c.in-Ok-say_stripping.ensures.still none) })
    c.apply-applied.result.0 c.in-Err-applied.fault c.from.result c.in-Err-applied.is c.from.ensures c.apply-applied.ensures.finishes

pub returns-in-Err-applied-clause-early_out : goal.returns-in-Err-applied-clause-early_out
returns-in-Err-applied-clause-early_out g c early = absurd (not_early c.in-Err-applied.fault c.from.result c.from.ensures early)

pub returns-in-Err-applied-clause-early_scratch : goal.returns-in-Err-applied-clause-early_scratch
returns-in-Err-applied-clause-early_scratch g c early = absurd (not_early c.in-Err-applied.fault c.from.result c.from.ensures early)

pub returns-in-Err-say_stripping-clause-carries : goal.returns-in-Err-say_stripping-clause-carries
returns-in-Err-say_stripping-clause-carries g c = carries_unsaid (map string_bytes c.args.words.now) _ _ c.in-Ok.ensures.opens c.in-Ok.ensures.job
    (c.in-Ok.ensures.asked (g.C.Scratch.view c.args.scratch) (g.O.Sink.view c.args.out.now)) c.in-Ok.ensures.source c.in-Ok.ensures.taken (λ never. ap (λ x. g.I.Source.view x) (c.in-Ok.ensures.unread never)) c.in-Ok.ensures.read
    refl refl c.in-Err-say_stripping.ensures.writes.call.passes (c.in-Err-say_stripping.ensures.writes.call.cause refl) c.in-Err-say_stripping.ensures.writes.failed c.in-Err-say_stripping.ensures.some
