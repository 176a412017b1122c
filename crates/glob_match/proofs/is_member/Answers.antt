use Rattle.std.proofs.Common.{◌≡◌, ◌≢◌, ◌<◌, ◌-◌, ◌+◌, ◌&&◌, leb, false, get_or, length, sym, ◌∙◌, arith}
use Rattle.glob_match.proofs.MemberLemmas.{range-yes, range-no, below-no, above-no, one-yes, one-no, none-at}
use Rattle.glob_match.proofs.is_member.Goals as goal
use Rattle.glob_match.proofs.is_member.Goals.{else-members-at-via-then-members-at+else-byte-members, else-members-at-via-else-members-at, else-members-at-gt2-via-then-members-at-gt2+else-members-at-eq45, else-members-at-gt2-via-else-members-at-gt2}

pub returns-then-byte-members : goal.returns-then-byte-members
returns-then-byte-members c =
    sym (sym c.loop-at.invariant.same ∙ range-yes c.args.members.now c.loop-at.at c.args.byte c.if-members-at-gt2.true c.if-members-at-eq45.true c.if-members-at.true c.if-byte-members.true)

pub loop-at-preserved-then-members-at-eq45 : goal.loop-at-preserved-then-members-at-eq45
loop-at-preserved-then-members-at-eq45 c =
    let lo = get_or c.args.members.now c.loop-at.at 0 in
    let hi = get_or c.args.members.now (c.loop-at.at + 2) 0 in
    let outside : (leb lo c.args.byte && leb c.args.byte hi) ≡ false =
    elim c.else-members-at.branch [
      | else-members-at-via-then-members-at+else-byte-members w ↦ above-no lo hi c.args.byte w.if-byte-members.false
      | else-members-at-via-else-members-at w ↦ below-no lo hi c.args.byte w.if-members-at.false
    ] in
    record { high = omega arith; same = sym (range-no c.args.members.now c.loop-at.at c.args.byte c.if-members-at-gt2.true c.if-members-at-eq45.true outside) ∙ c.loop-at.invariant.same }

pub returns-then-members-at-2 : goal.returns-then-members-at-2
returns-then-members-at-2 c =
    let plain : 2 < length c.args.members.now - c.loop-at.at → get_or c.args.members.now (c.loop-at.at + 1) 0 ≢ 45 =
    elim c.else-members-at-gt2.branch [
      | else-members-at-gt2-via-then-members-at-gt2+else-members-at-eq45 w ↦ λ lt. w.if-members-at-eq45.false
      | else-members-at-gt2-via-else-members-at-gt2 w ↦ λ lt. absurd (omega (arith, lt, w.if-members-at-gt2.false))
    ] in
    sym (sym c.loop-at.invariant.same ∙ one-yes c.args.members.now c.loop-at.at c.args.byte c.loop-at-test.true plain c.if-members-at-2.true)

pub loop-at-preserved : goal.loop-at-preserved
loop-at-preserved c =
    let plain : 2 < length c.args.members.now - c.loop-at.at → get_or c.args.members.now (c.loop-at.at + 1) 0 ≢ 45 =
    elim c.else-members-at-gt2.branch [
      | else-members-at-gt2-via-then-members-at-gt2+else-members-at-eq45 w ↦ λ lt. w.if-members-at-eq45.false
      | else-members-at-gt2-via-else-members-at-gt2 w ↦ λ lt. absurd (omega (arith, lt, w.if-members-at-gt2.false))
    ] in
    record { high = omega arith; same = sym (one-no c.args.members.now c.loop-at.at c.args.byte c.loop-at-test.true plain c.if-members-at-2.false) ∙ c.loop-at.invariant.same }

pub returns : goal.returns
returns c = sym (sym c.loop-at.invariant.same ∙ none-at c.args.members.now c.loop-at.at c.args.byte c.loop-at-test.false)

pub bounds-members-at-then-members-at : goal.bounds-members-at-then-members-at
bounds-members-at-then-members-at c = omega arith

pub bounds-members-at-then-members-at-eq45 : goal.bounds-members-at-then-members-at-eq45
bounds-members-at-then-members-at-eq45 c = omega arith

pub loop-at-smaller-then-members-at-eq45 : goal.loop-at-smaller-then-members-at-eq45
loop-at-smaller-then-members-at-eq45 c = omega arith
