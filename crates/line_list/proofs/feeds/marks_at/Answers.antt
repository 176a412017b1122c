use Rattle.std.proofs.Common.{◌≡◌, ◌↔◌, ◌+◌, eqb, get_or, drop, take, subst, sym, arith, w8}
use Rattle.std.specs.Int.{bit_at}
use Rattle.std.proofs.lemmas.Simd.{bitmask_splat, length-chunk}
use Rattle.line_list.proofs.FeedLemmas.{compared}
use Rattle.line_list.proofs.feeds.marks_at.Goals as goal

pub returns : goal.returns
returns c =
    let text = c.args.text.now in
    let at = c.args.at in
    record {
      within = c.requires;
      each = λ k l. subst (λ m. (bit_at m k ≡ 1) ↔ (get_or text (at + k) 0 ≡ 10))
          (sym (bitmask_splat w8 eqb (take 64 (drop at text)) 64 10 (length-chunk at 64 text c.requires) (omega arith))) (compared text at k l);
    }
