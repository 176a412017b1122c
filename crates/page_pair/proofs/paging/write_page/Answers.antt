use Rattle.std.proofs.Common.{◌≡◌, ◌-◌, ◌++◌, Some, ap, ◌∙◌, length, refl}
use Rattle.std.specs.Prelude.{replicate}
use Rattle.line_store.specs.declared.Half.TheVariants.{Second}
use Rattle.outside.specs.ScratchView.{overwritten}
use Rattle.page_pair.specs.Pair.{page_of}
use Rattle.page_pair.proofs.Records.{page-padded, over-end}
use Rattle.page_pair.proofs.Pieces.{reaches}
use Rattle.page_pair.proofs.paging.write_page.Goals as goal

pub returns-in-Ok : goal.returns-in-Ok
returns-in-Ok g c = record {
  written = λ bytes told. let size : c.size-size.result ≡ c.args.pair.now.size = c.size-size.ensures.size in
      c.in-Ok.ensures.ok bytes told
      ∙ ap Some (over-end bytes c.page.result.now c.args.at (c.requires.behind bytes told)
      ∙ ap (λ p. bytes ++ p) (c.page.ensures.is ∙ c.put_zeros.ensures.second
      ∙ ap (λ n. overwritten (page_of c.args.pair.now Second) c.args.filled (replicate (n - c.args.filled) 0)) size
      ∙ page-padded (page_of c.args.pair.now Second) c.args.filled c.args.pair.now.size c.size-size.ensures.pair.second c.requires.filled));
  size = c.put_zeros.ensures.size;
  first = c.put_zeros.ensures.first;
  passes = c.write_at.ensures.call.passes;
  cause = tt;
}

pub write_at-requires : goal.write_at-requires
write_at-requires g c bytes told = reaches (length bytes) c.args.at (c.requires.behind bytes told)

pub returns-in-Err : goal.returns-in-Err
returns-in-Err g c = record {
  size = c.put_zeros.ensures.size;
  first = c.put_zeros.ensures.first;
  passes = c.write_at.ensures.call.passes;
  written = tt;
  cause = c.in-Err.ensures.call.cause refl;
}
