use Rattle.std.proofs.Common.{◌+◌, ◌*◌, ap, ◌∙◌, refl}
use Rattle.patch_gen.specs.Texts.{file_line}
use Rattle.patch_gen.specs.Tree.{made}
use Rattle.patch_gen.proofs.RoomLemmas.{whole}
use Rattle.patch_gen.proofs.room.patch_length.Goals as goal

pub returns : goal.returns
unfolding made
returns c = λ seed. whole seed c.args.lines c.hunks_length.result 1 c.args.files (λ x. c.hunks_length.ensures.exact (file_line x) (λ j. refl)) ∙ ap (λ k. k + c.args.files * c.hunks_length.result) c.headers_length.ensures.exact
