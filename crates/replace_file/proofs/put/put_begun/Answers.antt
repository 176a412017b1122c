use Rattle.std.proofs.Common.{◌≡◌, true, ℕ, List, sym, subst}
use Rattle.outside.specs.Calls.{IsThere}
use Rattle.outside.specs.Files.{bytes_at}
use Rattle.replace_file.specs.Puts.{Puts}
use Rattle.replace_file.proofs.Putting.{puts_after}
use Rattle.replace_file.proofs.Runs.{bytes_stay}
use Rattle.replace_file.proofs.put.put_begun.Goals as goal

pub seal-requires : goal.seal-requires
seal-requires g c = c.requires.there

pub swap-requires-clause-there : goal.swap-requires-clause-there
swap-requires-clause-there g c = subst (λ n. IsThere (g.T.Tree.view c.seal.new.tree) n) (sym c.in_ok-sealed.ensures.name) c.in_ok-sealed.ensures.there

pub swap-requires-clause-sealed : goal.swap-requires-clause-sealed
swap-requires-clause-sealed g c = subst (λ n. (g.T.Tree.view c.seal.new.tree).is_sealed n ≡ true) (sym c.in_ok-sealed.ensures.name) c.in_ok-sealed.ensures.sealed

pub swap-requires-clause-lasting : goal.swap-requires-clause-lasting
swap-requires-clause-lasting g c = c.requires.lasting

pub swap-requires-clause-quiet : goal.swap-requires-clause-quiet
swap-requires-clause-quiet g c = (c.seal.ensures.works c.requires.quiet).quiet

pub returns : goal.returns
returns g c =
    let u = g.T.Tree.view c.args.tree.now in
    let w = g.T.Tree.view c.seal.new.tree in
    let x = g.T.Tree.view c.swap.new.tree in
    let temp = c.args.begun.name.now in
    let to = c.args.to.now in
    let puts : Puts w x c.swap.result temp to (λ f. bytes_at f temp) = subst (λ (n : List ℕ). Puts w x c.swap.result n to (λ f. bytes_at f n)) c.in_ok-sealed.ensures.name c.swap.ensures.puts in
    puts_after u w temp c.args.begun.temporary (c.seal.ensures.works c.requires.quiet) c.seal.ensures.seals c.swap.result x to (λ f. bytes_at f temp) (bytes_stay u w temp c.in_ok-sealed.ensures.ok) puts
