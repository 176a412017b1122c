use Rattle.mem_world.specs.Log.{notes, event_of}
use Rattle.mem_world.proofs.Matching.{keeps_files, keeps_numbers}
use Rattle.mem_world.proofs.store.Store.note.Goals as goal

pub invariant_of-self : goal.invariant_of-self
invariant_of-self c =
    let self = c.args.self.now in
    record {
      matches = keeps_files self.files.items (notes self.log.items) (notes c.keep.new.log.items) self.calls (event_of c.args.change) _ c.keep.ensures c.requires self.matches;
      numbered = keeps_numbers (notes self.log.items) (notes c.keep.new.log.items) self.calls (event_of c.args.change) _ c.keep.ensures self.numbered;
    }
