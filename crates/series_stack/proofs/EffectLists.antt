-- How lists of effects go on from one another: it is said of any effects.
pub use Rattle.replace_file.proofs.EffectLists.{after_all-append, leaves_after, tells_after, made_both}
