-- The entries of a `BTreeMap`, seen as a finite map.
pub use Rattle.shared_lemmas.proofs.OrderedMaps.{get-seen, insert-seen, written-seen, remove-seen, entries-seen, keys-seen, len-removed, popped-seen, nothing-left, none_from}
