use Rattle.std.proofs.Common.{◌≡◌, ◌++◌, eqb, not, map, filter}
use Rattle.std.specs.Option.{option_eq}
use Rattle.update_rules.specs.meaning.Parts.{change_to}
use Rattle.update_rules.specs.meaning.Places.{entry_at}
use Rattle.update_rules.proofs.changes.changes_since.Given as goal

abbrev pub invariant-loop-place : goal.invariant-loop-place
invariant-loop-place l =
    l.changes ++ map (λ e. change_to e.0 (entry_at l.graph e.0)) (filter (λ e. not (option_eq eqb e.1 (entry_at l.graph e.0))) l.place-iterator)
    ≡ map (λ e. change_to e.0 (entry_at l.graph e.0)) (filter (λ e. not (option_eq eqb e.1 (entry_at l.graph e.0))) l.earlier.entries)
