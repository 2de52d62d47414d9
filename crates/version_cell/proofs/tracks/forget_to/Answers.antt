use Rattle.std.proofs.Common.{ℕ, sym, ap, subst, ◌∙◌, rules}
use Rattle.std.specs.Cmp.{nat_cmp_total}
use Rattle.std.specs.FinMap as map
use Rattle.std.specs.Option.{is_some}
use Rattle.std.specs.Ordering.{nat_cmp}
use Rattle.version_cell.specs.meaning.Cell.{changes_of}
use Rattle.version_cell.specs.meaning.Changes.{changes_after}
use Rattle.version_cell.specs.storage.Tracks.{is_changed}
use Rattle.version_cell.proofs.Forgetting.{IsForgotten, retained}
use Rattle.version_cell.proofs.tracks.forget_to.Goals as goal

forgotten : (c : goal.After-give_back) (w : ℕ) → IsForgotten c.args.t (map.find nat_cmp w c.args.near.now.entries) (map.find nat_cmp w c.give_back.new.near.entries)
forgotten c w =
    subst (λ es. IsForgotten c.args.t (map.find nat_cmp w c.args.near.now.entries) (map.find nat_cmp w es)) (sym c.give_back.ensures)
    (retained _ _ c.args.t (λ k v b x g call. search rules) c.args.near.now.entries c.retain.new.self.entries c.retain.ensures.was_ordered c.retain.ensures.filtered w)

pub returns-clause-rest : goal.returns-clause-rest
returns-clause-rest c = λ w.
    ap changes_of (map.get-from_entries nat_cmp_total c.give_back.new.near.entries w)
    ∙ (forgotten c w).rest
    ∙ ap (λ o. changes_after (changes_of o) c.args.t) (sym (map.get-from_entries nat_cmp_total c.args.near.now.entries w))

pub returns-clause-left : goal.returns-clause-left
returns-clause-left c = λ w has.
    ap (λ o. is_changed (changes_of o)) (map.get-from_entries nat_cmp_total c.give_back.new.near.entries w)
    ∙ (forgotten c w).left (sym (ap is_some (map.get-from_entries nat_cmp_total c.give_back.new.near.entries w)) ∙ has)
