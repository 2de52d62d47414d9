use Rattle.std.proofs.Common.{map, refl, ap, ◌∙◌}
use Rattle.std.proofs.lemmas.Result.{err_from_is_err_and}
use Rattle.line_fields.proofs.Numbers.{slice_get-number_in, number_in-keys, number_in-missed, room-missed, interned-known, interned-missed_full, AreNames-put, interned-put, slice_get-put}
use Rattle.line_fields.proofs.names.Names.intern.Goals as goal

pub returns-in-Some-clause-interns : goal.returns-in-Some-clause-interns
returns-in-Some-clause-interns c =
    interned-known c.args.self.now c.args.name.now c.in-Some.place
    (number_in-keys (λ name. name.items) c.self.inside.names.keys c.args.self.now c.args.name.now _ c.self.view_is c.in-Some.ensures.index)

pub returns-in-Some-clause-named : goal.returns-in-Some-clause-named
returns-in-Some-clause-named c =
    slice_get-number_in c.args.self.now c.args.name.now c.in-Some.place
    (number_in-keys (λ name. name.items) c.self.inside.names.keys c.args.self.now c.args.name.now _ c.self.view_is c.in-Some.ensures.index)

pub returns-then-place-ge-MOST_NAMES-clause-interns : goal.returns-then-place-ge-MOST_NAMES-clause-interns
returns-then-place-ge-MOST_NAMES-clause-interns c = (
  refl,
  interned-missed_full (λ name. name.items) c.self.inside.names.keys c.args.self.now c.args.name.now c.get_index_of.result c.len-place.result
      c.self.view_is c.get_index_of.ensures.index (cc) c.len-place.ensures.len
      c.if-place-ge-MOST_NAMES.true,
)

pub returns-in_err-add-clause-interns : goal.returns-in_err-add-clause-interns
returns-in_err-add-clause-interns c =
    let p = err_from_is_err_and c.from_residual.result c.from_residual.ensures.1 in
    rw (p.1, p.2) (
      ap (map (λ name. name.items)) c.in_err-add.ensures.unchanged ∙ c.self.view_is,
      number_in-missed (λ name. name.items) c.self.inside.names.keys c.args.self.now c.args.name.now c.get_index_of.result c.len-place.result
          c.self.view_is c.get_index_of.ensures.index (cc) c.len-place.ensures.len,
      room-missed (λ name. name.items) c.self.inside.names.keys c.args.self.now c.args.name.now c.get_index_of.result c.len-place.result
          c.self.view_is c.get_index_of.ensures.index (cc) c.len-place.ensures.len c.if-place-ge-MOST_NAMES.false,
    )

pub invariant_of-self-2 : goal.invariant_of-self-2
invariant_of-self-2 c =
    AreNames-put (λ name. name.items) c.self.inside.names.keys c.args.self.now c.args.name.now c.get_index_of.result c.len-place.result
    c.self.view_is c.get_index_of.ensures.index (cc) c.len-place.ensures.len c.add.new.names.keys c.in_ok-add.ensures.added
    c.self.invariant c.if-place-ge-MOST_NAMES.false c.requires

pub returns-clause-interns : goal.returns-clause-interns
returns-clause-interns c =
    interned-put (λ name. name.items) c.self.inside.names.keys c.args.self.now c.args.name.now c.get_index_of.result c.len-place.result
    c.self.view_is c.get_index_of.ensures.index (cc) c.len-place.ensures.len c.add.new.names.keys c.in_ok-add.ensures.added
    c.if-place-ge-MOST_NAMES.false

pub returns-clause-named : goal.returns-clause-named
returns-clause-named c =
    slice_get-put (λ name. name.items) c.self.inside.names.keys c.args.self.now c.args.name.now c.get_index_of.result c.len-place.result
    c.self.view_is c.get_index_of.ensures.index (cc) c.len-place.ensures.len c.add.new.names.keys c.in_ok-add.ensures.added
