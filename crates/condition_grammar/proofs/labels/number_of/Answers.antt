use Rattle.std.proofs.Common.{◌≡◌, List, ℕ, length, map, rules, Bor}
use Rattle.condition_grammar.proofs.Places.{numbered-named, numbered-put, numbered-pushed, AreNew-pushed, number_in-map, map-push, length-map_is}
use Rattle.condition_grammar.proofs.labels.number_of.Goals as goal

abbrev text : Bor (List ℕ) → List ℕ
text l = l.now

pub returns-in-Some-clause-numbered : goal.returns-in-Some-clause-numbered
returns-in-Some-clause-numbered c = numbered-named c.args.names.now (map text c.args.labels.now.items) c.args.label.now c.in-Some.known c.in-Some.ensures

pub returns-in-Some-place_of-clause-numbered : goal.returns-in-Some-place_of-clause-numbered
returns-in-Some-place_of-clause-numbered c =
    let labels = c.args.labels.now.items in
    numbered-put c.args.names.now (map text labels) c.args.label.now c.count-held.result c.count-held.ensures.count c.in_default.ensures c.in-Some-place_of.place
    (number_in-map text labels c.as_slice.result.now c.args.label.now _ c.as_slice.ensures.value c.in-Some-place_of.ensures.place)

pub returns-clause-numbered : goal.returns-clause-numbered
returns-clause-numbered c =
    let labels = c.args.labels.now.items in
    numbered-pushed c.args.names.now (map text labels) c.args.label.now c.count-held.result c.count-held.ensures.count c.in_default.ensures
    (number_in-map text labels c.as_slice.result.now c.args.label.now _ c.as_slice.ensures.value c.in_default-place_of.ensures.place)
    (map text c.push.new.self.items) (map-push text labels c.push.new.self.items c.args.label c.in_ok-push.ensures.items)
    c.len-place.result (length-map_is text labels c.len-place.result (let count : c.len-place.result ≡ length labels = search rules in count))

pub returns-clause-new : goal.returns-clause-new
returns-clause-new c =
    let labels = c.args.labels.now.items in
    AreNew-pushed c.args.names.now (map text labels) c.args.label.now c.count-held.result c.count-held.ensures.count c.in_default.ensures
    (number_in-map text labels c.as_slice.result.now c.args.label.now _ c.as_slice.ensures.value c.in_default-place_of.ensures.place)
    (map text c.push.new.self.items) (map-push text labels c.push.new.self.items c.args.label c.in_ok-push.ensures.items) c.requires.form
