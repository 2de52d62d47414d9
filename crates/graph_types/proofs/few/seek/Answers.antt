use Rattle.std.proofs.Common.{Some, slice_get, refl, sym, ap, ◌∙◌}
use Rattle.std.specs.Option.{is_some, unwrap_or}
use Rattle.std.proofs.lemmas.Bool.{eqb-true, eqb-false, ltb-true, ltb-false, false≢true}
use Rattle.std.proofs.lemmas.Option.{slice_get_read, slice_get_past}
use Rattle.graph_types.proofs.FewPairs.{place-passed}
use Rattle.graph_types.proofs.few.seek.Goals as goal

pub returns-in-Some : goal.returns-in-Some
returns-in-Some g c =
    let found = c.in-Some.ensures.lookup in
    let few = c.args.few.now in
    let stands = slice_get_read few _ c.place-at.result c.in-Some.field-0.now refl (ltb-true _ _ (sym found.0)) found.1 in
    let same = eqb-true _ _ (sym c.if-eq.ensures) in
    (c.place-at.ensures ∙ place-passed c.args.to c.args.few.now, (c.in-Some.field-0.now.1, ap (slice_get few) (sym (c.place-at.ensures ∙ place-passed c.args.to c.args.few.now)) ∙ stands ∙ ap (λ v. Some (v, c.in-Some.field-0.now.1)) same))

pub returns-in_default : goal.returns-in_default
returns-in_default g c =
    let found = c.in-Some.ensures.lookup in
    let few = c.args.few.now in
    let stands = slice_get_read few _ c.place-at.result c.in-Some.field-0.now refl (ltb-true _ _ (sym found.0)) found.1 in
    (c.place-at.ensures ∙ place-passed c.args.to c.args.few.now, λ other. eqb-false _ _ (sym c.if-eq.ensures) (ap (λ o. (unwrap_or o c.in-Some.field-0.now).0) (sym stands ∙ ap (slice_get few) (c.place-at.ensures ∙ place-passed c.args.to c.args.few.now) ∙ other.1)))

pub returns-in_default-2 : goal.returns-in_default-2
returns-in_default-2 g c =
    let few = c.args.few.now in
    let past = ltb-false _ _ (sym c.get.ensures.lookup.0 ∙ ap is_some c.in_default.is) in
    (c.place-at.ensures ∙ place-passed c.args.to c.args.few.now, λ other. false≢true (ap is_some (sym (slice_get_past few c.place-at.result past) ∙ ap (slice_get few) (c.place-at.ensures ∙ place-passed c.args.to c.args.few.now) ∙ other.1)))
