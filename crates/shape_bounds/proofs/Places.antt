-- A table of outcomes that is filled place by place.
use Rattle.std.proofs.Common.{◌≡◌, ◌≢◌, ◌≤◌, ◌<◌, ◌+◌, ◌*◌, ◌/◌, ◌%◌, ℕ, true, false, eqb, List, length, length-set, set, get_or, slice_get, Some, refl, sym, ap, ◌∙◌, arith}
use Rattle.std.proofs.lemmas.Bool.Decides.{nat_tests}
use Rattle.std.proofs.lemmas.List.{get_or-set_other, get_or-set_same}
use Rattle.std.proofs.lemmas.Option.{slice_get-get_or}
use Rattle.conditions.specs.declared.condition.Cond.{Cond}
use Rattle.shape_bounds.specs.declared.outcome.Outcome.{Outcome}
use Rattle.shape_bounds.specs.declared.outcome.Outcome.TheVariants as outcome
use Rattle.shape_bounds.specs.meaning.Outcomes.{outcome_of}
use Rattle.shape_bounds.specs.storage.Outlooks.{Foretells, places}

-- what is to stand at a place
abbrev pub outcome_at : Cond → ℕ → Outcome
outcome_at c i = outcome_of c (i / 37) (i % 37)

-- so many places are filled
pub record IsFilled (c : Cond) (outlook : List Outcome) (count : ℕ) : Type 0 where
  pub all : length outlook ≡ places
  pub told : (i : ℕ) → i < count → get_or outlook i outcome.Open ≡ outcome_at c i

pub filled-one_more : (c : Cond) (outlook : List Outcome) (place : ℕ) (at : Outcome) → place < places → at ≡ outcome_of c (place / 37) (place % 37) → IsFilled c outlook place → IsFilled c (set outlook place at) (place + 1)
filled-one_more c outlook place at within is filled = record {
  all = length-set outlook place at ∙ filled.all;
  told = λ i before.
      elim (eqb i place) as (λ b. eqb i place ≡ b → get_or (set outlook place at) i outcome.Open ≡ outcome_at c i) [
        | true ↦ λ same.
            let here : i ≡ place = grind (arith, nat_tests, same) in
            ap (λ k. get_or (set outlook place at) k outcome.Open) here
            ∙ get_or-set_same outlook place at outcome.Open (omega (arith, within, filled.all)) ∙ is ∙ ap (outcome_at c) (sym here)
        | false ↦ λ differs.
            let other : i ≢ place = grind (arith, nat_tests, differs) in
            get_or-set_other outlook place i at outcome.Open other ∙ filled.told i (omega (arith, before, other))
      ] refl;
}

row : (vertices edges : ℕ) → edges ≤ 36 → (vertices * 37 + edges) / 37 ≡ vertices
row vertices edges few = omega (arith, few)

column : (vertices edges : ℕ) → edges ≤ 36 → (vertices * 37 + edges) % 37 ≡ edges
column vertices edges few = omega (arith, few)

pub filled-foretells : (c : Cond) (outlook : List Outcome) (count : ℕ) → places ≤ count → IsFilled c outlook count → Foretells c outlook
filled-foretells c outlook count all filled = λ vertices edges few_vertices few_edges.
    let place : vertices * 37 + edges < places = omega (arith, few_vertices, few_edges) in
    slice_get-get_or outlook (vertices * 37 + edges) outcome.Open (omega (arith, place, filled.all))
    ∙ ap Some (filled.told (vertices * 37 + edges) (omega (arith, place, all)))
    ∙ (λ k. Some (outcome_of c (row vertices edges few_edges k) (column vertices edges few_edges k)))
