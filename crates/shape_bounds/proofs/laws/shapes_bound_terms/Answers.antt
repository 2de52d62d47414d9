use Rattle.shape_bounds.proofs.Terms.{least_count-le, most_count-le}
use Rattle.shape_bounds.proofs.laws.shapes_bound_terms.Goals as goal

pub returns-clause-least : goal.returns-clause-least
returns-clause-least c = λ term g simple. least_count-le g simple term

pub returns-clause-most : goal.returns-clause-most
returns-clause-most c = λ term g simple. most_count-le g simple term
