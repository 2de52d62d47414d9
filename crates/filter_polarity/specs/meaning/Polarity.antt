-- Which conditions pass from a picture to each part of it, by their form.
use Rattle.std.specs.Prelude.{Bool, true, false, ◌&&◌, List}
use Rattle.std.specs.List.{list_all}
use Rattle.graph_types.specs.declared.ids.Mode.{Mode}
use Rattle.graph_types.specs.declared.ids.Mode.TheVariants as mode
use Rattle.conditions.specs.declared.condition.Cond.{Cond, fold-Cond}
use Rattle.conditions.specs.declared.condition.Cond.TheOpen.{Cond-F, True, False, Compare, Not, And, Or, Shape}
use Rattle.conditions.specs.declared.condition.Factor.{Factor}
use Rattle.conditions.specs.declared.condition.Op.{Op}
use Rattle.conditions.specs.declared.condition.Op.TheVariants.{AtMost, Below, AtLeast, Above}
use Rattle.conditions.specs.declared.condition.Term.{Term}
use Rattle.conditions.specs.declared.condition.Term.TheVariants.{Missing, Least}

-- The term never counts more in a part of a picture: each does but `least`, and but `missing` in edge
-- mode, where a part may lose an edge and keep its ends.
abbrev pub is_rising_term : Mode → Term → Bool
is_rising_term kind Least = false
is_rising_term mode.Vertex Missing = true
is_rising_term mode.Edge Missing = false
is_rising_term kind _ = true

abbrev pub is_rising_sum : Mode → List Factor → Bool
is_rising_sum kind sum = list_all (λ f. is_rising_term kind f.term) sum

-- the word bounds a sum from above, or from below
abbrev pub bounds_above : Op → Bool
bounds_above AtMost = true
bounds_above Below = true
bounds_above _ = false

abbrev pub bounds_below : Op → Bool
bounds_below AtLeast = true
bounds_below Above = true
bounds_below _ = false

-- whether a condition is falling, and whether it is rising
pub record Polarity : Type 0 where
  pub falls : Bool
  pub rises : Bool

-- Falling: a rising sum bounded from above, `and` and `or` of falling conditions, `not` of a rising one.
-- Rising: a rising sum bounded from below, `and` and `or` of rising conditions, `not` of a falling one.
-- `true` and `false` are both, and nothing else is either.
abbrev pub polarity_of : Mode → Cond-F Polarity → Polarity
polarity_of kind True = record { falls = true; rises = true }
polarity_of kind False = record { falls = true; rises = true }
polarity_of kind (Compare sum op bound) = record { falls = bounds_above op && is_rising_sum kind sum; rises = bounds_below op && is_rising_sum kind sum }
polarity_of kind (Not c) = record { falls = c.rises; rises = c.falls }
polarity_of kind (And c d) = record { falls = c.falls && d.falls; rises = c.rises && d.rises }
polarity_of kind (Or c d) = record { falls = c.falls && d.falls; rises = c.rises && d.rises }
polarity_of kind (Shape s) = record { falls = false; rises = false }

abbrev pub polarity : Mode → Cond → Polarity
polarity kind c = fold-Cond Polarity (polarity_of kind) c

abbrev pub is_falling : Mode → Cond → Bool
is_falling kind c = (polarity kind c).falls

abbrev pub is_rising : Mode → Cond → Bool
is_rising kind c = (polarity kind c).rises
