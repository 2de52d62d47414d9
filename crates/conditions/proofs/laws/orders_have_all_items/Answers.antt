use Rattle.conditions.proofs.Orders.{distinct_order, in_order, length-order, order_from}
use Rattle.conditions.proofs.laws.orders_have_all_items.Goals as goal

pub returns-clause-each : goal.returns-clause-each
returns-clause-each c = λ xs vs distinct there. record { many = length-order xs vs there; once = distinct_order xs vs distinct there; within = λ v i. in_order xs vs v there i }

pub returns-clause-all : goal.returns-clause-all
returns-clause-all c = λ xs vs distinct is. order_from xs vs distinct is.once is.within is.many
