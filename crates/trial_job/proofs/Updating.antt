-- The lines of a trial's updates, one after another.
use Rattle.std.proofs.Common.{◌≡◌, ℕ, suc, List, ◌++◌, ap, ◌∙◌, append_assoc}
use Rattle.graph_types.specs.meaning.Graph.{Graph, edge_between, has_edge}
use Rattle.trial_job.specs.meaning.TrialJob.{edge_line, edge_lines, first_drawn, next_state, second_drawn, toggled}

-- the next line stands before those that are still to come
pub lines-more : (n updates x : ℕ) (g : Graph) (job after whole : List ℕ) →
    let from = first_drawn n x in
    let to = second_drawn n x in
    job ++ edge_lines n (suc updates) x g ≡ whole →
    after ≡ job ++ edge_line (has_edge g (edge_between from to)) from to →
    after ++ edge_lines n updates (next_state (next_state x)) (toggled g (edge_between from to)) ≡ whole
lines-more n updates x g job after whole so_far line =
    let from = first_drawn n x in
    let to = second_drawn n x in
    let rest = edge_lines n updates (next_state (next_state x)) (toggled g (edge_between from to)) in
    ap (λ text. text ++ rest) line ∙ append_assoc job (edge_line (has_edge g (edge_between from to)) from to) rest ∙ so_far
