use Rattle.std.proofs.Common.{◌≡◌, suc, ◌+◌, ◌-◌, ◌++◌, sym, ap, subst, ◌∙◌, arith, append-nil}
use Rattle.graph_types.specs.meaning.Graph.{edge_between}
use Rattle.trial_job.specs.calls.Standing.{HasVertices}
use Rattle.trial_job.specs.meaning.TrialJob.{edge_lines, first_drawn, header_text, second_drawn, vertex_lines}
use Rattle.trial_job.proofs.Standing.{HasVertices-graph_of_vertices, HasVertices-toggled}
use Rattle.trial_job.proofs.Updating.{lines-more}
use Rattle.trial_job.proofs.job.trial_job.Goals as goal

pub loop-init : goal.loop-init
loop-init c =
    let n = c.args.vertices in
    let head : c.in_ok-job.job ≡ header_text = c.in_ok-job.ensures in
    let job : c.add_vertices.new.job ≡ header_text ++ vertex_lines n =
    c.in_ok-add_vertices.ensures.lines ∙ ap (λ text. text ++ vertex_lines n) head in
    let graph = c.in_ok-add_vertices.ensures.graph in
    let all : c.args.updates - 0 ≡ c.args.updates = omega arith in (
      λ i. job i ++ edge_lines n (all i) (c.new-draws.ensures i) (graph i),
      subst (HasVertices n) (sym graph) (HasVertices-graph_of_vertices n),
    )

pub loop-preserved : goal.loop-preserved
loop-preserved c =
    let n = c.args.vertices in
    let x = c.loop.draws in
    let g = c.loop.graph in
    let left = c.args.updates - (c.loop.counter + 1) in
    let next : c.args.updates - c.loop.counter ≡ suc left = omega arith in
    let edge = edge_between (first_drawn n x) (second_drawn n x) in
    let graph = c.in_ok-add_update.ensures.graph in (
      (λ i. c.add_update.new.job ++ edge_lines n left (c.in_ok-add_update.ensures.drawn i) (graph i))
          ∙ lines-more n left x g c.loop.job c.add_update.new.job _
          (ap (λ k. c.loop.job ++ edge_lines n k x g) (sym next) ∙ c.loop.invariant.0) c.in_ok-add_update.ensures.line,
      subst (HasVertices n) (sym graph) (HasVertices-toggled n g edge c.loop.invariant.1),
    )

pub returns : goal.returns
returns c =
    let none : c.args.updates - c.loop.counter ≡ 0 = omega arith in
    sym (append-nil c.loop.job)
    ∙ ap (λ k. c.loop.job ++ edge_lines c.args.vertices k c.loop.draws c.loop.graph) (sym none)
    ∙ c.loop.invariant.0
