use Rattle.std.proofs.Common.{sym, ap, ◌∙◌}
use Rattle.mining_model.specs.meaning.Step.{graph_after}
use Rattle.group_window.specs.meaning.Windows.{RunValue}
use Rattle.group_window.proofs.Remembering.{Remembers-kept, Remembers-next}
use Rattle.group_window.proofs.groups.Run.push.Goals as goal

pub invariant_of-self : goal.invariant_of-self
invariant_of-self c =
    let s = c.self.inside in
    Remembers-kept s.earlier c.keep_each.new.earlier s.before.value s.after.value c.args.graph.now
    (c.requires.stands ∙ sym (ap (λ (r : RunValue). r.after) c.self.view_is)) c.self.invariant c.in_err-keep_each.ensures.overlaid

pub invariant_of-self-in_err-apply : goal.invariant_of-self-in_err-apply
invariant_of-self-in_err-apply c =
    let s = c.self.inside in
    Remembers-kept s.earlier c.keep_each.new.earlier s.before.value s.after.value c.args.graph.now
    (c.requires.stands ∙ sym (ap (λ (r : RunValue). r.after) c.self.view_is)) c.self.invariant c.in_ok-keep_each.ensures.overlaid

pub invariant_of-self-2 : goal.invariant_of-self-2
invariant_of-self-2 c =
    let s = c.self.inside in
    Remembers-next s.earlier c.keep_each.new.earlier s.before.value s.after.value c.args.graph.now
    (c.requires.stands ∙ sym (ap (λ (r : RunValue). r.after) c.self.view_is)) c.self.invariant c.in_ok-keep_each.ensures.overlaid
    c.in_ok-entries.entries (graph_after c.args.graph.now c.args.update.now) c.of.result.value
    c.in_ok-entries.ensures c.in_ok-keep_each.ensures.places (c.of.ensures ∙ c.in_ok-apply.ensures.ok)
