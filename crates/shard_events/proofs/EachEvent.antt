-- That each event keeps the rule, and so does each schedule.
use Rattle.std.proofs.Common.{List, None}
use Rattle.shard_state.specs.meaning.Telling.{Graphs}
use Rattle.shard_events.specs.meaning.Events as event
use Rattle.shard_events.specs.meaning.Events.{Begins, Event, LeadTo, Leads, with_holder}
use Rattle.shard_events.specs.meaning.Machine.{State, Ingest, Watch}
use Rattle.shard_events.specs.meaning.Rule.{Rule}
use Rattle.shard_events.proofs.Fronts.{Rule-raised, Rule-seen_done, Rule-seen_front}
use Rattle.shard_events.proofs.Holders.{Rule-put_back, Rule-taken, held-within}
use Rattle.shard_events.proofs.Shards.{Rule-next_part, Rule-pruned}
use Rattle.shard_events.proofs.Stamping.{Rule-stamped}
use Rattle.shard_events.proofs.Tasks.{Rule-begins, Rule-finished}

-- one event
pub Rule-kept : (graphs : Graphs) (state : State) (what : Event) (next : State) → Rule graphs state → Leads graphs state what next → Rule graphs next
Rule-kept graphs state _ _ rule (event.take x s within home none may) = Rule-taken graphs state rule x s within none may
Rule-kept graphs state _ _ rule (event.put_back x s holds) = Rule-put_back graphs state rule x s holds
Rule-kept graphs state _ _ rule (event.put_part s holds unput has) =
    Rule-next_part graphs (with_holder state s None) (Rule-put_back graphs state rule Ingest s holds) s (held-within graphs state rule Ingest s holds) unput has
Rule-kept graphs state _ _ rule (event.put_pruned s f holds seen) =
    Rule-pruned graphs (with_holder state s None) (Rule-put_back graphs state rule Watch s holds) s (held-within graphs state rule Watch s holds) f seen
Rule-kept graphs state _ _ rule (event.fetch t v holds) = rule
Rule-kept graphs state _ _ rule (event.stamp none more all) = Rule-stamped graphs state rule more all
Rule-kept graphs state _ _ rule (event.begin t stamped waiting) = Rule-begins graphs state rule t stamped waiting
Rule-kept graphs state _ _ rule (event.finish t live none) = Rule-finished graphs state rule t live none
Rule-kept graphs state _ _ rule (event.see_done more finished) = Rule-seen_done graphs state rule more finished
Rule-kept graphs state _ _ rule event.raise = Rule-raised graphs state rule
Rule-kept graphs state _ _ rule event.see_front = Rule-seen_front graphs state rule

-- one event after another
pub Rule-after : (graphs : Graphs) (first : State) → Rule graphs first → (events : List Event) (last : State) → LeadTo graphs first events last → Rule graphs last
Rule-after graphs first rule _ _ event.none = rule
Rule-after graphs first rule _ _ (event.more events mid what last before leads) = Rule-kept graphs mid what last (Rule-after graphs first rule events mid before) leads
