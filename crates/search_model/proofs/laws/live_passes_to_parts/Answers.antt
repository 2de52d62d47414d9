use Rattle.search_model.proofs.Live.{live_passes_to_parts}
use Rattle.search_model.proofs.laws.live_passes_to_parts.Goals as goal

pub returns : goal.returns
returns c = λ target before after members some passes all within. live_passes_to_parts target passes members some all within before after
