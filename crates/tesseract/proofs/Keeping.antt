-- An item of the stream is kept: what waits is what was accepted still.
use Rattle.std.proofs.Common.{◌≡◌, ℕ, suc, ◌+◌, ◌<◌, ◌⊎◌, inl, inr, Bool, true, false, List, [], ◌∷◌, ◌++◌, length, Option, None, Some, Result, Ok, Err, IfSome, IsSome, MatchOption, refl, sym, ap, subst, ◌∙◌, arith, unwrap_or, if◌then◌else◌}
use Rattle.std.specs.Prelude.{nat_lt}
use Rattle.std.specs.Option.{option_map}
use Rattle.graph_types.specs.declared.refusal.Refusal.{Refusal}
use Rattle.graph_types.specs.declared.update.Update.{Update}
use Rattle.graph_types.specs.meaning.Graph.{Graph}
use Rattle.group_window.specs.meaning.Windows.{RunValue, WindowValue, ended, graph_before, last_or, pushed, with_current, with_group, with_update}
use Rattle.job.specs.calls.Counting.{batch_after, batch_if_accepted, batch_with_update}
use Rattle.job.specs.calls.Standing.{IsAt}
use Rattle.job.specs.calls.Taking.{LeadsBy, graph_with}
use Rattle.job.specs.declared.fault.JobRefusal.{JobRefusal}
use Rattle.job.specs.declared.fault.JobRefusal.TheVariants as refusal
use Rattle.job.specs.meaning.Following.{Accepts, LeadsOn}
use Rattle.job.specs.meaning.Judging.{Stage, heading, streaming, batching, Judgement, moved, accepted, graph_at_stage, graph_of_groups, most_batch_updates, open_updates}
use Rattle.line_fields.specs.meaning.Names.{Names}
use Rattle.mining_model.specs.meaning.Embeddings.{Pattern}
use Rattle.mining_model.specs.meaning.History.{Group, history}
use Rattle.mining_model.specs.meaning.Step.{graph_after, graph_after_all, step}
use Rattle.update_reader.specs.declared.Item.{Item}
use Rattle.update_reader.specs.declared.Item.TheVariants as item
use Rattle.tesseract.specs.calls.Waiting.{IsOpenFor, IsOpenGroup, window_with}

-- where no batch is open the graph is that of the last timestamp
no_batch : (stage : Stage) → open_updates stage ≡ None → graph_at_stage stage ≡ graph_of_groups stage
no_batch (heading next names) none = refl
no_batch (streaming pattern names g) none = refl
no_batch (batching pattern names before us) none = absurd (cc)

no_count : (o : Option Group) → option_map (λ us. length us) o ≡ None → o ≡ None
no_count None none = refl
no_count (Some us) none = absurd (cc)

some_count : (o : Option Group) (k : ℕ) → option_map (λ us. length us) o ≡ Some k → (us : Group) × (o ≡ Some us)
some_count None k some = absurd (let e = some in cc)
some_count (Some us) k some = (us, refl)

if_room : (b : Bool) (n k : ℕ) (count : Option ℕ) → ◌≡◌ {A = Result (Option ℕ) JobRefusal} (Ok count) (if b then Ok (Some (k + 1)) else Err (refusal.Batch n)) →
    Some (suc k) ≡ count
if_room true n k count is = let e : count ≡ Some (k + 1) = cc in ap Some (let f : suc k ≡ k + 1 = omega arith in f) ∙ sym e
if_room false n k count is = absurd (cc)

-- the count with one update more
one_more : (n k : ℕ) (count : Option ℕ) → Ok count ≡ batch_with_update n (Some k) → Some (suc k) ≡ count
one_more n k count is = if_room (nat_lt k most_batch_updates) n k count is

pub closed_at : (stage : Stage) (pattern : Pattern) (names : Names) (g : Graph) → IsAt stage pattern names g None → g ≡ graph_of_groups stage
closed_at stage pattern names g at = sym at.draws ∙ no_batch stage (no_count (open_updates stage) at.counts)

-- a history with one group more
pub history-more : (g : Graph) (groups : List Group) (us : Group) →
    history g (groups ++ us ∷ []) ≡ history g groups ++ graph_after_all (last_or g (history g groups)) us ∷ []
history-more g [] us = refl
history-more g (vs ∷ groups) us = ap (λ later. graph_after_all g vs ∷ later) (history-more (graph_after_all g vs) groups us)

pub last_or-more : (g : Graph) (later : List Graph) (next : Graph) → last_or g (later ++ next ∷ []) ≡ next
last_or-more g [] next = refl
last_or-more g (h ∷ later) next = last_or-more h later next

-- an empty batch
pub opens_group : (before now : Graph) → before ≡ now → IsOpenGroup before now 0 (Some None)
opens_group before now same = record { run = None; current_is = refl; before_is = sym same; now_is = ap (λ g. Some g) same; count = refl }

-- a batch with one update more
pub joins_group : (before now next : Graph) (n : ℕ) (w : WindowValue) (group : IsOpenGroup before now n w.current) →
    IsOpenGroup before next (suc n) (Some (Some (with_update group.run now next)))
joins_group before now next n w group = record {
  run = Some (with_update group.run now next);
  current_is = refl;
  before_is = group.before_is;
  now_is = refl;
  count = (let e = group.count in omega (arith, e));
}

-- the window has what waits, after a group more
pub record Gathers (mined : Graph) (waiting : List Group) (w : WindowValue) : Type 0 where
  pub base : IfSome w.base (λ g. g ≡ mined)
  pub later : w.later ≡ history mined waiting

begun : (mined before : Graph) (base : Option Graph) → IfSome base (λ g. g ≡ mined) → (base ≡ None → before ≡ mined) → unwrap_or base before ≡ mined
begun mined before None same first = first refl
begun mined before (Some g) same first = same

first_graph : (mined before : Graph) (base : Option Graph) (later : List Graph) → (0 < length later → IsSome base) →
    before ≡ last_or mined later → base ≡ None → before ≡ mined
first_graph mined before base [] sound came none = came
first_graph mined before base (g ∷ later) sound came none = absurd (let e = subst IsSome none (sound (omega arith)) in cc)

pub gathers_group : (mined before next : Graph) (waiting : List Group) (us : Group) (w : WindowValue) → Gathers mined waiting w →
    (0 < length w.later → IsSome w.base) → before ≡ last_or mined w.later → graph_after_all before us ≡ next →
    Gathers mined (waiting ++ us ∷ []) (with_group w before next)
gathers_group mined before next waiting us w gathers sound came stepped = record {
  base = begun mined before w.base gathers.base (first_graph mined before w.base w.later sound came);
  later =
      ap (λ later. later ++ next ∷ []) gathers.later
      ∙ ap (λ g. history mined waiting ++ g ∷ []) (sym stepped ∙ ap (λ g. graph_after_all g us) (came ∙ ap (last_or mined) gathers.later))
      ∙ sym (history-more mined waiting us);
}

-- ---- what an item leads to

-- A window has what waits once a job stands at this stage, with this graph and so many updates in its batch.
pub record Follows (mined : Graph) (waiting : List Group) (next : Stage) (now : Graph) (batch : Option ℕ) (w : WindowValue) : Type 0 where
  pub gathers : Gathers mined waiting w
  pub came : graph_of_groups next ≡ last_or mined w.later
  pub current : IsOpenFor (graph_of_groups next) now batch w.current

-- It does, where the line that was judged so led to it.
abbrev pub LeadsTo : Judgement → Graph → List Group → Stage → Graph → Option ℕ → WindowValue → Type 0
LeadsTo j mined waiting next now batch w =
    ((j ≡ moved next) × Follows mined waiting next now batch w)
    ⊎ ((us : Group) × (j ≡ accepted us next) × Follows mined (waiting ++ us ∷ []) next now batch w)

module _ (mined : Graph) (waiting : List Group) (stage next : Stage) (w : WindowValue)
    (gathers : Gathers mined waiting w) (sound : 0 < length w.later → IsSome w.base) (came : graph_of_groups stage ≡ last_or mined w.later) where
  -- no group is brought, and the window is as it was but for its open group
  same_groups : (now : Graph) (batch : Option ℕ) (current : Option (Option RunValue)) → LeadsOn stage next →
      IsOpenFor (graph_of_groups stage) now batch current → Follows mined waiting next now batch (with_current w current)
  same_groups now batch current leads is_open = record {
    gathers = record { base = gathers.base; later = gathers.later };
    came = leads.same_graph ∙ came;
    current = subst (λ g. IsOpenFor g now batch current) (sym leads.same_graph) is_open;
  }

  -- a group is brought
  one_group : (before now : Graph) (us : Group) → before ≡ graph_of_groups stage → now ≡ graph_of_groups next →
      Accepts stage us next → Follows mined (waiting ++ us ∷ []) next now None (with_group w before now)
  one_group before now us is same accepts = record {
    gathers = gathers_group mined before now waiting us w gathers sound (is ∙ came) (ap (λ g. graph_after_all g us) is ∙ sym accepts.stepped ∙ sym same);
    came = sym same ∙ sym (last_or-more mined w.later now);
    current = refl;
  }

-- A line says an item, and the job, which stood at a stage with this graph and so many updates in its batch, stands at the next
-- one once the item is made in the graph.
pub record IsLed (n : ℕ) (stage next : Stage) (g : Graph) (batch batch' : Option ℕ) (what : Item) (j : Judgement) : Type 0 where
  pub pattern : Pattern
  pub names : Names
  pub later_names : Names
  pub at : IsAt stage pattern names g batch
  pub leads : LeadsBy stage what j next
  pub at_next : IsAt next pattern later_names (graph_with what g) batch'
  pub counted : batch_after n g batch what ≡ Ok batch'
  pub moves : (after : Stage) → j ≡ moved after → LeadsOn stage after
  pub brings : (us : Group) (after : Stage) → j ≡ accepted us after → Accepts stage us after

module _ (n : ℕ) (mined : Graph) (waiting : List Group) (stage next : Stage) (g : Graph) (w : WindowValue) (j : Judgement)
    (gathers : Gathers mined waiting w) (sound : 0 < length w.later → IsSome w.base) (came : graph_of_groups stage ≡ last_or mined w.later) where
  -- an update outside a batch
  alone_by : (u : Update) (stepped : Result Graph Refusal) (batch' : Option ℕ) → IsLed n stage next g None batch' (item.Update u) j →
      w.current ≡ None → batch_if_accepted n stepped (Ok None) ≡ Ok batch' →
      LeadsTo j mined waiting next (graph_after g u) batch' (pushed w w.current g (graph_after g u))
  alone_by u (Ok after) batch' led none counted =
      let same : ◌≡◌ {A = Option ℕ} None batch' = (let e = counted in cc) in
      let alone = no_count (open_updates stage) led.at.counts in
      let brought : j ≡ accepted (u ∷ []) next =
      subst (λ o. MatchOption o (j ≡ accepted (u ∷ []) next) (λ us. j ≡ moved next)) alone led.leads in
      inr (
        u ∷ [],
        brought,
        subst (λ b. Follows mined (waiting ++ (u ∷ []) ∷ []) next (graph_after g u) b (pushed w w.current g (graph_after g u))) same
            (subst (λ c. Follows mined (waiting ++ (u ∷ []) ∷ []) next (graph_after g u) None (pushed w c g (graph_after g u))) (sym none)
            (one_group mined waiting stage next w gathers sound came g (graph_after g u) (u ∷ [])
            (closed_at stage led.pattern led.names g led.at)
            (closed_at next led.pattern led.later_names (graph_after g u) (subst (IsAt next led.pattern led.later_names (graph_after g u)) (sym same) led.at_next))
            (led.brings (u ∷ []) next brought))),
      )
  alone_by u (Err why) batch' led none counted = absurd (let e = counted in cc)

  -- an update in a batch
  joined_by : (u : Update) (k : ℕ) (stepped : Result Graph Refusal) (counted : Result (Option ℕ) JobRefusal) (batch' : Option ℕ) →
      IsLed n stage next g (Some k) batch' (item.Update u) j → IsOpenGroup (graph_of_groups stage) g k w.current →
      counted ≡ batch_with_update n (Some k) → batch_if_accepted n stepped counted ≡ Ok batch' →
      LeadsTo j mined waiting next (graph_after g u) batch' (pushed w w.current g (graph_after g u))
  joined_by u k stepped (Err why) batch' led group is counted = absurd (let e = counted in cc)
  joined_by u k (Err why) (Ok b) batch' led group is counted = absurd (let e = counted in cc)
  joined_by u k (Ok after) (Ok b) batch' led group is counted =
      let some = some_count (open_updates stage) k led.at.counts in
      let led_on : j ≡ moved next =
      subst (λ o. MatchOption o (j ≡ accepted (u ∷ []) next) (λ us. j ≡ moved next)) some.1 led.leads in
      let grown : Some (suc k) ≡ batch' = one_more n k b is ∙ (let e = counted in cc) in
      inl (
        led_on,
        subst (λ b. Follows mined waiting next (graph_after g u) b (pushed w w.current g (graph_after g u))) grown
            (subst (λ c. Follows mined waiting next (graph_after g u) (Some (suc k)) (pushed w c g (graph_after g u))) (sym group.current_is)
            (same_groups mined waiting stage next w gathers sound came (graph_after g u) (Some (suc k))
            (Some (Some (with_update group.run g (graph_after g u)))) (led.moves next led_on)
            (joins_group (graph_of_groups stage) g (graph_after g u) k w group))),
      )

  -- a batch ends
  ended_by : (k : ℕ) (batch' : Option ℕ) → IsLed n stage next g (Some k) batch' item.BatchEnd j → IsOpenGroup (graph_of_groups stage) g k w.current →
      LeadsTo j mined waiting next g batch' (ended w w.current g)
  ended_by k batch' led group =
      let same : ◌≡◌ {A = Option ℕ} None batch' = (let e = led.counted in cc) in
      let some = some_count (open_updates stage) k led.at.counts in
      let brought : j ≡ accepted some.0 next =
      subst (λ o. MatchOption o ⊥ (λ us. j ≡ accepted us next)) some.1 led.leads in
      inr (
        some.0,
        brought,
        subst (λ b. Follows mined (waiting ++ some.0 ∷ []) next g b (ended w w.current g)) same
            (subst (λ c. Follows mined (waiting ++ some.0 ∷ []) next g None (ended w c g)) (sym group.current_is)
            (one_group mined waiting stage next w gathers sound came (graph_before group.run g) g some.0 group.before_is
            (closed_at next led.pattern led.later_names g (subst (IsAt next led.pattern led.later_names g) (sym same) led.at_next))
            (led.brings some.0 next brought))),
      )

  pub led_by : (what : Item) (batch batch' : Option ℕ) → IsLed n stage next g batch batch' what j → IsOpenFor (graph_of_groups stage) g batch w.current →
      LeadsTo j mined waiting next (graph_with what g) batch' (window_with what w g (graph_with what g))
  led_by item.Nothing batch batch' led is_open =
      let same : batch ≡ batch' = (let e = led.counted in cc) in
      inl (
        led.leads,
        same_groups mined waiting stage next w gathers sound came g batch' w.current (led.moves next led.leads)
            (subst (λ b. IsOpenFor (graph_of_groups stage) g b w.current) same is_open),
      )
  led_by item.Commit None batch' led is_open =
      let same : ◌≡◌ {A = Option ℕ} None batch' = (let e = led.counted in cc) in
      inl (
        led.leads,
        same_groups mined waiting stage next w gathers sound came g batch' w.current (led.moves next led.leads)
            (subst (λ b. IsOpenFor (graph_of_groups stage) g b w.current) same is_open),
      )
  led_by item.Commit (Some k) batch' led is_open = absurd (let e = led.counted in cc)
  led_by item.BatchBegin None batch' led is_open =
      let same : ◌≡◌ {A = Option ℕ} (Some 0) batch' = (let e = led.counted in cc) in
      inl (
        led.leads,
        same_groups mined waiting stage next w gathers sound came g batch' (Some None) (led.moves next led.leads)
            (subst (λ b. IsOpenFor (graph_of_groups stage) g b (Some None)) same
            (opens_group (graph_of_groups stage) g (sym (closed_at stage led.pattern led.names g led.at)))),
      )
  led_by item.BatchBegin (Some k) batch' led is_open = absurd (let e = led.counted in cc)
  led_by item.BatchEnd None batch' led is_open = absurd (let e = led.counted in cc)
  led_by item.BatchEnd (Some k) batch' led is_open = ended_by k batch' led is_open
  led_by (item.Update u) None batch' led is_open = alone_by u (step g u) batch' led is_open led.counted
  led_by (item.Update u) (Some k) batch' led is_open =
      joined_by u k (step g u) (batch_with_update n (Some k)) batch' led is_open refl led.counted
