use Rattle.std.proofs.Common.{◌≡◌, ℕ, ◌≤◌, false, codes, List, Option, Some, IsSome, Result, Ok, Err, IsErrAnd, MatchResult, map, string_bytes, refl, sym, subst, arith}
use Rattle.std.specs.Str.{bytes_eq}
use Rattle.command_words.specs.calls.Reading.{LacksOptions}
use Rattle.command_words.specs.declared.command.Options.{Options}
use Rattle.command_words.specs.declared.command.Verb.{Verb}
use Rattle.command_words.specs.declared.command.Verb.TheVariants.{Rehearse}
use Rattle.command_words.specs.declared.command.WordsFault.{WordsFault}
use Rattle.command_words.specs.declared.command.WordsFault.TheVariants as fault
use Rattle.command_words.specs.meaning.Ranges.{AreWithin}
use Rattle.command_words.specs.meaning.Words.{options_of, options_of_words, range_of, value_named}
use Rattle.command_words.proofs.Order.{options_said-out_of_order, options_said-known}
use Rattle.command_words.proofs.Schedules.{schedule-named}
use Rattle.command_words.proofs.WithinRange.{known_order, named-short, options-within, some_settings}
use Rattle.command_words.proofs.options.read_options.Goals as goal

-- no memory for the digits of a schedule
lacks_digits : (verb : Verb) (known : Option Options) (r : Result Options WordsFault) → verb ≡ Rehearse → IsSome known →
    IsErrAnd r (λ e. e ≡ fault.NoMemory) →
    MatchResult r (λ options. known ≡ Some options) (LacksOptions verb known)
lacks_digits verb known (Ok options) rehearses some none = absurd none
lacks_digits verb known (Err e) rehearses some none = subst (LacksOptions verb known) (sym none) (rehearses, some)

pub returns-then-not-are_in_order : goal.returns-then-not-are_in_order
returns-then-not-are_in_order c = record {
  read = options_said-out_of_order c.args.verb (map string_bytes c.args.words.now) (sym c.if-not-are_in_order.ensures);
  within = tt;
}

pub returns : goal.returns
returns c =
    let verb = c.args.verb in
    let words = map string_bytes c.args.words.now in
    let order = sym c.if-not-are_in_order.ensures in
    let known = some_settings verb words order in
    let settings = known.0 in
    let are = known.1 in
    let ordered = known_order verb words settings order are in
    let short = λ (name : List ℕ) (least most : ℕ) (other : bytes_eq name (codes "schedule") ≡ false) (range : range_of name ≡ Some (least, most)) (few : most ≤ 4000000000).
    named-short verb name least most other range few settings ordered in
    let options : Options = record {
      workers = c.number_or-workers.result;
      shards = c.number_or-shards.result;
      window = c.number_or-window.result;
      max_records = c.number_or-max_records.result;
      max_lines = c.number_or-max_lines.result;
      records = c.number_or-records.result;
      at = c.number_named-at.result;
      seed = c.number_or-seed.result;
      vertices = c.number_or-vertices.result;
      updates = c.number_or-updates.result;
      schedule = c.in_ok-schedule.schedule;
    } in
    let same : options ≡ options_of settings = λ i. record {
      workers = c.number_or-workers.ensures settings are (short (codes "workers") 1 16 refl refl (omega arith)) i;
      shards = c.number_or-shards.ensures settings are (short (codes "shards") 1 64 refl refl (omega arith)) i;
      window = c.number_or-window.ensures settings are (short (codes "window") 1 4096 refl refl (omega arith)) i;
      max_records = c.number_or-max_records.ensures settings are (short (codes "max-records") 1 10000000 refl refl (omega arith)) i;
      max_lines = c.number_or-max_lines.ensures settings are (short (codes "max-lines") 1 4000000000 refl refl (omega arith)) i;
      records = c.number_or-records.ensures settings are (short (codes "records") 1 2 refl refl (omega arith)) i;
      at = c.number_named-at.ensures settings are (short (codes "at") 0 4000000000 refl refl (omega arith)) i;
      seed = c.number_or-seed.ensures settings are (short (codes "seed") 0 2147483647 refl refl (omega arith)) i;
      vertices = c.number_or-vertices.ensures settings are (short (codes "vertices") 2 10000 refl refl (omega arith)) i;
      updates = c.number_or-updates.ensures settings are (short (codes "updates") 0 1000000 refl refl (omega arith)) i;
      schedule = c.in_ok-schedule.ensures.ok settings are i;
    } in
    record {
      read = options_said-known verb words settings options are ordered same;
      within = subst AreWithin (sym same) (options-within verb settings ordered);
    }

pub returns-in_err-schedule-clause-read : goal.returns-in_err-schedule-clause-read
returns-in_err-schedule-clause-read c =
    let verb = c.args.verb in
    let words = map string_bytes c.args.words.now in
    let order = sym c.if-not-are_in_order.ensures in
    let known = some_settings verb words order in
    let settings = known.0 in
    let are = known.1 in
    let ordered = known_order verb words settings order are in
    let named : IsSome (value_named (codes "schedule") settings) = c.in_err-schedule.ensures.err settings are in
    let options : options_of_words verb words ≡ Some (options_of settings) = options_said-known verb words settings (options_of settings) are ordered refl in
    lacks_digits verb (options_of_words verb words) c.from_residual.result (schedule-named verb settings ordered named) (subst IsSome (sym options) refl) c.from_residual.ensures.1
