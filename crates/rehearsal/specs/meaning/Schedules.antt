-- Which events digits choose.
use Rattle.std.specs.Prelude.{◌≡◌, ◌≤◌, ℕ, ◌+◌, ◌-◌, ◌%◌, List, [], ◌∷◌, All, length, get_or, slice_get, Option, Some}
use Rattle.group_window.specs.meaning.Windows.{WindowValue}
use Rattle.rehearsal.specs.declared.event.Event.{Event}
use Rattle.rehearsal.specs.meaning.MachineState.{MachineState}
use Rattle.rehearsal.specs.meaning.Table.{after, enabled}

-- each byte is one of `0` to `9`
abbrev pub AreDigits : List ℕ → Type 0
AreDigits bytes = All (λ byte. (48 ≤ byte) × (byte ≤ 57)) bytes

-- the digit of a turn, counted from 0; it is 0 after the last
abbrev pub digit_of : List ℕ → ℕ → ℕ
digit_of digits turn = get_or digits turn 48 - 48

-- the event of this number among some, counted from 0 and again from 0 after the last
abbrev pub chosen : List Event → ℕ → Option Event
chosen events d = slice_get events (d % length events)

-- Events happen one after another, from a turn and a state on. Each is the one that the digit of its turn chooses among
-- those that may happen. At the end none may.
pub data Schedules (w : WindowValue) (digits : List ℕ) : ℕ → MachineState → List Event → MachineState → Type 0 where
  ended : (turn : ℕ) (m : MachineState) → enabled w m ≡ [] → Schedules w digits turn m [] m
  goes_on : (turn : ℕ) (m last : MachineState) (event : Event) (events : List Event) → chosen (enabled w m) (digit_of digits turn) ≡ Some event
      → Schedules w digits (turn + 1) (after w m event) events last → Schedules w digits turn m (event ∷ events) last
