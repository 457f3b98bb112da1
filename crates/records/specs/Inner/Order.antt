-- What the state of the pass for condition 3 stands for, where the code has a name as a place in the payload and a
-- length.
use Rattle.std.specs.Prelude.{◌≡◌, ℕ, ◌+◌, ◌≤◌, ◌&&◌, List, Option, Some, None, leb, drop}
use Rattle.std.specs.Bool.{then_some}
use Rattle.records.specs.declared.records.Record.{Record}
use Rattle.records.specs.declared.order.State.{State}
use Rattle.records.specs.Layout.{Pass, PassStep, ordered, broken, step_of}
use Rattle.records.specs.Records.{bytes_at}

abbrev pub pass_of : List ℕ → State → Pass
pass_of l st = record { last = st.last; option = st.option; name = bytes_at l st.at st.len; roles = st.roles }

abbrev pub pass_step_of : List ℕ → Option State → PassStep
pass_step_of l (Some st) = ordered (pass_of l st)
pass_step_of l None = broken

abbrev pub with_tag : State → ℕ → State
with_tag st t = record { last = t; option = st.option; at = st.at; len = st.len; roles = st.roles }

abbrev pub tag_step_of : State → ℕ → Option State
tag_step_of st t = then_some (leb 1 st.last && leb st.last t) (with_tag st t)

-- the record r at p leads from the state st to t
abbrev pub LeadsTo : List ℕ → State → ℕ → Record → Option State → Type 0
LeadsTo l st p r t = pass_step_of l t ≡ step_of (pass_of l st) (drop p l) r

-- the name is within a payload of n bytes, and the roles are two bits
abbrev pub StateWithin : State → ℕ → Type 0
StateWithin st n = (st.at + st.len ≤ n) × (st.roles ≤ 3)

abbrev pub StepWithin : Option State → ℕ → Type 0
StepWithin (Some st) n = StateWithin st n
StepWithin None n = Unit
