-- One step of the pass for condition 3, record by record.
use mathlib.Core.Path.{◌≡◌, refl, ap}
use mathlib.Core.List.{List}
use mathlib.Core.Bool.{Bool, true, false, ◌&&◌, and-false, and-true}
use Prim.Native.Nat.{ℕ, zero, suc, ◌+◌, ◌/◌, ◌%◌, ◌≤◌, ◌<◌}
use native.Mathlib.Omega.{arith}
use lib.ListN.{drop}
use lib.Seq.{drop-drop}
use lib.Dec.{eqb, leb}
use borrow.Author.Tests.{lt-ltb, le-ltb, eqb-true, eqb-false}
use Rattle.records.specs.declared.records.Record.{Record}
use Rattle.records.specs.declared.records.Record.TheVariants.{Rescale, Option, Feature, Variable, Place, Item, Points, Path}
use Rattle.records.specs.declared.order.State.{State}
use Rattle.std.specs.Prelude.{Option as Optional}
use Rattle.std.specs.Bool.{then_some}
use Rattle.records.specs.Layout.{Pass, PassStep, broken, ordered_if, before, has_role, name_of, step_of}
use Rattle.records.specs.Inner.Order.{pass_of, pass_step_of, with_tag, tag_step_of, StateWithin, StepWithin}
use Rattle.records.specs.Records.{bytes_at}

-- ---- roles
pub role_some : (roles role : ℕ) → (role ≡ 0 → ⊥) → eqb (roles / 2) 1 ≡ has_role roles role
role_some roles zero h = absurd (h refl)
role_some roles (suc r) h = refl

pub role_room : (roles role : ℕ) → roles ≤ 3 → role ≤ 1 → has_role roles role ≡ false → roles + 1 + role ≤ 3
role_room roles zero h k e = omega (arith, eqb-false (roles % 2) 1 e)
role_room roles (suc r) h k e = omega (arith, eqb-false (roles / 2) 1 e)

-- ---- where the code goes on
goes : (l : List ℕ) (b : Bool) (st : State) {t : Optional State} {x : PassStep} → t ≡ then_some b st → ordered_if b (pass_of l st) ≡ x → pass_step_of l t ≡ x
goes l true st e h = rw e h
goes l false st e h = rw e h

-- the last tag is 6 where the test says so
last_item : (b : Bool) {x : ℕ} (f : ℕ → Pass) → (b ≡ true → x ≡ 6) → ordered_if b (f x) ≡ ordered_if b (f 6)
last_item true f h = ap (λ (y : ℕ). ordered_if true (f y)) (h refl)
last_item false f h = refl

-- ---- record by record
module _ (l b : List ℕ) (st : State) {r : Record} where
  module _ {t : Optional State} where
    pub rescale-is : r ≡ Rescale → t ≡ then_some (eqb st.last 0) (with_tag st 1) → pass_step_of l t ≡ step_of (pass_of l st) b r
    unfolding step_of
    rescale-is e h = goes l (eqb st.last 0) (with_tag st 1) h (rw e refl)

    pub choice_is : {o : ℕ} → r ≡ Option o → st.option < o → t ≡ tag_step_of (record { last = st.last; option = o; at = st.at; len = st.len; roles = st.roles }) 2 → pass_step_of l t ≡ step_of (pass_of l st) b r
    unfolding step_of
    choice_is {o} e k h =
        goes l (leb 1 st.last && leb st.last 2) (record { last = 2; option = o; at = st.at; len = st.len; roles = st.roles }) h
        (rw (e, lt-ltb st.option o k, and-true) refl)

    pub feature-is : {x : ℕ} → r ≡ Feature x → t ≡ tag_step_of st 3 → pass_step_of l t ≡ step_of (pass_of l st) b r
    unfolding step_of
    feature-is e h = goes l (leb 1 st.last && leb st.last 3) (with_tag st 3) h (rw e refl)

    pub place_is : {x : ℕ} → r ≡ Place x → t ≡ tag_step_of st 5 → pass_step_of l t ≡ step_of (pass_of l st) b r
    unfolding step_of
    place_is e h = goes l (leb 1 st.last && leb st.last 5) (with_tag st 5) h (rw e refl)

    pub item-is : {k f x m : ℕ} → r ≡ Item k f x m → t ≡ tag_step_of (record { last = st.last; option = st.option; at = st.at; len = st.len; roles = 0 }) 6 → pass_step_of l t ≡ step_of (pass_of l st) b r
    unfolding step_of
    item-is e h = goes l (leb 1 st.last && leb st.last 6) (record { last = 6; option = st.option; at = st.at; len = st.len; roles = 0 }) h (rw e refl)

    pub points-is : {k c : ℕ} → r ≡ Points k c → has_role st.roles k ≡ false → t ≡ then_some (eqb st.last 6) (record { last = st.last; option = st.option; at = st.at; len = st.len; roles = st.roles + 1 + k }) → pass_step_of l t ≡ step_of (pass_of l st) b r
    unfolding step_of
    points-is {k} e none h =
        let next : ℕ → ℕ → Pass = λ x y. record { last = x; option = st.option; name = bytes_at l st.at st.len; roles = y } in
        let more : st.roles + 1 + k ≡ st.roles + suc k = omega arith in
        goes l (eqb st.last 6) (record { last = st.last; option = st.option; at = st.at; len = st.len; roles = st.roles + 1 + k }) h
        (rw (e, none, and-true, ← more) (last_item (eqb st.last 6) (λ x. next x (st.roles + 1 + k)) (eqb-true st.last 6)))

    pub path-is : {k c f x : ℕ} → r ≡ Path k c f x → t ≡ then_some (eqb st.last 6) st → pass_step_of l t ≡ step_of (pass_of l st) b r
    unfolding step_of
    path-is e h = goes l (eqb st.last 6) st h (rw e refl)

  pub choice_low : {o : ℕ} → r ≡ Option o → o ≤ st.option → broken ≡ step_of (pass_of l st) b r
  unfolding step_of
  choice_low {o} e k = rw (e, le-ltb st.option o k, and-false) refl

  pub points_had : {k c : ℕ} → r ≡ Points k c → has_role st.roles k ≡ true → broken ≡ step_of (pass_of l st) b r
  unfolding step_of
  points_had e h = rw (e, h, and-false) refl

-- the name is still within the payload, and the roles are still two bits
pub points_within : (b : Bool) (st : State) (n : ℕ) {k : ℕ} {t : Optional State} → StateWithin st n → k ≤ 1 → has_role st.roles k ≡ false
    → t ≡ then_some b (record { last = st.last; option = st.option; at = st.at; len = st.len; roles = st.roles + 1 + k }) → StepWithin t n
points_within true st n {k} kept low none h = rw h (kept.0, role_room st.roles k kept.1 low none)
points_within false st n kept low none h = rw h tt

-- ---- a variable at p, its name's length x, which the code has as m too
module _ (l : List ℕ) (p : ℕ) (st : State) {x m : ℕ} (e : m ≡ x) where
  name-is : name_of (drop p l) x ≡ bytes_at l (p + 2) m
  unfolding bytes_at
  name-is = rw (e, drop-drop) refl

  pub variable-low : before (bytes_at l st.at st.len) (bytes_at l (p + 2) m) ≡ false → broken ≡ step_of (pass_of l st) (drop p l) (Variable x)
  unfolding step_of
  variable-low h = rw (name-is, h, and-false) refl

  pub variable-is : {t : Optional State} → before (bytes_at l st.at st.len) (bytes_at l (p + 2) m) ≡ true → t ≡ tag_step_of (record { last = st.last; option = st.option; at = p + 2; len = m; roles = st.roles }) 4 → pass_step_of l t ≡ step_of (pass_of l st) (drop p l) (Variable x)
  unfolding step_of
  variable-is h t =
      goes l (leb 1 st.last && leb st.last 4) (record { last = 4; option = st.option; at = p + 2; len = m; roles = st.roles }) t
      (rw (name-is, h, and-true) refl)
