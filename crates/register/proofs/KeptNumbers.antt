-- Which events are control points, by the numbers that are kept; and which names the positions of host features stand for.
use Rattle.std.specs.Prelude.{Option, None, Some, is_some}
use mathlib.Core.Path.{◌≡◌, refl, sym, ap, ◌∙◌}
use mathlib.Core.Bool.{Bool, true, false, cond, not, ◌&&◌, ◌||◌, or-false, or_assoc, false≢true}
use mathlib.Core.List.{List, [], ◌∷◌, ◌++◌}
use Prim.Native.Nat.{ℕ, suc, ◌+◌, ◌-◌, ◌≤◌, ◌<◌}
use native.Mathlib.Numerals.{add-one}
use native.Mathlib.Omega.{arith}
use lib.ListN.{length, take, drop, get_or, length-drop, length-append, drop_of_length-le, get_or-append}
use lib.Seq.{take-suc, drop-cons, drop-drop, get_or-append_seam}
use lib.Dec.{eqb, ltb}
use lib.Ieee.{Float}
use borrow.Author.Tests.{eq-eqb, ne_eqb, ltb-true, ltb-false}
use Rattle.stream.specs.Payload.{payload}
use Rattle.stream.specs.Inner.Payload.{room}
use Rattle.records.specs.Records.{bytes_at}
use Rattle.records.specs.Laws.Tests.{and_left}
use Rattle.scene.specs.Scene.{Scene, NamedFeature, scene_of}
use Rattle.values.specs.declared.Point.{Point}
use Rattle.scene.specs.Labels.{same_bytes}
use Rattle.scene.specs.Inner.Answers.{LengthPrefixed}
use Rattle.scene.specs.Laws.Rising.{same_eq}
use Rattle.register.specs.Register.{Event, control, warn, resolved, mentioned, event_of, feature_event, lon_event}
use Rattle.values.specs.Warnings.{Warning}
use Rattle.register.specs.Inner.Gathered.{numbers_in}
use Rattle.register.specs.Inner.Warnings.{first_is, any_name_is, ResolvedNames, kind_by}

-- ---- the numbers rise, so the first is that of the next event exactly if this is a control point
abbrev pub is_control : Event → Bool
is_control (control c) = true
is_control (warn w) = false

first_above : (i j : ℕ) (es : List Event) → i < j → first_is i (numbers_in j es) ≡ false
unfolding first_is numbers_in
first_above i j [] h = refl
first_above i j (control c ∷ es) h = ne_eqb j i (λ e. omega arith)
first_above i j (warn w ∷ es) h = first_above i (suc j) es (omega arith)

first-is : (j : ℕ) (e : Event) (es : List Event) → first_is j (numbers_in j (e ∷ es)) ≡ is_control e
unfolding first_is numbers_in
first-is j (control c) es = eq-eqb j j refl
first-is j (warn w) es = first_above j (suc j) es (omega arith)

-- the h-th of those kept
module _ (kept : List ℕ) (h j : ℕ) where
  pub none_first : length kept ≤ h → false ≡ first_is j (drop h kept)
  unfolding first_is
  none_first g = rw (drop_of_length-le kept {i = h} g) refl

  pub one-first : h < length kept → eqb (get_or kept h 0) j ≡ first_is j (drop h kept)
  unfolding first_is
  one-first g = rw (drop-cons kept h 0 g) refl

module _ (ks : List ℕ) (h j : ℕ) where
  pub kept-is : (e : Event) (es : List Event) → drop h ks ≡ numbers_in j (e ∷ es) → {b : Bool} → b ≡ first_is j (drop h ks) → is_control e ≡ b
  kept-is e es is f = sym (f ∙ ap (first_is j) is ∙ first-is j e es)

  pub kept_fits : (e : Event) (es : List Event) → drop h ks ≡ numbers_in j (e ∷ es) → is_control e ≡ true → h < length ks
  unfolding numbers_in
  kept_fits (control c) es is t = omega (arith, ap length is, length-drop h ks)
  kept_fits (warn w) es is t = absurd (false≢true t)

  pub kept_control : (e : Event) (es : List Event) → drop h ks ≡ numbers_in j (e ∷ es) → is_control e ≡ true → drop (h + 1) ks ≡ numbers_in (suc j) es
  unfolding numbers_in
  kept_control (control c) es is t = sym (drop-drop 1 h ks) ∙ ap (drop 1) is
  kept_control (warn w) es is t = absurd (false≢true t)

  pub kept_warn : (e : Event) (es : List Event) → drop h ks ≡ numbers_in j (e ∷ es) → is_control e ≡ false → drop h ks ≡ numbers_in (suc j) es
  unfolding numbers_in
  kept_warn (control c) es is t = absurd (false≢true (sym t))
  kept_warn (warn w) es is t = is

-- ---- lists that grow at their end
pub taken_more : {A : Type 0} (xs : List A) (i : ℕ) (x : A) (ys : List A) → drop i xs ≡ x ∷ ys → (take (suc i) xs ≡ take i xs ++ x ∷ []) × (drop (suc i) xs ≡ ys)
taken_more xs i x ys e =
    let h : i < length xs = omega (arith, ap length e, length-drop i xs) in
    let d = drop-cons xs i x h in
    let g : get_or xs i x ≡ x = cc in
    (rw g at (take-suc xs i x h), cc)

mentioned-more : (x : List ℕ) (fs : List NamedFeature) (f : NamedFeature) → mentioned x (fs ++ f ∷ []) ≡ (mentioned x fs || same_bytes f.name x)
unfolding mentioned
mentioned-more x [] f = or-false (same_bytes f.name x)
mentioned-more x (g ∷ fs) f = rw (mentioned-more x fs f) (sym (or_assoc (same_bytes g.name x) (mentioned x fs) (same_bytes f.name x)))

called_more : (l ps : List ℕ) (p : ℕ) (x : List ℕ) → any_name_is l (ps ++ p ∷ []) x ≡ (any_name_is l ps x || same_bytes (bytes_at l (p + 1) (get_or l p 0)) x)
unfolding any_name_is
called_more l [] p x = or-false (same_bytes (bytes_at l (p + 1) (get_or l p 0)) x)
called_more l (q ∷ ps) p x = rw (called_more l ps p x) (sym (or_assoc (same_bytes (bytes_at l (q + 1) (get_or l q 0)) x) (any_name_is l ps x) (same_bytes (bytes_at l (p + 1) (get_or l p 0)) x)))

-- the positions one after another, from the k-th on
module _ (l positions x : List ℕ) (k : ℕ) (so : any_name_is l positions x ≡ any_name_is l (drop k positions) x) where
  pub none_called : length positions ≤ k → false ≡ any_name_is l positions x
  unfolding any_name_is
  none_called g = sym (so ∙ rw (drop_of_length-le positions {i = k} g) refl)

  module _ (g : k < length positions) {b : Bool} (is : b ≡ same_bytes (bytes_at l (get_or positions k 0 + 1) (get_or l (get_or positions k 0) 0)) x) where
    next : any_name_is l positions x ≡ (b || any_name_is l (drop (k + 1) positions) x)
    unfolding any_name_is
    next = so ∙ rw (drop-cons positions k 0 g, ← is, add-one) refl

    pub one_called : b ≡ true → true ≡ any_name_is l positions x
    one_called e = sym (next ∙ rw e refl)

    pub other_called : b ≡ false → any_name_is l positions x ≡ any_name_is l (drop (k + 1) positions) x
    other_called e = next ∙ rw e refl

-- ---- a host feature is a control point if its name resolves and none before has it
event_control : (p : Option Point) (m : Bool) (lon lat : Float) (lost again : Warning) → is_control (event_of p m lon lat lost again) ≡ (is_some p && not m)
unfolding event_of
event_control None m lon lat lost again = refl
event_control (Some p) true lon lat lost again = refl
event_control (Some p) false lon lat lost again = refl

feature_control : (sc : Scene) (i : ℕ) (f : NamedFeature) → is_control (feature_event sc i f) ≡ (is_some (resolved sc f.name) && not (mentioned f.name (take i sc.features)))
unfolding feature_event
feature_control sc i f = event_control (resolved sc f.name) (mentioned f.name (take i sc.features)) f.lon f.lat _ _

pub feature_warns : (sc : Scene) (i : ℕ) (f : NamedFeature) → is_control (feature_event sc i f) ≡ false → feature_event sc i f ≡ warn (record { kind = 2; index = i })
unfolding feature_event event_of
feature_warns sc i f h = by (resolved sc f.name) (mentioned f.name (take i sc.features)) h
  where
    by : (p : Option Point) (m : Bool) → is_control (event_of p m f.lon f.lat (record { kind = 2; index = i }) (record { kind = 2; index = i })) ≡ false
        → event_of p m f.lon f.lat (record { kind = 2; index = i }) (record { kind = 2; index = i }) ≡ warn (record { kind = 2; index = i })
    by None m e = refl
    by (Some p) true e = refl
    by (Some p) false e = absurd (false≢true (sym e))

-- one more host feature f, the i-th
module _ {s positions : List ℕ} (i : ℕ) (f : NamedFeature) (fs : List NamedFeature) (g : drop i (scene_of (payload s)).features ≡ f ∷ fs) (d : ResolvedNames s positions (take i (scene_of (payload s)).features)) where
  abbrev before : List NamedFeature
  before = take i (scene_of (payload s)).features

  here : (x : List ℕ) → mentioned x (take (suc i) (scene_of (payload s)).features) ≡ (mentioned x before || same_bytes f.name x)
  here x = rw (taken_more _ i f fs g).0 (mentioned-more x before f)

  same_control : (x : List ℕ) → same_bytes f.name x ≡ true → {b : Bool} → is_control (feature_event (scene_of (payload s)) i f) ≡ b → (is_some (resolved (scene_of (payload s)) x) && not (mentioned x before)) ≡ b
  same_control x e c = rw (← same_eq f.name x e) (sym (feature_control (scene_of (payload s)) i f) ∙ c)

  pub names_same : is_control (feature_event (scene_of (payload s)) i f) ≡ false → ResolvedNames s positions (take (suc i) (scene_of (payload s)).features)
  names_same c = record { stands = d.stands; names = λ x. d.names x ∙ rw (here x) (by (is_some (resolved (scene_of (payload s)) x)) (mentioned x before) (same_bytes f.name x) (λ e. same_control x e c)) }
    where
      by : (p m t : Bool) → (t ≡ true → (p && not m) ≡ false) → (p && m) ≡ (p && (m || t))
      by false m t k = refl
      by true true t k = refl
      by true false true k = absurd (false≢true (sym (k refl)))
      by true false false k = refl

  pub names_more : {at len : ℕ} → f.name ≡ bytes_at (payload s) at len → LengthPrefixed (payload s) at len → at + len ≤ room s → is_control (feature_event (scene_of (payload s)) i f) ≡ true
      → ResolvedNames s (positions ++ (at - 1) ∷ []) (take (suc i) (scene_of (payload s)).features)
  names_more {at} {len} n a w c =
      record {
        stands = record { within = λ j g. in_range_lem j g (ltb j (length positions)) refl };
        names = λ x. rw (called_more (payload s) positions (at - 1) x, back, a.prefix, ← n, d.names x, here x) (by (is_some (resolved (scene_of (payload s)) x)) (mentioned x before) (same_bytes f.name x) (λ e. resolves x e));
      }
    where
      back : at - 1 + 1 ≡ at
      back = omega (arith, a.behind)

      resolves : (x : List ℕ) → same_bytes f.name x ≡ true → is_some (resolved (scene_of (payload s)) x) ≡ true
      resolves x e = and_left (is_some (resolved (scene_of (payload s)) x)) (not (mentioned x before)) (same_control x e c)

      in_range_lem : (j : ℕ) → j < length (positions ++ (at - 1) ∷ []) → (b : Bool) → ltb j (length positions) ≡ b → get_or (positions ++ (at - 1) ∷ []) j 0 + 1 + get_or (payload s) (get_or (positions ++ (at - 1) ∷ []) j 0) 0 ≤ room s
      in_range_lem j g true e = rw (get_or-append positions ((at - 1) ∷ []) 0 j (ltb-true j (length positions) e)) (d.stands.within j (ltb-true j (length positions) e))
      in_range_lem j g false e =
          let same : j ≡ length positions = omega (arith, g, ltb-false j (length positions) e, length-append positions ((at - 1) ∷ [])) in
          rw (same, get_or-append_seam positions (at - 1) [] 0) (omega (arith, a.prefix, back, w))

      by : (p m t : Bool) → (t ≡ true → p ≡ true) → ((p && m) || t) ≡ (p && (m || t))
      by true m t k = refl
      by false m true k = absurd (false≢true (k refl))
      by false m false k = refl

-- ---- a variable that is none: whether a host feature that resolves has its name tells which warning
pub lon_warns : (sc : Scene) (i : ℕ) (name : List ℕ) (lon : Float) (lat : Option Float) {b : Bool} → b ≡ (is_some (resolved sc name) && mentioned name sc.features) → is_control (lon_event sc i name lon lat) ≡ false
    → lon_event sc i name lon lat ≡ warn (record { kind = kind_by lat b; index = i })
unfolding lon_event kind_by event_of
lon_warns sc i name lon None e h = refl
lon_warns sc i name lon (Some lat) {b} e h = rw e (by (resolved sc name) (mentioned name sc.features) h)
  where
    by : (p : Option Point) (m : Bool) → is_control (event_of p m lon lat (record { kind = 2; index = i }) (record { kind = 3; index = i })) ≡ false
        → event_of p m lon lat (record { kind = 2; index = i }) (record { kind = 3; index = i }) ≡ warn (record { kind = kind_by (Some lat) (is_some p && m); index = i })
    by None m e = refl
    by (Some p) true e = refl
    by (Some p) false e = absurd (false≢true (sym e))

pub kind_told : (lat : Option Float) (b : Bool) → kind_by lat b ≡ cond (is_some lat && b) 3 2
unfolding kind_by
kind_told None b = refl
kind_told (Some x) b = refl
