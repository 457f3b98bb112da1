-- Each answer of each reader, from the tests that lead to it.
use mathlib.Core.Path.{◌≡◌, refl, ap, ◌∙◌}
use mathlib.Core.List.{List}
use mathlib.Core.Bool.{Bool, true, false, ◌||◌, and-false}
use Prim.Native.Nat.{ℕ, ◌+◌, ◌*◌, ◌≤◌, ◌<◌}
use native.Mathlib.Nat.{mul-le-mul}
use native.Mathlib.Omega.{arith}
use lib.ListN.{length, get_or}
use lib.Dec.{eqb, leb, ltb}
use borrow.Author.Tests.{le-leb, lt-leb, lt-ltb, le-ltb, eq-eqb, ne_eqb}
use Rattle.std.specs.Prelude.{None, Some}
use Rattle.std.specs.Bool.{then_some}
use Rattle.stream.specs.Numbers.{u16_at}
use Rattle.records.specs.declared.records.Record.TheVariants.{Rescale, Option, Feature, Variable, Place, Item, Points, Path}
use Rattle.records.specs.declared.records.Step.{Step}
use Rattle.records.specs.declared.records.Step.TheVariants.{Got, End, Bad}
use Rattle.records.specs.Records.{pick, all_ascii_graphic, named, labelled, named_then, counted, all_zero, option_width, option_fits, values_width, item_begins, item_fits, item_with}
use Rattle.records.specs.Records.{end_of, rescale_of, option_of, feature_of, variable_of, place_of, item_of, points_of, path_with, cubics_of, polyline_of, path_of, by_tag, record_of}

-- ---- what an option's value takes
module _ (o : ℕ) where
  pub width_frame : o ≡ 1 → 1 ≡ option_width o
  unfolding option_width
  width_frame h = rw h refl

  pub width_anchor : o ≡ 2 → 16 ≡ option_width o
  unfolding option_width
  width_anchor h = rw h refl

  pub width_other : (o ≡ 1 → ⊥) → (o ≡ 2 → ⊥) → 8 ≡ option_width o
  unfolding option_width
  width_other a b = rw (ne_eqb o 1 a, ne_eqb o 2 b) refl

-- the bytes that a count asks for
pub product : {a b : ℕ} → a < 256 → b < 65536 → a * b ≤ 255 * 65535
product a b = mul-le-mul {n₂ = 255} {m₂ = 65535} (omega arith) (omega arith)

-- what a number that was read, or none, says
none_told : (b : Bool) (x : ℕ) → then_some b x ≡ None → b ≡ false
none_told true x e = cc
none_told false x e = refl

pub some_told : (b : Bool) (x y : ℕ) → then_some b x ≡ Some y → (b ≡ true) × (y ≡ x)
some_told true x y e = (refl, cc)
some_told false x y e = (cc, cc)

module _ (l : List ℕ) where
  -- ---- a name at p; x is its length byte, and n the same as the code has it
  module _ (p : ℕ) where
    pub named_cut : length l ≤ p → false ≡ named l p
    unfolding named
    named_cut h = simp (le-ltb p (length l) h)

    pub named_none : get_or l p 0 < 1 → false ≡ named l p
    unfolding named
    named_none h = simp (lt-leb 1 (get_or l p 0) h, and-false)

    pub named_long : 31 < get_or l p 0 → false ≡ named l p
    unfolding named
    named_long h = simp (lt-leb (get_or l p 0) 31 h, and-false)

    pub named-short : length l < p + 1 + get_or l p 0 → false ≡ named l p
    unfolding named
    named-short h = simp (lt-leb (p + 1 + get_or l p 0) (length l) h, and-false)

    named-at : p < length l → 1 ≤ get_or l p 0 → get_or l p 0 ≤ 31 → p + 1 + get_or l p 0 ≤ length l → all_ascii_graphic l (p + 1) (get_or l p 0) ≡ named l p
    unfolding named
    named-at a b c d = simp (lt-ltb p (length l) a, le-leb 1 (get_or l p 0) b, le-leb (get_or l p 0) 31 c, le-leb (p + 1 + get_or l p 0) (length l) d)

    pub named-is : {x n : ℕ} {r : Bool} → p < length l → x ≡ get_or l p 0 → n ≡ x → 1 ≤ n → n ≤ 31 → p + 1 + n ≤ length l → r ≡ all_ascii_graphic l (p + 1) n → r ≡ named l p
    named-is a x n b c d r =
        let e = n ∙ x in
        r ∙ ap (λ (k : ℕ). all_ascii_graphic l (p + 1) k) e ∙ named-at a (omega arith) (omega arith) (omega arith)

    pub label_none : p < length l → get_or l p 0 ≡ 0 → true ≡ labelled l p
    unfolding labelled
    label_none h e = rw (lt-ltb p (length l) h, eq-eqb (get_or l p 0) 0 e) refl

    pub label_some : {r : Bool} → (get_or l p 0 ≡ 0 → ⊥) → r ≡ named l p → r ≡ labelled l p
    unfolding labelled
    label_some e q = rw (ne_eqb (get_or l p 0) 0 e, and-false) q

  -- ---- a name and what follows it, a count and what follows it
  pub then_nameless : (more : ℕ) → named l 1 ≡ false → None ≡ then_some (named_then l more) (get_or l 1 0)
  unfolding named_then
  then_nameless more h = rw h refl

  pub then_is : (more : ℕ) {x n len : ℕ} → named l 1 ≡ true → x ≡ get_or l 1 0 → n ≡ x → len ≡ length l → then_some (leb (2 + more + n) len) x ≡ then_some (named_then l more) (get_or l 1 0)
  unfolding named_then
  then_is more h x n e = rw (h, n, x, e) refl

  module _ (p each : ℕ) where
    pub counted_cut : length l < p + 2 → None ≡ then_some (counted l p each) (u16_at l p)
    unfolding counted
    counted_cut h = rw (lt-leb (p + 2) (length l) h) refl

    pub counted_is : {k n len : ℕ} → p + 2 ≤ length l → k ≡ u16_at l p → n ≡ k → len ≡ length l → then_some (leb (p + 2 + each * n) len) k ≡ then_some (counted l p each) (u16_at l p)
    unfolding counted
    counted_is h k n e = rw (le-leb (p + 2) (length l) h, n, k, e) refl

  -- ---- 0 and 1
  pub end_is : all_zero l ≡ true → End ≡ end_of l
  unfolding end_of
  end_is h = rw h refl

  pub end_not : all_zero l ≡ false → Bad ≡ end_of l
  unfolding end_of
  end_not h = rw h refl

  pub rescale-short : length l < 9 → Bad ≡ rescale_of l
  unfolding rescale_of
  rescale-short h = rw (lt-leb 9 (length l) h) refl

  pub rescale-is : 9 ≤ length l → Got Rescale 9 ≡ rescale_of l
  unfolding rescale_of
  rescale-is h = rw (le-leb 9 (length l) h) refl

  -- ---- 2
  module _ (o : ℕ) where
    pub choice_low : o < 1 → false ≡ option_fits l o
    unfolding option_fits
    choice_low h = rw (lt-leb 1 o h) refl

    pub choice_high : 7 < o → false ≡ option_fits l o
    unfolding option_fits
    choice_high h = rw (lt-leb o 7 h, and-false) refl

    pub choice_short : length l < 2 + option_width o → false ≡ option_fits l o
    unfolding option_fits
    choice_short h = simp (lt-leb (2 + option_width o) (length l) h, and-false)

    choice_fits : 1 ≤ o → o ≤ 7 → 2 + option_width o ≤ length l → (ltb 1 o || leb (get_or l 2 0) 1) ≡ option_fits l o
    unfolding option_fits
    choice_fits a b c = simp (le-leb 1 o a, le-leb o 7 b, le-leb (2 + option_width o) (length l) c)

    pub choice_other : 1 < o → o ≤ 7 → 2 + option_width o ≤ length l → true ≡ option_fits l o
    choice_other a b c = rw (← choice_fits (omega arith) b c, lt-ltb 1 o a) refl

    pub choice_frame : {x : ℕ} → 1 ≤ o → o ≤ 1 → 2 + option_width o ≤ length l → x ≡ get_or l 2 0 → leb x 1 ≡ option_fits l o
    choice_frame a b c x = rw (← choice_fits a (omega arith) c, le-ltb 1 o b, x) refl

  pub choice_cut : length l < 2 → Bad ≡ option_of l
  unfolding option_of
  choice_cut h = rw (lt-leb 2 (length l) h) refl

  pub choice_bad : {o : ℕ} → o ≡ get_or l 1 0 → option_fits l o ≡ false → Bad ≡ option_of l
  unfolding option_of
  choice_bad o h = rw (← o, h, and-false) refl

  pub choice_is : {o w : ℕ} → 2 ≤ length l → o ≡ get_or l 1 0 → option_fits l o ≡ true → w ≡ option_width o → Got (Option o) (2 + w) ≡ option_of l
  unfolding option_of
  choice_is a o h w = rw (w, ← o, h, le-leb 2 (length l) a) refl

  -- ---- 3, 4 and 5: what a name and so many bytes make
  pub feature-not : then_some (named_then l 16) (get_or l 1 0) ≡ None → Bad ≡ feature_of l
  unfolding feature_of
  feature-not e = rw (none_told _ _ e) refl

  pub feature-is : {x n : ℕ} → then_some (named_then l 16) (get_or l 1 0) ≡ Some x → n ≡ x → Got (Feature x) (18 + n) ≡ feature_of l
  unfolding feature_of
  feature-is e n = let told = some_told _ _ _ e in rw (told.0, n, told.1) refl

  pub variable-not : then_some (named_then l 8) (get_or l 1 0) ≡ None → Bad ≡ variable_of l
  unfolding variable_of
  variable-not e = rw (none_told _ _ e) refl

  pub variable-is : {x n : ℕ} → then_some (named_then l 8) (get_or l 1 0) ≡ Some x → n ≡ x → Got (Variable x) (10 + n) ≡ variable_of l
  unfolding variable_of
  variable-is e n = let told = some_told _ _ _ e in rw (told.0, n, told.1) refl

  pub place-not : then_some (named_then l 25) (get_or l 1 0) ≡ None → Bad ≡ place_of l
  unfolding place_of
  place-not e = rw (none_told _ _ e) refl

  pub place_nested : {n : ℕ} → n ≡ get_or l 1 0 → 1 < get_or l (18 + n) 0 → Bad ≡ place_of l
  unfolding place_of
  place_nested {n} e h = rw (← e, lt-leb (get_or l (18 + n) 0) 1 h, and-false) refl

  pub place_is : {x n : ℕ} → then_some (named_then l 25) (get_or l 1 0) ≡ Some x → n ≡ x → get_or l (18 + n) 0 ≤ 1 → Got (Place x) (27 + n) ≡ place_of l
  unfolding place_of
  place_is {n = n} h e k = let told = some_told _ _ _ h in rw (told.0, ← told.1, ← e, le-leb (get_or l (18 + n) 0) 1 k) refl

  -- ---- 6: each test that fails, and all that hold
  pub begins_cut : length l < 4 → false ≡ item_begins l
  unfolding item_begins
  begins_cut h = rw (lt-leb 4 (length l) h) refl

  pub begins_kind : 10 < get_or l 1 0 → false ≡ item_begins l
  unfolding item_begins
  begins_kind h = rw (lt-leb (get_or l 1 0) 10 h, and-false) refl

  pub begins_flags : 32 ≤ get_or l 2 0 → false ≡ item_begins l
  unfolding item_begins
  begins_flags h = simp (le-ltb (get_or l 2 0) 32 h, and-false)

  pub begins_is : {b : Bool} → 4 ≤ length l → get_or l 1 0 ≤ 10 → get_or l 2 0 < 32 → b ≡ labelled l 3 → b ≡ item_begins l
  unfolding item_begins
  begins_is a k f b = rw (le-leb 4 (length l) a, le-leb (get_or l 1 0) 10 k, lt-ltb (get_or l 2 0) 32 f) b

  -- n is the label's length, m the presence byte
  module _ {n m : ℕ} (en : n ≡ get_or l 3 0) (em : m ≡ get_or l (12 + n) 0) where
    item_with_lem : item_with l n m ≡ item_of l
    unfolding item_of
    item_with_lem = rw (← en, ← em) refl

    item_bad : item_fits l n m ≡ false → Bad ≡ item_of l
    unfolding item_with
    item_bad h = rw (← item_with_lem, h) refl

    pub item_has : 32 ≤ m → Bad ≡ item_of l
    unfolding item_fits
    item_has h = item_bad (simp (le-ltb m 32 h, and-false))

    pub item_long : length l < 13 + n + values_width m → Bad ≡ item_of l
    unfolding item_fits
    item_long h = item_bad (simp (lt-leb (13 + n + values_width m) (length l) h, and-false))

    item_good : item_begins l ≡ true → m < 32 → 13 + n + values_width m ≤ length l → Got (Item (get_or l 1 0) (get_or l 2 0) n m) (13 + n + values_width m) ≡ item_of l
    unfolding item_with item_fits
    item_good a b c = rw (← item_with_lem, a, le-leb (13 + n) (length l) (omega arith), lt-ltb m 32 b, le-leb (13 + n + values_width m) (length l) c) refl

  pub item-not : item_begins l ≡ false → Bad ≡ item_of l
  unfolding item_fits
  item-not h = item_bad refl refl (rw h refl)

  pub item-short : length l < 13 + get_or l 3 0 → Bad ≡ item_of l
  unfolding item_fits
  item-short h = item_bad refl refl (rw (lt-leb (13 + get_or l 3 0) (length l) h, and-false) refl)

  -- from the values that the code has
  pub item-is :
      {k f b n h m w : ℕ}
      → k ≡ get_or l 1 0
      → f ≡ get_or l 2 0
      → b ≡ get_or l 3 0
      → n ≡ b
      → h ≡ get_or l (12 + n) 0
      → m ≡ h
      → w ≡ values_width m
      → item_begins l ≡ true
      → h < 32
      → 13 + n + w ≤ length l
      → Got (Item k f b h) (13 + n + w) ≡ item_of l
  item-is k f b n h m w a c d = cc (item_good (n ∙ b) (m ∙ h) a (omega arith) (omega arith))

  -- ---- 7 and 8
  pub points-not : then_some (counted l 2 16) (u16_at l 2) ≡ None → Bad ≡ points_of l
  unfolding points_of
  points-not e = rw (none_told _ _ e) refl

  pub points_role : 1 < get_or l 1 0 → Bad ≡ points_of l
  unfolding points_of
  points_role h = rw (lt-leb (get_or l 1 0) 1 h, and-false) refl

  pub points-is : {x k n : ℕ} → then_some (counted l 2 16) (u16_at l 2) ≡ Some k → x ≡ get_or l 1 0 → x ≤ 1 → n ≡ k → Got (Points x k) (4 + 16 * n) ≡ points_of l
  unfolding points_of
  points-is {x} h e b n = let told = some_told _ _ _ h in rw (told.0, ← e, le-leb x 1 b, n, told.1) refl

  module _ (form p each : ℕ) where
    pub form_not : then_some (counted l p each) (u16_at l p) ≡ None → Bad ≡ path_with l form p each
    unfolding path_with
    form_not e = rw (none_told _ _ e) refl

    pub form_is :
        {x y k n : ℕ}
        → then_some (counted l p each) (u16_at l p) ≡ Some k
        → x ≡ get_or l 1 0
        → y ≡ get_or l 2 0
        → n ≡ k
        → Got (Path x y form k) (p + 2 + each * n) ≡ path_with l form p each
    unfolding path_with
    form_is h x y n = let told = some_told _ _ _ h in rw (told.0, x, y, n, told.1) refl

  pub path_cut : length l < 4 → Bad ≡ path_of l
  unfolding path_of
  path_cut h = rw (lt-leb 4 (length l) h) refl

  pub path_role : 1 < get_or l 1 0 → Bad ≡ path_of l
  unfolding path_of
  path_role h = rw (lt-leb (get_or l 1 0) 1 h, and-false) refl

  pub path_closed : 1 < get_or l 2 0 → Bad ≡ path_of l
  unfolding path_of
  path_closed h = simp (lt-leb (get_or l 2 0) 1 h, and-false)

  pub path_form : 1 < get_or l 3 0 → Bad ≡ path_of l
  unfolding path_of
  path_form h = simp (lt-leb (get_or l 3 0) 1 h, and-false)

  -- by the form, where the rest is right
  pub path-is :
      {t : ℕ} {r : Step}
      → 4 ≤ length l
      → get_or l 1 0 ≤ 1
      → get_or l 2 0 ≤ 1
      → get_or l 3 0 ≡ t
      → r ≡ pick (leb t 1) (pick (eqb t 0) (cubics_of l) (polyline_of l)) Bad
      → r ≡ path_of l
  unfolding path_of
  path-is a b c e h = rw (le-leb 4 (length l) a, le-leb (get_or l 1 0) 1 b, le-leb (get_or l 2 0) 1 c, e) h

  -- ---- by the tag
  pub record_none : length l ≡ 0 → Bad ≡ record_of l
  unfolding record_of
  record_none h = rw (eq-eqb (length l) 0 h) refl

  pub record_is : {t : ℕ} {r : Step} → (length l ≡ 0 → ⊥) → get_or l 0 0 ≡ t → r ≡ by_tag l t → r ≡ record_of l
  unfolding record_of
  record_is some e h = rw (ne_eqb (length l) 0 some, e) h

  pub tag_other : (t : ℕ) → 9 ≤ t → Bad ≡ by_tag l t
  unfolding by_tag
  tag_other t h =
      let no : (k : ℕ) → k < 9 → eqb t k ≡ false = λ k below. ne_eqb t k (λ e. absurd (omega arith)) in
      simp (
        no 0 (omega arith),
        no 1 (omega arith),
        no 2 (omega arith),
        no 3 (omega arith),
        no 4 (omega arith),
        no 5 (omega arith),
        no 6 (omega arith),
        no 7 (omega arith),
        no 8 (omega arith),
      )
