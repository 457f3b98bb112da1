-- The twelve rows of document 01's table as one theorem over one table: each row is checked by the definitions that the contracts cite.
use Rattle.std.specs.Prelude.{◌≡◌, refl, Bool, true, false, not, ◌&&◌, cond, List, [], ◌∷◌, ◌++◌, ℕ, ◌+◌, ◌/◌, ◌%◌, ◌^◌, eqb, length, replicate, Float, Option, None, Some}
use Rattle.std.specs.Float.{binary64}
use Rattle.std.specs.Float.Ieee.{of_bits, to_bits}
use Rattle.float.specs.Functions.{round_of}
use Rattle.elementary.specs.Constants as K
use Rattle.geodesy.specs.Geodesy.{normalize_lon_of}
use Rattle.scene.specs.Scene.{scene_of}
use Rattle.values.specs.declared.Point.{Point}
use Rattle.scene.specs.Labels.{point_of_label}
use Rattle.register.specs.Inner.Outcome.{register_refusal}
use Rattle.budget.specs.Budget.{fresh, take_of}
use Rattle.densify.specs.Densify.{Block, segment_parts, box_ring_of, flatten_cubic_of, densify_polyline_of}
use Rattle.reference.specs.Laws.Everything.{everything}

-- ---- the kinds of row; a float is its pattern
pub data Row : Type 0 where
  -- what is left, wanted and the floor; the grant, what is left then, and whether it fell short
  draw : (left wanted floor grant rest : ℕ) (short : Bool) → Row
  -- a segment's length in metres, at 100 m a part
  segment : (metres parts : ℕ) → Row
  rounded : (v w : ℕ) → Row
  normalised : (v w : ℕ) → Row
  -- the label A in the scene of these records names the point (x, x)
  label : (records : List ℕ) (x : ℕ) → Row
  -- a sharp box's width and height, and the positions of its ring once densified
  sharp : (w h positions : ℕ) → Row
  -- the registration's refusal of a scene, 0 where it is accepted
  refused : (records : List ℕ) (number : ℕ) → Row
  -- a cubic that is not flat: what is left; how many points it makes, and whether that is short
  cubic : (left points : ℕ) (short : Bool) → Row

-- ---- the check
abbrev f : ℕ → Float
f v = of_bits binary64 v

abbrev is : Float → ℕ → Bool
is v w = eqb (to_bits binary64 v) w

abbrev alike : Bool → Bool → Bool
alike a b = cond a b (not b)

abbrev origin : Point
origin = record { x = K.zero; y = K.zero }

-- far from flat: it bends through the corners of a square of 2
abbrev bent : Block
bent =
    record {
      p0 = origin;
      c1 = record { x = K.zero; y = K.two };
      c2 = record { x = K.two; y = K.two };
      p3 = record { x = K.two; y = K.zero };
    }

-- 100
abbrev c100 : Float
c100 = f 0x4059000000000000

-- 0.001
abbrev c0001 : Float
c0001 = f 0x3f50624dd2f1a9fc

abbrev is_at : Option Point → ℕ → Bool
is_at None v = false
is_at (Some p) v = is p.x v && is p.y v

abbrev named-A : List ℕ → Option Point
named-A l = let s = scene_of (l ++ 0 ∷ []) in point_of_label (65 ∷ []) s.places s.items

abbrev pub holds : Row → Bool
holds (draw left wanted floor grant rest short) =
    let t = take_of (fresh left) wanted floor in
    eqb t.granted grant && eqb t.budget.left rest && alike t.budget.hit short
holds (segment metres parts) = eqb (segment_parts c100 (f metres)) parts
holds (rounded v w) = is (round_of (f v)) w
holds (normalised v w) = is (normalize_lon_of (f v)) w
holds (label l x) = is_at (named-A l) x
holds (sharp w h n) =
    let ring = box_ring_of c100 K.one c0001 origin (f w) (f h) K.zero (fresh 2000000) in
    eqb (length (densify_polyline_of c100 K.one ring.points ring.after).points) n
holds (refused l n) = eqb (register_refusal (scene_of (l ++ 0 ∷ []))) n
holds (cubic left points short) =
    let m = flatten_cubic_of c0001 bent (fresh left) in
    eqb (length m.points) points && alike m.after.hit short

abbrev pub all_hold : List Row → Bool
all_hold [] = true
all_hold (r ∷ rs) = holds r && all_hold rs

-- ---- records, by their bytes
abbrev float : ℕ → List ℕ
float n =
    n % 256 ∷ n / 2 ^ 8 % 256 ∷ n / 2 ^ 16 % 256 ∷ n / 2 ^ 24 % 256 ∷ n / 2 ^ 32 % 256 ∷ n / 2 ^ 40 % 256 ∷ n / 2 ^ 48 % 256 ∷ n / 2 ^ 56 ∷ []

abbrev one : ℕ
one = 0x3ff0000000000000

abbrev two : ℕ
two = 0x4000000000000000

abbrev word : ℕ → List ℕ
word n = n ∷ replicate 3 0

-- a place and an item labelled A: nested or flags, line, column, and a float for both coordinates
abbrev place : ℕ → ℕ → ℕ → ℕ → List ℕ
place nested line col v = 5 ∷ 1 ∷ 65 ∷ float v ++ float v ++ nested ∷ word line ++ word col

abbrev item : ℕ → ℕ → ℕ → ℕ → List ℕ
item flags line col v = 6 ∷ 0 ∷ flags ∷ 1 ∷ 65 ∷ word line ++ word col ++ 1 ∷ float v ++ float v

abbrev rescale : List ℕ
rescale = 1 ∷ float one

-- the frame Mercator and an anchor
abbrev anchored : ℕ → ℕ → List ℕ
anchored lon lat = rescale ++ 2 ∷ 1 ∷ 1 ∷ 2 ∷ 2 ∷ float lon ++ float lat

abbrev scaled_by : ℕ → List ℕ
scaled_by v = 2 ∷ 3 ∷ float v

-- 85.06 and 1e9
abbrev edge : ℕ
edge = 0x405543d70a3d70a4

abbrev most : ℕ
most = 0x41cdcd6500000000

-- ---- the table
abbrev pub table : List Row
table =
    -- 1: left 5, wanted 9, floor 8: 8, left 0, short
    draw 5 9 8 8 0 true
    -- 2: left 9, wanted 9, floor 8: 9, left 0
    ∷ draw 9 9 8 9 0 false
    -- 3: left 0, wanted 1, floor 1: 1
    ∷ draw 0 1 1 1 0 false
    -- 4: a segment of 100 m is one part, one of 101 m two
    ∷ segment 0x4059000000000000 1
    ∷ segment 0x4059400000000000 2
    -- 5: 2.5 and -0.5 rounded: 3 and -1
    ∷ rounded 0x4004000000000000 0x4008000000000000
    ∷ rounded 0xbfe0000000000000 0xbff0000000000000
    -- 6: longitude -180 and 190 normalised: 180 and -170
    ∷ normalised 0xc066800000000000 0x4066800000000000
    ∷ normalised 0x4067c00000000000 0xc065400000000000
    -- 7: a place and an item of equal key: the place
    ∷ label (rescale ++ place 0 7 3 one ++ item 0 7 3 two) one
    -- 8: nested in line 90, top-level in line 0: the top-level one, whichever is which
    ∷ label (rescale ++ place 1 90 0 two ++ item 0 0 0 one) one
    ∷ label (rescale ++ place 0 0 0 one ++ item 2 90 0 two) one
    -- 9: a sharp box of no width and height has 4 positions
    ∷ sharp 0 0 4
    -- 10: the scale 1e9, and the next above
    ∷ refused (anchored 0 0 ++ scaled_by most) 0
    ∷ refused (anchored 0 0 ++ scaled_by (most + 1)) 14
    -- 11: the latitude 85.06, and the next above
    ∷ refused (anchored 0 edge) 0
    ∷ refused (anchored 0 (edge + 1)) 8
    -- 12: a piece that is not flat, here a whole cubic, with 1 left: one point, short
    ∷ cubic 1 1 true
    ∷ []

pub rows : all_hold table ≡ true
unfolding everything
rows = refl
