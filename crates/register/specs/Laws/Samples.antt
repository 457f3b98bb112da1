-- The definitions on known scenes: rows 10 and 11 of document 01's table, each refusal from 7 to 14, the warnings' order, and what control points come to.
use Rattle.std.specs.Prelude.{◌≡◌, refl, List, [], ◌∷◌, ◌++◌, ℕ, zero, suc, ◌+◌, ◌*◌, ◌/◌, ◌%◌, ◌^◌, length, take, replicate}
use Rattle.std.specs.Float.{binary64}
use Rattle.std.specs.Float.Ieee.{to_bits}
use Rattle.stream.specs.Conditions.{first_of}
use Rattle.scene.specs.Scene.{Scene, scene_of}
use Rattle.projection.specs.declared.Registration.{Registration}
use Rattle.register.specs.Register.{controls_of, registration_of, of_registration, register_warnings}
use Rattle.values.specs.Warnings.{Warning}
use Rattle.register.specs.Inner.Outcome.{register_refusal}
use Rattle.register.specs.Laws.Everything.{everything}

-- ---- records, by their bytes; a float by its pattern
abbrev float : ℕ → List ℕ
float n =
    n % 256 ∷ n / 2 ^ 8 % 256 ∷ n / 2 ^ 16 % 256 ∷ n / 2 ^ 24 % 256 ∷ n / 2 ^ 32 % 256 ∷ n / 2 ^ 40 % 256 ∷ n / 2 ^ 48 % 256 ∷ n / 2 ^ 56 ∷ []

abbrev one : ℕ
one = 0x3ff0000000000000

abbrev two : ℕ
two = 0x4000000000000000

abbrev three : ℕ
three = 0x4008000000000000

-- rescale 1 and the frame Mercator
abbrev mercator : List ℕ
mercator = 1 ∷ float one ++ 2 ∷ 1 ∷ 1 ∷ []

abbrev anchor : ℕ → ℕ → List ℕ
anchor lon lat = 2 ∷ 2 ∷ float lon ++ float lat

abbrev option : ℕ → ℕ → List ℕ
option o v = 2 ∷ o ∷ float v

-- a host feature, a variable and a place, by the name's bytes
abbrev feature : List ℕ → ℕ → ℕ → List ℕ
feature name lon lat = 3 ∷ length name ∷ name ++ float lon ++ float lat

abbrev variable : List ℕ → ℕ → List ℕ
variable name v = 4 ∷ length name ∷ name ++ float v

abbrev place : List ℕ → ℕ → ℕ → List ℕ
place name x y = 5 ∷ length name ∷ name ++ float x ++ float y ++ replicate 9 0

abbrev refusal : List ℕ → ℕ
refusal l = register_refusal (scene_of (l ++ 0 ∷ []))

-- 85.06 and 1e9, and the next f64 above each
abbrev edge : ℕ
edge = 0x405543d70a3d70a4

abbrev most : ℕ
most = 0x41cdcd6500000000

-- geo_px
abbrev px : List ℕ
px = 103 ∷ 101 ∷ 111 ∷ 95 ∷ 112 ∷ 120 ∷ []

refusals :
    -- row 10: the scale 1e9, and the next above
    (refusal (mercator ++ anchor 0 0 ++ option 3 most) ≡ 0)
    × (refusal (mercator ++ anchor 0 0 ++ option 3 (most + 1)) ≡ 14)
    -- row 11: the latitude 85.06, and the next above
    × (refusal (mercator ++ anchor 0 edge) ≡ 0)
    × (refusal (mercator ++ anchor 0 (edge + 1)) ≡ 8)
    -- refusals 7, 10, 12 and 13: no frame, no anchor, a scale of zero, pixels without a view's scale
    × (refusal (1 ∷ float one ++ anchor 0 0) ≡ 7)
    × (refusal mercator ≡ 10)
    × (refusal (mercator ++ anchor 0 0 ++ option 3 0) ≡ 12)
    × (refusal (mercator ++ anchor 0 0 ++ variable px one) ≡ 13)
    -- an anchor is checked also where a control point makes it unused, and one that resolves to nothing is not
    × (refusal (mercator ++ anchor 0 (edge + 1) ++ feature (65 ∷ []) 0 0 ++ place (65 ∷ []) 0 0) ≡ 8)
    × (refusal (mercator ++ anchor 0 0 ++ feature (65 ∷ []) 0 (edge + 1)) ≡ 0)
unfolding everything
refusals = (refl, refl, refl, refl, refl, refl, refl, refl, refl, refl)

-- A named twice, B without a place, an unused view's scale, C_lon without C_lat, A_lon behind the feature A, half an anchor
abbrev warned : List Warning
warned =
    register_warnings
    (scene_of
    (mercator
    ++ option 6 one
    ++ feature (65 ∷ []) 0 0
    ++ feature (66 ∷ []) 0 0
    ++ feature (65 ∷ []) 0 0
    ++ variable (65 ∷ 95 ∷ 108 ∷ 97 ∷ 116 ∷ []) 0
    ++ variable (65 ∷ 95 ∷ 108 ∷ 111 ∷ 110 ∷ []) 0
    ++ variable (67 ∷ 95 ∷ 108 ∷ 111 ∷ 110 ∷ []) 0
    ++ variable (103 ∷ 101 ∷ 111 ∷ 95 ∷ 108 ∷ 97 ∷ 116 ∷ []) 0
    ++ place (65 ∷ []) 0 0
    ++ 0 ∷ []))

abbrev said : ℕ → ℕ → Warning
said kind index = record { kind = kind; index = index }

warnings : warned ≡ said 1 0 ∷ said 2 1 ∷ said 2 2 ∷ said 3 1 ∷ said 2 2 ∷ said 2 0 ∷ []
unfolding everything
warnings = refl

-- ---- control points
-- the features, then the places: A at 10° E, 50° N, B at 10.5° E, 50.5° N and C at 10° E, 51° N
abbrev features_AB : List ℕ
features_AB = feature (65 ∷ []) 0x4024000000000000 0x4049000000000000 ++ feature (66 ∷ []) 0x4025000000000000 0x4049400000000000

abbrev feature_C : List ℕ
feature_C = feature (67 ∷ []) 0x4024000000000000 0x4049800000000000

-- at (0, 0), (2, 1) and (1, 3)
abbrev places_AB : List ℕ
places_AB = place (65 ∷ []) 0 0 ++ place (66 ∷ []) two one

abbrev place_C : List ℕ
place_C = place (67 ∷ []) one three

-- longitude, latitude, origin, scale and bearing by their patterns, then the method and the number of control points
abbrev bits : Registration → List ℕ
bits r =
    to_bits binary64 r.lon
    ∷ to_bits binary64 r.lat
    ∷ to_bits binary64 r.x
    ∷ to_bits binary64 r.y
    ∷ to_bits binary64 r.scale
    ∷ to_bits binary64 r.bearing
    ∷ r.method
    ∷ r.controls
    ∷ []

abbrev registered : List ℕ → List ℕ
registered l = bits (registration_of (scene_of (l ++ 0 ∷ [])))

-- the patterns are those of the oracle's G line on the same stream, the last two numbers those of its R line
fits :
    (registered (mercator ++ features_AB ++ places_AB)
    ≡ 0x4024800000000000
    ∷ 0x404920157d40ba42
    ∷ 0x3ff0000000000000
    ∷ 0x3fe0000000000000
    ∷ 0x40e68fbf8f28dead
    ∷ 0xc03ed6bdeb9d80cb
    ∷ 1
    ∷ 2
    ∷ [])
    × (registered (mercator ++ features_AB ++ feature_C ++ places_AB ++ place_C)
    ≡ 0x4024555555555550
    ∷ 0x40494039d1b2da52
    ∷ 0x3ff0000000000000
    ∷ 0x3ff5555555555555
    ∷ 0x40e890b88c0d4930
    ∷ 0xc03259fe65a07d1c
    ∷ 2
    ∷ 3
    ∷ [])
unfolding everything
fits = (refl, refl)

-- refusal 11: A and B at one point of the canvas
coincide : refusal (mercator ++ features_AB ++ place (65 ∷ []) one one ++ place (66 ∷ []) one one) ≡ 11
unfolding everything
coincide = refl

-- n control points, each with one byte for its name, on the equator at 1° E and on, and on the canvas alike
abbrev along : ℕ → ℕ
along n = one + n * 2 ^ 44

abbrev features_to : ℕ → List ℕ
features_to zero = []
features_to (suc n) = features_to n ++ feature ((33 + n) ∷ []) (along n) 0

abbrev places_to : ℕ → List ℕ
places_to zero = []
places_to (suc n) = places_to n ++ place ((33 + n) ∷ []) (along n) 0

abbrev scene_of_lem : ℕ → Scene
scene_of_lem n = scene_of (mercator ++ features_to n ++ places_to n ++ 0 ∷ [])

-- refusal 9: 65 of them. 64 pass conditions 7 to 9; their fit is not computed here.
too_many :
    (register_refusal (scene_of_lem 65) ≡ 9)
    × (length (controls_of (scene_of_lem 64)) ≡ 64)
    × (first_of (take 3 (of_registration (scene_of_lem 64))) ≡ 0)
unfolding everything
too_many = (refl, refl, refl)
