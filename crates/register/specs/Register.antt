-- `register` of the source's register.rs, with the numbers of document 01: conditions 7 to 14, warnings 1 to 4, and the registration.
use Rattle.std.specs.Option.{option_or}
use Rattle.std.specs.Prelude.{ℕ, zero, suc, ◌-◌, Bool, true, false, not, ◌&&◌, ◌||◌, cond, List, [], ◌∷◌, ◌++◌, length, take, drop, eqb, ltb, Float, Option, None, Some, is_some, unwrap_or}
use Rattle.std.specs.Float.{binary64}
use Rattle.std.specs.Float.Ieee.{of_bits, mul, div, eq, ne, lt, le}
use Rattle.std.specs.Float.Ieee.Scale.{finite}
use Rattle.values.specs.Warnings.{Warning}
use Rattle.float.specs.Functions.{abs_of}
use Rattle.stream.specs.Conditions.{Condition}
use Rattle.scene.specs.Scene.{NamedFeature, NamedValue, Scene}
use Rattle.values.specs.declared.Point.{Point}
use Rattle.scene.specs.Labels.{same_bytes, variable_of, point_of_label}
use Rattle.fit.specs.declared.Control.{Control}
use Rattle.fit.specs.declared.Fit.{Fit}
use Rattle.projection.specs.declared.Registration.{Registration}
use Rattle.fit.specs.Fit.{fit_of}

-- ---- names of variables, by their bytes
abbrev pub geo : List ℕ
geo = 103 ∷ 101 ∷ 111 ∷ []

-- _lon and _lat
abbrev pub suffix_lon : List ℕ
suffix_lon = 95 ∷ 108 ∷ 111 ∷ 110 ∷ []

abbrev pub suffix_lat : List ℕ
suffix_lat = 95 ∷ 108 ∷ 97 ∷ 116 ∷ []

abbrev pub geo_lon : List ℕ
geo_lon = geo ++ suffix_lon

abbrev pub geo_lat : List ℕ
geo_lat = geo ++ suffix_lat

-- geo_px, geo_frame, geo_scale, geo_bearing
abbrev pub geo_px : List ℕ
geo_px = geo ++ 95 ∷ 112 ∷ 120 ∷ []

abbrev pub geo_frame : List ℕ
geo_frame = geo ++ 95 ∷ 102 ∷ 114 ∷ 97 ∷ 109 ∷ 101 ∷ []

abbrev pub geo_scale : List ℕ
geo_scale = geo ++ 95 ∷ 115 ∷ 99 ∷ 97 ∷ 108 ∷ 101 ∷ []

abbrev pub geo_bearing : List ℕ
geo_bearing = geo ++ 95 ∷ 98 ∷ 101 ∷ 97 ∷ 114 ∷ 105 ∷ 110 ∷ 103 ∷ []

-- ---- numbers
abbrev pub f0 : Float
f0 = of_bits binary64 0

abbrev pub f1 : Float
f1 = of_bits binary64 0x3ff0000000000000

abbrev pub f100 : Float
f100 = of_bits binary64 0x4059000000000000

-- 180, 85.06 and 1e9
abbrev pub f180 : Float
f180 = of_bits binary64 0x4066800000000000

abbrev pub f85·06 : Float
f85·06 = of_bits binary64 0x405543d70a3d70a4

abbrev pub max_scale : Float
max_scale = of_bits binary64 0x41cdcd6500000000

-- ---- options and variables of the scene
-- `var`
abbrev pub var : Scene → List ℕ → Option Float
var sc name = variable_of name sc.variables

-- the option, else the variable: any value of it but 1 is another frame
unfoldable pub is_mercator : Option ℕ → Option Float → Bool
is_mercator (Some f) v = eqb f 1
is_mercator None (Some v) = eq v f1
is_mercator None None = false

unfoldable pub not_zero : Option Float → Bool
not_zero (Some v) = ne v f0
not_zero None = false

unfoldable pub px_mode : Scene → Bool
px_mode sc = not_zero (var sc geo_px)

abbrev pub declared_scale : Scene → Option Float
declared_scale sc = option_or sc.scale (var sc geo_scale)

abbrev pub declared_bearing : Scene → Option Float
declared_bearing sc = option_or sc.bearing (var sc geo_bearing)

-- ---- control points: what each host feature and each `_lon` variable comes to, in order
pub data Event : Type 0 where
  control : Control → Event
  warn : Warning → Event

abbrev pub resolved : Scene → List ℕ → Option Point
resolved sc name = point_of_label name sc.places sc.items

abbrev pub control_at : Point → Float → Float → Event
control_at p lon lat = control (record { x = p.x; y = p.y; lon = lon; lat = lat })

-- whether one of these features has the name
unfoldable pub mentioned : List ℕ → List NamedFeature → Bool
mentioned name [] = false
mentioned name (f ∷ fs) = same_bytes f.name name || mentioned name fs

-- A name that resolves is a control point, unless a host feature has it already: that one resolved as well, and stays. Of what is none there is a warning: one where nothing has the name, another where a host feature has it.
unfoldable pub event_of : Option Point → Bool → Float → Float → Warning → Warning → Event
event_of None earlier lon lat lost again = warn lost
event_of (Some p) true lon lat lost again = warn again
event_of (Some p) false lon lat lost again = control_at p lon lat

-- the i-th feature
unfoldable pub feature_event : Scene → ℕ → NamedFeature → Event
feature_event sc i f =
    let lost : Warning = record { kind = 2; index = i } in
    event_of (resolved sc f.name) (mentioned f.name (take i sc.features)) f.lon f.lat lost lost

-- the features fs, the first of them the i-th
unfoldable pub feature_events : Scene → ℕ → List NamedFeature → List Event
feature_events sc i [] = []
feature_events sc i (f ∷ fs) = feature_event sc i f ∷ feature_events sc (suc i) fs

-- a name without its last four bytes, and these
abbrev pub stem : List ℕ → List ℕ
stem name = take (length name - 4) name

abbrev pub ending : List ℕ → List ℕ
ending name = drop (length name - 4) name

-- `<L>_lon`, L other than geo
unfoldable pub is_lon : List ℕ → Bool
is_lon name = same_bytes (ending name) suffix_lon && not (same_bytes (stem name) geo)

unfoldable pub lon_event : Scene → ℕ → List ℕ → Float → Option Float → Event
lon_event sc i name lon None = warn (record { kind = 2; index = i })
lon_event sc i name lon (Some lat) =
    event_of (resolved sc name) (mentioned name sc.features) lon lat (record { kind = 2; index = i }) (record { kind = 3; index = i })

abbrev pub cons_if : Bool → Event → List Event → List Event
cons_if true e es = e ∷ es
cons_if false e es = es

-- the variables vs, the first of them the i-th
unfoldable pub variable_events : Scene → ℕ → List NamedValue → List Event
variable_events sc i [] = []
variable_events sc i (v ∷ vs) =
    cons_if (is_lon v.name) (lon_event sc i (stem v.name) v.value (var sc (stem v.name ++ suffix_lat))) (variable_events sc (suc i) vs)

unfoldable pub events : Scene → List Event
events sc = feature_events sc 0 sc.features ++ variable_events sc 0 sc.variables

unfoldable pub controls_in : List Event → List Control
controls_in [] = []
controls_in (control c ∷ es) = c ∷ controls_in es
controls_in (warn w ∷ es) = controls_in es

unfoldable pub warnings_in : List Event → List Warning
warnings_in [] = []
warnings_in (control c ∷ es) = warnings_in es
warnings_in (warn w ∷ es) = w ∷ warnings_in es

unfoldable pub controls_of : Scene → List Control
controls_of sc = controls_in (events sc)

-- ---- the anchor: longitude and latitude as x and y
unfoldable pub both_of : Option Float → Option Float → Option Point
both_of (Some lon) (Some lat) = Some (record { x = lon; y = lat })
both_of (Some lon) None = None
both_of None lat = None

unfoldable pub anchor_of : Scene → Option Point
anchor_of sc = option_or sc.anchor (both_of (var sc geo_lon) (var sc geo_lat))

-- one of geo_lon and geo_lat without the other, and no option
abbrev pub only_one : Bool → Bool → Bool
only_one true b = not b
only_one false b = b

unfoldable pub half_anchor : Scene → Bool
half_anchor sc = not (is_some sc.anchor) && only_one (is_some (var sc geo_lon)) (is_some (var sc geo_lat))

-- ---- condition 8
unfoldable pub within_limits : Float → Float → Bool
within_limits lon lat = le (abs_of lat) f85·06 && le (abs_of lon) f180

unfoldable pub all_within_limits : List Control → Bool
all_within_limits [] = true
all_within_limits (c ∷ cs) = within_limits c.lon c.lat && all_within_limits cs

unfoldable pub anchor_within_limits : Option Point → Bool
anchor_within_limits None = true
anchor_within_limits (Some p) = within_limits p.x p.y

-- ---- the registration
-- the declared scale, in metres an inch of the canvas
unfoldable pub scale_value : Scene → Float
scale_value sc = unwrap_or (declared_scale sc) f100

unfoldable pub above0 : Option Float → Bool
above0 (Some v) = lt f0 v
above0 None = false

unfoldable pub effective_scale : Scene → Float
effective_scale sc =
    div binary64 (cond (px_mode sc) (mul binary64 (scale_value sc) (unwrap_or sc.view_scale f1)) (scale_value sc)) sc.rescale

-- about the anchor, with the origin o
abbrev pub declared_at : Scene → Point → Point → ℕ → Registration
declared_at sc anchor o n =
    record {
      lon = anchor.x;
      lat = anchor.y;
      x = o.x;
      y = o.y;
      scale = effective_scale sc;
      bearing = unwrap_or (declared_bearing sc) f0;
      method = 0;
      controls = n;
    }

abbrev pub fitted : Fit → ℕ → Registration
fitted f n =
    record {
      lon = f.lon;
      lat = f.lat;
      x = f.x;
      y = f.y;
      scale = f.scale;
      bearing = f.bearing;
      method = cond (eqb n 2) 1 2;
      controls = n;
    }

-- the registration where control points fit no similarity, which condition 11 refuses
abbrev pub no_fit : Fit
no_fit = record { lon = f0; lat = f0; x = f0; y = f0; scale = f0; bearing = f0 }

unfoldable pub registration_by : Scene → Option Point → List Control → Registration
registration_by sc anchor [] = declared_at sc (unwrap_or anchor (record { x = f0; y = f0 })) (record { x = f0; y = f0 }) 0
registration_by sc anchor (c ∷ []) = declared_at sc (record { x = c.lon; y = c.lat }) (record { x = c.x; y = c.y }) 1
registration_by sc anchor (c ∷ d ∷ cs) = fitted (unwrap_or (fit_of (c ∷ d ∷ cs)) no_fit) (length (c ∷ d ∷ cs))

unfoldable pub registration_of : Scene → Registration
registration_of sc = registration_by sc (anchor_of sc) (controls_of sc)

-- ---- conditions 7 to 14, in the order of checking
unfoldable pub of_registration : Scene → List Condition
of_registration sc =
    let cs = controls_of sc in
    let few = ltb (length cs) 2 in
    let r = registration_of sc in
    (7, not (is_mercator sc.frame (var sc geo_frame)))
    ∷ (8, not (all_within_limits cs && anchor_within_limits (anchor_of sc)))
    ∷ (9, ltb 64 (length cs))
    ∷ (10, eqb (length cs) 0 && not (is_some (anchor_of sc)))
    ∷ (11, not few && not (is_some (fit_of cs)))
    ∷ (12, few && not (lt f0 (scale_value sc)))
    ∷ (13, few && (px_mode sc && not (above0 sc.view_scale)))
    ∷ (14, not (finite r.scale && le r.scale max_scale))
    ∷ []

-- ---- its warnings, in the source's order
abbrev pub only : Bool → Warning → List Warning
only true w = w ∷ []
only false w = []

abbrev pub ignored : Bool → List Warning
ignored b = only b (record { kind = 4; index = 0 })

unfoldable pub any_declared : Scene → Bool
any_declared sc = is_some (declared_scale sc) || (is_some (declared_bearing sc) || px_mode sc)

unfoldable pub ignored_with : ℕ → Scene → List Warning
ignored_with zero sc = []
ignored_with (suc zero) sc = ignored (is_some (anchor_of sc))
ignored_with (suc (suc n)) sc =
    ignored (any_declared sc) ++ ignored (is_some (anchor_of sc))

unfoldable pub view_warnings : Scene → List Warning
view_warnings sc = only (is_some sc.view_scale && not (px_mode sc)) (record { kind = 1; index = 0 })

unfoldable pub half_warnings : Scene → List Warning
half_warnings sc = only (half_anchor sc) (record { kind = 2; index = 0 })

unfoldable pub register_warnings : Scene → List Warning
register_warnings sc =
    view_warnings sc ++ (warnings_in (events sc) ++ (half_warnings sc ++ ignored_with (length (controls_of sc)) sc))
