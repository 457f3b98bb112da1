-- The point that a label names, after the source's `reference_point` and `point_of_label`.
use Rattle.std.specs.Option.{option_or}
use Rattle.std.specs.Prelude.{ℕ, suc, Bool, true, false, not, ◌&&◌, ◌||◌, List, [], ◌∷◌, length, eqb, ltb, pos, Float, Option, None, Some}
use Rattle.std.specs.Float.{binary64}
use Rattle.std.specs.Float.Ieee.{of_bits, of_int, add, div}
use Rattle.scene.specs.Scene.{Form, curve, polyline, DrawnPath, NamedValue, NamedPlace, DrawnItem}
use Rattle.values.specs.declared.Point.{Point}

-- ---- a variable by its name
unfoldable pub same_bytes : List ℕ → List ℕ → Bool
same_bytes [] [] = true
same_bytes [] (y ∷ ys) = false
same_bytes (x ∷ xs) [] = false
same_bytes (x ∷ xs) (y ∷ ys) = eqb x y && same_bytes xs ys

abbrev pub pick : {A : Type 0} → Bool → A → A → A
pick true a b = a
pick false a b = b

-- `var` of register.rs
unfoldable pub variable_of : List ℕ → List NamedValue → Option Float
variable_of name [] = None
variable_of name (v ∷ vs) = pick (same_bytes v.name name) (Some v.value) (variable_of name vs)

-- ---- reference_point
-- a coordinate of the points added up, from a on
unfoldable pub sum_of : (Point → Float) → Float → List Point → Float
sum_of f a [] = a
sum_of f a (p ∷ ps) = sum_of f (add binary64 a (f p)) ps

unfoldable pub mean_of : (Point → Float) → List Point → Float
mean_of f ps = div binary64 (sum_of f (of_bits binary64 0) ps) (of_int binary64 (pos (length ps)))

unfoldable pub mean_point : List Point → Point
mean_point ps = record { x = mean_of (λ q. q.x) ps; y = mean_of (λ q. q.y) ps }

unfoldable pub start_of : Form → Option Point
start_of (curve start cs) = Some start
start_of (polyline []) = None
start_of (polyline (p ∷ ps)) = Some p

unfoldable pub first_start : List DrawnPath → Option Point
first_start [] = None
first_start (p ∷ ps) = start_of p.form

-- the points' mean, unless there are none: then the first path's start
unfoldable pub mean_or_start : Option (List Point) → List DrawnPath → Option Point
mean_or_start None paths = first_start paths
mean_or_start (Some []) paths = first_start paths
mean_or_start (Some (p ∷ ps)) paths = Some (mean_point (p ∷ ps))

unfoldable pub reference_point : DrawnItem → Option Point
reference_point it = option_or it.at (mean_or_start it.points it.paths)

-- ---- point_of_label
pub record Key : Type 0 where
  pub top : Bool
  pub line : ℕ
  pub col : ℕ
  pub order : ℕ

-- a comes after b: top-level, then line, then column, then order decides
unfoldable pub greater : Key → Key → Bool
greater a b =
    (a.top && not b.top)
    || (same_top a.top b.top && (ltb b.line a.line
    || (eqb a.line b.line && (ltb b.col a.col
    || (eqb a.col b.col && ltb b.order a.order)))))
  where
    same_top : Bool → Bool → Bool
    same_top true t = t
    same_top false t = not t

pub record Best : Type 0 where
  pub key : Key
  pub at : Point

-- only a strictly greater key replaces
unfoldable pub consider : Option Best → Key → Point → Option Best
consider None k p = Some (record { key = k; at = p })
consider (Some b) k p = pick (greater k b.key) (Some (record { key = k; at = p })) (Some b)

abbrev pub consider_at : Option Best → Key → Option Point → Option Best
consider_at b k None = b
consider_at b k (Some p) = consider b k p

-- the i-th place's key, and the i-th item's
abbrev pub place_key : NamedPlace → ℕ → Key
place_key p i = record { top = not p.nested; line = p.line; col = p.col; order = i }

abbrev pub item_key : DrawnItem → ℕ → Key
item_key it i = record { top = not it.nested; line = it.line; col = it.col; order = i }

-- the places of that label, the first of them being the i-th
unfoldable pub best_place : List ℕ → ℕ → List NamedPlace → Option Best → Option Best
best_place name i [] b = b
best_place name i (p ∷ ps) b =
    best_place name (suc i) ps
    (pick (same_bytes p.label name) (consider b (place_key p i) p.at) b)

-- an item without a label label_is none, not even the empty one
unfoldable pub label_is : Option (List ℕ) → List ℕ → Bool
label_is None name = false
label_is (Some l) name = same_bytes l name

-- the items of that label that have a reference point
unfoldable pub best_item : List ℕ → ℕ → List DrawnItem → Option Best → Option Best
best_item name i [] b = b
best_item name i (it ∷ its) b =
    best_item name (suc i) its
    (pick (label_is it.label name) (consider_at b (item_key it i) (reference_point it)) b)

abbrev pub point_of : Option Best → Option Point
point_of None = None
point_of (Some b) = Some b.at

unfoldable pub point_of_label : List ℕ → List NamedPlace → List DrawnItem → Option Point
point_of_label name places items = point_of (best_item name 0 items (best_place name 0 places None))
