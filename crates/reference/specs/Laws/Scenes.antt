-- Three scenes by their bytes, and the draws that the Rust makes of each: tests/place/draws compares these lists with the oracle's.
use Rattle.std.specs.Prelude.{List, [], ◌∷◌, ◌++◌, ℕ, zero, suc, length, replicate}
use Rattle.register.specs.Register as register

-- ---- floats: -0, 0, 0.25, 0.5, 1, 2, 3 and 8
abbrev pub minus0 : List ℕ
minus0 = replicate 7 0 ++ 128 ∷ []

abbrev pub f0 : List ℕ
f0 = replicate 8 0

abbrev pub quarter : List ℕ
quarter = replicate 6 0 ++ 208 ∷ 63 ∷ []

abbrev pub half : List ℕ
half = replicate 6 0 ++ 224 ∷ 63 ∷ []

abbrev pub f1 : List ℕ
f1 = replicate 6 0 ++ 240 ∷ 63 ∷ []

abbrev pub f2 : List ℕ
f2 = replicate 6 0 ++ 0 ∷ 64 ∷ []

abbrev pub f3 : List ℕ
f3 = replicate 6 0 ++ 8 ∷ 64 ∷ []

abbrev pub f8 : List ℕ
f8 = replicate 6 0 ++ 32 ∷ 64 ∷ []

-- ---- records
abbrev pub variable : List ℕ → List ℕ → List ℕ
variable name v = 4 ∷ length name ∷ name ++ v

-- an item without a label or a span: kind, flags, presence byte. The flags here: 4 closed, 8 fill.
abbrev pub item : ℕ → ℕ → ℕ → List ℕ
item kind flags has = 6 ∷ kind ∷ flags ∷ 0 ∷ replicate 8 0 ++ has ∷ []

-- so many points of a line, or of its outline: role 0 or 1
abbrev pub points : ℕ → ℕ → List ℕ → List ℕ
points role n pairs = 7 ∷ role ∷ n ∷ 0 ∷ pairs

-- a path of n cubics from the origin, or an outline: role, closed
abbrev pub path : ℕ → ℕ → ℕ → List ℕ → List ℕ
path role closed n cubics = 8 ∷ role ∷ closed ∷ 0 ∷ f0 ++ f0 ++ n ∷ 0 ∷ cubics

-- a cubic that bends through the corners of a square of this size
abbrev pub arch : List ℕ → List ℕ
arch v = f0 ++ v ++ v ++ v ++ v ++ f0

-- one that ends at the origin
abbrev pub back : List ℕ
back = f0 ++ f2 ++ f2 ++ f2 ++ f0 ++ f0

-- rescale 1, flatten 0.25, another option if there is one, and an anchor at the origin; the frame is Mercator
abbrev by_variables : List ℕ → List ℕ
by_variables option =
    1 ∷ f1 ++ 2 ∷ 5 ∷ quarter ++ option ++ variable register.geo_frame f1 ++ variable register.geo_lat f0 ++ variable register.geo_lon f0

abbrev by_options : List ℕ
by_options = 1 ∷ f1 ++ 2 ∷ 1 ∷ 1 ∷ 2 ∷ 2 ∷ f0 ++ f0 ++ 2 ∷ 5 ∷ quarter

-- ---- draws
-- so many equal draws: want, floor and grant. `unsplit` are draws of one that each end a piece that should have been split, with fewer than 2 left.
pub data Run : Type 0 where
  run : (times want floor grant : ℕ) → Run
  unsplit : (times : ℕ) → Run

abbrev each : ℕ → List ℕ → List ℕ → List ℕ
each zero d ds = ds
each (suc n) d ds = d ++ each n d ds

-- each as four numbers, the last of them 1 where a piece was not split
abbrev pub all : List Run → List ℕ
all [] = []
all (run n w f g ∷ rs) = each n (w ∷ f ∷ g ∷ 0 ∷ []) (all rs)
all (unsplit n ∷ rs) = each n (1 ∷ 1 ∷ 1 ∷ 1 ∷ []) (all rs)

-- ---- the first scene uses every producer, and nothing falls short
abbrev pub every_producer : List ℕ
every_producer =
    by_variables []
    -- a sharp box and a rounded one
    ++ item 0 0 7 ++ f0 ++ f0 ++ f2 ++ f2
    ++ item 0 0 23 ++ f0 ++ f0 ++ f2 ++ f2 ++ half
    -- an ellipse
    ++ item 2 0 7 ++ f0 ++ f0 ++ f1 ++ half
    -- a line
    ++ item 4 0 0 ++ points 0 2 (f0 ++ f0 ++ f3 ++ f0)
    -- a closed spline, with an outline that it leaves unused
    ++ item 6 4 0 ++ path 0 1 1 (arch f2) ++ path 1 0 1 (arch f1)
    ++ 0 ∷ []

abbrev pub from_2000000 : List Run
from_2000000 =
    -- the sharp box and its sides
    run 1 4 4 4
    ∷ run 4 2 1 2
    -- the rounded one
    ∷ run 1 32 8 32
    ∷ run 36 1 1 1
    -- the ellipse
    ∷ run 1 32 8 32
    ∷ run 32 1 1 1
    -- the line
    ∷ run 1 3 1 3
    -- the spline's pieces and its outline's, then its sides
    ∷ run 8 1 1 1
    ∷ run 1 2 1 2
    ∷ run 2 1 1 1
    ∷ run 2 2 1 2
    ∷ []

-- ---- under a step of 8 m: a rounded box and a line
abbrev pub in_steps : List ℕ
in_steps =
    by_variables (2 ∷ 7 ∷ f8)
    ++ item 0 0 23 ++ f0 ++ f0 ++ f2 ++ f2 ++ half
    ++ item 4 0 0 ++ points 0 2 (f0 ++ f0 ++ f3 ++ f0)
    ++ 0 ∷ []

abbrev pub in_steps_from_2000000 : List Run
in_steps_from_2000000 =
    -- the box: a quarter of ten, then a side, four times
    run 1 40 8 40
    ∷ run 10 1 1 1
    ∷ run 1 13 1 13
    ∷ run 10 1 1 1
    ∷ run 1 13 1 13
    ∷ run 10 1 1 1
    ∷ run 1 13 1 13
    ∷ run 10 1 1 1
    ∷ run 1 13 1 13
    -- the line
    ∷ run 1 38 1 38
    ∷ []

-- ---- the third has separate fills and shapes that are not written; it is drawn from small allowances, which run out
abbrev pub running_out : List ℕ
running_out =
    by_options
    -- 0: a closed line of two points, too few for a ring
    ++ item 4 4 0 ++ points 0 2 (f0 ++ f0 ++ f3 ++ f0)
    -- 1: an open line with a fill by its outline, which is drawn first
    ++ item 4 8 0 ++ points 0 3 (f0 ++ f0 ++ f2 ++ f0 ++ f2 ++ f1) ++ points 1 3 (f0 ++ f0 ++ f3 ++ f0 ++ f3 ++ f1)
    -- 2: three paths, filled; the one outline belongs to the first and is unused, and the open second is filled by its own points
    ++ item 6 8 0 ++ path 0 1 1 (arch f2) ++ path 1 0 1 back ++ path 0 0 1 (arch f2) ++ path 0 1 1 back
    -- 3 to 5: a circle, a rounded box and a sharp one; each takes its floor when nothing is left
    ++ item 1 0 9 ++ f0 ++ f0 ++ f1
    ++ item 0 0 23 ++ f0 ++ f0 ++ f2 ++ f2 ++ half
    ++ item 0 0 7 ++ f0 ++ f0 ++ f2 ++ f2
    -- 6: a closed path that needs a split to be a ring, and an open one of two cubics
    ++ item 6 0 0 ++ path 0 1 1 back ++ path 0 0 2 (arch f2 ++ back)
    -- 7: a closed line of two points, filled by an outline that -0 closes already
    ++ item 4 12 0 ++ points 0 2 (f0 ++ f0 ++ f2 ++ f0) ++ points 1 4 (f0 ++ f0 ++ f2 ++ f0 ++ f2 ++ f2 ++ minus0 ++ minus0)
    ++ 0 ∷ []

-- items 3 to 7 with nothing left, which is so from every allowance below
abbrev with_nothing : List Run
with_nothing =
    -- 3 and 4: eight points each, and the sides
    run 1 32 8 8
    ∷ run 8 1 1 1
    ∷ run 1 32 8 8
    ∷ run 12 1 1 1
    -- 5
    ∷ run 1 4 4 4
    ∷ run 4 2 1 1
    -- 6: the closed path is not written
    ∷ unsplit 1
    ∷ run 1 1 1 1
    ∷ unsplit 2
    ∷ run 2 2 1 1
    -- 7: the fill, and the line that is not written
    ∷ run 2 2 1 1
    ∷ run 1 3 1 1
    ∷ run 1 2 1 1
    ∷ []

abbrev pub from_60 : List Run
from_60 =
    -- 0
    run 1 3 1 3
    -- 1: its fill, then itself
    ∷ run 1 3 1 3
    ∷ run 1 1 1 1
    ∷ run 1 4 1 4
    ∷ run 1 2 1 2
    ∷ run 1 1 1 1
    -- 2, first path: its pieces, the outline's, its sides
    ∷ run 4 1 1 1
    ∷ run 4 1 1 1
    ∷ run 1 2 1 2
    ∷ run 2 1 1 1
    ∷ run 2 2 1 2
    -- second path: its pieces, its fill, itself
    ∷ run 4 1 1 1
    ∷ run 1 2 1 2
    ∷ run 2 1 1 1
    ∷ run 2 2 1 2
    ∷ run 1 2 1 2
    ∷ run 2 1 1 1
    ∷ run 1 2 1 2
    -- third path: its pieces and sides
    ∷ run 4 1 1 1
    ∷ run 1 2 1 2
    ∷ run 2 1 1 1
    ∷ run 1 2 1 2
    ∷ with_nothing

abbrev pub from_40 : List Run
from_40 =
    -- 0 and 1
    run 2 3 1 3
    ∷ run 1 1 1 1
    ∷ run 1 4 1 4
    ∷ run 1 2 1 2
    ∷ run 1 1 1 1
    -- 2, first path
    ∷ run 8 1 1 1
    ∷ run 1 2 1 2
    ∷ run 2 1 1 1
    ∷ run 2 2 1 2
    -- second path: the last side of its fill falls short, then its own
    ∷ run 4 1 1 1
    ∷ run 1 2 1 2
    ∷ run 2 1 1 1
    ∷ run 1 2 1 2
    ∷ run 1 2 1 1
    ∷ run 1 2 1 1
    ∷ run 2 1 1 1
    ∷ run 1 2 1 1
    -- third path: not split, so it is not written
    ∷ unsplit 1
    ∷ run 1 1 1 1
    ∷ with_nothing

abbrev pub from_20 : List Run
from_20 =
    -- 0 and 1
    run 2 3 1 3
    ∷ run 1 1 1 1
    ∷ run 1 4 1 4
    ∷ run 1 2 1 2
    ∷ run 1 1 1 1
    -- 2, first path: two pieces of its outline, then one that is not split; all its sides fall short
    ∷ run 4 1 1 1
    ∷ run 2 1 1 1
    ∷ unsplit 1
    ∷ run 1 2 1 1
    ∷ run 2 1 1 1
    ∷ run 2 2 1 1
    -- second path: one piece, too few points for a fill
    ∷ unsplit 1
    ∷ run 1 2 1 1
    -- third path
    ∷ unsplit 1
    ∷ run 1 1 1 1
    ∷ with_nothing

-- with nothing left from the fill of item 1 on
abbrev soon_nothing : List Run
soon_nothing =
    run 1 1 1 1
    ∷ run 1 4 1 1
    ∷ run 1 2 1 1
    ∷ run 1 1 1 1
    -- 2, first path: it and its outline are not split, and it is not written
    ∷ unsplit 2
    ∷ run 2 2 1 1
    -- second and third path
    ∷ unsplit 1
    ∷ run 1 2 1 1
    ∷ unsplit 1
    ∷ run 1 1 1 1
    ∷ with_nothing

-- the fill of item 1 is granted 2 of 3
abbrev pub from_5 : List Run
from_5 =
    run 1 3 1 3
    ∷ run 1 3 1 2
    ∷ soon_nothing

abbrev pub from_0 : List Run
from_0 =
    run 2 3 1 1
    ∷ soon_nothing
