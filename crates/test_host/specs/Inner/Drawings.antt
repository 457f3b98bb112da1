-- What the comparison asks of the producers.
use Rattle.std.specs.Prelude.{ℕ, ◌+◌, ◌*◌, Bool, true, false, ◌&&◌, cond, List, leb, Option, Result, Ok, Err, Float}
use Rattle.values.specs.Options.{given}
use Rattle.densify.specs.declared.append.PointCursor.{PointCursor}
use Rattle.densify.specs.Densify.{Made}
use Rattle.densify.specs.Inner.Written.{Written}
use Rattle.test_host.specs.declared.answers.Path.{Path}
use Rattle.test_host.specs.declared.densify_calls.Drawing.{Drawing}

abbrev pub done_by : Drawing → Option PointCursor
done_by r = given r.ok (record { at = r.at; budget = record { left = r.left; hit = r.hit } })

-- how a producer's answer is told: without room too, where the next point would go and what is left
abbrev pub drawing_by : Result PointCursor PointCursor → Drawing
drawing_by (Ok d) = record { ok = true; at = d.at; left = d.budget.left; hit = d.budget.hit }
drawing_by (Err d) = record { ok = false; at = d.at; left = d.budget.left; hit = d.budget.hit }

-- the points of a producer, from the slice's start on; where they have no room, `at`, `left` and `hit` are free
abbrev pub Shown : List Float → List Float → Made → Drawing → Type 0
Shown w w' m r = Written w w' 0 m (done_by r)

-- whether a path's points lie within a payload of n bytes
unfoldable pub path_fits : ℕ → Path → Bool
path_fits n p = cond p.curve (leb (p.start + 16) n && leb (p.at + 48 * p.count) n) (leb (p.at + 16 * p.count) n)

-- the answer of a path that does not: nothing is drawn
abbrev pub undrawn : ℕ → Drawing
undrawn left = record { ok = false; at = 0; left = left; hit = false }
