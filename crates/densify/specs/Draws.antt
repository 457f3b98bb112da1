-- What the draws that producers report say of the allowance.
use Rattle.std.specs.Prelude.{◌≡◌, Bool, false, ◌||◌, List, [], ◌∷◌, map, nat_lt}
use Rattle.budget.specs.declared.Budget.{Budget}
use Rattle.budget.specs.Budget.{grant_of, take_of}
use Rattle.budget.specs.Draws.{Draw}
use Rattle.densify.specs.Densify.{GrantedDraw}

abbrev pub draw_of : GrantedDraw → Draw
draw_of d = record { want = d.want; floor = d.floor }

abbrev pub draws_of : List GrantedDraw → List Draw
draws_of ds = map draw_of ds

-- the budget after one draw: the mark first, then `take`
abbrev pub after_draw : Budget → GrantedDraw → Budget
after_draw b d = (take_of (record { left = b.left; hit = b.hit || d.cut }) d.want d.floor).budget

-- each draw is granted what `take` grants at its turn
abbrev pub Granted : Budget → List GrantedDraw → Type 0
Granted b [] = Unit {0}
Granted b (d ∷ ds) = (d.granted ≡ grant_of b.left d.want d.floor) × Granted (after_draw b d) ds

-- a grant fell short, or a piece was cut
unfoldable pub fell_short : List GrantedDraw → Bool
fell_short [] = false
fell_short (d ∷ ds) = d.cut || nat_lt d.granted d.want || fell_short ds
