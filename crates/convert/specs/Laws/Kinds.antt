-- What the entry of a kind decides: whether an item is drawn, and where it belongs; not its shape.
use Rattle.std.specs.Prelude.{ℕ, suc, ◌≡◌, refl, true, cond, ◌||◌, List, ◌∷◌, eqb}
use Rattle.std.proofs.Math.Bool.{or-true}
use Rattle.kind_table.specs.KindTable.{not_drawn, on_screen}
use Rattle.scene.specs.Scene.{DrawnItem}
use Rattle.budget.specs.declared.Budget.{Budget}
use Rattle.strokes.specs.declared.state.Ctx.{Ctx}
use Rattle.convert.specs.Convert.{shape_of, props_of, drawn_of, item_of, items_of}

module _ (entry : ℕ → ℕ) (cx : Ctx) (i : ℕ) (it : DrawnItem) (its : List DrawnItem) (b : Budget) where
  -- an item that is not drawn comes to nothing, and the next one is the next by its index
  pub goes_on : not_drawn it.hidden (entry it.kind) ≡ true → items_of entry cx i (it ∷ its) b ≡ items_of entry cx (suc i) its b
  unfolding items_of item_of shape_of drawn_of
  goes_on h = rw h

  pub hidden_goes_on : it.hidden ≡ true → items_of entry cx i (it ∷ its) b ≡ items_of entry cx (suc i) its b
  unfolding not_drawn
  hidden_goes_on h = goes_on (rw h)

  pub two_goes_on : entry it.kind ≡ 2 → items_of entry cx i (it ∷ its) b ≡ items_of entry cx (suc i) its b
  unfolding not_drawn
  two_goes_on h = goes_on (rw (h, or-true))

pub same_shape : (it : DrawnItem) → shape_of 0 it ≡ shape_of 1 it
unfolding shape_of not_drawn
same_shape it = refl

pub placement_is : (e i : ℕ) (it : DrawnItem) → (props_of e i it).placement ≡ cond (it.screen || eqb e 1) 1 0
unfolding props_of on_screen
placement_is e i it = refl
