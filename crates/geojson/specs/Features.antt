-- Feature lines in a lent slice, six numbers each.
use Rattle.std.specs.Prelude.{ℕ, List, [], ◌∷◌}

-- geometry: 0 a point, 1 a line, 2 a polygon; role: 1 a separate fill, 0 any other; placement: 0 the map, 1 the screen; part: 0, or 1 and the path's index; count: its positions
pub record Feature : Type 0 where
  pub item : ℕ
  pub geometry : ℕ
  pub role : ℕ
  pub placement : ℕ
  pub part : ℕ
  pub count : ℕ

abbrev pub words_of : Feature → List ℕ
words_of f = f.item ∷ f.geometry ∷ f.role ∷ f.placement ∷ f.part ∷ f.count ∷ []
