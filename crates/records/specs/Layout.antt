-- Condition 3: the records stand in document 01's order and an end record closes them.
use Rattle.std.specs.Prelude.{ℕ, zero, suc, ◌+◌, ◌/◌, ◌%◌, Bool, true, false, not, ◌&&◌, ◌||◌, List, [], ◌∷◌, take, drop, eqb, leb, ltb}
use Rattle.records.specs.declared.records.Record.{Record}
use Rattle.records.specs.declared.records.Record.TheVariants.{Rescale, Option, Feature, Variable, Place, Item, Points, Path}
use Rattle.records.specs.Walk.{Entry, entries, ends}

-- names by their bytes: a comes before b
unfoldable pub before : List ℕ → List ℕ → Bool
before [] [] = false
before [] (y ∷ ys) = true
before (x ∷ xs) [] = false
before (x ∷ xs) (y ∷ ys) = ltb x y || (eqb x y && before xs ys)

-- the name of a feature, a variable or a place, n bytes long
abbrev pub name_of : List ℕ → ℕ → List ℕ
name_of l n = take n (drop 2 l)

-- what the records so far leave to know: the last tag, the last option, the last variable's name, and the roles of
-- points that the last item has had, 1 for points and 2 for fill points
pub record Pass : Type 0 where
  pub last : ℕ
  pub option : ℕ
  pub name : List ℕ
  pub roles : ℕ

abbrev pub start : Pass
start = record { last = 0; option = 0; name = []; roles = 0 }

pub data PassStep : Type 0 where
  ordered : Pass → PassStep
  broken : PassStep

abbrev pub ordered_if : Bool → Pass → PassStep
ordered_if true p = ordered p
ordered_if false p = broken

-- a tag t has its place after the tags from 1 to t
abbrev pub follows : Pass → ℕ → Bool
follows p t = leb 1 p.last && leb p.last t

abbrev pub tagged : Pass → ℕ → Pass
tagged p t = record { last = t; option = p.option; name = p.name; roles = p.roles }

-- whether the last item has had points of this role
abbrev pub has_role : ℕ → ℕ → Bool
has_role roles zero = eqb (roles % 2) 1
has_role roles (suc r) = eqb (roles / 2) 1

unfoldable pub step_of : Pass → List ℕ → Record → PassStep
step_of p l Rescale = ordered_if (eqb p.last 0) (tagged p 1)
step_of p l (Option o) = ordered_if (follows p 2 && ltb p.option o) (record { last = 2; option = o; name = p.name; roles = p.roles })
step_of p l (Feature n) = ordered_if (follows p 3) (tagged p 3)
step_of p l (Variable n) = ordered_if (follows p 4 && before p.name (name_of l n)) (record { last = 4; option = p.option; name = name_of l n; roles = p.roles })
step_of p l (Place n) = ordered_if (follows p 5) (tagged p 5)
step_of p l (Item k f n m) = ordered_if (follows p 6) (record { last = 6; option = p.option; name = p.name; roles = 0 })
step_of p l (Points r c) = ordered_if (eqb p.last 6 && not (has_role p.roles r)) (record { last = 6; option = p.option; name = p.name; roles = p.roles + suc r })
step_of p l (Path r c f k) = ordered_if (eqb p.last 6) p

abbrev pub when_ordered : PassStep → (Pass → Bool) → Bool
when_ordered (ordered p) f = f p
when_ordered broken f = false

-- the end comes after `rescale`
unfoldable pub in_order : List Entry → Pass → Bool
in_order [] p = leb 1 p.last
in_order (e ∷ es) p = when_ordered (step_of p e.bytes e.parsed) (λ q. in_order es q)

-- from a state on, over the bytes that are left
unfoldable pub laid_out_from : Pass → List ℕ → Bool
laid_out_from p l = ends l 0 && in_order (entries l 0) p

unfoldable pub laid_out : List ℕ → Bool
laid_out l = laid_out_from start l
