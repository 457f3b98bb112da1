-- The records of a payload, one after the other, each with the bytes from its tag on. Names, floats and pairs are read
-- off these.
use Rattle.std.specs.Prelude.{ℕ, zero, suc, ◌-◌, Bool, false, List, [], ◌∷◌, eqb}
use Rattle.records.specs.declared.records.Record.{Record}
use Rattle.records.specs.declared.records.Record.TheVariants.{Rescale, Option, Feature, Variable, Place, Item, Points, Path}
use Rattle.records.specs.declared.records.Step.{Step}
use Rattle.records.specs.declared.records.Step.TheVariants.{Got, End, Bad}
use Rattle.records.specs.Records.{record_of}

abbrev pub tag_of : Record → ℕ
tag_of Rescale = 1
tag_of (Option o) = 2
tag_of (Feature n) = 3
tag_of (Variable n) = 4
tag_of (Place n) = 5
tag_of (Item k f n m) = 6
tag_of (Points r n) = 7
tag_of (Path r c f n) = 8

pub record Entry : Type 0 where
  pub bytes : List ℕ
  pub parsed : Record

abbrev pub more : List ℕ → Step → (ℕ → List Entry) → List Entry
more l (Got r k) f = record { bytes = l; parsed = r } ∷ f (k - 1)
more l End f = []
more l Bad f = []

-- the records from here on, up to the end record or to what is none. n bytes are still of the record before.
unfoldable pub entries : List ℕ → ℕ → List Entry
entries [] n = []
entries (x ∷ xs) zero = more (x ∷ xs) (record_of (x ∷ xs)) (λ n. entries xs n)
entries (x ∷ xs) (suc n) = entries xs n

-- the number of the condition that what stands at a position breaks: none, or 3 where it is neither a record nor the
-- end record
abbrev pub number_by : Step → ℕ
number_by (Got r k) = 0
number_by End = 0
number_by Bad = 3

abbrev pub close : Step → (ℕ → Bool) → Bool
close (Got r k) f = f (k - 1)
close End f = eqb (number_by End) 0
close Bad f = eqb (number_by Bad) 0

-- whether an end record closes them
unfoldable pub ends : List ℕ → ℕ → Bool
ends [] n = false
ends (x ∷ xs) zero = close (record_of (x ∷ xs)) (λ n. ends xs n)
ends (x ∷ xs) (suc n) = ends xs n
