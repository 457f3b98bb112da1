-- A table of names: entries, each the position of a name's length in the payload, in the order of the names, none
-- twice. Lengths are `more` too great: 4 where the names are those of `_lon` variables without their ending.
use Rattle.std.specs.Prelude.{◌≡◌, ◌⊎◌, true, cond, Result, MatchResult, List, ◌∷◌, ℕ, zero, suc, ◌+◌, ◌-◌, ◌/◌, ◌%◌, ◌≤◌, ◌<◌, length, get_or, eqb}
use Rattle.std.specs.declared.cmp.Ordering.{Ordering}
use Rattle.std.specs.Ordering.{nat_cmp}
use Rattle.std.specs.Cmp.Lexicographic.{slice_cmp}
use Rattle.stream.specs.Inner.Payload.{room}
use Rattle.records.specs.Layout.{before}
use Rattle.records.specs.Records.{bytes_at}

-- the name whose length stands at p
unfoldable pub name_at : ℕ → List ℕ → ℕ → List ℕ
name_at more l p = bytes_at l (p + 1) (get_or l p 0 - more)

-- an entry is a position below 2^25, and a mark in what is beyond
abbrev pub name_of : ℕ → List ℕ → ℕ → List ℕ
name_of more l e = name_at more l (e % 33554432)

abbrev pub mark_of : ℕ → ℕ
mark_of e = e / 33554432

-- names are ordered by their length, then by their bytes
abbrev pub key_of : List ℕ → List ℕ
key_of x = length x ∷ x

unfoldable pub order_of : List ℕ → List ℕ → Ordering
order_of a b = slice_cmp nat_cmp (key_of a) (key_of b)

-- a name stands at p, with eight more bytes behind it
pub record NameFits (more : ℕ) (l : List ℕ) (p : ℕ) : Type 0 where
  pub least : more ≤ get_or l p 0
  pub fits : p + 9 + (get_or l p 0 - more) ≤ length l

-- the n bytes behind p, to be looked for: they lie within, with eight more behind them
pub record NameQuery (s : List ℕ) (p n more : ℕ) : Type 0 where
  pub fits : p + 9 + n ≤ room s
  pub short : n + more ≤ 255

-- the name of n bytes whose length stands at p can become an entry
pub record NewName (more : ℕ) (l : List ℕ) (p n : ℕ) : Type 0 where
  pub low : p < 33554432
  pub stands : NameFits more l p
  pub counted : n + more ≡ get_or l p 0
  pub short : n + more ≤ 255

-- the first n entries of t
pub record Table (more : ℕ) (l t : List ℕ) (n : ℕ) : Type 0 where
  pub fits : n ≤ length t
  pub stands : (i : ℕ) → i < n → NameFits more l (get_or t i 0 % 33554432)
  pub rises : (i j : ℕ) → i < j → j < n → before (key_of (name_of more l (get_or t i 0))) (key_of (name_of more l (get_or t j 0))) ≡ true

abbrev pub Unmarked : List ℕ → ℕ → Type 0
Unmarked t n = (i : ℕ) → i < n → get_or t i 0 < 33554432

-- how many of them have a mark
unfoldable pub marked : List ℕ → ℕ → ℕ
marked t zero = 0
marked t (suc n) = marked t n + cond (eqb (mark_of (get_or t n 0)) 0) 0 1

-- one of them is the name x
pub record Contains (more : ℕ) (l t : List ℕ) (n : ℕ) (x : List ℕ) : Type 0 where
  pub at : ℕ
  pub within : at < n
  pub is : name_of more l (get_or t at 0) ≡ x

-- it is the one at k
pub record Stands (more : ℕ) (l t : List ℕ) (n : ℕ) (x : List ℕ) (k : ℕ) : Type 0 where
  pub within : k < n
  pub is : name_of more l (get_or t k 0) ≡ x

-- none is, and x belongs at k
pub record Gap (more : ℕ) (l t : List ℕ) (n : ℕ) (x : List ℕ) (k : ℕ) : Type 0 where
  pub within : k ≤ n
  pub low : (i : ℕ) → i < k → before (key_of (name_of more l (get_or t i 0))) (key_of x) ≡ true
  pub high : (i : ℕ) → k ≤ i → i < n → before (key_of x) (key_of (name_of more l (get_or t i 0))) ≡ true

-- what a search for x says
abbrev pub Searched : ℕ → List ℕ → List ℕ → ℕ → List ℕ → Result ℕ ℕ → Type 0
Searched more l t n x r = MatchResult r (Stands more l t n x) (Gap more l t n x)

-- x became one of them, unless it was
pub record Inserted (more : ℕ) (l t t' : List ℕ) (n r : ℕ) (x : List ℕ) : Type 0 where
  pub count : (n ≤ r) × (r ≤ n + 1)
  pub table : Table more l t' r
  pub unmarked : Unmarked t n → Unmarked t' r
  pub new : Contains more l t' r x
  pub old : (y : List ℕ) → Contains more l t n y → Contains more l t' r y
  pub only : (y : List ℕ) → Contains more l t' r y → Contains more l t n y ⊎ (y ≡ x)
