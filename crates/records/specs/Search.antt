-- Which records a question asks for: those of one tag and, where it has one, of one key: which option, or the role of
-- points and paths.
use Rattle.std.specs.Prelude.{ℕ, Bool, true, false, ◌&&◌, cond, List, [], ◌∷◌, eqb, ltb}
use Rattle.records.specs.declared.records.Record.{Record}
use Rattle.records.specs.declared.records.Record.TheVariants.{Rescale, Option, Feature, Variable, Place, Item, Points, Path}
use Rattle.records.specs.declared.search.SearchStep.{SearchStep}
use Rattle.records.specs.declared.search.SearchStep.TheVariants.{Matches, Skip, Over}
use Rattle.records.specs.Walk.{Entry, tag_of}

abbrev pub key_of : Record → ℕ
key_of Rescale = 0
key_of (Option o) = o
key_of (Feature n) = 0
key_of (Variable n) = 0
key_of (Place n) = 0
key_of (Item k f n m) = 0
key_of (Points r c) = r
key_of (Path r c f k) = r

-- whether a record of tag x ends what is asked of tag t: tags below 6 never fall, items stand up to the end, and points
-- and paths belong to the item before them
unfoldable pub ends_search : ℕ → ℕ → Bool
ends_search t x = cond (ltb t 6) (ltb t x) (ltb 6 t && ltb x 7)

abbrev pub pick_search_step : Bool → SearchStep → SearchStep → SearchStep
pick_search_step true a b = a
pick_search_step false a b = b

unfoldable pub search_step_of : ℕ → ℕ → Record → SearchStep
search_step_of t k r = pick_search_step (eqb (tag_of r) t && eqb (key_of r) k) Matches (pick_search_step (ends_search t (tag_of r)) Over Skip)

abbrev pub with_found : SearchStep → List ℕ → List (List ℕ) → List (List ℕ)
with_found Matches l more = l ∷ more
with_found Skip l more = more
with_found Over l more = []

-- the records of tag t and key k, each by its bytes from its tag on
unfoldable pub records_of : ℕ → ℕ → List Entry → List (List ℕ)
records_of t k [] = []
records_of t k (e ∷ es) = with_found (search_step_of t k e.parsed) e.bytes (records_of t k es)
