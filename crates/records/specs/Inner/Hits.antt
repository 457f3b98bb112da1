-- What an answer to a search stands for.
use Rattle.std.specs.Prelude.{◌≡◌, List, [], ◌∷◌, ℕ, ◌+◌, ◌≤◌, ◌<◌, drop, Result, Ok, Err}
use Rattle.records.specs.declared.records.Record.{Record}
use Rattle.records.specs.declared.records.Step.TheVariants.{Got}
use Rattle.records.specs.declared.search.Hit.{Hit}
use Rattle.records.specs.Records.{record_of}
use Rattle.records.specs.Walk.{tag_of, entries}
use Rattle.records.specs.Search.{key_of, records_of}

-- the record r stands at the front of l
pub record Stands (l : List ℕ) (r : Record) : Type 0 where
  pub size : ℕ
  pub got : record_of l ≡ Got r size

-- from position p of a payload on
abbrev pub records_at : List ℕ → ℕ → ℕ → ℕ → List (List ℕ)
records_at l p t k = records_of t k (entries (drop p l) 0)

-- a record of tag t and key k stands at a position of the payload, and the next one behind it
pub record RecordAt (l : List ℕ) (t k at next : ℕ) : Type 0 where
  pub is : Record
  pub size : ℕ
  pub got : record_of (drop at l) ≡ Got is size
  pub ends : next ≡ at + size
  pub tag : tag_of is ≡ t
  pub key : key_of is ≡ k

-- the first record that was asked for, and those from the next position on
abbrev pub hits_of : List ℕ → ℕ → ℕ → Result Hit ℕ → List (List ℕ)
hits_of l t k (Ok h) = drop h.at l ∷ records_at l h.next t k
hits_of l t k (Err end) = []

-- where the search ended: at the record, or where none can follow
abbrev pub end_of : Result Hit ℕ → ℕ
end_of (Ok h) = h.at
end_of (Err end) = end

-- records of greater tags, up to items, stand from q on, if from p on
abbrev pub SkipsTo : List ℕ → ℕ → ℕ → ℕ → Type 0
SkipsTo l tag p q = (t k : ℕ) → tag < t → t ≤ 6 → records_at l p t k ≡ records_at l q t k

-- the value of option k stands at p: behind the tag and the option of its first record
pub record OptionValue (l : List ℕ) (k p : ℕ) : Type 0 where
  pub at : ℕ
  pub next : ℕ
  pub behind : p ≡ at + 2
  pub all : records_at l 0 2 k ≡ drop at l ∷ records_at l next 2 k
  pub stands : RecordAt l 2 k at next
