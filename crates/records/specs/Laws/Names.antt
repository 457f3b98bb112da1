-- The bytes of a name that stands in a payload.
use Rattle.std.specs.Prelude.{◌≡◌, List, ℕ, ◌+◌, ◌≤◌, ◌<◌, length, get_or}
use Rattle.std.proofs.Math.Path.{sym}
use Rattle.std.proofs.Common.{◌∙◌, arith, length-drop, length-take, get_or-take, get_or-drop}
use Rattle.stream.specs.Payload.{payload}
use Rattle.stream.specs.Inner.Payload.{room, rest}
use Rattle.stream.specs.Laws.Payload.{payload-length}
use Rattle.records.specs.Records.{bytes_at}

pub part_length : (l : List ℕ) (p n : ℕ) → p + n ≤ length l → length (bytes_at l p n) ≡ n
unfolding bytes_at
part_length l p n h = simp (length-take, length-drop) (omega arith)

pub part_at : (l : List ℕ) (p n i : ℕ) → i < n → get_or (bytes_at l p n) i 0 ≡ get_or l (p + i) 0
unfolding bytes_at
part_at l p n i h = rw (get_or-take, get_or-drop)

-- in a stream's payload, by the byte that the code read
module _ (s : List ℕ) (p n : ℕ) where
  pub name-length : p + n ≤ room s → length (bytes_at (payload s) p n) ≡ n
  name-length h = part_length (payload s) p n (omega (arith, payload-length s))

  pub name-at : {i x : ℕ} → i < n → x ≡ get_or (rest s 0) (p + i) 0 → x ≡ get_or (bytes_at (payload s) p n) i 0
  unfolding rest
  name-at {i} h e = e ∙ sym (part_at (payload s) p n i h)
