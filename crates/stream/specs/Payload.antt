-- The payload of a stream, or of a part of it that starts at a block: what its blocks hold, joined.
use Rattle.std.specs.Prelude.{ℕ, zero, suc, ◌/◌, List, [], ◌++◌, length, take, drop}

-- the first 508 bytes of each of the first n blocks
unfoldable pub payloads : ℕ → List ℕ → List ℕ
payloads zero s = []
payloads (suc n) s = take 508 s ++ payloads n (drop 512 s)

unfoldable pub payload : List ℕ → List ℕ
payload s = payloads (length s / 512) s
