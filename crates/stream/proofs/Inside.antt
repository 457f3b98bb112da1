-- Bytes of the payload with no check between them stand side by side in the stream.
use Rattle.std.proofs.Common.{◌≡◌, ℕ, ◌+◌, ◌%◌, ◌<◌, ◌≤◌, List, length, get_or, sym, ap, ◌∙◌, arith, get_or-drop}
use Rattle.stream.specs.Numbers.{u16_at, u32_at, u64_at}
use Rattle.stream.specs.Payload.{payload}
use Rattle.stream.specs.Inner.Payload.{room, stream_offset, rest, IsContiguous}
use Rattle.stream.specs.Laws.Payload.{payload-at, within}

-- q is where byte i of the rest stands
module _ (s : List ℕ) (off : ℕ) (h : off ≤ room s) where
  pub one : (i q : ℕ) → i + 1 ≤ length (rest s off) → q ≡ stream_offset (off + i) → get_or s q 0 ≡ get_or (rest s off) i 0
  unfolding rest
  one i q l e =
      let k : off + i < room s = omega (arith, within s off i 1 h l) in
      ap (λ (j : ℕ). get_or s j 0) e ∙ sym (payload-at s (off + i) k) ∙ sym (get_or-drop off (payload s) i 0)

  pub two : (i q : ℕ) → i + 2 ≤ length (rest s off) → q % 512 + 2 ≤ 508 → q ≡ stream_offset (off + i) → u16_at s q ≡ u16_at (rest s off) i
  unfolding u16_at
  two i q l k e = rw (one i q (omega arith) e, one (i + 1) (q + 1) (omega arith) (omega arith))

  pub four : (i q : ℕ) → i + 4 ≤ length (rest s off) → q % 512 + 4 ≤ 508 → q ≡ stream_offset (off + i) → u32_at s q ≡ u32_at (rest s off) i
  unfolding u32_at
  four i q l k e = rw (two i q (omega arith) (omega arith) e, two (i + 2) (q + 2) (omega arith) (omega arith) (omega arith))

  pub eight : (i q : ℕ) → i + 8 ≤ length (rest s off) → q % 512 + 8 ≤ 508 → q ≡ stream_offset (off + i) → u64_at s q ≡ u64_at (rest s off) i
  unfolding u64_at
  eight i q l k e = rw (four i q (omega arith) (omega arith) e, four (i + 4) (q + 4) (omega arith) (omega arith) (omega arith))

  pub straight : (i n q : ℕ) → i + n ≤ length (rest s off) → q % 512 + n ≤ 508 → q ≡ stream_offset (off + i) → IsContiguous s off i n q
  straight i n q l k e =
      record {
        fits = omega (arith, within s off i n h l);
        same = λ j g. one (i + j) (q + j) (omega arith) (omega arith);
      }
