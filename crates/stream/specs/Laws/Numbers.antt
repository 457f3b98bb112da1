-- Numbers in what is left of a list, how large they are in a list of bytes, and floats that were read.
use Rattle.std.specs.Prelude.{◌≡◌, ℕ, ◌+◌, ◌<◌, List, drop, from_bits, slice_index, Option, Float}
use Rattle.std.proofs.Common.{ap, ◌∙◌, add_assoc, arith, get_or-drop}
use Rattle.std.specs.Float.{binary64}
use Rattle.stream.specs.Numbers.{u16_at, u32_at, u64_at, float_of, float_at}

-- ---- behind the first k
pub u16_drop : (k : ℕ) (l : List ℕ) (i : ℕ) → u16_at (drop k l) i ≡ u16_at l (k + i)
unfolding u16_at
u16_drop k l i = simp (get_or-drop, add_assoc)

pub u32_drop : (k : ℕ) (l : List ℕ) (i : ℕ) → u32_at (drop k l) i ≡ u32_at l (k + i)
unfolding u32_at
u32_drop k l i = simp (u16_drop, add_assoc)

pub u64_drop : (k : ℕ) (l : List ℕ) (i : ℕ) → u64_at (drop k l) i ≡ u64_at l (k + i)
unfolding u64_at
u64_drop k l i = simp (u32_drop, add_assoc)

pub float-drop : (k : ℕ) (l : List ℕ) (i : ℕ) → float_at (drop k l) i ≡ float_at l (k + i)
unfolding float_at
float-drop k l i = rw u64_drop

-- ---- in a list of bytes
abbrev pub Bytes : List ℕ → Type 0
Bytes l = (i : ℕ) → slice_index l i < 256

pub u16_less : (l : List ℕ) → Bytes l → (i : ℕ) → u16_at l i < 65536
unfolding u16_at
u16_less l b i = omega (arith, b i, b (i + 1))

pub u32_less : (l : List ℕ) → Bytes l → (i : ℕ) → u32_at l i < 4294967296
unfolding u32_at
u32_less l b i = omega (arith, u16_less l b i, u16_less l b (i + 2))

-- ---- floats
-- a float, by its bits
pub float_read : (l : List ℕ) (p : ℕ) {b : ℕ} {f : Option Float} → b ≡ u64_at l p → f ≡ float_of (from_bits binary64 b) → f ≡ float_at l p
unfolding float_at
float_read l p e g = g ∙ ap (λ (n : ℕ). float_of (from_bits binary64 n)) e
