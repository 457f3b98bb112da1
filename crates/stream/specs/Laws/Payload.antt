-- The payload: its length, its byte at a position, and the parts that start at a block.
use Rattle.std.specs.Prelude.{◌≡◌, ℕ, zero, suc, ◌+◌, ◌-◌, ◌*◌, ◌/◌, ◌%◌, ◌<◌, ◌≤◌, List, ◌++◌, length, take, drop, slice_index, refl}
use Rattle.std.proofs.Common.{sym, ap, ◌∙◌, le_of_eq, zero-add, suc-add, length-append, length-take, length-drop, get_or-drop, get_or-take, get_or-append-add, drop-drop, length-take-le, take_all}
use Rattle.std.proofs.Math.Decide.{dec_lt}
use native.Mathlib.Omega.{arith}
use Rattle.std.proofs.Math.ListN.{get_or-append, get_or-eq_default}
use Rattle.std.proofs.Math.Seq.{drop-append-add}
use Rattle.stream.specs.Laws.Numbers.{Bytes}
use Rattle.stream.specs.Payload.{payloads, payload}
use Rattle.stream.specs.Inner.Payload.{room, stream_offset, rest, part_from}

-- ---- the first n blocks
payloads-length : (n : ℕ) (s : List ℕ) → 512 * n ≤ length s → length (payloads n s) ≡ 508 * n
unfolding payloads
payloads-length zero s h = refl
payloads-length (suc n) s h =
    let r : 512 * n ≤ length (drop 512 s) = simp length-drop (omega arith) in
    simp (length-append, length-take, payloads-length n (drop 512 s) r) (omega arith)

in_first : (p : ℕ) → p < 508 → p ≡ stream_offset p
in_first p l = omega arith

in_later : (p : ℕ) → (p < 508 → ⊥) → 512 + stream_offset (p - 508) ≡ stream_offset p
in_later p l = omega arith

past : (p m : ℕ) → m ≡ 508 → (p < 508 → ⊥) → p ≡ m + (p - 508)
past p m e l = omega arith

payloads-at : (n : ℕ) (s : List ℕ) (p : ℕ) → 512 * n ≤ length s → p < 508 * n → slice_index (payloads n s) p ≡ slice_index s (stream_offset p)
unfolding payloads
payloads-at zero s p h q = absurd (omega arith)
payloads-at (suc n) s p h q =
    let long : length (take 508 s) ≡ 508 = length-take-le 508 s (omega arith) in
    let more : 512 * n ≤ length (drop 512 s) = simp length-drop (omega arith) in
    elim (dec_lt p 508) [
      | yes l ↦
          get_or-append (take 508 s) (payloads n (drop 512 s)) 0 p (omega arith)
          ∙ get_or-take 508 s p 0 l
          ∙ ap (λ (k : ℕ). slice_index s k) (in_first p l)
      | no l ↦
          ap (λ (k : ℕ). slice_index (take 508 s ++ payloads n (drop 512 s)) k) (past p (length (take 508 s)) long l)
          ∙ get_or-append-add (take 508 s) (payloads n (drop 512 s)) (p - 508) 0
          ∙ payloads-at n (drop 512 s) (p - 508) more (omega arith)
          ∙ get_or-drop 512 s (stream_offset (p - 508)) 0
          ∙ ap (λ (k : ℕ). slice_index s k) (in_later p l)
    ]

payloads-drop : (k n : ℕ) (s : List ℕ) → 512 * (k + n) ≤ length s → drop (508 * k) (payloads (k + n) s) ≡ payloads n (drop (512 * k) s)
unfolding payloads
payloads-drop zero n s h = rw zero-add refl
payloads-drop (suc k) n s h =
    let long : length (take 508 s) ≡ 508 = length-take-le 508 s (omega arith) in
    let r : 512 * (k + n) ≤ length (drop 512 s) = simp length-drop (omega arith) in
    let e : 508 * suc k ≡ length (take 508 s) + 508 * k = omega (arith, long) in
    let f : 512 + 512 * k ≡ 512 * suc k = omega arith in
    rw (suc-add, e, drop-append-add) (payloads-drop k n (drop 512 s) r ∙ ap (payloads n) (drop-drop (512 * k) 512 s ∙ ap (λ (m : ℕ). drop m s) f))

-- ---- a stream, or a part
pub payload-length : (s : List ℕ) → length (payload s) ≡ room s
unfolding payload
payload-length s = payloads-length (length s / 512) s (omega arith)

pub payload-at : (s : List ℕ) (p : ℕ) → p < room s → slice_index (payload s) p ≡ slice_index s (stream_offset p)
unfolding payload
payload-at s p h = payloads-at (length s / 512) s p (omega arith) (omega arith)

pub payload-drop : (s : List ℕ) (k : ℕ) → 512 * k ≤ length s → payload (drop (512 * k) s) ≡ drop (508 * k) (payload s)
unfolding payload
payload-drop s k h =
    let n = (length s - 512 * k) / 512 in
    let e : length s / 512 ≡ k + n = omega arith in
    rw (length-drop, e) (sym (payloads-drop k n s (omega arith)))

-- what is left from a position on
pub left_length : (s : List ℕ) (p : ℕ) → length (drop p (payload s)) ≡ room s - p
left_length s p = simp (length-drop, payload-length)

pub rest-length : (s : List ℕ) (off : ℕ) → length (rest s off) ≡ room s - off
unfolding rest
rest-length s off = left_length s off

pub within : (s : List ℕ) (off i w : ℕ) → off ≤ room s → i + w ≤ length (rest s off) → off + i + w ≤ room s
within s off i w h k = omega (arith, rest-length s off)

pub bytes-payload : (s : List ℕ) → Bytes s → Bytes (payload s)
bytes-payload s b i =
    elim (dec_lt i (room s)) [
      | yes l ↦ rw (payload-at s i l) (b (stream_offset i))
      | no l ↦ rw (get_or-eq_default (payload s) 0 {n = i} (omega (arith, payload-length s))) (omega arith)
    ]

-- a slice's part from k on, as the code takes it
pub tail-whole : (s : List ℕ) (k : ℕ) → take (length s - k) (drop k s) ≡ drop k s
tail-whole s k = take_all (length s - k) (drop k s) (le_of_eq (length-drop k s))

-- position p, in the part that starts at its block
module _ (s : List ℕ) (p : ℕ) (h : p ≤ room s) {part : List ℕ} (e : part ≡ part_from s p) where
  pub part_at : rest part (p % 508) ≡ drop p (payload s)
  unfolding rest
  part_at =
      let whole : 508 * (p / 508) + p % 508 ≡ p = omega arith in
      rw (e, payload-drop s (p / 508) (omega arith), drop-drop) (ap (λ (k : ℕ). drop k (payload s)) whole)

  pub part_room : p % 508 ≤ room part
  part_room = rw (e, length-drop) (omega arith)
