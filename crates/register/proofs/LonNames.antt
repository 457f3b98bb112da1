-- Names `<L>_lon`, and their parts in a payload.
use mathlib.Core.Path.{◌≡◌, refl, sym, ◌∙◌, ap}
use mathlib.Core.Bool.{true, false, not, ◌&&◌}
use mathlib.Core.List.{List, ◌++◌}
use Prim.Native.Nat.{ℕ, ◌+◌, ◌-◌, ◌≤◌, ◌<◌}
use native.Mathlib.Omega.{arith}
use lib.ListN.{length, take, length-drop, take-append-drop}
use lib.Seq.{take-append_seam, drop-append_seam, take-append-add, length-take-le}
use Rattle.stream.specs.Payload.{payload}
use Rattle.stream.specs.Inner.Payload.{room}
use Rattle.records.specs.Records.{bytes_at}
use Rattle.records.specs.Laws.Tests.{and_left}
use Rattle.scene.specs.Labels.{same_bytes}
use Rattle.scene.specs.Laws.Names.{same_lengths}
use Rattle.scene.specs.Laws.Rising.{same_eq}
use Rattle.register.specs.Register.{geo, suffix_lon, suffix_lat, stem, ending, is_lon}
use Rattle.records.specs.Laws.Names.{name-length}
use Rattle.register.proofs.SuffixNames.{part_split}

-- ---- a name `<L>_lon` in a payload, by its bytes
module _ (s : List ℕ) (p n : ℕ) (h : p + n ≤ room s) where
  -- the last four bytes, and those before them
  split : 4 ≤ n → bytes_at (payload s) p n ≡ bytes_at (payload s) p (n - 4) ++ bytes_at (payload s) (p + (n - 4)) 4
  split g =
      let d : n - 4 + 4 ≡ n = omega arith in
      rw d at (part_split (payload s) p (n - 4) 4)

  front : length (bytes_at (payload s) p (n - 4)) ≡ length (bytes_at (payload s) p n) - 4
  front = omega (arith, name-length s p n h, name-length s p (n - 4) (omega arith))

  pub stem-at : 4 ≤ n → stem (bytes_at (payload s) p n) ≡ bytes_at (payload s) p (n - 4)
  stem-at g = rw (← front, split g) (take-append_seam (bytes_at (payload s) p (n - 4)) _)

  pub ending_at : {k : ℕ} → 4 ≤ n → k ≡ p + (n - 4) → ending (bytes_at (payload s) p n) ≡ bytes_at (payload s) k 4
  ending_at g e = rw (← front, split g, e) (drop-append_seam (bytes_at (payload s) p (n - 4)) _)

  pub too_short : n < 4 → false ≡ is_lon (bytes_at (payload s) p n)
  unfolding is_lon
  too_short g = rw (same_lengths (ending (bytes_at (payload s) p n)) suffix_lon (λ e. omega (arith, name-length s p n h, length-drop (length (bytes_at (payload s) p n) - 4) (bytes_at (payload s) p n)))) refl

  pub lon_by_parts : 4 ≤ n → is_lon (bytes_at (payload s) p n) ≡ (same_bytes (bytes_at (payload s) (p + n - 4) 4) suffix_lon && not (same_bytes (bytes_at (payload s) p (n - 4)) geo))
  unfolding is_lon
  lon_by_parts g = rw (ending_at {k = p + n - 4} g (omega arith), stem-at g) refl

-- ---- a name `<L>_lon` by itself
module _ (name : List ℕ) (h : is_lon name ≡ true) where
  pub lon_ends : ending name ≡ suffix_lon
  unfolding is_lon
  lon_ends = same_eq _ _ (and_left _ _ h)

  pub lon_long : 4 ≤ length name
  lon_long = omega (arith, ap length lon_ends, length-drop (length name - 4) name)

  -- all its bytes but the last two are those of `<L>_lat`
  pub lon_near : take (length name - 2) (stem name ++ suffix_lat) ≡ take (length name - 2) name
  lon_near =
      let d : length name - 2 ≡ length (stem name) + 2 = omega (arith, lon_long, length-take-le (length name - 4) name (omega arith)) in
      let e : stem name ++ suffix_lon ≡ name = ap (λ (x : List ℕ). stem name ++ x) (sym lon_ends) ∙ take-append-drop (length name - 4) name in
      rw d (take-append-add (stem name) suffix_lat 2 ∙ sym (take-append-add (stem name) suffix_lon 2) ∙ ap (take (length (stem name) + 2)) e)
