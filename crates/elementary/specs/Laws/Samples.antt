-- The definitions run on known values: patterns of arguments and of what the recipes give, worked out beside them by a
-- program in Rust (tests/standins.rs).
use Rattle.std.specs.Prelude.{ℕ, Bool, true, ◌&&◌, T, List, [], ◌∷◌, ◌==◌, Float}
use Rattle.std.specs.Float.{binary64}
use Rattle.std.specs.Float.Ieee.{add, sub, mul, div, rem, neg, lt, eq, is_nan, of_int, of_bits, to_bits}
use Rattle.float.specs.Functions.{abs_of, min_of, trunc_of, round_of}
use Rattle.root.specs.Root.{root_of}
use Rattle.elementary.specs.Series.{odd_of, even_of, sine_table, cosine_table, logarithm_table, exponential_table, arctangent_table}
use Rattle.elementary.specs.Functions.{to_radians_of, to_degrees_of, hypot_of, sin_of, cos_of, tan_of, ln_of, exp_of, atan_of, atan2_of, acos_of}

infixl 20 ◌⇝◌
-- an argument and an answer
data Pair : Type 0 where
  ◌⇝◌ : ℕ → ℕ → Pair

abbrev agree : (Float → Float) → List Pair → Bool
agree f [] = true
agree f ((x ⇝ y) ∷ ps) = to_bits binary64 (f (of_bits binary64 x)) == y && agree f ps

-- with a second argument
abbrev at : (Float → Float → Float) → ℕ → Float → Float
at f x y = f y (of_bits binary64 x)

samples : T (
    agree sin_of ((0x3ff0000000000000 ⇝ 0x3feaed548f090cee) ∷ (0xc004000000000000 ⇝ 0xbfe326af0dcfcab0) ∷ (0x4059000000000000 ⇝ 0xbfe03425b78c4d9a) ∷ (0x4018000000000000 ⇝ 0xbfd1e1f18ab0a2bc) ∷ [])
    && agree cos_of ((0x3ff0000000000000 ⇝ 0x3fe14a280fb5068c) ∷ (0xc004000000000000 ⇝ 0xbfe9a2f7ef858b7e) ∷ (0x3ff921fb54442d18 ⇝ 0x8000000000000000) ∷ (0x4010000000000000 ⇝ 0xbfe4eaa606db24c0) ∷ [])
    && agree tan_of ((0x3ff0000000000000 ⇝ 0x3ff8eb245cbee3a5) ∷ [])
    && agree ln_of ((0x4024000000000000 ⇝ 0x40026bb1bbb55515) ∷ (0x1 ⇝ 0xc0874385446d71c3) ∷ (0x3fd3333333333333 ⇝ 0xbff34378fcbda720) ∷ (0x7e4ddd4baa009303 ⇝ 0x40859d88d834b7ed) ∷ (0x8000000000000000 ⇝ 0xfff0000000000000) ∷ [])
    && agree exp_of ((0x3ff0000000000000 ⇝ 0x4005bf0a8b14576a) ∷ (0xbfb999999999999a ⇝ 0x3fecf46d99d52b3a) ∷ (0xc1cdcd6500000000 ⇝ 0x00d14f2b0fb92f8c) ∷ (0x3fd62e42fefa39ef ⇝ 0x3ff6a09e667f3bcc) ∷ [])
    && agree atan_of ((0x3fe0000000000000 ⇝ 0x3fddac670561bb4f) ∷ (0x4037333333333333 ⇝ 0x3ff8718a0c21772b) ∷ (0xbff0000000000000 ⇝ 0xbfe921fb54442d19) ∷ (0x8000000000000000 ⇝ 0x8000000000000000) ∷ (0x7ff0000000000000 ⇝ 0x3ff921fb54442d18) ∷ [])
    && agree (at atan2_of 0xc000000000000000) ((0x3ff0000000000000 ⇝ 0x40056c6e7397f5ae) ∷ [])
    && agree (at atan2_of 0) ((0xbff0000000000000 ⇝ 0xbff921fb54442d18) ∷ (0 ⇝ 0x3ff921fb54442d18) ∷ [])
    && agree acos_of ((0x3fd3333333333333 ⇝ 0x3ff441f5ecbeef59) ∷ (0xbff0000000000000 ⇝ 0x400921fb54442d18) ∷ [])
    && agree to_radians_of ((0x405543d70a3d70a4 ⇝ 0x3ff7c0d3e0897ab8) ∷ [])
    && agree to_degrees_of ((0x3ff8000000000000 ⇝ 0x40557c6513cad17a) ∷ [])
    && agree (at hypot_of 0x3fe6666666666666) ((0x3fb999999999999a ⇝ 0x3fe6a09e667f3bcc) ∷ [])
    )
unfolding to_radians_of to_degrees_of hypot_of sin_of cos_of tan_of ln_of exp_of atan_of atan2_of acos_of odd_of even_of sine_table cosine_table logarithm_table exponential_table arctangent_table abs_of min_of trunc_of round_of root_of add sub mul div rem neg lt eq is_nan of_int of_bits to_bits
samples = tt
