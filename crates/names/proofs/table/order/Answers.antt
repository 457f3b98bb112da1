use Rattle.std.specs.Cmp.{nat_cmp_is}
use Rattle.std.specs.Ordering.{nat_cmp}
use Rattle.std.specs.declared.cmp.Ordering.TheVariants.{Less, Equal, Greater}
use Rattle.std.proofs.Common.{refl, ◌≡◌, ℕ, ◌+◌, ◌-◌, ◌*◌, ◌/◌, ◌^◌, ◌≤◌, List, ◌∙◌, arith}
use mathlib.Core.Logic.{inl, inr}
use Rattle.stream.specs.Payload.{payload}
use Rattle.stream.specs.Inner.Payload.{room}
use Rattle.stream.specs.Laws.Numbers.{Bytes}
use Rattle.stream.specs.Laws.Payload.{payload-length, bytes-payload}
use Rattle.names.specs.Inner.Words.{be64_at, word_of, front_of}
use Rattle.names.specs.Inner.Table.{NameFits, NameQuery}
use Rattle.names.proofs.Reading.{Pair, word_decides, word-rest, heads, front_is}
use Rattle.names.proofs.table.order.Goals as goal

compared : {s : List ℕ} {p q n more w y k : ℕ} → Bytes s → NameFits more (payload s) p → NameQuery s q n more → w ≡ front_of (word_of (payload s) q (n + more)) n
    → y ≡ be64_at (payload s) p → k ≡ 8 * (7 - n) → Pair more (payload s) p q n (y / 2 ^ k) w
compared {s} b f h e y k =
    record { bytes = bytes-payload s b; stands = f; fits = omega (arith, h.fits, payload-length s); own = front_is _ y k; sought = e }

-- as many bytes stand behind its length
fits : (s : List ℕ) {p q n more x w : ℕ} → Pair more (payload s) p q n x w → (x ≤ w) × (w ≤ x) → p + 9 + n ≤ room s
fits s pair h = omega (arith, heads pair h.0 h.1, pair.stands.fits, payload-length s)

level : (x w : ℕ) → x ≤ w → w ≤ x → Equal ≡ nat_cmp x w
level x w a b = nat_cmp_is x w Equal (omega arith)

pub word_at-requires : goal.word_at-requires
word_at-requires c = omega (arith, c.requires.0.fits, payload-length c.args.s.now)

pub returns-then-x-w : goal.returns-then-x-w
returns-then-x-w c =
    let pair = compared (λ j. omega (arith, c.type_inv.s j)) c.requires.0 c.requires.1 c.requires.2 c.word_at.ensures c.spare_bits.ensures in
    let less = nat_cmp_is _ _ Less c.if-x-w.true in
    less ∙ word_decides pair (inl (rw (← less) refl))

pub returns-then-w-x : goal.returns-then-w-x
returns-then-w-x c =
    let pair = compared (λ j. omega (arith, c.type_inv.s j)) c.requires.0 c.requires.1 c.requires.2 c.word_at.ensures c.spare_bits.ensures in
    let greater = nat_cmp_is _ _ Greater c.if-w-x.true in
    greater ∙ word_decides pair (inl (rw (← greater) refl))

pub returns-then-n-le7 : goal.returns-then-n-le7
returns-then-n-le7 c =
    let pair = compared (λ j. omega (arith, c.type_inv.s j)) c.requires.0 c.requires.1 c.requires.2 c.word_at.ensures c.spare_bits.ensures in
    level _ _ c.if-w-x.false c.if-x-w.false ∙ word_decides pair (inr c.if-n-le7.true)

pub overflow_add-p : goal.overflow_add-p
overflow_add-p c =
    let pair = compared (λ j. omega (arith, c.type_inv.s j)) c.requires.0 c.requires.1 c.requires.2 c.word_at.ensures c.spare_bits.ensures in
    omega (arith, fits c.args.s.now pair (c.if-w-x.false, c.if-x-w.false))

pub order_bytes-requires : goal.order_bytes-requires
order_bytes-requires c =
    let pair = compared (λ j. omega (arith, c.type_inv.s j)) c.requires.0 c.requires.1 c.requires.2 c.word_at.ensures c.spare_bits.ensures in
    (omega (arith, fits c.args.s.now pair (c.if-w-x.false, c.if-x-w.false)), omega arith)

pub returns : goal.returns
returns c =
    let pair = compared (λ j. omega (arith, c.type_inv.s j)) c.requires.0 c.requires.1 c.requires.2 c.word_at.ensures c.spare_bits.ensures in
    word-rest pair c.if-w-x.false c.if-x-w.false (omega arith) c.order_bytes.ensures
