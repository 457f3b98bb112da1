use Rattle.std.proofs.Common.{List, ℕ, arith}
use Rattle.stream.specs.Payload.{payload}
use Rattle.stream.specs.Laws.Payload.{payload-length}
use Rattle.names.specs.Inner.Table.{NameQuery, NewName}
use Rattle.names.proofs.Halves.{shifted, insert_gap}
use Rattle.names.proofs.table.insert.Goals as goal

-- the name lies within, and eight bytes behind it
query : (s : List ℕ) (more p n : ℕ) → NewName more (payload s) p n → NameQuery s p n more
query s more p n h = record { fits = omega (arith, h.stands.fits, h.counted, payload-length s); short = h.short }

pub find_near-requires : goal.find_near-requires
find_near-requires c = let o = c.requires in (query _ _ _ _ o.0, o.2, λ h. omega (arith, c.saturating_sub.ensures))

pub returns-in-Err : goal.returns-in-Err
returns-in-Err c =
    let o = c.requires in
    let e = c.copy_within.ensures in
    insert_gap _ _ _ _ _ _ o.0 o.1 o.2 _ c.in-Err.ensures _ (shifted _ _ _ _ e.len e.by_index.0 e.by_index.1)
