-- Warnings as they are written into a lent slice, two numbers each, up to the first that lacks room.
use Rattle.std.specs.Prelude.{ℕ, ◌+◌, Bool, true, false, ◌&&◌, List, [], ◌∷◌, length, leb, Result, Ok, Err}
use Rattle.values.specs.declared.warning.NoRoom.{NoRoom}
use Rattle.values.specs.Slices.{put}
use Rattle.values.specs.Warnings.{Warning}

-- how far a slice is used, in numbers, and whether everything fitted
pub record WarningCursor : Type 0 where
  pub ok : Bool
  pub used : ℕ

abbrev pub cursor_by : Result ℕ NoRoom → WarningCursor
cursor_by (Ok n) = record { ok = true; used = n }
cursor_by (Err e) = record { ok = false; used = e.used }

-- the slice, and how far it is used
pub record WarningSlice : Type 0 where
  pub out : List ℕ
  pub cursor : WarningCursor

abbrev pub pick_slice : Bool → WarningSlice → WarningSlice → WarningSlice
pick_slice true a b = a
pick_slice false a b = b

unfoldable pub pushed : Warning → WarningSlice → WarningSlice
pushed w t =
    let n = t.cursor.used in
    pick_slice (t.cursor.ok && leb (n + 2) (length t.out))
    (record { out = put t.out n (w.kind ∷ w.index ∷ []); cursor = record { ok = true; used = n + 2 } })
    (record { out = t.out; cursor = record { ok = false; used = n } })

-- one after the other
unfoldable pub all_pushed : List Warning → WarningSlice → WarningSlice
all_pushed [] t = t
all_pushed (w ∷ ws) t = all_pushed ws (pushed w t)
