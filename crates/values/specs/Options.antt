-- Values that may be absent.
use Rattle.std.specs.Prelude.{Bool, true, false, Option, Some, None}

-- what may be absent, by its mark
abbrev pub given : {A : Type 0} → Bool → A → Option A
given true x = Some x
given false x = None
