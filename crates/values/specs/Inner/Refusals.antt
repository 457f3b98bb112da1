-- Refusals and kinds of warnings by the numbers that a host is given; 0 is no refusal.
use Rattle.std.specs.Prelude.{ℕ, Result, Ok, Err}
use Rattle.values.specs.declared.refusal.Refusal.{Refusal}
use Rattle.values.specs.declared.refusal.Refusal.TheVariants.{Size, Check, Layout, Limit, Flatten, Rescale, Frame, Outside, TooMany, NoAnchor, Degenerate, Scale, ViewScale, MaxScale, WorkRoom, PositionRoom, FeatureRoom, WarningRoom, Step, KindTable}
use Rattle.values.specs.declared.warning.WarningKind.{WarningKind}
use Rattle.values.specs.declared.warning.WarningKind.TheVariants as warning

abbrev pub number_of : Refusal → ℕ
number_of Size = 1
number_of Check = 2
number_of Layout = 3
number_of Limit = 4
number_of Flatten = 5
number_of Rescale = 6
number_of Frame = 7
number_of Outside = 8
number_of TooMany = 9
number_of NoAnchor = 10
number_of Degenerate = 11
number_of Scale = 12
number_of ViewScale = 13
number_of MaxScale = 14
number_of WorkRoom = 15
number_of PositionRoom = 16
number_of FeatureRoom = 17
number_of WarningRoom = 18
number_of Step = 19
number_of KindTable = 20

-- of an answer, 0 where there is no refusal
abbrev pub number_by : {A : Type 0} → Result A Refusal → ℕ
number_by (Ok x) = 0
number_by (Err r) = number_of r

abbrev pub kind_of : WarningKind → ℕ
kind_of warning.ViewScale = 1
kind_of warning.Unresolved = 2
kind_of warning.Overridden = 3
kind_of warning.Ignored = 4
kind_of warning.MissingGeometry = 5
kind_of warning.AllowanceSpent = 6
