-- The numbers of document 01's layout that the code names by enums.
use Rattle.std.specs.Prelude.{ℕ}
use Rattle.records.specs.declared.numbers.Tag.{Tag}
use Rattle.records.specs.declared.numbers.Tag.TheVariants as tag
use Rattle.records.specs.declared.numbers.SheetOption.{SheetOption}
use Rattle.records.specs.declared.numbers.SheetOption.TheVariants.{Frame, Anchor, Scale, Bearing, Flatten, ViewScale, Step}
use Rattle.records.specs.declared.numbers.PointsRole.{PointsRole}
use Rattle.records.specs.declared.numbers.PointsRole.TheVariants.{Drawn, Fill}
use Rattle.records.specs.declared.numbers.Kind.{Kind}
use Rattle.records.specs.declared.numbers.Kind.TheVariants.{Box, Circle, Ellipse, Arc, Line, Arrow, Spline, Text, Dot, Brace, Block}
use Rattle.records.specs.declared.numbers.Form.{Form}
use Rattle.records.specs.declared.numbers.Form.TheVariants.{Cubics, Polyline}

abbrev pub tag_number : Tag → ℕ
tag_number tag.End = 0
tag_number tag.Rescale = 1
tag_number tag.Option = 2
tag_number tag.Feature = 3
tag_number tag.Variable = 4
tag_number tag.Place = 5
tag_number tag.Item = 6
tag_number tag.Points = 7
tag_number tag.Path = 8

abbrev pub sheet_option_of : SheetOption → ℕ
sheet_option_of Frame = 1
sheet_option_of Anchor = 2
sheet_option_of Scale = 3
sheet_option_of Bearing = 4
sheet_option_of Flatten = 5
sheet_option_of ViewScale = 6
sheet_option_of Step = 7

abbrev pub role_of : PointsRole → ℕ
role_of Drawn = 0
role_of Fill = 1

abbrev pub kind_of : Kind → ℕ
kind_of Box = 0
kind_of Circle = 1
kind_of Ellipse = 2
kind_of Arc = 3
kind_of Line = 4
kind_of Arrow = 5
kind_of Spline = 6
kind_of Text = 7
kind_of Dot = 8
kind_of Brace = 9
kind_of Block = 10

abbrev pub form_of : Form → ℕ
form_of Cubics = 0
form_of Polyline = 1
