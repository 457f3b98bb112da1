-- What a search asks for, by numbers: the tag, and which option or what the points or the path are for, 0 for the others.
use Rattle.std.specs.Prelude.{ℕ}
use Rattle.records.specs.declared.search.Wanted.{Wanted}
use Rattle.records.specs.declared.search.Wanted.TheVariants.{Option, Feature, Variable, Place, Item, Points, Path}
use Rattle.records.specs.Inner.Numbers.{sheet_option_of, role_of}

abbrev pub wanted_tag : Wanted → ℕ
wanted_tag (Option o) = 2
wanted_tag Feature = 3
wanted_tag Variable = 4
wanted_tag Place = 5
wanted_tag Item = 6
wanted_tag (Points r) = 7
wanted_tag (Path r) = 8

abbrev pub wanted_key : Wanted → ℕ
wanted_key (Option o) = sheet_option_of o
wanted_key Feature = 0
wanted_key Variable = 0
wanted_key Place = 0
wanted_key Item = 0
wanted_key (Points r) = role_of r
wanted_key (Path r) = role_of r
