-- How long what a stream holds is, for the bounds of what is read there, what is read behind the first bytes, and how
-- names are compared.
use Rattle.std.proofs.Common.{get_or-drop}
use Rattle.stream.specs.Laws.Payload.{payload-length, rest-length}
use Rattle.records.specs.Laws.Names.{name-length, name-at}
use Rattle.scene.specs.Laws.Names.{same_lengths, same_common, same_ends, same_step, same_fails}
use Rattle.scene.specs.Laws.Shift.{number_drop, point-drop}

pub ruleset lengths = (payload-length, rest-length)

pub ruleset behind = (lengths, get_or-drop, number_drop, point-drop)

pub ruleset compared = (lengths, name-length, name-at, same_lengths, same_common, same_ends, same_step, same_fails)
