-- How long what a stream holds is, for what is asked within it.
use Rattle.stream.specs.Laws.Payload.{payload-length, rest-length}

pub ruleset lengths = (payload-length, rest-length)
