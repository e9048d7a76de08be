-- What a table of lanes says of a worker: a free tick and the memory in use, both 0 where it has no lane.
use Rattle.std.specs.Prelude.{ℕ, List, Option, Some, None, slice_index_or}
use Rattle.steps.specs.declared.desk.Lane.{Lane}

abbrev pub lane_at : List (Option Lane) → ℕ → Option Lane
lane_at lanes w = slice_index_or lanes w None

abbrev pub free_in : Option Lane → ℕ
free_in None = 0
free_in (Some lane) = lane.free

abbrev pub used_in : Option Lane → ℕ
used_in None = 0
used_in (Some lane) = lane.used
