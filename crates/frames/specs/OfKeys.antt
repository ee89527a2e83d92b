-- The keys that a reader has left. Assumes nothing.
use Rattle.std.specs.Prelude.{◌/◌, List, length}
use Rattle.frames.specs.declared.key_frames.Keys.{Keys}
use Rattle.frames.specs.Keys.{keys_at}

-- k has what the kind of key says of its bytes
abbrev pub left_keys : {K : Type 0} {k : _} → Keys K k → List K
left_keys {k = k} s = keys_at k.BYTES k.key s.rest.now (length s.rest.now / k.BYTES) 0
