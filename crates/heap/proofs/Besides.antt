-- What the heap has no part in, over several writes. Assumes nothing.
use Rattle.std.proofs.Common.{List, refl, ◌∙◌}
use Rattle.places.specs.declared.place.Place.{Place}
use Rattle.places.specs.Columns.{BesideHeap}

pub beside_none : {K : Type 0} (t : List (Place K)) → BesideHeap t t
beside_none t = record { records = refl; index = refl; hint = refl }

pub beside_more : {K : Type 0} {t u v : List (Place K)} → BesideHeap t u → BesideHeap u v → BesideHeap t v
beside_more a b = record { records = b.records ∙ a.records; index = b.index ∙ a.index; hint = b.hint ∙ a.hint }
