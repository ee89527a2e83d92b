-- One content is one frame of keys, for every kind of key: the number of bytes that a key takes, its bytes, and the key of
-- such bytes. Assumes nothing.
use Rattle.std.specs.Prelude.{◌≡◌, ℕ, ◌≤◌, true, List, ◌∷◌, length, Ok}
use Rattle.std.specs.List.{flat_map, AllByRecursion}
use Rattle.keys.specs.Bytes.{Octets}
use Rattle.frames.specs.declared.head.Change.{Change}
use Rattle.frames.specs.declared.head.Allowed.{Allowed}
use Rattle.frames.specs.Heads.{kind_of, allows}
use Rattle.frames.specs.Keys.{keys_of}

-- the frame of a content
abbrev pub keys_frame : {K : Type 0} → (K → List ℕ) → Change → List K → List ℕ
keys_frame bytes c ks = kind_of 3 c ∷ length ks ∷ flat_map bytes ks

-- a content within the limits: 1 to 40 keys
pub record Listing {K : Type 0} (ks : List K) : Type 0 where
  pub some : 1 ≤ length ks
  pub few : length ks ≤ 40

-- Every content has a frame (of bytes, if those of its keys are), which is accepted with that content wherever its change is
-- allowed; an accepted frame is the frame of its content; so accepted frames of one content are the same bytes.
pub record OneKeysFrame {K : Type 0} (size : ℕ) (bytes : K → List ℕ) (key : List ℕ → K) : Type 0 where
  pub read_back : (a : Allowed) (c : Change) (ks : List K) → allows a c ≡ true → Listing ks → keys_of size key a (keys_frame bytes c ks) ≡ Ok (c, ks)
  pub octets : (c : Change) (ks : List K) → Listing ks → AllByRecursion (λ k. Octets (bytes k)) ks → Octets (keys_frame bytes c ks)
  pub written_back : (a : Allowed) (bs : List ℕ) (c : Change) (ks : List K) → Octets bs → keys_of size key a bs ≡ Ok (c, ks) → Listing ks × (keys_frame bytes c ks ≡ bs)
  pub same : (a b : Allowed) (bs ds : List ℕ) (c : Change) (ks : List K) → Octets bs → Octets ds → keys_of size key a bs ≡ Ok (c, ks) → keys_of size key b ds ≡ Ok (c, ks) → bs ≡ ds
