-- Contents and frames of keys, there and back. Assumes nothing.
use Rattle.std.proofs.Common.{◌≡◌, ℕ, zero, suc, ◌+◌, ◌*◌, ◌≤◌, true, List, [], ◌∷◌, length, take, drop, Ok, Err, Result, sym, refl, ap, ◌∙◌, suc-mul, zero-mul, arith}
use Rattle.std.proofs.ByRecursion.{All-append, All-take, All-drop}
use Rattle.std.proofs.lemmas.List.{drop_all, drop-drop, drop_at, take_at, take-append-drop, length-append, length-drop, length-take-le}
use Rattle.std.proofs.lemmas.Grind.{common_steps}
use Rattle.std.proofs.lemmas.Bool.Decides.{nat_tests}
use Rattle.std.specs.List.{flat_map, AllByRecursion}
use Rattle.refusals.specs.declared.Refusal.{Refusal}
use Rattle.keys.specs.Bytes.{Octets}
use Rattle.frames.specs.declared.head.Change.{Change}
use Rattle.frames.specs.declared.head.Allowed.{Allowed}
use Rattle.frames.specs.Heads.{allows, head_of}
use Rattle.frames.specs.Keys.{keys_at, listed, keys_of}
use Rattle.frame_laws.specs.Keys.{keys_frame, Listing, OneKeysFrame}
use Rattle.frame_laws.proofs.Heads.{Head, head_accepted, head_given, head_back, kind_small}

module _ {K : Type 0} (size : ℕ) (bytes : K → List ℕ) (key : List ℕ → K)
    (long : (x : K) → length (bytes x) ≡ size)
    (back : (x : K) → key (bytes x) ≡ x)
    (forth : (bs : List ℕ) → length bs ≡ size → Octets bs → bytes (key bs) ≡ bs) where
  length_keys : (bs : List ℕ) (k at : ℕ) → length (keys_at size key bs k at) ≡ k
  length_keys bs zero at = refl
  length_keys bs (suc k) at = ap suc (length_keys bs k (at + size))

  length_bytes : (ks : List K) → length (flat_map bytes ks) ≡ length ks * size
  length_bytes [] = sym (zero-mul size)
  length_bytes (x ∷ ks) = grind (arith, length-append, long x, length_bytes ks, suc-mul (length ks) size)

  -- the bytes of keys that were read are those bytes
  bytes_keys : (bs : List ℕ) → Octets bs → (k at : ℕ) → at + k * size ≡ length bs → flat_map bytes (keys_at size key bs k at) ≡ drop at bs
  bytes_keys bs o zero at h = sym (drop_all at bs (omega (arith, zero-mul size)))
  bytes_keys bs o (suc k) at h =
      let m = suc-mul k size in
      let cut = take size (drop at bs) in
      let here : bytes (key cut) ≡ cut = forth cut (length-take-le size (drop at bs) (omega (arith, length-drop at bs))) (All-take _ size (drop at bs) (All-drop _ at bs o)) in
      let after = bytes_keys bs o k (at + size) (omega arith) in
      let whole = take-append-drop size (drop at bs) in
      let on = drop-drop size at bs in
      grind arith

  -- keys whose bytes are there are read as they are
  keys_are : (bs : List ℕ) (ks : List K) (at : ℕ) → drop at bs ≡ flat_map bytes ks → keys_at size key bs (length ks) at ≡ ks
  keys_are bs [] at h = refl
  keys_are bs (x ∷ ks) at h =
      let cut = take_at (bytes x) (flat_map bytes ks) size (long x) in
      let on = drop_at (bytes x) (flat_map bytes ks) size (long x) in
      let after = keys_are bs ks (at + size) (grind (arith, common_steps)) in
      let same = back x in
      grind arith

  -- what an accepted frame says
  record Accepted (a : Allowed) (bs : List ℕ) (c : Change) (ks : List K) : Type 0 where
    head : Head a 3 40 bs c (length ks)
    whole : length bs ≡ 2 + length ks * size
    are : keys_at size key bs (length ks) 2 ≡ ks

  accepts : (a : Allowed) (bs : List ℕ) (c : Change) (ks : List K) (h : Result (Change × ℕ) Refusal) → head_of a 3 40 bs ≡ h → listed size key bs h ≡ Ok (c, ks) → Accepted a bs c ks
  accepts a bs c ks (Err e) is h = absurd (cc)
  accepts a bs c ks (Ok p) is h =
      let long = length_keys bs p.1 2 in
      let n : p.1 ≡ length ks = grind (arith, nat_tests) in
      record {
        head = head_accepted a 3 40 bs c (length ks) (grind (arith, nat_tests));
        whole = grind (arith, nat_tests);
        are = grind (arith, nat_tests);
      }

  pub keys_few : (a : Allowed) (bs : List ℕ) (c : Change) (ks : List K) → keys_of size key a bs ≡ Ok (c, ks) → length ks ≤ 40
  keys_few a bs c ks h = (accepts a bs c ks _ refl h).head.few

  written : (a : Allowed) (bs : List ℕ) (c : Change) (ks : List K) → Octets bs → keys_of size key a bs ≡ Ok (c, ks) → Listing ks × (keys_frame bytes c ks ≡ bs)
  written a bs c ks o h =
      let s = accepts a bs c ks _ refl h in (
        record { some = s.head.some; few = s.head.few },
        head_back a 3 40 bs c (length ks) (flat_map bytes ks) s.head (ap (flat_map bytes) (sym s.are) ∙ bytes_keys bs o (length ks) 2 (sym s.whole)),
      )

  read : (a : Allowed) (c : Change) (ks : List K) → allows a c ≡ true → Listing ks → keys_of size key a (keys_frame bytes c ks) ≡ Ok (c, ks)
  read a c ks ok w =
      let bs = keys_frame bytes c ks in
      let head = head_given a 3 40 (flat_map bytes ks) c (length ks) ok w.some w.few in
      let long = length_bytes ks in
      let are = keys_are bs ks 2 refl in
      grind (arith, nat_tests)

  all_joined : (ks : List K) → AllByRecursion (λ k. Octets (bytes k)) ks → Octets (flat_map bytes ks)
  all_joined [] h = tt
  all_joined (x ∷ ks) h = All-append _ (bytes x) (flat_map bytes ks) h.0 (all_joined ks h.1)

  pub one_keys_frame : OneKeysFrame size bytes key
  one_keys_frame = record {
    read_back = read;
    octets = λ c ks w h. (kind_small 3 c (omega arith), (omega (arith, w.few), all_joined ks h));
    written_back = written;
    same = λ a b bs ds c ks o p h k. sym (written a bs c ks o h).1 ∙ (written b ds c ks p k).1;
  }
