-- Day frames: 05, two counts of four bytes and three readings of two, high byte first. Assumes nothing.
use Rattle.std.specs.Prelude.{◌≡◌, ℕ, ◌^◌, ◌<◌, cond, List, [], ◌∷◌, ◌++◌, length, Ok, Err, Result, ◌==◌}
use Rattle.refusals.specs.declared.Refusal.{Refusal}
use Rattle.refusals.specs.declared.Refusal.TheVariants.{NoByte, Kind, Length}
use Rattle.keys.specs.Bytes.{four, from_four, Octets}
use Rattle.frames.specs.Signed.{reading_bytes, reading_at, Reading}
use Rattle.day_frame.specs.declared.Summary.{Summary}

abbrev pub frame_of : Summary → List ℕ
frame_of s = 5 ∷ four s.live ++ four s.adds ++ reading_bytes s.first ++ reading_bytes s.second ++ reading_bytes s.third

abbrev pub summary_of : List ℕ → Summary
summary_of bs = record { live = from_four bs 1; adds = from_four bs 5; first = reading_at bs 9; second = reading_at bs 11; third = reading_at bs 13 }

abbrev pub read_of : List ℕ → Result Summary Refusal
read_of [] = Err NoByte
read_of (kind ∷ bs) = cond (kind == 5) (cond (length (kind ∷ bs) == 15) (Ok (summary_of (kind ∷ bs))) (Err Length)) (Err Kind)

-- a summary of numbers that their bytes hold
pub record Within (s : Summary) : Type 0 where
  pub live : s.live < 2 ^ 32
  pub adds : s.adds < 2 ^ 32
  pub first : Reading s.first
  pub second : Reading s.second
  pub third : Reading s.third

-- one summary is one frame: what was written is read as it was, and what was read is written as it was
pub record OneDayFrame : Type 0 where
  pub read_back : (s : Summary) → Within s → read_of (frame_of s) ≡ Ok s
  pub written_back : (bs : List ℕ) (s : Summary) → Octets bs → read_of bs ≡ Ok s → frame_of s ≡ bs
