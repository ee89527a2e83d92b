-- The number of each refusal, and of each fault with the values that go with it; 17 is not used. Assumes nothing.
use Rattle.std.specs.Prelude.{ℕ, Some, None, Option}
use Rattle.refusals.specs.declared.Refusal.{Refusal}
use Rattle.refusals.specs.declared.Refusal.TheVariants.{Digits, NoByte, Kind, Length, Count, MapBit, Scale, Share, Absent, Depth, Width, ShareRange, Base, Short, Value, Position, Threshold, Buffer, Row, Node, Full}
use Rattle.refusals.specs.declared.Fault.{Fault}
use Rattle.refusals.specs.declared.Fault.TheVariants.{Frame, Sample}

abbrev pub number_of : Refusal → ℕ
number_of Digits = 1
number_of NoByte = 2
number_of Kind = 3
number_of Length = 4
number_of Count = 5
number_of MapBit = 6
number_of Scale = 7
number_of Share = 8
number_of Absent = 9
number_of Depth = 10
number_of Width = 11
number_of ShareRange = 12
number_of Base = 13
number_of Short = 14
number_of Value = 15
number_of Position = 16
number_of Threshold = 18
number_of Buffer = 19
number_of Row = 20
number_of Node = 21
number_of Full = 22

abbrev pub fault_number : Fault → ℕ
fault_number (Frame cause) = number_of cause
fault_number (Sample cause index taken) = number_of cause

-- how many samples were taken, and the index of the refused one; none of a frame that was refused whole
abbrev pub fault_values : Fault → Option (ℕ × ℕ)
fault_values (Frame cause) = None
fault_values (Sample cause index taken) = Some (taken, index)
